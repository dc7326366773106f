use Rattle.std.specs.List.{AllByRecursion}
use Rattle.std.proofs.Common.{◌≡◌, ◌++◌, drop}
use Rattle.prem_layout.specs.Parts.{code_parts}
use Rattle.prem_prefetch.specs.Parts.Parts.{sizes_of, IsWordSize}
use Rattle.prem_prefetch.proofs.parts.parts.push_code.Given as goal

abbrev pub invariant-loop-pieces : goal.invariant-loop-pieces
invariant-loop-pieces l =
    record {
      at : l.n ≡ l.pieces-index;
      rest : l.parts.items ++ code_parts l.task l.n (sizes_of (drop l.pieces-index l.code)) ≡ l.initial.parts.items ++ code_parts l.task 0 (sizes_of l.code);
      small : AllByRecursion IsWordSize (sizes_of (drop l.pieces-index l.code));
    }
