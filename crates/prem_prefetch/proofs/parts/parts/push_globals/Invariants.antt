use Rattle.std.specs.List.{AllByRecursion}
use Rattle.std.proofs.Common.{◌≡◌, ◌++◌, map, drop}
use Rattle.prem_syntax.specs.SyntaxOf.{global_of}
use Rattle.prem_layout.specs.Parts.{global_parts}
use Rattle.prem_prefetch.specs.Parts.Parts.{IsShortGlobal}
use Rattle.prem_prefetch.proofs.parts.parts.push_globals.Given as goal

abbrev pub invariant-loop-g : goal.invariant-loop-g
invariant-loop-g l =
    record {
      at : l.n ≡ l.g-index;
      rest : l.parts.items ++ global_parts l.task l.n (map (λ g. global_of g.now) (drop l.g-index l.globals)) ≡ l.initial.parts.items ++ global_parts l.task 0 (map (λ g. global_of g.now) l.globals);
      short : AllByRecursion IsShortGlobal (map (λ g. global_of g.now) (drop l.g-index l.globals));
    }
