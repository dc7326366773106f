use Rattle.std.proofs.Common.{◌≡◌, ◌++◌, map, drop}
use Rattle.prem_list.specs.Sequence.{items_of}
use Rattle.prem_color.specs.Wants.{code_number, whole}
use Rattle.prem_color.proofs.wants.push_code.Given as goal

abbrev pub invariant-loop-f : goal.invariant-loop-f
invariant-loop-f l =
    items_of l.ranges ++ map (λ f. whole l.sizes (code_number l.first f)) (drop l.f-index l.fs) ≡ items_of l.initial.ranges ++ map (λ f. whole l.sizes (code_number l.first f)) l.fs
