use Rattle.std.proofs.Common.{◌≡◌, ◌++◌, map, drop}
use Rattle.prem_list.specs.Sequence.{items_of}
use Rattle.prem_split.specs.PlanOf.{plan_of}
use Rattle.prem_split.specs.PlansWith.{known_of, plans_with, plans_in, marks_of}
use Rattle.prem_split.proofs.plans.intervals_of.Given as goal

-- the plans so far, and those of the functions that are left
abbrev pub invariant-loop-n : goal.invariant-loop-n
invariant-loop-n l =
    map plan_of (items_of l.plans) ++ plans_with (known_of l.r) l.n (marks_of (drop l.n l.fs)) ≡ plans_in l.r
