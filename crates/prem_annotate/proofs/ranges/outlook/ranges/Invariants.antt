use Rattle.std.proofs.Common.{◌≡◌, ◌++◌, map, drop}
use Rattle.prem_annotate.proofs.Prelude.{slot_of, with_slots, Parameter, parameter_of}
use Rattle.prem_annotate.proofs.ranges.outlook.ranges.Given as goal

abbrev pub invariant-loop-i : goal.invariant-loop-i
invariant-loop-i l = l.all.items ++ map (λ (p : Parameter). p.range) (with_slots (map slot_of (drop l.i l.row)) (map parameter_of (drop l.i l.ps)))
    ≡ map (λ (p : Parameter). p.range) (with_slots (map slot_of l.row) (map parameter_of l.ps))
