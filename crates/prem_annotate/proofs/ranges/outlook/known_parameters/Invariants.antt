use Rattle.std.proofs.Common.{◌≡◌, ◌++◌, map, drop}
use Rattle.prem_annotate.proofs.Prelude.{env_of, slot_of, with_slots, known_parameter, parameter_of}
use Rattle.prem_annotate.proofs.ranges.outlook.known_parameters.Given as goal

abbrev pub invariant-loop-i : goal.invariant-loop-i
invariant-loop-i l = env_of l.env.items ++ map known_parameter (with_slots (map slot_of (drop l.i l.row)) (map parameter_of (drop l.i l.ps)))
    ≡ map known_parameter (with_slots (map slot_of l.row) (map parameter_of l.ps))
