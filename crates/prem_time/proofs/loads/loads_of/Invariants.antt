use Rattle.std.proofs.Common.{◌≡◌, ◌++◌, map, drop}
use Rattle.prem_wcet.specs.TimedOf.{times_in}
use Rattle.prem_time.specs.Told.{loads_told}
use Rattle.prem_time.proofs.loads.loads_of.Given as goal

abbrev pub invariant-loop-i : goal.invariant-loop-i
invariant-loop-i l = l.loads.items ++ loads_told (drop l.i l.tasks) (map times_in (drop l.i l.times)) ≡ loads_told l.tasks (map times_in l.times)
