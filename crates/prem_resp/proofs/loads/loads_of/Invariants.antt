use Rattle.std.proofs.Common.{◌≡◌, ◌++◌, drop}
use Rattle.prem_resp.specs.Told.{loads_told}
use Rattle.prem_resp.proofs.loads.loads_of.Given as goal

abbrev pub invariant-loop-i : goal.invariant-loop-i
invariant-loop-i l = l.loads.items ++ loads_told (drop l.i l.tasks) (drop l.i l.jobs) (drop l.i l.longest) ≡ loads_told l.tasks l.jobs l.longest
