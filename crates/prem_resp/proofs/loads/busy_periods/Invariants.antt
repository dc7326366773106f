use Rattle.std.proofs.Common.{◌≡◌, ◌++◌, ◌-◌, length}
use Rattle.prem_resp.specs.Fits.{found_from, found_in}
use Rattle.prem_resp.proofs.loads.busy_periods.Given as goal

abbrev pub invariant-loop-i : goal.invariant-loop-i
invariant-loop-i l = l.found.items ++ found_from l.loads l.i (length l.loads - l.i) ≡ found_in l.loads
