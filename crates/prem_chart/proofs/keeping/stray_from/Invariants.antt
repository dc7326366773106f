use Rattle.std.proofs.Common.{◌≡◌, drop}
use Rattle.prem_time.specs.Asked.{distances_in}
use Rattle.prem_chart.specs.Keeping.{stray_from}
use Rattle.prem_chart.proofs.keeping.stray_from.Given as goal

abbrev pub invariant-loop-j : goal.invariant-loop-j
invariant-loop-j l = stray_from (distances_in l.distances) l.j (drop l.j l.devices) l.requests ≡ stray_from (distances_in l.distances) 0 l.devices l.requests
