-- Where a distance is told.
use Rattle.std.proofs.Common.{◌≡◌, ◌≤◌, refl, arith, List, [], ◌∷◌, length}
use Rattle.prem_plant.specs.declared.plant.Device.{Device}
use Rattle.prem_gate.specs.declared.request.Request.{Request}
use Rattle.prem_time.specs.declared.words.Distance.{Distance}
use Rattle.prem_time.specs.Asked.{distances_in}
use Rattle.prem_chart.specs.Keeping.{stray_from, stray_in}

pub stray_some : (ds : List Distance) (devices : List Device) (requests : List Request) → 1 ≤ length ds → stray_in (distances_in ds) devices requests ≡ stray_from (distances_in ds) 0 devices requests
stray_some [] devices requests h = absurd (omega (arith, h))
stray_some (d ∷ ds) devices requests h = refl
