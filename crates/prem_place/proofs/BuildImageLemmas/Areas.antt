-- How many places there are.
use Rattle.std.proofs.Common.{◌≡◌, ℕ, ◌+◌, arith, List, ◌++◌, length, length-append}
use Rattle.prem_plant.specs.declared.plant.Device.{Device}
use Rattle.prem_plant.specs.declared.layout.PartSize.{PartSize}
use Rattle.prem_plant.specs.Places.{Extent, ArePlaces}
use Rattle.prem_layout.specs.Parts.{area_parts}
use Rattle.prem_layout.proofs.TaskParts.{areas_counted}

pub whole_long : (memory line first : ℕ) (parts : List PartSize) (ds : List Device) (whole : List Extent) → length parts ≡ first →
    ArePlaces memory (parts ++ area_parts line 0 ds) whole → length whole ≡ first + length ds
whole_long memory line first parts ds whole long a =
    let count = a.count in
    let l = length-append parts (area_parts line 0 ds) in
    let c = areas_counted line 0 ds in
    omega (arith, long, count, l, c)
