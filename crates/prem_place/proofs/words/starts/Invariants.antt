use Rattle.std.proofs.Common.{◌≡◌, map, take}
use Rattle.prem_plant.specs.Places.{Extent}
use Rattle.prem_place.proofs.words.starts.Given as goal

abbrev pub invariant-loop-n : goal.invariant-loop-n
invariant-loop-n l = l.starts.items ≡ map (λ (place : Extent). place.0) (take l.n l.t.places.places)
