-- Ranges that are the same, each once or more often.
use Rattle.std.specs.Prelude.{◌≡◌, Bool, List}
use Rattle.std.specs.List.{list_any}
use Rattle.prem_plant.specs.Places.{Extent}

-- what holds of one of them holds of one of the others
abbrev pub AreSame : List Extent → List Extent → Type 0
AreSame xs ys = (p : Extent → Bool) → list_any p xs ≡ list_any p ys
