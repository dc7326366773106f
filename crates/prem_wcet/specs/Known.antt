-- The weights of functions in the order of the text, by their pieces.
use Rattle.std.specs.Prelude.{ℕ, ◌+◌, ◌^◌, ◌<◌, List, [], ◌∷◌, ◌++◌, length, take, get_or}
use Rattle.prem_asm.specs.Pieces.{Pieces, no_pieces, size_of}
use Rattle.prem_layout.specs.Parts.{code_part}
use Rattle.prem_layout.specs.Bounds.{part_weight, weight_at}
use Rattle.prem_layout.specs.Footprint.{TaskPlaces, place_at}
use Rattle.prem_bounds.specs.Told.{Tells}
use Rattle.prem_wcet_laws.specs.Scopes.{Span}
use Rattle.prem_wcet_laws.specs.Weights.{PlaceWeight, weighted_from}

abbrev pub pieces_behind : PlaceWeight → (functions : ℕ) → (places : ℕ → ℕ) → List ℕ → List Pieces → List ℕ
pieces_behind w functions places known [] = known
pieces_behind w functions places known (ps ∷ pss) =
    pieces_behind w functions places (known ++ weighted_from w (part_weight functions (weight_at known) (λ k. 0)) (places (code_part (length known))) ps ∷ []) pss

-- those of the first n functions
abbrev pub known_before : PlaceWeight → (functions : ℕ) → (places : ℕ → ℕ) → List Pieces → ℕ → List ℕ
known_before w functions places pss n = pieces_behind w functions places [] (take n pss)

-- all of them end below 2 ^ 32
abbrev pub EndsWithin : TaskPlaces → List Pieces → Type 0
EndsWithin t pss = (n : ℕ) → n < length pss → (place_at t (1 + n)).0 + size_of (get_or pss n no_pieces) < 2 ^ 32

-- an array tells the weights of the first n
abbrev pub TellsKnown : List ℕ → PlaceWeight → TaskPlaces → List Pieces → ℕ → Type 0
TellsKnown array w t pss n = Tells 256 array (weight_at (known_before w (length pss) (λ part. (place_at t part).0) pss n))

-- such code, whatever it names
abbrev pub bare_span : Pieces → Span
bare_span ps = record { pieces = ps; globals = []; callees = [] }
