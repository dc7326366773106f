-- The bytes of pieces, with the tokens that begin with them.
use Rattle.std.specs.Prelude.{ℕ, List, [], ◌∷◌, ◌++◌, map, None, Some}
use Rattle.prem_annotating.specs.Prelude.{Lexeme, end_of_text, Seen, place_behind}
use Rattle.prem_annotating.specs.Editing.Walk.{Marked}
use Rattle.prem_annotating.specs.Pieces.{Piece, between, a_token}

abbrev pub plain : List ℕ → List Marked
plain bytes = map (λ (b : ℕ). (b, None)) bytes

abbrev pub first_marked : List ℕ → Lexeme → List Marked
first_marked [] t = []
first_marked (b ∷ bytes) t = (b, Some t) ∷ plain bytes

abbrev pub marks_of : List Piece → List Marked
marks_of [] = []
marks_of (between bytes ∷ ps) = plain bytes ++ marks_of ps
marks_of (a_token bytes t ∷ ps) = first_marked bytes t ++ marks_of ps

-- the tokens of pieces behind bytes, with their places, and the end
abbrev pub placed : List ℕ → List Piece → List Seen
placed before [] = (end_of_text, place_behind before) ∷ []
placed before (between bytes ∷ ps) = placed (before ++ bytes) ps
placed before (a_token bytes t ∷ ps) = (t, place_behind before) ∷ placed (before ++ bytes) ps
