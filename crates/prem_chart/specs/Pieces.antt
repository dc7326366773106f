-- Texts of pieces, one behind another.
use Rattle.std.specs.Prelude.{ℕ, ◌==◌, ◌&&◌, nat_le, if◌then◌else◌, List, [], ◌∷◌, ◌++◌, codes, decimal}
use Rattle.std.specs.List.{flat_map}

-- a byte of a name in a text of XML: those that mark up are spelled out, and what is no printed ASCII byte is a question mark
abbrev pub spelled : ℕ → List ℕ
spelled b =
    if b == 38 then codes "&amp;" else if b == 60 then codes "&lt;" else if b == 62 then codes "&gt;" else if b == 34 then codes "&quot;"
    else if nat_le 32 b && nat_le b 126 then b ∷ [] else codes "?"

abbrev pub escaped : List ℕ → List ℕ
escaped bytes = flat_map spelled bytes

-- words as they stand, a number, and a name
pub data Piece : Type 0 where
  words : List ℕ → Piece
  number : ℕ → Piece
  name : List ℕ → Piece

abbrev pub piece_text : Piece → List ℕ
piece_text (words text) = text
piece_text (number n) = decimal n
piece_text (name bytes) = escaped bytes

abbrev pub text_of : List Piece → List ℕ
text_of [] = []
text_of (p ∷ []) = piece_text p
text_of (p ∷ q ∷ more) = piece_text p ++ text_of (q ∷ more)
