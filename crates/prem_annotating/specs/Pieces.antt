-- A text as its pieces, and pieces put in place of others.
use Rattle.std.specs.Prelude.{◌≡◌, ℕ, ◌≤◌, ⊤, ℤ, unsigned_abs, List, [], ◌∷◌, ◌++◌, map, codes, Some}
use Rattle.prem_annotating.specs.Prelude.{RegionText, number_lexeme, constant_lexemes, range_lexemes, regions_lexemes, lexemes_of, lexeme_bytes, unplaced_region, AreRegions, region_tokens}
use Rattle.prem_annotating.specs.Prelude.{region_trees, Lexeme, name, number, word, mark, Seen, Gap, IsToken, Divides, Mark, Kind}
use Rattle.prem_text.specs.Spelling.Spellings.{Spells}
use Rattle.prem_text.specs.declared.lexing.token.token.Mark.TheVariants as m
use Rattle.prem_text.specs.declared.lexing.token.token.Word.TheVariants as w

-- bytes between tokens, or a token
pub data Piece : Type 0 where
  between : (bytes : List ℕ) → Piece
  a_token : (bytes : List ℕ) (t : Lexeme) → Piece

abbrev pub bytes_of : Piece → List ℕ
bytes_of (between bytes) = bytes
bytes_of (a_token bytes t) = bytes

abbrev pub text_of : List Piece → List ℕ
text_of [] = []
text_of (p ∷ ps) = bytes_of p ++ text_of ps

-- the tokens, wherever they stand
abbrev pub lexemes_in : List Piece → List Lexeme
lexemes_in [] = []
lexemes_in (between bytes ∷ ps) = lexemes_in ps
lexemes_in (a_token bytes t ∷ ps) = t ∷ lexemes_in ps

-- each piece is a gap or a token before the text of those behind it
abbrev pub AreDivided : List Piece → Type 0
AreDivided [] = ⊤
AreDivided (between bytes ∷ ps) = Gap bytes (text_of ps) × AreDivided ps
AreDivided (a_token bytes t ∷ ps) = IsToken bytes (text_of ps) t × AreDivided ps

-- ---- what is put in place

abbrev pub blank : Piece
blank = between (codes " ")

-- a token by its canonical bytes
abbrev pub said : Lexeme → Piece
said t = a_token (lexeme_bytes t) t

abbrev pub mark_piece : Mark → Piece
mark_piece k = said (mark k)

-- with `-` before it where it is negative; one past the greatest int has a `u`
abbrev pub constant_pieces : ℤ → List Piece
constant_pieces z = map said (constant_lexemes z)

-- ` RANGE(low, high)`
abbrev pub range_pieces : ℤ × ℤ → List Piece
range_pieces r = blank ∷ said (word w.Range) ∷ mark_piece m.OpenParenthesis ∷ constant_pieces r.0 ++ (mark_piece m.Comma ∷ blank ∷ constant_pieces r.1 ++ mark_piece m.CloseParenthesis ∷ [])

-- ` REGION(g, low, high)`
abbrev pub region_pieces : RegionText → List Piece
region_pieces r =
    blank ∷ said (word w.Region) ∷ mark_piece m.OpenParenthesis ∷ said (name r.name) ∷ mark_piece m.Comma ∷ blank ∷ said (number_lexeme r.low)
    ∷ mark_piece m.Comma ∷ blank ∷ said (number_lexeme r.high) ∷ mark_piece m.CloseParenthesis ∷ []

abbrev pub regions_pieces : List RegionText → List Piece
regions_pieces [] = []
regions_pieces (r ∷ rs) = region_pieces r ++ regions_pieces rs

-- numbers that a literal, with or without `-`, can tell
abbrev pub IsConstant : ℤ → Type 0
IsConstant z = unsigned_abs z ≤ 4294967295

abbrev pub AreRegionWords : List RegionText → Type 0
AreRegionWords [] = ⊤
AreRegionWords (r ∷ rs) = Spells r.name (name r.name) × (r.low ≤ 4294967295) × (r.high ≤ 4294967295) × AreRegionWords rs

-- the tokens of what is put in place are those of the annotation
abbrev pub PiecesSayAnnotations : Type 0
PiecesSayAnnotations = ((r : ℤ × ℤ) → lexemes_in (range_pieces r) ≡ range_lexemes (Some r)) × ((rs : List RegionText) → lexemes_in (regions_pieces rs) ≡ regions_lexemes rs)

-- ---- laws

-- a text divides into tokens as its pieces say, and in no other way
abbrev pub PiecesAreExact : Type 0
PiecesAreExact =
    ((text : List ℕ) (ts : List Seen) → Divides [] text ts [] → (all : List Piece) × (text_of all ≡ text) × AreDivided all × (lexemes_in all ≡ lexemes_of ts))
    × ((all : List Piece) → AreDivided all → (ts : List Seen) × Divides [] (text_of all) ts [] × (lexemes_of ts ≡ lexemes_in all))

-- a RANGE behind a token, as a parameter's name: all other pieces stay
abbrev pub RangeMayBePut : Type 0
RangeMayBePut =
    (front back : List Piece) (bytes : List ℕ) (t : Lexeme) (r : ℤ × ℤ) → IsConstant r.0 → IsConstant r.1 → AreDivided (front ++ (a_token bytes t ∷ back)) →
    AreDivided (front ++ (a_token bytes t ∷ (range_pieces r ++ back)))

-- regions behind a `)`, in place of what stands there: all other pieces stay
abbrev pub RegionsMayBePut : Type 0
RegionsMayBePut =
    (front old back : List Piece) (rs : List RegionText) → AreRegionWords rs → AreDivided (front ++ (mark_piece m.CloseParenthesis ∷ (old ++ back))) →
    AreDivided (front ++ (mark_piece m.CloseParenthesis ∷ (regions_pieces rs ++ back)))

-- gaps alone
abbrev pub AreGaps : List Piece → Type 0
AreGaps [] = ⊤
AreGaps (between bytes ∷ ps) = AreGaps ps
AreGaps (a_token bytes t ∷ ps) = ⊥

-- a literal behind a `(` and gaps in place of another one: all other pieces stay
abbrev pub LengthMayBePut : Type 0
LengthMayBePut =
    (front gaps back : List Piece) (bytes : List ℕ) (old : ℕ) (kind : Kind) (n : ℕ) → n ≤ 4294967295 → AreGaps gaps →
    AreDivided (front ++ (mark_piece m.OpenParenthesis ∷ (gaps ++ (a_token bytes (number old kind) ∷ back)))) →
    AreDivided (front ++ (mark_piece m.OpenParenthesis ∷ (gaps ++ (said (number_lexeme n) ∷ back))))

-- ---- a text with edits

-- no gap stands at the end
abbrev pub EndsInToken : List Piece → Type 0
EndsInToken ps = (front : List Piece) (bytes : List ℕ) → ps ≡ front ++ between bytes ∷ [] → ⊥

-- the pieces of regions, up to the last one's `)`, that are others than those that are wanted; no piece where there is none
pub record AreOtherRegions (old : List Piece) (rs : List RegionText) : Type 0 where
  pub rows : List (List Seen)
  pub right : AreRegions rows
  pub lexemes : lexemes_in old ≡ lexemes_of (region_tokens rows)
  pub ends : EndsInToken old
  pub differ : map unplaced_region (region_trees rows) ≡ map unplaced_region rs → ⊥

-- pieces with annotations put in place, each as above and only where it differs, and all others as they are
pub data Edited : List Piece → List Piece → Type 0 where
  all_edited : Edited [] []
  kept_piece : (p : Piece) {ps qs : List Piece} → Edited ps qs → Edited (p ∷ ps) (p ∷ qs)
  with_range : (bytes : List ℕ) (t : Lexeme) (r : ℤ × ℤ) {ps qs : List Piece} → IsConstant r.0 → IsConstant r.1 → Edited ps qs →
      Edited (a_token bytes t ∷ ps) (a_token bytes t ∷ (range_pieces r ++ qs))
  with_regions : (old : List Piece) (rs : List RegionText) {ps qs : List Piece} → AreOtherRegions old rs → AreRegionWords rs → Edited ps qs →
      Edited (mark_piece m.CloseParenthesis ∷ (old ++ ps)) (mark_piece m.CloseParenthesis ∷ (regions_pieces rs ++ qs))
  with_length : (head : List ℕ) (before gaps : List Piece) (bytes : List ℕ) (old : ℕ) (kind : Kind) (n : ℕ) {ps qs : List Piece} → (old ≡ n → ⊥) →
      n ≤ 4294967295 → AreGaps before → AreGaps gaps → Edited ps qs →
      Edited (a_token head (word w.Predictable) ∷ (before ++ (mark_piece m.OpenParenthesis ∷ (gaps ++ (a_token bytes (number old kind) ∷ ps)))))
      (a_token head (word w.Predictable) ∷ (before ++ (mark_piece m.OpenParenthesis ∷ (gaps ++ (said (number_lexeme n) ∷ qs)))))

-- an edited text divides as its pieces say
abbrev pub EditedTextsDivide : Type 0
EditedTextsDivide = (ps qs : List Piece) → Edited ps qs → AreDivided ps → AreDivided qs
