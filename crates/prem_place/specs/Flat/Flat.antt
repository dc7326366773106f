-- The words of the parts of a task that have code, one behind another.
use Rattle.std.specs.Prelude.{◌≡◌, ℕ, ◌+◌, ◌^◌, ◌≤◌, ⊤, nat_lt, if◌then◌else◌, List, [], ◌∷◌, map, length, Option, None, Some, slice_index}
use Rattle.std.specs.List.{AllByRecursion}
use Rattle.prem_list.specs.declared.Sequence.{Sequence}
use Rattle.prem_list.specs.Sequence.{items_of}
use Rattle.prem_line.specs.declared.failing.Failing.{Failing}
use Rattle.prem_line.specs.declared.failing.Failing.TheVariants.{Refused, OutOfMemory}
use Rattle.prem_isa.specs.Decode.{word_of}
use Rattle.prem_asm.specs.Fit.{PiecesFit}
use Rattle.prem_asm.specs.declared.piece.Piece.{Piece}
use Rattle.prem_asm.specs.Pieces.{Pieces, size_of, code_of, first_far}
use Rattle.prem_asm.specs.PiecesOf.{pieces_of}
use Rattle.prem_place.specs.Content.Blocks.{Words}

abbrev pub listed : List (Sequence Piece) → List Pieces
listed all = map (λ s. pieces_of (items_of s)) all

-- where a part's first jump out of reach stands
abbrev pub far_in : (places : ℕ → ℕ) → ℕ → Pieces → Option ℕ
far_in places part ps = first_far (places part) (code_of places (places part) ps)

abbrev pub part_if : ℕ → Option ℕ → Option ℕ → Option ℕ
part_if part None other = other
part_if part (Some at) other = Some part

-- the first part, from a number on, that has a jump out of reach
abbrev pub far_part : (places : ℕ → ℕ) → ℕ → List Pieces → Option ℕ
far_part places part [] = None
far_part places part (ps ∷ rest) = part_if part (far_in places part ps) (far_part places (part + 1) rest)

-- of two parts the one that starts lower
abbrev pub lower_part : (places : ℕ → ℕ) → Option ℕ → Option ℕ → Option ℕ
lower_part places None other = other
lower_part places (Some a) None = Some a
lower_part places (Some a) (Some b) = if nat_lt (places b) (places a) then Some b else Some a

-- of the parts from a number on that have a jump out of reach, the one that starts lowest
abbrev pub lowest_far : (places : ℕ → ℕ) → ℕ → List Pieces → Option ℕ
lowest_far places part [] = None
lowest_far places part (ps ∷ rest) = lower_part places (part_if part (far_in places part ps) None) (lowest_far places (part + 1) rest)

abbrev pub words_at : (places : ℕ → ℕ) → ℕ → Pieces → Words
words_at places part ps = record { at = places part; words = map word_of (code_of places (places part) ps) }

-- the words of parts, from a number on
abbrev pub words_from : (places : ℕ → ℕ) → ℕ → List Pieces → List Words
words_from places part [] = []
words_from places part (ps ∷ rest) = words_at places part ps ∷ words_from places (part + 1) rest

-- parts end within memory
abbrev pub EndWithin : (places : ℕ → ℕ) → ℕ → List Pieces → Type 0
EndWithin places part [] = ⊤
EndWithin places part (ps ∷ rest) = (places part + size_of ps ≤ 2 ^ 32) × EndWithin places (part + 1) rest

-- the first part is a task's start, behind it stand the functions, then the stubs
pub record AreFit (starts : List ℕ) (first code stubs : List Pieces) : Type 0 where
  pub first_fit : AllByRecursion (PiecesFit (length starts) (slice_index starts)) first
  pub code_fit : AllByRecursion (PiecesFit (length starts) (slice_index starts)) code
  pub stubs_fit : AllByRecursion (PiecesFit (length starts) (slice_index starts)) stubs
  pub first_within : EndWithin (slice_index starts) 0 first
  pub code_within : EndWithin (slice_index starts) 1 code
  pub stubs_within : EndWithin (slice_index starts) (1 + length code) stubs

-- want of memory tells nothing
abbrev pub Blames : Option ℕ → Failing ℕ → Type 0
Blames found (Refused part) = found ≡ Some part
Blames found OutOfMemory = ⊤
