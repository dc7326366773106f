-- Bars, and the text of one with whose it is and what it tells where one points at it.
use Rattle.std.specs.Prelude.{ℕ, ◌+◌, ◌/◌, ◌%◌, ◌&&◌, nat_le, nat_lt, Bool, true, false, if◌then◌else◌, List, [], ◌∷◌, ◌++◌, codes, decimal}
use Rattle.prem_chart.specs.declared.view.Look.{Look}
use Rattle.prem_chart.specs.declared.view.Look.TheVariants.{Compatible, Predictable, Execution, Idle, Open, Device}
use Rattle.prem_chart.specs.declared.view.Bar.{Bar}
use Rattle.prem_chart.specs.Pieces.{Piece, text_of, words, number, escaped}

-- ---- the rectangle

-- each of eight devices has a colour of its own
unfoldable pub look_class : Look → List ℕ
look_class Compatible = codes "compatible"
look_class Predictable = codes "predictable"
look_class Execution = codes "execution"
look_class Idle = codes "idle"
look_class Open = codes "open"
look_class (Device k) = codes "d" ++ decimal (k % 8)

-- bars that are wide enough have a white edge
abbrev pub wide_class : ℕ → List ℕ
wide_class width = if nat_le 30 width then codes " wide" else []

abbrev pub rect_pieces : Bar → List Piece
rect_pieces b =
    words (codes "\" x=\"") ∷ number b.x ∷ words (codes "\" y=\"") ∷ number b.y ∷ words (codes "\" width=\"") ∷ number b.width ∷ words (codes "\" height=\"") ∷ number b.height
    ∷ words (codes "\"/>") ∷ []

unfoldable pub rect_end : Bar → List ℕ
rect_end b = text_of (rect_pieces b)

unfoldable pub bar_start : Bar → List ℕ
bar_start b = codes "</title><rect class=\"" ++ (look_class b.look ++ wide_class b.width)

unfoldable pub bar_text : Bar → List ℕ
bar_text b = bar_start b ++ rect_end b

-- ---- its number of cycles, where there is room for it

abbrev pub is_numbered : Look → Bool
is_numbered Compatible = true
is_numbered Predictable = false
is_numbered Execution = true
is_numbered Idle = true
is_numbered Open = false
is_numbered (Device k) = false

abbrev pub number_room : ℕ → ℕ
number_room cycles = if nat_lt cycles 100000 then 420 else 700

abbrev pub shows_number : Bar → ℕ → Bool
shows_number b cycles = is_numbered b.look && nat_le (number_room cycles) b.width

abbrev pub number_pieces : Bar → ℕ → List Piece
number_pieces b cycles =
    words (codes "<text class=\"cycles\" x=\"") ∷ number (b.x + b.width / 2) ∷ words (codes "\" y=\"") ∷ number (b.y + b.height / 2 + 42) ∷ words (codes "\">") ∷ number cycles
    ∷ words (codes "</text>") ∷ []

unfoldable pub number_text : Bar → ℕ → List ℕ
number_text b cycles = text_of (number_pieces b cycles)

unfoldable pub number_shown : Bar → ℕ → List ℕ
number_shown b cycles = if shows_number b cycles then number_text b cycles else []

-- ---- a shape

-- a bar of so many cycles, whose it is, and what it tells
pub record Shape : Type 0 where
  pub bar : Bar
  pub cycles : ℕ
  pub owner : List ℕ
  pub told : List ℕ

abbrev pub shape : Bar → ℕ → (owner told : List ℕ) → Shape
shape bar cycles owner told = record { bar = bar; cycles = cycles; owner = owner; told = told }

unfoldable pub owner_text : List ℕ → List ℕ
owner_text owner = codes "<g><title>" ++ escaped owner

unfoldable pub shape_end : List ℕ
shape_end = codes "</g>\n"

abbrev pub shape_text : Shape → List ℕ
shape_text s = owner_text s.owner ++ (s.told ++ (bar_text s.bar ++ (number_shown s.bar s.cycles ++ shape_end)))

-- a cycle, at the end of a title
abbrev pub cycle_pieces : ℕ → List Piece
cycle_pieces cycle = words (codes ", cycle ") ∷ number cycle ∷ words (codes "</title>") ∷ []

unfoldable pub cycle_told : ℕ → List ℕ
cycle_told cycle = text_of (cycle_pieces cycle)

-- so many cycles from this one on
abbrev pub span_pieces : (cycles first : ℕ) → List Piece
span_pieces cycles first = number cycles ∷ words (codes " cycles from ") ∷ number first ∷ []
