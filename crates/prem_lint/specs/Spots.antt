-- Places in files, and how a line of a file is shown.
use Rattle.std.specs.Prelude.{ℕ, ◌-◌, ◌+◌, ◌==◌, nat_le, nat_lt, ◌&&◌, ◌||◌, Bool, if◌then◌else◌, List, [], ◌∷◌, ◌++◌, map, take, drop, codes, decimal}
use Rattle.std.specs.List.{flat_map, prefix_len}
use Rattle.prem_line.specs.Lines.{lines_of}
use Rattle.prem_syntax.specs.Syntax.{Text}
use Rattle.prem_lint.specs.declared.spot.Spot.{Spot}
use Rattle.prem_lint.specs.declared.spot.Spot.TheVariants.{Whole, Line, At}

-- ---- what stands before a diagnostic

abbrev pub spot_text : Spot → List ℕ
spot_text Whole = codes ": "
spot_text (Line line) = codes ":" ++ (decimal line ++ codes ": ")
spot_text (At line col) = codes ":" ++ (decimal line ++ (codes ":" ++ (decimal col ++ codes ": ")))

-- FILE: or FILE:LINE: or FILE:LINE:COLUMN:
unfoldable pub head : Text → Spot → List ℕ
head file spot = file ++ spot_text spot

-- ---- the place of a byte

-- whether a line ends here, as a number
abbrev pub line_end : ℕ → ℕ
line_end b = if b == 10 then 1 else 0

abbrev pub line_ends : List ℕ → ℕ
line_ends [] = 0
line_ends (b ∷ bs) = line_end b + line_ends bs

abbrev pub next_column : ℕ → ℕ → ℕ
next_column col b = if b == 10 then 1 else col + 1

-- that behind bytes of which the first stands in this column
abbrev pub column_behind : ℕ → List ℕ → ℕ
column_behind col [] = col
column_behind col (b ∷ bs) = column_behind (next_column col b) bs

-- that of the byte at an offset from 0
unfoldable pub place_of : ℕ → List ℕ → Spot
place_of offset text = At (1 + line_ends (take offset text)) (column_behind 1 (take offset text))

-- ---- lines

-- the n-th of lines, from 1
abbrev pub line_from : ℕ → List (List ℕ) → List ℕ
line_from n [] = []
line_from n (l ∷ ls) = if nat_le n 1 then l else line_from (n - 1) ls

unfoldable pub line_at : ℕ → List ℕ → List ℕ
line_at n text = line_from n (lines_of text)

-- ---- how a line is shown, with a mark under it

-- control bytes are shown as blanks
abbrev pub shown : ℕ → ℕ
shown b = if b == 9 then 9 else if nat_lt b 32 then 32 else if b == 127 then 32 else b

-- what stands under a byte before the mark: a tab under a tab, and nothing under a byte that goes on in a character of UTF-8
abbrev pub pad : ℕ → List ℕ
pad b = if b == 9 then 9 ∷ [] else if nat_le 128 b && nat_lt b 192 then [] else 32 ∷ []

abbrev pub is_blank : ℕ → Bool
is_blank b = b == 32 || b == 9

-- a line, and the mark under its byte behind so many
unfoldable pub excerpt : ℕ → List ℕ → List ℕ
excerpt before line = map shown line ++ (codes "\n" ++ (flat_map pad (take before line) ++ codes "^\n"))

-- the line of a place, marked at its column, or at its first byte that isn't blank
unfoldable pub marked : Spot → List ℕ → List ℕ
marked Whole text = []
marked (Line line) text = excerpt (prefix_len is_blank (line_at line text)) (line_at line text)
marked (At line col) text = excerpt (col - 1) (line_at line text)

-- what stands in the line of a place from its column on
unfoldable pub rest_at : Spot → List ℕ → List ℕ
rest_at Whole text = []
rest_at (Line line) text = []
rest_at (At line col) text = drop (col - 1) (line_at line text)
