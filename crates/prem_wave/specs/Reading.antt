-- What a reader finds in the text of a value change dump (IEEE 1364-2005, clause 18): it goes by lines, and by the words of each.
use Rattle.std.specs.Prelude.{ℕ, ◌==◌, ◌&&◌, nat_le, if◌then◌else◌, List, [], ◌∷◌, Option, Some, None, map, slice_get, codes}
use Rattle.std.specs.List.{flat_map}
use Rattle.std.specs.Str.{bytes_eq}
use Rattle.std.specs.Str.Parse.{digits_value}
use Rattle.prem_line.specs.Lines.{lines_of, words_of}

abbrev pub words_by_line : List ℕ → List (List (List ℕ))
words_by_line text = map words_of (lines_of text)

-- ---- declarations

-- the identifier code of a variable that a line declares: `$var TYPE BITS CODE NAME $end`
abbrev pub code_in : List (List ℕ) → List (List ℕ)
code_in [] = []
code_in (key ∷ []) = []
code_in (key ∷ type ∷ []) = []
code_in (key ∷ type ∷ bits ∷ []) = []
code_in (key ∷ type ∷ bits ∷ code ∷ words) = if bytes_eq key (codes "$var") then code ∷ [] else []

-- those of all variables, in the order of their declarations
abbrev pub codes_in : List (List (List ℕ)) → List (List ℕ)
codes_in lines = flat_map code_in lines

-- ---- value changes

-- the time behind a line: `#TIME` sets it
abbrev pub time_behind : ℕ → List (List ℕ) → ℕ
time_behind at [] = at
time_behind at ([] ∷ words) = at
time_behind at ((b ∷ digits) ∷ words) = if b == 35 then digits_value 10 digits else at

-- the value of a variable behind a line at a time: `bVALUE CODE` gives it one, if it comes at or before cycle n
abbrev pub value_behind : (code : List ℕ) → (n at : ℕ) → Option (List ℕ) → List (List ℕ) → Option (List ℕ)
value_behind code n at before [] = before
value_behind code n at before ([] ∷ words) = before
value_behind code n at before ((b ∷ value) ∷ []) = before
value_behind code n at before ((b ∷ value) ∷ c ∷ words) = if b == 98 && (bytes_eq c code && nat_le at n) then Some value else before

-- behind all lines
abbrev pub value_at : (code : List ℕ) → (n at : ℕ) → Option (List ℕ) → List (List (List ℕ)) → Option (List ℕ)
value_at code n at before [] = before
value_at code n at before (line ∷ lines) = value_at code n (time_behind at line) (value_behind code n (time_behind at line) before line) lines

-- ---- dumps

abbrev pub value_of_code : Option (List ℕ) → ℕ → List (List (List ℕ)) → Option (List ℕ)
value_of_code None n lines = None
value_of_code (Some code) n lines = value_at code n 0 None lines

-- the value of the variable that is declared behind k others, in cycle n: that of its last change at or before it, as the text tells it
abbrev pub value_in : (k n : ℕ) → List ℕ → Option (List ℕ)
value_in k n text = value_of_code (slice_get (codes_in (words_by_line text)) k) n (words_by_line text)

-- the number that a value tells in binary digits; `z` is none
abbrev pub number_told : List ℕ → Option ℕ
number_told value = if bytes_eq value (codes "z") then None else Some (digits_value 2 value)
