-- The words of code of a compiled set, strip by strip, each with its line, and the rows in which they are booked.
use Rattle.std.specs.Prelude.{Bool, ℕ, zero, suc, ◌+◌, ◌/◌, List, [], ◌∷◌, replicate, slice_set}
use Rattle.prem_profile.specs.declared.strip.Strip.{Strip as StripTree}

-- so many words from an address on, of a function of a task, with the line of each; of a function that is called, or of a start
pub record Strip : Type 0 where
  pub task : ℕ
  pub name : List ℕ
  pub called : Bool
  pub at : ℕ
  pub count : ℕ
  pub lines : List ℕ

abbrev pub strip_of : StripTree → Strip
strip_of s = record { task = s.task; name = s.name.items; called = s.called; at = s.at; count = s.count; lines = s.lines.items }

-- the rows of so many words from a place on
abbrev pub set_rows : List ℕ → (place row count : ℕ) → List ℕ
set_rows words place row zero = words
set_rows words place row (suc n) = set_rows (slice_set words place row) (place + 1) (row + 1) n

-- of the words of strips, one strip behind another; a word is a quarter of its address
abbrev pub strip_rows : List ℕ → (row : ℕ) → List Strip → List ℕ
strip_rows words row [] = words
strip_rows words row (s ∷ ss) = strip_rows (set_rows words (s.at / 4) row s.count) (row + s.count) ss

-- the words of all strips
abbrev pub strip_words : List Strip → ℕ
strip_words [] = 0
strip_words (s ∷ ss) = s.count + strip_words ss

-- the first row of words of code: behind those of what stands nowhere, of idle time, and of the switches to so many tasks
abbrev pub first_row : ℕ → ℕ
first_row tasks = 2 + tasks

-- the row of each of so many words of memory; 0 for what isn't code
abbrev pub rows_of : (tasks size : ℕ) → List Strip → List ℕ
rows_of tasks size strips = strip_rows (replicate size 0) (first_row tasks) strips
