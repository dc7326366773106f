-- A value change dump: what changes in which cycle, and the text of that.
use Rattle.std.specs.Prelude.{ℕ, zero, suc, ◌==◌, nat_le, Bool, true, false, if◌then◌else◌, List, [], ◌∷◌, ◌++◌, Option, Some, None, slice_get, codes, decimal}
use Rattle.std.specs.Fmt.{digits}
use Rattle.std.specs.List.{flat_map}

-- ---- changes

-- a signal has another value
pub record Change : Type 0 where
  pub signal : ℕ
  pub value : Option ℕ

abbrev pub same_value : Option ℕ → Option ℕ → Bool
same_value None None = true
same_value None (Some n) = false
same_value (Some m) None = false
same_value (Some m) (Some n) = m == n

-- whether a signal had this value before, if it had one
abbrev pub is_known : Option (Option ℕ) → Option ℕ → Bool
is_known None value = false
is_known (Some before) value = same_value before value

-- the values that differ from those before, where the first one is that of signal k
abbrev pub changes_from : List (Option ℕ) → ℕ → List (Option ℕ) → List Change
changes_from before k [] = []
changes_from before k (v ∷ values) =
    if is_known (slice_get before k) v then changes_from before (suc k) values
    else record { signal = k; value = v } ∷ changes_from before (suc k) values

-- what changes in a cycle
pub record Moment : Type 0 where
  pub at : ℕ
  pub changes : List Change

abbrev pub moment_at : ℕ → List Change → List Moment
moment_at n [] = []
moment_at n (c ∷ changes) = record { at = n; changes = c ∷ changes } ∷ []

-- ---- the dump of a list of values for each cycle: of the cycles from one up to another, which is left out

-- the values in the last of them, and none where there is none
unfoldable pub last_of : (ℕ → List (Option ℕ)) → (from to : ℕ) → List (Option ℕ)
last_of values from zero = []
last_of values from (suc n) = if nat_le from n then values n else []

-- all values in the first one, and behind it what changes
unfoldable pub moments_of : (ℕ → List (Option ℕ)) → (from to : ℕ) → List Moment
moments_of values from zero = []
moments_of values from (suc n) =
    moments_of values from n ++ (if nat_le from n then moment_at n (changes_from (last_of values from n) 0 (values n)) else [])

-- ---- its text

-- a number in binary digits, or `z` for none
abbrev pub value_text : Option ℕ → List ℕ
value_text None = codes "z"
value_text (Some n) = digits 2 false n

abbrev pub change_line : ℕ → Option ℕ → List ℕ
change_line k value = codes "b" ++ (value_text value ++ (codes " " ++ (decimal k ++ codes "\n")))

abbrev pub change_text : Change → List ℕ
change_text c = change_line c.signal c.value

abbrev pub time_text : ℕ → List ℕ
time_text n = codes "#" ++ (decimal n ++ codes "\n")

abbrev pub changes_text : List Change → List ℕ
changes_text changes = flat_map change_text changes

abbrev pub moment_text : Moment → List ℕ
moment_text m = time_text m.at ++ changes_text m.changes

abbrev pub moments_text : List Moment → List ℕ
moments_text moments = flat_map moment_text moments
