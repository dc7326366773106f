-- What functions reach by calls, from a table of callees. A set of functions has one Bool for each.
use Rattle.std.specs.Prelude.{◌≡◌, ⊤, ℕ, ◌+◌, Bool, false, not, ◌&&◌, ◌||◌, if◌then◌else◌, List, [], ◌∷◌, map}
use Rattle.prem_syntax.specs.Syntax.{FunctionText}
use Rattle.prem_syntax.specs.Breaches.{callees_within}
use Rattle.prem_syntax.specs.Reach.{has_number, is_in_set, called_by}

-- the callees of each of these functions, among all
abbrev pub callees_of_each : List FunctionText → List FunctionText → List (List ℕ)
callees_of_each all fs = map (λ (f : FunctionText). callees_within all f.body) fs

-- ---- step by step

abbrev pub is_new : List Bool → List Bool → ℕ → Bool
is_new before set k = is_in_set set k && not (is_in_set before k)

-- the functions from number n on that are in a set or among these numbers
abbrev pub with_numbers : List ℕ → ℕ → List Bool → List Bool
with_numbers ks n [] = []
with_numbers ks n (is_in ∷ rest) = (is_in || has_number ks n) ∷ with_numbers ks (n + 1) rest

abbrev pub followed : Bool → List ℕ → List Bool → List Bool
followed is_followed ks set = if is_followed then with_numbers ks 0 set else set

-- whether one of the functions from number k on that are in a set and not in the one before calls function n
abbrev pub called_by_new : List (List ℕ) → List Bool → List Bool → ℕ → ℕ → Bool
called_by_new [] before set k n = false
called_by_new (callees ∷ table) before set k n = (is_new before set k && has_number callees n) || called_by_new table before set (k + 1) n

-- the functions from number n on that are in a set, or that one of these calls
abbrev pub with_new : List (List ℕ) → List Bool → List Bool → ℕ → ℕ → List Bool → List Bool
with_new table before set k n [] = []
with_new table before set k n (is_in ∷ rest) = (is_in || called_by_new table before set k n) ∷ with_new table before set k (n + 1) rest

-- what the functions of a set call is in a set, whose functions from number n on these are
abbrev pub Closed : List (List ℕ) → List Bool → ℕ → List Bool → Type 0
Closed table set n [] = ⊤
Closed table set n (is_in ∷ rest) = ((is_in || called_by table set 0 n) ≡ is_in) × Closed table set (n + 1) rest
