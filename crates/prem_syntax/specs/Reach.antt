-- What functions reach by calls. A set of functions has one Bool for each, and a table has the callees of each.
use Rattle.std.specs.Prelude.{◌≡◌, ℕ, zero, suc, ◌+◌, ◌<◌, ◌==◌, ◌⊎◌, Bool, true, false, ◌&&◌, ◌||◌, List, [], ◌∷◌, ◌++◌, length, map, replicate, slice_get, slice_index_or, slice_set, unwrap_or}
use Rattle.std.specs.List.{list_any}
use Rattle.prem_syntax.specs.Resolved.{Steps, Done, SetLocal, SetScalar, SetElement, Output, Input, If, For, While, Call, Routine}

-- ---- in any order of calls

abbrev pub has_number : List ℕ → ℕ → Bool
has_number ks n = list_any (λ k. k == n) ks

abbrev pub is_in_set : List Bool → ℕ → Bool
is_in_set set n = unwrap_or (slice_get set n) false

-- whether one of the functions from number k on that are in a set calls function n
abbrev pub called_by : List (List ℕ) → List Bool → ℕ → ℕ → Bool
called_by [] set k n = false
called_by (callees ∷ table) set k n = (is_in_set set k && has_number callees n) || called_by table set (k + 1) n

-- the functions from number n on that are in a set, or that one of it calls
abbrev pub with_called : List (List ℕ) → List Bool → ℕ → List Bool → List Bool
with_called table set n [] = []
with_called table set n (is_in ∷ rest) = (is_in || called_by table set 0 n) ∷ with_called table set (n + 1) rest

-- the functions of a set, and those that they reach by so many calls
abbrev pub reached_by : List (List ℕ) → List Bool → ℕ → List Bool
reached_by table set zero = set
reached_by table set (suc n) = with_called table (reached_by table set n) 0 (reached_by table set n)

-- ---- where each function calls functions before it

-- the functions that steps call, in the order of the text
abbrev pub callees_in : Steps → List ℕ
callees_in Done = []
callees_in (SetLocal at number value rest) = callees_in rest
callees_in (SetScalar at global ty value rest) = callees_in rest
callees_in (SetElement at global ty index value rest) = callees_in rest
callees_in (Output at value rest) = callees_in rest
callees_in (Input at number rest) = callees_in rest
callees_in (If at condition taken other rest) = callees_in taken ++ (callees_in other ++ callees_in rest)
callees_in (For at number low closed high step turns body rest) = callees_in body ++ callees_in rest
callees_in (While at turns condition body rest) = callees_in body ++ callees_in rest
callees_in (Call at target callee arguments rest) = callee ∷ callees_in rest

-- those of each function
abbrev pub callee_table : List Routine → List (List ℕ)
callee_table routines = map (λ (f : Routine). callees_in f.body) routines

abbrev pub is_in : List Bool → ℕ → Bool
is_in set n = slice_index_or set n false

abbrev pub with_all : List ℕ → List Bool → List Bool
with_all [] set = set
with_all (n ∷ ns) set = with_all ns (slice_set set n true)

abbrev pub with_all_if : Bool → List ℕ → List Bool → List Bool
with_all_if true ns set = with_all ns set
with_all_if false ns set = set

-- with the callees of its members below a number, from the last one down: a function calls those before it
abbrev pub with_callees_below : List (List ℕ) → ℕ → List Bool → List Bool
with_callees_below table zero set = set
with_callees_below table (suc n) set = with_callees_below table n (with_all_if (is_in set n) (slice_index_or table n []) set)

-- the members, where the first Bool stands for number n
abbrev pub members_from : ℕ → List Bool → List ℕ
members_from n [] = []
members_from n (true ∷ set) = n ∷ members_from (n + 1) set
members_from n (false ∷ set) = members_from (n + 1) set

abbrev pub reach_set : List (List ℕ) → ℕ → List Bool
reach_set table f = with_callees_below table (f + 1) (slice_set (replicate (length table) false) f true)

-- in the order of the text
abbrev pub reach_of : List (List ℕ) → ℕ → List ℕ
reach_of table f = members_from 0 (reach_set table f)

-- ---- what is true of it

abbrev pub IsAmong : ℕ → List ℕ → Type 0
IsAmong n [] = ⊥
IsAmong n (m ∷ ms) = (m ≡ n) ⊎ IsAmong n ms

-- each function calls only those before it
abbrev pub CallsBefore : List (List ℕ) → Type 0
CallsBefore table = (n c : ℕ) → IsAmong c (slice_index_or table n []) → c < n

-- what a function reaches has the function, and with each one those that it calls
pub record IsClosed (table : List (List ℕ)) (f : ℕ) (set : List Bool) : Type 0 where
  pub itself : is_in set f ≡ true
  pub callees : (n c : ℕ) → is_in set n ≡ true → IsAmong c (slice_index_or table n []) → is_in set c ≡ true
