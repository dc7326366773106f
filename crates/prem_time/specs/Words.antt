-- The words of the command line: a set, and of some of its devices how far apart their requests are at least.
use Rattle.std.specs.Prelude.{ℕ, zero, suc, ◌+◌, ◌≤◌, ◌^◌, ◌==◌, not, Bool, if◌then◌else◌, List, [], ◌∷◌, ◌++◌, take, drop, Option, None, Some, option_map}
use Rattle.std.specs.List.{AllByRecursion, list_any, prefix_len}
use Rattle.std.specs.Str.{bytes_eq}
use Rattle.prem_line.specs.Numbers.{number_of, up_to}
use Rattle.prem_plant.specs.Label.{is_name}
use Rattle.prem_syntax.specs.Syntax.{Text}
use Rattle.prem_answer.specs.Tool.{is_file}

-- the requests of a device are at least so many cycles apart
pub record Distance : Type 0 where
  pub device : Text
  pub every : ℕ

-- the file of a set, and distances
pub record Asked : Type 0 where
  pub set : Text
  pub distances : List Distance

-- the greatest number of cycles that words tell, and that is told of a wait
abbrev pub most_cycles : ℕ
most_cycles = 2 ^ 40

pub record IsDistance (d : Distance) : Type 0 where
  pub some : 1 ≤ d.every
  pub most : d.every ≤ 2 ^ 40

abbrev pub AreDistances : List Distance → Type 0
AreDistances ds = AllByRecursion IsDistance ds

-- ---- a word

abbrev pub unless_zero : Option ℕ → Option ℕ
unless_zero None = None
unless_zero (Some zero) = None
unless_zero (Some (suc n)) = Some (suc n)

-- the bytes before the first `=`, and those behind it
abbrev pub front_of : List ℕ → List ℕ
front_of word = take (prefix_len (λ b. not (b == 61)) word) word

abbrev pub back_of : List ℕ → List ℕ
back_of word = drop (prefix_len (λ b. not (b == 61)) word + 1) word

-- the cycles that are told of a device of this name
abbrev pub every_in : List ℕ → Option ℕ
every_in word = unless_zero (up_to most_cycles (number_of (back_of word)))

-- DEVICE=CYCLES
abbrev pub distance_in : List ℕ → Option Distance
distance_in word = if is_name (front_of word) then option_map (λ n. record { device = front_of word; every = n }) (every_in word) else None

-- ---- all words

abbrev pub is_named : Text → List Distance → Bool
is_named name ds = list_any (λ (d : Distance). bytes_eq d.device name) ds

-- one more word behind others, which names none of their devices
abbrev pub with_distance : List Distance → Option Distance → Option (List Distance)
with_distance ds None = None
with_distance ds (Some d) = if is_named d.device ds then None else Some (ds ++ d ∷ [])

abbrev pub next : Option (List Distance) → (List Distance → Option (List Distance)) → Option (List Distance)
next None more = None
next (Some ds) more = more ds

abbrev pub distances_behind : List (List ℕ) → List Distance → Option (List Distance)
distances_behind [] ds = Some ds
distances_behind (word ∷ words) ds = next (with_distance ds (distance_in word)) (λ all. distances_behind words all)

-- SET DEVICE=CYCLES ..
abbrev pub asked_of : List (List ℕ) → Option Asked
asked_of [] = None
asked_of (word ∷ words) = if is_file word then option_map (λ ds. record { set = word; distances = ds }) (distances_behind words []) else None
