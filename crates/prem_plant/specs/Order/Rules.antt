-- What a rule of replacement has to keep, and the rule of each kind.
use Rattle.std.specs.Prelude.{◌≡◌, ℕ, true, List, map}
use Rattle.prem_plant.specs.declared.plant.Replacement.{Replacement}
use Rattle.prem_plant.specs.declared.plant.Replacement.TheVariants.{Lru, Fifo}
use Rattle.prem_plant.specs.Order.Order.{OrderRule, is_in, AreOnce, lru, fifo, one_pass, each_pass}

-- a hit leaves exactly the members of the order, each once
abbrev pub KeepsMembers : OrderRule → Type 0
KeepsMembers rule =
    (w : ℕ) (order : List ℕ) → is_in w order ≡ true → AreOnce order
    → AreOnce (rule w order) × ((v : ℕ) → is_in v (rule w order) ≡ is_in v order)

-- no two members have one name
abbrev pub AreApartBy : (ℕ → ℕ) → List ℕ → Type 0
AreApartBy name order = (u v : ℕ) → is_in u order ≡ true → is_in v order ≡ true → name u ≡ name v → u ≡ v

-- it goes by places alone: under other names, as those of the lines that ways hold, it moves alike
abbrev pub MovesAlike : OrderRule → Type 0
MovesAlike rule =
    (name : ℕ → ℕ) (w : ℕ) (order : List ℕ) → is_in w order ≡ true → AreApartBy name order → map name (rule w order) ≡ rule (name w) (map name order)

-- ---- the kinds

abbrev pub order_rule_of : Replacement → OrderRule
order_rule_of Lru = lru
order_rule_of Fifo = fifo

-- after so many passes over lines that have room all of them are resident
abbrev pub passes_of : Replacement → ℕ → ℕ
passes_of Lru = one_pass
passes_of Fifo = each_pass

-- a rule and its passes are those of a kind
pub record IsOfKind (kind : Replacement) (rule : OrderRule) (passes : ℕ → ℕ) : Type 0 where
  pub moves : (w : ℕ) (order : List ℕ) → is_in w order ≡ true → rule w order ≡ order_rule_of kind w order
  pub passes_are : (room : ℕ) → passes room ≡ passes_of kind room
