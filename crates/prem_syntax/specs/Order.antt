-- The order of breaches, one for all groups of rules: by place, then by the rank of the rule, then as they are found.
use Rattle.std.specs.Prelude.{ℕ, ◌==◌, nat_lt, Bool, false, ◌&&◌, ◌||◌, if◌then◌else◌, List, [], ◌∷◌, Option, None, Some}
use Rattle.prem_syntax.specs.declared.tree.Place.{Place}

-- where a breach stands in the order: at a place, or in the program as a whole, which comes before all places
pub record Standing : Type 0 where
  pub at : Option Place
  pub rank : ℕ

-- whether a list of numbers is below another at the first difference
abbrev pub less : List ℕ → List ℕ → Bool
less (x ∷ xs) (y ∷ ys) = nat_lt x y || (x == y && less xs ys)
less _ _ = false

abbrev pub key_of : Option Place → ℕ → List ℕ
key_of None rank = 0 ∷ 0 ∷ 0 ∷ rank ∷ []
key_of (Some at) rank = 1 ∷ at.line ∷ at.col ∷ rank ∷ []

abbrev pub stands_before : Standing → Standing → Bool
stands_before a b = less (key_of a.at a.rank) (key_of b.at b.rank)

-- the first of two breaches, where there are any: the left one if neither stands before the other
abbrev pub first_by : {B : Type 0} → (B → Standing) → Option B → Option B → Option B
first_by standing None b = b
first_by standing (Some a) None = Some a
first_by standing (Some a) (Some b) = if stands_before (standing b) (standing a) then Some b else Some a

-- the first of a list of breaches that follows the text
abbrev pub first_of_by : {B : Type 0} → (B → Standing) → List B → Option B
first_of_by standing [] = None
first_of_by standing (b ∷ bs) = first_by standing (Some b) (first_of_by standing bs)
