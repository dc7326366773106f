-- What a policy keeps: for each set its ways in use, in the order in which they go, the last one next.
use Rattle.std.specs.Prelude.{◌≡◌, ℕ, zero, suc, ◌-◌, ◌<◌, nat_lt, true, List, [], ◌∷◌, length, take, if◌then◌else◌, slice_index_or, slice_set, replicate}
use Rattle.prem_plant.specs.Order.Order.{OrderRule, is_in, AreOnce}

-- so many sets, with room for so many ways each
pub record Orders : Type 0 where
  pub sets : ℕ
  pub room : ℕ
  pub orders : List (List ℕ)

abbrev pub no_orders : ℕ → ℕ → Orders
no_orders sets room = record { sets = sets; room = room; orders = replicate sets [] }

abbrev pub order_at : Orders → ℕ → List ℕ
order_at p set = slice_index_or p.orders set []

abbrev pub with_order : Orders → ℕ → List ℕ → Orders
with_order p set order = record p { orders = slice_set p.orders set order }

-- ways in use are below their number, each once
pub record AreWays (room : ℕ) (order : List ℕ) : Type 0 where
  pub once : AreOnce order
  pub below : (w : ℕ) → is_in w order ≡ true → w < room

-- the ways below a number, the last one first
abbrev pub ways_below : ℕ → List ℕ
ways_below zero = []
ways_below (suc n) = n ∷ ways_below n

-- the least way from w on that isn't in the order, of at most n
abbrev pub free_from : ℕ → ℕ → List ℕ → ℕ
free_from zero w order = w
free_from (suc n) w order = if is_in w order then free_from n (suc w) order else w

-- the way that a line takes which comes in: one that isn't in use, or else the last
abbrev pub way_for : ℕ → List ℕ → ℕ
way_for room order = if nat_lt (length order) room then free_from room 0 order else slice_index_or order (length order - 1) 0

-- a hit of a way of a set, and a miss in it
abbrev pub after_hit_of : OrderRule → ℕ → ℕ → Orders → Orders
after_hit_of rule set way p = with_order p set (rule way (order_at p set))

abbrev pub after_miss_of : ℕ → Orders → Orders
after_miss_of set p =
    with_order p set (way_for p.room (order_at p set) ∷ take (p.room - 1) (order_at p set))
