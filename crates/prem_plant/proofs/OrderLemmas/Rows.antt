-- The definitions at small values, computed.
use Rattle.std.specs.List.{concat}
use Rattle.std.proofs.Common.{◌≡◌, [], ◌∷◌, false, refl}
use Rattle.prem_plant.specs.Order.Order.{is_in, lru, fifo, misses_of, orders_after, cache_misses, of_set}
use Rattle.prem_plant.specs.Order.Orders.{way_for}

-- in a set of three a fourth line takes the place of the one that was used first
row_lru_misses : misses_of lru 3 [] (5 ∷ 6 ∷ 7 ∷ 5 ∷ 8 ∷ 6 ∷ 5 ∷ []) ≡ 5 ∷ 6 ∷ 7 ∷ 8 ∷ 6 ∷ []
row_lru_misses = refl

row_lru_orders : orders_after lru 3 [] (5 ∷ 6 ∷ 7 ∷ 5 ∷ 8 ∷ 6 ∷ 5 ∷ []) ≡ 5 ∷ 6 ∷ 8 ∷ []
row_lru_orders = refl

-- or of the one that came first
row_fifo_misses : misses_of fifo 3 [] (5 ∷ 6 ∷ 7 ∷ 5 ∷ 8 ∷ 6 ∷ 5 ∷ []) ≡ 5 ∷ 6 ∷ 7 ∷ 8 ∷ 5 ∷ []
row_fifo_misses = refl

row_fifo_orders : orders_after fifo 3 [] (5 ∷ 6 ∷ 7 ∷ 5 ∷ 8 ∷ 6 ∷ 5 ∷ []) ≡ 5 ∷ 8 ∷ 7 ∷ []
row_fifo_orders = refl

-- two lines in a set of two: under FIFO one pass may leave one of them out, and two bring both in
row_one_pass : is_in 1 (orders_after fifo 2 (9 ∷ 1 ∷ []) (1 ∷ 2 ∷ [])) ≡ false
row_one_pass = refl

row_two_passes : orders_after fifo 2 (9 ∷ 1 ∷ []) (concat ((1 ∷ 2 ∷ []) ∷ (1 ∷ 2 ∷ []) ∷ [])) ≡ 1 ∷ 2 ∷ []
row_two_passes = refl

row_lru_pass : orders_after lru 2 (9 ∷ 1 ∷ []) (1 ∷ 2 ∷ []) ≡ 2 ∷ 1 ∷ []
row_lru_pass = refl

row_cache_misses : cache_misses lru 2 ([] ∷ [] ∷ []) (0 ∷ 1 ∷ 2 ∷ 0 ∷ 4 ∷ 1 ∷ 2 ∷ []) ≡ 0 ∷ 1 ∷ 2 ∷ 4 ∷ 2 ∷ []
row_cache_misses = refl

row_of_set : of_set 4 3 (3 ∷ 4 ∷ 7 ∷ 11 ∷ 12 ∷ []) ≡ 3 ∷ 7 ∷ 11 ∷ []
row_of_set = refl

-- the least way that isn't in use, and else the last
row_way_free : way_for 4 (2 ∷ 0 ∷ []) ≡ 1
row_way_free = refl

row_way_last : way_for 3 (2 ∷ 0 ∷ 1 ∷ []) ≡ 1
row_way_last = refl
