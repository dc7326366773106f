-- The definitions at small values, computed: two sets of two lines of four bytes, over 40 bytes of memory.
use Rattle.std.proofs.Common.{◌≡◌, ℕ, List, [], ◌∷◌, true, false, Some, refl, take, drop}
use Rattle.prem_lru.proofs.Prelude.{Touched, empty_cache, entry_of, set_of, view_of, touch_of, store_of, to_front, lines_of, lines_in, rule_of, IsSettled, Plant, Lru, Fifo, number_at}
use Rattle.prem_lru.proofs.Prelude.{range_with_len}
use Rattle.prem_plant.specs.declared.plant.Target.TheVariants.{Rv32i}

abbrev plant : Plant
plant = record { line = 4; sets = 2; ways = 2; fill = 10; back = 10; switch = 20; memory = 40; policy = Lru; target = Rv32i }

-- the bytes 100, 101, ..
abbrev memory : List ℕ
memory = range_with_len 100 40

abbrev touched : List ℕ → Touched → Touched
touched [] t = t
touched (x ∷ xs) t = touched xs (touch_of to_front t.cache x t.memory)

abbrev start : Touched
start = record { cache = empty_cache plant; memory = memory; hit = false; back = false }

abbrev after : List ℕ → Touched
after xs = touched xs start

row_empty : lines_in start.cache ≡ [] ∷ [] ∷ []
row_empty = refl

row_fills : lines_in (after (0 ∷ 3 ∷ 2 ∷ [])).cache ≡ (2 ∷ 0 ∷ []) ∷ (3 ∷ []) ∷ []
row_fills = refl

-- a hit brings its line to the front, so that the other one goes
row_order : lines_in (after (0 ∷ 2 ∷ 0 ∷ [])).cache ≡ (0 ∷ 2 ∷ []) ∷ [] ∷ []
row_order = refl

row_hit : (after (0 ∷ 2 ∷ 0 ∷ [])).hit ≡ true
row_hit = refl

-- the line that was touched last is settled; the other one of its set isn't
row_settled : IsSettled to_front (after (0 ∷ 2 ∷ [])).cache 2
row_settled = record { resident = refl; stays = refl }

row_unsettled : lines_of (to_front 0 (set_of (after (0 ∷ 2 ∷ [])).cache 0)) ≡ 0 ∷ 2 ∷ []
row_unsettled = refl

row_set : lines_of (set_of (after (0 ∷ 2 ∷ [])).cache 0) ≡ 2 ∷ 0 ∷ []
row_set = refl

row_gone : lines_in (after (0 ∷ 2 ∷ 0 ∷ 4 ∷ [])).cache ≡ (4 ∷ 0 ∷ []) ∷ [] ∷ []
row_gone = refl

row_clean_gone : (after (0 ∷ 2 ∷ 0 ∷ 4 ∷ [])).back ≡ false
row_clean_gone = refl

row_filled : entry_of (after (3 ∷ [])).cache 3 ≡ Some (record { line = 3; dirty = false; bytes = 112 ∷ 113 ∷ 114 ∷ 115 ∷ [] })
row_filled = refl

-- a half is stored at the end of line 2; memory has it once the line goes
abbrev stored : Touched
stored = let t = after (2 ∷ 0 ∷ []) in record t { cache = store_of t.cache 10 2 0x12345 }

row_stored : entry_of stored.cache 2 ≡ Some (record { line = 2; dirty = true; bytes = 108 ∷ 109 ∷ 0x45 ∷ 0x23 ∷ [] })
row_stored = refl

row_view : (view_of stored.cache stored.memory 9 ∷ view_of stored.cache stored.memory 10 ∷ view_of stored.cache stored.memory 11 ∷ view_of
    stored.cache stored.memory 12 ∷ []) ≡ 109 ∷ 0x45 ∷ 0x23 ∷ 112 ∷ []
row_view = refl

row_number : number_at (view_of stored.cache stored.memory) 8 4 ≡ 0x23456d6c
row_number = refl

row_memory : take 4 (drop 8 stored.memory) ≡ 108 ∷ 109 ∷ 110 ∷ 111 ∷ []
row_memory = refl

row_back : (touched (4 ∷ []) stored).back ≡ true
row_back = refl

row_written : take 6 (drop 7 (touched (4 ∷ []) stored).memory) ≡ 107 ∷ 108 ∷ 109 ∷ 0x45 ∷ 0x23 ∷ 112 ∷ []
row_written = refl

-- ---- first in, first out

abbrev placed : List ℕ → Touched → Touched
placed [] t = t
placed (x ∷ xs) t = placed xs (touch_of (rule_of Fifo) t.cache x t.memory)

-- a hit leaves its line where it stands, so that it goes
row_stays : lines_in (placed (0 ∷ 2 ∷ 0 ∷ []) start).cache ≡ (2 ∷ 0 ∷ []) ∷ [] ∷ []
row_stays = refl

row_first_goes : lines_in (placed (0 ∷ 2 ∷ 0 ∷ 4 ∷ []) start).cache ≡ (4 ∷ 2 ∷ []) ∷ [] ∷ []
row_first_goes = refl

row_stays_hit : (placed (0 ∷ 2 ∷ 0 ∷ []) start).hit ≡ true
row_stays_hit = refl

-- each resident line is settled
row_stays_settled : IsSettled (rule_of Fifo) (placed (0 ∷ 2 ∷ []) start).cache 0
row_stays_settled = record { resident = refl; stays = refl }
