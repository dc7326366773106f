-- Collections in a small cache of four sets with two ways, and what touches of them miss.
use Rattle.std.proofs.Common.{◌≡◌, ℕ, refl, true, false, List, [], ◌∷◌, length, replicate}
use Rattle.prem_sound.proofs.Prelude.{lru, fifo, cache_misses, Plant, Lru, is_roomy, roomy_of, crowded_of, most_misses}
use Rattle.prem_plant.specs.declared.plant.Target.TheVariants.{Rv32i}

abbrev small : Plant
small = record { line = 16; sets = 4; ways = 2; fill = 10; back = 10; switch = 20; memory = 4096; policy = Lru; target = Rv32i }

-- three lines of set 0, and two of set 1
abbrev lines : List ℕ
lines = 0 ∷ 4 ∷ 8 ∷ 1 ∷ 5 ∷ []

abbrev touches : List ℕ
touches = 0 ∷ 4 ∷ 8 ∷ 0 ∷ 1 ∷ 5 ∷ 1 ∷ 0 ∷ 5 ∷ 1 ∷ []

crowded : is_roomy small lines 0 ≡ false
crowded = refl

roomy : is_roomy small lines 1 ≡ true
roomy = refl

roomy_two : roomy_of small lines lines ≡ 1 ∷ 5 ∷ []
roomy_two = refl

crowded_five : crowded_of small lines touches ≡ 0 ∷ 4 ∷ 8 ∷ 0 ∷ 0 ∷ []
crowded_five = refl

-- so seven misses at most
seven : most_misses small lines touches ≡ 7
seven = refl

abbrev empty : List (List ℕ)
empty = replicate 4 []

-- behind other lines
abbrev other : List (List ℕ)
other = (12 ∷ 16 ∷ []) ∷ (9 ∷ 13 ∷ []) ∷ [] ∷ [] ∷ []

lru_six : length (cache_misses lru 2 empty touches) ≡ 6
lru_six = refl

fifo_six : length (cache_misses fifo 2 empty touches) ≡ 6
fifo_six = refl

lru_other : length (cache_misses lru 2 other touches) ≡ 6
lru_other = refl

-- each touch of a crowded set may miss
abbrev round : List ℕ
round = 0 ∷ 4 ∷ 8 ∷ 0 ∷ 4 ∷ 8 ∷ 1 ∷ 5 ∷ 1 ∷ 5 ∷ []

all_miss : length (cache_misses lru 2 empty round) ≡ 8
all_miss = refl

most : most_misses small lines round ≡ 8
most = refl
