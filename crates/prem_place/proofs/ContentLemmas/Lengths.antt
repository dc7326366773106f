-- How many bytes words have, and where blocks end.
use Rattle.std.specs.Int.{w32, to_le_bytes}
use Rattle.std.specs.List.{AllByRecursion, flat_map}
use Rattle.std.proofs.Common.{◌≡◌, ℕ, zero, suc, ◌+◌, ◌*◌, ◌<◌, ◌≤◌, List, [], ◌∷◌, refl, ap, sym, subst, arith, length, drop, get_or, length-append}
use Rattle.prem_place.specs.Content.Blocks.{EndsBy}
use Rattle.prem_place.specs.declared.content.content.Block.{Block}

words_long : (words : List ℕ) → length (flat_map (to_le_bytes w32) words) ≡ 4 * length words
words_long [] = refl
words_long (w ∷ ws) = omega (arith, length-append (to_le_bytes w32 w) (flat_map (to_le_bytes w32) ws), words_long ws)

-- the block of a turn ends where all do
ends_at : (end : ℕ) (blocks : List Block) (i : ℕ) (b : Block) → AllByRecursion (EndsBy end) (drop i blocks) → i < length blocks → b ≡ get_or blocks i b → EndsBy end b
ends_at end [] i b h lt is = absurd (omega arith)
ends_at end (x ∷ xs) zero b h lt is = subst (EndsBy end) (sym is) h.0
ends_at end (x ∷ xs) (suc i) b h lt is = ends_at end xs i b h (omega arith) is

pub block_within : (end : ℕ) (blocks : List Block) (i : ℕ) (b : Block) (words bytes content : List ℕ) → AllByRecursion (EndsBy end) (drop i blocks) → i < length blocks → b ≡ get_or blocks i b →
    words ≡ b.words.items → bytes ≡ flat_map (to_le_bytes w32) words → length content ≡ end → b.at + length bytes ≤ length content
block_within end blocks i b words bytes content h lt is ew eb long =
    let ends = ends_at end blocks i b h lt is in
    omega (arith, ends, ap length eb, words_long words, ap length ew, long)
