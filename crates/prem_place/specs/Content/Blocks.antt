-- Code and globals in memory.
use Rattle.std.specs.Prelude.{ℕ, ◌+◌, ◌*◌, ◌≤◌, ⊤, List, [], ◌∷◌, length}
use Rattle.std.specs.Int.{w32, to_le_bytes}
use Rattle.std.specs.List.{flat_map}
use Rattle.prem_syntax.specs.Syntax.{GlobalVariable}
use Rattle.prem_layout.specs.Footprint.{TaskPlaces, global_range}
use Rattle.prem_layout.specs.Image.{global_bytes, patched}
use Rattle.prem_place.specs.declared.content.content.Block.{Block}

-- words from an address on
pub record Words : Type 0 where
  pub at : ℕ
  pub words : List ℕ

abbrev pub block_of : Block → Words
block_of b = record { at = b.at; words = b.words.items }

-- they end by an address
abbrev pub EndsBy : ℕ → Block → Type 0
EndsBy end b = b.at + 4 * length b.words.items ≤ end

abbrev pub with_words : List Words → List ℕ → List ℕ
with_words [] content = content
with_words (b ∷ bs) content = with_words bs (patched b.at (flat_map (to_le_bytes w32) b.words) content)

-- the globals from number n on end by an address
abbrev pub HasGlobals : ℕ → TaskPlaces → ℕ → List GlobalVariable → Type 0
HasGlobals end t n [] = ⊤
HasGlobals end t n (g ∷ gs) = ((global_range t n).0 + length (global_bytes g) ≤ end) × HasGlobals end t (n + 1) gs
