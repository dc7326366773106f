-- Blocks of words that stand for the code of placed tasks, and end by an address.
use Rattle.std.specs.Prelude.{◌≡◌, ℕ, ◌≤◌, List, [], ◌∷◌, length, map}
use Rattle.std.specs.List.{AllByRecursion}
use Rattle.prem_layout.specs.Placed.{blocks_of}
use Rattle.prem_place.specs.Content.Blocks.{block_of, EndsBy, HasGlobals}
use Rattle.prem_place.specs.declared.content.content.Block.{Block as BlockFound}
use Rattle.prem_place.specs.Placed.PlacedOf.{placed_of}
use Rattle.prem_place.specs.declared.placed.PlacedTask.{PlacedTask}
use Rattle.prem_place.specs.Flat.Blocks.{words_of}

abbrev pub HasBlocks : PlacedTask → List BlockFound → Type 0
HasBlocks t blocks = map block_of blocks ≡ map words_of (blocks_of (placed_of t))

-- its blocks and its globals end by an address
pub record Fits (end : ℕ) (t : PlacedTask) (blocks : List BlockFound) : Type 0 where
  pub code : HasBlocks t blocks
  pub ends : AllByRecursion (EndsBy end) blocks
  pub count : length t.program.globals.items ≤ 65536
  pub globals : HasGlobals end t.places 0 (placed_of t).task.program.globals

-- each task has its blocks
abbrev pub AllFit : ℕ → List PlacedTask → List (List BlockFound) → Type 0
AllFit end [] blocks = Unit {0}
AllFit end (t ∷ ts) [] = ⊥
AllFit end (t ∷ ts) (bs ∷ bss) = Fits end t bs × AllFit end ts bss
