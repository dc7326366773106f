-- A task whose parts lie in the first bytes of memory.
use Rattle.std.specs.Prelude.{◌≡◌, ℕ, ◌+◌, ◌*◌, ◌%◌, ◌<◌, ◌≤◌, length}
use Rattle.std.specs.List.{AllByRecursion}
use Rattle.prem_layout.specs.Footprint.{place_at, stack_place}
use Rattle.prem_layout.specs.Placed.{Placed, Block, blocks_of}
use Rattle.prem_place.specs.Content.Blocks.{HasGlobals}

-- code ends by an address
abbrev pub Ends : ℕ → Block → Type 0
Ends end b = b.at + 4 * length b.code ≤ end

-- its code, its globals and its stack end by an address
pub record IsLaid (end : ℕ) (t : Placed) : Type 0 where
  pub entry_aligned : (place_at t.at 0).0 % 4 ≡ 0
  pub entry_within : (place_at t.at 0).0 < end
  pub stack_aligned : (stack_place t.at).1 % 16 ≡ 0
  pub stack_within : (stack_place t.at).1 ≤ end
  pub code : AllByRecursion (Ends end) (blocks_of t)
  pub globals : HasGlobals end t.at 0 t.task.program.globals
