-- Cuts in memory.
use Rattle.std.specs.Prelude.{◌≡◌, ℕ, ◌≤◌, ◌<◌, ℤ, pos, map, Some}
use Rattle.prem_tiling.specs.Prelude.{RegionText, MarkText, function_of}
use Rattle.prem_tiling.specs.Copies.ShapeOf.{loop_in}
use Rattle.prem_tiling.specs.Shapes.Narrowed.{added_in, narrowed}
use Rattle.prem_tiling.specs.Shapes.Shape.{Loop, shape_of, turns_of}
use Rattle.prem_tiling.specs.Shapes.Tiled.{Cut}
use Rattle.prem_tiling.specs.declared.copies.cut.Cut.{Cut as CutTree}

abbrev pub cut_in : CutTree → Cut
cut_in c = record { function = function_of c.function.now; loop = loop_in c.form; tiles = c.tiles; stated = c.stated }

-- where the loop's variable has its values from one to another
abbrev pub narrowed_region : Loop → ℕ → ℤ → RegionText → RegionText
narrowed_region l first last r = narrowed (pos first) last r (added_in l.names.first r.name l.body)

abbrev pub narrowed_mark : Cut → ℕ → ℤ → MarkText → MarkText
narrowed_mark c first last m = record { stated = c.stated; regions = map (narrowed_region c.loop first last) m.regions }

-- the function has this loop, of which each tile has a turn
pub record IsReady (c : Cut) : Type 0 where
  pub shape : shape_of c.function ≡ Some c.loop
  pub step : 0 < c.loop.step
  pub several : 2 ≤ c.tiles
  pub few : c.tiles ≤ 64
  pub enough : c.tiles ≤ turns_of c.loop
