-- When a function of a program can be cut into tiles.
use Rattle.std.specs.Prelude.{◌≡◌, ◌≤◌, None, Some}
use Rattle.prem_tiling.specs.Prelude.{functions_of, ProgramText}
use Rattle.prem_tiling.specs.Shapes.Carried.{names_of, carried_in}
use Rattle.prem_tiling.specs.Shapes.Shape.{marked_named, shape_of, turns_of}
use Rattle.prem_tiling.specs.Shapes.Tiled.{Cut, used_names, taken_from}

-- it is marked and has the shape, no local is carried, each tile has a turn, and nothing has the name of a tile
pub record CanCut (p : ProgramText) (c : Cut) : Type 0 where
  pub named : marked_named (functions_of p) c.function.name ≡ Some c.function
  pub shape : shape_of c.function ≡ Some c.loop
  pub uncarried : carried_in (names_of c.function.locals) c.loop.body ≡ None
  pub several : 2 ≤ c.tiles
  pub few : c.tiles ≤ 64
  pub enough : c.tiles ≤ turns_of c.loop
  pub untaken : taken_from (used_names p) c.function.name 0 c.tiles ≡ None
