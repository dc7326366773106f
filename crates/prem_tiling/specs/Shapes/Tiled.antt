-- The tiles of a function, and the program that has them in its place.
use Rattle.std.specs.Prelude.{ℕ, zero, suc, ◌+◌, ◌*◌, ◌/◌, ◌==◌, ℤ, pos, ◌-ℤ◌, Bool, true, false, if◌then◌else◌, List, [], ◌∷◌, ◌++◌, map, Option, None, Some, codes, decimal}
use Rattle.prem_tiling.specs.Prelude.{has_name, parameter_texts, Text, Expression, literal, Statement, block, if_then, if_else, bounded_while, counting_for, assign, output, input, call}
use Rattle.prem_tiling.specs.Prelude.{Statements, no_statements, next_statement, RegionText, MarkText, FunctionText, ItemText, global_item, function_item, ProgramText, Place, flat_map}
use Rattle.prem_tiling.specs.Prelude.{bytes_eq}
use Rattle.prem_tiling.specs.Shapes.Carried.{names_of}
use Rattle.prem_tiling.specs.Shapes.Narrowed.{added_in, narrowed}
use Rattle.prem_tiling.specs.Shapes.Shape.{Number, Loop, turns_of}
use Rattle.std.specs.Option.{option_map}

-- into how many tiles a function with this loop is cut, and their stated length
pub record Cut : Type 0 where
  pub function : FunctionText
  pub loop : Loop
  pub tiles : ℕ
  pub stated : ℕ

-- ---- one tile

abbrev pub tile_name : Text → ℕ → Text
tile_name name t = name ++ (codes "_t" ++ decimal t)

-- the first turn of tile t; the turns of all tiles are those of the loop, shared out evenly
abbrev pub first_turn : Cut → ℕ → ℕ
first_turn c t = t * turns_of c.loop / c.tiles

-- the value of the loop's variable in a turn
abbrev pub value_at : Cut → ℕ → ℕ
value_at c turn = c.loop.low.value + c.loop.step * turn

abbrev pub is_last : Cut → ℕ → Bool
is_last c t = t + 1 == c.tiles

abbrev pub low_of : Cut → ℕ → ℕ
low_of c t = value_at c (first_turn c t)

-- the last tile ends as the loop does
abbrev pub closed_of : Cut → ℕ → Bool
closed_of c t = if is_last c t then c.loop.closed else false

abbrev pub high_of : Cut → ℕ → ℕ
high_of c t = if is_last c t then c.loop.high.value else value_at c (first_turn c (t + 1))

abbrev pub last_below : Bool → ℕ → ℤ
last_below true high = pos high
last_below false high = pos high -ℤ pos 1

abbrev pub last_of : Cut → ℕ → ℤ
last_of c t = last_below (closed_of c t) (high_of c t)

abbrev pub with_value : Number → ℕ → Expression
with_value n value = literal n.at value n.kind

abbrev pub tile_loop : Cut → ℕ → Statement
tile_loop c t = counting_for c.loop.at c.loop.names (with_value c.loop.low (low_of c t)) (closed_of c t) (with_value c.loop.high (high_of c t)) c.loop.step c.loop.body

abbrev pub tile_region : Cut → ℕ → RegionText → RegionText
tile_region c t r = narrowed (pos (low_of c t)) (last_of c t) r (added_in c.loop.names.first r.name c.loop.body)

abbrev pub tile_mark : Cut → ℕ → MarkText → MarkText
tile_mark c t m = record { stated = c.stated; regions = map (tile_region c t) m.regions }

abbrev pub tile_of : Cut → ℕ → FunctionText
tile_of c t = record c.function {
  name = tile_name c.function.name t;
  mark = option_map (tile_mark c t) c.function.mark;
  body = next_statement (tile_loop c t) no_statements;
}

-- so many tiles from tile t on
abbrev pub tiles_from : Cut → ℕ → ℕ → ProgramText
tiles_from c t zero = []
tiles_from c t (suc n) = function_item (tile_of c t) ∷ tiles_from c (t + 1) n

-- ---- calls

-- calls of so many tiles from tile t on
abbrev pub calls_from : Place → Text → ℕ → ℕ → Statements
calls_from at name t zero = no_statements
calls_from at name t (suc n) = next_statement (call at None (tile_name name t) []) (calls_from at name (t + 1) n)

-- a statement that calls the function becomes a block that calls all tiles
abbrev mutual
  pub with_tiles : Text → ℕ → Statement → Statement
  with_tiles name n (block at body) = block at (all_with_tiles name n body)
  with_tiles name n (if_then at condition taken) = if_then at condition (with_tiles name n taken)
  with_tiles name n (if_else at condition taken other) = if_else at condition (with_tiles name n taken) (with_tiles name n other)
  with_tiles name n (bounded_while at turns condition body) = bounded_while at turns condition (with_tiles name n body)
  with_tiles name n (counting_for at names low closed high step body) = counting_for at names low closed high step (with_tiles name n body)
  with_tiles name n (assign at x index value) = assign at x index value
  with_tiles name n (output at value) = output at value
  with_tiles name n (input at x) = input at x
  with_tiles name n (call at target callee arguments) = if bytes_eq callee name then block at (calls_from at name 0 n) else call at target callee arguments

  pub all_with_tiles : Text → ℕ → Statements → Statements
  all_with_tiles name n no_statements = no_statements
  all_with_tiles name n (next_statement first rest) = next_statement (with_tiles name n first) (all_with_tiles name n rest)

-- ---- the program

abbrev pub function_with_tiles : Cut → FunctionText → FunctionText
function_with_tiles c f = record f { body = all_with_tiles c.function.name c.tiles f.body }

-- the tiles stand where the function stood
abbrev pub item_with_tiles : Cut → ItemText → ProgramText
item_with_tiles c (global_item g) = global_item g ∷ []
item_with_tiles c (function_item f) = if bytes_eq f.name c.function.name then tiles_from c 0 c.tiles else function_item (function_with_tiles c f) ∷ []

abbrev pub tiled : Cut → ProgramText → ProgramText
tiled c p = flat_map (item_with_tiles c) p

-- ---- names

-- the names of all functions, globals, parameters and locals
abbrev pub used_names : ProgramText → List Text
used_names [] = []
used_names (global_item g ∷ items) = g.name ∷ used_names items
used_names (function_item f ∷ items) = f.name ∷ (parameter_texts f.params ++ (names_of f.locals ++ used_names items))

-- the first name of so many tiles from tile t on that something has
abbrev pub taken_from : List Text → Text → ℕ → ℕ → Option Text
taken_from names name t zero = None
taken_from names name t (suc n) = if has_name names (tile_name name t) then Some (tile_name name t) else taken_from names name (t + 1) n

-- the names of so many tiles from tile t on
abbrev pub tile_names : Text → ℕ → ℕ → List Text
tile_names name t zero = []
tile_names name t (suc n) = tile_name name t ∷ tile_names name (t + 1) n
