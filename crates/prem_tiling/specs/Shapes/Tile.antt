-- The program with tiles, or the first reason why there is none.
use Rattle.std.specs.Prelude.{ℕ, nat_lt, Bool, true, false, ◌||◌, if◌then◌else◌, List, [], ◌∷◌, length, Option, None, Some, Result, Ok, Err}
use Rattle.prem_tiling.specs.Prelude.{in_limits, functions_of, globals_of, Text, FunctionText, ProgramText, list_any}
use Rattle.prem_syntax.specs.Rules.{Breach}
use Rattle.prem_tiling.specs.Shapes.Carried.{names_of, carried_in}
use Rattle.prem_tiling.specs.Shapes.Shape.{Loop, marked_named, shape_of, turns_of}
use Rattle.prem_tiling.specs.Shapes.Tiled.{Cut, tile_names, tiled, used_names, taken_from}

-- why a function can't be cut; the lines are those of the function and of the first read of a carried local
pub data TileRule : Type 0 where
  no_function : TileRule
  shape : ℕ → TileRule
  carry : ℕ → TileRule
  turns : ℕ → TileRule
  taken : Text → TileRule
  limit : TileRule

-- whether a text of this program would be past a limit of texts
abbrev pub Past : Type 0
Past = ProgramText → Bool

abbrev pub has_breach : List Breach → Bool
has_breach [] = false
has_breach (b ∷ bs) = true

-- a limit of programs is broken, a tile's name is longer than names may be, or the text is past its limits
abbrev pub is_past : Past → Cut → ProgramText → Bool
is_past past c q = has_breach (in_limits (globals_of q) (functions_of q)) || list_any (λ (n : Text). nat_lt 64 (length n)) (tile_names c.function.name 0 c.tiles) || past q

-- ---- the reasons in their order, from the last one

abbrev pub unless_past : Past → Cut → ProgramText → Result ProgramText TileRule
unless_past past c p = if is_past past c (tiled c p) then Err limit else Ok (tiled c p)

abbrev pub unless_taken : Past → Cut → ProgramText → Option Text → Result ProgramText TileRule
unless_taken past c p None = unless_past past c p
unless_taken past c p (Some name) = Err (taken name)

abbrev pub unless_few : Past → Cut → ProgramText → Result ProgramText TileRule
unless_few past c p =
    if nat_lt (turns_of c.loop) c.tiles then Err (turns (turns_of c.loop)) else unless_taken past c p (taken_from (used_names p) c.function.name 0 c.tiles)

abbrev pub unless_carried : Past → Cut → ProgramText → Option ℕ → Result ProgramText TileRule
unless_carried past c p None = unless_few past c p
unless_carried past c p (Some line) = Err (carry line)

abbrev pub cut_by : FunctionText → ℕ → ℕ → Loop → Cut
cut_by f tiles stated l = record { function = f; loop = l; tiles = tiles; stated = stated }

abbrev pub of_shape : Past → ProgramText → FunctionText → ℕ → ℕ → Option Loop → Result ProgramText TileRule
of_shape past p f tiles stated None = Err (shape f.at.line)
of_shape past p f tiles stated (Some l) = unless_carried past (cut_by f tiles stated l) p (carried_in (names_of f.locals) l.body)

abbrev pub of_function : Past → ProgramText → ℕ → ℕ → Option FunctionText → Result ProgramText TileRule
of_function past p tiles stated None = Err no_function
of_function past p tiles stated (Some f) = of_shape past p f tiles stated (shape_of f)

-- the marked function with a name cut into so many tiles of a stated length
abbrev pub tile : Past → ProgramText → Text → ℕ → ℕ → Result ProgramText TileRule
tile past p name tiles stated = of_function past p tiles stated (marked_named (functions_of p) name)
