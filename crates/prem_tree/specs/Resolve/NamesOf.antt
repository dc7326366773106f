-- The names and the functions behind items.
use Rattle.std.specs.Prelude.{◌≡◌, List}
use Rattle.prem_syntax.specs.Syntax.{FunctionText, ProgramText}
use Rattle.prem_syntax.specs.Resolve.{Scope, globals_of}
use Rattle.prem_tree.specs.declared.resolve.resolved.Routine.{Routine}
use Rattle.prem_tree.specs.Resolve.ResolvedOf.{AreRoutines}

-- the names behind items, and the functions among them as routines
pub record AreBehind (names : Scope) (rs : List Routine) (functions : List FunctionText) (items : ProgramText) : Type 0 where
  pub functions_are : names.functions ≡ functions
  pub globals_are : names.globals ≡ globals_of items
  pub routines_are : AreRoutines rs functions items
