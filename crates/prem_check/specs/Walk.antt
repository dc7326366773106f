-- The items of a program that are passed, and what is broken behind them.
use Rattle.std.specs.Prelude.{◌≡◌, ◌+◌, Bool, List, [], ◌∷◌, ◌++◌, Option}
use Rattle.prem_syntax.specs.Syntax.{Text, GlobalVariable, FunctionText, ProgramText}
use Rattle.prem_syntax.specs.Rules.{Breach, first_of}
use Rattle.prem_syntax.specs.Breaches.{in_items}
use Rattle.prem_names.specs.Scopes.{scope_of}
use Rattle.prem_check.specs.declared.program.Walk.{Walk}

abbrev pub functions_in : Walk → List FunctionText
functions_in w = (scope_of w.names).functions

abbrev pub globals_in : Walk → List GlobalVariable
globals_in w = (scope_of w.names).globals

abbrev pub before_in : Walk → List Text
before_in w = w.before

-- the first breach among items behind those that are passed, where all items have these names and these functions are reached from marked ones
abbrev pub first_behind : Walk → List Text → List Bool → ProgramText → Option Breach
first_behind w taken within items = first_of (in_items (functions_in w) taken within w.number (globals_in w) (before_in w) items)

-- a global is passed
pub record BehindGlobal (after w : Walk) (g : GlobalVariable) : Type 0 where
  pub functions : functions_in after ≡ functions_in w
  pub globals : globals_in after ≡ globals_in w ++ g ∷ []
  pub before : before_in after ≡ before_in w ++ g.name ∷ []
  pub number : after.number ≡ w.number

-- a function is passed
pub record BehindFunction (after w : Walk) (f : FunctionText) : Type 0 where
  pub functions : functions_in after ≡ functions_in w
  pub globals : globals_in after ≡ globals_in w
  pub before : before_in after ≡ before_in w ++ f.name ∷ []
  pub number : after.number ≡ w.number + 1
