-- Short forms for the trees of examples.
use Rattle.std.proofs.Common.{ℕ, List, [], ◌∷◌, Option, None, ℤ}
use Rattle.prem_word.specs.declared.kind.Kind.TheVariants.{Int, Unsigned}
use Rattle.prem_syntax.specs.declared.tree.Place.{Place}
use Rattle.prem_syntax.specs.declared.tree.Ty.{Ty}
use Rattle.prem_syntax.specs.declared.tree.Ty.TheVariants.{Void}
use Rattle.prem_syntax.specs.Syntax.{Text, Expression, literal, LoopNames, Statement, Statements, no_statements, next_statement, Parameter, LocalVariable, RegionText, MarkText}
use Rattle.prem_syntax.specs.Syntax.{InitialValue, ItemText, global_item, function_item}

abbrev pub at : ℕ → ℕ → Place
at line col = record { line = line; col = col }

-- literals at a line and column
abbrev pub int : ℕ → ℕ → ℕ → Expression
int line col value = literal (at line col) value Int

abbrev pub uint : ℕ → ℕ → ℕ → Expression
uint line col value = literal (at line col) value Unsigned

abbrev pub statements : List Statement → Statements
statements [] = no_statements
statements (s ∷ ss) = next_statement s (statements ss)

abbrev pub one_name : Text → LoopNames
one_name name = record { first = name; second = name; third = name; fourth = name }

abbrev pub parameter : Place → Ty → Text → Option (ℤ × ℤ) → Parameter
parameter at ty name range = record { at = at; ty = ty; name = name; range = range }

abbrev pub local : Place → Ty → Text → Expression → LocalVariable
local at ty name value = record { at = at; ty = ty; name = name; value = value }

abbrev pub region : Place → Text → ℕ → ℕ → RegionText
region at name low high = record { at = at; name = name; low = low; high = high }

abbrev pub global : Place → Ty → Text → Option ℕ → InitialValue → ItemText
global at ty name len initial = global_item (record { at = at; ty = ty; name = name; len = len; initial = initial })

abbrev pub function : Place → Option MarkText → Ty → Text → List Parameter → List LocalVariable → Statements → Option Expression → ItemText
function at mark ty name params locals body result =
    function_item (record { at = at; mark = mark; ty = ty; name = name; params = params; locals = locals; body = body; result = result })

-- an unmarked void function without parameters and locals
abbrev pub plain : Place → Text → Statements → ItemText
plain at name body = function at None Void name [] [] body None
