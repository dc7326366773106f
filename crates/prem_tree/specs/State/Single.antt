-- What single statements in memory do.
use Rattle.std.specs.Prelude.{ℕ, Bool, Ok}
use Rattle.prem_syntax.specs.declared.tree.Ty.{Ty}
use Rattle.prem_syntax.specs.Resolved.{Term}
use Rattle.prem_syntax.specs.Expressions.{Outcome, and_then}
use Rattle.prem_syntax.specs.Statements.{ProgramState, value, with_local, store, with_output, with_mark}
use Rattle.prem_syntax.specs.Source.{everywhere}
use Rattle.prem_tree.specs.State.Interpreter.{noted}

abbrev pub do_set_local : ℕ → Term → ProgramState → Outcome ProgramState
do_set_local k e s = and_then (value everywhere s e) (λ w. Ok (with_local k w s))

abbrev pub do_set_scalar : ℕ → ℕ → Ty → Term → ProgramState → Outcome ProgramState
do_set_scalar line g ty e s = and_then (value everywhere s e) (λ w. store everywhere line ty g 0 w s)

abbrev pub do_set_element : ℕ → ℕ → Ty → Term → Term → ProgramState → Outcome ProgramState
do_set_element line g ty index e s =
    and_then (value everywhere s e) (λ w. and_then (value everywhere s index) (λ j. store everywhere line ty g j w s))

abbrev pub do_output : Term → ProgramState → Outcome ProgramState
do_output e s = and_then (value everywhere s e) (λ w. Ok (with_output w s))

-- a call is noted, if the function is marked
abbrev pub noted_in : Bool → ℕ → ProgramState → ProgramState
noted_in marked n s = record s { marks = with_mark marked (noted n) s.marks }
