-- What steps and functions in memory do. A marked call is noted by its function alone.
use Rattle.std.specs.Prelude.{ℕ, zero, suc, ◌^◌, ◌==◌, Bool, true, false, List, [], ◌∷◌, map, length, slice_get, is_some, Option, None, Some, Ok, Err}
use Rattle.std.specs.Option.{option_map}
use Rattle.prem_list.specs.Sequence.{items_of}
use Rattle.prem_syntax.specs.Resolved.{Term}
use Rattle.prem_syntax.specs.Expressions.{Outcome, and_then}
use Rattle.prem_syntax.specs.Statements.{ProgramState, choose, values, take_input, holds, loop_test, loop_step, counting, bounded, with_target, declare, result_of}
use Rattle.prem_syntax.specs.Source.{everywhere}
use Rattle.prem_tree.specs.declared.resolve.resolved.Step.{Step, Row_of-Step, end_of-Step, more_of-Step}
use Rattle.prem_tree.specs.declared.resolve.resolved.Step.TheVariants.{Block', SetLocal, SetScalar, SetElement, Output, Input, If', For', While', Call}
use Rattle.prem_tree.specs.declared.resolve.resolved.Routine.{Routine}
use Rattle.prem_tree.specs.Resolve.ResolvedOf.{term_of}
use Rattle.prem_tree.specs.State.Single.{do_set_local, do_set_scalar, do_set_element, do_output, noted_in}

-- what a call does: the function's number, the arguments
abbrev pub NotedCalls : Type 0
NotedCalls = ℕ → List ℕ → ProgramState → Outcome (ℕ × ProgramState)

abbrev pub do_counting : ℕ → ℕ → ℕ → Bool → Term → ℕ → (ProgramState → Outcome ProgramState) → ProgramState → Outcome ProgramState
do_counting turns line k closed high step body s =
    counting line turns (loop_test everywhere k closed high) (λ t. and_then (body t) (loop_step line k step)) s

abbrev pub do_call : NotedCalls → Option ℕ → ℕ → List Term → ProgramState → Outcome ProgramState
do_call calls target f es s =
    and_then (values everywhere s es) (λ ws. and_then (calls f ws s) (λ r. Ok (with_target target r.0 r.1)))

-- a step, where calls do what is told
abbrev mutual
  pub do_step : NotedCalls → Step → ProgramState → Outcome ProgramState
  do_step calls (Block' shape body) s = do_row calls body s
  do_step calls (SetLocal at k e) s = do_set_local k (term_of e) s
  do_step calls (SetScalar at g ty e) s = do_set_scalar at.line g ty (term_of e) s
  do_step calls (SetElement at g ty index e) s = do_set_element at.line g ty (term_of index) (term_of e) s
  do_step calls (Output at e) s = do_output (term_of e) s
  do_step calls (Input at k) s = Ok (take_input k s.inputs s)
  do_step calls (If' at condition p taken q other) s =
      and_then (holds everywhere (term_of condition) s) (λ c. choose c (do_step calls taken) (do_step calls other) s)
  do_step calls (For' at k low closed high step p body) s =
      and_then (do_set_local k (term_of low) s) (do_counting (2 ^ 32) at.line k closed (term_of high) step (do_step calls body))
  do_step calls (While' at turns condition p body) s = bounded turns (holds everywhere (term_of condition)) (do_step calls body) s
  do_step calls (Call at target f arguments) s = do_call calls target f (map term_of (items_of arguments)) s

  pub do_row : {m : _} → NotedCalls → Row_of-Step m → ProgramState → Outcome ProgramState
  do_row calls end_of-Step s = Ok s
  do_row calls (more_of-Step first rest) s = and_then (do_step calls first s) (do_row calls rest)

-- steps, one after another
abbrev pub do_list : NotedCalls → List Step → ProgramState → Outcome ProgramState
do_list calls [] s = Ok s
do_list calls (first ∷ rest) s = and_then (do_step calls first s) (do_list calls rest)

-- back in the caller, whose state was s: its locals stand, and a marked call is noted
abbrev pub back_in : Routine → ℕ → ProgramState → ProgramState → ProgramState
back_in r n s u = noted_in (is_some r.text.now.mark) n (record u { locals = s.locals })

-- a function with its arguments; it gives the result and the caller's state behind it
abbrev pub do_routine : NotedCalls → Routine → ℕ → List ℕ → ProgramState → Outcome (ℕ × ProgramState)
do_routine calls r n ws s =
    and_then (declare everywhere (map term_of (items_of r.locals)) (record s { locals = ws })) (λ t.
    and_then (do_step calls r.body t) (λ u.
    and_then (result_of everywhere (option_map term_of r.result) u) (λ w. Ok (w, back_in r n s u))))

abbrev pub do_if_there : NotedCalls → Option Routine → ℕ → List ℕ → ProgramState → Outcome (ℕ × ProgramState)
do_if_there calls None n ws s = Err 0
do_if_there calls (Some r) n ws s = do_routine calls r n ws s

abbrev pub this_or_others : Bool → Outcome (ℕ × ProgramState) → Outcome (ℕ × ProgramState) → Outcome (ℕ × ProgramState)
this_or_others true this others = this
this_or_others false this others = others

-- calls of the functions below a number
abbrev pub noted_calls : List Routine → ℕ → NotedCalls
noted_calls routines zero f ws s = Err 0
noted_calls routines (suc n) f ws s =
    this_or_others (f == n) (do_if_there (noted_calls routines n) (slice_get routines n) n ws s) (noted_calls routines n f ws s)

-- jobs, one after another
abbrev pub noted_jobs : List Routine → ℕ → ℕ → ProgramState → Outcome ProgramState
noted_jobs routines job zero s = Ok s
noted_jobs routines job (suc n) s = and_then (noted_calls routines (length routines) job [] s) (λ r. noted_jobs routines job n r.1)
