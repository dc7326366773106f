-- Resolved programs with all places put aside, as trees are by `unplaced`, and outcomes with the lines at which they are wrong put aside.
use Rattle.std.specs.Prelude.{◌≡◌, ℕ, List, map, Option, None, Some, Ok, Err}
use Rattle.std.specs.Option.{option_map}
use Rattle.prem_syntax.specs.Syntax.{ProgramText}
use Rattle.prem_syntax.specs.Resolved.{Term, Constant, Local, Scalar, Element, Unary, Binary, AndAlso, OrElse, Steps, Done, SetLocal, SetScalar, SetElement, Output, Input, If, For}
use Rattle.prem_syntax.specs.Resolved.{While, Call, Routine, Resolved}
use Rattle.prem_syntax.specs.Expressions.{Outcome}
use Rattle.prem_syntax.specs.Source.{source}
use Rattle.prem_text.specs.Grammar.Reader.{nowhere}
use Rattle.prem_text.specs.Canonical.Unplaced.{unplaced_global, unplaced_function, unplaced}

abbrev pub unplaced_term : Term → Term
unplaced_term (Constant at word kind) = Constant nowhere word kind
unplaced_term (Local at number kind) = Local nowhere number kind
unplaced_term (Scalar at global ty) = Scalar nowhere global ty
unplaced_term (Element at global ty index) = Element nowhere global ty (unplaced_term index)
unplaced_term (Unary at op operand) = Unary nowhere op (unplaced_term operand)
unplaced_term (Binary at op kind left right) = Binary nowhere op kind (unplaced_term left) (unplaced_term right)
unplaced_term (AndAlso at left right) = AndAlso nowhere (unplaced_term left) (unplaced_term right)
unplaced_term (OrElse at left right) = OrElse nowhere (unplaced_term left) (unplaced_term right)

abbrev pub unplaced_steps : Steps → Steps
unplaced_steps Done = Done
unplaced_steps (SetLocal at number value rest) = SetLocal nowhere number (unplaced_term value) (unplaced_steps rest)
unplaced_steps (SetScalar at global ty value rest) = SetScalar nowhere global ty (unplaced_term value) (unplaced_steps rest)
unplaced_steps (SetElement at global ty index value rest) = SetElement nowhere global ty (unplaced_term index) (unplaced_term value) (unplaced_steps rest)
unplaced_steps (Output at value rest) = Output nowhere (unplaced_term value) (unplaced_steps rest)
unplaced_steps (Input at number rest) = Input nowhere number (unplaced_steps rest)
unplaced_steps (If at condition taken other rest) = If nowhere (unplaced_term condition) (unplaced_steps taken) (unplaced_steps other) (unplaced_steps rest)
unplaced_steps (For at number low closed high step turns body rest) =
    For nowhere number (unplaced_term low) closed (unplaced_term high) step turns (unplaced_steps body) (unplaced_steps rest)
unplaced_steps (While at turns condition body rest) = While nowhere turns (unplaced_term condition) (unplaced_steps body) (unplaced_steps rest)
unplaced_steps (Call at target callee arguments rest) = Call nowhere target callee (map unplaced_term arguments) (unplaced_steps rest)

abbrev pub unplaced_routine : Routine → Routine
unplaced_routine f = record {
  text = unplaced_function f.text;
  locals = map unplaced_term f.locals;
  body = unplaced_steps f.body;
  result = option_map unplaced_term f.result;
}

abbrev pub unplaced_routines : List Routine → List Routine
unplaced_routines fs = map unplaced_routine fs

abbrev pub unplaced_resolved : Resolved → Resolved
unplaced_resolved p = record { globals = map unplaced_global p.globals; routines = unplaced_routines p.routines; job = p.job }

-- ---- runs

-- what an outcome gives, if it isn't wrong
abbrev pub unlined : {A : Type 0} → Outcome A → Option A
unlined (Ok x) = Some x
unlined (Err line) = None

-- programs that are the same, places aside, do the same: globals, outputs, marked calls and input words used are the same, and where one
-- goes wrong the other does
abbrev pub RunsFollowNoPlace : Type 0
RunsFollowNoPlace = (p q : ProgramText) → unplaced p ≡ unplaced q → (inputs : List ℕ) (jobs : ℕ) → unlined (source p inputs jobs) ≡ unlined (source q inputs jobs)
