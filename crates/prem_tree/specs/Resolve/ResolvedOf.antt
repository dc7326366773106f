-- What resolved trees in memory stand for.
use Rattle.std.specs.Prelude.{◌≡◌, ℕ, ◌+◌, List, [], ◌∷◌, map}
use Rattle.std.specs.Option.{option_map}
use Rattle.prem_list.specs.Sequence.{items_of}
use Rattle.prem_syntax.specs.Syntax.{GlobalVariable, FunctionText, ProgramText, global_item, function_item}
use Rattle.prem_syntax.specs.SyntaxOf.{global_of, function_of}
use Rattle.prem_syntax.specs.Resolve.{loops_within, resolve_function, resolve_items, resolve}
use Rattle.prem_syntax.specs.Resolved.{Term, Constant, Local, Scalar, Element, Unary, operator, Steps, Done, SetLocal, SetScalar, SetElement, Output, Input, If, For, While, Call, Routine, Resolved}
use Rattle.prem_tree.specs.declared.resolve.resolved.Term.{Term as TermTree}
use Rattle.prem_tree.specs.declared.resolve.resolved.Term.TheVariants.{Constant as ConstantTree, Local as LocalTree, Scalar as ScalarTree, Element' as ElementTree}
use Rattle.prem_tree.specs.declared.resolve.resolved.Term.TheVariants.{Unary' as UnaryTree, Binary' as BinaryTree}
use Rattle.prem_tree.specs.declared.resolve.resolved.Step.{Step, Row_of-Step, end_of-Step, more_of-Step}
use Rattle.prem_tree.specs.declared.resolve.resolved.Step.TheVariants.{Block', SetLocal as SetLocalTree, SetScalar as SetScalarTree, SetElement as SetElementTree}
use Rattle.prem_tree.specs.declared.resolve.resolved.Step.TheVariants.{Output as OutputTree, Input as InputTree, If', For', While', Call as CallTree}
use Rattle.prem_tree.specs.declared.resolve.resolved.Routine.{Routine as RoutineTree}
use Rattle.prem_tree.specs.declared.resolve.resolved.Resolved.{Resolved as ResolvedTree}

abbrev pub term_of : TermTree → Term
term_of (ConstantTree at word kind) = Constant at word kind
term_of (LocalTree at number kind) = Local at number kind
term_of (ScalarTree at g ty) = Scalar at g ty
term_of (ElementTree at g ty p index) = Element at g ty (term_of index)
term_of (UnaryTree at op p operand) = Unary at op (term_of operand)
term_of (BinaryTree at op kind p left right) = operator at op kind (term_of left) (term_of right)

-- the counting loops of a step
abbrev mutual
  pub loops_of : Step → ℕ
  loops_of (Block' shape body) = row_loops body
  loops_of (SetLocalTree at number value) = 0
  loops_of (SetScalarTree at g ty value) = 0
  loops_of (SetElementTree at g ty index value) = 0
  loops_of (OutputTree at value) = 0
  loops_of (InputTree at number) = 0
  loops_of (If' at condition p taken q other) = loops_of taken + loops_of other
  loops_of (For' at number low closed high step p body) = 1 + loops_of body
  loops_of (While' at turns condition p body) = loops_of body
  loops_of (CallTree at target callee arguments) = 0

  pub row_loops : {m : _} → Row_of-Step m → ℕ
  row_loops end_of-Step = 0
  row_loops (more_of-Step first rest) = loops_of first + row_loops rest

-- a step before others, where the loops from number n on have so many turns
abbrev mutual
  pub step_before : (ℕ → ℕ) → ℕ → Step → Steps → Steps
  step_before turns n (Block' shape body) rest = row_before turns n body rest
  step_before turns n (SetLocalTree at number value) rest = SetLocal at number (term_of value) rest
  step_before turns n (SetScalarTree at g ty value) rest = SetScalar at g ty (term_of value) rest
  step_before turns n (SetElementTree at g ty index value) rest = SetElement at g ty (term_of index) (term_of value) rest
  step_before turns n (OutputTree at value) rest = Output at (term_of value) rest
  step_before turns n (InputTree at number) rest = Input at number rest
  step_before turns n (If' at condition p taken q other) rest =
      If at (term_of condition) (step_before turns n taken Done) (step_before turns (n + loops_of taken) other Done) rest
  step_before turns n (For' at number low closed high step p body) rest =
      For at number (term_of low) closed (term_of high) step (turns n) (step_before turns (n + 1) body Done) rest
  step_before turns n (While' at most condition p body) rest = While at most (term_of condition) (step_before turns n body Done) rest
  step_before turns n (CallTree at target callee arguments) rest = Call at target callee (map term_of (items_of arguments)) rest

  pub row_before : {m : _} → (ℕ → ℕ) → ℕ → Row_of-Step m → Steps → Steps
  row_before turns n end_of-Step rest = rest
  row_before turns n (more_of-Step first others) rest = step_before turns n first (row_before turns (n + loops_of first) others rest)

-- the steps of a list
abbrev pub list_loops : List Step → ℕ
list_loops [] = 0
list_loops (first ∷ others) = loops_of first + list_loops others

abbrev pub list_before : (ℕ → ℕ) → ℕ → List Step → Steps → Steps
list_before turns n [] rest = rest
list_before turns n (first ∷ others) rest = step_before turns n first (list_before turns (n + loops_of first) others rest)

-- a step in memory stands for steps before others, among them so many loops
pub record IsStep (s : Step) (steps : (ℕ → ℕ) → ℕ → Steps → Steps) (loops : ℕ) : Type 0 where
  pub same : (turns : ℕ → ℕ) (n : ℕ) (rest : Steps) → step_before turns n s rest ≡ steps turns n rest
  pub counted : loops_of s ≡ loops

pub record AreSteps (ss : List Step) (steps : (ℕ → ℕ) → ℕ → Steps → Steps) (loops : ℕ) : Type 0 where
  pub same : (turns : ℕ → ℕ) (n : ℕ) (rest : Steps) → list_before turns n ss rest ≡ steps turns n rest
  pub counted : list_loops ss ≡ loops

abbrev pub routine_of : (ℕ → ℕ) → ℕ → RoutineTree → Routine
routine_of turns n r = record {
  text = function_of r.text.now;
  locals = map term_of (items_of r.locals);
  body = step_before turns n r.body Done;
  result = option_map term_of r.result;
}

-- the functions from a list, the first behind n loops
abbrev pub routines_of : (ℕ → ℕ) → ℕ → List RoutineTree → List Routine
routines_of turns n [] = []
routines_of turns n (r ∷ rs) = routine_of turns n r ∷ routines_of turns (n + loops_of r.body) rs

-- a routine in memory is a function, resolved behind globals
pub record IsRoutine (r : RoutineTree) (functions : List FunctionText) (globals : List GlobalVariable) (f : FunctionText) : Type 0 where
  pub same : (turns : ℕ → ℕ) (n : ℕ) → routine_of turns n r ≡ resolve_function functions turns n globals f
  pub counted : loops_of r.body ≡ loops_within f.body

-- the counting loops of routines, and of the functions among items
abbrev pub all_loops : List RoutineTree → ℕ
all_loops [] = 0
all_loops (r ∷ rs) = loops_of r.body + all_loops rs

abbrev pub item_loops : ProgramText → ℕ
item_loops [] = 0
item_loops (global_item g ∷ items) = item_loops items
item_loops (function_item f ∷ items) = loops_within f.body + item_loops items

-- routines in memory are the functions among items
pub record AreRoutines (rs : List RoutineTree) (functions : List FunctionText) (items : ProgramText) : Type 0 where
  pub same : (turns : ℕ → ℕ) (n : ℕ) → routines_of turns n rs ≡ resolve_items functions turns n [] items
  pub counted : all_loops rs ≡ item_loops items

abbrev pub resolved_of : (ℕ → ℕ) → ResolvedTree → Resolved
resolved_of turns r = record {
  globals = map (λ g. global_of g.now) r.globals.items;
  routines = routines_of turns 0 (items_of r.routines);
  job = r.job;
}

-- a resolved program in memory
pub record IsResolved (r : ResolvedTree) (p : ProgramText) : Type 0 where
  pub same : (turns : ℕ → ℕ) → resolved_of turns r ≡ resolve turns p
