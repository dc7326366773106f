-- A resolved program has the counting loops of its text.
use Rattle.std.specs.Option.{option_map}
use Rattle.std.proofs.Common.{◌≡◌, ℕ, ◌+◌, List, [], ◌∷◌, ◌++◌, length, Option, None, Some, refl, ap, ◌∙◌, sym, arith, map}
use Rattle.prem_list.specs.Sequence.{items_of}
use Rattle.prem_syntax.specs.declared.tree.Place.{Place}
use Rattle.prem_syntax.specs.declared.meaning.Meaning.{Meaning}
use Rattle.prem_syntax.specs.declared.meaning.Meaning.TheVariants.{Nothing, Local as LocalName, Scalar as ScalarName, Array as ArrayName, Function as FunctionName}
use Rattle.prem_syntax.specs.Syntax.{Statement, block, if_then, if_else, bounded_while, counting_for, assign, output, input, call, Statements, no_statements, next_statement}
use Rattle.prem_syntax.specs.Syntax.{GlobalVariable, FunctionText, ProgramText, global_item, function_item}
use Rattle.prem_syntax.specs.Resolve.{Scope, meaning_of, set_steps, input_steps, call_steps, target_of, number_named, loops_in, loops_within, scope_in, functions_of, resolve_term}
use Rattle.prem_syntax.specs.Resolve.{resolve_statement, resolve_statements, resolve_items}
use Rattle.prem_syntax.specs.Resolved.{Term, Steps, Done, SetLocal, SetScalar, SetElement, Output, Input, If, For, While, Call, Routine, Resolved}
use Rattle.prem_tree.specs.declared.resolve.resolved.Step.{Step, Row_of-Step, end_of-Step, more_of-Step}
use Rattle.prem_tree.specs.declared.resolve.resolved.Step.TheVariants.{Block', SetLocal as SetLocalTree, SetScalar as SetScalarTree, SetElement as SetElementTree}
use Rattle.prem_tree.specs.declared.resolve.resolved.Step.TheVariants.{Output as OutputTree, Input as InputTree, If', For', While', Call as CallTree}
use Rattle.prem_tree.specs.declared.resolve.resolved.Routine.{Routine as RoutineTree}
use Rattle.prem_tree.specs.declared.resolve.resolved.Resolved.{Resolved as ResolvedTree}
use Rattle.prem_tree.specs.Resolve.ResolvedOf.{loops_of, row_loops, step_before, row_before, routines_of, all_loops, item_loops, IsResolved}
use Rattle.prem_gen.proofs.TableLemmas.Parts.{length_same}

abbrev pub fors : Steps → ℕ
fors Done = 0
fors (SetLocal at k value rest) = fors rest
fors (SetScalar at g ty value rest) = fors rest
fors (SetElement at g ty index value rest) = fors rest
fors (Output at value rest) = fors rest
fors (Input at k rest) = fors rest
fors (If at condition taken other rest) = fors taken + fors other + fors rest
fors (For at k low closed high step turns body rest) = 1 + fors body + fors rest
fors (While at turns condition body rest) = fors body + fors rest
fors (Call at target f arguments rest) = fors rest

abbrev all_fors : List Routine → ℕ
all_fors [] = 0
all_fors (f ∷ fs) = fors f.body + all_fors fs

-- ---- in memory

mutual
  fors_before : (turns : ℕ → ℕ) (m : ℕ) (s : Step) (rest : Steps) → fors (step_before turns m s rest) ≡ loops_of s + fors rest
  fors_before turns m (Block' shape body) rest = row_fors turns m body rest
  fors_before turns m (SetLocalTree at k value) rest = omega arith
  fors_before turns m (SetScalarTree at g ty value) rest = omega arith
  fors_before turns m (SetElementTree at g ty index value) rest = omega arith
  fors_before turns m (OutputTree at value) rest = omega arith
  fors_before turns m (InputTree at k) rest = omega arith
  fors_before turns m (If' at condition p taken q other) rest = omega (arith, fors_before turns m taken Done, fors_before turns (m + loops_of taken) other Done)
  fors_before turns m (For' at k low closed high step p body) rest = omega (arith, fors_before turns (m + 1) body Done)
  fors_before turns m (While' at most condition p body) rest = omega (arith, fors_before turns m body Done)
  fors_before turns m (CallTree at target f arguments) rest = omega arith

  row_fors : {l : _} (turns : ℕ → ℕ) (m : ℕ) (row : Row_of-Step l) (rest : Steps) → fors (row_before turns m row rest) ≡ row_loops row + fors rest
  row_fors turns m end_of-Step rest = omega arith
  row_fors turns m (more_of-Step first others) rest =
      omega (arith, fors_before turns m first (row_before turns (m + loops_of first) others rest), row_fors turns (m + loops_of first) others rest)

trees_fors : (turns : ℕ → ℕ) (m : ℕ) (rs : List RoutineTree) → all_fors (routines_of turns m rs) ≡ all_loops rs
trees_fors turns m [] = refl
trees_fors turns m (r ∷ rs) = omega (arith, fors_before turns m r.body Done, trees_fors turns (m + loops_of r.body) rs)

-- ---- in the text

set_fors : (at : Place) (m : Meaning) (index : Option Term) (value : Term) (rest : Steps) → fors (set_steps at m index value rest) ≡ fors rest
set_fors at (LocalName number ty) None value rest = refl
set_fors at (ScalarName number ty) None value rest = refl
set_fors at (ArrayName number ty len) None value rest = refl
set_fors at (FunctionName number) None value rest = refl
set_fors at Nothing None value rest = refl
set_fors at (LocalName number ty) (Some i) value rest = refl
set_fors at (ScalarName number ty) (Some i) value rest = refl
set_fors at (ArrayName number ty len) (Some i) value rest = refl
set_fors at (FunctionName number) (Some i) value rest = refl
set_fors at Nothing (Some i) value rest = refl

input_fors : (at : Place) (m : Meaning) (rest : Steps) → fors (input_steps at m rest) ≡ fors rest
input_fors at (LocalName number ty) rest = refl
input_fors at (ScalarName number ty) rest = refl
input_fors at (ArrayName number ty len) rest = refl
input_fors at (FunctionName number) rest = refl
input_fors at Nothing rest = refl

call_fors : (at : Place) (target f : Option ℕ) (arguments : List Term) (rest : Steps) → fors (call_steps at target f arguments rest) ≡ fors rest
call_fors at target None arguments rest = refl
call_fors at target (Some f) arguments rest = refl

mutual
  fors_resolved : (scope : Scope) (turns : ℕ → ℕ) (n : ℕ) (s : Statement) (rest : Steps) → fors (resolve_statement scope turns n s rest) ≡ loops_in s + fors rest
  fors_resolved scope turns n (block at body) rest = fors_among scope turns n body rest
  fors_resolved scope turns n (if_then at condition taken) rest = omega (arith, fors_resolved scope turns n taken Done)
  fors_resolved scope turns n (if_else at condition taken other) rest =
      omega (arith, fors_resolved scope turns n taken Done, fors_resolved scope turns (n + loops_in taken) other Done)
  fors_resolved scope turns n (bounded_while at most condition body) rest = omega (arith, fors_resolved scope turns n body Done)
  fors_resolved scope turns n (counting_for at names low closed high step body) rest = omega (arith, fors_resolved scope turns (n + 1) body Done)
  fors_resolved scope turns n (assign at name index value) rest =
      omega (arith, set_fors at (meaning_of scope name) (option_map (resolve_term scope) index) (resolve_term scope value) rest)
  fors_resolved scope turns n (output at value) rest = omega arith
  fors_resolved scope turns n (input at name) rest = omega (arith, input_fors at (meaning_of scope name) rest)
  fors_resolved scope turns n (call at target callee arguments) rest =
      omega (arith, call_fors at (target_of scope target) (number_named scope.functions callee) (map (resolve_term scope) arguments) rest)

  pub fors_among : (scope : Scope) (turns : ℕ → ℕ) (n : ℕ) (ss : Statements) (rest : Steps) → fors (resolve_statements scope turns n ss rest) ≡ loops_within ss + fors rest
  fors_among scope turns n no_statements rest = omega arith
  fors_among scope turns n (next_statement first others) rest =
      omega (arith, fors_resolved scope turns n first (resolve_statements scope turns (n + loops_in first) others rest), fors_among scope turns (n + loops_in first) others rest)

items_fors : (fs : List FunctionText) (turns : ℕ → ℕ) (n : ℕ) (gs : List GlobalVariable) (items : ProgramText) → all_fors (resolve_items fs turns n gs items) ≡ item_loops items
items_fors fs turns n gs [] = refl
items_fors fs turns n gs (global_item g ∷ items) = items_fors fs turns n (gs ++ g ∷ []) items
items_fors fs turns n gs (function_item f ∷ items) =
    omega (arith, fors_among (scope_in fs gs f) turns n f.body Done, items_fors fs turns (n + loops_within f.body) gs items)

pub loops_resolved : (r : ResolvedTree) (p : ProgramText) → IsResolved r p → all_loops (items_of r.routines) ≡ item_loops p
loops_resolved r p is =
    let none : ℕ → ℕ = λ n. 0 in
    sym (trees_fors none 0 (items_of r.routines))
    ∙ ap (λ (q : Resolved). all_fors q.routines) (is.same none)
    ∙ items_fors (functions_of p) none 0 [] p

-- ---- functions

count_items : (fs : List FunctionText) (turns : ℕ → ℕ) (n : ℕ) (gs : List GlobalVariable) (items : ProgramText) → length (resolve_items fs turns n gs items) ≡ length (functions_of items)
count_items fs turns n gs [] = refl
count_items fs turns n gs (global_item g ∷ items) = count_items fs turns n (gs ++ g ∷ []) items
count_items fs turns n gs (function_item f ∷ items) = omega (arith, count_items fs turns (n + loops_within f.body) gs items)

pub routines_count : (r : ResolvedTree) (p : ProgramText) → IsResolved r p → length (items_of r.routines) ≡ length (functions_of p)
routines_count r p is =
    let none : ℕ → ℕ = λ n. 0 in
    sym (length_same none 0 (items_of r.routines))
    ∙ ap (λ (q : Resolved). length q.routines) (is.same none)
    ∙ count_items (functions_of p) none 0 [] p
