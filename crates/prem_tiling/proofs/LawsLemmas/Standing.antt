-- What the rules say of the function that is cut, and of its loop.
use Rattle.std.proofs.Common.{◌≡◌, ℕ, ◌+◌, ◌<◌, Bool, true, false, not, ◌&&◌, ◌||◌, List, [], ◌∷◌, ◌++◌, length, refl, ap, sym, ◌∙◌, subst, Option, None, Some, eqb, leb, is_some, is_none}
use Rattle.std.proofs.Common.{true≢false, IsTrue}
use Rattle.prem_tiling.proofs.Prelude.{Around, around, if_at, if_broken, is_job_name, is_marked_text, is_narrow, is_void, is_loop, in_names, in_expression, in_regions, regions_of}
use Rattle.prem_tiling.proofs.Prelude.{in_heading, in_parameters, in_locals, in_statement, in_statements, in_option, parameter_texts, in_function, in_items, item_names, in_limits, has_name}
use Rattle.prem_tiling.proofs.Prelude.{breaches, reached, first_breach, IsWellFormed, is_in_set, Scope, scope_at, scope_in, globals_of, functions_of, Breach, NoJob, Twice, OfTypes, LoopForm}
use Rattle.prem_tiling.proofs.Prelude.{Text, Expression, GlobalVariable, FunctionText, function_item, ProgramText, Loop, shape_of, marked_named, Cut, tiled, and_parts, leb-true, list_any}
use Rattle.prem_tiling.proofs.LawsLemmas.Formed.{none_left, none_right, kept_rule, kept_rule_not, none_broken, IsLoop, loop_parts}
use Rattle.prem_tiling.proofs.LawsLemmas.Lists.{names_of_functions, in_items_append, split_at}
use Rattle.prem_tiling.proofs.LawsLemmas.Placed.{has_append, same_name, functions_unnamed, heading_of, not_earlier, later_apart}
use Rattle.prem_tiling.proofs.LawsLemmas.Rules.{not_false}
use Rattle.prem_tiling.proofs.LawsLemmas.Shapes.{IsShape, low_end, high_end, shape_parts, statement_of}
use Rattle.prem_tiling.proofs.LawsLemmas.Tied.{neither_left, neither_right, either_right}
use Rattle.prem_syntax.specs.declared.rules.TypeRule.TheVariants as rule

is_none_means : {A : Type 0} (o : Option A) → IsTrue (is_none o) → o ≡ None
is_none_means None e = refl
is_none_means (Some x) e = cc

pub all_breaches : (p : ProgramText) → IsWellFormed p → breaches p ≡ []
unfolding first_breach
all_breaches p formed = none_broken (breaches p) (is_none_means (first_breach p) formed)

pub item_breaches : (p : ProgramText) → IsWellFormed p → in_items (functions_of p) (item_names p) (reached (functions_of p)) 0 [] [] p ≡ []
item_breaches p formed =
    none_right (in_limits (globals_of p) (functions_of p)
    ++ if_broken (not (list_any (λ (f : FunctionText). is_job_name f.name) (functions_of p))) None NoJob)
    (in_items (functions_of p) (item_names p) (reached (functions_of p)) 0 [] [] p) (all_breaches p formed)

-- what the rules say of a marked function
pub record IsMarkedOne (f : FunctionText) : Type 0 where
  pub void : is_void f.ty ≡ true
  pub other : is_job_name f.name ≡ false
  pub no_result : f.result ≡ None

pub marked_one : (earlier : List Text) (f : FunctionText) → in_heading earlier f ≡ [] → is_some f.mark ≡ true → IsMarkedOne f
marked_one earlier f e marked = record { void = void; other = neither_right (not (is_void f.ty)) (is_job_name f.name) none; no_result = by f.result returns }
  where
    twice : List Breach
    twice = if_at (has_name earlier f.name) f.at (Twice f.name)

    narrow : List Breach
    narrow = if_at (is_narrow f.ty) f.at (OfTypes rule.Narrow)

    result : List Breach
    result = if_at ((is_void f.ty && is_some f.result) || (not (is_void f.ty) && is_none f.result)) f.at (OfTypes rule.Return)

    mark : List Breach
    mark = if_at (is_marked_text f && (not (is_void f.ty) || is_job_name f.name)) f.at (OfTypes rule.Marked)

    job : List Breach
    job = if_at (is_job_name f.name && not (is_void f.ty && eqb (length f.params) 0)) f.at (OfTypes rule.Job)

    mark_rule : (is_marked_text f && (not (is_void f.ty) || is_job_name f.name)) ≡ false
    mark_rule = kept_rule (is_marked_text f && (not (is_void f.ty) || is_job_name f.name)) f.at (OfTypes rule.Marked)
        (none_right (twice ++ narrow ++ result) mark (none_left (twice ++ narrow ++ result ++ mark) job e))

    none : (not (is_void f.ty) || is_job_name f.name) ≡ false
    none = ap (λ b. b && (not (is_void f.ty) || is_job_name f.name)) (sym marked) ∙ mark_rule

    void : is_void f.ty ≡ true
    void = not_false (is_void f.ty) (neither_left (not (is_void f.ty)) (is_job_name f.name) none)

    returns : ((is_void f.ty && is_some f.result) || (not (is_void f.ty) && is_none f.result)) ≡ false
    returns = kept_rule ((is_void f.ty && is_some f.result) || (not (is_void f.ty) && is_none f.result)) f.at (OfTypes rule.Return)
        (none_right (twice ++ narrow) result (none_left (twice ++ narrow ++ result) mark (none_left (twice ++ narrow ++ result ++ mark) job e)))

    by : (r : Option Expression) → ((is_void f.ty && is_some r) || (not (is_void f.ty) && is_none r)) ≡ false → r ≡ None
    by None h = refl
    by (Some x) h = absurd (true≢false (sym void ∙ and_true (is_void f.ty) (neither_left (is_void f.ty && true) (not (is_void f.ty) && false) h)))
      where
        and_true : (b : Bool) → (b && true) ≡ false → b ≡ false
        and_true true k = k
        and_true false k = refl

-- ---- where it stands

module _ (c : Cut) (front back : ProgramText) (shaped : shape_of c.function ≡ Some c.loop) (formed : IsWellFormed (front ++ function_item c.function ∷ back)) where
  abbrev pub f : FunctionText
  f = c.function

  abbrev pub l : Loop
  l = c.loop

  abbrev pub p : ProgramText
  p = front ++ function_item f ∷ back

  abbrev pub q : ProgramText
  q = tiled c p

  abbrev pub first : ℕ
  first = length (functions_of front)

  abbrev pub fs : List FunctionText
  fs = functions_of p

  abbrev pub fs' : List FunctionText
  fs' = functions_of q

  abbrev pub taken : List Text
  taken = item_names p

  abbrev pub within : List Bool
  within = reached fs

  abbrev pub gs : List GlobalVariable
  gs = [] ++ globals_of front

  abbrev pub earlier : List Text
  earlier = [] ++ item_names front

  pub rest : in_items fs taken within (0 + first) gs earlier (function_item f ∷ back) ≡ []
  rest = none_right (in_items fs taken within 0 [] [] front) (in_items fs taken within (0 + first) gs earlier (function_item f ∷ back))
      (sym (in_items_append fs taken within 0 [] [] front (function_item f ∷ back)) ∙ item_breaches p formed)

  pub function_formed : in_function fs taken (0 + first) (is_in_set within (0 + first)) gs earlier f ≡ []
  function_formed = none_left (in_function fs taken (0 + first) (is_in_set within (0 + first)) gs earlier f) (in_items fs taken within (0 + first + 1) gs (earlier ++ f.name ∷ []) back) rest

  pub heading : in_heading earlier f ≡ []
  heading = heading_of fs taken (0 + first) (is_in_set within (0 + first)) gs earlier f function_formed

  pub front_apart : has_name (names_of_functions (functions_of front)) f.name ≡ false
  front_apart = functions_unnamed front f.name (not_earlier earlier f heading)

  pub back_apart : has_name (names_of_functions (functions_of back)) f.name ≡ false
  back_apart =
      later_apart fs taken within (0 + first + 1) gs (earlier ++ f.name ∷ []) back f.name
      (none_right (in_function fs taken (0 + first) (is_in_set within (0 + first)) gs earlier f)
      (in_items fs taken within (0 + first + 1) gs (earlier ++ f.name ∷ []) back) rest)
      (has_append earlier (f.name ∷ []) f.name ∙ either_right (has_name earlier f.name) (has_name (f.name ∷ []) f.name) (ap (λ b. b || false) (same_name f.name)))

  pub shape : IsShape f l
  shape = shape_parts f l shaped

  pub one : IsMarkedOne f
  one = marked_one earlier f heading shape.marked

  -- ---- the loop

  abbrev pub scope : Scope
  scope = scope_in fs gs f

  abbrev pub place : Around
  place = around scope (0 + first) (is_in_set within (0 + first)) f

  pub statements_formed : in_statements place f.body ≡ []
  statements_formed =
      let r = in_regions (scope_at fs gs f) (regions_of f.mark) in
      let h = in_heading earlier f in
      let ps = in_parameters taken f.params in
      let ls = in_locals (taken ++ parameter_texts f.params) (scope_at fs gs f) f.locals in
      let ss = in_statements place f.body in
      none_right (r ++ h ++ ps ++ ls) ss (none_left (r ++ h ++ ps ++ ls ++ ss) (in_option scope f.result) function_formed)

  pub loop_formed : in_statement place (statement_of l) ≡ []
  loop_formed = none_left (in_statement place (statement_of l)) [] (ap (in_statements place) (sym shape.body) ∙ statements_formed)

  pub before_body : in_names l.at scope l.names ++ if_at (not (is_loop scope l.names (low_end l) (high_end l) l.step l.body)) l.at LoopForm
      ++ in_expression scope (low_end l) ++ in_expression scope (high_end l) ≡ []
  before_body = none_left (in_names l.at scope l.names ++ if_at (not (is_loop scope l.names (low_end l) (high_end l) l.step l.body)) l.at LoopForm
      ++ in_expression scope (low_end l) ++ in_expression scope (high_end l)) (in_statement place l.body) loop_formed

  pub loop_is : is_loop scope l.names (low_end l) (high_end l) l.step l.body ≡ true
  loop_is =
      let ns = in_names l.at scope l.names in
      let form = if_at (not (is_loop scope l.names (low_end l) (high_end l) l.step l.body)) l.at LoopForm in
      kept_rule_not (is_loop scope l.names (low_end l) (high_end l) l.step l.body) l.at LoopForm
      (none_right ns form (none_left (ns ++ form) (in_expression scope (low_end l))
      (none_left (ns ++ form ++ in_expression scope (low_end l)) (in_expression scope (high_end l)) before_body)))

  pub is_a_loop : IsLoop scope l.names (low_end l) (high_end l) l.step l.body
  is_a_loop = loop_parts scope l.names (low_end l) (high_end l) l.step l.body loop_is

  pub step_there : 0 < l.step
  step_there = leb-true 1 l.step (and_parts (leb 1 l.step) (leb l.step 2047) is_a_loop.step_is).0

-- ---- wherever it stands

pub step_of : (p : ProgramText) (c : Cut) → IsWellFormed p → marked_named (functions_of p) c.function.name ≡ Some c.function → shape_of c.function ≡ Some c.loop → 0 < c.loop.step
step_of p c formed named shaped =
    let s = split_at p c.function.name c.function named in
    step_there c s.front s.back shaped (subst (λ x. IsWellFormed x) s.is formed)
