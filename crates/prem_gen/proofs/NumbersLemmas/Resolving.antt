-- The steps that statements are resolved to, where these break no rule.
use Rattle.std.specs.Prelude.{nat_lt, nat_le, ◌&&◌, ◌==◌, ◌*◌, not, slice_get}
use Rattle.std.specs.Int.{next_multiple_of}
use Rattle.std.specs.Option.{option_map}
use Rattle.std.specs.Prelude.{is_some}
use Rattle.std.proofs.Common.{◌≡◌, ◌<◌, ◌≤◌, ℕ, zero, suc, ◌+◌, ◌^◌, Bool, true, List, [], ◌∷◌, ◌++◌, length, map, Option, None, Some, sym, subst, arith, length-append}
use Rattle.std.proofs.lemmas.Bool.{and_parts, leb-true, ltb-true}
use Rattle.std.proofs.lemmas.List.{length-map}
use Rattle.prem_syntax.specs.declared.tree.Place.{Place}
use Rattle.prem_syntax.specs.declared.meaning.Meaning.{Meaning}
use Rattle.prem_syntax.specs.declared.meaning.Meaning.TheVariants.{Nothing, Local as LocalName, Scalar as ScalarName, Array as ArrayName, Function as FunctionName}
use Rattle.prem_syntax.specs.declared.rules.TypeRule.TheVariants.{Target, Count as CountRule}
use Rattle.prem_syntax.specs.Syntax.{Text, Expression, LoopNames, Statement, block, if_then, if_else, bounded_while, counting_for, assign, output, input, call, Statements}
use Rattle.prem_syntax.specs.Syntax.{no_statements, next_statement, LocalVariable, Parameter, GlobalVariable, FunctionText, ProgramText, global_item, function_item}
use Rattle.prem_syntax.specs.Resolve.{Scope, meaning_of, find_function, set_steps, input_steps, call_steps, loop_local, local_number, target_of, loops_in, loops_within, declared}
use Rattle.prem_syntax.specs.Resolve.{scope_at, scope_in, parameter_names, local_names, resolve_term, resolve_statement, resolve_statements, resolve_locals, resolve_function}
use Rattle.prem_syntax.specs.Resolve.{resolve_items, functions_of, globals_of}
use Rattle.prem_syntax.specs.Resolved.{Term, Steps, Done, Routine}
use Rattle.prem_syntax.specs.Rules.{LoopForm, CallOrder, MarkedCall, OfTypes}
use Rattle.prem_syntax.specs.Reach.{is_in_set}
use Rattle.prem_syntax.specs.Breaches.{Around, around, if_at, is_between, is_int_local, same_name, assigns, is_int, is_loop, is_marked_text, is_void, in_expression, in_expressions}
use Rattle.prem_syntax.specs.Breaches.{in_names, in_call_target, in_callee, in_option, in_statement, in_statements, in_regions, regions_of, in_heading, in_parameters, in_locals}
use Rattle.prem_syntax.specs.Breaches.{parameter_texts, in_function, in_global, in_items, item_names, reached}
use Rattle.prem_syntax.specs.Resolve.{kind_of}
use Rattle.prem_ranges.proofs.Named.{kept_rule_not}
use Rattle.prem_ranges.proofs.Basics.{none_left, none_right}
use Rattle.prem_layout.specs.Template.Frames.{frame_of, counters_in}
use Rattle.prem_gen.specs.Term.Numbers.{IsSmall}
use Rattle.prem_gen.specs.Routine.Small.{TargetIsSmall}
use Rattle.prem_gen.specs.Numbers.Small.{TermSmall, FewNames}
use Rattle.prem_gen.specs.Numbers.Steps.{AllSmall, ResultSmall, StepsSmall, FunctionSmall, FunctionsAreSmall}
use Rattle.prem_gen.proofs.FrameLemmas.Texts.{locals_resolved}
use Rattle.prem_gen.proofs.NumbersLemmas.Breaches.{all_kept}
use Rattle.prem_gen.proofs.NumbersLemmas.Numbers.{MeaningSmall, meaning_small, resolved_small}

-- ---- single steps

set_small : (n : ℕ) (at : Place) (m : Meaning) (index : Option Term) (value : Term) (rest : Steps) → MeaningSmall m → ResultSmall index →
    TermSmall value → StepsSmall n rest → StepsSmall n (set_steps at m index value rest)
set_small n at (LocalName number ty) None value rest h i v r = ((h, v), r)
set_small n at (ScalarName number ty) None value rest h i v r = ((h, v), r)
set_small n at (ArrayName number ty len) None value rest h i v r = r
set_small n at (FunctionName number) None value rest h i v r = r
set_small n at Nothing None value rest h i v r = r
set_small n at (LocalName number ty) (Some index) value rest h i v r = r
set_small n at (ScalarName number ty) (Some index) value rest h i v r = r
set_small n at (ArrayName number ty len) (Some index) value rest h i v r = ((h, (i, v)), r)
set_small n at (FunctionName number) (Some index) value rest h i v r = r
set_small n at Nothing (Some index) value rest h i v r = r

input_small : (n : ℕ) (at : Place) (m : Meaning) (rest : Steps) → MeaningSmall m → StepsSmall n rest → StepsSmall n (input_steps at m rest)
input_small n at (LocalName number ty) rest h r = (h, r)
input_small n at (ScalarName number ty) rest h r = r
input_small n at (ArrayName number ty len) rest h r = r
input_small n at (FunctionName number) rest h r = r
input_small n at Nothing rest h r = r

loop_small : (m : Meaning) → MeaningSmall m → IsSmall (loop_local m)
loop_small (LocalName number ty) h = h
loop_small (ScalarName number ty) h = omega arith
loop_small (ArrayName number ty len) h = omega arith
loop_small (FunctionName number) h = omega arith
loop_small Nothing h = omega arith

local_small : (m : Meaning) → MeaningSmall m → TargetIsSmall (local_number m)
local_small (LocalName number ty) h = h
local_small (ScalarName number ty) h = tt
local_small (ArrayName number ty len) h = tt
local_small (FunctionName number) h = tt
local_small Nothing h = tt

target_small : (scope : Scope) → FewNames scope → (target : Option Text) → TargetIsSmall (target_of scope target)
target_small scope few None = tt
target_small scope few (Some name) = local_small (meaning_of scope name) (meaning_small scope few name)

all_small : (scope : Scope) → FewNames scope → (es : List Expression) → AllSmall (map (resolve_term scope) es)
all_small scope few [] = tt
all_small scope few (e ∷ es) = (resolved_small scope few e, all_small scope few es)

option_small : (scope : Scope) → FewNames scope → (e : Option Expression) → ResultSmall (option_map (resolve_term scope) e)
option_small scope few None = tt
option_small scope few (Some e) = resolved_small scope few e

-- a callee stands before
call_small : (a : Around) (at : Place) (target : Option ℕ) (callee : Text) (has_target : Bool) (count : ℕ) (found : Option (ℕ × FunctionText)) (arguments : List Term) (rest : Steps) →
    in_callee at a callee has_target count found ≡ [] → TargetIsSmall target → AllSmall arguments → StepsSmall a.number rest →
    StepsSmall a.number (call_steps at target (option_map (λ (f : ℕ × FunctionText). f.0) found) arguments rest)
call_small a at target callee has_target count None arguments rest e t s r = r
call_small a at target callee has_target count (Some f) arguments rest e t s r =
    let one = if_at (not (nat_lt f.0 a.number)) at CallOrder in
    let two = if_at (is_marked_text f.1 && not a.is_job) at MarkedCall in
    let three = if_at (has_target && is_void f.1.ty) at (OfTypes Target) in
    let four = if_at (not (length f.1.params == count)) at (OfTypes CountRule) in
    let before = kept_rule_not (nat_lt f.0 a.number) at CallOrder (none_left one two (none_left (one ++ two) three (none_left (one ++ two ++ three) four e))) in
    ((t, (ltb-true f.0 a.number before, s)), r)

short_step : (scope : Scope) (names : LoopNames) (low high : Expression) (step : ℕ) (body : Statement) → is_loop scope names low high step body ≡ true → step < 2 ^ 11
short_step scope names low high step body e =
    let between = (and_parts
    (same_name names && is_int_local (meaning_of scope names.first) && not (assigns names.first body) && is_int (kind_of (resolve_term scope low)) && is_int (kind_of (resolve_term scope high)))
    (is_between 1 2047 step) e).1 in
    let le : step ≤ 2047 = leb-true step 2047 (and_parts (nat_le 1 step) (nat_le step 2047) between).1 in
    omega arith

-- ---- statements

mutual
  statement_small : (a : Around) → FewNames a.scope → (turns : ℕ → ℕ) (n : ℕ) (s : Statement) (rest : Steps) → in_statement a s ≡ [] →
      StepsSmall a.number rest → StepsSmall a.number (resolve_statement a.scope turns n s rest)
  statement_small a few turns n (block at body) rest e r = statements_small a few turns n body rest e r
  statement_small a few turns n (if_then at condition taken) rest e r =
      ((resolved_small a.scope few condition, (statement_small a few turns n taken Done (none_right (in_expression a.scope condition) (in_statement a taken) e) tt, tt)), r)
  statement_small a few turns n (if_else at condition taken other) rest e r =
      let c = in_expression a.scope condition in
      let t = in_statement a taken in
      let o = in_statement a other in (
        (
          resolved_small a.scope few condition,
          (
            statement_small a few turns n taken Done (none_right c t (none_left (c ++ t) o e)) tt,
            statement_small a few turns (n + loops_in taken) other Done (none_right (c ++ t) o e) tt,
          ),
        ),
        r,
      )
  statement_small a few turns n (bounded_while at most condition body) rest e r =
      let first = if_at (not (is_between 1 1048576 most)) at LoopForm ++ in_expression a.scope condition in
      ((resolved_small a.scope few condition, statement_small a few turns n body Done (none_right first (in_statement a body) e) tt), r)
  statement_small a few turns n (counting_for at names low closed high step body) rest e r =
      let one = in_names at a.scope names in
      let two = if_at (not (is_loop a.scope names low high step body)) at LoopForm in
      let three = in_expression a.scope low in
      let four = in_expression a.scope high in
      let form = kept_rule_not (is_loop a.scope names low high step body) at LoopForm
      (none_right one two (none_left (one ++ two) three
      (none_left (one ++ two ++ three) four (none_left (one ++ two ++ three ++ four) (in_statement a body) e)))) in (
        (
          loop_small (meaning_of a.scope names.first) (meaning_small a.scope few names.first),
          (
            resolved_small a.scope few low,
            (
              resolved_small a.scope few high,
              (
                short_step a.scope names low high step body form,
                statement_small a few turns (n + 1) body Done (none_right (one ++ two ++ three ++ four) (in_statement a body) e) tt,
              ),
            ),
          ),
        ),
        r,
      )
  statement_small a few turns n (assign at name index value) rest e r =
      set_small a.number at (meaning_of a.scope name) (option_map (resolve_term a.scope) index) (resolve_term a.scope value) rest
      (meaning_small a.scope few name) (option_small a.scope few index) (resolved_small a.scope few value) r
  statement_small a few turns n (output at value) rest e r = (resolved_small a.scope few value, r)
  statement_small a few turns n (input at name) rest e r = input_small a.number at (meaning_of a.scope name) rest (meaning_small a.scope few name) r
  statement_small a few turns n (call at target callee arguments) rest e r =
      let one = in_call_target at a.scope target in
      let two = in_callee at a callee (is_some target) (length arguments) (find_function a.scope.functions callee) in
      call_small a at (target_of a.scope target) callee (is_some target) (length arguments) (find_function a.scope.functions callee) (map (resolve_term a.scope) arguments) rest
      (none_right one two (none_left (one ++ two) (in_expressions a.scope arguments) e)) (target_small a.scope few target) (all_small a.scope few arguments) r

  statements_small : (a : Around) → FewNames a.scope → (turns : ℕ → ℕ) (n : ℕ) (ss : Statements) (rest : Steps) → in_statements a ss ≡ [] →
      StepsSmall a.number rest → StepsSmall a.number (resolve_statements a.scope turns n ss rest)
  statements_small a few turns n no_statements rest e r = r
  statements_small a few turns n (next_statement first others) rest e r =
      statement_small a few turns n first (resolve_statements a.scope turns (n + loops_in first) others rest) (none_left (in_statement a first) (in_statements a others) e)
      (statements_small a few turns (n + loops_in first) others rest (none_right (in_statement a first) (in_statements a others) e) r)

-- ---- functions

locals_small : (scope : Scope) (ls : List LocalVariable) → length scope.locals + length ls ≤ 2 ^ 16 → length scope.globals ≤ 2 ^ 16 → AllSmall (resolve_locals scope ls)
locals_small scope [] h g = tt
locals_small scope (l ∷ ls) h g =
    let more : length (scope.locals ++ (l.name, l.ty) ∷ []) ≡ length scope.locals + 1 = length-append scope.locals ((l.name, l.ty) ∷ []) in (
      resolved_small scope (record { few_locals = omega (arith, h); few_globals = g }) l.value,
      locals_small (declared scope l) ls (omega (arith, h, more)) g,
    )

function_small : (fs : List FunctionText) (taken : List Text) (n : ℕ) (within : Bool) (gs : List GlobalVariable) (earlier : List Text) (turns : ℕ → ℕ) (m : ℕ) (f : FunctionText) →
    n < 256 → length gs ≤ 256 → in_function fs taken n within gs earlier f ≡ [] → frame_of (resolve_function fs turns m gs f) ≤ 2032 → FunctionSmall n (resolve_function fs turns m gs f)
function_small fs taken n within gs earlier turns m f below few e fits =
    let scope = scope_in fs gs f in
    let first = scope_at fs gs f in
    let rules = in_regions first (regions_of f.mark) ++ in_heading earlier f ++ in_parameters taken f.params ++ in_locals (taken ++ parameter_texts f.params) first f.locals in
    let a = around scope n within f in
    let body = in_statements a f.body in
    let params : length (parameter_names f.params) ≡ length f.params = length-map f.params (λ (p : Parameter). (p.name, p.ty)) in
    let names : length (local_names f.locals) ≡ length f.locals = length-map f.locals (λ (l : LocalVariable). (l.name, l.ty)) in
    let both : length (parameter_names f.params ++ local_names f.locals) ≡ length (parameter_names f.params) + length (local_names f.locals) =
    length-append (parameter_names f.params) (local_names f.locals) in
    let slots : length f.params + length f.locals ≤ 2 ^ 15 =
    few_slots (length f.params) (length (resolve_locals first f.locals)) (length f.locals) (counters_in (resolve_function fs turns m gs f).body)
    (locals_resolved first f.locals) fits in
    let names_few : FewNames scope = record { few_locals = omega (arith, params, names, both, slots); few_globals = omega (arith, few) } in
    record {
      number_is = below;
      locals_are = locals_small first f.locals (omega (arith, params, slots)) (omega (arith, few));
      body_is = statements_small a names_few turns m f.body Done (none_right rules body (none_left (rules ++ body) (in_option scope f.result) e)) tt;
      result_is = option_small scope names_few f.result;
    }
  where
    few_slots : (p r l c : ℕ) → r ≡ l → next_multiple_of (4 + 4 * (p + r + c)) 16 ≤ 2032 → p + l ≤ 2 ^ 15
    few_slots p r l c e h = omega (arith, e, h)

items_small : (fs : List FunctionText) (taken : List Text) (within : List Bool) (n : ℕ) (gs : List GlobalVariable) (earlier : List Text) (turns : ℕ → ℕ) (m : ℕ) (items : ProgramText) →
    in_items fs taken within n gs earlier items ≡ [] → n + length (functions_of items) ≤ 256 → length gs + length (globals_of items) ≤ 256 →
    (k : ℕ) (r : Routine) → slice_get (resolve_items fs turns m gs items) k ≡ Some r → frame_of r ≤ 2032 → FunctionSmall (n + k) r
items_small fs taken within n gs earlier turns m [] e few globals k r there fits = cc
items_small fs taken within n gs earlier turns m (global_item g ∷ items) e few globals k r there fits =
    let more : length (gs ++ g ∷ []) ≡ length gs + 1 = length-append gs (g ∷ []) in
    items_small fs taken within n (gs ++ g ∷ []) (earlier ++ g.name ∷ []) turns m items
    (none_right (in_global earlier g) (in_items fs taken within n (gs ++ g ∷ []) (earlier ++ g.name ∷ []) items) e) few (omega (arith, globals, more)) k r there fits
items_small fs taken within n gs earlier turns m (function_item f ∷ items) e few globals zero r there fits =
    let here : n + 0 ≡ n = omega arith in
    let same : resolve_function fs turns m gs f ≡ r = cc in
    subst (λ k. FunctionSmall k r) (sym here)
    (subst (FunctionSmall n) same
    (function_small fs taken n (is_in_set within n) gs earlier turns m f (omega (arith, few)) (omega (arith, globals))
    (none_left (in_function fs taken n (is_in_set within n) gs earlier f) (in_items fs taken within (n + 1) gs (earlier ++ f.name ∷ []) items) e)
    (subst (λ q. frame_of q ≤ 2032) (sym same) fits)))
items_small fs taken within n gs earlier turns m (function_item f ∷ items) e few globals (suc k) r there fits =
    let next : n + suc k ≡ n + 1 + k = omega arith in
    subst (λ i. FunctionSmall i r) (sym next)
    (items_small fs taken within (n + 1) gs (earlier ++ f.name ∷ []) turns (m + loops_within f.body) items
    (none_right (in_function fs taken n (is_in_set within n) gs earlier f) (in_items fs taken within (n + 1) gs (earlier ++ f.name ∷ []) items) e)
    (omega (arith, few)) globals k r there fits)

pub functions_are_small : FunctionsAreSmall
functions_are_small p formed turns n r there fits =
    let k = all_kept p formed in
    let zero_n : 0 + n ≡ n = omega arith in
    subst (λ i. FunctionSmall i r) zero_n
    (items_small (functions_of p) (item_names p) (reached (functions_of p)) 0 [] [] turns 0 p k.items (omega (arith, k.few_functions)) (omega (arith, k.few_globals)) n r there fits)
