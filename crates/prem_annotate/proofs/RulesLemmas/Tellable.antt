-- What is told of breaches where no marked function watches has no names, and a stated range holds a number.
use Rattle.std.proofs.Common.{◌≡◌, ℕ, ◌+◌, ◌*◌, ◌^◌, Bool, true, false, cond, List, [], ◌∷◌, ◌++◌, map, refl, sym, subst, Option, None, Some}
use Rattle.std.specs.Prelude.{ℤ, pos, ◌+ℤ◌, ◌-ℤ◌, int_lt, not, nat_lt, slice_get}
use Rattle.prem_annotate.proofs.Prelude.{unwatched_site, Tellable, TellableIf, new_ranges_hold, first_other, loop_end, turn_bound, in_counting, in_body, behind_loop, in_while, behind_call}
use Rattle.prem_annotate.proofs.Prelude.{stated_or_whole, known_parameter, known_local, after, at_body, any_again, assigned, Environment, at_local, joined as joined_env, length_of, in_index}
use Rattle.prem_annotate.proofs.Prelude.{in_element, in_divisor, in_term, in_stated, in_argument, in_arguments, parameters_of, in_turns, in_range_of_int, in_counting_loop, in_steps}
use Rattle.prem_annotate.proofs.Prelude.{in_locals, in_result, in_routine, range_of, refined, RangeRule, LoopBound, TooLarge, ZeroDivisor, IndexOutside, ArgRange, RangeBreach, comes_before}
use Rattle.prem_annotate.proofs.Prelude.{first, first_of, if_at, resolved, Ranged, none_ranged, next_ranged, ProgramHasWords, IsWellFormed, promoted, Term, Constant, Scalar, Element, Unary}
use Rattle.prem_annotate.proofs.Prelude.{Binary, AndAlso, OrElse, Steps, Done, SetLocal, SetScalar, SetElement, Output, Input, If, For, While, Call, Routine, unlimited, Parameter}
use Rattle.prem_annotate.proofs.Prelude.{LocalVariable, GlobalVariable, ProgramText, Place, Span, from_to, holds, IsRange, encloses, converted, BinOp, Div, Rem, Kind, flat_map}
use Rattle.prem_annotating.proofs.Lists.{each_append}
use Rattle.prem_annotating.specs.Annotated.{all_ranged}
use Rattle.prem_annotating.specs.Lists.{Each}
use Rattle.prem_ranges.proofs.WellFormed.{well_formed_is_typed}
use Rattle.prem_syntax.specs.Resolved.{Local}

abbrev IsTold : RangeBreach → Type 0
IsTold b = Tellable b.rule

abbrev AreTold : List RangeBreach → Type 0
AreTold bs = Each IsTold bs

both : (xs ys : List RangeBreach) → AreTold xs → AreTold ys → AreTold (xs ++ ys)
both xs ys one two = each_append IsTold xs ys one two

if_told : (b : Bool) (at : Place) (rule : RangeRule) → Tellable rule → AreTold (if_at b at rule)
if_told true at rule h = (h, tt)
if_told false at rule h = tt

-- ---- expressions

element_told : (gs : List GlobalVariable) (rs : List Routine) (at : Place) (g : ℕ) (r : Span) → AreTold (in_element (unwatched_site gs rs) at g r)
element_told gs rs at g r =
    let n = length_of (slice_get gs g) in
    both (in_index at r n) [] (if_told (not (encloses (from_to (pos 0) (pos n -ℤ pos 1)) r)) at (IndexOutside r n) tt) tt

divisor_told : (at : Place) (op : BinOp) (r : Span) → AreTold (in_divisor at op r)
divisor_told at Div r = if_told (holds r (pos 0)) at (ZeroDivisor r) tt
divisor_told at Rem r = if_told (holds r (pos 0)) at (ZeroDivisor r) tt
divisor_told at op r = tt

term_told : (gs : List GlobalVariable) (rs : List Routine) (env : Environment) (e : Term) → AreTold (in_term (unwatched_site gs rs) env e)
term_told gs rs env (Constant at word kind) = tt
term_told gs rs env (Local at k kind) = tt
term_told gs rs env (Scalar at g ty) = tt
term_told gs rs env (Element at g ty index) =
    let site = unwatched_site gs rs in
    both (in_element site at g (range_of env index)) (in_term site env index) (element_told gs rs at g (range_of env index)) (term_told gs rs env index)
term_told gs rs env (Unary at op e) = term_told gs rs env e
term_told gs rs env (Binary at op kind left right) =
    let site = unwatched_site gs rs in
    let r = converted kind (range_of env right) in
    both (in_term site env left ++ in_divisor at op r) (in_term site env right)
    (both (in_term site env left) (in_divisor at op r) (term_told gs rs env left) (divisor_told at op r)) (term_told gs rs env right)
term_told gs rs env (AndAlso at left right) =
    let site = unwatched_site gs rs in
    both (in_term site env left) (in_term site (refined true env left) right) (term_told gs rs env left) (term_told gs rs (refined true env left) right)
term_told gs rs env (OrElse at left right) =
    let site = unwatched_site gs rs in
    both (in_term site env left) (in_term site (refined false env left) right) (term_told gs rs env left) (term_told gs rs (refined false env left) right)

-- ---- calls

stated_told : (at : Place) (r : Span) (kind : Kind) (range : Option (ℤ × ℤ)) → IsRange kind (stated_or_whole kind range) → AreTold (in_stated at r range)
stated_told at r kind None is = tt
stated_told at r kind (Some stated) is = if_told (not (encloses (from_to stated.0 stated.1) r)) at (ArgRange r (from_to stated.0 stated.1)) is.ordered

arguments_told : (gs : List GlobalVariable) (rs : List Routine) (at : Place) (env : Environment) (es : List Term) (ps : List Parameter) →
    Ranged (map known_parameter ps) → AreTold (in_arguments at (unwatched_site gs rs) env es ps)
arguments_told gs rs at env [] ps ranged = tt
arguments_told gs rs at env (e ∷ es) [] ranged =
    let site = unwatched_site gs rs in
    both (in_term site env e) (in_arguments at site env es []) (term_told gs rs env e) (arguments_told gs rs at env es [] ranged)
arguments_told gs rs at env (e ∷ es) (q ∷ qs) (next_ranged is rest) =
    let site = unwatched_site gs rs in
    both (in_argument at env e q ++ in_term site env e) (in_arguments at site env es qs)
    (both (in_argument at env e q) (in_term site env e) (stated_told at (converted (promoted q.ty) (range_of env e)) (promoted q.ty) q.range is) (term_told gs rs env e))
    (arguments_told gs rs at env es qs rest)

-- ---- steps

abbrev ParametersRanged : List Routine → Type 0
ParametersRanged rs = (f : ℕ) (routine : Routine) → slice_get rs f ≡ Some routine → Ranged (map known_parameter routine.text.params)

turns_told : (at : Place) (turns : ℕ) → AreTold (in_turns at turns)
turns_told at turns = if_told (nat_lt (2 ^ 40) turns) at TooLarge tt

callee_ranged : (rs : List Routine) → ParametersRanged rs → (f : ℕ) → Ranged (map known_parameter (parameters_of (slice_get rs f)))
callee_ranged rs ranged f = by (slice_get rs f) refl
  where
    by : (o : Option Routine) → slice_get rs f ≡ o → Ranged (map known_parameter (parameters_of o))
    by None is = none_ranged
    by (Some routine) is = ranged f routine is

steps_told : (gs : List GlobalVariable) (rs : List Routine) → ParametersRanged rs → (steps : Steps) (around : ℕ) (env : Environment) → AreTold (in_steps (unwatched_site gs rs) around env steps)
steps_told gs rs ranged Done around env = tt
steps_told gs rs ranged (SetLocal at k e rest) around env =
    let site = unwatched_site gs rs in
    let next = at_local k (assigned (range_of env e)) env in
    both (in_term site env e) (in_steps site around next rest) (term_told gs rs env e) (steps_told gs rs ranged rest around next)
steps_told gs rs ranged (SetScalar at g ty e rest) around env =
    let site = unwatched_site gs rs in
    both ([] ++ in_term site env e) (in_steps site around env rest) (both [] (in_term site env e) tt (term_told gs rs env e)) (steps_told gs rs ranged rest around env)
steps_told gs rs ranged (SetElement at g ty index e rest) around env =
    let site = unwatched_site gs rs in
    let element = in_element site at g (range_of env index) in
    both (element ++ in_term site env index ++ in_term site env e) (in_steps site around env rest)
    (both (element ++ in_term site env index) (in_term site env e)
    (both element (in_term site env index) (element_told gs rs at g (range_of env index)) (term_told gs rs env index)) (term_told gs rs env e))
    (steps_told gs rs ranged rest around env)
steps_told gs rs ranged (Output at e rest) around env =
    let site = unwatched_site gs rs in
    both (in_term site env e) (in_steps site around env rest) (term_told gs rs env e) (steps_told gs rs ranged rest around env)
steps_told gs rs ranged (Input at k rest) around env = steps_told gs rs ranged rest around (at_local k any_again env)
steps_told gs rs ranged (If at condition taken other rest) around env =
    let site = unwatched_site gs rs in
    let yes = refined true env condition in
    let no_ = refined false env condition in
    let next = joined_env (after yes taken) (after no_ other) in
    let one = in_term site env condition in
    let two = in_steps site around yes taken in
    let three = in_steps site around no_ other in
    both (one ++ two ++ three) (in_steps site around next rest)
    (both (one ++ two) three (both one two (term_told gs rs env condition) (steps_told gs rs ranged taken around yes))
    (steps_told gs rs ranged other around no_)) (steps_told gs rs ranged rest around next)
steps_told gs rs ranged (For at k low closed high step turns body rest) around env =
    let site = unwatched_site gs rs in
    let end = loop_end env k closed high body in
    let product = around * turn_bound (range_of env low).lo end step in
    let head = in_counting k body env in
    let inner = in_body env k low end body in
    let next = behind_loop env k low end step body in
    let own = in_counting_loop at end step product in
    let one = in_term site env low in
    let two = in_term site head high in
    let three = in_steps site product inner body in
    let own_told = both (in_range_of_int at end step) (in_turns at product) (if_told (int_lt (pos 2147483647) (end -ℤ pos 1 +ℤ pos step)) at LoopBound tt) (turns_told at product) in
    both (own ++ one ++ two ++ three) (in_steps site around next rest)
    (both (own ++ one ++ two) three (both (own ++ one) two (both own one own_told (term_told gs rs env low)) (term_told gs rs head high)) (steps_told gs rs ranged body product inner))
    (steps_told gs rs ranged rest around next)
steps_told gs rs ranged (While at turns condition body rest) around env =
    let site = unwatched_site gs rs in
    let product = around * turns in
    let head = in_while body env in
    let inner = refined true head condition in
    let own = in_turns at product in
    let one = in_term site head condition in
    let two = in_steps site product inner body in
    both (own ++ one ++ two) (in_steps site around head rest)
    (both (own ++ one) two (both own one (turns_told at product) (term_told gs rs head condition)) (steps_told gs rs ranged body product inner))
    (steps_told gs rs ranged rest around head)
steps_told gs rs ranged (Call at target f arguments rest) around env =
    let site = unwatched_site gs rs in
    let next = behind_call target env in
    both (in_arguments at site env arguments (parameters_of (slice_get rs f))) (in_steps site around next rest)
    (arguments_told gs rs at env arguments (parameters_of (slice_get rs f)) (callee_ranged rs ranged f)) (steps_told gs rs ranged rest around next)

-- ---- functions

locals_told : (gs : List GlobalVariable) (rs : List Routine) (ls : List LocalVariable) (es : List Term) (env : Environment) → AreTold (in_locals (unwatched_site gs rs) env ls es)
locals_told gs rs [] es env = tt
locals_told gs rs (l ∷ ls) [] env = tt
locals_told gs rs (l ∷ ls) (e ∷ es) env =
    let site = unwatched_site gs rs in
    let next = env ++ known_local env l e ∷ [] in
    both (in_term site env e) (in_locals site next ls es) (term_told gs rs env e) (locals_told gs rs ls es next)

result_told : (gs : List GlobalVariable) (rs : List Routine) (env : Environment) (result : Option Term) → AreTold (in_result (unwatched_site gs rs) env result)
result_told gs rs env None = tt
result_told gs rs env (Some e) = term_told gs rs env e

routine_told : (gs : List GlobalVariable) (rs : List Routine) → ParametersRanged rs → (f : Routine) → AreTold (in_routine (unwatched_site gs rs) f)
routine_told gs rs ranged f =
    let site = unwatched_site gs rs in
    let env = map known_parameter f.text.params in
    let one = in_locals site env f.text.locals f.locals in
    let two = in_steps site 1 (at_body f) f.body in
    let three = in_result site (after (at_body f) f.body) f.result in
    both (one ++ two) three (both one two (locals_told gs rs f.text.locals f.locals env) (steps_told gs rs ranged f.body 1 (at_body f))) (result_told gs rs (after (at_body f) f.body) f.result)

routines_told : (gs : List GlobalVariable) (rs : List Routine) → ParametersRanged rs → (fs : List Routine) → AreTold (flat_map (in_routine (unwatched_site gs rs)) fs)
routines_told gs rs ranged [] = tt
routines_told gs rs ranged (f ∷ fs) = both (in_routine (unwatched_site gs rs) f) (flat_map (in_routine (unwatched_site gs rs)) fs) (routine_told gs rs ranged f) (routines_told gs rs ranged fs)

-- ---- the first one

first_told : (bs : List RangeBreach) → AreTold bs → TellableIf (first_of bs)
first_told [] all = tt
first_told (b ∷ bs) all = pick (first_of bs) (first_told bs all.1)
  where
    by : (t : Bool) (c : RangeBreach) → Tellable c.rule → TellableIf (cond t (Some c) (Some b))
    by true c h = h
    by false c h = all.0

    pick : (o : Option RangeBreach) → TellableIf o → TellableIf (first (Some b) o)
    pick None h = all.0
    pick (Some c) h = by (comes_before c b) c h

pub first_other_tellable : (p : ProgramText) → IsWellFormed p → ProgramHasWords p → TellableIf (first_other p)
unfolding first_other
first_other_tellable p formed words =
    let rs = (resolved p).routines in
    let all = routines_told (resolved p).globals rs (λ f routine there. ((well_formed_is_typed p formed words unlimited.turns).each f routine there).parameters) (all_ranged p) in
    first_told _ (subst AreTold (sym (new_ranges_hold p formed words)) all)
