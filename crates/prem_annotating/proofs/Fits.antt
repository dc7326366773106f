-- All ranges of parameters lie in their kinds: those that stood, and those that are new.
use Rattle.std.proofs.Common.{◌≡◌, ℕ, zero, suc, ◌+◌, ◌*◌, Bool, true, false, List, [], ◌∷◌, ◌++◌, map, refl, ap, sym, ◌∙◌, subst, arith, Option, None, Some, eqb}
use Rattle.prem_annotating.proofs.Prelude.{all_ranged, annotated, other_breaches, first_other, join_with, join_all, argument_at, given_by, given, inferred, stated_or, ranged_parameter}
use Rattle.prem_annotating.proofs.Prelude.{ranged_parameters, ranged_routine, ranged_routines, RangesFit, Each, KnownCall, calls_in, calls_of, calls_of_all, none_left, none_right, unbroken}
use Rattle.prem_annotating.proofs.Prelude.{is_not_below, none_first, kinds-at_local, kinds-loosened, kinds-joined, kinds-refined, ranged_local, ranged_any, ranged_loosened, ranged_joined}
use Rattle.prem_annotating.proofs.Prelude.{term_kept, ranged_refined, LoopFits, body_kept, behind_kept, ranged_counting, ranged_call, ranged_declared, kinds-after, kinds-behind_call}
use Rattle.prem_annotating.proofs.Prelude.{kinds-in_body, well_formed_is_typed, assigns, loop_end, turn_bound, in_counting, body_range, range_behind, in_body, behind_loop, in_while}
use Rattle.prem_annotating.proofs.Prelude.{behind_call, after, stated_or_whole, known_parameter, known_local, declared, at_body, Known, any_again, assigned, Environment, at_local, joined}
use Rattle.prem_annotating.proofs.Prelude.{Site, in_term, in_range_of_int, in_turns, in_counting_loop, in_steps, in_arguments, in_scalar, in_element, parameters_of, in_locals, in_result}
use Rattle.prem_annotating.proofs.Prelude.{in_routine, range_of, refined, resolved, kinds_of, AllTyped, TypedSteps, TypedLocals, TypedRoutine, Ranged, none_ranged, next_ranged, kind_of}
use Rattle.prem_annotating.proofs.Prelude.{promoted, parameter_names, Term, Steps, Done, SetLocal, SetScalar, SetElement, Output, Input, If, For, While, Call, Routine, Resolved, unlimited}
use Rattle.prem_annotating.proofs.Prelude.{Text, Parameter, LocalVariable, GlobalVariable, Ty, whole_kept, join_kept, converted_kept, Span, from_to, Kind, map-append, ℤ, slice_get}
use Rattle.prem_annotating.proofs.Lists.{each_append}
use Rattle.prem_annotating.proofs.Ranges.{parameters_marked, narrower_is}
use Rattle.prem_annotating.proofs.Regions.{bare_site, unwatched, others_at}
use Rattle.prem_annotating.proofs.Transformed.{routine_ranged, resolved_annotated}
use Rattle.prem_word.specs.Ranges.{IsRange}
use Rattle.std.specs.Prelude.{cond}

-- ---- arguments in a walk

pub record InKinds (c : KnownCall) : Type 0 where
  pub each : (k : ℕ) (e : Term) → slice_get c.arguments k ≡ Some e → IsRange (kind_of e) (range_of c.known e)

pub record Walked (env : Environment) (s : Steps) : Type 0 where
  pub ranged : Ranged (after env s)
  pub calls : Each InKinds (calls_in env s)

terms_kept : (gs : List GlobalVariable) (env : Environment) → Ranged env → (es : List Term) → AllTyped gs (kinds_of env) es → (k : ℕ) (e : Term) →
    slice_get es k ≡ Some e → IsRange (kind_of e) (range_of env e)
terms_kept gs env ranged [] typed k e there = cc
terms_kept gs env ranged (x ∷ es) typed zero e there = let same : x ≡ e = cc in subst (λ y. IsRange (kind_of y) (range_of env y)) same (term_kept gs env ranged x typed.0)
terms_kept gs env ranged (x ∷ es) typed (suc k) e there = terms_kept gs env ranged es typed.1 k e there

pub walked : (p : Resolved) (n : ℕ) (site : Site) (s : Steps) (around : ℕ) (env : Environment) → Ranged env → TypedSteps p n (kinds_of env) s → in_steps site around env s ≡ [] → Walked env s
walked p n site Done around env ranged typed none = record { ranged = ranged; calls = tt }
walked p n site (SetLocal at k e rest) around env ranged typed none =
    let env' = at_local k (assigned (range_of env e)) env in
    let ranged' : Ranged env' = ranged_local ranged k (assigned (range_of env e)) (λ l there is. converted_kept (kind_of e) l.kind (range_of env e) (term_kept p.globals env ranged e typed.0)) in
    let h = walked p n site rest around env' ranged' (rw (kinds-at_local env k (assigned (range_of env e)) (λ l. refl)) typed.1)
    (none_right (in_term site env e) (in_steps site around env' rest) none) in
    record { ranged = h.ranged; calls = h.calls }
walked p n site (SetScalar at g ty e rest) around env ranged typed none =
    let h = walked p n site rest around env ranged typed.2 (none_right (in_scalar site at g ++ in_term site env e) (in_steps site around env rest) none) in
    record { ranged = h.ranged; calls = h.calls }
walked p n site (SetElement at g ty index e rest) around env ranged typed none =
    let h = walked p n site rest around env ranged typed.3
    (none_right (in_element site at g (range_of env index) ++ in_term site env index ++ in_term site env e) (in_steps site around env rest) none) in
    record { ranged = h.ranged; calls = h.calls }
walked p n site (Output at e rest) around env ranged typed none =
    let h = walked p n site rest around env ranged typed.1 (none_right (in_term site env e) (in_steps site around env rest) none) in
    record { ranged = h.ranged; calls = h.calls }
walked p n site (Input at k rest) around env ranged typed none =
    let h = walked p n site rest around (at_local k any_again env) (ranged_any ranged k) (rw (kinds-at_local env k any_again (λ l. refl)) typed) none in
    record { ranged = h.ranged; calls = h.calls }
walked p n site (If at c taken other rest) around env ranged typed none =
    let yes_env = refined true env c in
    let no_env = refined false env c in
    let a = after yes_env taken in
    let b = after no_env other in
    let c_breaches = in_term site env c in
    let taken_breaches = in_steps site around yes_env taken in
    let other_breaches' = in_steps site around no_env other in
    let rest_breaches = in_steps site around (joined a b) rest in
    let three = none_left (c_breaches ++ taken_breaches ++ other_breaches') rest_breaches none in
    let two = none_left (c_breaches ++ taken_breaches) other_breaches' three in
    let one_kept = walked p n site taken around yes_env (ranged_refined true env c ranged) (rw (kinds-refined true env c) typed.1) (none_right c_breaches taken_breaches two) in
    let two_kept = walked p n site other around no_env (ranged_refined false env c ranged) (rw (kinds-refined false env c) typed.2) (none_right (c_breaches ++ taken_breaches) other_breaches' three) in
    let yes_kinds : kinds_of a ≡ kinds_of env = kinds-after yes_env taken ∙ kinds-refined true env c in
    let no_kinds : kinds_of b ≡ kinds_of env = kinds-after no_env other ∙ kinds-refined false env c in
    let same : kinds_of a ≡ kinds_of b = yes_kinds ∙ sym no_kinds in
    let rest_kinds : kinds_of (joined a b) ≡ kinds_of env = kinds-joined a b same ∙ yes_kinds in
    let h = walked p n site rest around (joined a b) (ranged_joined one_kept.ranged two_kept.ranged same) (rw rest_kinds typed.3)
    (none_right (c_breaches ++ taken_breaches ++ other_breaches') rest_breaches none) in
    record {
      ranged = h.ranged;
      calls = each_append InKinds (calls_in yes_env taken ++ calls_in no_env other) (calls_in (joined a b) rest)
          (each_append InKinds (calls_in yes_env taken) (calls_in no_env other) one_kept.calls two_kept.calls) h.calls;
    }
walked p n site (For at k low closed high step turns body rest) around env ranged typed none =
    let end = loop_end env k closed high body in
    let r = range_of env low in
    let bound = turn_bound r.lo end step in
    let body_env = in_body env k low end body in
    let env' = behind_loop env k low end step body in
    let loop_breaches = in_counting_loop at end step (around * bound) in
    let low_breaches = in_term site env low in
    let high_breaches = in_term site (in_counting k body env) high in
    let body_breaches = in_steps site (around * bound) body_env body in
    let rest_breaches = in_steps site around env' rest in
    let four = none_left (loop_breaches ++ low_breaches ++ high_breaches ++ body_breaches) rest_breaches none in
    let three = none_left (loop_breaches ++ low_breaches ++ high_breaches) body_breaches four in
    let two = none_left (loop_breaches ++ low_breaches) high_breaches three in
    let range_unbroken = none_left (in_range_of_int at end step) (in_turns at (around * bound)) (none_left loop_breaches low_breaches two) in
    let fits_loop : LoopFits r end step =
    record {
      is = rw typed.0.low_is_int at (term_kept p.globals env ranged low typed.1);
      ends = is_not_below _ _ (unbroken _ _ _ range_unbroken);
      some = typed.0.some;
    } in
    let body_h = walked p n site body (around * bound) body_env
    (ranged_counting p.globals env k (body_range r end) body typed.0.is_int ranged (body_kept r end step fits_loop))
    (rw (kinds-in_body env k (body_range r end) body) typed.3) (none_right (loop_breaches ++ low_breaches ++ high_breaches) body_breaches four) in
    let h = walked p n site rest around env'
    (ranged_counting p.globals env k (range_behind r end step) body typed.0.is_int ranged (behind_kept r end step fits_loop))
    (rw (kinds-in_body env k (range_behind r end step) body) typed.4)
    (none_right (loop_breaches ++ low_breaches ++ high_breaches ++ body_breaches) rest_breaches none) in
    record { ranged = h.ranged; calls = each_append InKinds (calls_in body_env body) (calls_in env' rest) body_h.calls h.calls }
walked p n site (While at turns c body rest) around env ranged typed none =
    let env' = in_while body env in
    let body_env = refined true env' c in
    let turn_breaches = in_turns at (around * turns) in
    let c_breaches = in_term site env' c in
    let body_breaches = in_steps site (around * turns) body_env body in
    let rest_breaches = in_steps site around env' rest in
    let three = none_left (turn_breaches ++ c_breaches ++ body_breaches) rest_breaches none in
    let kinds : kinds_of env' ≡ kinds_of env = kinds-loosened (λ j. assigns j body) env in
    let body_kinds : kinds_of body_env ≡ kinds_of env = kinds-refined true env' c ∙ kinds in
    let ranged' = ranged_loosened ranged (λ j. assigns j body) in
    let body_h = walked p n site body (around * turns) body_env (ranged_refined true env' c ranged') (rw body_kinds typed.1) (none_right (turn_breaches ++ c_breaches) body_breaches three) in
    let h = walked p n site rest around env' ranged' (rw kinds typed.2) (none_right (turn_breaches ++ c_breaches ++ body_breaches) rest_breaches none) in
    record { ranged = h.ranged; calls = each_append InKinds (calls_in body_env body) (calls_in env' rest) body_h.calls h.calls }
walked p n site (Call at target f arguments rest) around env ranged typed none =
    let h = walked p n site rest around (behind_call target env) (ranged_call target env ranged) (rw (kinds-behind_call target env) typed.2)
    (none_right (in_arguments at site env arguments (parameters_of (slice_get site.routines f))) (in_steps site around (behind_call target env) rest) none) in
    record { ranged = h.ranged; calls = (record { each = terms_kept p.globals env ranged arguments typed.1 }, h.calls) }

-- ---- what is given

argument_kept : (kind : Kind) (env : Environment) (o : Option Term) → ((e : Term) → o ≡ Some e → IsRange (kind_of e) (range_of env e)) → Each (IsRange kind) (argument_at env kind o)
argument_kept kind env None h = tt
argument_kept kind env (Some e) h = (converted_kept (kind_of e) kind (range_of env e) (h e refl), tt)

given_kept : (calls : List KnownCall) (f k : ℕ) (kind : Kind) → Each InKinds calls → Each (IsRange kind) (given calls f k kind)
given_kept [] f k kind h = tt
given_kept (c ∷ calls) f k kind h = each_append (IsRange kind) (given_by f k kind c) (given calls f k kind) (by (eqb c.callee f)) (given_kept calls f k kind h.1)
  where
    by : (b : Bool) → Each (IsRange kind) (cond b (argument_at c.known kind (slice_get c.arguments k)) [])
    by true = argument_kept kind c.known (slice_get c.arguments k) (λ e there. h.0.each k e there)
    by false = tt

joined_kept : (kind : Kind) (rs : List Span) (j : Span) → Each (IsRange kind) rs → join_all rs ≡ Some j → IsRange kind j
joined_kept kind [] j h e = cc
joined_kept kind (r ∷ rs) j h e = by (join_all rs) refl e (λ q is. joined_kept kind rs q h.1 is)
  where
    by : (o : Option Span) → join_all rs ≡ o → Some (join_with r o) ≡ Some j → ((q : Span) → join_all rs ≡ Some q → IsRange kind q) → IsRange kind j
    by None is same below = let here : r ≡ j = cc in subst (IsRange kind) here h.0
    by (Some q) is same below = let here : join_with r (Some q) ≡ j = cc in subst (IsRange kind) here (join_kept kind r q h.0 (below q is))

-- ---- parameters

parameter_fits : (calls : List KnownCall) (f k : ℕ) (p : Parameter) → Each InKinds calls →
    IsRange (known_parameter p).kind (known_parameter p).range →
    IsRange (known_parameter (ranged_parameter calls f k p)).kind (known_parameter (ranged_parameter calls f k p)).range
parameter_fits calls f k p h is = by p.range refl
  where
    found : (o : Option (ℤ × ℤ)) → inferred calls f k (promoted p.ty) ≡ o → IsRange (promoted p.ty) (stated_or_whole (promoted p.ty) o)
    found None e = whole_kept (promoted p.ty)
    found (Some r) e = joined_kept (promoted p.ty) (given calls f k (promoted p.ty)) (from_to r.0 r.1) (given_kept calls f k (promoted p.ty) h)
        (narrower_is (promoted p.ty) (given calls f k (promoted p.ty)) r e)

    by : (o : Option (ℤ × ℤ)) → p.range ≡ o → IsRange (promoted p.ty) (stated_or_whole (promoted p.ty) (stated_or p.range (inferred calls f k (promoted p.ty))))
    by None e = rw e (found (inferred calls f k (promoted p.ty)) refl)
    by (Some r) e = let stood : IsRange (promoted p.ty) (stated_or_whole (promoted p.ty) p.range) = is in rw e (rw e at stood)

parameters_fit : (calls : List KnownCall) (f k : ℕ) (ps : List Parameter) → Each InKinds calls → Ranged (map known_parameter ps) → Ranged (map known_parameter (ranged_parameters calls f k ps))
parameters_fit calls f k [] h none_ranged = none_ranged
parameters_fit calls f k (p ∷ ps) h (next_ranged is rest) = next_ranged (parameter_fits calls f k p h is) (parameters_fit calls f (k + 1) ps h rest)

-- ---- functions

pub kinds_parameters : (ps : List Parameter) → kinds_of (map known_parameter ps) ≡ map (λ (l : Text × Ty). promoted l.1) (parameter_names ps)
kinds_parameters [] = refl
kinds_parameters (p ∷ ps) = ap (λ ks. promoted p.ty ∷ ks) (kinds_parameters ps)

pub kinds_declared : (ls : List LocalVariable) (es : List Term) (a b : Environment) → kinds_of a ≡ kinds_of b → kinds_of (declared a ls es) ≡ kinds_of (declared b ls es)
kinds_declared [] es a b e = e
kinds_declared (l ∷ ls) [] a b e = e
kinds_declared (l ∷ ls) (x ∷ es) a b e =
    kinds_declared ls es (a ++ known_local a l x ∷ []) (b ++ known_local b l x ∷ [])
    (map-append (λ (y : Known). y.kind) a (known_local a l x ∷ []) ∙ ap (λ ks. ks ++ promoted l.ty ∷ []) e ∙ sym (map-append (λ (y : Known). y.kind) b (known_local b l x ∷ [])))

routine_calls : (p : Resolved) (n : ℕ) (site : Site) (f : Routine) (calls : List KnownCall) → TypedRoutine p n f →
    Ranged (map known_parameter (ranged_routine calls n f).text.params) → in_routine site (ranged_routine calls n f) ≡ [] →
    Each InKinds (calls_of (ranged_routine calls n f))
routine_calls p n site f calls typed ranged none =
    let g = ranged_routine calls n f in
    let start = map known_parameter g.text.params in
    let same : kinds_of (map known_parameter f.text.params) ≡ kinds_of start = kinds_parameters f.text.params
    ∙ ap (map (λ (l : Text × Ty). promoted l.1)) (routine_ranged calls n f).parameters ∙ sym (kinds_parameters g.text.params) in
    let locals : TypedLocals p.globals (kinds_of start) f.text.locals f.locals = subst (λ ks. TypedLocals p.globals ks f.text.locals f.locals) same typed.locals in
    let body : TypedSteps p n (kinds_of (at_body g)) f.body =
    subst (λ ks. TypedSteps p n ks f.body) (kinds_declared f.text.locals f.locals (map known_parameter f.text.params) start same) typed.body in
    let one = in_locals site start g.text.locals g.locals in
    let two = in_steps site 1 (at_body g) g.body in
    let steps = none_right one two (none_left (one ++ two) (in_result site (after (at_body g) g.body) g.result) none) in
    (walked p n site f.body 1 (at_body g) (ranged_declared p.globals f.text.locals f.locals start ranged locals) body steps).calls

abbrev pub AllFit : List Routine → Type 0
AllFit [] = Unit {0}
AllFit (g ∷ gs) = (Ranged (map known_parameter g.text.params) × Each InKinds (calls_of g)) × AllFit gs

all_calls : (fs : List Routine) → AllFit fs → Each InKinds (calls_of_all fs)
all_calls [] h = tt
all_calls (f ∷ fs) h = each_append InKinds (calls_of f) (calls_of_all fs) h.0.1 (all_calls fs h.1)

pub all_fit : (p : Resolved) (site : Site) (n : ℕ) (fs : List Routine) →
    ((i : ℕ) (f : Routine) → slice_get fs i ≡ Some f → TypedRoutine p (n + i) f) →
    ((i : ℕ) (g : Routine) → slice_get (ranged_routines n fs) i ≡ Some g → in_routine site g ≡ []) → AllFit (ranged_routines n fs)
all_fit p site n [] typed none = tt
all_fit p site n (f ∷ fs) typed none =
    let e : n + 0 ≡ n = omega arith in
    let later = all_fit p site (n + 1) fs (λ i g there. let d : n + suc i ≡ n + 1 + i = omega arith in subst (λ m. TypedRoutine p m g) d (typed (suc i) g there)) (λ i g there. none (suc i) g there) in
    let calls = calls_of_all (ranged_routines (n + 1) fs) in
    let mine : TypedRoutine p n f = subst (λ m. TypedRoutine p m f) e (typed 0 f refl) in
    let ranged = parameters_fit calls n 0 f.text.params (all_calls (ranged_routines (n + 1) fs) later) mine.parameters in
    ((ranged, routine_calls p n site f calls mine ranged (none 0 (ranged_routine calls n f) refl)), later)

pub fit_at : (fs : List Routine) → AllFit fs → (f : ℕ) → Ranged (map known_parameter (parameters_of (slice_get fs f)))
fit_at [] h f = none_ranged
fit_at (g ∷ fs) h zero = h.0.0
fit_at (g ∷ fs) h (suc f) = fit_at fs h.1 f

ranged_param : (ps : List Parameter) → Ranged (map known_parameter ps) → (k : ℕ) (q : Parameter) → slice_get ps k ≡ Some q → IsRange (known_parameter q).kind (known_parameter q).range
ranged_param [] h k q there = cc
ranged_param (p ∷ ps) (next_ranged is rest) zero q there = let same : p ≡ q = cc in subst (λ x. IsRange (known_parameter x).kind (known_parameter x).range) same is
ranged_param (p ∷ ps) (next_ranged is rest) (suc k) q there = ranged_param ps rest k q there

pub ranges_fit : RangesFit
unfolding first_other
ranges_fit lengths p formed words first f k q r there range =
    let rs = (resolved p).routines in
    let gs = (resolved p).globals in
    let others = none_first (other_breaches p) first in
    let fit = all_fit (resolved p) (bare_site p) 0 rs
    (λ i g g_there. let e : 0 + i ≡ i = omega arith in subst (λ m. TypedRoutine (resolved p) m g) (sym e) ((well_formed_is_typed p formed words unlimited.turns).each i g g_there))
    (λ i g g_there. unwatched p i g (others_at p others i g g_there)) in
    let params : parameters_of (slice_get (resolved (annotated lengths p)).routines f) ≡ parameters_of (slice_get (all_ranged p) f) =
    ap (λ (x : Resolved). parameters_of (slice_get x.routines f)) (resolved_annotated lengths p) ∙ parameters_marked lengths gs (all_ranged p) 0 (all_ranged p) f in
    let is = ranged_param (parameters_of (slice_get (all_ranged p) f)) (fit_at (all_ranged p) fit f) k q (ap (λ ps. slice_get ps k) (sym params) ∙ there) in
    subst (λ o. IsRange (promoted q.ty) (stated_or_whole (promoted q.ty) o)) range is
