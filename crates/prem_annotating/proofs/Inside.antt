-- Each region of the annotated program is one of a global.
use Rattle.std.proofs.Common.{◌≡◌, ℕ, ◌+◌, ◌*◌, ◌<◌, ◌≤◌, Bool, true, false, List, [], ◌∷◌, ◌++◌, map, refl, ap, sym, ◌∙◌, subst, arith, Option, None, Some}
use Rattle.std.specs.Prelude.{ℤ, pos, ◌-ℤ◌, ◌≤ℤ◌, int_le, ◌||◌, ◌==◌, slice_get, unwrap_or}
use Rattle.prem_annotating.proofs.Prelude.{all_ranged, other_breaches, first_other, RegionsFit, Each, elements_in, element_number, GlobalAccess, touch, touched_by, touched_by_all}
use Rattle.prem_annotating.proofs.Prelude.{touched_in, touched_by_locals, touched_by_result, touches_of, none_left, none_right, unbroken, unbroken_not, is_at_most, is_not_below, none_first}
use Rattle.prem_annotating.proofs.Prelude.{kinds-at_local, kinds-loosened, kinds-joined, kinds-refined, ranged_local, ranged_any, ranged_loosened, ranged_joined, term_kept, ranged_refined}
use Rattle.prem_annotating.proofs.Prelude.{LoopFits, body_kept, behind_kept, ranged_counting, ranged_call, ranged_declared, kinds-after, kinds-behind_call, kinds-in_body}
use Rattle.prem_annotating.proofs.Prelude.{well_formed_is_typed, assigns, loop_end, turn_bound, in_counting, body_range, range_behind, in_body, behind_loop, in_while, behind_call, after}
use Rattle.prem_annotating.proofs.Prelude.{known_parameter, known_local, declared, at_body, Known, any_again, assigned, Environment, at_local, joined, Site, length_of, in_watches, in_index}
use Rattle.prem_annotating.proofs.Prelude.{in_divisor, in_argument, in_term, in_range_of_int, in_turns, in_counting_loop, in_steps, in_arguments, in_scalar, in_element, parameters_of}
use Rattle.prem_annotating.proofs.Prelude.{in_locals, in_result, in_routine, range_of, refined, IndexOutside, resolved, kinds_of, Typed, TypedResult, AllTyped, TypedSteps, TypedLocals}
use Rattle.prem_annotating.proofs.Prelude.{TypedRoutine, Ranged, ProgramHasWords, IsWellFormed, callee_table, reach_set, kind_of, promoted, Term, Constant, Local, Scalar, Element, Unary}
use Rattle.prem_annotating.proofs.Prelude.{Binary, AndAlso, OrElse, Steps, Done, SetLocal, SetScalar, SetElement, Output, Input, If, For, While, Call, Routine, Resolved, unlimited, Text}
use Rattle.prem_annotating.proofs.Prelude.{Parameter, LocalVariable, GlobalVariable, ProgramText, Place, Ty, converted_kept, Span, from_to, exactly, encloses, converted, Kind, and_parts}
use Rattle.prem_annotating.proofs.Prelude.{ints, clamps, map-append}
use Rattle.prem_annotating.proofs.Fits.{walked, kinds_parameters, kinds_declared, AllFit, all_fit, fit_at}
use Rattle.prem_annotating.proofs.Kept.{Kept, kept_at}
use Rattle.prem_annotating.proofs.Least.{Source, source_back, source_natural, one_region, standing_of}
use Rattle.prem_annotating.proofs.Lists.{each_append, each_at, joined_encloses, joined_meets}
use Rattle.prem_annotating.proofs.Ranges.{origin}
use Rattle.prem_annotating.proofs.Regions.{found_by_name, bare_site, unwatched, others_at}
use Rattle.prem_annotating.proofs.Transformed.{all_ranged_kept}
use Rattle.prem_word.specs.Ranges.{IsRange}

-- ---- accesses

record Inside (gs : List GlobalVariable) (t : GlobalAccess) : Type 0 where
  ordered : t.elements.lo ≤ℤ t.elements.hi
  below : t.elements.hi ≤ℤ (pos (length_of (slice_get gs t.global)) -ℤ pos 1)

abbrev site_by : Resolved → List Routine → Site
site_by p stated = record { globals = p.globals; routines = stated; watches = [] }

scalar_inside : (gs : List GlobalVariable) (at : Place) (g : ℕ) → 0 < length_of (slice_get gs g) → Inside gs (touch at g (exactly (pos 0)))
scalar_inside gs at g some = record { ordered = omega (arith, ints); below = omega (arith, ints) }

element_inside : (p : Resolved) (stated : List Routine) (at : Place) (g : ℕ) (k : Kind) (r : Span) → IsRange k r → in_element (site_by p stated) at g r ≡ [] → Inside p.globals (touch at g r)
element_inside p stated at g k r is none =
    let n = length_of (slice_get p.globals g) in
    let inside : encloses (from_to (pos 0) (pos n -ℤ pos 1)) r ≡ true =
    unbroken_not (encloses (from_to (pos 0) (pos n -ℤ pos 1)) r) at (IndexOutside r n) (none_left (in_index at r n) (in_watches at g r []) none) in
    let parts = and_parts (int_le (pos 0) r.lo) (int_le r.hi (pos n -ℤ pos 1)) inside in
    record { ordered = is.ordered; below = is_at_most r.hi (pos n -ℤ pos 1) parts.1 }

term_inside : (p : Resolved) (stated : List Routine) (env : Environment) → Ranged env → (e : Term) → Typed p.globals (kinds_of env) e →
    in_term (site_by p stated) env e ≡ [] → Each (Inside p.globals) (touched_by env e)
term_inside p stated env ranged (Constant at word kind) typed none = tt
term_inside p stated env ranged (Local at k kind) typed none = tt
term_inside p stated env ranged (Scalar at g ty) typed none = (scalar_inside p.globals at g typed.some, tt)
term_inside p stated env ranged (Element at g ty index) typed none =
    let site = site_by p stated in (
      element_inside p stated at g (kind_of index) (range_of env index) (term_kept p.globals env ranged index typed.1)
          (none_left (in_element site at g (range_of env index)) (in_term site env index) none),
      term_inside p stated env ranged index typed.1 (none_right (in_element site at g (range_of env index)) (in_term site env index) none),
    )
term_inside p stated env ranged (Unary at op e) typed none = term_inside p stated env ranged e typed none
term_inside p stated env ranged (Binary at op kind left right) typed none =
    let site = site_by p stated in
    let divisor = in_divisor at op (converted kind (range_of env right)) in
    each_append (Inside p.globals) (touched_by env left) (touched_by env right)
    (term_inside p stated env ranged left typed.2 (none_left (in_term site env left) divisor (none_left (in_term site env left ++ divisor) (in_term site env right) none)))
    (term_inside p stated env ranged right typed.3 (none_right (in_term site env left ++ divisor) (in_term site env right) none))
term_inside p stated env ranged (AndAlso at left right) typed none =
    let site = site_by p stated in
    let behind = refined true env left in
    each_append (Inside p.globals) (touched_by env left) (touched_by behind right) (term_inside p stated env ranged left typed.0 (none_left (in_term site env left) (in_term site behind right) none))
    (term_inside p stated behind (ranged_refined true env left ranged) right (rw (kinds-refined true env left) typed.1) (none_right (in_term site env left) (in_term site behind right) none))
term_inside p stated env ranged (OrElse at left right) typed none =
    let site = site_by p stated in
    let behind = refined false env left in
    each_append (Inside p.globals) (touched_by env left) (touched_by behind right) (term_inside p stated env ranged left typed.0 (none_left (in_term site env left) (in_term site behind right) none))
    (term_inside p stated behind (ranged_refined false env left ranged) right (rw (kinds-refined false env left) typed.1) (none_right (in_term site env left) (in_term site behind right) none))

arguments_inside : (p : Resolved) (stated : List Routine) (at : Place) (env : Environment) → Ranged env → (es : List Term) (ps : List Parameter) →
    AllTyped p.globals (kinds_of env) es → in_arguments at (site_by p stated) env es ps ≡ [] → Each (Inside p.globals) (touched_by_all env es)
arguments_inside p stated at env ranged [] ps typed none = tt
arguments_inside p stated at env ranged (e ∷ es) [] typed none =
    let site = site_by p stated in
    each_append (Inside p.globals) (touched_by env e) (touched_by_all env es) (term_inside p stated env ranged e typed.0 (none_left (in_term site env e) (in_arguments at site env es []) none))
    (arguments_inside p stated at env ranged es [] typed.1 (none_right (in_term site env e) (in_arguments at site env es []) none))
arguments_inside p stated at env ranged (e ∷ es) (q ∷ ps) typed none =
    let site = site_by p stated in
    let argument = in_argument at env e q in
    each_append (Inside p.globals) (touched_by env e) (touched_by_all env es)
    (term_inside p stated env ranged e typed.0
    (none_right argument (in_term site env e) (none_left (argument ++ in_term site env e) (in_arguments at site env es ps) none)))
    (arguments_inside p stated at env ranged es ps typed.1 (none_right (argument ++ in_term site env e) (in_arguments at site env es ps) none))

inside : (p : Resolved) (n : ℕ) (stated : List Routine) (s : Steps) (around : ℕ) (env : Environment) → Ranged env → TypedSteps p n (kinds_of env) s →
    in_steps (site_by p stated) around env s ≡ [] → Each (Inside p.globals) (touched_in env s)
inside p n stated Done around env ranged typed none = tt
inside p n stated (SetLocal at k e rest) around env ranged typed none =
    let site = site_by p stated in
    let env' = at_local k (assigned (range_of env e)) env in
    let ranged' : Ranged env' = ranged_local ranged k (assigned (range_of env e)) (λ l there is. converted_kept (kind_of e) l.kind (range_of env e) (term_kept p.globals env ranged e typed.0)) in
    each_append (Inside p.globals) (touched_by env e) (touched_in env' rest) (term_inside p stated env ranged e typed.0 (none_left (in_term site env e) (in_steps site around env' rest) none))
    (inside p n stated rest around env' ranged' (rw (kinds-at_local env k (assigned (range_of env e)) (λ l. refl)) typed.1) (none_right (in_term site env e) (in_steps site around env' rest) none))
inside p n stated (SetScalar at g ty e rest) around env ranged typed none =
    let site = site_by p stated in
    let first = in_scalar site at g ++ in_term site env e in
    let others = in_steps site around env rest in
    each_append (Inside p.globals) (touch at g (exactly (pos 0)) ∷ touched_by env e) (touched_in env rest)
    (scalar_inside p.globals at g typed.0.some, term_inside p stated env ranged e typed.1 (none_right (in_scalar site at g) (in_term site env e) (none_left first others none)))
    (inside p n stated rest around env ranged typed.2 (none_right first others none))
inside p n stated (SetElement at g ty index e rest) around env ranged typed none =
    let site = site_by p stated in
    let r = range_of env index in
    let one = in_element site at g r in
    let two = in_term site env index in
    let three = in_term site env e in
    let others = in_steps site around env rest in
    let front = none_left (one ++ two ++ three) others none in
    let head = none_left (one ++ two) three front in
    each_append (Inside p.globals) ((touch at g r ∷ touched_by env index) ++ touched_by env e) (touched_in env rest)
    (each_append (Inside p.globals) (touch at g r ∷ touched_by env index) (touched_by env e)
    (element_inside p stated at g (kind_of index) r (term_kept p.globals env ranged index typed.1) (none_left one two head), term_inside p stated env ranged index typed.1 (none_right one two head))
    (term_inside p stated env ranged e typed.2 (none_right (one ++ two) three front)))
    (inside p n stated rest around env ranged typed.3 (none_right (one ++ two ++ three) others none))
inside p n stated (Output at e rest) around env ranged typed none =
    let site = site_by p stated in
    each_append (Inside p.globals) (touched_by env e) (touched_in env rest) (term_inside p stated env ranged e typed.0 (none_left (in_term site env e) (in_steps site around env rest) none))
    (inside p n stated rest around env ranged typed.1 (none_right (in_term site env e) (in_steps site around env rest) none))
inside p n stated (Input at k rest) around env ranged typed none =
    inside p n stated rest around (at_local k any_again env) (ranged_any ranged k) (rw (kinds-at_local env k any_again (λ l. refl)) typed) none
inside p n stated (If at c taken other rest) around env ranged typed none =
    let site = site_by p stated in
    let yes = refined true env c in
    let no = refined false env c in
    let a = after yes taken in
    let b = after no other in
    let one = in_term site env c in
    let two = in_steps site around yes taken in
    let three = in_steps site around no other in
    let others = in_steps site around (joined a b) rest in
    let front = none_left (one ++ two ++ three) others none in
    let head = none_left (one ++ two) three front in
    let yes_ranged = ranged_refined true env c ranged in
    let no_ranged = ranged_refined false env c ranged in
    let yes_typed : TypedSteps p n (kinds_of yes) taken = rw (kinds-refined true env c) typed.1 in
    let no_typed : TypedSteps p n (kinds_of no) other = rw (kinds-refined false env c) typed.2 in
    let taken_none = none_right one two head in
    let other_none = none_right (one ++ two) three front in
    let yes_kinds : kinds_of a ≡ kinds_of env = kinds-after yes taken ∙ kinds-refined true env c in
    let no_kinds : kinds_of b ≡ kinds_of env = kinds-after no other ∙ kinds-refined false env c in
    let same : kinds_of a ≡ kinds_of b = yes_kinds ∙ sym no_kinds in
    let rest_kinds : kinds_of (joined a b) ≡ kinds_of env = kinds-joined a b same ∙ yes_kinds in
    let behind = ranged_joined (walked p n site taken around yes yes_ranged yes_typed taken_none).ranged (walked p n site other around no no_ranged no_typed other_none).ranged same in
    each_append (Inside p.globals) (touched_by env c ++ touched_in yes taken ++ touched_in no other) (touched_in (joined a b) rest)
    (each_append (Inside p.globals) (touched_by env c ++ touched_in yes taken) (touched_in no other)
    (each_append (Inside p.globals) (touched_by env c) (touched_in yes taken) (term_inside p stated env ranged c typed.0 (none_left one two head))
    (inside p n stated taken around yes yes_ranged yes_typed taken_none))
    (inside p n stated other around no no_ranged no_typed other_none))
    (inside p n stated rest around (joined a b) behind (rw rest_kinds typed.3) (none_right (one ++ two ++ three) others none))
inside p n stated (For at k low closed high step turns body rest) around env ranged typed none =
    let site = site_by p stated in
    let end = loop_end env k closed high body in
    let r = range_of env low in
    let bound = turn_bound r.lo end step in
    let known = in_counting k body env in
    let body_env = in_body env k low end body in
    let env' = behind_loop env k low end step body in
    let loop = in_counting_loop at end step (around * bound) in
    let one = in_term site env low in
    let two = in_term site known high in
    let three = in_steps site (around * bound) body_env body in
    let others = in_steps site around env' rest in
    let front = none_left (loop ++ one ++ two ++ three) others none in
    let middle = none_left (loop ++ one ++ two) three front in
    let head = none_left (loop ++ one) two middle in
    let range_unbroken = none_left (in_range_of_int at end step) (in_turns at (around * bound)) (none_left loop one head) in
    let fits_loop : LoopFits r end step =
    record {
      is = rw typed.0.low_is_int at (term_kept p.globals env ranged low typed.1);
      ends = is_not_below _ _ (unbroken _ _ _ range_unbroken);
      some = typed.0.some;
    } in
    let known_kinds : kinds_of known ≡ kinds_of env = kinds-loosened (λ j. (k == j) || assigns j body) env in
    let high_typed : Typed p.globals (kinds_of known) high = rw known_kinds typed.2 in
    each_append (Inside p.globals) (touched_by env low ++ touched_by known high ++ touched_in body_env body) (touched_in env' rest)
    (each_append (Inside p.globals) (touched_by env low ++ touched_by known high) (touched_in body_env body)
    (each_append (Inside p.globals) (touched_by env low) (touched_by known high) (term_inside p stated env ranged low typed.1 (none_right loop one head))
    (term_inside p stated known (ranged_loosened ranged (λ j. (k == j) || assigns j body)) high high_typed (none_right (loop ++ one) two middle)))
    (inside p n stated body (around * bound) body_env
    (ranged_counting p.globals env k (body_range r end) body typed.0.is_int ranged (body_kept r end step fits_loop))
    (rw (kinds-in_body env k (body_range r end) body) typed.3) (none_right (loop ++ one ++ two) three front)))
    (inside p n stated rest around env'
    (ranged_counting p.globals env k (range_behind r end step) body typed.0.is_int ranged (behind_kept r end step fits_loop))
    (rw (kinds-in_body env k (range_behind r end step) body) typed.4) (none_right (loop ++ one ++ two ++ three) others none))
inside p n stated (While at turns c body rest) around env ranged typed none =
    let site = site_by p stated in
    let env' = in_while body env in
    let body_env = refined true env' c in
    let turn = in_turns at (around * turns) in
    let one = in_term site env' c in
    let two = in_steps site (around * turns) body_env body in
    let others = in_steps site around env' rest in
    let front = none_left (turn ++ one ++ two) others none in
    let kinds : kinds_of env' ≡ kinds_of env = kinds-loosened (λ j. assigns j body) env in
    let body_kinds : kinds_of body_env ≡ kinds_of env = kinds-refined true env' c ∙ kinds in
    let ranged' = ranged_loosened ranged (λ j. assigns j body) in
    each_append (Inside p.globals) (touched_by env' c ++ touched_in body_env body) (touched_in env' rest)
    (each_append (Inside p.globals) (touched_by env' c) (touched_in body_env body) (term_inside p stated env' ranged' c (rw kinds typed.0) (none_right turn one (none_left (turn ++ one) two front)))
    (inside p n stated body (around * turns) body_env (ranged_refined true env' c ranged') (rw body_kinds typed.1) (none_right (turn ++ one) two front)))
    (inside p n stated rest around env' ranged' (rw kinds typed.2) (none_right (turn ++ one ++ two) others none))
inside p n stated (Call at target f arguments rest) around env ranged typed none =
    let site = site_by p stated in
    let given' = in_arguments at site env arguments (parameters_of (slice_get stated f)) in
    let env' = behind_call target env in
    each_append (Inside p.globals) (touched_by_all env arguments) (touched_in env' rest)
    (arguments_inside p stated at env ranged arguments (parameters_of (slice_get stated f)) typed.1
    (none_left given' (in_steps site around env' rest) none))
    (inside p n stated rest around env' (ranged_call target env ranged) (rw (kinds-behind_call target env) typed.2) (none_right given' (in_steps site around env' rest) none))

-- ---- functions

locals_inside : (p : Resolved) (stated : List Routine) (ls : List LocalVariable) (es : List Term) (env : Environment) → Ranged env →
    TypedLocals p.globals (kinds_of env) ls es → in_locals (site_by p stated) env ls es ≡ [] → Each (Inside p.globals) (touched_by_locals env ls es)
locals_inside p stated [] es env ranged typed none = tt
locals_inside p stated (l ∷ ls) [] env ranged typed none = tt
locals_inside p stated (l ∷ ls) (e ∷ es) env ranged typed none =
    let site = site_by p stated in
    let next = env ++ known_local env l e ∷ [] in
    let kinds : kinds_of next ≡ kinds_of env ++ promoted l.ty ∷ [] = map-append (λ (y : Known). y.kind) env (known_local env l e ∷ []) in
    each_append (Inside p.globals) (touched_by env e) (touched_by_locals next ls es) (term_inside p stated env ranged e typed.0 (none_left (in_term site env e) (in_locals site next ls es) none))
    (locals_inside p stated ls es next (ranged_declared p.globals (l ∷ []) (e ∷ []) env ranged (typed.0, tt))
    (subst (λ ks. TypedLocals p.globals ks ls es) (sym kinds) typed.1) (none_right (in_term site env e) (in_locals site next ls es) none))

result_inside : (p : Resolved) (stated : List Routine) (env : Environment) → Ranged env → (e : Option Term) → TypedResult p.globals (kinds_of env) e →
    in_result (site_by p stated) env e ≡ [] → Each (Inside p.globals) (touched_by_result env e)
result_inside p stated env ranged None typed none = tt
result_inside p stated env ranged (Some e) typed none = term_inside p stated env ranged e typed none

routine_inside : (p : Resolved) (n : ℕ) (stated : List Routine) (f g : Routine) → Kept f g → TypedRoutine p n f →
    Ranged (map known_parameter g.text.params) → in_routine (site_by p stated) g ≡ [] → Each (Inside p.globals) (touches_of g)
routine_inside p n stated f g kept typed ranged none =
    let site = site_by p stated in
    let old_start = map known_parameter f.text.params in
    let start = map known_parameter g.text.params in
    let same : kinds_of old_start ≡ kinds_of start = kinds_parameters f.text.params ∙ ap (map (λ (l : Text × Ty). promoted l.1)) kept.parameters ∙ sym (kinds_parameters g.text.params) in
    let locals_f : TypedLocals p.globals (kinds_of start) f.text.locals f.locals = subst (λ ks. TypedLocals p.globals ks f.text.locals f.locals) same typed.locals in
    let locals : TypedLocals p.globals (kinds_of start) g.text.locals g.locals =
    subst (λ es. TypedLocals p.globals (kinds_of start) g.text.locals es) kept.locals
    (subst (λ ls. TypedLocals p.globals (kinds_of start) ls f.locals) kept.declarations locals_f) in
    let at : kinds_of (at_body f) ≡ kinds_of (at_body g) =
    kinds_declared f.text.locals f.locals old_start start same ∙ ap (λ ls. kinds_of (declared start ls f.locals)) kept.declarations
    ∙ ap (λ es. kinds_of (declared start g.text.locals es)) kept.locals in
    let body : TypedSteps p n (kinds_of (at_body g)) g.body = subst (λ s. TypedSteps p n (kinds_of (at_body g)) s) kept.body (subst (λ ks. TypedSteps p n ks f.body) at typed.body) in
    let end = after (at_body g) g.body in
    let end_kinds : kinds_of (at_body g) ≡ kinds_of end = sym (kinds-after (at_body g) g.body) in
    let result : TypedResult p.globals (kinds_of end) g.result =
    subst (λ r. TypedResult p.globals (kinds_of end) r) kept.result (subst (λ ks. TypedResult p.globals ks f.result) (at ∙ end_kinds) typed.result) in
    let one = in_locals site start g.text.locals g.locals in
    let two = in_steps site 1 (at_body g) g.body in
    let three = in_result site end g.result in
    let front = none_left (one ++ two) three none in
    let known = ranged_declared p.globals g.text.locals g.locals start ranged locals in
    let behind = (walked p n site g.body 1 (at_body g) known body (none_right one two front)).ranged in
    each_append (Inside p.globals) (touched_by_locals start g.text.locals g.locals ++ touched_in (at_body g) g.body) (touched_by_result end g.result)
    (each_append (Inside p.globals) (touched_by_locals start g.text.locals g.locals) (touched_in (at_body g) g.body)
    (locals_inside p stated g.text.locals g.locals start ranged locals (none_left one two front))
    (inside p n stated g.body 1 (at_body g) known body (none_right one two front)))
    (result_inside p stated end behind g.result result (none_right (one ++ two) three none))

fit_of : (fs : List Routine) → AllFit fs → (i : ℕ) (g : Routine) → slice_get fs i ≡ Some g → Ranged (map known_parameter g.text.params)
fit_of fs h i g there = subst (λ o. Ranged (map known_parameter (parameters_of o))) there (fit_at fs h i)

source_inside_global : (p : ProgramText) → IsWellFormed p → ProgramHasWords p → other_breaches p ≡ [] → (set : List Bool) (g : ℕ) (s : Span) →
    Source set g 0 (all_ranged p) s → (s.lo ≤ℤ s.hi) × (s.hi ≤ℤ (pos (length_of (slice_get (resolved p).globals g)) -ℤ pos 1))
source_inside_global p formed words others set g s source =
    let rs = (resolved p).routines in
    let i = source.number in
    let fit = all_fit (resolved p) (bare_site p) 0 rs
    (λ j h there. let e : 0 + j ≡ j = omega arith in subst (λ m. TypedRoutine (resolved p) m h) (sym e) ((well_formed_is_typed p formed words unlimited.turns).each j h there))
    (λ j h there. unwatched p j h (others_at p others j h there)) in
    let from = origin (slice_get rs i) (slice_get (all_ranged p) i) source.function (kept_at (all_ranged_kept p) i) source.there in
    let typed = (well_formed_is_typed p formed words unlimited.turns).each i from.routine from.there in
    let all = routine_inside (resolved p) i (all_ranged p) from.routine source.function from.kept typed
    (fit_of (all_ranged p) fit i source.function source.there) (unwatched p i source.function (others_at p others i source.function source.there)) in
    let is = each_at (Inside (resolved p).globals) source.access (touches_of source.function) all source.among in
    let ordered : s.lo ≤ℤ s.hi = subst (λ (r : Span). r.lo ≤ℤ r.hi) source.elements is.ordered in
    let below : s.hi ≤ℤ (pos (length_of (slice_get (resolved p).globals source.access.global)) -ℤ pos 1) =
    subst (λ (r : Span). r.hi ≤ℤ (pos (length_of (slice_get (resolved p).globals source.access.global)) -ℤ pos 1)) source.elements is.below in
    (ordered, subst (λ m. s.hi ≤ℤ (pos (length_of (slice_get (resolved p).globals m)) -ℤ pos 1)) source.global below)

-- ---- the law

number_ordered : (lo hi : ℤ) → lo ≤ℤ hi → element_number lo ≤ element_number hi
number_ordered lo hi h = omega (arith, ints, clamps)

number_below : (lo hi : ℤ) (n : ℕ) → pos 0 ≤ℤ lo → lo ≤ℤ hi → hi ≤ℤ (pos n -ℤ pos 1) → element_number hi < n
number_below lo hi n natural ordered below = omega (arith, ints, clamps)

≤ℤ_chain : (a b c : ℤ) → a ≤ℤ b → b ≤ℤ c → a ≤ℤ c
≤ℤ_chain a b c h k = omega (arith, ints)

pub regions_fit : RegionsFit
unfolding first_other
regions_fit lengths p formed words first n k r has =
    let gs = (resolved p).globals in
    let all = all_ranged p in
    let set = reach_set (callee_table all) n in
    let others = none_first (other_breaches p) first in
    let st = standing_of lengths p n k r has in
    let one = one_region st.at gs all set 0 k gs r (λ i v there. let e : 0 + i ≡ i = omega arith in found_by_name p formed i v there ∙ ap (λ m. Some (m, v)) (sym e)) st.stands in
    let g = 0 + one.number in
    let e : g ≡ one.number = omega arith in
    let meets = joined_meets (elements_in set g 0 all) one.around one.joined in
    let lowest = source_inside_global p formed words others set g meets.lowest (source_back set g 0 all meets.lowest meets.lowest_among) in
    let highest = source_inside_global p formed words others set g meets.highest (source_back set g 0 all meets.highest meets.highest_among) in
    let natural = source_natural p formed words others set g meets.lowest (source_back set g 0 all meets.lowest meets.lowest_among) in
    let held = and_parts (int_le one.around.lo meets.lowest.lo) (int_le meets.lowest.hi one.around.hi)
    (joined_encloses (elements_in set g 0 all) one.around meets.lowest one.joined meets.lowest_among) in
    let low_is : meets.lowest.lo ≡ one.around.lo = meets.lowest_is in
    let high_is : meets.highest.hi ≡ one.around.hi = meets.highest_is in
    let lo_natural : pos 0 ≤ℤ one.around.lo = subst (λ z. pos 0 ≤ℤ z) low_is natural in
    let ordered : one.around.lo ≤ℤ one.around.hi =
    ≤ℤ_chain one.around.lo meets.lowest.hi one.around.hi (subst (λ z. z ≤ℤ meets.lowest.hi) low_is lowest.0)
    (is_at_most meets.lowest.hi one.around.hi held.1) in
    let size : length_of (slice_get gs g) ≡ unwrap_or one.variable.len 1 = ap (λ m. length_of (slice_get gs m)) e ∙ ap length_of one.variable_there in
    let below : one.around.hi ≤ℤ (pos (length_of (slice_get gs g)) -ℤ pos 1) = subst (λ z. z ≤ℤ (pos (length_of (slice_get gs g)) -ℤ pos 1)) high_is highest.1 in
    record {
      number = one.number;
      variable = one.variable;
      there = one.variable_there;
      name_is = one.name_is;
      ordered = subst (λ m. m ≤ r.high) (sym one.low_is) (subst (λ m. element_number one.around.lo ≤ m) (sym one.high_is) (number_ordered one.around.lo one.around.hi ordered));
      below = subst (λ m. m < unwrap_or one.variable.len 1) (sym one.high_is)
          (subst (λ m. element_number one.around.hi < m) size (number_below one.around.lo one.around.hi (length_of (slice_get gs g)) lo_natural ordered below));
    }
