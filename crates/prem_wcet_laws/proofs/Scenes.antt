-- The facts of a task's functions are scenes of its code.
use Rattle.std.proofs.Common.{◌≡◌, ℕ, zero, suc, ◌+◌, ◌<◌, ◌≤◌, refl, ap, ◌∙◌, sym, subst, arith, cond, eq-eqb, true, false, List, [], ◌∷◌, ◌++◌, append_assoc, append-nil, length}
use Rattle.std.proofs.Common.{length-append, inl, inr, Some}
use Rattle.prem_wcet_laws.proofs.Prelude.{run, differs, TaskPlaces, place_at, code_part, Plan, parts_of, is_marked_at, function_code, Extent, Plant, IsAmong, callees_in, Routine, Resolved}
use Rattle.prem_wcet_laws.proofs.Prelude.{everywhere, is_marked, RunDivides, is_held, least_function, globals_of, facts_in, scene_in, ScenesStand, QuietJobsDivide, FactStands, Fact, no_fact}
use Rattle.prem_wcet_laws.proofs.Prelude.{Scene, fact_of, extent_of, frame_range, below_range, stack_of, known_scene, scene_of, fact_at, at_function, facts_behind, length-take-le}
use Rattle.prem_wcet_laws.proofs.Prelude.{slice_get_within, slice_index_or, slice_get, map, unwrap_or, option_map}
use Rattle.prem_wcet_laws.proofs.CallRuns.{frames_work}
use Rattle.prem_wcet_laws.proofs.FunctionRuns.{functions_divide}
use Rattle.prem_wcet_laws.proofs.Held.{has_left, has_right, has_mapped, has_flat, held_left}
use Rattle.std.specs.Prelude.{take}

-- ---- lists of facts

at_seam : (known : List Fact) (x : Fact) (more : List Fact) → slice_index_or ((known ++ x ∷ []) ++ more) (length known) no_fact ≡ x
at_seam [] x more = refl
at_seam (k ∷ ks) x more = at_seam ks x more

take_seam : (known more : List Fact) → take (length known) (known ++ more) ≡ known
take_seam [] more = refl
take_seam (k ∷ ks) more = ap (λ z. k ∷ z) (take_seam ks more)

at_taken : (fs : List Fact) (n f : ℕ) → f < n → slice_index_or (take n fs) f no_fact ≡ slice_index_or fs f no_fact
at_taken fs zero f lt = absurd (omega (arith, lt))
at_taken [] (suc n) f lt = refl
at_taken (x ∷ xs) (suc n) zero lt = refl
at_taken (x ∷ xs) (suc n) (suc f) lt = at_taken xs n f (omega (arith, lt))

module _ (e : Scene) (stack : ℕ → List Extent) where
  abbrev Behind : List Fact → List Routine → List Fact
  Behind known fs = facts_behind e stack known fs

  -- facts that are known stay
  extends : (fs : List Routine) (known : List Fact) → (more : List Fact) × (Behind known fs ≡ known ++ more)
  extends [] known = ([], sym (append-nil known))
  extends (f ∷ fs) known =
      let x = fact_at (at_function e stack known) f (e.places (code_part (length known))) in
      let h = extends fs (known ++ x ∷ []) in
      (x ∷ h.0, h.1 ∙ append_assoc known (x ∷ []) h.0)

  behind_length : (fs : List Routine) (known : List Fact) → length (Behind known fs) ≡ length known + length fs
  behind_length [] known = omega arith
  behind_length (f ∷ fs) known =
      let x = fact_at (at_function e stack known) f (e.places (code_part (length known))) in
      longer (length known) (length (known ++ x ∷ [])) (length fs) _ (length-append known (x ∷ [])) (behind_length fs (known ++ x ∷ [])) where
        longer : (a b n all : ℕ) → b ≡ a + 1 → all ≡ b + n → all ≡ a + suc n
        longer a b n all e more = omega (arith, e, more)

  -- the fact of each function, from those before it
  abbrev pub IsFact : (facts : List Fact) (n : ℕ) (r : Routine) → Type 0
  IsFact facts n r = slice_index_or facts n no_fact ≡ fact_at (at_function e stack (take n facts)) r (e.places (code_part n))

  pub each_fact : (fs : List Routine) (known : List Fact) (j : ℕ) (r : Routine) → slice_get fs j ≡ Some r → IsFact (Behind known fs) (length known + j) r
  each_fact [] known j r is = cc
  each_fact (f ∷ fs) known zero r is =
      let x = fact_at (at_function e stack known) f (e.places (code_part (length known))) in
      let h = extends fs (known ++ x ∷ []) in
      let same : f ≡ r = cc in
      let none : length known ≡ length known + 0 = omega arith in
      let taken : take (length known) (Behind known (f ∷ fs)) ≡ known = ap (take (length known)) (h.1 ∙ append_assoc known (x ∷ []) h.0) ∙ take_seam known (x ∷ h.0) in
      subst (λ n. IsFact (Behind known (f ∷ fs)) n r) none
      (ap (λ fs. slice_index_or fs (length known) no_fact) h.1 ∙ at_seam known x h.0
      ∙ ap (λ r. fact_at (at_function e stack known) r (e.places (code_part (length known)))) same
      ∙ ap (λ ks. fact_at (at_function e stack ks) r (e.places (code_part (length known)))) (sym taken))
  each_fact (f ∷ fs) known (suc j) r is =
      let x = fact_at (at_function e stack known) f (e.places (code_part (length known))) in
      subst (λ n. IsFact (Behind known (f ∷ fs)) n r) (longer (length known) (length (known ++ x ∷ [])) j (length-append known (x ∷ [])))
      (each_fact fs (known ++ x ∷ []) j r is) where
        longer : (a b j : ℕ) → b ≡ a + 1 → b + j ≡ a + suc j
        longer a b j e = omega (arith, e)

some_at : (fs : List Routine) (n : ℕ) → n < length fs → (r : Routine) × (slice_get fs n ≡ Some r)
some_at [] n lt = absurd (omega (arith, lt))
some_at (f ∷ fs) zero lt = (f, refl)
some_at (f ∷ fs) (suc n) lt = some_at fs n (omega (arith, lt))

-- ---- a task

module _ (p : Plant) (plans : List Plan) (program : Resolved) (t : TaskPlaces) where
  abbrev base : Scene
  base = scene_of p plans program t

  abbrev facts : List Fact
  facts = facts_in p plans program t

  abbrev scene : ℕ → Scene
  scene n = scene_in p plans program t n

  pub fact_is : (n f : ℕ) (r : Routine) → f < n → slice_get program.routines f ≡ Some r → fact_of (scene n) f ≡ fact_at (scene f) r (base.places (code_part f))
  fact_is n f r lt is =
      let none : 0 + f ≡ f = omega arith in
      at_taken facts n f lt ∙ subst (λ n. IsFact base (stack_of program t) facts n r) none (each_fact base (stack_of program t) program.routines [] f r is)

  pub facts_length : length facts ≡ length program.routines
  facts_length = none _ _ (behind_length base (stack_of program t) program.routines []) where
    none : (a b : ℕ) → a ≡ 0 + b → a ≡ b
    none a b e = omega (arith, e)

  pub taken_length : (n : ℕ) → n ≤ length program.routines → length (take n facts) ≡ n
  taken_length n le = length-take-le n facts (few _ _ facts_length le) where
    few : (a b : ℕ) → a ≡ b → n ≤ b → n ≤ a
    few a b e le = omega (arith, e, le)

  fact_stands : (n f : ℕ) (r : Routine) → f < n → slice_get program.routines f ≡ Some r → ((g : ℕ) → IsAmong g (callees_in r.body) → g < f) → n ≤ length program.routines → FactStands (scene n) f r
  fact_stands n f r lt is before le =
      let same = fact_is n f r lt is in
      let there = λ (g : ℕ) (among : IsAmong g (callees_in r.body)). some_at program.routines g (omega (arith, before g among, lt, le)) in
      let callee : (g : ℕ) → IsAmong g (callees_in r.body) → fact_of (scene n) g ≡ fact_of (scene f) g =
      λ g among. (let x = there g among in fact_is n g x.0 (omega (arith, before g among, lt)) x.1 ∙ sym (fact_is f g x.0 (before g among) x.1)) in
      record {
        code = subst (λ (x : Fact). Rattle.prem_wcet_laws.specs.ScopeLaws.HasExtent (extent_of (base.places (code_part f)) (function_code base.parts r)) x.code) (sym same) (inl refl);
        globals = λ g among. subst (λ (x : Fact). Rattle.prem_wcet_laws.specs.ScopeLaws.HasExtent (base.global g) x.touched) (sym same)
            (has_right (base.global g) (scene f).stack _ (has_left (base.global g) (map base.global (globals_of r)) _ (has_mapped base.global g (globals_of r) among)));
        before = before;
        callee_code = λ g among x h. subst (λ (y : Fact). Rattle.prem_wcet_laws.specs.ScopeLaws.HasExtent x y.code) (sym same)
            (inr (has_flat (λ f'. (fact_of (scene f) f').code) g (callees_in r.body) x among (subst (λ (y : Fact). Rattle.prem_wcet_laws.specs.ScopeLaws.HasExtent x y.code) (callee g among) h)));
        callee_touched = λ g among x h. subst (λ (y : Fact). Rattle.prem_wcet_laws.specs.ScopeLaws.HasExtent x y.touched) (sym same)
            (has_right x (scene f).stack _
            (has_right x (map base.global (globals_of r)) _
            (has_flat (λ f'. (fact_of (scene f) f').touched) g (callees_in r.body) x among
            (subst (λ (y : Fact). Rattle.prem_wcet_laws.specs.ScopeLaws.HasExtent x y.touched) (callee g among) h))));
      }

  stack_below : (n : ℕ) → n < program.job → n ≤ length program.routines → (scene n).stack ≡ below_range program t ∷ []
  stack_below n lt le =
      ap (stack_of program t) (taken_length n le)
      ∙ ap (λ b. cond b (frame_range program t) (below_range program t) ∷ []) (differs n program.job (λ same. never n program.job lt same)) where
        never : (n m : ℕ) → n < m → n ≡ m → ⊥
        never n m lt e = omega (arith, lt, e)

pub scenes_stand : ScenesStand
scenes_stand p plans program t s gs parts cs phase c total h = record {
  stands = λ n le. record {
    line = h.line;
    parts_are = h.parts_are;
    places_are = h.places_are;
    code_parts = h.code_parts;
    all = h.all;
    some = omega (arith, le, h.some);
    task = h.task;
    there = λ f callable. some_at program.routines f (omega (arith, h.task.below f callable, h.count));
    facts = λ f r lt callable is. fact_stands p plans program t n f r lt is (h.before f r is) (omega (arith, le, h.some, h.count));
    known = taken_length p plans program t n (omega (arith, le, h.some, h.count));
    functions = omega (arith, le, h.some, h.count);
    pieces = λ f lt.
        let x = some_at program.routines f (omega (arith, lt, le, h.some, h.count)) in
        ap (λ (y : Fact). y.pieces) (fact_is p plans program t n f x.0 lt x.1) ∙ sym (h.codes f x.0 (omega (arith, lt, le)) x.1);
    elements = λ g j lt. record { begins = h.begins g j lt; ends = h.ends g j lt };
  };
  plant_is = λ n. refl;
  stack_is = λ n lt. stack_below p plans program t n (omega (arith, lt, h.before_job)) (omega (arith, lt, h.some, h.count));
  least_is = λ n f r le lt callable is.
      let unmarked : is_marked_at program.routines f ≡ false = ap (λ o. unwrap_or (option_map is_marked o) false) is ∙ h.task.plain f r callable is in
      let place : (place_at t (code_part f)).0 ≡ s.places (c.code_part f) = h.places_are (code_part f) ∙ ap s.places (sym (h.code_parts f)) in
      ap (λ b. cond b 0 (fact_of (scene_in p plans program t n) f).least) unmarked ∙ ap (λ (y : Fact). y.least) (fact_is p plans program t n f r lt is)
      ∙ ap (λ at. least_function (scene_in p plans program t f) r at) place;
  below = λ n f a le lt callable held.
      let x = some_at program.routines f (omega (arith, lt, le, h.some, h.count)) in
      subst (λ (y : Fact). is_held y.touched a ≡ true) (sym (fact_is p plans program t n f x.0 lt x.1))
      (held_left (scene_in p plans program t f).stack _ a
      (subst (λ ranges. is_held ranges a ≡ true)
      (sym (stack_below p plans program t f (omega (arith, lt, le, h.before_job)) (omega (arith, lt, le, h.some, h.count)))) held));
}

-- ---- a job without marked calls

pub quiet_jobs_divide : QuietJobsDivide
quiet_jobs_divide p plans program t s gs parts cs phase c h limits calls same f is k ground stack depth under fit slots_is space words st u back word
    after len args b two top_small one al small means =
    let job = program.job in
    let scenes = scenes_stand p plans program t s gs parts cs phase c job h in
    let least_job : job ≤ job = omega arith in
    let within : job < length program.routines = slice_get_within program.routines job f is in
    let stack_is : (scene_in p plans program t job).stack ≡ frame_range program t ∷ [] =
    ap (stack_of program t) (taken_length p plans program t job (omega (arith, within))) ∙ ap (λ b. cond b (frame_range program t) (below_range program t) ∷ []) (eq-eqb job job refl) in
    let works = frames_work (scene_in p plans program t) p (below_range program t ∷ []) s gs parts cs phase c program.routines job scenes everywhere limits calls job least_job same k ground
    (λ a le lt. subst (λ ranges. is_held ranges a ≡ true) (sym stack_is) (stack.frame a le lt)) stack.below in
    let at = s.places (c.code_part job) in
    let place : (place_at t (code_part job)).0 ≡ at = h.places_are (code_part job) ∙ ap s.places (sym (h.code_parts job)) in
    let none : 0 + job ≡ job = omega arith in
    let fact : fact_of (known_scene p plans program t) job ≡ fact_at (scene_in p plans program t job) f (place_at t (code_part job)).0 =
    subst (λ n. IsFact (scene_of p plans program t) (stack_of program t) (facts_in p plans program t) n f) none
    (each_fact (scene_of p plans program t) (stack_of program t) program.routines [] job f is) in
    let least_is : (fact_of (known_scene p plans program t) job).least ≡ least_function (scene_in p plans program t job) f at =
    ap (λ (y : Fact). y.least) fact ∙ ap (λ at. least_function (scene_in p plans program t job) f at) place in
    subst (λ n. RunDivides p n (run s calls at (function_code (parts_of p.target program.routines) f) u)) (sym least_is)
    (functions_divide (scene_in p plans program t job) s gs parts cs phase c program.routines job (scenes.stands job least_job)
    everywhere limits calls k works f at depth under fit (h.before job f is) slots_is space
    words st u back word after len args b two top_small one al small means)
