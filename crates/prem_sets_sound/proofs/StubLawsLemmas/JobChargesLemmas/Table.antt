-- Calls of the functions and stubs of a task are charged at most what the bounds count.
use Rattle.std.proofs.Common.{◌≡◌, ℕ, zero, suc, ◌+◌, ◌%◌, ◌^◌, ◌<◌, ◌≤◌, ◌⊎◌, inl, inr, refl, ap, ◌∙◌, sym, subst, arith, cond, eqb, ltb, leb, true, false, Bool, List, [], ◌∷◌, length}
use Rattle.std.proofs.Common.{None, Some, Option, slice_get}
use Rattle.std.specs.Prelude.{◌-◌, ◌||◌}
use Rattle.prem_sets_sound.proofs.Prelude.{pieces_good, Pieces, no_pieces, code_of, weighted, Setting, Calls, Ending, Falls, Returns, Stuck, run, AllCode, total as sum, Codes, one_of}
use Rattle.prem_sets_sound.proofs.Prelude.{with_part, code_calls, no_calls, with_guard, Setup, TaskRun, TaskState, Did, Instr, CodeTable, part_weight, weight_at, marked_weight}
use Rattle.prem_sets_sound.proofs.Prelude.{marked_weights, job_weight, job_weights, job_bound_of, Placed, Plan, marked_before, Plant, IsReady, IsCharged, ReturnsCharged, PartCharged}
use Rattle.prem_sets_sound.proofs.Prelude.{EachCall, call_weight, PlannedStands, stands_before, TableStands, weight_in, PartsAreCharged, JobsAreBounded, PlacedJobsAreBounded, CalmStands}
use Rattle.prem_sets_sound.proofs.Prelude.{job_charge, Confinement, with_confined, confined_calls, IsOf, pieces_or, codes_in, IsCalm, CalmAt, charge, eqb-true, ltb-true, leb-true}
use Rattle.prem_sets_sound.proofs.StubLawsLemmas.JobChargesLemmas.Called.{each_map, each_any}
use Rattle.prem_sets_sound.proofs.StubLawsLemmas.JobChargesLemmas.Steps.{WellAt}
use Rattle.prem_sets_sound.proofs.StubLawsLemmas.JobChargesLemmas.Stubs.{well_part, stubs_are_charged}
use Rattle.prem_sets_sound.proofs.StubLawsLemmas.JobChargesLemmas.Walk.{calm_runs_are_charged}
use Rattle.prem_sets_sound.proofs.StubLawsLemmas.StubFitsLemmas.Costs.{at, weight_below}
use Rattle.prem_sets_sound.specs.StubLaws.JobCharges.Dues.{CallsBefore}

-- ---- code that stands and changes no phase

both_at : (code : List Instr) (at : ℕ) → AllCode (λ at i. IsCalm i) at code → AllCode WellAt at code → AllCode CalmAt at code
both_at [] at h k = tt
both_at (i ∷ is) at h k = ((h.0, k.0), both_at is (at + 4) h.1 k.1)

pub calm_part : (owned : ℕ → Bool) (s : Setting) (bytes : ℕ → ℕ) (parts part : ℕ) (ps : Pieces) → s.size < 2 ^ 32 → s.places part % 4 ≡ 0 →
    CalmStands owned s bytes parts part ps → AllCode CalmAt (s.places part) (code_of s.places (s.places part) ps)
calm_part owned s bytes parts part ps small al h =
    both_at (code_of s.places (s.places part) ps) (s.places part) (pieces_good IsCalm s.places ps (s.places part) h.calm) (well_part s bytes parts part ps small al h.stands)

returns : (plant : Plant) (most : ℕ) (o : Ending) → IsCharged plant most o → ReturnsCharged plant most o
returns plant most (Falls t trace) h = tt
returns plant most (Returns back t trace) h = h
returns plant most Stuck h = tt

-- ---- weights

pub not_below : (f k : ℕ) → ltb (f + k) f ≡ false
not_below f k = by (ltb (f + k) f) refl where
  by : (b : Bool) → ltb (f + k) f ≡ b → ltb (f + k) f ≡ false
  by false is = is
  by true is = let lt = ltb-true (f + k) f is in absurd (omega (arith, lt))

weight_above : (functions k : ℕ) (code stubs : ℕ → ℕ) (part : ℕ) → part ≡ 1 + functions + k → part_weight functions code stubs part ≡ stubs k
weight_above functions k code stubs part e =
    let s : part ≡ suc (functions + k) = omega (arith, e) in
    let d : functions + k - functions ≡ k = omega arith in
    ap (part_weight functions code stubs) s ∙ ap (λ b. cond b (code (functions + k)) (stubs (functions + k - functions))) (not_below functions k) ∙ ap stubs d

marked_is : (plant : Plant) (plans : List Plan) (k : ℕ) (plan : Plan) → slice_get plans k ≡ Some plan → marked_weights plant plans k ≡ call_weight plant plan.stated
marked_is plant [] k plan e = cc
marked_is plant (x ∷ plans) zero plan e = let same : x ≡ plan = cc in ap (marked_weight plant) same
marked_is plant (x ∷ plans) (suc k) plan e = marked_is plant plans k plan e

-- ---- what is known of a call

module _ (plant : Plant) (plans : List Plan) (table : CodeTable) where
  -- it is one of a function below a number
  record OfFunction (n part : ℕ) (o : Ending) : Type 0 where
    number : ℕ
    below : number < n
    part_is : part ≡ 1 + number
    charged : ReturnsCharged plant (weight_at (job_weights plant plans table) number) o

  -- it is one of a stub
  record OfStub (part : ℕ) (o : Ending) : Type 0 where
    number : ℕ
    part_is : part ≡ 1 + length table.code + number
    charged : ReturnsCharged plant (marked_weights plant plans number) o

  abbrev Known : ℕ → ℕ → Ending → Type 0
  Known n part o = (o ≡ Stuck) ⊎ (OfFunction n part o ⊎ OfStub part o)

  wider : (n m part : ℕ) (o : Ending) → n ≤ m → Known n part o → Known m part o
  wider n m part o le (inl e) = inl e
  wider n m part o le (inr (inl f)) = let lt = f.below in inr (inl (record { number = f.number; below = omega (arith, lt, le); part_is = f.part_is; charged = f.charged }))
  wider n m part o le (inr (inr k)) = inr (inr k)

  one_known : (n part : ℕ) (b : Bool) (x y : Ending) → (b ≡ true → Known n part x) → Known n part y → Known n part (one_of b x y)
  one_known n part true x y h k = h refl
  one_known n part false x y h k = k

  abbrev PartKnown : ℕ → Calls → ℕ → Type 0
  PartKnown n calls part = (t : TaskState) → IsReady t → Known n part (calls part t)

  -- with the weights of the functions before
  known_charged : (n : ℕ) → n ≤ length table.code → (before : List ℕ) →
      ((i : ℕ) → i < n → weight_at (job_weights plant plans table) i ≡ weight_at before i) → (part : ℕ) (o : Ending) → Known n part o →
      ReturnsCharged plant (part_weight (length table.code) (weight_at before) (marked_weights plant plans) part) o
  known_charged n le before same part o (inl stuck) = subst (ReturnsCharged plant (part_weight (length table.code) (weight_at before) (marked_weights plant plans) part)) (sym stuck) tt
  known_charged n le before same part o (inr (inl f)) =
      let lt = f.below in
      subst (λ m. ReturnsCharged plant m o)
      (same f.number f.below ∙ sym (weight_below (length table.code) f.number (weight_at before) (marked_weights plant plans) part f.part_is
      (omega (arith, lt, le)))) f.charged
  known_charged n le before same part o (inr (inr k)) =
      subst (λ m. ReturnsCharged plant m o) (sym (weight_above (length table.code) k.number (weight_at before) (marked_weights plant plans) part k.part_is)) k.charged

  module _ (s : Setting) (c : Codes) (is : IsOf table c) where
    -- a function's own code, which calls those before it and stubs
    own_code : (n : ℕ) (calls : Calls) → n < length table.code →
        AllCode CalmAt (s.places (c.code_part n)) (code_of s.places (s.places (c.code_part n)) (c.code n)) → EachCall (PartKnown n calls) (c.code n) →
        (t : TaskState) → IsReady t → ReturnsCharged plant (weight_at (job_weights plant plans table) n) (run s calls (s.places (c.code_part n)) (c.code n) t)
    own_code n calls lt good known t ready = by (is.code_is n) where
      by : (c.code n ≡ no_pieces) ⊎ (slice_get table.code n ≡ Some (c.code n)) →
          ReturnsCharged plant (weight_at (job_weights plant plans table) n) (run s calls (s.places (c.code_part n)) (c.code n) t)
      by (inl none) = subst (λ ps. ReturnsCharged plant (weight_at (job_weights plant plans table) n) (run s calls (s.places (c.code_part n)) ps t)) (sym none) tt
      by (inr there) =
          let a = at (job_weight plant) (length table.code) (λ known. marked_weights plant plans) [] table.code n (c.code n) there in
          let z : length {A = ℕ} [] + n ≡ n = omega arith in
          let value : weight_at (job_weights plant plans table) n ≡ weighted (job_weight plant) (part_weight (length table.code) (weight_at a.before) (marked_weights plant plans)) (c.code n) =
          ap (weight_at (job_weights plant plans table)) (sym z) ∙ a.is in
          let weights : ℕ → ℕ = part_weight (length table.code) (weight_at a.before) (marked_weights plant plans) in
          subst (λ m. ReturnsCharged plant m (run s calls (s.places (c.code_part n)) (c.code n) t)) (sym value)
          (returns plant (weighted (job_weight plant) (part_weight (length table.code) (weight_at a.before) (marked_weights plant plans)) (c.code n))
          (run s calls (s.places (c.code_part n)) (c.code n) t)
          (calm_runs_are_charged plant s calls (part_weight (length table.code) (weight_at a.before) (marked_weights plant plans)) (c.code n) (s.places (c.code_part n)) good
          (each_map (PartKnown n calls) (λ part. PartCharged plant calls (part_weight (length table.code) (weight_at a.before) (marked_weights plant plans) part) part)
          (λ part k u r. known_charged n (omega (arith, lt)) a.before (λ i less. a.same i (omega (arith, less))) part (calls part u) (k u r)) (c.code n) known) t ready))

    -- ---- functions

    code_known : (total : ℕ) → total ≤ length table.code → ((n : ℕ) → n < total → AllCode CalmAt (s.places (c.code_part n)) (code_of s.places (s.places (c.code_part n)) (c.code n))) →
        (n : ℕ) → n ≤ total → (part : ℕ) → PartKnown n (code_calls s c n) part
    unfolding code_calls
    code_known total few good zero le part t ready = inl refl
    code_known total few good (suc n) le part t ready =
        let earlier : (part : ℕ) → PartKnown n (code_calls s c n) part = code_known total few good n (omega arith) in
        one_known (suc n) part (eqb part (c.code_part n)) (run s (code_calls s c n) (s.places (c.code_part n)) (c.code n) t) (code_calls s c n part t)
        (λ e. inr (inl (record {
          number = n;
          below = omega arith;
          part_is = eqb-true part (c.code_part n) e ∙ is.part_is n;
          charged = own_code n (code_calls s c n) (omega (arith, le, few)) (good n le) (each_any (PartKnown n (code_calls s c n)) earlier (c.code n)) t ready;
        })))
        (wider n (suc n) part (code_calls s c n part t) (omega arith) (earlier part t ready))

-- ---- the task

module _ (setup : Setup) (owned : ℕ → Bool) (passes : ℕ → ℕ) (s : Setting) (c : Codes) (inner : ℕ → Confinement) (own : TaskRun) (ended : ℕ)
    (bytes : ℕ → ℕ) (parts total : ℕ) (plans : List Plan) (table : CodeTable)
    (h : TableStands setup owned passes s c inner own ended bytes parts total plans table) where
  good : (n : ℕ) → n < total → AllCode CalmAt (s.places (c.code_part n)) (code_of s.places (s.places (c.code_part n)) (c.code n))
  good n lt = calm_part owned s bytes parts (c.code_part n) (c.code n) h.running.small (h.running.aligned (c.code_part n)) (h.code n lt)

  -- a stub under its guard
  stub_charged : (n : ℕ) (x : PlannedStands setup owned passes s c (inner n) own ended bytes parts total plans (length table.code) n) (t : TaskState) → IsReady t →
      ReturnsCharged setup.plant (marked_weights setup.plant plans x.planned.number)
      (run (with_guard (inner n).guard s) (code_calls (with_guard (inner n).guard s) (inner n).codes total) (s.places (c.stub_part n)) (c.stub n) t)
  stub_charged n x t ready =
      let y = x.stands in
      let weight : call_weight setup.plant x.stands.at.stated ≡ marked_weights setup.plant plans x.planned.number =
      ap (call_weight setup.plant) x.planned.stated_is ∙ sym (marked_is setup.plant plans x.planned.number x.planned.plan x.planned.there) in
      subst (λ m. ReturnsCharged setup.plant m (run (with_guard (inner n).guard s) (code_calls (with_guard (inner n).guard s) (inner n).codes total) (s.places (c.stub_part n)) (c.stub n) t)) weight
      (subst (λ k. ReturnsCharged setup.plant (call_weight setup.plant x.stands.at.stated)
      (run (with_guard (inner n).guard s) (code_calls (with_guard (inner n).guard s) (inner n).codes total) (s.places k) (c.stub n) t)) y.part_is
      (subst (λ ps. ReturnsCharged setup.plant (call_weight setup.plant x.stands.at.stated)
      (run (with_guard (inner n).guard s) (code_calls (with_guard (inner n).guard s) (inner n).codes total) (s.places x.stands.at.stub) ps t))
      (sym y.code_is)
      (stubs_are_charged setup.plant passes s (inner n).guard (inner n).codes own ended bytes parts total x.stands.at y.stands t ready)))

  confined_known : (n : ℕ) → n ≤ total → (part : ℕ) → PartKnown setup.plant plans table total (confined_calls s c inner total (code_calls s c total) n) part
  unfolding confined_calls
  confined_known zero le part t ready = code_known setup.plant plans table s c h.codes total h.count good total (omega arith) part t ready
  confined_known (suc n) le part t ready = by (c.marked n) refl (confined_known n (omega arith) part t ready) where
    by : (b : Bool) → c.marked n ≡ b → Known setup.plant plans table total part (confined_calls s c inner total (code_calls s c total) n part t) →
        Known setup.plant plans table total part (with_confined s c (inner n) total n b (confined_calls s c inner total (code_calls s c total) n) part t)
    by false e earlier = earlier
    by true e earlier =
        let x = h.stubs n (record { marked = e; below = le }) in
        one_known setup.plant plans table total part (eqb part (c.stub_part n))
        (run (with_guard (inner n).guard s) (code_calls (with_guard (inner n).guard s) (inner n).codes total) (s.places (c.stub_part n)) (c.stub n) t)
        (confined_calls s c inner total (code_calls s c total) n part t)
        (λ here. inr (inr (record { number = x.planned.number; part_is = eqb-true part (c.stub_part n) here ∙ x.planned.part_is; charged = stub_charged n x t ready }))) earlier

  -- of the parts that stand before a function, or are stubs
  narrower : (n part : ℕ) (o : Ending) → stands_before (length table.code) n part ≡ true → Known setup.plant plans table total part o → Known setup.plant plans table n part o
  narrower n part o before (inl e) = inl e
  narrower n part o before (inr (inr k)) = inr (inr k)
  narrower n part o before (inr (inl f)) = by (leb part n) refl before where
    by : (b : Bool) → leb part n ≡ b → (b || ltb (length table.code) part) ≡ true → Known setup.plant plans table n part o
    by true is e =
        let le = leb-true part n is in
        let same = f.part_is in
        inr (inl (record { number = f.number; below = omega (arith, le, same); part_is = f.part_is; charged = f.charged }))
    by false is e =
        let lt = ltb-true (length table.code) part e in
        let same = f.part_is in
        let below = f.below in
        let few = h.count in
        absurd (omega (arith, lt, same, below, few))

  module _ (job : ℕ) (there : job < length table.code) (stands : CalmStands owned s bytes parts (c.code_part job) (c.code job)) (calling : CallsBefore (length table.code) total job (c.code job)) where
    calls_known : CallsBefore (length table.code) total job (c.code job) → EachCall (PartKnown setup.plant plans table job (confined_calls s c inner total (code_calls s c total) total)) (c.code job)
    calls_known (inl le) =
        each_any (PartKnown setup.plant plans table job (confined_calls s c inner total (code_calls s c total) total))
        (λ part u r. wider setup.plant plans table total job part (confined_calls s c inner total (code_calls s c total) total part u) le (confined_known total (omega arith) part u r)) (c.code job)
    calls_known (inr each) =
        each_map (λ part. stands_before (length table.code) job part ≡ true) (PartKnown setup.plant plans table job (confined_calls s c inner total (code_calls s c total) total))
        (λ part before u r. narrower job part (confined_calls s c inner total (code_calls s c total) total part u) before (confined_known total (omega arith) part u r)) (c.code job) each

    job_known : (part : ℕ) → PartKnown setup.plant plans table (suc job) (with_part s (c.code_part job) (c.code job) (confined_calls s c inner total (code_calls s c total) total) no_calls) part
    job_known part t ready =
        one_known setup.plant plans table (suc job) part (eqb part (c.code_part job))
        (run s (confined_calls s c inner total (code_calls s c total) total) (s.places (c.code_part job)) (c.code job) t) Stuck
        (λ e. inr (inl (record {
          number = job;
          below = omega arith;
          part_is = eqb-true part (c.code_part job) e ∙ h.codes.part_is job;
          charged =
              own_code setup.plant plans table s c h.codes job (confined_calls s c inner total (code_calls s c total) total) there
              (calm_part owned s bytes parts (c.code_part job) (c.code job) h.running.small (h.running.aligned (c.code_part job)) stands)
              (calls_known calling) t ready;
        })))
        (inl refl)

    job_charged : (part : ℕ) (t u : TaskState) (back : ℕ) (trace : List Did) → IsReady t →
        with_part s (c.code_part job) (c.code job) (confined_calls s c inner total (code_calls s c total) total) no_calls part t
        ≡ Returns back u trace → sum (charge setup.plant) trace ≤ weight_in setup.plant plans table part
    job_charged part t u back trace ready goes =
        (subst (ReturnsCharged setup.plant (weight_in setup.plant plans table part)) goes
        (known_charged setup.plant plans table (suc job) there (job_weights setup.plant plans table) (λ i lt. refl) part
        (with_part s (c.code_part job) (c.code job) (confined_calls s c inner total (code_calls s c total) total) no_calls part t) (job_known part t ready))).0

pub parts_are_charged : PartsAreCharged
parts_are_charged setup owned passes s c inner own ended bytes parts total job plans table h there stands calling part t u back trace phase fits goes =
    job_charged setup owned passes s c inner own ended bytes parts total plans table h job there stands calling part t u back trace (phase, fits) goes

pub jobs_are_bounded : JobsAreBounded
jobs_are_bounded plant plans table part e =
    subst (λ q. job_charge plant q (weight_in plant plans table q) ≤ job_bound_of plant plans table) (sym e) (least (job_bound_of plant plans table)) where
      least : (n : ℕ) → n ≤ n
      least n = omega arith

-- ---- a placed task

pub codes_are_of : (t : Placed) → IsOf t.table (codes_in t)
codes_are_of t = record { part_is = λ n. refl; code_is = λ n. by (slice_get t.table.code n) } where
  by : (o : Option Pieces) → (pieces_or o ≡ no_pieces) ⊎ (o ≡ Some (pieces_or o))
  by None = inl refl
  by (Some ps) = inr refl

pub placed_jobs_are_bounded : PlacedJobsAreBounded
placed_jobs_are_bounded setup owned passes s t inner own ended bytes parts h =
    let job : ℕ = t.task.program.job in
    let there : t.task.program.job < length t.table.code = subst (λ n. t.task.program.job < n) (sym h.count) h.below in (
      parts_are_charged setup owned passes s (codes_in t) inner own ended bytes parts t.task.program.job t.task.program.job t.plans t.table
          (record {
            codes = codes_are_of t;
            count = below t.task.program.job (length t.table.code) there;
            running = h.running;
            code = λ n lt. h.code n (less n t.task.program.job (length t.task.program.routines) lt h.below);
            stubs = λ n is. let x = h.stubs n is in record {
              stands = x.stands;
              planned = record {
                number = marked_before n t.task.program.routines;
                plan = x.plan;
                there = x.there;
                part_is =
                    ap (λ k. 1 + k + marked_before n t.task.program.routines) (sym h.count);
                stated_is = x.stated_is;
              };
            };
          })
          there (h.code t.task.program.job h.below) (inl (least t.task.program.job)) ((codes_in t).code_part t.task.program.job),
      jobs_are_bounded setup.plant t.plans t.table ((codes_in t).code_part t.task.program.job) (ap (λ n. 1 + n) (sym h.job_is)),
    )
  where
    below : (a b : ℕ) → a < b → a ≤ b
    below a b lt = omega (arith, lt)

    less : (a b c : ℕ) → a < b → b < c → a < c
    less a b c lt more = omega (arith, lt, more)

    least : (n : ℕ) → n ≤ n
    least n = omega arith
