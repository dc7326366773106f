-- Calls of the functions and stubs of a task have no greater sums than their code.
use Rattle.std.proofs.Common.{◌≡◌, ℕ, zero, suc, ◌+◌, ◌<◌, ◌≤◌, ◌⊎◌, inl, inr, refl, ap, ◌∙◌, sym, subst, arith, cond, eqb, ltb, leb, true, false, Bool, List, [], ◌∷◌, ◌++◌, length}
use Rattle.std.proofs.Common.{length-append, Some, slice_get}
use Rattle.std.specs.Prelude.{◌-◌, ◌||◌}
use Rattle.prem_sets_sound.proofs.Prelude.{Pieces, no_pieces, code_of, Setting, Calls, Ending, Falls, Returns, Stuck, run, AllCode, Codes, one_of, with_part, code_calls, no_calls}
use Rattle.prem_sets_sound.proofs.Prelude.{with_guard, Setup, TaskRun, TaskState, Did, Instr, sums_are_exact, CodeTable, job_weight, Plan, Sums, taking, greatest, summed, part_sums, sums_at}
use Rattle.prem_sets_sound.proofs.Prelude.{sums_behind, job_sums, marked_sums, marked_sums_of, IsWithin, marked_before, Plant, IsReady, EachCall, PlannedStands, stands_before, TableStands}
use Rattle.prem_sets_sound.proofs.Prelude.{CalmStands, start_sums, Confinement, with_confined, confined_calls, ReturnsLast, IsStrided, ReturnsStrided, PartStrided, sums_in, PartsAreStrided}
use Rattle.prem_sets_sound.proofs.Prelude.{PlacedJobsAreStrided, IsOf, codes_in, strides, CalmAt, eqb-true, ltb-true, lt-ltb, leb-true, get_or_append_left, get_or-append-add}
use Rattle.prem_sets_sound.proofs.StubLawsLemmas.JobChargesLemmas.Called.{each_map, each_any}
use Rattle.prem_sets_sound.proofs.StubLawsLemmas.JobChargesLemmas.Table.{calm_part, codes_are_of, not_below}
use Rattle.prem_sets_sound.proofs.StubLawsLemmas.StretchLengthsLemmas.Stubs.{stub_strided}
use Rattle.prem_sets_sound.proofs.StubLawsLemmas.StretchLengthsLemmas.Walk.{calm_runs_are_strided}
use Rattle.prem_sets_sound.specs.StubLaws.JobCharges.Dues.{CallsBefore}

returns : (plant : Plant) (most : Sums) (o : Ending) → IsStrided plant most o → ReturnsStrided plant most o
returns plant most (Falls t trace) h = tt
returns plant most (Returns back t trace) h = h
returns plant most Stuck h = tt

-- ---- the sums of functions

module _ (w : Instr → ℕ) (functions : ℕ) (stubs : ℕ → Sums) where
  one_more : (known : List Sums) (x : Sums) → length (known ++ x ∷ []) ≡ length known + 1
  one_more known x = length-append known (x ∷ [])

  -- what is known stays
  stays : (known : List Sums) (rest : List Pieces) (m : ℕ) → m < length known → sums_at (sums_behind w functions stubs known rest) m ≡ sums_at known m
  stays known [] m lt = refl
  stays known (ps ∷ rest) m lt =
      let x : Sums = summed w (part_sums functions (sums_at known) stubs) ps in
      stays (known ++ summed w (part_sums functions (sums_at known) stubs) ps ∷ []) rest m (omega (arith, lt, one_more known (summed w (part_sums functions (sums_at known) stubs) ps)))
      ∙ get_or_append_left known (summed w (part_sums functions (sums_at known) stubs) ps ∷ []) (taking 0) m lt

  -- a function's sums rest on those before it
  record At (all : List Sums) (m : ℕ) (ps : Pieces) : Type 0 where
    before : List Sums
    long : length before ≡ m
    same : (i : ℕ) → i < m → sums_at all i ≡ sums_at before i
    is : sums_at all m ≡ summed w (part_sums functions (sums_at before) stubs) ps

  at : (known : List Sums) (rest : List Pieces) (i : ℕ) (ps : Pieces) → slice_get rest i ≡ Some ps → At (sums_behind w functions stubs known rest) (length known + i) ps
  at known [] i ps e = cc
  at known (x ∷ rest) zero ps e =
      let same : x ≡ ps = cc in
      let more : List Sums = known ++ summed w (part_sums functions (sums_at known) stubs) x ∷ [] in
      let long = one_more known (summed w (part_sums functions (sums_at known) stubs) x) in
      let z : length known + 0 ≡ length known = omega arith in
      record {
        before = known;
        long = sym z;
        same = λ i lt. stays more rest i (omega (arith, lt, long)) ∙ get_or_append_left known (summed w (part_sums functions (sums_at known) stubs) x ∷ []) (taking 0) i (omega (arith, lt));
        is = stays more rest (length known + 0) (omega (arith, long)) ∙ get_or-append-add known (summed w (part_sums functions (sums_at known) stubs) x ∷ []) 0 (taking 0)
            ∙ ap (λ qs. summed w (part_sums functions (sums_at known) stubs) qs) same;
      }
  at known (x ∷ rest) (suc i) ps e =
      let more : List Sums = known ++ summed w (part_sums functions (sums_at known) stubs) x ∷ [] in
      let long = one_more known (summed w (part_sums functions (sums_at known) stubs) x) in
      let z : length more + i ≡ length known + suc i = omega (arith, long) in
      subst (λ m. At (sums_behind w functions stubs more rest) m ps) z (at more rest i ps e)

sums_above : (functions k : ℕ) (code stubs : ℕ → Sums) (part : ℕ) → part ≡ 1 + functions + k → part_sums functions code stubs part ≡ stubs k
sums_above functions k code stubs part e =
    let s : part ≡ suc (functions + k) = omega (arith, e) in
    let d : functions + k - functions ≡ k = omega arith in
    ap (part_sums functions code stubs) s ∙ ap (λ b. cond b (code (functions + k)) (stubs (functions + k - functions))) (not_below functions k) ∙ ap stubs d

sums_below : (functions m : ℕ) (code stubs : ℕ → Sums) (part : ℕ) → part ≡ 1 + m → m < functions → part_sums functions code stubs part ≡ code m
sums_below functions m code stubs part e lt =
    let s : part ≡ suc m = omega (arith, e) in
    ap (part_sums functions code stubs) s ∙ ap (λ b. cond b (code m) (stubs (m - functions))) (lt-ltb m functions lt)

marked_is : (plant : Plant) (plans : List Plan) (k : ℕ) (plan : Plan) → slice_get plans k ≡ Some plan → marked_sums plant plans k ≡ marked_sums_of plant
marked_is plant [] k plan e = cc
marked_is plant (x ∷ plans) zero plan e = refl
marked_is plant (x ∷ plans) (suc k) plan e = marked_is plant plans k plan e

-- ---- what is known of a call

module _ (plant : Plant) (plans : List Plan) (table : CodeTable) where
  -- it is one of a function below a number
  record OfFunction (n part : ℕ) (o : Ending) : Type 0 where
    number : ℕ
    below : number < n
    part_is : part ≡ 1 + number
    strided : ReturnsStrided plant (sums_at (job_sums plant plans table) number) o

  -- it is one of a stub
  record OfStub (part : ℕ) (o : Ending) : Type 0 where
    number : ℕ
    part_is : part ≡ 1 + length table.code + number
    strided : ReturnsStrided plant (marked_sums plant plans number) o

  abbrev Known : ℕ → ℕ → Ending → Type 0
  Known n part o = (o ≡ Stuck) ⊎ (OfFunction n part o ⊎ OfStub part o)

  wider : (n m part : ℕ) (o : Ending) → n ≤ m → Known n part o → Known m part o
  wider n m part o le (inl e) = inl e
  wider n m part o le (inr (inl f)) = let lt = f.below in inr (inl (record { number = f.number; below = omega (arith, lt, le); part_is = f.part_is; strided = f.strided }))
  wider n m part o le (inr (inr k)) = inr (inr k)

  one_known : (n part : ℕ) (b : Bool) (x y : Ending) → (b ≡ true → Known n part x) → Known n part y → Known n part (one_of b x y)
  one_known n part true x y h k = h refl
  one_known n part false x y h k = k

  abbrev PartKnown : ℕ → Calls → ℕ → Type 0
  PartKnown n calls part = (t : TaskState) → IsReady t → Known n part (calls part t)

  -- with the weights of the functions before
  known_strided : (n : ℕ) → n ≤ length table.code → (before : List Sums) → ((i : ℕ) → i < n → sums_at (job_sums plant plans table) i ≡ sums_at before i) → (part : ℕ) (o : Ending) → Known n part o →
      ReturnsStrided plant (part_sums (length table.code) (sums_at before) (marked_sums plant plans) part) o
  known_strided n le before same part o (inl stuck) = subst (ReturnsStrided plant (part_sums (length table.code) (sums_at before) (marked_sums plant plans) part)) (sym stuck) tt
  known_strided n le before same part o (inr (inl f)) =
      let lt = f.below in
      subst (λ m. ReturnsStrided plant m o)
      (same f.number f.below ∙ sym (sums_below (length table.code) f.number (sums_at before) (marked_sums plant plans) part f.part_is
      (omega (arith, lt, le)))) f.strided
  known_strided n le before same part o (inr (inr k)) =
      subst (λ m. ReturnsStrided plant m o) (sym (sums_above (length table.code) k.number (sums_at before) (marked_sums plant plans) part k.part_is)) k.strided

  module _ (s : Setting) (c : Codes) (is : IsOf table c) where
    -- a function's own code, which calls those before it and stubs
    own_code : (n : ℕ) (calls : Calls) → n < length table.code → ReturnsLast (c.code n) →
        AllCode CalmAt (s.places (c.code_part n)) (code_of s.places (s.places (c.code_part n)) (c.code n)) → EachCall (PartKnown n calls) (c.code n) →
        (t : TaskState) → IsReady t → ReturnsStrided plant (sums_at (job_sums plant plans table) n) (run s calls (s.places (c.code_part n)) (c.code n) t)
    own_code n calls lt last good known t ready = by (is.code_is n) where
      by : (c.code n ≡ no_pieces) ⊎ (slice_get table.code n ≡ Some (c.code n)) → ReturnsStrided plant (sums_at (job_sums plant plans table) n) (run s calls (s.places (c.code_part n)) (c.code n) t)
      by (inl none) = subst (λ ps. ReturnsStrided plant (sums_at (job_sums plant plans table) n) (run s calls (s.places (c.code_part n)) ps t)) (sym none) tt
      by (inr there) =
          let a = at (job_weight plant) (length table.code) (marked_sums plant plans) [] table.code n (c.code n) there in
          let z : length {A = Sums} [] + n ≡ n = omega arith in
          let value : sums_at (job_sums plant plans table) n ≡ summed (job_weight plant) (part_sums (length table.code) (sums_at a.before) (marked_sums plant plans)) (c.code n) =
          ap (sums_at (job_sums plant plans table)) (sym z) ∙ a.is in
          subst (λ m. ReturnsStrided plant m (run s calls (s.places (c.code_part n)) (c.code n) t)) (sym value)
          (returns plant (summed (job_weight plant) (part_sums (length table.code) (sums_at a.before) (marked_sums plant plans)) (c.code n)) (run s calls (s.places (c.code_part n)) (c.code n) t)
          (calm_runs_are_strided plant s calls (part_sums (length table.code) (sums_at a.before) (marked_sums plant plans)) (c.code n) (s.places (c.code_part n)) good last
          (each_map (PartKnown n calls) (λ part. PartStrided plant calls (part_sums (length table.code) (sums_at a.before) (marked_sums plant plans) part) part)
          (λ part k u r. known_strided n (omega (arith, lt)) a.before (λ i less. a.same i (omega (arith, less))) part (calls part u) (k u r)) (c.code n) known) t ready))

    -- ---- functions

    code_known : (total : ℕ) → total ≤ length table.code → ((n : ℕ) → n < total → ReturnsLast (c.code n)) →
        ((n : ℕ) → n < total → AllCode CalmAt (s.places (c.code_part n)) (code_of s.places (s.places (c.code_part n)) (c.code n))) →
        (n : ℕ) → n ≤ total → (part : ℕ) → PartKnown n (code_calls s c n) part
    unfolding code_calls
    code_known total few lasts good zero le part t ready = inl refl
    code_known total few lasts good (suc n) le part t ready =
        let earlier : (part : ℕ) → PartKnown n (code_calls s c n) part = code_known total few lasts good n (omega arith) in
        one_known (suc n) part (eqb part (c.code_part n)) (run s (code_calls s c n) (s.places (c.code_part n)) (c.code n) t) (code_calls s c n part t)
        (λ e. inr (inl (record {
          number = n;
          below = omega arith;
          part_is = eqb-true part (c.code_part n) e ∙ is.part_is n;
          strided = own_code n (code_calls s c n) (omega (arith, le, few)) (lasts n le) (good n le) (each_any (PartKnown n (code_calls s c n)) earlier (c.code n)) t ready;
        })))
        (wider n (suc n) part (code_calls s c n part t) (omega arith) (earlier part t ready))

-- ---- the task

module _ (setup : Setup) (owned : ℕ → Bool) (passes : ℕ → ℕ) (s : Setting) (c : Codes) (inner : ℕ → Confinement) (own : TaskRun) (ended : ℕ)
    (bytes : ℕ → ℕ) (parts total : ℕ) (plans : List Plan) (table : CodeTable)
    (h : TableStands setup owned passes s c inner own ended bytes parts total plans table) (lasts : (n : ℕ) → n < total → ReturnsLast (c.code n)) where
  good : (n : ℕ) → n < total → AllCode CalmAt (s.places (c.code_part n)) (code_of s.places (s.places (c.code_part n)) (c.code n))
  good n lt = calm_part owned s bytes parts (c.code_part n) (c.code n) h.running.small (h.running.aligned (c.code_part n)) (h.code n lt)

  -- a stub under its guard
  stub_here : (n : ℕ) (x : PlannedStands setup owned passes s c (inner n) own ended bytes parts total plans (length table.code) n) (t : TaskState) → IsReady t →
      ReturnsStrided setup.plant (marked_sums setup.plant plans x.planned.number)
      (run (with_guard (inner n).guard s) (code_calls (with_guard (inner n).guard s) (inner n).codes total) (s.places (c.stub_part n)) (c.stub n) t)
  stub_here n x t ready =
      let y = x.stands in
      let sums : marked_sums_of setup.plant ≡ marked_sums setup.plant plans x.planned.number = sym (marked_is setup.plant plans x.planned.number x.planned.plan x.planned.there) in
      subst (λ m. ReturnsStrided setup.plant m (run (with_guard (inner n).guard s) (code_calls (with_guard (inner n).guard s) (inner n).codes total) (s.places (c.stub_part n)) (c.stub n) t)) sums
      (subst (λ k. ReturnsStrided setup.plant (marked_sums_of setup.plant)
      (run (with_guard (inner n).guard s) (code_calls (with_guard (inner n).guard s) (inner n).codes total) (s.places k) (c.stub n) t)) y.part_is
      (subst (λ ps. ReturnsStrided setup.plant (marked_sums_of setup.plant)
      (run (with_guard (inner n).guard s) (code_calls (with_guard (inner n).guard s) (inner n).codes total) (s.places x.stands.at.stub) ps t))
      (sym y.code_is)
      (stub_strided setup.plant passes s (inner n).guard (inner n).codes own ended bytes parts total x.stands.at y.stands t ready)))

  confined_known : (n : ℕ) → n ≤ total → (part : ℕ) → PartKnown setup.plant plans table total (confined_calls s c inner total (code_calls s c total) n) part
  unfolding confined_calls
  confined_known zero le part t ready = code_known setup.plant plans table s c h.codes total h.count lasts good total (omega arith) part t ready
  confined_known (suc n) le part t ready = by (c.marked n) refl (confined_known n (omega arith) part t ready) where
    by : (b : Bool) → c.marked n ≡ b → Known setup.plant plans table total part (confined_calls s c inner total (code_calls s c total) n part t) →
        Known setup.plant plans table total part (with_confined s c (inner n) total n b (confined_calls s c inner total (code_calls s c total) n) part t)
    by false e earlier = earlier
    by true e earlier =
        let x = h.stubs n (record { marked = e; below = le }) in
        one_known setup.plant plans table total part (eqb part (c.stub_part n))
        (run (with_guard (inner n).guard s) (code_calls (with_guard (inner n).guard s) (inner n).codes total) (s.places (c.stub_part n)) (c.stub n) t)
        (confined_calls s c inner total (code_calls s c total) n part t)
        (λ here. inr (inr (record { number = x.planned.number; part_is = eqb-true part (c.stub_part n) here ∙ x.planned.part_is; strided = stub_here n x t ready }))) earlier

  -- of the parts that stand before a function, or are stubs
  narrower : (n part : ℕ) (o : Ending) → stands_before (length table.code) n part ≡ true → Known setup.plant plans table total part o → Known setup.plant plans table n part o
  narrower n part o before (inl e) = inl e
  narrower n part o before (inr (inr k)) = inr (inr k)
  narrower n part o before (inr (inl f)) = by (leb part n) refl before where
    by : (b : Bool) → leb part n ≡ b → (b || ltb (length table.code) part) ≡ true → Known setup.plant plans table n part o
    by true is e =
        let le = leb-true part n is in
        let same = f.part_is in
        inr (inl (record { number = f.number; below = omega (arith, le, same); part_is = f.part_is; strided = f.strided }))
    by false is e =
        let lt = ltb-true (length table.code) part e in
        let same = f.part_is in
        let below = f.below in
        let few = h.count in
        absurd (omega (arith, lt, same, below, few))

  module _ (job : ℕ) (there : job < length table.code) (stands : CalmStands owned s bytes parts (c.code_part job) (c.code job))
      (last : ReturnsLast (c.code job)) (calling : CallsBefore (length table.code) total job (c.code job)) where
    calls_known : CallsBefore (length table.code) total job (c.code job) → EachCall (PartKnown setup.plant plans table job (confined_calls s c inner total (code_calls s c total) total)) (c.code job)
    calls_known (inl le) =
        each_any (PartKnown setup.plant plans table job (confined_calls s c inner total (code_calls s c total) total))
        (λ part u r. wider setup.plant plans table total job part (confined_calls s c inner total (code_calls s c total) total part u) le (confined_known total (omega arith) part u r)) (c.code job)
    calls_known (inr each) =
        each_map (λ part. stands_before (length table.code) job part ≡ true) (PartKnown setup.plant plans table job (confined_calls s c inner total (code_calls s c total) total))
        (λ part before u r. narrower job part (confined_calls s c inner total (code_calls s c total) total part u) before (confined_known total (omega arith) part u r)) (c.code job) each

    job_known : (part : ℕ) → PartKnown setup.plant plans table (suc job) (with_part s (c.code_part job) (c.code job) (confined_calls s c inner total (code_calls s c total) total) no_calls) part
    job_known part t ready =
        one_known setup.plant plans table (suc job) part (eqb part (c.code_part job))
        (run s (confined_calls s c inner total (code_calls s c total) total) (s.places (c.code_part job)) (c.code job) t) Stuck
        (λ e. inr (inl (record {
          number = job;
          below = omega arith;
          part_is = eqb-true part (c.code_part job) e ∙ h.codes.part_is job;
          strided =
              own_code setup.plant plans table s c h.codes job (confined_calls s c inner total (code_calls s c total) total) there last
              (calm_part owned s bytes parts (c.code_part job) (c.code job) h.running.small (h.running.aligned (c.code_part job)) stands)
              (calls_known calling) t ready;
        })))
        (inl refl)

    job_strided : (part : ℕ) (t u : TaskState) (back : ℕ) (trace : List Did) → IsReady t →
        with_part s (c.code_part job) (c.code job) (confined_calls s c inner total (code_calls s c total) total) no_calls part t
        ≡ Returns back u trace → IsWithin (strides setup.plant trace) (sums_in setup.plant plans table part)
    job_strided part t u back trace ready goes =
        (subst (ReturnsStrided setup.plant (sums_in setup.plant plans table part)) goes
        (known_strided setup.plant plans table (suc job) there (job_sums setup.plant plans table) (λ i lt. refl) part
        (with_part s (c.code_part job) (c.code job) (confined_calls s c inner total (code_calls s c total) total) no_calls part t) (job_known part t ready))).0

parts_are_strided : PartsAreStrided
parts_are_strided setup owned passes s c inner own ended bytes parts total job plans table h lasts there stands last calling part t u back trace phase fits goes =
    job_strided setup owned passes s c inner own ended bytes parts total plans table h lasts job there stands last calling part t u back trace (phase, fits) goes

-- ---- a placed task

pub placed_jobs_are_strided : PlacedJobsAreStrided
placed_jobs_are_strided setup owned passes s t inner own ended bytes parts h lasts =
    let job : ℕ = t.task.program.job in
    let there : t.task.program.job < length t.table.code = subst (λ n. t.task.program.job < n) (sym h.count) h.below in (
      parts_are_strided setup owned passes s (codes_in t) inner own ended bytes parts t.task.program.job t.task.program.job t.plans t.table
          (record {
            codes = codes_are_of t;
            count = below t.task.program.job (length t.table.code) there;
            running = h.running;
            code = λ n lt. h.code n (less n t.task.program.job (length t.task.program.routines) lt h.below);
            stubs = λ n is. let x = h.stubs n is in record {
              stands = x.stands;
              planned = record {
                number = marked_before n t.task.program.routines;
                plan = x.plan;
                there = x.there;
                part_is =
                    ap (λ k. 1 + k + marked_before n t.task.program.routines) (sym h.count);
                stated_is = x.stated_is;
              };
            };
          })
          (λ n lt. lasts n (less n t.task.program.job (length t.task.program.routines) lt h.below))
          there (h.code t.task.program.job h.below) (lasts t.task.program.job h.below) (inl (least t.task.program.job)) ((codes_in t).code_part t.task.program.job),
      sums_are_exact setup.plant t.plans t.table ∙ ap (λ n. greatest (start_sums setup.plant (sums_in setup.plant t.plans t.table (1 + n)))) h.job_is,
    )
  where
    below : (a b : ℕ) → a < b → a ≤ b
    below a b lt = omega (arith, lt)

    less : (a b c : ℕ) → a < b → b < c → a < c
    less a b c lt more = omega (arith, lt, more)

    least : (n : ℕ) → n ≤ n
    least n = omega arith
