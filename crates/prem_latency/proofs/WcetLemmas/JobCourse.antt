-- A call of `job` runs in scopes, lone steps and marked calls.
use Rattle.std.specs.Prelude.{All, slice_index, slice_index_or, not, map, min, option_map}
use Rattle.std.specs.List.{list_any}
use Rattle.std.proofs.Common.{◌≡◌, ◌≢◌, ℕ, zero, suc, ◌+◌, ◌^◌, ◌<◌, ◌≤◌, inl, inr, refl, ap, ◌∙◌, sym, subst, arith, cond, eqb, eq-eqb, ltb, ltb-true, true, false, Bool, ◌||◌}
use Rattle.std.proofs.Common.{List, [], ◌∷◌, append-nil, length, Some, slice_get}
use Rattle.std.proofs.lemmas.Bool.{eqb-true, and_parts, and_from}
use Rattle.std.proofs.lemmas.Option.{slice_get-map}
use Rattle.prem_plant.specs.declared.plant.Plant.{Plant}
use Rattle.prem_plant.specs.declared.plant.Device.{Device}
use Rattle.prem_plant.specs.Places.{Extent}
use Rattle.prem_plant.specs.Order.Order.{AllIn}
use Rattle.prem_isa.specs.declared.effect.Phase.TheVariants.{Compatible}
use Rattle.prem_isa.specs.Decode.{cost_of}
use Rattle.prem_isa.specs.Plain.{TaskState, TaskRun, Did}
use Rattle.prem_cycle.specs.Alone.{run_in}
use Rattle.prem_syntax.specs.Syntax.{ProgramText}
use Rattle.prem_syntax.specs.Resolved.{Routine, Resolved}
use Rattle.prem_syntax.specs.Reach.{IsAmong, callees_in as called_in}
use Rattle.prem_syntax.specs.Source.{calls_below, everywhere}
use Rattle.prem_ranges.specs.RangesKept.{limits_of}
use Rattle.prem_sound.specs.Script.Script.{lines_of_dids}
use Rattle.prem_asm.specs.Pieces.{weighted}
use Rattle.prem_asm.specs.Runs.{Setting, Ending, Falls, Returns, Stuck, run}
use Rattle.prem_asm.specs.Steps.{Same}
use Rattle.prem_layout.specs.Template.Parts.{parts_of, is_marked_at, marked_before, stub_part}
use Rattle.prem_layout.specs.Template.Steps.{Parts, function_code}
use Rattle.prem_layout.specs.Template.Frames.{frame_of}
use Rattle.prem_layout.specs.Parts.{code_part, pass_count, stub_passes}
use Rattle.prem_layout.specs.Footprint.{ranges_of, footprint_of}
use Rattle.prem_layout.specs.Plans.{Plan}
use Rattle.prem_layout.specs.Placed.{Coded, Placed}
use Rattle.prem_code_laws.specs.ExprLaws.Relation.{Globals}
use Rattle.prem_code_laws.specs.GenLaws.Fits.{Callees}
use Rattle.prem_code_laws.specs.GenLaws.Laws.{CalleesAt}
use Rattle.prem_code_laws.specs.GenLaws.Table.{Codes, one_of, code_calls, StubsFit, TaskFits}
use Rattle.prem_code_laws.proofs.GenLawsLemmas.Table.{differs}
use Rattle.prem_code_laws.specs.PrefetchLaws.Premises.{stub_code}
use Rattle.prem_code_laws.specs.PrefetchLaws.Confined.{with_guard}
use Rattle.prem_sets_sound.specs.StubLaws.Own.Owned.{setup_of}
use Rattle.prem_sets_sound.specs.StubLaws.Initial.Initial.{content_of}
use Rattle.prem_sets_sound.specs.StubLaws.Initial.Standing.{setting_of, globals_in}
use Rattle.prem_sets_sound.specs.StubLaws.StubFits.Within.{codes_in}
use Rattle.prem_sets_sound.specs.Weave.Weave.{segment_of}
use Rattle.prem_sets_sound.specs.StubLaws.StubWeave.StubWeave.{StubStands}
use Rattle.prem_sets_sound.specs.StubLaws.JobWeave.Confined.{Confinement, with_confined, confined_calls}
use Rattle.prem_sets_sound.specs.StubLaws.Confined.Meaning.{stub_run}
use Rattle.prem_sets_sound.proofs.StubLawsLemmas.ConfinedLemmas.Meaning.{stub_called}
use Rattle.prem_sets_sound.specs.StubLaws.JobCharges.Charged.{call_weight}
use Rattle.prem_sets_sound.specs.TaskLaws.TaskFrame.Kept.{KeepsTaskRules}
use Rattle.prem_sets_sound.specs.TaskLaws.TaskFrame.Frames.{task_guard, job_frame}
use Rattle.prem_sets_sound.specs.TaskLaws.TaskFrame.Callees.{callees_in, job_callable, plain_callable}
use Rattle.prem_sets_sound.specs.TaskLaws.TaskBytes.Parts.{IsPlacedTask}
use Rattle.prem_sets_sound.proofs.TaskLawsLemmas.ProgramFitsLemmas.Stubs.{job_stubs_fit}
use Rattle.prem_sets_sound.proofs.TaskLawsLemmas.TaskBytesLemmas.Start.{run_starts}
use Rattle.prem_sets_sound.specs.TaskRuns.Called.{confinement_of, confinement_in, stub_at, task_calls, job_calls}
use Rattle.prem_sets_sound.proofs.TaskLawsLemmas.TaskBytesLemmas.Parts.{plans_are, at_parts}
use Rattle.prem_sets_sound.proofs.TaskRunsLemmas.Filled.{program_keeps, codes_stand, routine_at, plan_there}
use Rattle.prem_sets_sound.proofs.TaskRunsLemmas.Stubs.{stands as stub_stands}
use Rattle.prem_sets_sound.proofs.TaskLawsLemmas.ProgramFitsLemmas.Functions.{plain_tasks_fit}
use Rattle.prem_sets_sound.proofs.TaskRunsLemmas.Words.{job_fits}
use Rattle.prem_sets_sound.proofs.TaskRunsLemmas.Means.{JobStands, callees_mean}
use Rattle.prem_sets_sound.proofs.TaskRunsLemmas.Each.{marked_there, stub_meant, job_stands}
use Rattle.prem_wcet_laws.specs.Scopes.{Fact, Scene, fact_of}
use Rattle.prem_wcet_laws.specs.Wcet.{frame_range, below_range, stack_of, known_scene, scene_of, fact_at}
use Rattle.prem_wcet_laws.specs.Parted.{cuts, called_parted, parted_function, bottom_of}
use Rattle.prem_wcet_laws.specs.Keeping.{is_held}
use Rattle.prem_wcet_laws.specs.Scenes.{TaskStands, facts_in, scene_in}
use Rattle.prem_wcet_laws.specs.TaskLaws.{AreScenes}
use Rattle.prem_wcet_laws.specs.Divided.{section, ends, RunCourses}
use Rattle.prem_wcet_laws.specs.PartedLaws.{CallCourses, Mixes, is_marked}
use Rattle.prem_wcet_laws.proofs.OneScope.{steps_callable}
use Rattle.prem_wcet_laws.proofs.CallRuns.{frames_work}
use Rattle.prem_wcet_laws.proofs.FunctionCourse.{functions_course}
use Rattle.prem_wcet_laws.proofs.Scenes.{IsFact, each_fact, taken_length, scenes_stand, fact_is}
use Rattle.prem_wcet_laws.specs.Opens.{opening_code, shortened}
use Rattle.prem_latency.specs.Wcet.Openings.{stated_of, shut_of}
use Rattle.prem_latency.specs.Wcet.Marked.{is_marked_call, JobsCourse, PlacedJobsCourse, PlacedJobsShut}
use Rattle.prem_latency.proofs.WcetLemmas.Stands.{placed_tasks_stand, placed_frames_stand}
use Rattle.prem_latency.proofs.WcetLemmas.Openings.{section_states, section_opening}
use Rattle.prem_latency.proofs.WcetLemmas.OpeningRuns.{StubSection, stub_section}
use Rattle.prem_latency.proofs.WcetLemmas.Marked.{marked_is, section_is_marked, marked_sums_are}
use Rattle.prem_layout.specs.Stretch.Sums.{marked_sums_of, IsWithin}
use Rattle.prem_layout.proofs.StretchLemmas.Order.{within_same}
use Rattle.prem_wcet_laws.specs.Counts.{PathCount, marked_count}

-- ---- small facts

same_self : (o : Ending) → Same o o
same_self (Falls t trace) = refl
same_self (Returns back t trace) = refl
same_self Stuck = tt

none_any : (P : ℕ → Bool) (xs : List ℕ) → ((g : ℕ) → IsAmong g xs → P g ≡ false) → list_any P xs ≡ false
none_any P [] h = refl
none_any P (x ∷ xs) h = ap (λ b. b || list_any P xs) (h x (inl refl)) ∙ none_any P xs (λ g among. h g (inr among))

neither : (b c : Bool) → (b || c) ≡ false → b ≡ false
neither true c e = e
neither false c e = refl

not_true : (b : Bool) → not b ≡ true → b ≡ false
not_true true e = cc
not_true false e = refl

no_words : (k : ℕ) → All (λ (word : ℕ). word < 2 ^ 32) (slice_index_or [] k [])
no_words zero i d lt = absurd (omega (arith, lt))
no_words (suc k) i d lt = absurd (omega (arith, lt))

weighs : (a b : ℕ) → b ≡ a → a + 0 ≤ b
weighs a b e = omega (arith, e)

-- ---- functions alone

module _ (s : Setting) (c : Codes) where
  stuck_there : (n part : ℕ) (u : TaskState) → ((f : ℕ) → f < n → part ≢ c.code_part f) → code_calls s c n part u ≡ Stuck
  unfolding code_calls
  stuck_there zero part u out = refl
  stuck_there (suc n) part u out =
      ap (λ b. one_of b (run s (code_calls s c n) (s.places (c.code_part n)) (c.code n) u) (code_calls s c n part u)) (differs part (c.code_part n) (out n (omega arith)))
      ∙ stuck_there n part u (λ f lt. out f (omega (arith, lt)))

-- a plan at the place of another, whose length counts no less than a call of that one's stub does by its steps
pub record Told (p : Plant) (passes : ℕ → ℕ) (t : Placed) (plans : List Plan) (counts : List Did → ℕ) (n : ℕ) (other : Plan) : Type 0 where
  pub plan : Plan
  pub there : slice_get plans n ≡ Some plan
  pub less : (at : ℕ) (trace : List Did) (c : StubSection p passes at (stub_at p t other) trace) → counts (segment_of c.section) ≤ plan.stated

module _ (passes : ℕ → ℕ) (p : Plant) (devices : List Device) (tasks : List Coded) (places : List Extent) (k : ℕ) (t : Placed)
    (placed : IsPlacedTask p devices tasks places k t) (same : passes p.ways ≡ pass_count (stub_passes p))
    (x : ProgramText) (keeps : KeepsTaskRules p x t) (some : 1 ≤ t.task.jobs) where
  abbrev s : Setting
  s = setting_of p (task_guard t) t

  abbrev P : Resolved
  P = t.task.program

  abbrev gs : Globals
  gs = globals_in p.target t.task.program

  abbrev parts : Parts
  parts = parts_of p.target t.task.program.routines

  abbrev cs : Callees
  cs = callees_in t.task.program (plain_callable t.task.program)

  abbrev every : Callees
  every = callees_in t.task.program (job_callable t.task.program)

  abbrev c : Codes
  c = codes_in t

  abbrev job : ℕ
  job = t.task.program.job

  abbrev own : TaskRun
  own = run_in (setup_of p devices places tasks) (content_of p places tasks) [] k

  stands : TaskStands p P t.at s gs parts cs Compatible c job
  stands = placed_tasks_stand p devices tasks places k t placed x keeps

  pub below : job < length P.routines
  below = (job_fits p devices tasks places k t placed x keeps).below

  fits : StubsFit parts cs every c job
  fits = job_stubs_fit P job (omega arith) (let lt = below in omega (arith, lt)) s (plain_callable P) c (codes_stand p devices tasks places k t placed x keeps (plain_callable P))

  plain : TaskFits s gs parts cs Compatible c P.routines job
  plain =
      plain_tasks_fit x P (program_keeps p devices tasks places k t placed x keeps) job (omega arith) s c (codes_stand p devices tasks places k t placed x keeps (plain_callable P))

  pub job_here : JobStands p s t own.stack
  job_here = job_stands passes p devices tasks places k t placed same x keeps some [] (no_words k)

  means : CalleesAt s gs everywhere (job_frame t) (task_calls s t) parts every Compatible (calls_below (limits_of x) P.routines job)
  means = callees_mean p s t (limits_of x) plain fits (λ n marked lt. stub_meant passes p devices tasks places k t placed same x keeps some [] (no_words k) n marked lt)

  -- ---- functions are called as without stubs

  pub same_below : (n : ℕ) → n ≤ job → (part : ℕ) (u : TaskState) → Same (code_calls s c job part u) (confined_calls s c (confinement_in t) job (code_calls s c job) n part u)
  unfolding confined_calls
  same_below zero le part u = same_self (code_calls s c job part u)
  same_below (suc n) le part u = by (c.marked n) refl (eqb part (c.stub_part n)) refl (same_below n (omega arith) part u) where
    by : (b : Bool) → c.marked n ≡ b → (d : Bool) → eqb part (c.stub_part n) ≡ d → Same (code_calls s c job part u) (confined_calls s c (confinement_in t) job (code_calls s c job) n part u) →
        Same (code_calls s c job part u) (with_confined s c (confinement_in t n) job n b (confined_calls s c (confinement_in t) job (code_calls s c job) n) part u)
    by false e d is again = again
    by true e true is again =
        let at : part ≡ c.stub_part n = eqb-true part (c.stub_part n) is in
        let stuck : code_calls s c job part u ≡ Stuck = stuck_there s c job part u (λ f lt z. fits.stubs_apart f n lt (record { marked = e; below = le }) (sym z ∙ at)) in
        subst (λ o. Same o (with_confined s c (confinement_in t n) job n true (confined_calls s c (confinement_in t) job (code_calls s c job) n) part u)) (sym stuck) tt
    by true e false is again =
        subst (Same (code_calls s c job part u))
        (sym (ap (λ b. one_of b (stub_run s c (confinement_in t n) job n u) (confined_calls s c (confinement_in t) job (code_calls s c job) n part u)) is)) again

  -- ---- stubs

  none_ended : 0 < own.jobs
  none_ended = let e = (run_starts p devices tasks places k t placed []).jobs in omega (arith, e, some)

  -- the stub of a marked function, where its plan tells
  record Stubbed (y : Confinement) (n : ℕ) : Type 0 where
    plan : Plan
    there : slice_get t.plans (marked_before n t.task.program.routines) ≡ Some plan
    stands : StubStands p passes s y.guard y.codes own 0 (slice_index (content_of p places tasks)) (length (map (λ (q : Extent). q.0) t.at.places)) t.task.program.job (stub_at p t plan)
    part_is : (stub_at p t plan).stub ≡ (codes_in t).stub_part n
    code_is : (codes_in t).stub n ≡ stub_code (stub_passes p) p.line (ranges_of t.at plan) plan.stated (1 + n)
    number_is : plan.function ≡ n

  stubbed : (n : ℕ) → (codes_in t).marked n ≡ true → n < t.task.program.job → Stubbed (confinement_in t n) n
  stubbed n marked lt =
      let f = marked_there t.task.program.routines n marked in
      let r = plan_there t.task.program 0 t.task.program.routines n f.0 f.1.0 f.1.1 in
      let zero_is : 0 + n ≡ n = omega arith in
      let number_is : r.0.function ≡ n = r.1.1 ∙ zero_is in
      let planned : slice_get t.plans (marked_before n t.task.program.routines) ≡ Some r.0 =
      ap (λ (ps : List Plan). slice_get ps (marked_before n t.task.program.routines)) (plans_are p places _ t (at_parts p devices tasks places k t placed)) ∙ r.1.0 in
      let first : r.0.function < t.task.program.job = subst (λ m. m < t.task.program.job) (sym number_is) lt in
      let run = run_starts p devices tasks places k t placed [] in
      let m = stub_meant passes p devices tasks places k t placed same x keeps some [] (no_words k) n marked lt in
      let same_plan : Some m.plan ≡ Some r.0 = sym m.planned ∙ planned in
      let plan_is : m.plan ≡ r.0 = cc in
      record {
        plan = r.0;
        there = planned;
        stands = subst (λ (y : Confinement). StubStands p passes s y.guard y.codes own 0 (slice_index (content_of p places tasks))
            (length (map (λ (q : Extent). q.0) t.at.places)) t.task.program.job (stub_at p t r.0)) (sym (ap (confinement_of t) planned))
            (stub_stands passes p devices tasks places k t placed x keeps same (marked_before n t.task.program.routines) r.0 planned first own 0
            (run.running (task_guard t) 0 none_ended) run.stack_small);
        part_is = ap (λ f. (codes_in t).stub_part f) number_is;
        code_is = m.stub_is ∙ ap (λ (q : Plan). stub_code (stub_passes p) p.line (ranges_of t.at q) q.stated (1 + n)) plan_is;
        number_is = number_is;
      }

  -- ---- with plans

  -- of each plan another one, whose length counts no less than its calls do by their steps
  module _ (plans : List Plan) (counts : List Did → ℕ) (told : (n : ℕ) (plan : Plan) → slice_get t.plans n ≡ Some plan → Told p passes t plans counts n plan) where
    abbrev scene : ℕ → Scene
    scene n = scene_in p plans t.task.program t.at n

    scenes : AreScenes scene p (below_range P t.at ∷ []) s gs parts cs Compatible c P.routines job
    scenes = scenes_stand p plans P t.at s gs parts cs Compatible c job stands

    -- ---- functions without a mark call such ones alone

    quiet_fact : (bound n f : ℕ) → f < bound → f < n → plain_callable P f ≡ true → (fact_of (scene n) f).cuts ≡ false
    quiet_fact zero n f lt less callable = absurd (omega (arith, lt))
    quiet_fact (suc bound) n f lt less callable =
        let two = and_parts (ltb f job) (not (is_marked_at P.routines f)) callable in
        let first : f < job = ltb-true f job two.0 in
        let r = routine_at P.routines f (let b = below in omega (arith, first, b)) in
        let here = plain.functions f r.0 callable r.1 in
        ap (λ (y : Fact). y.cuts) (fact_is p plans P t.at n f r.0 less r.1)
        ∙ none_any (cuts (scene f)) (called_in r.0.body) (λ g among.
        let calls : plain_callable P g ≡ true = steps_callable gs parts cs Compatible _ _ r.0.body here.fits.body g among in
        let g_less : g < f = stands.before f r.0 r.1 g among in
        let unmarked : is_marked_at P.routines g ≡ false = not_true (is_marked_at P.routines g) (and_parts (ltb g job) (not (is_marked_at P.routines g)) calls).1 in
        ap (λ b. b || (fact_of (scene f) g).cuts) unmarked ∙ quiet_fact bound f g (omega (arith, lt, g_less)) g_less calls)

    quiet : (f : ℕ) → job_callable P f ≡ true → cuts (scene job) f ≡ false → (f < job) × (plain_callable P f ≡ true)
    quiet f callable none =
        let unmarked : is_marked_at P.routines f ≡ false = neither (is_marked_at P.routines f) _ none in
        (ltb-true f job callable, and_from (ltb f job) (not (is_marked_at P.routines f)) callable (ap not unmarked))

    -- ---- marked calls

    abbrev Course : ℕ → Type 0
    Course f =
        CallCourses p (is_marked (is_marked_call p counts)) (called_parted (scene job) f) s gs (job_frame t) Compatible
        (task_calls s t (parts.callee f)) (parts.link f) (parts.frame f) (every.depth f) (every.params f)
        (λ words st. calls_below (limits_of x) P.routines job everywhere f words st)

    stub_course : (f : ℕ) → job_callable P f ≡ true → is_marked_at P.routines f ≡ true → Course f
    stub_course f callable marked =
        let less : f < job = ltb-true f job callable in
        let h = stubbed f marked less in
        let y = confinement_in t f in
        let told_of = told (marked_before f P.routines) h.plan h.there in
        record {
          courses = λ count st ws u back word after match link al small floor len args is.
              let b = (means f callable).runs count st ws u back word after job_here.ground match link al small floor len args is in
              let callee_is : parts.callee f ≡ c.stub_part f = ap (λ b. cond b (stub_part P.routines f) (code_part f)) marked in
              let run_is : task_calls s t (parts.callee f) u ≡ stub_run s c (confinement_in t f) job f u =
              ap (λ q. task_calls s t q u) callee_is
              ∙ stub_called s c (confinement_in t) job (code_calls s c job) f (λ g is e. fits.apart f g (record { marked = marked; below = less }) is e) marked job (omega arith) less u in
              let code_is : c.stub f ≡ stub_code (stub_at p t h.plan).kind p.line (stub_at p t h.plan).ranges (stub_at p t h.plan).stated (stub_at p t h.plan).part =
              h.code_is ∙ ap (λ n. stub_code (stub_passes p) p.line (ranges_of t.at h.plan) h.plan.stated (1 + n)) (sym h.number_is) in
              let stub_is : stub_run s c (confinement_in t f) job f u ≡
              run (with_guard y.guard s) (code_calls (with_guard y.guard s) y.codes job) (s.places (stub_at p t h.plan).stub)
              (stub_code (stub_at p t h.plan).kind p.line (stub_at p t h.plan).ranges (stub_at p t h.plan).stated (stub_at p t h.plan).part) u =
              ap (λ q. run (with_guard y.guard s) (code_calls (with_guard y.guard s) y.codes job) (s.places q) (c.stub f) u) (sym h.part_is)
              ∙ ap (λ ps. run (with_guard y.guard s) (code_calls (with_guard y.guard s) y.codes job) (s.places (stub_at p t h.plan).stub) ps u) code_is in
              let goes = sym stub_is ∙ sym run_is ∙ b.goes in
              let section_ = stub_section p passes s y.guard y.codes own 0 _ _ job (stub_at p t h.plan) h.stands u b.to back b.trace match.phase_is match.words goes in
              let is_call : is_marked_call p counts b.trace (call_weight p told_of.plan.stated) ≡ true =
              section_is_marked p passes counts (s.places (stub_at p t h.plan).stub) told_of.plan.stated (stub_at p t h.plan) b.trace section_
              (told_of.less (s.places (stub_at p t h.plan).stub) b.trace section_) in
              let count_of_call : called_parted (scene job) f ≡ marked_count p plans (marked_before f P.routines) =
              ap (λ b. cond b (marked_count p plans (marked_before f P.routines)) (fact_of (scene job) f).parted) marked in
              let weight_is : (called_parted (scene job) f).total ≡ call_weight p told_of.plan.stated =
              ap (λ (z : PathCount). z.total) count_of_call ∙ marked_is p plans (marked_before f P.routines) told_of.plan told_of.there in
              let sums_are : (called_parted (scene job) f).sums ≡ marked_sums_of p =
              ap (λ (z : PathCount). z.sums) count_of_call ∙ marked_sums_are p plans (marked_before f P.routines) told_of.plan told_of.there in
              subst (RunCourses p (is_marked (is_marked_call p counts)) (called_parted (scene job) f)) (sym b.goes)
              (record {
                division = section b.trace (call_weight p told_of.plan.stated) ends;
                keeps = (is_call, tt);
                steps_are = sym (append-nil b.trace);
                loose = tt;
                counted = record {
                  total = weighs (call_weight p told_of.plan.stated) (called_parted (scene job) f).total weight_is;
                  sums = subst (IsWithin (marked_sums_of p)) (sym sums_are) (within_same (marked_sums_of p));
                };
              });
        }

    course : (f : ℕ) → job_callable P f ≡ true → cuts (scene job) f ≡ true → Course f
    course f callable cut = by (is_marked_at P.routines f) refl where
      by : (b : Bool) → is_marked_at P.routines f ≡ b → Course f
      by true marked = stub_course f callable marked
      by false unmarked =
          let less : f < job = ltb-true f job callable in
          let none : (fact_of (scene job) f).cuts ≡ false = quiet_fact (suc f) job f (omega arith) less (and_from (ltb f job) (not (is_marked_at P.routines f)) callable (ap not unmarked)) in
          let both : cuts (scene job) f ≡ false = ap (λ b. b || (fact_of (scene job) f).cuts) unmarked ∙ none in
          absurd (never (sym cut ∙ both)) where
            never : true ≡ false → ⊥
            never e = cc

    -- ---- `job`

    least_job : job ≤ job
    least_job = omega arith

    stack_is : (scene job).stack ≡ frame_range P t.at ∷ []
    stack_is =
        ap (stack_of P t.at) (taken_length p plans P t.at job (let lt = below in omega (arith, lt)))
        ∙ ap (λ b. cond b (frame_range P t.at) (below_range P t.at) ∷ []) (eq-eqb job job refl)

    pub mixes : Mixes (scene job) s gs parts cs every Compatible c P.routines job everywhere (limits_of x) (task_calls s t) (job_frame t) (is_marked (is_marked_call p counts))
    mixes =
        let frame = placed_frames_stand p devices tasks places k t placed x keeps in
        record {
          works = frames_work scene p (below_range P t.at ∷ []) s gs parts cs Compatible c P.routines job scenes everywhere (limits_of x)
              (task_calls s t) job least_job (λ part u. same_below job least_job part u) (job_frame t) job_here.ground
              (λ a le lt. subst (λ ranges. is_held ranges a ≡ true) (sym stack_is) (frame.frame a le lt)) frame.below;
          callees = means;
          quiet = quiet;
          depths = λ f. refl;
          params = λ f. refl;
          returns = λ f. refl;
          bottom = ap bottom_of stack_is;
          courses = course;
        }

-- ---- with plans that tell

module _ (plans_of_task : Plant → Placed → List Plan) (counts_of_task : Plant → Placed → List Did → ℕ)
    (told_all : (p : Plant) (passes : ℕ → ℕ) (t : Placed) (n : ℕ) (plan : Plan) → slice_get t.plans n ≡ Some plan →
    Told p passes t (plans_of_task p t) (counts_of_task p t) n plan) where
  jobs_course : JobsCourse counts_of_task plans_of_task
  jobs_course passes p devices tasks places k t placed same x keeps some f is st u back word after b two one al small means =
      let plans = plans_of_task p t in
      let counts = counts_of_task p t in
      let told = told_all p passes t in
      let P = t.task.program in
      let s = setting_of p (task_guard t) t in
      let job = t.task.program.job in
      let c = codes_in t in
      let j = job_here passes p devices tasks places k t placed same x keeps some in
      let at = s.places (c.code_part t.task.program.job) in
      let both : Some j.routine ≡ Some f = sym j.there ∙ is in
      let same_routine : j.routine ≡ f = cc in
      let none : 0 + t.task.program.job ≡ t.task.program.job = omega arith in
      let fact : fact_of (known_scene p plans P t.at) job ≡ fact_at (scene_in p plans P t.at job) f at =
      subst (λ n. IsFact (scene_of p plans P t.at) (stack_of P t.at) (facts_in p plans P t.at) n f) none (each_fact (scene_of p plans P t.at) (stack_of P t.at) P.routines [] job f is) in
      let parted_is : (fact_of (known_scene p plans P t.at) job).parted ≡ parted_function (scene_in p plans P t.at job) f at = ap (λ (y : Fact). y.parted) fact in
      let called : job_calls s t (c.code_part job) u ≡ run s (task_calls s t) at (function_code (parts_of p.target P.routines) f) u =
      ap (λ b. one_of b (run s (task_calls s t) at (c.code job) u) Stuck) (eq-eqb (c.code_part job) (c.code_part job) refl)
      ∙ ap (λ ps. run s (task_calls s t) at ps u) j.code_is ∙ ap (λ r. run s (task_calls s t) at (function_code (parts_of p.target P.routines) r) u) same_routine in
      let top_small : (job_frame t).sp + frame_of j.routine < 2 ^ 32 = subst (λ n. n < 2 ^ 32) (sym j.top_is) j.small in
      subst (RunCourses p (is_marked (is_marked_call p counts)) (fact_of (known_scene p plans P t.at) job).parted) (sym called)
      (subst (λ n. RunCourses p (is_marked (is_marked_call p counts)) n (run s (task_calls s t) at (function_code (parts_of p.target P.routines) f) u)) (sym parted_is)
      (functions_course (scene_in p plans P t.at job) s (globals_in p.target P) (parts_of p.target P.routines) (callees_in P (plain_callable P))
      (callees_in P (job_callable P)) Compatible c P.routines job
      ((scenes passes p devices tasks places k t placed same x keeps some plans counts told).stands job (omega arith)) everywhere (limits_of x)
      (task_calls s t) (job_frame t) (is_marked_call p counts) (mixes passes p devices tasks places k t placed same x keeps some plans counts told)
      f at j.depth j.under (subst (Rattle.prem_code_laws.specs.GenLaws.Functions.FunctionFits (globals_in p.target P) (parts_of p.target P.routines)
      (callees_in P (job_callable P)) Compatible at j.depth j.under) same_routine j.fits)
      (j.slots ∙ ap Rattle.prem_layout.specs.Template.Frames.slots_of same_routine) j.space
      [] st u back word after (sym (ap (λ (r : Routine). length r.text.params) (sym same_routine) ∙ ap length j.alone))
      (record { stands = λ i lt. absurd (omega (arith, lt)); word = λ i lt. absurd (omega (arith, lt)) })
      b two (subst (λ (r : Routine). (job_frame t).sp + frame_of r < 2 ^ 32) same_routine top_small) one al small means))

-- those of the task themselves, by the lengths that they state
stated_told : (p : Plant) (passes : ℕ → ℕ) (t : Placed) (n : ℕ) (plan : Plan) → slice_get t.plans n ≡ Some plan → Told p passes t t.plans stated_of n plan
stated_told p passes t n plan e = record {
  plan = plan;
  there = e;
  less = λ at trace c. let states = section_states p passes c.section c.is_section in let stated = c.stated in omega (arith, states, stated);
}

pub placed_jobs_course : PlacedJobsCourse
placed_jobs_course = jobs_course (λ p t. t.plans) (λ p t. stated_of) stated_told

-- and with shorter ones
shut_told : (top : ℕ) (p : Plant) (passes : ℕ → ℕ) (t : Placed) (n : ℕ) (plan : Plan) → slice_get t.plans n ≡ Some plan → Told p passes t (map (shortened p t.at top) t.plans) (shut_of p top) n plan
shut_told top p passes t n plan e = record {
  plan = shortened p t.at top plan;
  there = slice_get-map (shortened p t.at top) t.plans n ∙ ap (option_map (shortened p t.at top)) e;
  less = λ at trace c.
      let states = section_states p passes c.section c.is_section in
      let stated = c.stated in
      let own : AllIn (footprint_of p.line t.at plan) (lines_of_dids p.line (segment_of c.section)) =
      subst (λ ms. AllIn ms (lines_of_dids p.line (segment_of c.section))) c.members c.is_section.within in
      let opening = section_opening p passes c.section c.is_section (footprint_of p.line t.at plan) (weighted cost_of (λ part. 0) (opening_code p t.at plan)) own c.opens in
      shorter _ _ _ _ _ states stated opening;
} where
  shorter : (a s stated o opens : ℕ) → a ≡ s → s ≡ stated → o ≤ opens → min a (o + top) ≤ min stated (opens + top)
  shorter a s stated o opens e f le = omega (arith, e, f, le)

pub placed_jobs_shut : PlacedJobsShut
placed_jobs_shut top = jobs_course (λ p t. map (shortened p t.at top) t.plans) (λ p t. shut_of p top) (shut_told top)
