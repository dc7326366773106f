-- Placed tasks go by what their jobs take at most.
use Rattle.std.specs.Prelude.{All, map, slice_index_or, slice_get}
use Rattle.std.proofs.Common.{◌≡◌, ℕ, ◌+◌, ◌%◌, ◌<◌, ◌≤◌, ◌^◌, max, min, refl, ap, ◌∙◌, sym, subst, arith, cond, true, false, Bool, leb, List, [], length, Ok, Some}
use Rattle.std.proofs.lemmas.Bool.{leb-true, leb-false}
use Rattle.prem_plant.specs.declared.plant.Plant.{Plant}
use Rattle.prem_plant.specs.declared.plant.Device.{Device}
use Rattle.prem_plant.specs.Places.{Extent}
use Rattle.prem_isa.specs.declared.instr.Instr.TheVariants.{PmDone}
use Rattle.prem_isa.specs.Plain.{TaskRun, Did}
use Rattle.prem_cycle.specs.Alone.{run_in}
use Rattle.prem_syntax.specs.Syntax.{ProgramText}
use Rattle.prem_syntax.specs.Resolved.{Routine, Resolved}
use Rattle.prem_syntax.specs.Statements.{enter}
use Rattle.prem_syntax.specs.Source.{calls_below, enter_if_there, everywhere}
use Rattle.prem_ranges.specs.RangesKept.{limits_of}
use Rattle.prem_asm.specs.Pieces.{jump_weight}
use Rattle.prem_asm.specs.Runs.{Setting, linked}
use Rattle.prem_layout.specs.Parts.{pass_count, stub_passes}
use Rattle.prem_layout.specs.Placed.{Coded, Placed}
use Rattle.prem_layout.specs.Bounds.{job_weight}
use Rattle.prem_layout.specs.Stretch.Paths.{greatest_stated}
use Rattle.prem_layout.specs.Stretch.Sums.{taking, chained, greatest}
use Rattle.prem_layout.specs.Template.Frames.{frame_of}
use Rattle.prem_code_laws.specs.GenLaws.Functions.{performed}
use Rattle.prem_code_laws.proofs.ExprLawsLemmas.Puts.{reg_other}
use Rattle.prem_code_laws.proofs.GenLawsLemmas.Table.{meant_below, unmarked_access, performed_is}
use Rattle.prem_sound.specs.Script.Script.{Script}
use Rattle.prem_sets_sound.specs.Weave.Weave.{Weave, ends, goes, calls, dids_of, calls_of, IsWeave}
use Rattle.prem_sets_sound.specs.Weave.Pace.Pace.{AreStated}
use Rattle.prem_sets_sound.specs.StubLaws.Own.Owned.{own_of, setup_of}
use Rattle.prem_sets_sound.specs.StubLaws.Initial.Initial.{content_of}
use Rattle.prem_sets_sound.specs.StubLaws.Initial.Standing.{setting_of, globals_in}
use Rattle.prem_sets_sound.specs.StubLaws.JobWeave.Jobs.{JobRun, JobsAlong}
use Rattle.prem_sets_sound.specs.StubLaws.StubFits.Within.{codes_in}
use Rattle.prem_sets_sound.specs.TaskLaws.TaskFrame.Frames.{task_guard, job_frame}
use Rattle.prem_sets_sound.specs.TaskLaws.TaskFrame.Kept.{KeepsTaskRules}
use Rattle.prem_sets_sound.specs.TaskLaws.TaskFrame.Limits.{task_limits}
use Rattle.prem_sets_sound.specs.TaskLaws.TaskBytes.Parts.{IsPlacedTask}
use Rattle.prem_sets_sound.specs.TaskRuns.Called.{job_calls}
use Rattle.prem_sets_sound.specs.TaskRuns.Joins.{promise_for, task_longest, JobsTell}
use Rattle.prem_sets_sound.proofs.TaskRunsLemmas.Each.{tasks_tell}
use Rattle.prem_sets_sound.proofs.TaskLawsLemmas.TaskBytesLemmas.Parts.{parts_of_task}
use Rattle.prem_sets_sound.proofs.TaskLawsLemmas.TaskBytesLemmas.Start.{run_starts}
use Rattle.prem_sets_sound.specs.StubLaws.Charges.Charges.{script_of, TaskCharges}
use Rattle.prem_wcet_laws.specs.Counts.{quiet}
use Rattle.prem_wcet_laws.specs.Scopes.{Scene, fact_of, lines_in, charge}
use Rattle.prem_wcet_laws.specs.Divided.{RunCourses, RunDivides}
use Rattle.prem_wcet_laws.specs.PartedLaws.{is_marked}
use Rattle.prem_wcet_laws.specs.Wcet.{known_scene, job_of, own_start, wcet_of, stretch_within, start_span}
use Rattle.prem_wcet_laws.proofs.Courses.{course_of}
use Rattle.prem_layout.specs.Plans.{Plan}
use Rattle.prem_wcet_laws.specs.Opens.{shortened}
use Rattle.prem_latency.specs.Wcet.Openings.{stated_of, shut_of, counts_of, trimmed}
use Rattle.prem_latency.specs.Wcet.Marked.{is_marked_call, JobsCourse}
use Rattle.prem_latency.specs.Wcet.Aligned.{StateWithin}
use Rattle.prem_latency.specs.Wcet.Jobs.{JobStrand}
use Rattle.prem_latency.specs.Wcet.Walk.{stretch_with, CallsCourse, CallsScope}
use Rattle.prem_latency.specs.Wcet.Tasks.{task_wcet, task_stretch, task_closed, script_by, TaskShuts, TasksGoByWcet, TasksShutByWcet}
use Rattle.prem_latency.proofs.WcetLemmas.Trimmed.{weave_trimmed, stated_within, by_lengths, dids_trimmed, calls_trimmed, counts_trimmed, states_trimmed, are_trimmed, woven_trimmed, promised_trimmed}
use Rattle.prem_latency.proofs.WcetLemmas.JobCourse.{job_here, placed_jobs_course, placed_jobs_shut}
use Rattle.prem_latency.proofs.WcetLemmas.QuietJobs.{placed_quiet_jobs_divide, placed_quiet_starts}
use Rattle.prem_latency.proofs.WcetLemmas.Walk.{jobs_go_by_courses, jobs_go_by_scopes}
use Rattle.prem_wcet_laws.specs.Starts.{RunStarts}

-- calls that last so long last no longer than more
stated_more : (m n : ℕ) → m ≤ n → (w : Weave) → AreStated m w → AreStated n w
stated_more m n le ends h = tt
stated_more m n le (goes d rest) h = stated_more m n le rest h
stated_more m n le (calls z rest) h = (let here = h.0 in omega (arith, here, le), stated_more m n le rest h.1)

module _ (passes : ℕ → ℕ) (p : Plant) (devices : List Device) (tasks : List Coded) (places : List Extent) (k : ℕ) (t : Placed)
    (placed : IsPlacedTask p devices tasks places k t) (same : passes p.ways ≡ pass_count (stub_passes p))
    (x : ProgramText) (keeps : KeepsTaskRules p x t) (some : 1 ≤ t.task.jobs) (inputs : List (List ℕ)) where
  abbrev P : Resolved
  P = t.task.program

  abbrev s : Setting
  s = setting_of p (task_guard t) t

  abbrev own : TaskRun
  own = run_in (setup_of p devices places tasks) (content_of p places tasks) inputs k

  abbrev part : ℕ
  part = (codes_in t).code_part t.task.program.job

  abbrev Run : List Did → Type 0
  Run steps = JobRun s (globals_in p.target t.task.program) (limits_of x) t.task.program own (job_calls s t) 0 part steps

  -- what is known where `job` is called
  pub record Call (steps : List Did) (r : Run steps) : Type 0 where
    pub routine : Routine
    pub there : slice_get t.task.program.routines t.task.program.job ≡ Some routine
    pub two : (linked 1 (s.places 0 + 4) r.task).registers 2 ≡ (job_frame t).sp + frame_of routine
    pub aligned : (s.places 0 + 4) % 4 ≡ 0
    pub small : s.places 0 + 4 < 2 ^ 32
    pub means : performed (calls_below (limits_of x) t.task.program.routines t.task.program.job) everywhere routine [] r.source ≡ Ok (r.word, r.after)

  pub call_here : (steps : List Did) (r : Run steps) → Call steps r
  call_here steps r =
      let j = job_here passes p devices tasks places k t placed same x keeps some in
      let run = run_starts p devices tasks places k t placed inputs in
      let parts = parts_of_task p devices tasks places k t placed in
      let below = calls_below (limits_of x) P.routines P.job in
      let first : r.task.registers 2 ≡ own.stack = ap (λ f. f 2) r.registers in
      record {
        routine = j.routine;
        there = j.there;
        two = reg_other 1 (s.places 0 + 4) r.task.registers 2 (omega arith) ∙ first ∙ sym j.top_is;
        aligned = four_more (s.places 0) (parts.aligned 0);
        small = subst (λ n. n + 4 < 2 ^ 32) run.entry run.entry_small;
        means = sym (performed_is below everywhere j.routine P.job [] r.source j.plain)
            ∙ sym (ap (λ a. enter below a j.routine P.job [] r.source) (unmarked_access (limits_of x) j.routine P.job everywhere j.plain))
            ∙ sym (ap (λ q. enter_if_there (limits_of x) below q P.job everywhere P.job [] r.source) j.there)
            ∙ sym (meant_below (limits_of x) P.routines everywhere P.job (length P.routines) j.below [] r.source) ∙ r.means;
      } where
        four_more : (n : ℕ) → n % 4 ≡ 0 → (n + 4) % 4 ≡ 0
        four_more n e = omega (arith, e)

  module _ (counts : Plant → Placed → List Did → ℕ) (plans : Plant → Placed → List Plan) (course : JobsCourse counts plans) where
    abbrev e : Scene
    e = known_scene p (plans p t) t.task.program t.at

    -- with marked calls, and without
    parted_course : CallsCourse p (counts p t) s (globals_in p.target t.task.program) (limits_of x) t.task.program own (job_calls s t) 0 part (fact_of e t.task.program.job).parted
    parted_course steps r =
        let c = call_here steps r in
        subst (RunCourses p (is_marked (is_marked_call p (counts p t))) (fact_of e t.task.program.job).parted) r.goes
        (course passes p devices tasks places k t placed same x keeps some c.routine c.there r.source (linked 1 (s.places 0 + 4) r.task)
        (s.places 0 + 4) r.word r.after r.between c.two refl c.aligned c.small c.means)

    quiet_course : (fact_of e t.task.program.job).cuts ≡ false →
        CallsCourse p (counts p t) s (globals_in p.target t.task.program) (limits_of x) t.task.program own (job_calls s t) 0 part
        (quiet (fact_of e t.task.program.job).least)
    quiet_course none steps r =
        let c = call_here steps r in
        course_of p (is_marked (is_marked_call p (counts p t))) _ _
        (subst (RunDivides p (fact_of e t.task.program.job).least) r.goes
        (placed_quiet_jobs_divide passes p devices tasks places k t placed same x keeps some (plans p t) c.routine c.there r.source
        (linked 1 (s.places 0 + 4) r.task) (s.places 0 + 4) r.word r.after r.between c.two refl c.aligned c.small c.means none))

    abbrev one : ℕ
    one = charge e (s.places 0) (start_span t.task.program)

    abbrev collection : List ℕ
    collection = lines_in e (s.places 0) (start_span t.task.program)

    quiet_scope : (fact_of e t.task.program.job).cuts ≡ false → CallsScope p s (globals_in p.target t.task.program) (limits_of x) t.task.program own (job_calls s t) 0 part collection one
    quiet_scope none steps r =
        let c = call_here steps r in
        subst (RunStarts p collection one (s.places 0) (s.places part)) r.goes
        (placed_quiet_starts passes p devices tasks places k t placed same x keeps some (plans p t) c.routine c.there r.source
        (linked 1 (s.places 0 + 4) r.task) (s.places 0 + 4) r.word r.after r.between c.two refl c.aligned c.small c.means none)

    -- ---- all jobs

    less : {a b : ℕ} → a ≡ b → b ≤ a
    less e = omega (arith, e)

    left_max : (a b c : ℕ) → a ≤ b → a ≤ max b c
    left_max a b c le = omega (arith, le)

    switched : (s a b : ℕ) → b ≡ a → s + a ≤ s + b
    switched s a b e = omega (arith, e)

    quiet_stretch : (j d n : ℕ) → greatest (chained (taking j) (chained (taking n) (taking d))) ≤ j + d + n
    quiet_stretch j d n = omega arith

    -- what they take with these plans, and their longest stretches
    abbrev taken : ℕ
    taken = wcet_of p (plans p t) t.task.program t.at

    abbrev stretch : ℕ
    stretch = max (stretch_within e t.task.program) (greatest_stated t.plans)

    pub jobs_strand : (weave : Weave) →
        JobsAlong p passes s (globals_in p.target t.task.program) (limits_of x) t.task.program own (job_calls s t) 0 part weave → (script : Script) →
        StateWithin script 0 (counts_of (counts p t) weave) →
        JobStrand p script taken stretch 0 (dids_of weave)
    jobs_strand weave along script states = by (fact_of e t.task.program.job).cuts refl where
      Goal : Type 0
      Goal = JobStrand p script taken stretch 0 (dids_of weave)

      marked : (fact_of e t.task.program.job).cuts ≡ true → Goal
      marked cut =
          let cost : job_of e t.task.program ≡ own_start e + (fact_of e t.task.program.job).parted.total =
          ap (λ b. cond b (own_start e + (fact_of e t.task.program.job).parted.total) (min one (own_start e + (fact_of e t.task.program.job).least))) cut in
          let longest : stretch_within e t.task.program ≡ stretch_with p (fact_of e t.task.program.job).parted =
          ap (λ b. cond b (stretch_with p (fact_of e t.task.program.job).parted) (job_of e t.task.program)) cut in
          jobs_go_by_courses p passes script (counts p t) s (globals_in p.target t.task.program) (limits_of x) t.task.program own (job_calls s t)
          0 part weave (fact_of e t.task.program.job).parted taken stretch along parted_course
          (switched p.switch _ _ cost) (left_max _ _ _ (less longest)) states

      unmarked : (fact_of e t.task.program.job).cuts ≡ false → (b : Bool) → leb one (own_start e + (fact_of e t.task.program.job).least) ≡ b → Goal
      unmarked none true is =
          let least = (fact_of e t.task.program.job).least in
          let le : one ≤ own_start e + least = leb-true one (own_start e + least) is in
          let cost : job_of e t.task.program ≡ min one (own_start e + least) = ap (λ b. cond b (own_start e + (fact_of e t.task.program.job).parted.total) (min one (own_start e + least))) none in
          let longest : stretch_within e t.task.program ≡ job_of e t.task.program = ap (λ b. cond b (stretch_with p (fact_of e t.task.program.job).parted) (job_of e t.task.program)) none in
          jobs_go_by_scopes p passes script s (globals_in p.target t.task.program) (limits_of x) t.task.program own (job_calls s t)
          0 part weave collection one taken stretch (sym (run_starts p devices tasks places k t placed inputs).entry) along (quiet_scope none)
          (first_cost p.switch _ _ _ cost le) (left_max _ _ _ (first_stretch _ _ _ _ longest cost le)) where
            first_cost : (s a b j : ℕ) → j ≡ min a b → a ≤ b → s + a ≤ s + j
            first_cost s a b j e le = omega (arith, e, le)

            first_stretch : (a b j l : ℕ) → l ≡ j → j ≡ min a b → a ≤ b → a ≤ l
            first_stretch a b j l f e le = omega (arith, e, f, le)
      unmarked none false is =
          let least = (fact_of e t.task.program.job).least in
          let lt : own_start e + least < one = leb-false one (own_start e + least) is in
          let cost : job_of e t.task.program ≡ min one (own_start e + least) = ap (λ b. cond b (own_start e + (fact_of e t.task.program.job).parted.total) (min one (own_start e + least))) none in
          let longest : stretch_within e t.task.program ≡ job_of e t.task.program = ap (λ b. cond b (stretch_with p (fact_of e t.task.program.job).parted) (job_of e t.task.program)) none in
          jobs_go_by_courses p passes script (counts p t) s (globals_in p.target t.task.program) (limits_of x) t.task.program own (job_calls s t)
          0 part weave (quiet (fact_of e t.task.program.job).least) taken stretch along (quiet_course none)
          (next_cost p.switch _ _ _ cost lt) (left_max _ _ _ (next_stretch _ _ _ _ _ (quiet_stretch (jump_weight (job_weight p)) (job_weight p PmDone) least) longest cost lt)) states where
            next_cost : (s a b j : ℕ) → j ≡ min a b → b < a → s + b ≤ s + j
            next_cost s a b j e lt = omega (arith, e, lt)

            next_stretch : (g a b j l : ℕ) → g ≤ b → l ≡ j → j ≡ min a b → b < a → g ≤ l
            next_stretch g a b j l h f e lt = omega (arith, h, e, f, lt)

      by : (b : Bool) → (fact_of e t.task.program.job).cuts ≡ b → Goal
      by true cut = marked cut
      by false none = unmarked none (leb one (own_start e + (fact_of e t.task.program.job).least)) refl

-- ---- as they state, and as they keep closed

module _ (passes : ℕ → ℕ) (p : Plant) (devices : List Device) (tasks : List Coded) (places : List Extent) (k : ℕ) (t : Placed)
    (placed : IsPlacedTask p devices tasks places k t) (same : passes p.ways ≡ pass_count (stub_passes p))
    (x : ProgramText) (keeps : KeepsTaskRules p x t) (some : 1 ≤ t.task.jobs) (inputs : List (List ℕ)) (words : All (λ word. word < 2 ^ 32) (slice_index_or inputs k [])) where
  told : JobsTell (setup_of p devices places tasks) passes (own_of tasks places k)
      (run_in (setup_of p devices places tasks) (content_of p places tasks) inputs k) (task_limits p t) (task_longest p t) (greatest_stated t.plans)
      (setting_of p (task_guard t) t) (globals_in p.target t.task.program) (limits_of x) t.task.program (job_calls (setting_of p (task_guard t) t) t)
      0 ((codes_in t).code_part t.task.program.job) (promise_for x t (slice_index_or inputs k []))
  told = tasks_tell passes p devices tasks places k t placed same x keeps some inputs words

  right_max : (a b : ℕ) → b ≤ max a b
  right_max a b = omega arith

  stated_strand : (script : Script) → StateWithin script 0 (counts_of stated_of told.paces.joins.weave) → JobStrand p script (task_wcet p t) (task_stretch p t) 0 (dids_of told.paces.joins.weave)
  stated_strand script states =
      jobs_strand passes p devices tasks places k t placed same x keeps some inputs (λ p t. stated_of) (λ p t. t.plans) placed_jobs_course told.paces.joins.weave told.along script states

  pub goes_by_wcet : TaskCharges (setup_of p devices places tasks) passes (own_of tasks places k)
      (run_in (setup_of p devices places tasks) (content_of p places tasks) inputs k) (task_limits p t) (task_wcet p t) (task_stretch p t)
      (promise_for x t (slice_index_or inputs k []))
  goes_by_wcet =
      let w = stated_strand (script_of (calls_of told.paces.joins.weave)) (stated_within p passes told.paces.joins.weave told.paces.joins.woven.weave) in
      record {
        joins = told.paces.joins;
        strand = w.strand;
        dids_are = w.dids_are;
        scopes = w.is_strand;
        charged = w.charged;
        stated = stated_more (greatest_stated t.plans) (task_stretch p t) (right_max _ _) told.paces.joins.weave told.stated;
      }

  -- with calls that name just the lines that they touch
  pub shuts_by_wcet : (top : ℕ) →
      TaskShuts (setup_of p devices places tasks) passes (own_of tasks places k)
      (run_in (setup_of p devices places tasks) (content_of p places tasks) inputs k) (task_limits p t) (task_wcet p t) (task_stretch p t)
      top (task_closed p top t) (promise_for x t (slice_index_or inputs k []))
  shuts_by_wcet top =
      let j = told.paces.joins in
      let is_weave : IsWeave p passes (trimmed p told.paces.joins.weave) = weave_trimmed p passes told.paces.joins.weave j.woven.weave in
      let dids : dids_of (trimmed p told.paces.joins.weave) ≡ dids_of told.paces.joins.weave = dids_trimmed p told.paces.joins.weave in
      let w = stated_strand (script_of (calls_of (trimmed p told.paces.joins.weave)))
      (subst (StateWithin (script_of (calls_of (trimmed p told.paces.joins.weave))) 0) (counts_trimmed p stated_of told.paces.joins.weave)
      (stated_within p passes (trimmed p told.paces.joins.weave) is_weave)) in
      let v = jobs_strand passes p devices tasks places k t placed same x keeps some inputs (λ p t. shut_of p top)
      (λ p t. map (shortened p t.at top) t.plans) (placed_jobs_shut top) told.paces.joins.weave told.along
      (script_by (counts_of (shut_of p top) (trimmed p told.paces.joins.weave)))
      (subst (StateWithin (script_by (counts_of (shut_of p top) (trimmed p told.paces.joins.weave))) 0)
      (counts_trimmed p (shut_of p top) told.paces.joins.weave) (by_lengths (counts_of (shut_of p top) (trimmed p told.paces.joins.weave)))) in
      record {
        charges = record {
          joins = record {
            weave = trimmed p told.paces.joins.weave;
            ending = j.ending;
            woven = woven_trimmed _ passes _ _ _ _ told.paces.joins.weave j.ending j.woven;
            promised = promised_trimmed p _ told.paces.joins.weave j.ending _ j.promised;
            outputs = j.outputs;
            calls = fewer _ _ _ (calls_trimmed p told.paces.joins.weave) j.calls;
          };
          strand = w.strand;
          dids_are = w.dids_are ∙ sym dids;
          scopes = w.is_strand;
          charged = w.charged;
          stated = states_trimmed p (task_stretch p t) told.paces.joins.weave (stated_more (greatest_stated t.plans) (task_stretch p t) (right_max _ _) told.paces.joins.weave told.stated);
        };
        names = are_trimmed p told.paces.joins.weave;
        strand = v.strand;
        dids_are = v.dids_are ∙ sym dids;
        scopes = v.is_strand;
        stretch = max (stretch_within (known_scene p (map (shortened p t.at top) t.plans) t.task.program t.at) t.task.program) (greatest_stated t.plans);
        closes = v.charged;
      }
    where
      fewer : (a b c : ℕ) → a ≡ b → b ≤ c → a ≤ c
      fewer a b c e le = omega (arith, e, le)

pub tasks_go_by_wcet : TasksGoByWcet
tasks_go_by_wcet passes p devices tasks places k t placed same x keeps some inputs words = goes_by_wcet passes p devices tasks places k t placed same x keeps some inputs words

pub tasks_shut_by_wcet : TasksShutByWcet
tasks_shut_by_wcet passes p devices tasks places k t placed same x keeps some top inputs words = shuts_by_wcet passes p devices tasks places k t placed same x keeps some inputs words top
