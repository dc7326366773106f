-- Each placed task that keeps the rules joins.
use Rattle.std.proofs.Common.{◌≡◌, ℕ, zero, suc, ◌+◌, ◌%◌, ◌^◌, ◌<◌, ◌≤◌, refl, ap, ◌∙◌, sym, subst, arith, true, List, [], ◌∷◌, length, map, None, Some, Option, slice_get, max}
use Rattle.prem_sets_sound.proofs.Prelude.{call_to, no_pieces, Setting, GlobalsStand, IsStub, StartStands, run_in, TaskRun, start_code, job_bound_of, place_at, global_range, pass_count}
use Rattle.prem_sets_sound.proofs.Prelude.{stub_passes, Coded, Placed, Plan, plan_before, plans_from, stretch_of, greatest_stated, depth_of, deepest, parts_of, is_marked_at, marked_before}
use Rattle.prem_sets_sound.proofs.Prelude.{function_code, Extent, Device, Plant, limits_of, confinement_of, plan_at, confinement_in, job_calls, promise_for, TasksJoin, TaskPaces}
use Rattle.prem_sets_sound.proofs.Prelude.{task_longest, TasksPace, JobsTell, TasksTell, PlacedStands, weight_in, content_of, setting_of, globals_in, CalmStands, Confinement, ConfinedStands}
use Rattle.prem_sets_sound.proofs.Prelude.{TaskJoins, own_of, setup_of, AreOwnAt, ReturnsLast, sums_in, codes_in, IsPlacedTask, HasParts, RunStands, plain_callable, task_guard}
use Rattle.prem_sets_sound.proofs.Prelude.{KeepsTaskRules, task_limits, read_globals, stated_at, Reading, Routine, Resolved, initial_words, is_marked, ProgramText, MarkText, All}
use Rattle.prem_sets_sound.proofs.Prelude.{slice_index, slice_index_or, unwrap_or}
use Rattle.prem_sets_sound.proofs.TaskRunsLemmas.Filled.{plan_there, routine_at, program_keeps, code_is, table_code, code_within, small_memory, codes_stand, part_listed}
use Rattle.prem_sets_sound.proofs.TaskRunsLemmas.Joins.{TaskStands, joins, promise_is, paces, jobs_tell}
use Rattle.prem_sets_sound.proofs.TaskRunsLemmas.Lands.{CallsStand}
use Rattle.prem_sets_sound.proofs.TaskRunsLemmas.Means.{StubMeans, JobStands}
use Rattle.prem_sets_sound.proofs.TaskRunsLemmas.Stubs.{planned_at, stub_means, confined_stands, stated_so}
use Rattle.prem_sets_sound.proofs.TaskRunsLemmas.Words.{job_fits, code_stands, job_is, start_stands}
use Rattle.prem_sets_sound.proofs.StubLawsLemmas.JobChargesLemmas.Table.{placed_jobs_are_bounded}
use Rattle.prem_sets_sound.proofs.StubLawsLemmas.InitialLemmas.Values.{globals_stand_first}
use Rattle.prem_sets_sound.proofs.StubLawsLemmas.InitialLemmas.Whole.{content_fits}
use Rattle.prem_sets_sound.proofs.StubLawsLemmas.JobWeaveLemmas.Calm.{functions_are_calm}
use Rattle.prem_sets_sound.proofs.StubLawsLemmas.OwnStepsLemmas.Takes.{functions_take}
use Rattle.prem_sets_sound.proofs.StubLawsLemmas.StretchLengthsLemmas.Last.{functions_return_last}
use Rattle.prem_sets_sound.proofs.StubLawsLemmas.StretchLengthsLemmas.Table.{placed_jobs_are_strided}
use Rattle.prem_sets_sound.proofs.TaskLawsLemmas.ProgramFitsLemmas.Functions.{plain_tasks_fit}
use Rattle.prem_sets_sound.proofs.TaskLawsLemmas.ProgramFitsLemmas.Stubs.{job_stubs_fit}
use Rattle.prem_sets_sound.proofs.TaskLawsLemmas.TaskBytesLemmas.Guards.{task_guard_is_own, task_code_is_own}
use Rattle.prem_sets_sound.proofs.TaskLawsLemmas.TaskBytesLemmas.Parts.{parts_of_task, at_parts, laid, plans_are}
use Rattle.prem_sets_sound.proofs.TaskLawsLemmas.TaskBytesLemmas.Start.{run_starts}
use Rattle.prem_sets_sound.proofs.TaskLawsLemmas.TaskGroundLemmas.Elements.{globals_are_placed, globals_are_own, places_are_own}
use Rattle.prem_sets_sound.proofs.TaskLawsLemmas.TaskGroundLemmas.Stands.{jobs_stand}
use Rattle.std.specs.Prelude.{option_map}

one_there : (xs : List ℕ) (a : ℕ) → All (λ byte. byte < 256) xs → slice_index xs a < 256
one_there [] a h = omega arith
one_there (x ∷ xs) zero h = h 0 0 (omega arith)
one_there (x ∷ xs) (suc a) h = one_there xs a (λ k d lt. h (suc k) d (omega (arith, lt)))

-- a marked function is there, with its mark
pub marked_there : (fs : List Routine) (n : ℕ) → is_marked_at fs n ≡ true → (f : Routine) × ((slice_get fs n ≡ Some f) × (is_marked f ≡ true))
marked_there [] n e = cc
marked_there (x ∷ fs) zero e = (x, (refl, e))
marked_there (x ∷ fs) (suc n) e = marked_there fs n e

-- a plan tells the length that its function states
stated_in : (q : Resolved) (n : ℕ) (fs : List Routine) (f : ℕ) → stated_at fs f ≤ greatest_stated (plans_from q n fs)
stated_in q n [] f = omega arith
stated_in q n (x ∷ fs) f = by x.text.mark refl f (λ k. stated_in q (n + 1) fs k) where
  by : (o : Option MarkText) → x.text.mark ≡ o → (f : ℕ) → ((k : ℕ) → stated_at fs k ≤ greatest_stated (plans_from q (n + 1) fs)) →
      stated_at (x ∷ fs) f ≤ greatest_stated (plan_before q n o (plans_from q (n + 1) fs))
  by None e zero behind = let z : stated_at (x ∷ fs) 0 ≡ 0 = ap (λ (o : Option MarkText). unwrap_or (option_map (λ (m : MarkText). m.stated) o) 0) e in omega (arith, z)
  by None e (suc f) behind = behind f
  by (Some m) e zero behind = let z : stated_at (x ∷ fs) 0 ≡ m.stated = ap (λ (o : Option MarkText). unwrap_or (option_map (λ (m : MarkText). m.stated) o) 0) e in omega (arith, z)
  by (Some m) e (suc f) behind = omega (arith, behind f)

module _ (passes : ℕ → ℕ) (p : Plant) (devices : List Device) (tasks : List Coded) (places : List Extent) (k : ℕ) (t : Placed)
    (placed : IsPlacedTask p devices tasks places k t) (same : passes p.ways ≡ pass_count (stub_passes p)) (x : ProgramText) (keeps : KeepsTaskRules p x t)
    (some : 1 ≤ t.task.jobs) (inputs : List (List ℕ)) (words : All (λ word. word < 2 ^ 32) (slice_index_or inputs k [])) where
  abbrev pub s : Setting
  s = setting_of p (task_guard t) t

  abbrev pub own : TaskRun
  own = run_in (setup_of p devices places tasks) (content_of p places tasks) inputs k

  abbrev reads : Reading
  reads = read_globals (λ g. (global_range t.at g).0) t.task.program.globals

  abbrev pub first_bytes : ℕ → ℕ
  first_bytes = slice_index (content_of p places tasks)

  abbrev pub counted : ℕ
  counted = length (map (λ (q : Extent). q.0) t.at.places)

  parts : HasParts p tasks places k t
  parts = parts_of_task p devices tasks places k t placed

  run : RunStands p tasks places inputs k t own
  run = run_starts p devices tasks places k t placed inputs

  -- the plan of a marked function before `job`
  record Planned (n : ℕ) : Type 0 where
    plan : Plan
    planned : slice_get t.plans (marked_before n t.task.program.routines) ≡ Some plan
    function_is : plan.function ≡ n

  planned : (n : ℕ) → (codes_in t).marked n ≡ true → Planned n
  planned n marked =
      let f = marked_there t.task.program.routines n marked in
      let r = plan_there t.task.program 0 t.task.program.routines n f.0 f.1.0 f.1.1 in
      let z : 0 + n ≡ n = omega arith in
      record {
        plan = r.0;
        planned = ap (λ (ps : List Plan). slice_get ps (marked_before n t.task.program.routines)) (plans_are p places _ t (at_parts p devices tasks places k t placed)) ∙ r.1.0;
        function_is = r.1.1 ∙ z;
      }

  pub stub_meant : (n : ℕ) → (codes_in t).marked n ≡ true → n < t.task.program.job → StubMeans p s t (limits_of x) n
  stub_meant n marked lt =
      let r = planned n marked in
      let first : r.plan.function < t.task.program.job = subst (λ m. m < t.task.program.job) (sym r.function_is) lt in
      subst (StubMeans p s t (limits_of x)) r.function_is (stub_means passes p devices tasks places k t placed x keeps same (marked_before n t.task.program.routines) r.plan r.planned first)

  functions : (n : ℕ) → n < length t.task.program.routines → CalmStands (own_of tasks places k) s first_bytes counted ((codes_in t).code_part n) ((codes_in t).code n)
  functions n lt =
      let f = routine_at t.task.program.routines n lt in
      let ps = function_code (parts_of p.target t.task.program.routines) f.0 in
      subst (CalmStands (own_of tasks places k) s first_bytes counted (1 + n)) (sym (code_is p devices tasks places k t placed x keeps n f.0 f.1))
      (record {
        stands = code_stands p devices tasks places k t placed x keeps n f.0 f.1;
        calm = functions_are_calm (parts_of p.target t.task.program.routines) f.0;
        takes = functions_take (parts_of p.target t.task.program.routines) f.0;
        own_bytes = task_code_is_own p devices tasks places k t placed (1 + n) ps
            (part_listed p devices tasks places k t placed x keeps n ps (table_code p devices tasks places k t placed x keeps n f.0 f.1));
      })

  -- a stub in memory, in a job, under a confinement
  pub record StubHere (y : Confinement) (ended n : ℕ) : Type 0 where
    pub plan : Plan
    pub there : plan_at t n ≡ Some plan
    pub here : ConfinedStands (setup_of p devices places tasks) (own_of tasks places k) passes s (codes_in t) y own ended first_bytes counted t.task.program.job n
    pub stated : here.at.stated ≡ plan.stated

  pub stub_here : (ended : ℕ) → ended < own.jobs → (n : ℕ) → IsStub (codes_in t) t.task.program.job n → StubHere (confinement_in t n) ended n
  stub_here ended less n is =
      let r = planned n is.marked in
      let lt = is.below in
      let first : r.plan.function < t.task.program.job = subst (λ m. m < t.task.program.job) (sym r.function_is) lt in
      let at = planned_at passes p devices tasks places k t placed x keeps same (marked_before n t.task.program.routines) r.plan r.planned first in
      subst (λ m. StubHere (confinement_in t m) ended m) r.function_is
      (subst (λ y. StubHere y ended r.plan.function) (sym (ap (confinement_of t) at)) (record {
        plan = r.plan;
        there = at;
        here = confined_stands passes p devices tasks places k t placed x keeps same (marked_before n t.task.program.routines)
            r.plan r.planned first own ended (run.running (task_guard t) ended less) run.stack_small;
        stated = stated_so passes p devices tasks places k t placed x keeps same (marked_before n t.task.program.routines)
            r.plan r.planned first own ended (run.running (task_guard t) ended less) run.stack_small;
      }))

  below : t.task.program.job < length t.task.program.routines
  below = (job_fits p devices tasks places k t placed x keeps).below

  calls_here : (ended : ℕ) → ended < own.jobs → CallsStand (setup_of p devices places tasks) (own_of tasks places k) passes reads s own ended first_bytes t counted
  calls_here ended less = record {
    running = run.running (task_guard t) ended less;
    mine = task_guard_is_own p devices tasks places k t placed;
    functions = functions;
    stubs = λ n is. (stub_here ended less n is).here;
    job = below;
  }

  none : 0 < own.jobs
  none = let e = run.jobs in omega (arith, e, some)

  due_stands : PlacedStands (setup_of p devices places tasks) (own_of tasks places k) passes s t (confinement_in t) own 0 first_bytes counted
  due_stands = record {
    count = parts.counts.code;
    job_is = job_is p devices tasks places k t placed x keeps;
    below = below;
    running = run.running (task_guard t) 0 none;
    code = functions;
    stubs = λ n is. let h = stub_here 0 none n is in record { stands = h.here; plan = h.plan; there = h.there; stated_is = h.stated };
  }

  returns_last : (n : ℕ) → n < length t.task.program.routines → ReturnsLast ((codes_in t).code n)
  returns_last n lt =
      let f = routine_at t.task.program.routines n lt in
      subst ReturnsLast (sym (code_is p devices tasks places k t placed x keeps n f.0 f.1)) (functions_return_last (parts_of p.target t.task.program.routines) f.0)

  pub job_stands : JobStands p s t own.stack
  job_stands =
      let f = job_fits p devices tasks places k t placed x keeps in
      let g = jobs_stand p placed.plant_is devices tasks places (laid p devices tasks places k t placed) k t placed.there f.routine f.there in
      let e = table_code p devices tasks places k t placed x keeps t.task.program.job f.routine f.there in
      let le = code_within p devices tasks places k t placed x keeps t.task.program.job (function_code (parts_of p.target t.task.program.routines) f.routine) e in
      let small = small_memory p devices tasks places k t placed x keeps in
      record {
        routine = f.routine;
        there = f.there;
        plain = f.unmarked;
        alone = f.alone;
        below = f.below;
        depth = depth_of t.task.program.routines t.task.program.job;
        under = deepest (depth_of t.task.program.routines) f.routine.body;
        fits = f.fits (place_at t.at (1 + t.task.program.job)).0 (parts.aligned (1 + t.task.program.job)) (omega (arith, le, small));
        code_is = code_is p devices tasks places k t placed x keeps t.task.program.job f.routine f.there;
        ground = g.ground;
        slots = g.slots;
        space = g.space;
        top_is = g.frame_is ∙ sym run.stack;
        small = run.stack_small;
      }

  start_own : AreOwnAt (own_of tasks places k) (place_at t.at 0).0 (call_to 1 ((codes_in t).code_part t.task.program.job) no_pieces)
  start_own a ge lt = task_code_is_own p devices tasks places k t placed 0 (start_code t.table.job) refl a ge (omega (arith, lt))

  task_names : (f : ℕ) → stated_at t.task.program.routines f ≤ greatest_stated t.plans
  task_names f =
      subst (λ (ps : List Plan). stated_at t.task.program.routines f ≤ greatest_stated ps)
      (sym (plans_are p places _ t (at_parts p devices tasks places k t placed))) (stated_in t.task.program 0 t.task.program.routines f)

  task_stands : TaskStands (setup_of p devices places tasks) (own_of tasks places k) passes p x t s own (λ g. (global_range t.at g).0)
  task_stands =
      let all = laid p devices tasks places k t placed in
      let due = placed_jobs_are_bounded (setup_of p devices places tasks) (own_of tasks places k) passes s t (confinement_in t) own 0 first_bytes counted due_stands in
      let rules = program_keeps p devices tasks places k t placed x keeps in
      let strides = placed_jobs_are_strided (setup_of p devices places tasks) (own_of tasks places k) passes s t (confinement_in t) own 0 first_bytes counted due_stands returns_last in
      record {
        keeps = keeps;
        parts = counted;
        calls = λ ended less. subst (λ b. CallsStand (setup_of p devices places tasks) (own_of tasks places k) passes reads s own ended b t counted) (sym run.bytes) (calls_here ended less);
        mine = task_guard_is_own p devices tasks places k t placed;
        plain = plain_tasks_fit x t.task.program rules t.task.program.job (omega arith) s (codes_in t) (codes_stand p devices tasks places k t placed x keeps (plain_callable t.task.program));
        stubs_fit = job_stubs_fit t.task.program t.task.program.job (omega arith) (let lt = below in omega (arith, lt)) s
            (plain_callable t.task.program) (codes_in t) (codes_stand p devices tasks places k t placed x keeps (plain_callable t.task.program));
        stubs = stub_meant;
        job = job_stands;
        starts = subst (λ b. StartStands s own b counted 0 ((codes_in t).code_part t.task.program.job)) (sym run.bytes)
            (subst (λ j. StartStands s own first_bytes counted 0 (1 + j)) (job_is p devices tasks places k t placed x keeps) (start_stands p devices tasks places k t placed x keeps inputs));
        own_start = start_own;
        own_done = run.done_own;
        aligned = four_more own.entry (subst (λ e. e % 4 ≡ 0) (sym run.entry) (parts.aligned 0));
        small = run.entry_small;
        bytes = λ a. subst (λ (b : ℕ → ℕ). b a < 256) (sym run.bytes) (one_there (content_of p places tasks) a (content_fits p devices tasks places all).1);
        inputs = words;
        first = subst (λ b. GlobalsStand s (globals_in p.target t.task.program) (map initial_words t.task.program.globals) b) (sym run.bytes)
            (globals_stand_first p devices tasks places all k t placed.there (task_guard t));
        globals = globals_are_placed p devices tasks places all k t placed.there (task_guard t);
        own_globals = globals_are_own p devices tasks places all k t placed.there (own_of tasks places k) (λ g a lt h. places_are_own p tasks places k t placed.there _ a h);
        cost = weight_in p t.plans t.table ((codes_in t).code_part t.task.program.job);
        most = job_bound_of p t.plans t.table;
        charged = due.0;
        dear = due.1;
        sums = sums_in p t.plans t.table ((codes_in t).code_part t.task.program.job);
        longest = task_longest p t;
        strided = strides.0;
        long = left_most (stretch_of p t.plans t.table) (greatest_stated t.plans) _ strides.1;
        stated = λ f. right_most (stretch_of p t.plans t.table) (greatest_stated t.plans) _ (task_names f);
        named = greatest_stated t.plans;
        names = task_names;
      }
    where
      four_more : (n : ℕ) → n % 4 ≡ 0 → (n + 4) % 4 ≡ 0
      four_more n e = omega (arith, e)

      left_most : (a b g : ℕ) → a ≡ g → g ≤ max a b
      left_most a b g e = omega (arith, e)

      right_most : (a b n : ℕ) → n ≤ b → n ≤ max a b
      right_most a b n le = omega (arith, le)

  most_is : task_stands.most ≡ job_bound_of p t.plans t.table
  unfolding task_stands
  most_is = refl

  task_joins : TaskJoins (setup_of p devices places tasks) passes (own_of tasks places k) own (task_limits p t) (promise_for x t (slice_index_or inputs k []))
  task_joins =
      subst (TaskJoins (setup_of p devices places tasks) passes (own_of tasks places k) own (task_limits p t))
      (sym (ap (λ n. Rattle.prem_sets_sound.specs.Weave.Promise.Promised.promise_in (λ g. (global_range t.at g).0) x (slice_index_or inputs k []) n) (sym run.jobs)
      ∙ promise_is (setup_of p devices places tasks) (own_of tasks places k) passes p x t s own (λ g. (global_range t.at g).0) task_stands))
      (joins (setup_of p devices places tasks) (own_of tasks places k) passes p x t s own (λ g. (global_range t.at g).0) task_stands (task_limits p t) most_is refl refl)

  longest_is : task_stands.longest ≡ task_longest p t
  unfolding task_stands
  longest_is = refl

  task_paces : TaskPaces (setup_of p devices places tasks) passes (own_of tasks places k) own (task_limits p t) (task_longest p t) (promise_for x t (slice_index_or inputs k []))
  task_paces =
      subst (λ n. TaskPaces (setup_of p devices places tasks) passes (own_of tasks places k) own (task_limits p t) n (promise_for x t (slice_index_or inputs k []))) longest_is
      (subst (TaskPaces (setup_of p devices places tasks) passes (own_of tasks places k) own (task_limits p t) task_stands.longest)
      (sym (ap (λ n. Rattle.prem_sets_sound.specs.Weave.Promise.Promised.promise_in (λ g. (global_range t.at g).0) x (slice_index_or inputs k []) n) (sym run.jobs)
      ∙ promise_is (setup_of p devices places tasks) (own_of tasks places k) passes p x t s own (λ g. (global_range t.at g).0) task_stands))
      (paces (setup_of p devices places tasks) (own_of tasks places k) passes p x t s own (λ g. (global_range t.at g).0) task_stands (task_limits p t) most_is refl refl))

  named_is : task_stands.named ≡ greatest_stated t.plans
  unfolding task_stands
  named_is = refl

  task_tells : JobsTell (setup_of p devices places tasks) passes (own_of tasks places k) own (task_limits p t) (task_longest p t)
      (greatest_stated t.plans) s (globals_in p.target t.task.program) (limits_of x) t.task.program (job_calls s t) 0
      ((codes_in t).code_part t.task.program.job)
      (promise_for x t (slice_index_or inputs k []))
  task_tells =
      subst (λ n. JobsTell (setup_of p devices places tasks) passes (own_of tasks places k) own (task_limits p t) (task_longest p t) n s
      (globals_in p.target t.task.program) (limits_of x) t.task.program (job_calls s t) 0 ((codes_in t).code_part t.task.program.job)
      (promise_for x t (slice_index_or inputs k []))) named_is
      (subst (λ n. JobsTell (setup_of p devices places tasks) passes (own_of tasks places k) own (task_limits p t) n task_stands.named s
      (globals_in p.target t.task.program) (limits_of x) t.task.program (job_calls s t) 0 ((codes_in t).code_part t.task.program.job)
      (promise_for x t (slice_index_or inputs k []))) longest_is
      (subst (JobsTell (setup_of p devices places tasks) passes (own_of tasks places k) own (task_limits p t) task_stands.longest task_stands.named s
      (globals_in p.target t.task.program) (limits_of x) t.task.program (job_calls s t) 0 ((codes_in t).code_part t.task.program.job))
      (sym (ap (λ n. Rattle.prem_sets_sound.specs.Weave.Promise.Promised.promise_in (λ g. (global_range t.at g).0) x (slice_index_or inputs k []) n) (sym run.jobs)
      ∙ promise_is (setup_of p devices places tasks) (own_of tasks places k) passes p x t s own (λ g. (global_range t.at g).0) task_stands))
      (jobs_tell (setup_of p devices places tasks) (own_of tasks places k) passes p x t s own (λ g. (global_range t.at g).0) task_stands (task_limits p t) most_is refl refl)))

pub tasks_join : TasksJoin
tasks_join passes p devices tasks places k t placed same x keeps some inputs words = task_joins passes p devices tasks places k t placed same x keeps some inputs words

-- ---- the pace

pub tasks_pace : TasksPace
tasks_pace passes p devices tasks places k t placed same x keeps some inputs words = task_paces passes p devices tasks places k t placed same x keeps some inputs words

-- ---- what its jobs do

pub tasks_tell : TasksTell
tasks_tell passes p devices tasks places k t placed same x keeps some inputs words = task_tells passes p devices tasks places k t placed same x keeps some inputs words
