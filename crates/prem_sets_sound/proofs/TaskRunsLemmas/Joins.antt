-- The run of a task that stands in memory goes along a weave, and gives what its source means.
use Rattle.std.proofs.Common.{◌≡◌, ℕ, zero, suc, ◌+◌, ◌*◌, ◌%◌, ◌^◌, ◌<◌, ◌≤◌, refl, ap, ◌∙◌, sym, subst, arith, true, Bool, List, [], ◌∷◌, length, map, Ok, get_or}
use Rattle.prem_sets_sound.proofs.Prelude.{in_job, call_to, no_pieces, Setting, reg_words, GlobalsStand, Noted, StubsFit, StartStands, JobMeans, JobsDone, AllOwn, Setup, first_registers}
use Rattle.prem_sets_sound.proofs.Prelude.{TaskRun, TaskState, PlainState, TaskFits as StateTaskFits, Did, plain_start, Compatible, outputs_of, marked_calls_of, Placed, Sums, greatest}
use Rattle.prem_sets_sound.proofs.Prelude.{parts_of, Plant, analysis_sound, limits_of, AreWords as AllWords, AlikeRoutines, next_routine, no_routines, job_calls, TaskPaces, JobsTell}
use Rattle.prem_sets_sound.proofs.Prelude.{globals_in, CallIsCharged, job_charge, CallIsStrided, start_sums, WovenJobs, JobLimits, TaskJoins, OwnBytes, AreOwnAt, codes_in, callees_in}
use Rattle.prem_sets_sound.proofs.Prelude.{job_callable, plain_callable, KeepsTaskRules, PacedFrom, AreStated, read_globals, stated_at, mark_of, promise_of, promise_in, TheseStand}
use Rattle.prem_sets_sound.proofs.Prelude.{TheseAreOwn, HasShape, HaveLength, Weave, ends, goes, calls, joined, dids_of, calls_of, marks_of, IsWeave, IsOwnDid, Reading, Mark, resolve}
use Rattle.prem_sets_sound.proofs.Prelude.{Routine, Resolved, unlimited, initial_words, start, do_jobs, source, ProgramState, MarkedCall, ProgramText, MarkText, FunctionText, length-map}
use Rattle.prem_sets_sound.proofs.Prelude.{All, unwrap_or}
use Rattle.prem_code_laws.proofs.GenLawsLemmas.Whole.{jobs_run}
use Rattle.prem_code_laws.specs.ExprLaws.Registers.{AreWords}
use Rattle.prem_code_laws.specs.GenLaws.Jobs.{Between}
use Rattle.prem_code_laws.specs.GenLaws.Table.{TaskFits}
use Rattle.prem_ranges.proofs.Alike.{resolve-alike}
use Rattle.prem_ranges.proofs.RunsCounted.{runs_counted}
use Rattle.prem_sets_sound.proofs.TaskRunsLemmas.Lands.{CallsStand, calls_land, calls_land_woven}
use Rattle.prem_sets_sound.proofs.TaskRunsLemmas.Means.{StubMeans, JobStands, job_means}
use Rattle.prem_sets_sound.proofs.StubLawsLemmas.JobWeaveLemmas.Agree.{jobs_agree}
use Rattle.prem_sets_sound.proofs.StubLawsLemmas.JobWeaveLemmas.Jobs.{jobs_are_woven}
use Rattle.prem_sets_sound.proofs.WeaveLemmas.Charges.{weaves_are_charged}
use Rattle.prem_sets_sound.proofs.WeaveLemmas.PromiseLemmas.Reading.{globals_are_read, readings_are_own, meanings_promise}
use Rattle.prem_sets_sound.proofs.WeaveLemmas.SegmentLemmas.Sections.{all_of}
use Rattle.prem_sets_sound.proofs.WeaveLemmas.MeantCallsLemmas.Shape.{jobs_keep_shape}
use Rattle.prem_sets_sound.proofs.WeaveLemmas.MeantCallsLemmas.Told.{marks_are_told, marks_are_read}
use Rattle.prem_sets_sound.proofs.WeaveLemmas.Woven.{marks_counted}
use Rattle.std.specs.Prelude.{option_map}

-- ---- the same program with other turns

same_stated : {turn : ℕ → ℕ → Type 0} (fs gs : List Routine) → AlikeRoutines turn fs gs → (f : ℕ) → stated_at fs f ≡ stated_at gs f
same_stated [] [] no_routines f = refl
same_stated [] (y ∷ ys) k f = elim k [ ]
same_stated (x ∷ xs) [] k f = elim k [ ]
same_stated (x ∷ xs) (y ∷ ys) (next_routine h k) zero = ap (λ (text : FunctionText). unwrap_or (option_map (λ (m : MarkText). m.stated) text.mark) 0) h.text
same_stated (x ∷ xs) (y ∷ ys) (next_routine h k) (suc f) = same_stated xs ys k f

same_marks : (fs gs : List Routine) → ((f : ℕ) → stated_at fs f ≡ stated_at gs f) → (ms : List MarkedCall) → map (mark_of fs) ms ≡ map (mark_of gs) ms
same_marks fs gs same [] = refl
same_marks fs gs same (m ∷ ms) =
    let rest = same_marks fs gs same ms in
    let first : mark_of fs m ≡ mark_of gs m = ap (λ n. record { stated = n; before = m.before; after = m.after }) (same m.function) in
    cc

-- ---- all steps

words_listed : (ws : List ℕ) → All (λ w. w < 2 ^ 32) ws → AllWords ws
words_listed [] h = tt
words_listed (w ∷ ws) h = (h 0 w (omega arith), words_listed ws (λ k d lt. h (suc k) d (omega (arith, lt))))

no_words : All {X = ℕ} (λ w. w < 2 ^ 32) []
no_words k d lt = absurd (omega (arith, lt))

-- ---- one task

-- what the run of a task stands on, whose program is that of a text
pub record TaskStands (setup : Setup) (owned : ℕ → Bool) (passes : ℕ → ℕ) (p : Plant) (x : ProgramText) (t : Placed) (s : Setting) (own : TaskRun) (places : ℕ → ℕ) : Type 0 where
  pub keeps : KeepsTaskRules p x t
  pub parts : ℕ
  pub calls : (ended : ℕ) → ended < own.jobs → CallsStand setup owned passes (read_globals places t.task.program.globals) s own ended own.bytes t parts
  pub mine : OwnBytes setup owned s.guard
  pub plain : TaskFits s (globals_in p.target t.task.program) (parts_of p.target t.task.program.routines)
      (callees_in t.task.program (plain_callable t.task.program)) Compatible (codes_in t) t.task.program.routines t.task.program.job
  pub stubs_fit : StubsFit (parts_of p.target t.task.program.routines) (callees_in t.task.program (plain_callable t.task.program))
      (callees_in t.task.program (job_callable t.task.program)) (codes_in t) t.task.program.job
  pub stubs : (n : ℕ) → (codes_in t).marked n ≡ true → n < t.task.program.job → StubMeans p s t (limits_of x) n
  pub job : JobStands p s t own.stack
  pub starts : StartStands s own own.bytes parts 0 ((codes_in t).code_part t.task.program.job)
  pub own_start : AreOwnAt owned (s.places 0) (call_to 1 ((codes_in t).code_part t.task.program.job) no_pieces)
  pub own_done : AllOwn owned (own.entry + 4) 4
  pub aligned : (own.entry + 4) % 4 ≡ 0
  pub small : own.entry + 4 < 2 ^ 32
  pub bytes : (a : ℕ) → own.bytes a < 256
  pub inputs : All (λ w. w < 2 ^ 32) own.inputs
  pub first : GlobalsStand s (globals_in p.target t.task.program) (map initial_words t.task.program.globals) own.bytes
  pub globals : TheseStand s (globals_in p.target t.task.program) places 0 t.task.program.globals
  pub own_globals : TheseAreOwn owned places 0 t.task.program.globals
  pub cost : ℕ
  pub most : ℕ
  pub charged : CallIsCharged setup.plant (job_calls s t) ((codes_in t).code_part t.task.program.job) cost
  pub dear : job_charge setup.plant ((codes_in t).code_part t.task.program.job) cost ≤ most
  pub sums : Sums
  pub longest : ℕ
  pub strided : CallIsStrided setup.plant (job_calls s t) ((codes_in t).code_part t.task.program.job) sums
  pub long : greatest (start_sums setup.plant sums) ≤ longest
  pub stated : (f : ℕ) → stated_at t.task.program.routines f ≤ longest
  pub named : ℕ
  pub names : (f : ℕ) → stated_at t.task.program.routines f ≤ named

module _ (setup : Setup) (owned : ℕ → Bool) (passes : ℕ → ℕ) (p : Plant) (x : ProgramText) (t : Placed) (s : Setting) (own : TaskRun) (places : ℕ → ℕ)
    (h : TaskStands setup owned passes p x t s own places) where
  abbrev reads : Reading
  reads = read_globals places t.task.program.globals

  abbrev t0 : TaskState
  t0 = (plain_start own).task

  -- what the program means within its limits
  pub record Means : Type 0 where
    pub after : ProgramState
    pub within : do_jobs (limits_of x) t.task.program own.jobs (start t.task.program own.inputs) ≡ Ok after
    pub meaning : source x own.inputs own.jobs ≡ Ok after

  pub means : Means
  means =
      let r = analysis_sound x h.keeps.well_formed h.keeps.words h.keeps.in_range own.inputs (words_listed own.inputs h.inputs) own.jobs in
      record {
        after = r.0;
        within = subst (λ q. do_jobs (limits_of x) q own.jobs (start q own.inputs) ≡ Ok r.0) (sym h.keeps.program) r.1;
        meaning = r.2;
      }

  first_words : AreWords (first_registers own.stack)
  first_words = reg_words 2 own.stack (λ q. 0) h.job.small (record { zero = refl; word = λ q. omega arith })

  first_between : Between s (globals_in p.target t.task.program) Compatible (start t.task.program own.inputs) t0
  first_between = record {
    globals = h.first;
    words = first_words;
    phase_is = refl;
    left = refl;
    used = refl;
    outputs = refl;
    inputs = h.inputs;
  }

  start_fits : StateTaskFits t0
  start_fits = record { zero = refl; registers = first_words.word; bytes = h.bytes; left = h.inputs; outputs = no_words }

  called : JobMeans s (globals_in p.target t.task.program) (limits_of x) t.task.program (job_calls s t) ((codes_in t).code_part t.task.program.job) own.stack (own.entry + 4)
  called = job_means p s t (limits_of x) own.stack (own.entry + 4) h.job h.aligned h.small h.plain h.stubs_fit h.stubs

  none_more : 0 + own.jobs ≡ own.jobs
  none_more = omega arith

  -- all jobs, along a weave
  woven : WovenJobs setup owned passes reads s (globals_in p.target t.task.program) (limits_of x) t.task.program (job_calls s t) 0
      ((codes_in t).code_part t.task.program.job) own own.bytes h.most h.longest 0 own.jobs t0 means.after
  woven =
      subst (λ n. WovenJobs setup owned passes reads s (globals_in p.target t.task.program) (limits_of x) t.task.program (job_calls s t) 0
      ((codes_in t).code_part t.task.program.job) own own.bytes h.most h.longest 0 n t0 means.after) none_more
      (jobs_are_woven setup owned passes reads s (globals_in p.target t.task.program) (limits_of x) t.task.program own own.bytes (job_calls s t)
      h.parts 0 ((codes_in t).code_part t.task.program.job) h.cost h.most h.longest h.sums
      h.mine h.own_start h.own_done (λ ended lt. (h.calls ended lt).running) (λ ended lt. calls_land_woven setup owned passes reads s own ended own.bytes t h.parts (h.calls ended lt))
      h.starts h.small h.job.small called h.charged h.dear h.strided h.long own.jobs 0 (omega arith) (start t.task.program own.inputs)
      t0 means.after first_between refl (λ a e. refl) start_fits means.within)

  done : JobsDone s (globals_in p.target t.task.program) own own.bytes 0 own.jobs t0 [] means.after
  done =
      subst (λ n. JobsDone s (globals_in p.target t.task.program) own own.bytes 0 n t0 [] means.after) none_more
      (jobs_run s (globals_in p.target t.task.program) (limits_of x) t.task.program own own.bytes (job_calls s t) h.parts 0 ((codes_in t).code_part t.task.program.job)
      (λ ended lt. (h.calls ended lt).running) (λ ended lt. calls_land setup owned passes reads s own ended own.bytes t h.parts (h.calls ended lt))
      h.starts h.small h.job.small called own.jobs 0 (omega arith) (start t.task.program own.inputs) t0 means.after first_between refl (λ a e. refl) means.within)

  shape : HasShape (length t.task.program.globals) means.after
  shape = jobs_keep_shape (limits_of x) t.task.program own.inputs own.jobs means.after means.within

  noted : Noted s (globals_in p.target t.task.program) own (length (dids_of woven.weave)) (in_job 0 own.entry t0) [] means.after.marks
  noted =
      let same = jobs_agree setup owned passes reads s (globals_in p.target t.task.program) (limits_of x) t.task.program (job_calls s t) 0
      ((codes_in t).code_part t.task.program.job) own own.bytes h.most h.longest t0 [] means.after means.after woven done in
      subst (λ n. Noted s (globals_in p.target t.task.program) own n (in_job 0 own.entry t0) [] means.after.marks) (sym (ap (λ (ds : List Did). length ds) same.0)) done.marks

  told : marks_of woven.weave ≡ map (mark_of t.task.program.routines) means.after.marks
  told =
      let new_is : means.after.marks ≡ noted.new = noted.adds in
      let long : HaveLength (length t.task.program.globals) noted.new = subst (HaveLength (length t.task.program.globals)) new_is shape.marks in
      let m = marks_are_told setup.plant passes reads s (globals_in p.target t.task.program) t.task.program.routines own (in_job 0 own.entry t0)
      (in_job own.jobs own.entry woven.then_state) woven.weave [] means.after.marks
      woven.is_weave woven.goes_along (λ f. refl) noted (marks_are_read s (globals_in p.target t.task.program) places t.task.program.globals h.globals noted.new long) in
      m.1 ∙ ap (map (mark_of t.task.program.routines)) (sym new_is)

  finals : reads woven.then_state.view ≡ means.after.globals
  finals = globals_are_read s (globals_in p.target t.task.program) places t.task.program.globals means.after.globals woven.then_state.view h.globals shape.globals woven.between.globals

  -- what is promised, in the words of the program with its turns
  pub promise_is : promise_in places x own.inputs own.jobs ≡ promise_of reads t.task.program.routines means.after
  promise_is =
      let alike = resolve-alike (λ n m. Unit {0}) unlimited.turns (limits_of x).turns x (λ n. tt) in
      let routines : (f : ℕ) → stated_at (resolve unlimited.turns x).routines f ≡ stated_at t.task.program.routines f =
      λ f. same_stated (resolve unlimited.turns x).routines (resolve (limits_of x).turns x).routines alike.routines f ∙ ap (λ (q : Resolved). stated_at q.routines f) (sym h.keeps.program) in
      let globals : (resolve unlimited.turns x).globals ≡ t.task.program.globals = ap (λ (q : Resolved). q.globals) (sym h.keeps.program) in
      meanings_promise places x own.inputs own.jobs means.after means.meaning
      ∙ ap (λ gs. promise_of (read_globals places gs) (resolve unlimited.turns x).routines means.after) globals
      ∙ ap (λ ms. record { reads = reads; outputs = means.after.outputs; marks = ms; finals = means.after.globals })
      (same_marks (resolve unlimited.turns x).routines t.task.program.routines routines means.after.marks)

  ending : PlainState
  ending = in_job own.jobs own.entry woven.then_state

  pub joins : (most : JobLimits) → h.most ≡ most.cycles → most.outputs ≡ outputs_of t.task.program → most.calls ≡ marked_calls_of t.task.program →
      TaskJoins setup passes owned own most (promise_of reads t.task.program.routines means.after)
  joins most cycles outputs call_count =
      let counts = runs_counted x h.keeps.well_formed h.keeps.words h.keeps.in_range own.inputs (words_listed own.inputs h.inputs) own.jobs means.after means.meaning in
      let count_outputs : length means.after.outputs ≤ own.jobs * outputs_of t.task.program = subst (λ q. length means.after.outputs ≤ own.jobs * outputs_of q) (sym h.keeps.program) counts.outputs in
      let count_marks : length means.after.marks ≤ own.jobs * marked_calls_of t.task.program =
      subst (λ q. length means.after.marks ≤ own.jobs * marked_calls_of q) (sym h.keeps.program) counts.marks in
      let calls_are : length (calls_of woven.weave) ≡ length means.after.marks = sym (marks_counted woven.weave)
      ∙ ap (λ (ms : List Mark). length ms) told ∙ length-map means.after.marks (mark_of t.task.program.routines) in
      record {
        weave = woven.weave;
        ending = in_job own.jobs own.entry woven.then_state;
        woven = record {
          weave = woven.is_weave;
          goes_along = woven.goes_along;
          jobs_end = refl;
          untrapped = refl;
          own_dids = all_of (IsOwnDid setup owned) (dids_of woven.weave) woven.own_dids;
          dues = due (0 * h.most) woven.dues (weaves_are_charged setup.plant passes woven.weave woven.is_weave) (ap (λ n. own.jobs * n) cycles);
        };
        promised = record {
          own_bytes = readings_are_own owned places t.task.program.globals h.own_globals;
          outputs = woven.between.outputs;
          finals = finals;
          marks = sym told;
        };
        outputs = subst (λ n. length means.after.outputs ≤ own.jobs * n) (sym outputs) count_outputs;
        calls = subst (λ n. length (calls_of woven.weave) ≤ own.jobs * n) (sym call_count) (subst (λ n. n ≤ own.jobs * marked_calls_of t.task.program) (sym calls_are) count_marks);
      }
    where
      due : {d c jobs j : ℕ} (none : ℕ) → none + c ≤ jobs → d ≡ c → jobs ≡ j → d ≤ j
      due {d} {c} {jobs} {j} none le e same = omega (arith, le, e, same)

  -- ---- the pace

  stated_along : (bound : ℕ) (w : Weave) → IsWeave setup.plant passes w → ((k : ℕ) (m : Mark) → k < length (marks_of w) → (get_or (marks_of w) k m).stated ≤ bound) → AreStated bound w
  stated_along bound ends is all = tt
  stated_along bound (goes d rest) is all = stated_along bound rest is.1 all
  stated_along bound (calls m rest) is all =
      let here : m.mark.stated ≤ bound = all 0 m.mark (omega arith) in
      let same : m.mark.stated ≡ m.call.stated = is.0.stated in
      (omega (arith, here, same), stated_along bound rest is.1 (λ k z lt. all (suc k) z (omega (arith, lt))))

  marks_stated : (bound : ℕ) → ((f : ℕ) → stated_at t.task.program.routines f ≤ bound) → (ms : List MarkedCall) (k : ℕ) (z : Mark) →
      k < length (map (mark_of t.task.program.routines) ms) → (get_or (map (mark_of t.task.program.routines) ms) k z).stated ≤ bound
  marks_stated bound within [] k z lt = absurd (omega (arith, lt))
  marks_stated bound within (m ∷ ms) zero z lt = within m.function
  marks_stated bound within (m ∷ ms) (suc k) z lt = marks_stated bound within ms k z (omega (arith, lt))

  all_stated : (bound : ℕ) → ((f : ℕ) → stated_at t.task.program.routines f ≤ bound) → AreStated bound woven.weave
  all_stated bound within =
      stated_along bound woven.weave woven.is_weave (λ k z lt.
      subst (λ ms. k < length ms → (get_or ms k z).stated ≤ bound) (sym told) (marks_stated bound within means.after.marks k z) lt)

  joined_ends : (w : Weave) → joined w ends ≡ w
  joined_ends ends = refl
  joined_ends (goes d rest) = ap (goes d) (joined_ends rest)
  joined_ends (calls m rest) = ap (calls m) (joined_ends rest)

  pub paces : (most : JobLimits) → h.most ≡ most.cycles → most.outputs ≡ outputs_of t.task.program → most.calls ≡ marked_calls_of t.task.program →
      TaskPaces setup passes owned own most h.longest (promise_of reads t.task.program.routines means.after)
  unfolding joins
  paces most cycles outputs call_count = record {
    joins = joins most cycles outputs call_count;
    paced = subst (λ n. PacedFrom setup.plant n h.longest 0 0 woven.weave) cycles (subst (PacedFrom setup.plant h.most h.longest 0 0) (joined_ends woven.weave) (woven.paced ends tt));
    stated = all_stated h.longest h.stated;
  }

  -- and job by job
  pub jobs_tell : (most : JobLimits) (cycles : h.most ≡ most.cycles) (outputs : most.outputs ≡ outputs_of t.task.program) (call_count : most.calls ≡ marked_calls_of t.task.program) →
      JobsTell setup passes owned own most h.longest h.named s (globals_in p.target t.task.program) (limits_of x) t.task.program (job_calls s t) 0
      ((codes_in t).code_part t.task.program.job) (promise_of reads t.task.program.routines means.after)
  unfolding paces joins
  jobs_tell most cycles outputs call_count = record { paces = paces most cycles outputs call_count; along = woven.along; stated = all_stated h.named h.names }
