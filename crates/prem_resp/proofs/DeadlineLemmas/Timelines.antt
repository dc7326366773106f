-- A run of tasks that keep to their scripts is a schedule that serves no task more than is due.
use Rattle.std.specs.Prelude.{All, is_some, ◌&&◌}
use Rattle.std.proofs.Common.{◌≡◌, ℕ, zero, suc, ◌+◌, ◌-◌, ◌*◌, ◌/◌, ◌<◌, ◌≤◌, min, refl, ap, ◌∙◌, sym, subst, arith, cond, eqb, true, false, Bool, Some, None, Option, List}
use Rattle.std.proofs.Common.{length, ◌⊎◌, inl, inr, ⊎_elim}
use Rattle.std.proofs.lemmas.Bool.{and_parts, cases_Bool, cases_eq, eq-eqb, eqb-true, ne_eqb}
use Rattle.std.proofs.lemmas.List.{get_or_default}
use Rattle.std.proofs.lemmas.List.Elements.{All-nil}
use Rattle.prem_plant.specs.Ranges.{IsPlant}
use Rattle.prem_plant.specs.Order.Order.{OrderRule, HaveRoom}
use Rattle.prem_sched.specs.declared.sched.TaskJobs.{TaskJobs}
use Rattle.prem_sched.specs.declared.sched.Choice.{Choice}
use Rattle.prem_sched.specs.declared.sched.Choice.TheVariants.{Run, Idle as Rest, Finished}
use Rattle.prem_sched.specs.Schedule.{choice, no_task, task_at, NoneReady}
use Rattle.prem_isa.specs.declared.effect.Phase.{Phase}
use Rattle.prem_isa.specs.declared.effect.Phase.TheVariants.{Compatible, Memory as MemoryPhase, Execution}
use Rattle.prem_isa.specs.declared.effect.Change.{Change}
use Rattle.prem_isa.specs.declared.effect.Change.TheVariants.{Stay, Memory, Execute, End, Job}
use Rattle.prem_isa.specs.Plain.{TaskRun, PlainState, Did, plain_steps, plain_run, with_last}
use Rattle.prem_lru.specs.Entries.{ReplacementRule}
use Rattle.prem_lru.specs.Order.{lines_in}
use Rattle.prem_gate.specs.declared.request.Request.{Request}
use Rattle.prem_image.specs.declared.image.TaskRecord.{TaskRecord}
use Rattle.prem_cycle.specs.declared.state.Mode.{Mode}
use Rattle.prem_cycle.specs.declared.state.Mode.TheVariants.{Point, Switching, Running, Idle}
use Rattle.prem_cycle.specs.State.{Setup, no_record, record_of, MachineState}
use Rattle.prem_cycle.specs.Core.{is_paid, is_predictable}
use Rattle.prem_cycle.specs.Cycle.{bus_at, arrivals_at, ends_before, cycle_of, is_finished, is_full, is_over, log_size}
use Rattle.prem_cycle.specs.Run.{CycleStep, step_with, cycles_of, steps_of, run_of}
use Rattle.prem_cycle.proofs.Time.{run_of-now}
use Rattle.prem_cycle.specs.Runs.Position.Issued.{count_of, AreOwn, IsRunnable}
use Rattle.prem_cycle.proofs.RunsLemmas.PositionLemmas.Works.{kept_plant}
use Rattle.prem_cycle.proofs.RunsLemmas.PositionLemmas.Schedules.{Schedules, uncounted, uncounted_same, uncounted_other, ends_job}
use Rattle.prem_cycle.proofs.RunsLemmas.PositionLemmas.Finishes.{finished_point}
use Rattle.prem_sound.specs.Script.Script.{begun_by, Call, call_of, Script}
use Rattle.prem_sound.specs.Script.Scripts.{sum_below, last_release, interval_count}
use Rattle.prem_sound.specs.Resident.Faultless.{IsPolicy}
use Rattle.prem_sound.specs.Scopes.Charged.{Scoping, scope_by, scope_at, Charges, charges_by, job_charged, stretch_charged, all_charged, IsCharged}
use Rattle.prem_resp.specs.Deadline.Timeline.{chosen_task, serves_in}
use Rattle.prem_sound.proofs.ScopesLemmas.ChargeRuns.{some_charge, job_left, stretch_most}
use Rattle.prem_sound.proofs.ResidentLemmas.Residents.{Goes, Issued, phase_at, begun_at}
use Rattle.prem_sound.proofs.ResidentLemmas.Keeps.{sets_are, KeepScripts}
use Rattle.prem_sound.proofs.ResidentLemmas.Facing.{KnownCore}
use Rattle.prem_sound.proofs.Paces.{in_script, paced_fits}
use Rattle.prem_sound.proofs.ResidentLemmas.KeptRuns.{Known, known_core, known, run_keeps}
use Rattle.prem_sound.proofs.Lasts.{owed_of, InTime}
use Rattle.prem_sound.proofs.LastingRuns.{run_lasts}
use Rattle.prem_sound.proofs.Spends.{kept_by, Spent}
use Rattle.prem_sound.proofs.Ends.{behind_end}
use Rattle.prem_sound.proofs.Rests.{rest_until}
use Rattle.prem_sound.proofs.Timing.{first_no, not_finished, unpaid_owes, not_both}
use Rattle.prem_sound.proofs.Finishing.{over_finished, run_timed}
use Rattle.prem_resp.specs.declared.busy.load.Load.{Load}
use Rattle.prem_resp.specs.Busy.Busy.{load_at}
use Rattle.prem_resp.specs.Busy.Schedule.{Tasks, released, released_before, Schedule, IsReady, is_task, one_if, served, IsServed, IsSchedule}
use Rattle.prem_resp.proofs.BusyLemmas.Releases.{released_next, released_grows}
use Rattle.prem_resp.proofs.BusyLemmas.Periods.{jobs_end_in_time}
use Rattle.prem_resp.proofs.BusyLemmas.Enough.{lengths_are_enough}
use Rattle.prem_resp.specs.Deadline.Deadlines.{AreLoads, LastsWithin, RunsWithin, ScriptsMeetDeadlines, ScriptsKeepCharges}
use Rattle.prem_resp.proofs.DeadlineLemmas.Choosing.{Reads, Since, chooses_since, finished_done, idle_none, ready_then}
use Rattle.prem_resp.proofs.DeadlineLemmas.Accounts.{more, kept_at, job_at, stretch_at, InStretch, HasHad, InRun, InSwitch, Booked}
use Rattle.prem_resp.proofs.DeadlineLemmas.BookedRuns.{tasks, timeline, at, had, start, some_period, CountsJob, Settled, cycle_booked}

module _ (rule : ReplacementRule) (order : OrderRule) (passes : ℕ → ℕ) (p : Setup) (content : List ℕ) (inputs : List (List ℕ))
    (requests : List Request) (own : ℕ → ℕ → Bool) (runs : ℕ → TaskRun) (scripts : ℕ → Script) (policy : IsPolicy rule order passes)
    (keep : KeepScripts p passes runs scripts) (q : IsRunnable p content requests) (o : AreOwn p content inputs own runs)
    (periods : All (λ (r : TaskRecord). 1 ≤ r.period) p.tasks) (scopings : ℕ → Scoping) (loads : List Load) (are : AreLoads p runs scripts scopings loads)
    (outs : sum_below (length p.tasks) (λ k. length (plain_run (runs k) (scripts k).count).task.outputs) < log_size)
    (ints : sum_below (length p.tasks) (λ k. interval_count (runs k) (scripts k)) < log_size) where
  abbrev all_tasks : Tasks
  all_tasks = tasks rule order passes p content inputs requests own runs scripts policy keep q o periods scopings loads are

  abbrev states : ℕ → MachineState
  states n = run_of rule p content inputs requests n

  abbrev line : Schedule
  line = timeline rule order passes p content inputs requests own runs scripts policy keep q o periods scopings loads are

  abbrev issued : ℕ → ℕ → ℕ
  issued n = at rule order passes p content inputs requests own runs scripts policy keep q o periods scopings loads are n

  abbrev had_by : ℕ → ℕ → ℕ
  had_by n = had rule order passes p content inputs requests own runs scripts policy keep q o periods scopings loads are n

  -- what a task is charged in all
  abbrev total : ℕ → ℕ
  total k = all_charged p.plant (scripts k) (runs k) (charges_by p.plant (runs k) (scopings k)) (scripts k).count

  abbrev IsBooked : ℕ → (ℕ → ℕ) → (ℕ → ℕ) → MachineState → Type 0
  IsBooked now h a s = Booked p.plant (length p.tasks) runs scripts order scopings all_tasks line now h a (lines_in s.work.cache) s.sched s.core.mode s.core.interval s.core.mark s.core.debt

  some : (k : ℕ) → k < length p.tasks → 1 ≤ all_tasks.period k
  some k lt = some_period rule order passes p content inputs requests own runs scripts policy keep q o periods scopings loads are k lt

  -- ---- what is known of each state

  knows : (n : ℕ) → Known rule order passes p content inputs requests own runs scripts policy keep q o (issued n) (states n)
  knows n = known rule order passes p content inputs requests own runs scripts policy keep q o n

  schedules : (n : ℕ) → Schedules p runs (issued n) (states n).sched (states n).core.mode (states n).core.mark
  schedules n = (knows n).stand.position.schedules

  sched_periods : (n : ℕ) → Schedules p runs (issued n) (states n).sched (states n).core.mode (states n).core.mark → All (λ (t : TaskJobs). 1 ≤ t.period) (states n).sched
  sched_periods n g k d lt =
      let lk : k < length p.tasks = omega (arith, lt, g.count) in
      let e : (task_at (states n).sched k).period ≡ (record_of p k).period = g.periods k lk in
      let some : 1 ≤ (record_of p k).period = periods k no_record lk in
      subst (λ (t : TaskJobs). 1 ≤ t.period) (get_or_default (states n).sched k no_task d lt) (omega (arith, e, some))

  reads : (n : ℕ) → is_over (states n) ≡ false → Reads all_tasks line (length p.tasks) (states n).now (states n).sched
  reads n on =
      let g : Schedules p runs (issued n) (states n).sched (states n).core.mode (states n).core.mark = schedules n in
      let e : (states n).now ≡ n = run_of-now rule p content inputs requests n on in
      record {
        count = g.count;
        ended = λ j lt. ap (line.ended j) e;
        released = λ j v lt.
            let jobs : (task_at (states n).sched j).jobs ≡ (record_of p j).jobs = g.jobs j lt ∙ (o.runs_are j lt).jobs in
            let period : (task_at (states n).sched j).period ≡ (load_at loads j).period = g.periods j lt ∙ sym (are.each j lt).period in
            ap (λ m. min m (v / (task_at (states n).sched j).period + 1)) jobs ∙ ap (λ m. min (record_of p j).jobs (v / m + 1)) period;
        periods = sched_periods n g;
      }

  -- ---- all states

  -- after n cycles: the accounts, unless the run has stopped; and jobs that haven't begun have had nothing
  record Through (n : ℕ) : Type 0 where
    booked : is_over (states n) ≡ false → IsBooked (states n).now (had_by n) (issued n) (states n)
    unserved : (j m : ℕ) → j < length p.tasks → line.ended j n < m → served line j m n ≡ 0
    counted : (j : ℕ) → j < length p.tasks → line.ended j n ≤ released_before all_tasks j n
    intervals : All (LastsWithin p.plant loads) (states n).log.intervals

  first_ended : (j : ℕ) → j < length p.tasks → line.ended j 0 ≡ 0
  unfolding cycles_of steps_of plain_steps
  first_ended j lt = let e : line.ended j 0 + 0 ≡ 0 = (schedules 0).ended j lt in omega (arith, e)

  start_booked : IsBooked (states 0).now (had_by 0) (issued 0) (states 0)
  unfolding cycles_of steps_of begun_by plain_steps job_charged stretch_charged scope_by
  start_booked = record { current = refl; held = λ j lt out. omega arith; fresh = λ j lt out. refl }

  first_intervals : All (LastsWithin p.plant loads) (states 0).log.intervals
  unfolding cycles_of
  first_intervals = All-nil (LastsWithin p.plant loads)

  first_through : Through 0
  first_through = record {
    booked = λ on. start_booked;
    unserved = λ j m lt less. refl;
    counted = λ j lt. omega (arith, first_ended j lt);
    intervals = first_intervals;
  }

  -- ---- one more cycle

  over_stays : (n : ℕ) → is_over (states n) ≡ true → states (suc n) ≡ states n
  unfolding cycles_of
  over_stays n e = ap (λ b. cond b (states n) (cycle_of rule p requests (states n))) e

  next_settled : (n : ℕ) → Through n → is_over (states n) ≡ false →
      Settled rule order passes p content inputs requests own runs scripts policy keep q o periods scopings loads are
      (more (line.serves n) (had_by n)) (states n).sched (issued (suc n)) ((states n).now + 1) (states (suc n))
  unfolding cycles_of steps_of
  next_settled n t on =
      let s : MachineState = states n in
      let xs : List CycleStep = steps_of rule p requests n (start rule order passes p content inputs requests own runs scripts policy keep q o periods scopings loads are) in
      let none : Option CycleStep = None in
      subst (λ b. Settled rule order passes p content inputs requests own runs scripts policy keep q o periods scopings loads are
      (more (serves_in s.now s.sched s.core.mode) (had_by n)) s.sched
      (λ k. count_of k (with_last (cond b none (step_with rule p (bus_at (arrivals_at requests s).gates s) s)) xs)) (s.now + 1)
      (cond b s (cycle_of rule p requests s))) (sym on)
      (cycle_booked rule order passes p content inputs requests own runs scripts policy keep q o periods scopings loads are s xs (had_by n)
      (first_no (is_finished s) (is_some s.trapped) (is_full s) on) (knows n)
      (run_keeps rule order passes p content inputs requests own runs scripts policy keep q o n) (run_lasts rule order passes p content inputs requests own runs scripts policy keep q o n)
      (reads n on) (t.booked on) t.intervals)

  -- a job may have ended in it
  abbrev Counts : ℕ → ℕ → Type 0
  Counts n j = (line.ended j (suc n) ≡ line.ended j n) ⊎ ((line.ended j (suc n) ≡ line.ended j n + 1) × (line.ended j n < released_before all_tasks j (suc n)))

  counts_settled : (n j : ℕ) → j < length p.tasks → (on : is_over (states n) ≡ false) → (t : Through n) → Counts n j
  counts_settled n j lt on t =
      let c : Settled rule order passes p content inputs requests own runs scripts policy keep q o periods scopings loads are
      (more (line.serves n) (had_by n)) (states n).sched (issued (suc n)) ((states n).now + 1) (states (suc n)) = next_settled n t on in
      let e : (states n).now ≡ n = run_of-now rule p content inputs requests n on in
      let f : (states n).now + 1 ≡ suc n = omega (arith, e) in
      ⊎_elim (λ (same : ((task_at (states (suc n)).sched j).ended ≡ (task_at (states n).sched j).ended) × (c.left j ≡ more (line.serves n) (had_by n) j)). inl same.0)
      (λ (one : ((task_at (states (suc n)).sched j).ended ≡ (task_at (states n).sched j).ended + 1) × (c.left j ≡ 0) × ((task_at (states n).sched j).ended < released_before all_tasks j ((states n).now + 1))).
      inr (one.0, subst (λ m. (task_at (states n).sched j).ended < released_before all_tasks j m) f one.2))
      (c.counts j lt)

  counts : (n j : ℕ) → j < length p.tasks → Through n → Counts n j
  counts n j lt t =
      ⊎_elim (λ (over : is_over (states n) ≡ true). inl (ap (λ (s : MachineState). (task_at s.sched j).ended) (over_stays n over)))
      (λ (on : is_over (states n) ≡ false). counts_settled n j lt on t)
      (cases_Bool (is_over (states n)))

  ended_grows : (n j : ℕ) → Counts n j → line.ended j n ≤ line.ended j (suc n)
  ended_grows n j (inl e) = omega (arith, e)
  ended_grows n j (inr e) = omega (arith, e.0)

  and_false : (b c : Bool) → c ≡ false → one_if (b && c) ≡ 0
  and_false true c e = ap one_if e
  and_false false c e = refl

  and_true : (b c : Bool) → c ≡ true → one_if (b && c) ≡ one_if b
  and_true true c e = ap one_if e
  and_true false c e = refl

  not_served : (n j m : ℕ) → (line.ended j n ≡ m → ⊥) → served line j m (suc n) ≡ served line j m n
  not_served n j m ne =
      let z : one_if (is_task j (line.serves n) && (eqb (line.ended j n) m)) ≡ 0 = and_false (is_task j (line.serves n)) (eqb (line.ended j n) m) (ne_eqb (line.ended j n) m ne) in
      omega (arith, z)

  -- what is left of what each job has had
  had_next : (n j : ℕ) → j < length p.tasks → (t : Through n) → (left : ℕ → ℕ) →
      CountsJob rule order passes p content inputs requests own runs scripts policy keep q o periods scopings loads are ((states n).now + 1)
      (states n).sched (states (suc n)).sched (more (line.serves n) (had_by n)) left j → had_by (suc n) j ≡ left j
  had_next n j lt t left (inl same) =
      let e : line.ended j (suc n) ≡ line.ended j n = same.0 in
      let z : one_if (is_task j (line.serves n) && (eqb (line.ended j n) (line.ended j n))) ≡ one_if (is_task j (line.serves n)) =
      and_true (is_task j (line.serves n)) _ (eq-eqb (line.ended j n) (line.ended j n) refl) in
      ap (λ m. served line j m (suc n)) e ∙ ap (λ m. served line j (line.ended j n) n + m) z ∙ sym same.1
  had_next n j lt t left (inr one) =
      let e : line.ended j (suc n) ≡ line.ended j n + 1 = one.0 in
      ap (λ m. served line j m (suc n)) e ∙ not_served n j (line.ended j n + 1) (λ x. omega (arith, x)) ∙ t.unserved j (line.ended j n + 1) lt (omega arith) ∙ sym one.1

  -- the accounts look at the tasks alone
  current_same : (now : ℕ) (h h' : ℕ → ℕ) (a : ℕ → ℕ) (s : MachineState) (m : Mode) → ((j : ℕ) → j < length p.tasks → h' j ≡ h j) →
      Booked p.plant (length p.tasks) runs scripts order scopings all_tasks line now h a (lines_in s.work.cache)
      s.sched m s.core.interval s.core.mark s.core.debt →
      Booked p.plant (length p.tasks) runs scripts order scopings all_tasks line now h' a (lines_in s.work.cache)
      s.sched m s.core.interval s.core.mark s.core.debt
  current_same now h h' a s Point e b = record { current = b.current; held = λ j lt out. omega (arith, e j lt, b.held j lt out); fresh = b.fresh }
  current_same now h h' a s (Switching k left) e b =
      let i : InSwitch p.plant (length p.tasks) runs scripts order scopings all_tasks line now h a s.sched k left = b.current.0 in
      record {
        current = (record { since = i.since; lasts = i.lasts; has_had = omega (arith, e k i.since.there, i.has_had) }, b.current.1);
        held = λ j lt out. omega (arith, e j lt, b.held j lt out);
        fresh = b.fresh;
      }
  current_same now h h' a s (Running k) e b =
      let i : InRun p.plant (length p.tasks) runs scripts order scopings all_tasks line now h a (lines_in s.work.cache) s.sched k s.core.interval s.core.mark s.core.debt = b.current in
      record {
        current = record {
          since = i.since;
          lasts = i.lasts;
          credit = i.credit;
          backed = i.backed;
          over = i.over;
          pace = i.pace;
          has_had = subst (λ n. HasHad p.plant (length p.tasks) runs scripts order scopings all_tasks line s.core.interval.predictable s.core.mark now
              (owed_of s.core.debt) i.credit s.core.interval.first s.core.interval.stated n
              (kept_at p.plant (length p.tasks) runs scripts order scopings all_tasks line a k)
              (job_at p.plant (length p.tasks) runs scripts order scopings all_tasks line a k) (all_tasks.cost k)) (sym (e k i.since.there)) i.has_had;
        };
        held = λ j lt out. omega (arith, e j lt, b.held j lt out);
        fresh = b.fresh;
      }
  current_same now h h' a s (Idle until) e b = record { current = b.current; held = λ j lt out. omega (arith, e j lt, b.held j lt out); fresh = b.fresh }

  next_booked : (n : ℕ) → Through n → is_over (states (suc n)) ≡ false → IsBooked (states (suc n)).now (had_by (suc n)) (issued (suc n)) (states (suc n))
  next_booked n t on' =
      ⊎_elim (λ (over : is_over (states n) ≡ true). let x : false ≡ true = sym on' ∙ ap is_over (over_stays n over) ∙ over in absurd cc)
      (λ (on : is_over (states n) ≡ false).
      let c : Settled rule order passes p content inputs requests own runs scripts policy keep q o periods scopings loads are
      (more (line.serves n) (had_by n)) (states n).sched (issued (suc n)) ((states n).now + 1) (states (suc n)) = next_settled n t on in
      current_same (states (suc n)).now c.left (had_by (suc n)) (issued (suc n)) (states (suc n)) (states (suc n)).core.mode (λ j lt. had_next n j lt t c.left (c.counts j lt)) c.booked)
      (cases_Bool (is_over (states n)))

  counted_next : (n j : ℕ) → j < length p.tasks → line.ended j n ≤ released_before all_tasks j n → Counts n j → line.ended j (suc n) ≤ released_before all_tasks j (suc n)
  counted_next n j lt was (inl e) = let g : released_before all_tasks j n ≤ released_before all_tasks j (suc n) =
      released_grows all_tasks j n (suc n) (some j lt) (omega arith) in omega (arith, e, was, g)
  counted_next n j lt was (inr e) = omega (arith, e.0, e.1)

  next_intervals : (n : ℕ) → Through n → All (LastsWithin p.plant loads) (states (suc n)).log.intervals
  next_intervals n t =
      ⊎_elim (λ (over : is_over (states n) ≡ true). subst (λ (s : MachineState). All (LastsWithin p.plant loads) s.log.intervals) (sym (over_stays n over)) t.intervals)
      (λ (on : is_over (states n) ≡ false). (next_settled n t on).intervals)
      (cases_Bool (is_over (states n)))

  next_through : (n : ℕ) → Through n → Through (suc n)
  next_through n t = record {
    booked = next_booked n t;
    unserved = λ j m lt less.
        let g : line.ended j n ≤ line.ended j (suc n) = ended_grows n j (counts n j lt t) in
        not_served n j m (λ e. omega (arith, e, g, less)) ∙ t.unserved j m lt (omega (arith, g, less));
    counted = λ j lt. counted_next n j lt (t.counted j lt) (counts n j lt t);
    intervals = next_intervals n t;
  }

  through : (n : ℕ) → Through n
  through zero = first_through
  through (suc n) = next_through n (through n)

  -- ---- a state that has stopped

  over_finishes : (n : ℕ) → is_over (states n) ≡ true → ((states n).core.mode ≡ Point) × (choice (states n).now (states n).sched ≡ Finished)
  over_finishes n over =
      finished_point (states n).now (states n).sched (states n).core.mode
      (over_finished rule order passes p content inputs requests own runs scripts policy keep q o periods scopings (λ k lt. (are.each k lt).scoped) total (λ k lt. omega arith) n outs ints over)

  over_serves : (n : ℕ) → is_over (states n) ≡ true → line.serves n ≡ None
  over_serves n over = let f = over_finishes n over in ap (serves_in (states n).now (states n).sched) f.0 ∙ ap chosen_task f.1

  over_ended : (n j : ℕ) → is_over (states n) ≡ true → j < length p.tasks → all_tasks.jobs j ≤ line.ended j n
  over_ended n j over lt =
      let g : Schedules p runs (issued n) (states n).sched (states n).core.mode (states n).core.mark = schedules n in
      let done : (task_at (states n).sched j).jobs ≤ (task_at (states n).sched j).ended =
      finished_done (states n).now (states n).sched (over_finishes n over).1 j no_task (omega (arith, lt, g.count)) in
      omega (arith, done, g.jobs j lt, (o.runs_are j lt).jobs)

  -- ---- who is served

  released_later : (k a b : ℕ) → k < length p.tasks → a ≤ b → released all_tasks k a ≤ released all_tasks k b
  released_later k a b lt le =
      let g : released_before all_tasks k (suc a) ≤ released_before all_tasks k (suc b) = released_grows all_tasks k (suc a) (suc b) (some k lt) (omega (arith, le)) in
      omega (arith, g, released_next all_tasks k a (some k lt), released_next all_tasks k b (some k lt))

  from_since : (t k : ℕ) (c : Since all_tasks line (length p.tasks) (states t).now (states t).sched k) → (states t).now ≡ t →
      (states t).now ≤ c.chosen + all_tasks.longest k → IsServed all_tasks line k t
  from_since t k c e lasts = record {
    there = omega (arith, c.there, are.count);
    ready = omega (arith, c.ready, c.same k c.there, released_later k c.chosen t c.there (omega (arith, c.before, e)));
    chosen = c.chosen;
    before = omega (arith, c.before, e);
    lasts = omega (arith, lasts, e);
    first = c.first;
  }

  chosen_run : (c : Choice) (k : ℕ) → chosen_task c ≡ Some k → c ≡ Run k
  chosen_run (Run j) k e = let same : j ≡ k = cc in ap Run same
  chosen_run (Rest until) k e = absurd (let x : None ≡ Some k = e in cc)
  chosen_run Finished k e = absurd (let x : None ≡ Some k = e in cc)

  -- an interval lasts no longer than the longest one
  module _ (t k : ℕ) (lt : k < length p.tasks) (on : is_over (states t) ≡ false) where
    abbrev IsIn : Change → Type 0
    IsIn mark = Issued mark (phase_at runs (issued t) k) (call_of (scripts k) (begun_at runs (issued t) k)).stated (begun_at runs (issued t) k).steps (states t).core.interval

    abbrev IsInTime : Change → Type 0
    IsInTime mark = InTime order p.plant mark (states t).now (owed_of (states t).core.debt) (states t).core.interval (begun_at runs (issued t) k).steps (lines_in (states t).work.cache)

    abbrev call_stated : ℕ
    call_stated = (call_of (scripts k) (begun_at runs (issued t) k)).stated

    abbrev charge : Charges
    charge = charges_by p.plant (runs k) (scopings k)

    some_cycle : (n : ℕ) (d : Did) → 1 ≤ charge n d
    some_cycle n d = some_charge p.plant (scopings k n) (scope_at (runs k) (scopings k) n) d

    charged : IsCharged p.plant (runs k) (scripts k) charge (all_tasks.cost k) (all_tasks.longest k)
    charged = (are.each k lt).charged

    fits : IsInTime Stay → (states t).now + owed_of (states t).core.debt ≤ (states t).core.interval.first + call_stated
    fits y =
        let c : Call = call_of (scripts k) (begun_at runs (issued t) k) in
        let kn : KnownCore p own runs (issued t) (states t) = known_core rule order passes p content inputs requests own runs scripts policy keep q o (issued t) (states t) (knows t) in
        let sets : length (lines_in (states t).work.cache) ≡ p.plant.sets = sets_are rule order passes p own runs scripts policy keep (states t).work kn.position.stands.kept in
        let is : IsPlant p.plant = kept_plant p (states t).work.cache (states t).work.memory kn.position.stands.kept in
        let pos : 1 ≤ p.plant.sets = is.sets.0 in
        paced_fits order p.plant (states t).now (owed_of (states t).core.debt) (states t).core.interval.first c (begun_at runs (issued t) k).steps
        (lines_in (states t).work.cache) policy.once (omega (arith, pos, sets))
        (subst (λ n. HaveRoom n p.plant.ways c.members) (sym sets) ((keep k lt).room _)) (in_script p.plant passes (runs k) (scripts k) (keep k lt) (issued t k)) y.1 y.0

    within : (b : Bool) (mark : Change) (credit : ℕ) → (states t).core.interval.predictable ≡ b → IsIn mark →
        (b ≡ false → InStretch p.plant (length p.tasks) runs scripts order scopings all_tasks line mark (states t).now (owed_of (states t).core.debt)
        credit (states t).core.interval.first (stretch_at p.plant (length p.tasks) runs scripts order scopings all_tasks line (issued t) k)
        (all_tasks.longest k)) →
        (b ≡ true → IsInTime mark) → (states t).now + p.plant.switch ≤ (states t).core.interval.first + all_tasks.longest k
    within false Stay credit e x pace time = omega (arith, pace refl, stretch_most p.plant (scripts k) (runs k) charge (all_tasks.cost k) (all_tasks.longest k) some_cycle charged (issued t k))
    within false (Execute l) credit e x pace time = omega (arith, pace refl, stretch_most p.plant (scripts k) (runs k) charge (all_tasks.cost k) (all_tasks.longest k) some_cycle charged (issued t k))
    within false Memory credit e x pace time = omega (arith, pace refl)
    within false Job credit e x pace time = omega (arith, pace refl)
    within false End credit e x pace time = absurd (let z : true ≡ false = sym x.0 ∙ e in cc)
    within true Stay credit e x pace time = omega (arith, fits (time refl), charged.calls ((begun_at runs (issued t) k).calls - 1))
    within true (Execute l) credit e x pace time = omega (arith, fits (time refl), charged.calls ((begun_at runs (issued t) k).calls - 1))
    within true End credit e x pace time =
        let y : (states t).now + owed_of (states t).core.debt ≤ (states t).core.interval.first + (states t).core.interval.stated = time refl in
        omega (arith, y, x.2, charged.calls ((begun_at runs (issued t) k).calls - 1))
    within true Memory credit e x pace time = absurd (let z : false ≡ true = sym x.0 ∙ e in cc)
    within true Job credit e x pace time = absurd (let z : false ≡ true = sym x.0 ∙ e in cc)

    -- ---- a job that isn't over

    left : (plain_run (runs k) (issued t k)).ended < (runs k).jobs → job_at p.plant (length p.tasks) runs scripts order scopings all_tasks line (issued t) k + (1 + p.plant.switch) ≤ all_tasks.cost k
    left less =
        let ends : (runs k).jobs ≤ (plain_run (runs k) (scripts k).count).ended = omega (arith, (keep k lt).ends) in
        job_left p.plant (scripts k) (runs k) charge (all_tasks.cost k) (all_tasks.longest k) some_cycle charged (issued t k) (scripts k).count less
        (λ n le. subst (λ (x : PlainState). (runs k).jobs ≤ x.ended) (sym (behind_end (runs k) (scripts k).count n ends le)) ends)

    kept_of : (ph : Phase) (stated : ℕ) → is_predictable ph ≡ true → kept_by p.plant.switch ph stated ≡ stated + p.plant.switch
    kept_of Compatible stated e = absurd (let x : false ≡ true = e in cc)
    kept_of MemoryPhase stated e = refl
    kept_of Execution stated e = refl

    owes : (mark : Change) → (is_paid (states t).core.debt && ends_before (states t).now (states t).core.interval mark) ≡ false →
        ends_before (states t).now (states t).core.interval mark ≡ true → 1 ≤ owed_of (states t).core.debt
    owes mark on e =
        ⊎_elim (λ (unpaid : is_paid (states t).core.debt ≡ false). unpaid_owes (states t).core.debt unpaid
        (run_lasts rule order passes p content inputs requests own runs scripts policy keep q o t).clock.positive)
        (λ (out : ends_before (states t).now (states t).core.interval mark ≡ false). let x : true ≡ false = sym e ∙ out in absurd cc)
        (not_both (is_paid (states t).core.debt) (ends_before (states t).now (states t).core.interval mark) on)

    goes_less : (h0 cost : ℕ) → (goes : Goes (phase_at runs (issued t) k) call_stated (states t).core.interval) →
        (states t).core.interval.predictable ≡ true → IsInTime Stay →
        job_at p.plant (length p.tasks) runs scripts order scopings all_tasks line (issued t) k + (1 + p.plant.switch) ≤ cost →
        h0 + (states t).core.interval.first + kept_at p.plant (length p.tasks) runs scripts order scopings all_tasks line (issued t)
        k ≤ p.plant.switch + job_at p.plant (length p.tasks) runs scripts order scopings all_tasks line (issued t) k + (states t).now → h0 < cost
    goes_less h0 cost goes e time le h =
        let z : kept_at p.plant (length p.tasks) runs scripts order scopings all_tasks line (issued t) k ≡ call_stated + p.plant.switch =
        kept_of (phase_at runs (issued t) k) call_stated (goes.kind ∙ e) in
        omega (arith, fits time, z, le, h)

    own_less : (h0 credit : ℕ) (b : Bool) (mark : Change) → (states t).core.interval.predictable ≡ b → IsIn mark →
        (is_paid (states t).core.debt && ends_before (states t).now (states t).core.interval mark) ≡ false → (b ≡ true → IsInTime mark) →
        (ends_job mark ≡ 0 → job_at p.plant (length p.tasks) runs scripts order scopings all_tasks line (issued t) k + (1 + p.plant.switch)
        ≤ all_tasks.cost k) →
        HasHad p.plant (length p.tasks) runs scripts order scopings all_tasks line b mark (states t).now (owed_of (states t).core.debt) credit
        (states t).core.interval.first (states t).core.interval.stated h0
        (kept_at p.plant (length p.tasks) runs scripts order scopings all_tasks line (issued t) k)
        (job_at p.plant (length p.tasks) runs scripts order scopings all_tasks line (issued t) k) (all_tasks.cost k) → h0 < all_tasks.cost k
    own_less h0 credit false Stay e x on time le h = omega (arith, le refl, h)
    own_less h0 credit false (Execute l) e x on time le h = omega (arith, le refl, h)
    own_less h0 credit false Memory e x on time le h = omega (arith, le refl, h)
    own_less h0 credit false Job e x on time le h = omega (arith, h, owes Job on refl)
    own_less h0 credit false End e x on time le h = absurd (let z : true ≡ false = sym x.0 ∙ e in cc)
    own_less h0 credit true Stay e x on time le h = goes_less h0 (all_tasks.cost k) x e (time refl) (le refl) h
    own_less h0 credit true (Execute l) e x on time le h = goes_less h0 (all_tasks.cost k) x e (time refl) (le refl) h
    own_less h0 credit true End e x on time le h =
        let y : (states t).now + owed_of (states t).core.debt ≤ (states t).core.interval.first + (states t).core.interval.stated = time refl in
        omega (arith, y, le refl, h)
    own_less h0 credit true Memory e x on time le h = absurd (let z : false ≡ true = sym x.0 ∙ e in cc)
    own_less h0 credit true Job e x on time le h = absurd (let z : false ≡ true = sym x.0 ∙ e in cc)

  abbrev BookedIn : ℕ → Mode → Type 0
  BookedIn t m = Booked p.plant (length p.tasks) runs scripts order scopings all_tasks line (states t).now (had_by t) (issued t)
      (lines_in (states t).work.cache) (states t).sched m (states t).core.interval (states t).core.mark (states t).core.debt

  served_by : (t k : ℕ) → is_over (states t) ≡ false → (m : Mode) → (states t).core.mode ≡ m → BookedIn t m → serves_in (states t).now (states t).sched m ≡ Some k → IsServed all_tasks line k t
  served_by t k on Point e b h =
      let now : (states t).now ≡ t = run_of-now rule p content inputs requests t on in
      let run : choice (states t).now (states t).sched ≡ Run k = chosen_run (choice (states t).now (states t).sched) k h in
      let c : Since all_tasks line (length p.tasks) ((states t).now + 1) (states t).sched k = chooses_since all_tasks line (length p.tasks) (states t).now (states t).sched k (reads t on) run in
      let ready : IsReady all_tasks line k c.chosen = c.ready in
      record {
        there = omega (arith, c.there, are.count);
        ready = omega (arith, ready, c.same k c.there, released_later k c.chosen t c.there (omega (arith, now, c.before)));
        chosen = c.chosen;
        before = omega (arith, c.before, now);
        lasts = (let x : c.chosen ≡ (states t).now = refl in omega (arith, x, now));
        first = c.first;
      }
  served_by t k on (Switching j left) e b h =
      let same : j ≡ k = (let x : Some j ≡ Some k = h in cc) in
      let i : InSwitch p.plant (length p.tasks) runs scripts order scopings all_tasks line (states t).now (had_by t) (issued t) (states t).sched j left = b.current.0 in
      subst (λ n. IsServed all_tasks line n t) same
      (from_since t j i.since (run_of-now rule p content inputs requests t on) (omega (arith, i.lasts, (are.each j i.since.there).charged.calls 0)))
  served_by t k on (Running j) e b h =
      let same : j ≡ k = (let x : Some j ≡ Some k = h in cc) in
      let i : InRun p.plant (length p.tasks) runs scripts order scopings all_tasks line (states t).now (had_by t) (issued t)
      (lines_in (states t).work.cache) (states t).sched j (states t).core.interval (states t).core.mark (states t).core.debt = b.current in
      let l = run_lasts rule order passes p content inputs requests own runs scripts policy keep q o t in
      let ke = run_keeps rule order passes p content inputs requests own runs scripts policy keep q o t in
      subst (λ n. IsServed all_tasks line n t) same
      (from_since t j i.since (run_of-now rule p content inputs requests t on)
      (omega (arith, i.lasts, within t j i.since.there on (states t).core.interval.predictable (states t).core.mark i.credit refl (ke.resides.runs_in j e).issued i.pace (l.clock.in_time j e))))
  served_by t k on (Idle until) e b h = absurd (let x : None ≡ Some k = h in cc)

  -- the interval in which the core stands
  runs_within : (t : ℕ) → RunsWithin p.plant loads (states t)
  runs_within t k run none =
      ⊎_elim (λ (over : is_over (states t) ≡ true). absurd (let x : Point ≡ Running k = sym (over_finishes t over).0 ∙ run in cc))
      (λ (on : is_over (states t) ≡ false).
      let b : BookedIn t (Running k) = subst (BookedIn t) run ((through t).booked on) in
      let l = run_lasts rule order passes p content inputs requests own runs scripts policy keep q o t in
      let ke = run_keeps rule order passes p content inputs requests own runs scripts policy keep q o t in
      omega (
        arith,
        within t k b.current.since.there on (states t).core.interval.predictable (states t).core.mark b.current.credit refl
            (ke.resides.runs_in k run).issued b.current.pace (l.clock.in_time k run),
      ))
      (cases_Bool (is_over (states t)))

  serves_means : (t k : ℕ) → line.serves t ≡ Some k → IsServed all_tasks line k t
  serves_means t k h =
      ⊎_elim (λ (over : is_over (states t) ≡ true). absurd (let x : None ≡ Some k = sym (over_serves t over) ∙ h in cc))
      (λ (on : is_over (states t) ≡ false). served_by t k on (states t).core.mode refl ((through t).booked on) h)
      (cases_Bool (is_over (states t)))

  -- ---- who isn't

  none_waits : (t k : ℕ) → is_over (states t) ≡ false → k < length p.tasks → IsReady all_tasks line k t → NoneReady (states t).now (states t).sched → ⊥
  none_waits t k on lt ready none =
      let now : (states t).now ≡ t = run_of-now rule p content inputs requests t on in
      let r : Reads all_tasks line (length p.tasks) (states t).now (states t).sched = reads t on in
      let y : line.ended k (states t).now < released all_tasks k (states t).now = subst (λ v. line.ended k v < released all_tasks k v) (sym now) ready in
      none k (omega (arith, lt, r.count), ready_then all_tasks line (length p.tasks) (states t).now (states t).now (states t).sched k r lt (omega (arith, y, r.ended k lt)))

  rests_choice : (t : ℕ) → is_over (states t) ≡ false → (states t).core.mode ≡ Point → (c : Choice) → choice (states t).now (states t).sched ≡ c →
      chosen_task c ≡ None → NoneReady (states t).now (states t).sched
  rests_choice t on e (Run k) h none = absurd (let x : Some k ≡ None = none in cc)
  rests_choice t on e (Rest until) h none =
      let r : Reads all_tasks line (length p.tasks) (states t).now (states t).sched = reads t on in
      idle_none (states t).now (states t).sched until r.periods h (states t).now (rest_until (states t).now (states t).sched until r.periods h).0
  rests_choice t on e Finished h none = absurd (not_finished (states t) (first_no (is_finished (states t)) (is_some (states t).trapped) (is_full (states t)) on) e h)

  rests_by : (t : ℕ) → is_over (states t) ≡ false → (m : Mode) → (states t).core.mode ≡ m → BookedIn t m →
      serves_in (states t).now (states t).sched m ≡ None → NoneReady (states t).now (states t).sched
  rests_by t on Point e b h = rests_choice t on e (choice (states t).now (states t).sched) refl h
  rests_by t on (Switching j left) e b h = absurd (let x : Some j ≡ None = h in cc)
  rests_by t on (Running j) e b h = absurd (let x : Some j ≡ None = h in cc)
  rests_by t on (Idle until) e b h =
      let timed = run_timed rule order passes p content inputs requests own runs scripts policy keep q o periods scopings (λ k lt. (are.each k lt).scoped) total (λ k lt. omega arith) t in
      let spent = subst (λ m. Spent p.plant (length p.tasks) runs scripts order scopings 0 (states t).now (last_release p.tasks) timed.off (issued t)
      (lines_in (states t).work.cache) m (states t).core.interval (states t).core.mark (states t).core.debt) e timed.timed.spent in
      b.current.0 (states t).now (let y : (states t).now < until + 0 = spent.time.2 in omega arith)

  rests_means : (t : ℕ) → line.serves t ≡ None → (k : ℕ) → k < length p.tasks → IsReady all_tasks line k t → ⊥
  rests_means t h k lt ready =
      ⊎_elim (λ (over : is_over (states t) ≡ true). omega (arith, over_ended t k over lt, ready))
      (λ (on : is_over (states t) ≡ false). none_waits t k on lt ready (rests_by t on (states t).core.mode refl ((through t).booked on) h))
      (cases_Bool (is_over (states t)))

  -- ---- what each job has had

  module _ (t k : ℕ) (lt : k < length p.tasks) (less : line.ended k t < all_tasks.jobs k) (on : is_over (states t) ≡ false) where
    unended : (m : Mode) → (states t).core.mode ≡ m → uncounted m (states t).core.mark k ≡ 0 → (plain_run (runs k) (issued t k)).ended < (runs k).jobs
    unended m e none =
        let g : Schedules p runs (issued t) (states t).sched m (states t).core.mark = subst (λ m. Schedules p runs (issued t) (states t).sched m (states t).core.mark) e (schedules t) in
        omega (arith, g.ended k lt, none, less, (o.runs_are k lt).jobs)

    held_less : (m : Mode) → (states t).core.mode ≡ m → uncounted m (states t).core.mark k ≡ 0 →
        had_by t k + kept_at p.plant (length p.tasks) runs scripts order scopings all_tasks line (issued t) k ≤ job_at p.plant (length p.tasks)
        runs scripts order scopings all_tasks line (issued t) k → had_by t k < all_tasks.cost k
    held_less m e none h = omega (arith, h, left t k lt on (unended m e none))

    had_less : (m : Mode) → (states t).core.mode ≡ m → BookedIn t m → had_by t k < all_tasks.cost k
    had_less Point e b = held_less Point e refl (b.held k lt (λ y. y))
    had_less (Idle until) e b = held_less (Idle until) e refl (b.held k lt (λ y. y))
    had_less (Switching j n) e b =
        ⊎_elim (λ (same : k ≡ j).
        let i : InSwitch p.plant (length p.tasks) runs scripts order scopings all_tasks line (states t).now (had_by t) (issued t) (states t).sched k n =
        subst (λ u. InSwitch p.plant (length p.tasks) runs scripts order scopings all_tasks line (states t).now (had_by t) (issued t) (states t).sched u n) (sym same) b.current.0 in
        omega (arith, i.has_had, left t k lt on (unended (Switching j n) e refl)))
        (λ (ne : k ≡ j → ⊥). held_less (Switching j n) e refl (b.held k lt ne))
        (cases_eq k j)
    had_less (Running j) e b =
        ⊎_elim (λ (same : k ≡ j).
        let i : InRun p.plant (length p.tasks) runs scripts order scopings all_tasks line (states t).now (had_by t) (issued t)
        (lines_in (states t).work.cache) (states t).sched k (states t).core.interval (states t).core.mark (states t).core.debt =
        subst (λ u. InRun p.plant (length p.tasks) runs scripts order scopings all_tasks line (states t).now (had_by t) (issued t)
        (lines_in (states t).work.cache) (states t).sched u (states t).core.interval (states t).core.mark (states t).core.debt) (sym same) b.current in
        let run : (states t).core.mode ≡ Running k = e ∙ ap (λ u. Running u) (sym same) in
        let l = run_lasts rule order passes p content inputs requests own runs scripts policy keep q o t in
        let ke = run_keeps rule order passes p content inputs requests own runs scripts policy keep q o t in
        own_less t k lt on (had_by t k) i.credit (states t).core.interval.predictable (states t).core.mark refl (ke.resides.runs_in k run).issued (l.goes_on k run) (l.clock.in_time k run)
        (λ none. left t k lt on (unended (Running k) run (uncounted_same k (states t).core.mark ∙ none))) i.has_had)
        (λ (ne : k ≡ j → ⊥). held_less (Running j) e (uncounted_other j k (states t).core.mark ne) (b.held k lt ne))
        (cases_eq k j)

  unfinished_less : (k t : ℕ) → k < length p.tasks → line.ended k t < all_tasks.jobs k → had_by t k < all_tasks.cost k
  unfinished_less k t lt less =
      ⊎_elim (λ (over : is_over (states t) ≡ true). absurd (omega (arith, over_ended t k over lt, less)))
      (λ (on : is_over (states t) ≡ false). had_less t k lt less on (states t).core.mode refl ((through t).booked on))
      (cases_Bool (is_over (states t)))

  that_task : (k : ℕ) (o : Option ℕ) → is_task k o ≡ true → o ≡ Some k
  that_task k None e = absurd (let x : false ≡ true = e in cc)
  that_task k (Some j) e = ap Some (sym (eqb-true k j e))

  served_most : (k m t : ℕ) → k < length p.tasks → served line k m t ≤ all_tasks.cost k
  served_most k m zero lt = omega arith
  served_most k m (suc t) lt =
      let was : served line k m t ≤ all_tasks.cost k = served_most k m t lt in
      ⊎_elim (λ (yes : (is_task k (line.serves t) && (eqb (line.ended k t) m)) ≡ true).
      let parts : (is_task k (line.serves t) ≡ true) × (eqb (line.ended k t) m ≡ true) = and_parts (is_task k (line.serves t)) (eqb (line.ended k t) m) yes in
      let r : IsServed all_tasks line k t = serves_means t k (that_task k (line.serves t) parts.0) in
      let ready : line.ended k t < released all_tasks k t = r.ready in
      let h : served line k (line.ended k t) t < all_tasks.cost k = unfinished_less k t lt (omega (arith, ready)) in
      let z : one_if (is_task k (line.serves t) && (eqb (line.ended k t) m)) ≡ 1 = ap one_if yes in
      let h' : served line k m t < all_tasks.cost k = subst (λ n. served line k n t < all_tasks.cost k) (eqb-true (line.ended k t) m parts.1) h in
      omega (arith, h', z))
      (λ (no : (is_task k (line.serves t) && (eqb (line.ended k t) m)) ≡ false). let z : one_if (is_task k (line.serves t) && (eqb (line.ended k t) m)) ≡ 0 = ap one_if no in omega (arith, was, z))
      (cases_Bool (is_task k (line.serves t) && (eqb (line.ended k t) m)))

  -- ---- the schedule

  there : (k : ℕ) → k < length loads → k < length p.tasks
  there k lt = omega (arith, lt, are.count)

  is_schedule : IsSchedule all_tasks line
  is_schedule = record {
    periods = λ k lt. some k (there k lt);
    serves = serves_means;
    rests = λ t h k lt ready. rests_means t h k (there k lt) ready;
    grows = λ k t lt. ended_grows t k (counts t k (there k lt) (through t));
    counted = λ k t lt. (through t).counted k (there k lt);
    most = λ k m t lt. served_most k m t (there k lt);
    unfinished = λ k t lt less. unfinished_less k t (there k lt) less;
  }

pub scripts_meet_deadlines : ScriptsMeetDeadlines
scripts_meet_deadlines rule order passes p content inputs requests own runs scripts scopings loads i cycles policy run is are lt balanced le job n left late =
    let period : (load_at loads i).period ≡ (record_of p i).period = (are.each i lt).period in
    jobs_end_in_time (tasks rule order passes p content inputs requests own runs scripts policy is.each run.runnable is.own_runs run.periods scopings loads are)
    (timeline rule order passes p content inputs requests own runs scripts policy is.each run.runnable is.own_runs run.periods scopings loads are) i cycles
    (is_schedule rule order passes p content inputs requests own runs scripts policy is.each run.runnable is.own_runs run.periods scopings loads are is.outputs is.intervals)
    (lengths_are_enough loads (λ k. (record_of p k).jobs) i cycles (omega (arith, lt, are.count)) balanced (omega (arith, le, period)))
    job n left (subst (λ m. job * m + cycles ≤ n) (sym period) late)

pub scripts_keep_charges : ScriptsKeepCharges
scripts_keep_charges rule order passes p content inputs requests own runs scripts scopings loads n policy run is are = (
  (through rule order passes p content inputs requests own runs scripts policy is.each run.runnable is.own_runs run.periods scopings loads are is.outputs is.intervals n).intervals,
  runs_within rule order passes p content inputs requests own runs scripts policy is.each run.runnable is.own_runs run.periods scopings loads are is.outputs is.intervals n,
  λ k job lt. served_most rule order passes p content inputs requests own runs scripts policy is.each run.runnable is.own_runs run.periods scopings loads are is.outputs is.intervals k job n lt,
)
