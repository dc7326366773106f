-- A run of one task without devices finishes in time.
use Rattle.std.proofs.Common.{◌≡◌, ℕ, zero, suc, ◌+◌, ◌-◌, ◌*◌, ◌<◌, ◌≤◌, refl, ap, ◌∙◌, sym, subst, arith, leb, None, true, false, Bool, List, [], ◌∷◌, length, get_or, ⊎_elim}
use Rattle.std.specs.Prelude.{◌||◌, is_some}
use Rattle.prem_cycle.proofs.Prelude.{arrivals_at, bus_at, core_at, is_finish, is_finished_in, is_finished, output_count, log_size, is_full, is_over, cycle_of, memory_of, run_of, lone}
use Rattle.prem_cycle.proofs.Prelude.{run_alone, IsLone, finish_of, EndsIn, FinishedAs, FinishesInTime, FinishesOneJob, issued_of, AreOwn, IsRunnable, Setup, no_record, first_task, Task}
use Rattle.prem_cycle.proofs.Prelude.{Debt, MachineState, start_of, task_in, Mode, Point, Switching, Running, Idle, TaskRecord, greatest_cost, TaskRun, PlainState, is_running, plain_start}
use Rattle.prem_cycle.proofs.Prelude.{plain_run, plain_trace, Change, Stay, Memory, Execute, End, Job, ReplacementRule, IsRule, Plant, choice, no_task, task_at, IsDone, Choice, Run}
use Rattle.prem_cycle.proofs.Prelude.{Finished, TaskJobs, cases_Bool, lt-leb, mul-le}
use Rattle.prem_cycle.proofs.CycleParts.{cycle_trapped, cycle_goes}
use Rattle.prem_cycle.proofs.RunLaws.{cycles_of-next, step_of-goes}
use Rattle.prem_cycle.proofs.RunsLemmas.PositionLemmas.Clocks.{begun_in, Waiting, finish_done}
use Rattle.prem_cycle.proofs.RunsLemmas.PositionLemmas.Dues.{dues_of, dues_grow, dues_at_most, grows}
use Rattle.prem_cycle.proofs.RunsLemmas.PositionLemmas.Lone.{all_whole, later_same, stopped, ends_never, lone_runnable, lone_own}
use Rattle.prem_cycle.proofs.RunsLemmas.PositionLemmas.Positions.{run_stands}
use Rattle.prem_cycle.proofs.RunsLemmas.PositionLemmas.Runs.{AllAt}
use Rattle.prem_cycle.proofs.RunsLemmas.PositionLemmas.Schedules.{Schedules}
use Rattle.prem_cycle.proofs.RunsLemmas.PositionLemmas.Settles.{Timed, run_timed}
use Rattle.prem_cycle.proofs.Time.{run_of-now}
use Rattle.prem_sched.specs.declared.sched.Choice.TheVariants.{Idle as Rest}

-- ---- the switches that have begun are at most the jobs

begun_most : (p : Setup) (runs : ℕ → TaskRun) (at : ℕ → ℕ) (sched : List TaskJobs) (now last : ℕ) (mode : Mode) (mark : Change) (d : Debt) →
    length p.tasks ≡ 1 → Schedules p runs at sched mode mark → Waiting now last mode mark d → (plain_run (runs 0) (at 0)).ended ≤ (runs 0).jobs →
    begun_in mode (task_at sched 0).ended ≤ (runs 0).jobs
begun_most p runs at sched now last Point mark d one s w le = omega (arith, s.ended 0 (omega arith))
begun_most p runs at sched now last (Idle until) mark d one s w le = omega (arith, s.ended 0 (omega arith))
begun_most p runs at sched now last (Switching zero left) mark d one s w le = omega (arith, s.ended 0 (omega arith), s.going.left)
begun_most p runs at sched now last (Switching (suc k) left) mark d one s w le = absurd (omega (arith, s.going.bound))
begun_most p runs at sched now last (Running zero) Stay d one s w le = omega (arith, s.ended 0 (omega arith), s.going.left)
begun_most p runs at sched now last (Running (suc k)) Stay d one s w le = absurd (omega (arith, s.going.bound))
begun_most p runs at sched now last (Running zero) Job d one s w le = omega (arith, s.ended 0 (omega arith))
begun_most p runs at sched now last (Running (suc k)) Job d one s w le = absurd (omega (arith, s.going))
begun_most p runs at sched now last (Running k) Memory d one s w le = absurd w
begun_most p runs at sched now last (Running k) (Execute stated) d one s w le = absurd w
begun_most p runs at sched now last (Running k) End d one s w le = absurd w

-- ---- no log is full

one_task : (tasks : List Task) (d : Task) → length tasks ≡ 1 → output_count tasks ≡ length (get_or tasks 0 d).outputs
one_task [] d h = absurd (omega arith)
one_task (t ∷ []) d h = omega arith
one_task (t ∷ u ∷ ts) d h = absurd (omega arith)

both_small : (most a b : ℕ) → a < most → b < most → (leb most a || leb most b) ≡ false
both_small most a b x y = ap (λ t. t || leb most b) (lt-leb most a x) ∙ lt-leb most b y

-- ---- finished

pub finished_point : (now : ℕ) (sched : List TaskJobs) (mode : Mode) → is_finished_in now sched mode ≡ true → (mode ≡ Point) × (choice now sched ≡ Finished)
finished_point now sched Point h = (refl, by (choice now sched) h) where
  by : (c : Choice) → is_finish c ≡ true → c ≡ Finished
  by (Run k) e = absurd (let x : false ≡ true = e in cc)
  by (Rest until) e = absurd (let x : false ≡ true = e in cc)
  by Finished e = refl
finished_point now sched (Switching k left) h = absurd (let x : false ≡ true = h in cc)
finished_point now sched (Running k) h = absurd (let x : false ≡ true = h in cc)
finished_point now sched (Idle until) h = absurd (let x : false ≡ true = h in cc)

first_of_three : (a b c : Bool) → (a || b || c) ≡ true → b ≡ false → c ≡ false → a ≡ true
first_of_three true b c h x y = refl
first_of_three false true c h x y = absurd (let z : true ≡ false = x in cc)
first_of_three false false true h x y = absurd (let z : true ≡ false = y in cc)
first_of_three false false false h x y = absurd (let z : false ≡ true = h in cc)

-- ---- the law

module _ (rule : ReplacementRule) (plant : Plant) (task : TaskRecord) (content words : List ℕ) (n : ℕ) (r : IsRule rule)
    (h : IsLone plant task content words) (ends : EndsIn (run_alone plant task content words) n) where
  abbrev p : Setup
  p = lone plant task

  abbrev run : TaskRun
  run = run_alone plant task content words

  abbrev runs : ℕ → TaskRun
  runs k = run

  abbrev at : ℕ → ℕ → ℕ
  at m = issued_of rule p [] m (start_of p (words ∷ []) (memory_of p content))

  abbrev after : ℕ → MachineState
  after m = run_of rule p content (words ∷ []) [] m

  runnable : IsRunnable p content []
  runnable = lone_runnable plant task content words h

  owned : AreOwn p content (words ∷ []) all_whole runs
  owned = lone_own plant task content words h (ends_never run n ends)

  all : (m : ℕ) → AllAt p all_whole runs (at m) (after m)
  all m = run_stands rule p content (words ∷ []) [] all_whole runs m r runnable owned

  timed : (m : ℕ) → Timed plant task content words n (at m 0) (after m)
  timed m = run_timed rule plant task content words n r h ends runnable owned m

  ended_most : (m : ℕ) → (plain_run run (at m 0)).ended ≤ task.jobs
  ended_most m = omega (arith, (grows run (at m 0) n (timed m).within).ended, ends.ended)

  -- a state at this time
  in_time : (m : ℕ) → (after m).now ≤ finish_of plant task (plain_trace run n (plain_start run))
  in_time m =
      let s : MachineState = after m in
      let t : Timed plant task content words n (at m 0) s = timed m in
      let b : begun_in s.core.mode (task_at s.sched 0).ended ≤ task.jobs =
      begun_most p runs (at m) s.sched s.now ((task.jobs - 1) * task.period) s.core.mode s.core.mark s.core.debt refl (all m).position.schedules t.clock.rests (ended_most m) in
      let x : begun_in s.core.mode (task_at s.sched 0).ended * plant.switch ≤ task.jobs * plant.switch =
      mul-le (begun_in s.core.mode (task_at s.sched 0).ended) plant.switch task.jobs plant.switch b (omega arith) in
      let d : dues_of plant run (at m 0) ≤ dues_of plant run n = dues_grow plant run (at m 0) n t.within in
      time_by s.now _ t.clock.idle (begun_in s.core.mode (task_at s.sched 0).ended * plant.switch) (dues_of plant run (at m 0))
      ((task.jobs - 1) * task.period) (task.jobs * plant.switch) (dues_of plant run n) t.clock.time t.clock.high x d where
        time_by : (now owed idle begun due last jobs dues : ℕ) → now + owed ≤ idle + begun + due → idle ≤ last → begun ≤ jobs → due ≤ dues → now ≤ last + jobs + dues
        time_by now owed idle begun due last jobs dues a b c d = omega arith

  -- the next cycle would be too late
  over : (cycles : ℕ) → finish_of plant task (plain_trace run n (plain_start run)) ≤ cycles → is_over (after cycles) ≡ true
  over cycles le =
      ⊎_elim (λ (e : is_over (after cycles) ≡ true). e)
      (λ (e : is_over (after cycles) ≡ false).
      let s : MachineState = after cycles in
      let now : s.now ≡ cycles = run_of-now rule p content (words ∷ []) [] cycles e in
      let step : after (cycles + 1) ≡ cycle_of rule p [] s = cycles_of-next rule p [] cycles (start_of p (words ∷ []) (memory_of p content)) ∙ step_of-goes rule p [] s e in
      let untrapped : (core_at rule p (bus_at (arrivals_at [] s).gates s) s).trapped ≡ None =
      sym (cycle_trapped rule p (arrivals_at [] s) (bus_at (arrivals_at [] s).gates s) s) ∙ ap (λ (u : MachineState). u.trapped) (sym step) ∙ (all (cycles + 1)).position.untrapped in
      let next : (after (cycles + 1)).now ≡ s.now + 1 = ap (λ (u : MachineState). u.now) step ∙ cycle_goes rule p (arrivals_at [] s) (bus_at (arrivals_at [] s).gates s) s untrapped in
      let late : (after (cycles + 1)).now ≤ finish_of plant task (plain_trace run n (plain_start run)) = in_time (cycles + 1) in
      absurd (too_late (after (cycles + 1)).now s.now cycles (finish_of plant task (plain_trace run n (plain_start run))) now next late le))
      (cases_Bool (is_over (after cycles))) where
        too_late : (next now cycles finish : ℕ) → now ≡ cycles → next ≡ now + 1 → next ≤ finish → finish ≤ cycles → ⊥
        too_late next now cycles finish a b c d = omega arith

  same_task : (m : ℕ) → length (task_in (after m).work 0).outputs ≡ length (plain_run run (at m 0)).task.outputs
  same_task m = ap (λ (q : PlainState). length q.task.outputs) ((all m).position.stands.each 0 (omega arith)).same

  not_full : (m : ℕ) → is_full (after m) ≡ false
  not_full m =
      let s : MachineState = after m in
      let outputs : output_count s.work.tasks ≡ length (task_in s.work 0).outputs = one_task s.work.tasks (first_task no_record []) (all m).position.stands.count in
      let most : length (plain_run run (at m 0)).task.outputs ≤ length (plain_run run n).task.outputs = (grows run (at m 0) n (timed m).within).outputs in
      let jobs : task.jobs ≤ 65535 = h.jobs in
      let b : begun_in s.core.mode (task_at s.sched 0).ended ≤ task.jobs =
      begun_most p runs (at m) s.sched s.now ((task.jobs - 1) * task.period) s.core.mode s.core.mark s.core.debt refl (all m).position.schedules (timed m).clock.rests (ended_most m) in
      both_small log_size (output_count s.work.tasks) (length s.log.intervals) (omega (arith, outputs, same_task m, most, ends.outputs))
      (omega (arith, (timed m).log, jobs, b, begun_more s.core.mode (task_at s.sched 0).ended)) where
        begun_more : (mode : Mode) (ended : ℕ) → ended ≤ begun_in mode ended
        begun_more Point ended = omega arith
        begun_more (Switching k left) ended = omega arith
        begun_more (Running k) ended = omega arith
        begun_more (Idle until) ended = omega arith

  pub finishes : (cycles : ℕ) → finish_of plant task (plain_trace run n (plain_start run)) ≤ cycles → FinishedAs run n (after cycles)
  finishes cycles le =
      let s : MachineState = after cycles in
      let a : AllAt p all_whole runs (at cycles) s = all cycles in
      let none : is_some s.trapped ≡ false = ap is_some a.position.untrapped in
      let finished : is_finished s ≡ true = first_of_three (is_finished s) (is_some s.trapped) (is_full s) (over cycles le) none (not_full cycles) in
      let point : (s.core.mode ≡ Point) × (choice s.now s.sched ≡ Finished) = finished_point s.now s.sched s.core.mode finished in
      let done : IsDone (task_at s.sched 0) = finish_done s.now s.sched point.1 0 no_task (omega (arith, a.position.schedules.count)) in
      let sched : Schedules p runs (at cycles) s.sched Point s.core.mark = subst (λ m. Schedules p runs (at cycles) s.sched m s.core.mark) point.0 a.position.schedules in
      let jobs : (task_at s.sched 0).jobs ≡ task.jobs = sched.jobs 0 (omega arith) in
      let ended : (task_at s.sched 0).ended + 0 ≡ (plain_run run (at cycles 0)).ended = sched.ended 0 (omega arith) in
      let stops : is_running run (plain_run run (at cycles 0)) ≡ false = stopped run (plain_run run (at cycles 0)) (omega arith) in
      let same : plain_run run (at cycles 0) ≡ plain_run run n = sym (later_same run (at cycles 0) n (timed cycles).within stops) in
      record {
        finished = finished;
        untrapped = a.position.untrapped;
        room = not_full cycles;
        ended = omega (arith, ended, ap (λ (q : PlainState). q.ended) same, ends.ended);
        outputs = ap (λ (q : PlainState). q.task.outputs) ((a.position.stands.each 0 (omega arith)).same ∙ same);
        bytes = λ b. a.position.stands.view 0 b (omega arith) refl ∙ ap (λ (q : PlainState). q.task.view b) same;
      }

pub finishes_in_time : FinishesInTime
finishes_in_time rule plant task content words n cycles r h ends le = finishes rule plant task content words n r h ends cycles le

pub finishes_one_job : FinishesOneJob
finishes_one_job rule plant task content words n cycles r h one ends le =
    let d : dues_of plant (run_alone plant task content words) n ≤ n * (greatest_cost plant.target + 2 * (plant.fill + plant.back)) = dues_at_most plant (run_alone plant task content words) n in
    let z : (task.jobs - 1) * task.period ≡ 0 = ap (λ j. (j - 1) * task.period) one ∙ zero-times task.period in
    let s : task.jobs * plant.switch ≡ plant.switch = ap (λ j. j * plant.switch) one ∙ omega arith in
    finishes rule plant task content words n r h ends cycles
    (one_by ((task.jobs - 1) * task.period) (task.jobs * plant.switch) (dues_of plant (run_alone plant task content words) n) plant.switch
    (n * (greatest_cost plant.target + 2 * (plant.fill + plant.back))) cycles z s d le) where
      zero-times : (x : ℕ) → 0 * x ≡ 0
      zero-times x = omega arith

      one_by : (last jobs dues switch most cycles : ℕ) → last ≡ 0 → jobs ≡ switch → dues ≤ most → switch + most ≤ cycles → last + jobs + dues ≤ cycles
      one_by last jobs dues switch most cycles a b c d = omega arith
