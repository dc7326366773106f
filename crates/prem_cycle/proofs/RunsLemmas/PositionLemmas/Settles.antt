-- The end of a cycle of one task without devices, and its whole run.
use Rattle.std.proofs.Common.{◌≡◌, ℕ, zero, suc, ◌+◌, ◌-◌, ◌*◌, ◌<◌, ◌≤◌, refl, ap, ◌∙◌, sym, subst, arith, cond, ltb, None, Option, true, false, Bool, List, [], ◌∷◌, length, ⊎_elim}
use Rattle.std.specs.Prelude.{◌&&◌, ◌||◌, is_some}
use Rattle.prem_cycle.proofs.Prelude.{want_of, is_paid, CoreMove, CoreTurn, Arrivals, arrivals_at, bus_at, with_memory, with_clash, move_at, core_at, joined, ends_before, sched_after}
use Rattle.prem_cycle.proofs.Prelude.{ended_interval, at_point, close_interval, settle, with_now, next_cycle, is_finish, is_finished_in, is_finished, is_full, is_over, cycle_of, step_of}
use Rattle.prem_cycle.proofs.Prelude.{CycleStep, step_with, coming_step, memory_of, cycles_of, steps_of, lone, run_alone, IsLone, EndsIn, count_of, issued_of, AreOwn, IsRunnable, Setup}
use Rattle.prem_cycle.proofs.Prelude.{Work, Debt, MachineState, start_of, Interval, Mode, Point, Switching, Running, Idle, GatesState, Turned, wants, TaskRecord, TaskRun, with_last, Change}
use Rattle.prem_cycle.proofs.Prelude.{Stay, Memory, Execute, End, Job, ReplacementRule, IsRule, Plant, choice, no_task, task_at, with_job, Finished, TaskJobs, cond_both, cases_Bool}
use Rattle.prem_cycle.proofs.Prelude.{and_parts, ltb-true, get_or-set_same, length-append}
use Rattle.prem_cycle.proofs.CoreCases.{move_cases}
use Rattle.prem_cycle.proofs.RunsLemmas.PositionLemmas.Clocks.{Marked, MayMark, Waiting, Clocked, Clocking, MoveClock, move_clock, rest_is}
use Rattle.prem_cycle.proofs.RunsLemmas.PositionLemmas.Debts.{paid_none}
use Rattle.prem_cycle.proofs.RunsLemmas.PositionLemmas.Dues.{dues_of}
use Rattle.prem_cycle.proofs.RunsLemmas.PositionLemmas.Lone.{all_whole}
use Rattle.prem_cycle.proofs.RunsLemmas.PositionLemmas.Runs.{AllAt, runs_of, keeps_of, count_move, is_issued, run_all}
use Rattle.prem_cycle.proofs.RunsLemmas.PositionLemmas.Schedules.{GoesOn, Going, Schedules, Moves, moves}
use Rattle.prem_cycle.proofs.RunsLemmas.PositionLemmas.Stands.{Stands}
use Rattle.prem_cycle.proofs.RunsLemmas.PositionLemmas.Starts.{start_all}
use Rattle.prem_cycle.proofs.RunsLemmas.PositionLemmas.Times.{bus_had, bus_stays, TurnTimes, turn_times}
use Rattle.prem_cycle.proofs.RunsLemmas.PositionLemmas.Turns.{bump_move, Runs, TurnStands, turn_stands, bus_stands}
use Rattle.prem_sched.specs.declared.sched.Choice.TheVariants.{Idle as Rest}

-- ---- what holds of each state

pub record Timed (plant : Plant) (task : TaskRecord) (content words : List ℕ) (n at : ℕ) (s : MachineState) : Type 0 where
  pub clock : Clocked plant.switch ((task.jobs - 1) * task.period) (dues_of plant (run_alone plant task content words) at) s.now (task_at s.sched 0).ended s.core.mode s.core.mark s.core.debt
  pub carried : s.gates.carried ≡ None
  pub gates : s.gates.gates ≡ []
  pub log : length s.log.intervals ≡ (task_at s.sched 0).ended
  pub within : at ≤ n

-- where what is over isn't settled
record Ticking (plant : Plant) (task : TaskRecord) (content words : List ℕ) (n at : ℕ) (s : MachineState) : Type 0 where
  clock : Clocking plant.switch ((task.jobs - 1) * task.period) (dues_of plant (run_alone plant task content words) at) s.now (task_at s.sched 0).ended s.core.mode s.core.mark s.core.debt
  carried : s.gates.carried ≡ None
  gates : s.gates.gates ≡ []
  log : length s.log.intervals ≡ (task_at s.sched 0).ended
  within : at ≤ n

-- ---- an interval that ends

unpaid : (b : Bool) → (b && true) ≡ false → b ≡ false
unpaid true h = h
unpaid false h = refl

stays_marked : (now : ℕ) (i : Interval) (c : Change) (d : Debt) → MayMark c → (is_paid d && ends_before now i c) ≡ false → Marked c d
stays_marked now i Stay d h f = tt
stays_marked now i Memory d h f = h
stays_marked now i (Execute stated) d h f = h
stays_marked now i End d h f = h
stays_marked now i Job d h f = unpaid (is_paid d) f

one_more : (p : Setup) (runs : ℕ → TaskRun) (at : ℕ → ℕ) (now k : ℕ) (i : Interval) (c : Change) (sched : List TaskJobs) → length p.tasks ≡ 1 →
    length sched ≡ 1 → GoesOn p runs at k c → MayMark c → ends_before now i c ≡ true → (task_at (sched_after c k sched) 0).ended ≡ (task_at sched 0).ended + 1
one_more p runs at now k i Stay sched one len g h e = absurd (let x : false ≡ true = e in cc)
one_more p runs at now k i Memory sched one len g h e = absurd h
one_more p runs at now k i (Execute stated) sched one len g h e = absurd h
one_more p runs at now k i End sched one len g h e = absurd h
one_more p runs at now zero i Job sched one len g h e =
    ap (λ (t : TaskJobs). t.ended) (get_or-set_same sched 0 (with_job (task_at sched 0)) no_task (omega arith))
one_more p runs at now (suc k) i Job sched one len g h e = absurd (omega arith)

-- ---- the end of a cycle

module _ (plant : Plant) (task : TaskRecord) (content words : List ℕ) (n at : ℕ) where
  abbrev last : ℕ
  last = (task.jobs - 1) * task.period

  abbrev due : ℕ
  due = dues_of plant (run_alone plant task content words) at

  -- nothing is over
  goes_on : (now ended : ℕ) (mode : Mode) (mark : Change) (d : Debt) → Waiting now last mode mark d →
      Clocking plant.switch last due now ended mode mark d → Clocked plant.switch last due now ended mode mark d
  goes_on now ended mode mark d w h = record { idle = h.idle; time = h.time; low = h.low; high = h.high; positive = h.positive; rests = w }

  closed_clock : (now ended ended' k : ℕ) (mark : Change) (d : Debt) → ended' ≡ ended + 1 → is_paid d ≡ true →
      Clocking plant.switch last due now ended (Running k) mark d → Clocked plant.switch last due now ended' Point mark d
  closed_clock now ended ended' k mark d e paid h =
      let more : ended' * plant.switch ≡ (ended + 1) * plant.switch = ap (λ x. x * plant.switch) e in
      record { idle = h.idle; time = omega (arith, h.time, more); low = h.low; high = h.high; positive = h.positive; rests = paid_none d paid }

  idle_over : (now ended until : ℕ) (mark : Change) (d : Debt) → Clocking plant.switch last due now ended (Idle until) mark d → Clocked plant.switch last due now ended Point mark d
  idle_over now ended until mark d h = record { idle = h.idle; time = h.time; low = h.low; high = h.high; positive = h.positive; rests = h.rests.0 }

  settle_timed : (ats : ℕ → ℕ) (runs : ℕ → TaskRun) (p : Setup) (m : Mode) (s : MachineState) → s.core.mode ≡ m → length p.tasks ≡ 1 →
      length s.sched ≡ 1 → Going p runs ats m s.core.mark → Ticking plant task content words n at s → Timed plant task content words n at (settle m s)
  settle_timed ats runs p Point s e one len g h =
      let c : Clocking plant.switch last due s.now (task_at s.sched 0).ended Point s.core.mark s.core.debt =
      subst (λ m. Clocking plant.switch last due s.now (task_at s.sched 0).ended m s.core.mark s.core.debt) e h.clock in
      record {
        clock = subst (λ m. Clocked plant.switch last due s.now (task_at s.sched 0).ended m s.core.mark s.core.debt) (sym e)
            (goes_on s.now (task_at s.sched 0).ended Point s.core.mark s.core.debt c.rests c);
        carried = h.carried;
        gates = h.gates;
        log = h.log;
        within = h.within;
      }
  settle_timed ats runs p (Switching k left) s e one len g h =
      let c : Clocking plant.switch last due s.now (task_at s.sched 0).ended (Switching k left) s.core.mark s.core.debt =
      subst (λ m. Clocking plant.switch last due s.now (task_at s.sched 0).ended m s.core.mark s.core.debt) e h.clock in
      record {
        clock = subst (λ m. Clocked plant.switch last due s.now (task_at s.sched 0).ended m s.core.mark s.core.debt) (sym e)
            (goes_on s.now (task_at s.sched 0).ended (Switching k left) s.core.mark s.core.debt c.rests c);
        carried = h.carried;
        gates = h.gates;
        log = h.log;
        within = h.within;
      }
  settle_timed ats runs p (Running k) s e one len g h =
      let c : Clocking plant.switch last due s.now (task_at s.sched 0).ended (Running k) s.core.mark s.core.debt =
      subst (λ m. Clocking plant.switch last due s.now (task_at s.sched 0).ended m s.core.mark s.core.debt) e h.clock in
      cond_both (is_paid s.core.debt && ends_before s.now s.core.interval s.core.mark) (close_interval k s) s (Timed plant task content words n at)
      (λ t.
      let both : (is_paid s.core.debt ≡ true) × (ends_before s.now s.core.interval s.core.mark ≡ true) = and_parts (is_paid s.core.debt) (ends_before s.now s.core.interval s.core.mark) t in
      let more : (task_at (sched_after s.core.mark k s.sched) 0).ended ≡ (task_at s.sched 0).ended + 1 = one_more p runs ats s.now k s.core.interval s.core.mark s.sched one len g c.rests both.1 in
      record {
        clock = closed_clock s.now (task_at s.sched 0).ended (task_at (sched_after s.core.mark k s.sched) 0).ended k s.core.mark s.core.debt more both.0 c;
        carried = h.carried;
        gates = h.gates;
        log = omega (arith, length-append s.log.intervals (ended_interval s.now k s.core.interval ∷ []), h.log, more);
        within = h.within;
      })
      (λ f. record {
        clock = subst (λ m. Clocked plant.switch last due s.now (task_at s.sched 0).ended m s.core.mark s.core.debt) (sym e)
            (goes_on s.now (task_at s.sched 0).ended (Running k) s.core.mark s.core.debt (stays_marked s.now s.core.interval s.core.mark s.core.debt c.rests f) c);
        carried = h.carried;
        gates = h.gates;
        log = h.log;
        within = h.within;
      })
  settle_timed ats runs p (Idle until) s e one len g h =
      let c : Clocking plant.switch last due s.now (task_at s.sched 0).ended (Idle until) s.core.mark s.core.debt =
      subst (λ m. Clocking plant.switch last due s.now (task_at s.sched 0).ended m s.core.mark s.core.debt) e h.clock in
      cond_both (ltb s.now until) s (record s { core = at_point s.core }) (Timed plant task content words n at)
      (λ t. record {
        clock = subst (λ m. Clocked plant.switch last due s.now (task_at s.sched 0).ended m s.core.mark s.core.debt) (sym e)
            (goes_on s.now (task_at s.sched 0).ended (Idle until) s.core.mark s.core.debt (c.rests.0, ltb-true s.now until t, c.rests.2) c);
        carried = h.carried;
        gates = h.gates;
        log = h.log;
        within = h.within;
      })
      (λ f. record {
        clock = idle_over s.now (task_at s.sched 0).ended until s.core.mark s.core.debt c;
        carried = h.carried;
        gates = h.gates;
        log = h.log;
        within = h.within;
      })

-- ---- a cycle

module _ (rule : ReplacementRule) (plant : Plant) (task : TaskRecord) (content words : List ℕ) (n : ℕ) (r : IsRule rule)
    (lone_is : IsLone plant task content words) (ends : EndsIn (run_alone plant task content words) n) (q : IsRunnable (lone plant task) content [])
    (o : AreOwn (lone plant task) content (words ∷ []) all_whole (λ k. run_alone plant task content words)) where
  abbrev pub p : Setup
  p = lone plant task

  abbrev pub runs : ℕ → TaskRun
  runs k = run_alone plant task content words

  all_runs : Runs p all_whole runs
  all_runs = runs_of rule p content (words ∷ []) [] all_whole runs r q o

  not_finished : (s : MachineState) → is_finished s ≡ false → s.core.mode ≡ Point → choice s.now s.sched ≡ Finished → ⊥
  not_finished s h e f =
      let x : is_finished_in s.now s.sched Point ≡ false = ap (is_finished_in s.now s.sched) (sym e) ∙ h in
      let y : true ≡ false = sym (ap is_finish f) ∙ x in
      cc

  releases : (at : ℕ → ℕ) (s : MachineState) → Schedules p runs at s.sched s.core.mode s.core.mark → (until : ℕ) → choice s.now s.sched ≡ Rest until →
      (s.now < until) × (until ≤ (task.jobs - 1) * task.period)
  releases at s h until e =
      let period : (task_at s.sched 0).period ≡ task.period = h.periods 0 (omega arith) in
      let jobs : (task_at s.sched 0).jobs ≡ task.jobs = h.jobs 0 (omega arith) in
      let some : 1 ≤ task.period = lone_is.period in
      let x : (s.now < until) × (until ≤ ((task_at s.sched 0).jobs - 1) * (task_at s.sched 0).period) = rest_is s.now s.sched until h.count (omega arith) e in
      (x.0, subst (λ a. until ≤ (a - 1) * task.period) jobs (subst (λ b. until ≤ ((task_at s.sched 0).jobs - 1) * b) period x.1))

  cycle_timed : (at : ℕ → ℕ) (s : MachineState) → is_finished s ≡ false → AllAt p all_whole runs at s → Timed plant task content words n (at 0) s →
      Timed plant task content words n (bump_move (move_at p (bus_at s.gates s) s) at 0) (cycle_of rule p [] s)
  cycle_timed at s goes h t =
      let a : Arrivals = arrivals_at [] s in
      let b : Turned = bus_at s.gates s in
      let w : Work = with_memory b.memory s.work in
      let m : CoreMove = move_at p b s in
      let stands : Stands p all_whole runs at w = bus_stands p all_whole runs at s.work b.memory (keeps_of rule p content (words ∷ []) [] all_whole runs r q o at s h) h.position.stands in
      let mv : Moves p runs at s.sched m = moves p runs at s.sched s.now b.turn.core w s.core m (move_cases p s.now b.turn.core s.sched w s.core) h.position.schedules in
      let had : b.turn.core ≡ wants (want_of s.core.debt) = bus_had s.now s.core.window (want_of s.core.debt) s.gates s.work.memory t.carried t.gates in
      let same : b.gates ≡ s.gates = bus_stays s.now s.core.window (want_of s.core.debt) s.gates s.work.memory t.carried t.gates in
      let clock : MoveClock plant.switch ((task.jobs - 1) * task.period) (dues_of plant (run_alone plant task content words) (at 0)) s.now (task_at s.sched 0).ended m =
      move_clock ((task.jobs - 1) * task.period) (dues_of plant (run_alone plant task content words) (at 0)) s.now (task_at s.sched 0).ended p b.turn.core s.sched w s.core m
      (move_cases p s.now b.turn.core s.sched w s.core) (λ e. had ∙ e) (not_finished s goes) (releases at s h.position.schedules) t.clock in
      let turn : CoreTurn = core_at rule p b s in
      let times : TurnTimes rule plant task content words n (bump_move m at 0) s.now (task_at s.sched 0).ended turn =
      turn_times rule plant task content words n at s.now (task_at s.sched 0).ended s.sched m w s.core (with_clash b.turn.clash s.log.counts)
      r lone_is.in_range ends all_runs stands mv t.within clock in
      let st : TurnStands p all_whole runs (bump_move m at) s.sched turn =
      turn_stands rule p all_whole runs at s.now s.sched m w s.core (with_clash b.turn.clash s.log.counts) r all_runs stands mv in
      let j : MachineState = joined a b turn s in
      subst (λ o. Timed plant task content words n (bump_move m at 0) (cond (is_some o) j (next_cycle j))) (sym st.untrapped)
      (settle_timed plant task content words n (bump_move m at 0) (bump_move m at) runs p turn.core.mode (with_now j (s.now + 1)) refl refl h.position.schedules.count st.schedules.going
      (record {
        clock = times.clock;
        carried = ap (λ (g : GatesState). g.carried) same ∙ t.carried;
        gates = ap (λ (g : GatesState). g.gates) same ∙ t.gates;
        log = t.log;
        within = times.within;
      }))

  -- ---- a run

  or_first : (a b c : Bool) → (a || b || c) ≡ false → a ≡ false
  or_first true b c h = absurd (or_true b c h) where
    or_true : (b c : Bool) → (true || b || c) ≡ false → ⊥
    or_true true c h = let x : true ≡ false = h in cc
    or_true false c h = let x : true ≡ false = h in cc
  or_first false b c h = refl

  step_timed : (s : MachineState) (xs : List CycleStep) → AllAt p all_whole runs (λ k. count_of k xs) s →
      Timed plant task content words n (count_of 0 xs) s →
      Timed plant task content words n (count_of 0 (with_last (coming_step rule p [] s) xs)) (step_of rule p [] s)
  step_timed s xs h t =
      let none : Option CycleStep = None in
      let at : ℕ → ℕ = λ k. count_of k xs in
      let b : Turned = bus_at s.gates s in
      let w : Work = with_memory b.memory s.work in
      let m : CoreMove = move_at p b s in
      let stands : Stands p all_whole runs at w = bus_stands p all_whole runs at s.work b.memory (keeps_of rule p content (words ∷ []) [] all_whole runs r q o at s h) h.position.stands in
      let mv : Moves p runs at s.sched m = moves p runs at s.sched s.now b.turn.core w s.core m (move_cases p s.now b.turn.core s.sched w s.core) h.position.schedules in
      let c : bump_move m at 0 ≡ count_of 0 (with_last (step_with rule p b s) xs) =
      count_move rule p s.now w m xs 0 (is_issued rule p content (words ∷ []) [] all_whole runs r q o at s.sched w m stands mv) in
      ⊎_elim (λ (e : is_over s ≡ true).
      subst (λ y. Timed plant task content words n (count_of 0 (with_last (cond y none (step_with rule p b s)) xs)) (cond y s (cycle_of rule p [] s))) (sym e) t)
      (λ (e : is_over s ≡ false).
      subst (λ y. Timed plant task content words n (count_of 0 (with_last (cond y none (step_with rule p b s)) xs)) (cond y s (cycle_of rule p [] s))) (sym e)
      (subst (λ k. Timed plant task content words n k (cycle_of rule p [] s)) c
      (cycle_timed at s (or_first (is_finished s) (is_some s.trapped) (is_full s) e) h t)))
      (cases_Bool (is_over s))

  pub run_timed : (m : ℕ) → Timed plant task content words n (issued_of rule p [] m (start_of p (words ∷ []) (memory_of p content)) 0)
      (cycles_of rule p [] m (start_of p (words ∷ []) (memory_of p content)))
  unfolding cycles_of steps_of
  run_timed zero = record {
    clock = record { idle = 0; time = omega arith; low = omega arith; high = omega arith; positive = tt; rests = refl };
    carried = refl;
    gates = refl;
    log = refl;
    within = omega arith;
  }
  run_timed (suc m) =
      let s0 : MachineState = start_of p (words ∷ []) (memory_of p content) in
      step_timed (cycles_of rule p [] m s0) (steps_of rule p [] m s0)
      (run_all rule p content (words ∷ []) [] all_whole runs r q o m s0 (start_all p content (words ∷ []) [] all_whole runs q o)) (run_timed m)
