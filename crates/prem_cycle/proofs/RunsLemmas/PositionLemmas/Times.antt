-- A run of one task without devices keeps to what is due.
use Rattle.std.proofs.Common.{◌≡◌, ℕ, zero, suc, ◌+◌, ◌-◌, ◌*◌, ◌/◌, ◌<◌, ◌≤◌, refl, ap, ◌∙◌, sym, subst, arith, Some, None, true, false, List, [], ⊎_elim}
use Rattle.prem_cycle.proofs.Prelude.{CoreMove, Passes, Issues, CoreTurn, core_issue, core_turn, task_moved, task_changed, task_after, LineTouch, owed_by, issued_by, lone, run_alone, EndsIn}
use Rattle.prem_cycle.proofs.Prelude.{due_of, data_accesses, Setup, record_of, Task, Work, CoreState, Counts, task_in, Interval, GatesState, Turned, startable_from, wants, bus_with}
use Rattle.prem_cycle.proofs.Prelude.{bus_turn, CoreWant, No, New, Held, Window, TaskRecord, cost_bounds, phase_after, IsLawful, cost_of, TaskRun, PlainState, is_running, plain_run, Did}
use Rattle.prem_cycle.proofs.Prelude.{did_of, plain_did, Change, Stay, Memory, Execute, End, Job, Phase, Compatible, Execution, touch_of, ReplacementRule, IsRule, IsPlant, Plant, TaskJobs}
use Rattle.prem_cycle.proofs.Prelude.{cases_lt, slice_set}
use Rattle.prem_cycle.proofs.RunsLemmas.PositionLemmas.Clocks.{MayMark, Clocking, ReadyClock, MoveClock}
use Rattle.prem_cycle.proofs.RunsLemmas.PositionLemmas.Debts.{total, owed_positive, owed_at_most}
use Rattle.prem_cycle.proofs.RunsLemmas.PositionLemmas.Dues.{dues_of, dues_next}
use Rattle.prem_cycle.proofs.RunsLemmas.PositionLemmas.Issues.{issuing_did}
use Rattle.prem_cycle.proofs.RunsLemmas.PositionLemmas.Lone.{all_whole, whole, later_same, ends_stopped}
use Rattle.prem_cycle.proofs.RunsLemmas.PositionLemmas.Schedules.{Unfinished, Moves}
use Rattle.prem_cycle.proofs.RunsLemmas.PositionLemmas.Stands.{Stands, IsAt, Issuing}
use Rattle.prem_cycle.proofs.RunsLemmas.PositionLemmas.Turns.{bump_move, issuing, running_is, Runs}
use Rattle.prem_isa.specs.declared.effect.Phase.TheVariants.{Memory as MemoryPhase}

-- ---- the bus without devices

empty_by : (want : CoreWant) (s : GatesState) (memory : List ℕ) → (bus_with want None None s memory).turn.core ≡ wants want
empty_by No s memory = refl
empty_by New s memory = refl
empty_by Held s memory = refl

empty_gates : (want : CoreWant) (s : GatesState) (memory : List ℕ) → (bus_with want None None s memory).gates ≡ s
empty_gates No s memory = refl
empty_gates New s memory = refl
empty_gates Held s memory = refl

bus_empty : (now : ℕ) (w : Window) (want : CoreWant) (s : GatesState) (memory : List ℕ) → s.carried ≡ None → s.gates ≡ [] → bus_turn now w want s memory ≡ bus_with want None None s memory
bus_empty now w want s memory c g =
    ap (λ x. bus_with want x (startable_from now w 0 s.gates) s memory) c
    ∙ ap (λ gs. bus_with want None (startable_from now w 0 gs) s memory) g

-- the core has the bus whenever it wants it
pub bus_had : (now : ℕ) (w : Window) (want : CoreWant) (s : GatesState) (memory : List ℕ) → s.carried ≡ None → s.gates ≡ [] → (bus_turn now w want s memory).turn.core ≡ wants want
bus_had now w want s memory c g = ap (λ (t : Turned). t.turn.core) (bus_empty now w want s memory c g) ∙ empty_by want s memory

-- and the gates stay as they are
pub bus_stays : (now : ℕ) (w : Window) (want : CoreWant) (s : GatesState) (memory : List ℕ) → s.carried ≡ None → s.gates ≡ [] → (bus_turn now w want s memory).gates ≡ s
bus_stays now w want s memory c g = ap (λ (t : Turned). t.gates) (bus_empty now w want s memory c g) ∙ empty_gates want s memory

-- ---- the changes of an instruction in compatible intervals

marks_by : (c : Change) (phase : Phase) → phase ≡ Compatible → IsLawful phase c → phase_after c phase ≡ Compatible → MayMark c
marks_by Stay phase e l h = tt
marks_by Memory phase e l h = let x : MemoryPhase ≡ Compatible = h in cc
marks_by (Execute stated) phase e l h = let x : Execution ≡ Compatible = h in cc
marks_by End phase e l h = let x : Execution ≡ Compatible = sym l ∙ e in cc
marks_by Job phase e l h = tt

pub changed_phase : (r : TaskRecord) (c : Change) (t : Task) → (task_changed r c t).phase ≡ t.phase
changed_phase r Stay t = refl
changed_phase r Memory t = refl
changed_phase r (Execute stated) t = refl
changed_phase r End t = refl
changed_phase r Job t = refl

module _ (rule : ReplacementRule) (plant : Plant) (task : TaskRecord) (content words : List ℕ) (n : ℕ) where
  abbrev pub p : Setup
  p = lone plant task

  abbrev pub run : TaskRun
  run = run_alone plant task content words

  abbrev pub runs : ℕ → TaskRun
  runs k = run

  abbrev pub last : ℕ
  last = (task.jobs - 1) * task.period

  marks_may : (at : ℕ → ℕ) (w : Work) → EndsIn run n → at 0 + 1 ≤ n → IsAt run (at 0) (task_in w 0) → (x : Issuing p whole run (at 0) 0 w) → MayMark x.effect.change
  marks_may at w ends le here x =
      let before : (task_in w 0).phase ≡ Compatible = ap (λ (q : PlainState). q.task.phase) here.same ∙ ends.compatible (at 0) (omega arith) in
      let after : phase_after x.effect.change (task_in w 0).phase ≡ Compatible =
      sym (changed_phase (record_of p 0) x.effect.change (task_moved x.effect (task_in w 0))) ∙ ap (λ (q : PlainState). q.task.phase) (sym x.next) ∙ ends.compatible (at 0 + 1) le in
      marks_by x.effect.change (task_in w 0).phase before x.lawful.change after

  -- an instruction issues before the run on its own ends
  issues_before : (at : ℕ → ℕ) (t : Task) → EndsIn run n → IsAt run (at 0) t → Unfinished p runs at 0 → at 0 + 1 ≤ n
  issues_before at t ends here u =
      ⊎_elim (λ (lt : at 0 < n). omega arith)
      (λ (ge : n ≤ at 0).
      let no_way : is_running run (plain_run run (at 0)) ≡ false = ap (is_running run) (later_same run n (at 0) ge (ends_stopped run n ends)) ∙ ends_stopped run n ends in
      absurd (let x : true ≡ false = sym (running_is p whole runs at 0 t here u) ∙ no_way in cc))
      (cases_lt (at 0) n)

  -- ---- the core's part

  pub record TurnTimes (at now ended : ℕ) (t : CoreTurn) : Type 0 where
    pub clock : Clocking plant.switch last (dues_of plant run at) (now + 1) ended t.core.mode t.core.mark t.core.debt
    pub within : at ≤ n

  issue_times : (at : ℕ → ℕ) (now ended : ℕ) (i : Interval) (w : Work) (c : CoreState) (counts : Counts) → IsRule rule → IsPlant plant →
      EndsIn run n → IsAt run (at 0) (task_in w 0) → Unfinished p runs at 0 → ReadyClock plant.switch last (dues_of plant run (at 0)) now ended →
      (x : Issuing p whole run (at 0) 0 w) → TurnTimes (at 0 + 1) now ended (core_turn rule p now (Issues 0 i) w c counts)
  issue_times at now ended i w c counts r is ends here u g x =
      let le : at 0 + 1 ≤ n = issues_before at (task_in w 0) ends here u in
      let d : Did = did_of (task_in w 0).pc (task_in w 0).phase x.instr x.effect in
      let did : plain_did run (plain_run run (at 0)) ≡ Some d = issuing_did p whole runs at 0 w u here x in
      let due : dues_of plant run (at 0 + 1) ≡ dues_of plant run (at 0) + due_of plant d = dues_next plant run (at 0) d did in
      let touches : List LineTouch = (issued_by rule p 0 x.effect w).touches in
      let owes : total (owed_by plant touches) ≤ (1 + data_accesses x.effect.access) * (plant.fill + plant.back) =
      owed_at_most rule plant plant.line (slice_set w.tasks 0 (task_after (record_of p 0) x.effect (task_in w 0))) x.effect.stored
      ((task_in w 0).pc / plant.line) (touch_of rule w.cache ((task_in w 0).pc / plant.line) w.memory) x.effect.access in
      let cost : 1 ≤ cost_of x.instr = (cost_bounds x.instr).0 in
      subst (λ a. TurnTimes (at 0 + 1) now ended (core_issue rule p now 0 i a w c counts)) (sym (x.behind rule r))
      (record {
        clock = record {
          idle = g.idle;
          time = issue_time now ended g.idle (dues_of plant run (at 0)) (dues_of plant run (at 0 + 1)) (total (owed_by plant touches))
              (cost_of x.instr) ((1 + data_accesses x.effect.access) * (plant.fill + plant.back)) plant.switch g.time due owes cost;
          low = omega (arith, g.low);
          high = g.high;
          positive = owed_positive plant touches is;
          rests = marks_may at w ends le here x;
        };
        within = le;
      }) where
        issue_time : (now ended idle due due' owes cost most switch : ℕ) → now ≤ idle + (ended + 1) * switch + due → due' ≡ due + (cost + most) →
            owes ≤ most → 1 ≤ cost → now + 1 + (owes + (cost - 1)) ≤ idle + (ended + 1) * switch + due'
        issue_time now ended idle due due' owes cost most switch a b c d = omega arith

  pub turn_times : (at : ℕ → ℕ) (now ended : ℕ) (sched : List TaskJobs) (m : CoreMove) (w : Work) (c : CoreState) (counts : Counts) → IsRule rule →
      IsPlant plant → EndsIn run n → Runs p all_whole runs → Stands p all_whole runs at w → Moves p runs at sched m → at 0 ≤ n →
      MoveClock plant.switch last (dues_of plant run (at 0)) now ended m → TurnTimes (bump_move m at 0) now ended (core_turn rule p now m w c counts)
  turn_times at now ended sched (Passes c') w c counts r is ends rs s m le g = record { clock = g; within = le }
  turn_times at now ended sched (Issues zero i) w c counts r is ends rs s m le g =
      issue_times at now ended i w c counts r is ends (s.each 0 (omega arith)) m.unfinished g (issuing p all_whole runs at w 0 rs s m.unfinished)
  turn_times at now ended sched (Issues (suc k) i) w c counts r is ends rs s m le g = absurd (omega (arith, m.unfinished.bound))
