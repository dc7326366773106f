-- For how many of its cycles a predictable interval, and idle time, is closed.
use Rattle.std.specs.Prelude.{All, is_some, ◌&&◌, not}
use Rattle.std.proofs.Common.{◌≡◌, ℕ, zero, suc, ◌+◌, ◌-◌, ◌<◌, ◌≤◌, min, refl, ap, ◌∙◌, sym, subst, arith, cond, leb, ltb, true, false, Bool, Some, None, Option, List, length, ⊎_elim}
use Rattle.std.proofs.lemmas.Bool.{and_parts, cases_Bool, cond_both, leb-false, le-leb}
use Rattle.std.proofs.lemmas.List.Elements.{All-nil, All-push}
use Rattle.prem_plant.specs.Ranges.{IsPlant}
use Rattle.prem_plant.specs.Order.Order.{OrderRule, HaveRoom}
use Rattle.prem_sched.specs.declared.sched.TaskJobs.{TaskJobs}
use Rattle.prem_isa.specs.declared.effect.Phase.{Phase}
use Rattle.prem_isa.specs.declared.effect.Phase.TheVariants.{Execution}
use Rattle.prem_isa.specs.declared.effect.Change.{Change}
use Rattle.prem_isa.specs.declared.effect.Change.TheVariants.{Stay, Memory, Execute, End, Job}
use Rattle.prem_isa.specs.Act.{phase_after}
use Rattle.prem_isa.specs.Bounds.{IsLawful}
use Rattle.prem_isa.specs.Plain.{TaskRun, Did, did_of, plain_did, plain_run, with_last}
use Rattle.prem_lru.specs.Entries.{ReplacementRule}
use Rattle.prem_lru.specs.Order.{lines_in}
use Rattle.prem_gate.specs.declared.request.Request.{Request}
use Rattle.prem_gate.specs.declared.bus.Window.{Window}
use Rattle.prem_gate.specs.Gates.{Turned, fits}
use Rattle.prem_cycle.specs.declared.state.Mode.{Mode}
use Rattle.prem_cycle.specs.declared.state.Mode.TheVariants.{Point, Switching, Running, Idle}
use Rattle.prem_cycle.specs.declared.state.Interval.{Interval}
use Rattle.prem_cycle.specs.declared.facts.EndedInterval.{EndedInterval}
use Rattle.prem_cycle.specs.State.{Setup, Task, Work, CoreState, Counts, MachineState, start_of, task_in}
use Rattle.prem_cycle.specs.Core.{paid_on_bus, with_debt, with_cost, is_paid, CoreMove, Passes, Issues, is_predictable, phase_in, stated_after, window_after, core_issue, core_turn}
use Rattle.prem_cycle.specs.Cycle.{Arrivals, arrivals_at, bus_at, with_memory, with_clash, move_at, core_at, joined, ends_before, ended_interval, at_point, close_interval, settle}
use Rattle.prem_cycle.specs.Cycle.{with_now, next_cycle, ticked, cycle_of, is_over}
use Rattle.prem_cycle.specs.Run.{CycleStep, step_with, memory_of, cycles_of, steps_of}
use Rattle.prem_cycle.proofs.CoreCases.{Continues, MoveCase, pays_on_bus, is_denied, pays_cost, waits, goes_on, switches, begins, chooses, chooses_now, begins_idle, has_finished, idles, move_cases}
use Rattle.prem_cycle.proofs.Time.{run_of-now}
use Rattle.prem_cycle.specs.Runs.Position.Issued.{count_of, issued_of, AreOwn, IsRunnable}
use Rattle.prem_cycle.proofs.RunsLemmas.PositionLemmas.Stands.{bump, Stands, Issuing}
use Rattle.prem_cycle.proofs.RunsLemmas.PositionLemmas.Schedules.{Moves as Scheduled}
use Rattle.prem_cycle.proofs.RunsLemmas.PositionLemmas.Turns.{Runs, bump_move, issuing}
use Rattle.prem_cycle.proofs.RunsLemmas.PositionLemmas.Issues.{issuing_did}
use Rattle.prem_cycle.proofs.RunsLemmas.PositionLemmas.Runs.{count_move}
use Rattle.prem_cycle.proofs.RunsLemmas.PositionLemmas.Works.{kept_plant}
use Rattle.prem_sound.specs.Script.Script.{call_of, Script}
use Rattle.prem_sound.specs.Resident.Faultless.{IsPolicy}
use Rattle.prem_sound.proofs.ScriptLemmas.Begins.{Executed, executed, next_phase, did_lawful}
use Rattle.prem_sound.proofs.ResidentLemmas.Residents.{Goes, Issued, phase_at, begun_at, Resides, Moves, bump_run}
use Rattle.prem_sound.proofs.ResidentLemmas.Keeps.{sets_are, KeepScripts, Keeps}
use Rattle.prem_sound.proofs.ResidentLemmas.Facing.{Meets, Faces, Comes, faces}
use Rattle.prem_sound.proofs.ResidentLemmas.KeptRuns.{Known, own_runs, known_core, known, run_keeps, meets, coming}
use Rattle.prem_sound.proofs.Paces.{in_script}
use Rattle.prem_sound.proofs.Lasts.{owed_of, InTime, Clock, ClockMove, clock_moves}
use Rattle.prem_sound.proofs.Lasting.{Lasts, core_clock}
use Rattle.prem_sound.proofs.LastingRuns.{run_lasts}
use Rattle.prem_resp.specs.Busy.Schedule.{one_if}
use Rattle.prem_latency.specs.Served.{is_closed}
use Rattle.prem_latency.specs.Closed.{IsOpened, closed_between, IsShortlyClosed, IntervalsKeepClosed, IdleTimeKeepsClosed}
use Rattle.prem_latency.proofs.Steps.{state, stays_is}
use Rattle.prem_latency.proofs.Scheduled.{InMode, Idles, run_holds}
use Rattle.prem_latency.proofs.Accounts.{IsOpen, counts, one_most, open_counts}
use Rattle.prem_latency.proofs.AccountRuns.{opened_by}

-- ---- idle time

pub idle_time_keeps_closed : IdleTimeKeepsClosed
idle_time_keeps_closed rule p content inputs requests longest n until periods on e closed =
    let now : (state rule p content inputs requests n).now ≡ n = run_of-now rule p content inputs requests n on in
    let h : Idles p periods (state rule p content inputs requests n).now until (state rule p content inputs requests n).sched (state rule p content inputs requests n).core.window =
    (subst (InMode p periods (state rule p content inputs requests n).now (state rule p content inputs requests n).sched
    (state rule p content inputs requests n).core.window (state rule p content inputs requests n).core.debt) e
    (run_holds p periods rule content inputs requests n on).mode).0 in
    let past : (state rule p content inputs requests n).core.window.close < (state rule p content inputs requests n).now + longest =
    passed (state rule p content inputs requests n).now longest (state rule p content inputs requests n).core.window h.start closed in
    (omega (arith, h.more, now), omega (arith, past, h.close, now)) where
      passed : (now longest : ℕ) (w : Window) → w.start ≤ now → not (fits now w longest) ≡ true → w.close < now + longest
      passed now longest w le out = by (leb (now + longest) w.close) refl where
        by : (b : Bool) → leb (now + longest) w.close ≡ b → w.close < now + longest
        by true e = absurd (let x : false ≡ true = sym (ap (λ a. not (a && (leb (now + longest) w.close))) (le-leb w.start now le) ∙ ap not e) ∙ out in cc)
        by false e = leb-false (now + longest) w.close e

-- ---- intervals

module _ (longest opened : ℕ) where
  -- behind its `pm.exec` an interval has been closed for no more cycles than it takes to open, and the last ones
  abbrev InSpan : (now first stated had : ℕ) → Window → Type 0
  InSpan now first stated had w = (had ≤ opened + 1 + (now + longest - (first + stated + 1))) × IsOpen w now first stated

  abbrev Spans : Change → Phase → (now first stated had : ℕ) → Window → Type 0
  Spans Stay ph now first stated had w = ph ≡ Execution → InSpan now first stated had w
  Spans (Execute l) ph now first stated had w = ph ≡ Execution → InSpan now first stated had w
  Spans Memory ph now first stated had w = Unit {0}
  Spans End ph now first stated had w = InSpan now first stated had w
  Spans Job ph now first stated had w = Unit {0}

  span_on : (now first stated had : ℕ) (w : Window) → InSpan now first stated had w → InSpan (now + 1) first stated (had + counts longest true now w) w
  span_on now first stated had w h =
      let last : counts longest true now w + (now + longest - (first + stated + 1)) ≤ now + 1 + longest - (first + stated + 1) = open_counts longest true now first stated w h.1 in
      (omega (arith, h.0, last), record { start = omega (arith, h.1.start); close = h.1.close })

  spans_on : (mark : Change) (ph : Phase) (now first stated had : ℕ) (w : Window) → Spans mark ph now first stated had w → Spans mark ph (now + 1) first stated (had + counts longest true now w) w
  spans_on Stay ph now first stated had w h = λ e. span_on now first stated had w (h e)
  spans_on (Execute l) ph now first stated had w h = λ e. span_on now first stated had w (h e)
  spans_on Memory ph now first stated had w h = tt
  spans_on End ph now first stated had w h = span_on now first stated had w h
  spans_on Job ph now first stated had w h = tt

  -- an instruction issues
  spans_issue : (ph : Phase) (c : Change) (now first stated had : ℕ) (w : Window) → IsLawful ph c → had ≤ now - first → first ≤ now →
      ((l : ℕ) → c ≡ Execute l → now ≤ first + opened) → (ph ≡ Execution → InSpan now first stated had w) →
      Spans c (phase_after c ph) (now + 1) first (stated_after c stated) (had + counts longest true now w) (window_after c now first w)
  spans_issue ph Stay now first stated had w l few le soon h = λ e. span_on now first stated had w (h e)
  spans_issue ph Memory now first stated had w l few le soon h = tt
  spans_issue ph Job now first stated had w l few le soon h = tt
  spans_issue ph End now first stated had w l few le soon h = span_on now first stated had w (h l)
  spans_issue ph (Execute t) now first stated had w l few le soon h = λ _.
      let one : counts longest true now w ≤ 1 = one_most longest true now w in
      let early : now ≤ first + opened = soon t refl in
      (omega (arith, few, le, one, early), record { start = omega arith; close = omega arith })

  -- it ends
  spans_end : (mark : Change) (i : Interval) (ph : Phase) (ds : List Did) (stated now had : ℕ) (w : Window) → 1 ≤ longest → i.predictable ≡ true →
      ends_before now i mark ≡ true → Issued mark ph stated ds i → (mark ≡ End → now ≤ i.first + i.stated) → had ≤ now - i.first →
      Spans mark ph now i.first i.stated had w → had ≤ min i.stated (opened + longest)
  spans_end Stay i ph ds stated now had w some pred over y late few h = absurd (let z : false ≡ true = over in cc)
  spans_end (Execute l) i ph ds stated now had w some pred over y late few h = absurd (let z : false ≡ true = over in cc)
  spans_end Memory i ph ds stated now had w some pred over y late few h = absurd (let z : false ≡ true = sym y.0 ∙ pred in cc)
  spans_end Job i ph ds stated now had w some pred over y late few h = absurd (let z : false ≡ true = sym y.0 ∙ pred in cc)
  spans_end End i ph ds stated now had w some pred over y late few h =
      let at : now ≤ i.first + i.stated = late refl in
      omega (arith, at, few, h.0, some)

-- ---- closed cycles from one on

few_between : (states : ℕ → MachineState) (longest from n : ℕ) → closed_between states longest from n ≤ n
few_between states longest from zero = omega arith
few_between states longest from (suc n) = let was : closed_between states longest from n ≤ n = few_between states longest from n in
    let one : one_if (is_closed longest (states (from + n))) ≤ 1 = by (is_closed longest (states (from + n))) in omega (arith, was, one) where
      by : (b : Bool) → one_if b ≤ 1
      by true = omega arith
      by false = omega arith

between_next : (states : ℕ → MachineState) (longest from n : ℕ) → from ≤ n →
    closed_between states longest from (n + 1 - from) ≡ closed_between states longest from (n - from) + one_if (is_closed longest (states n))
between_next states longest from n le =
    let e : n + 1 - from ≡ suc (n - from) = omega (arith, le) in
    let f : from + (n - from) ≡ n = omega (arith, le) in
    ap (closed_between states longest from) e ∙ ap (λ m. closed_between states longest from (n - from) + one_if (is_closed longest (states m))) f

module _ (rule : ReplacementRule) (order : OrderRule) (passes : ℕ → ℕ) (p : Setup) (content : List ℕ) (inputs : List (List ℕ))
    (requests : List Request) (own : ℕ → ℕ → Bool) (runs : ℕ → TaskRun) (scripts : ℕ → Script) (policy : IsPolicy rule order passes)
    (keep : KeepScripts p passes runs scripts) (q : IsRunnable p content requests) (o : AreOwn p content inputs own runs)
    (longest opened : ℕ) (some : 1 ≤ longest) (opens : (k : ℕ) → k < length p.tasks → IsOpened p.plant (runs k) (scripts k) (λ i. opened)) where
  abbrev states : ℕ → MachineState
  states n = state rule p content inputs requests n

  abbrev start : MachineState
  start = start_of p inputs (memory_of p content)

  abbrev at : ℕ → ℕ → ℕ
  at n = issued_of rule p requests n start

  abbrev IsKnown : (ℕ → ℕ) → MachineState → Type 0
  IsKnown a s = Known rule order passes p content inputs requests own runs scripts policy keep q o a s

  abbrev IsKeeping : (ℕ → ℕ) → MachineState → Type 0
  IsKeeping a s = Keeps rule order passes p own runs scripts policy keep a s

  abbrev IsLasting : (ℕ → ℕ) → MachineState → Type 0
  IsLasting a s = Lasts rule order passes p own runs scripts policy keep a s

  -- the closed cycles of an interval before one
  abbrev had_in : (first now : ℕ) → ℕ
  had_in first now = closed_between states longest first (now - first)

  abbrev Spanned : (now : ℕ) (a : ℕ → ℕ) → CoreState → Type 0
  Spanned now a c =
      (k : ℕ) → c.mode ≡ Running k →
      (c.interval.first ≤ now) × (c.interval.predictable ≡ true →
      Spans longest opened c.mark (phase_at runs a k) now c.interval.first c.interval.stated (had_in c.interval.first now) c.window)

  abbrev MaySpan : (now : ℕ) (a : ℕ → ℕ) → ℕ → Interval → Window → Type 0
  MaySpan now a k i w = (i.first ≤ now) × (i.predictable ≡ true → phase_at runs a k ≡ Execution → InSpan longest opened now i.first i.stated (had_in i.first now) w)

  abbrev SpanMove : (now : ℕ) (a : ℕ → ℕ) → Window → CoreMove → Type 0
  SpanMove now a w (Passes c) = Spanned (now + 1) a c
  SpanMove now a w (Issues k i) = MaySpan now a k i w

  -- ---- the move

  module _ (n : ℕ) (a : ℕ → ℕ) (s : MachineState) (is : states n ≡ s) (now : s.now ≡ n) (h : Spanned s.now a s.core) where
    -- what the cycle counts
    counted : (first : ℕ) → first ≤ s.now → had_in first (s.now + 1) ≡ had_in first s.now + counts longest true s.now s.core.window
    counted first le =
        subst (λ t. closed_between states longest first (t + 1 - first) ≡ closed_between states longest first (t - first) + counts longest true s.now s.core.window) (sym now)
        (between_next states longest first n (omega (arith, le, now)) ∙ ap (λ (u : MachineState). closed_between states longest first (n - first) + one_if (is_closed longest u)) is)

    stays : (c' : CoreState) → c'.mode ≡ s.core.mode → c'.interval ≡ s.core.interval → c'.mark ≡ s.core.mark → c'.window ≡ s.core.window → Spanned (s.now + 1) a c'
    stays c' e f g w k run =
        let r : (s.core.interval.first ≤ s.now)
        × (s.core.interval.predictable ≡ true →
        Spans longest opened s.core.mark (phase_at runs a k) s.now s.core.interval.first s.core.interval.stated
        (had_in s.core.interval.first s.now) s.core.window) = h k (sym e ∙ run) in
        subst (λ (i : Interval). (i.first ≤ s.now + 1)
        × (i.predictable ≡ true → Spans longest opened c'.mark (phase_at runs a k) (s.now + 1) i.first i.stated (had_in i.first (s.now + 1))
        c'.window)) (sym f) (
          omega (arith, r.0),
          λ pred.
              subst (λ m. Spans longest opened m (phase_at runs a k) (s.now + 1) s.core.interval.first s.core.interval.stated (had_in s.core.interval.first (s.now + 1)) c'.window) (sym g)
              (subst (λ v. Spans longest opened s.core.mark (phase_at runs a k) (s.now + 1) s.core.interval.first s.core.interval.stated (had_in s.core.interval.first (s.now + 1)) v) (sym w)
              (subst (λ m. Spans longest opened s.core.mark (phase_at runs a k) (s.now + 1) s.core.interval.first s.core.interval.stated m s.core.window) (sym (counted s.core.interval.first r.0))
              (spans_on longest opened s.core.mark (phase_at runs a k) s.now s.core.interval.first s.core.interval.stated (had_in s.core.interval.first s.now) s.core.window (r.1 pred)))),
        )

    spans_goes : (mark : Change) (ph : Phase) (first stated had : ℕ) (w : Window) → Continues mark →
        Spans longest opened mark ph s.now first stated had w → ph ≡ Execution → InSpan longest opened s.now first stated had w
    spans_goes Stay ph first stated had w g r = r
    spans_goes (Execute l) ph first stated had w g r = r
    spans_goes Memory ph first stated had w g r = absurd g
    spans_goes End ph first stated had w g r = absurd g
    spans_goes Job ph first stated had w g r = absurd g

    moves_span : (bus : Bool) (w : Work) (m : CoreMove) → MoveCase p s.now bus s.sched w s.core m →
        ((k : ℕ) → k < length p.tasks → phase_in w k ≡ phase_at runs a k) → ((k : ℕ) → phase_in w k ≡ Execution → s.core.mode ≡ Running k) →
        ((k : ℕ) (i : Interval) → m ≡ Issues k i → k < length p.tasks) → SpanMove s.now a s.core.window m
    moves_span bus w _ (pays_on_bus y x) same alone there = stays (with_debt s.core (paid_on_bus s.core.debt.transactions s.core.debt)) refl refl refl refl
    moves_span bus w _ (is_denied y x) same alone there = stays s.core refl refl refl refl
    moves_span bus w _ (pays_cost k cost y e x) same alone there = stays (with_cost s.core cost) refl refl refl refl
    moves_span bus w _ (waits k y e x z) same alone there = stays s.core refl refl refl refl
    moves_span bus w _ (has_finished y e x) same alone there = stays s.core refl refl refl refl
    moves_span bus w _ (idles until y e) same alone there = stays s.core refl refl refl refl
    moves_span bus w _ (goes_on k y e x z) same alone there =
        let r = h k e in
        (r.0, λ pred ex. spans_goes s.core.mark (phase_at runs a k) s.core.interval.first s.core.interval.stated (had_in s.core.interval.first s.now) s.core.window z (r.1 pred) ex)
    moves_span bus w _ (switches k left y e) same alone there = λ j x. absurd (let z : Switching k left ≡ Running j = x in cc)
    moves_span bus w _ (chooses k left y e x z) same alone there = λ j v. absurd (let u : Switching k left ≡ Running j = v in cc)
    moves_span bus w _ (begins_idle until y e x) same alone there = λ j v. absurd (let u : Idle until ≡ Running j = v in cc)
    moves_span bus w _ (begins k y e) same alone there =
        (omega arith, λ pred ex. absurd (let z : Switching k zero ≡ Running k = sym e ∙ alone k (same k (there k _ refl) ∙ ex) in cc))
    moves_span bus w _ (chooses_now k y e x z) same alone there =
        (omega arith, λ pred ex. absurd (let u : Point ≡ Running k = sym e ∙ alone k (same k (there k _ refl) ∙ ex) in cc))

    -- ---- an instruction

    turn_span : (m : CoreMove) (w : Work) (c : Counts) → Stands p own runs a w → Runs p own runs → Scheduled p runs a s.sched m →
        Moves order p.plant (length p.tasks) runs scripts a (lines_in w.cache) m →
        ClockMove order p.plant (length p.tasks) runs scripts s.now a (lines_in w.cache) m → SpanMove s.now a s.core.window m →
        Spanned (s.now + 1) (bump_move m a) (core_turn rule p s.now m w s.core c).core
    turn_span (Passes c') w c st rs j r cl b = b
    turn_span (Issues k i) w c st rs u r cl b =
        let lt : k < length p.tasks = u.unfinished.bound in
        let x : Issuing p (own k) (runs k) (a k) k w = issuing p own runs a w k rs st u.unfinished in
        let t : Task = task_in w k in
        let did : plain_did (runs k) (plain_run (runs k) (a k)) ≡ Some (did_of t.pc t.phase x.instr x.effect) = issuing_did p (own k) runs a k w u.unfinished (st.each k lt) x in
        let d : Did = did_of t.pc t.phase x.instr x.effect in
        let ex : Executed (runs k) (plain_run (runs k) (a k)) d = executed (runs k) (plain_run (runs k) (a k)) d did in
        let l : IsLawful (phase_at runs a k) d.change = did_lawful (runs k) (plain_run (runs k) (a k)) d ex in
        let next : phase_at runs (bump k a) k ≡ phase_after d.change (phase_at runs a k) =
        ap (λ v. v.task.phase) (bump_run order p.plant (length p.tasks) runs scripts a (lines_in w.cache) k)
        ∙ next_phase (runs k) (plain_run (runs k) (a k)) d ex in
        let sets : length (lines_in w.cache) ≡ p.plant.sets = sets_are rule order passes p own runs scripts policy keep w st.kept in
        let plant : IsPlant p.plant = kept_plant p w.cache w.memory st.kept in
        let pos : 1 ≤ p.plant.sets = plant.sets.0 in
        let soon : (l : ℕ) → d.change ≡ Execute l → s.now ≤ i.first + opened =
        (λ v e. opened_by order p.plant s.now i.first opened (call_of (scripts k) (begun_at runs a k)) (begun_at runs a k).steps (lines_in w.cache) policy.once (omega (arith, pos, sets))
        (subst (λ n. HaveRoom n p.plant.ways (call_of (scripts k) (begun_at runs a k)).members) (sym sets) ((keep k lt).room _))
        (in_script p.plant passes (runs k) (scripts k) (keep k lt) (a k)).within
        ((opens k lt).calls (a k) v d did e) (cl (sym r.goes.kind ∙ ap is_predictable (subst (IsLawful (phase_at runs a k)) e l)))) in
        subst (λ e. Spanned (s.now + 1) (bump k a) (core_issue rule p s.now k i e w s.core c).core) (sym (x.behind rule policy.keeps))
        (λ j run. own_one k j i d run did next l soon r.goes b) where
          own_one : (k j : ℕ) (i : Interval) (d : Did) → Running k ≡ Running j → plain_did (runs k) (plain_run (runs k) (a k)) ≡ Some d →
              phase_at runs (bump k a) k ≡ phase_after d.change (phase_at runs a k) → IsLawful (phase_at runs a k) d.change →
              ((l : ℕ) → d.change ≡ Execute l → s.now ≤ i.first + opened) →
              Goes (phase_at runs a k) (call_of (scripts k) (begun_at runs a k)).stated i → MaySpan s.now a k i s.core.window →
              (i.first ≤ s.now + 1) × (i.predictable ≡ true →
              Spans longest opened d.change (phase_at runs (bump k a) j) (s.now + 1) i.first (stated_after d.change i.stated)
              (had_in i.first (s.now + 1)) (window_after d.change s.now i.first s.core.window))
          own_one k j i d run did next l soon goes b =
              let same : k ≡ j = cc in (
                omega (arith, b.0),
                λ pred.
                    subst (λ v. Spans longest opened d.change (phase_at runs (bump k a) v) (s.now + 1) i.first (stated_after d.change i.stated)
                    (had_in i.first (s.now + 1)) (window_after d.change s.now i.first s.core.window)) same
                    (subst (λ v. Spans longest opened d.change v (s.now + 1) i.first (stated_after d.change i.stated) (had_in i.first (s.now + 1))
                    (window_after d.change s.now i.first s.core.window)) (sym next)
                    (subst (λ v. Spans longest opened d.change (phase_after d.change (phase_at runs a k)) (s.now + 1) i.first
                    (stated_after d.change i.stated) v (window_after d.change s.now i.first s.core.window)) (sym (counted i.first b.0))
                    (spans_issue longest opened (phase_at runs a k) d.change s.now i.first i.stated (had_in i.first s.now) s.core.window l
                    (few_between states longest i.first (s.now - i.first)) b.0 soon (b.1 pred)))),
              )

  -- ---- the end of a cycle

  abbrev IsShort : EndedInterval → Type 0
  IsShort e = IsShortlyClosed states longest opened e

  record Settled (a : ℕ → ℕ) (s : MachineState) : Type 0 where
    spanned : Spanned s.now a s.core
    short : All IsShort s.log.intervals

  none_runs : (now : ℕ) (a : ℕ → ℕ) (c : CoreState) → c.mode ≡ Point → Spanned now a c
  none_runs now a c e k run = absurd (let z : Point ≡ Running k = sym e ∙ run in cc)

  settle_span : (a : ℕ → ℕ) (m : Mode) (s : MachineState) → s.core.mode ≡ m → Spanned s.now a s.core → All IsShort s.log.intervals →
      Resides order p.plant (length p.tasks) runs scripts a (lines_in s.work.cache) s.core.mode s.core.interval s.core.mark →
      Clock order p.plant (length p.tasks) runs scripts s.now a (lines_in s.work.cache) s.core.mode s.core.interval s.core.mark s.core.debt →
      Settled a (settle m s)
  settle_span a Point s e h all r c = record { spanned = h; short = all }
  settle_span a (Switching k left) s e h all r c = record { spanned = h; short = all }
  settle_span a (Running k) s e h all r c =
      cond_both (is_paid s.core.debt && ends_before s.now s.core.interval s.core.mark) (close_interval k s) s (Settled a)
      (λ over.
      let parts : (is_paid s.core.debt ≡ true) × (ends_before s.now s.core.interval s.core.mark ≡ true) = and_parts (is_paid s.core.debt) (ends_before s.now s.core.interval s.core.mark) over in
      record {
        spanned = none_runs s.now a (at_point s.core) refl;
        short = All-push IsShort s.log.intervals (ended_interval s.now k s.core.interval) all
            (λ pred. spans_end longest opened s.core.mark s.core.interval (phase_at runs a k) (begun_at runs a k).steps
            (call_of (scripts k) (begun_at runs a k)).stated s.now (had_in s.core.interval.first s.now) s.core.window some pred parts.1
            (r.runs_in k e).issued
            (λ m. let y : s.now + owed_of s.core.debt ≤ s.core.interval.first + s.core.interval.stated =
            subst (λ x. InTime order p.plant x s.now (owed_of s.core.debt) s.core.interval (begun_at runs a k).steps (lines_in s.work.cache)) m
            (c.in_time k e pred) in omega (arith, y))
            (few_between states longest s.core.interval.first (s.now - s.core.interval.first)) ((h k e).1 pred));
      })
      (λ _. record { spanned = h; short = all })
  settle_span a (Idle until) s e h all r c =
      cond_both (ltb s.now until) s (record s { core = at_point s.core }) (Settled a)
      (λ _. record { spanned = h; short = all })
      (λ _. record { spanned = none_runs s.now a (at_point s.core) refl; short = all })

  ticked_span : (a : ℕ → ℕ) (s : MachineState) → s.trapped ≡ None → Spanned (s.now + 1) a s.core → All IsShort s.log.intervals →
      Resides order p.plant (length p.tasks) runs scripts a (lines_in s.work.cache) s.core.mode s.core.interval s.core.mark →
      Clock order p.plant (length p.tasks) runs scripts (s.now + 1) a (lines_in s.work.cache) s.core.mode s.core.interval s.core.mark s.core.debt →
      Settled a (ticked s)
  ticked_span a s u h all r c =
      subst (λ t. Settled a (cond (is_some t) s (next_cycle s))) (sym u)
      (settle_span a s.core.mode (with_now s (s.now + 1)) refl h all r c)

  -- ---- a cycle

  issues_there : (a : ℕ → ℕ) (sched : List TaskJobs) (m : CoreMove) → Scheduled p runs a sched m → (k : ℕ) (i : Interval) → m ≡ Issues k i → k < length p.tasks
  issues_there a sched m h k i e = (subst (Scheduled p runs a sched) e h).unfinished.bound

  cycle_span : (n : ℕ) (s : MachineState) (xs : List CycleStep) → states n ≡ s → s.now ≡ n → IsKnown (λ j. count_of j xs) s →
      IsKeeping (λ j. count_of j xs) s → IsLasting (λ j. count_of j xs) s → Spanned s.now (λ j. count_of j xs) s.core → All IsShort s.log.intervals →
      Settled (λ j. count_of j (with_last (step_with rule p (bus_at (arrivals_at requests s).gates s) s) xs)) (cycle_of rule p requests s)
  cycle_span n s xs is now kn ke l h all =
      let a : ℕ → ℕ = λ j. count_of j xs in
      let ar : Arrivals = arrivals_at requests s in
      let b : Turned = bus_at ar.gates s in
      let w : Work = with_memory b.memory s.work in
      let cs : Counts = with_clash b.turn.clash s.log.counts in
      let rs : Runs p own runs = own_runs rule order passes p content inputs requests own runs scripts policy keep q o in
      let f : Meets p own b (move_at p b s) s = meets rule order passes p content inputs requests own runs scripts policy keep q o a s kn ke in
      let fa : Faces rule order passes p own runs scripts policy keep rs a b (move_at p b s) s =
      faces rule order passes p own runs scripts policy keep rs a b (move_at p b s) s (known_core rule order passes p content inputs requests own runs scripts policy keep q o a s kn) ke f in
      let cm : ClockMove order p.plant (length p.tasks) runs scripts s.now a (lines_in w.cache) (move_at p b s) =
      clock_moves order p.plant (length p.tasks) runs scripts a (lines_in w.cache) s.now p b.turn.core s.sched w s.core (move_at p b s) (move_cases p s.now b.turn.core s.sched w s.core) f.serves
      (λ j e none pred.
      let lt : j < length p.tasks = (subst (Scheduled p runs a s.sched) e fa.scheduled).unfinished.bound in
      ke.resides.rests j lt none (ap is_predictable (sym (fa.phases.same j lt)) ∙ pred))
      l.goes_on l.clock in
      let ms : SpanMove s.now a s.core.window (move_at p b s) =
      moves_span n a s is now h b.turn.core w (move_at p b s) (move_cases p s.now b.turn.core s.sched w s.core) fa.phases.same fa.phases.runs_alone
      (issues_there a s.sched (move_at p b s) fa.scheduled) in
      let c : Comes rule order passes p own runs scripts policy keep rs a ar b (move_at p b s) s = coming rule order passes p content inputs requests own runs scripts policy keep q o a s kn ke in
      let tb : Spanned (s.now + 1) (bump_move (move_at p b s) a) (core_at rule p b s).core = turn_span n a s is now h (move_at p b s) w cs fa.stands rs fa.scheduled fa.moves_to cm ms in
      subst (λ v. Settled v (cycle_of rule p requests s)) (λ x i. count_move rule p s.now w (move_at p b s) xs i c.issued x)
      (ticked_span (bump_move (move_at p b s) a) (joined ar b (core_at rule p b s) s) c.position.untrapped tb all c.turn.resides
      (core_clock rule order passes p own runs scripts policy keep rs a b (move_at p b s) s ke l f fa))

  -- ---- all states

  record Through (n : ℕ) : Type 0 where
    spanned : is_over (states n) ≡ false → Spanned (states n).now (at n) (states n).core
    short : All IsShort (states n).log.intervals

  first_through : Through 0
  unfolding cycles_of steps_of
  first_through = record { spanned = λ on. none_runs 0 (at 0) (states 0).core refl; short = All-nil IsShort }

  next_settled : (n : ℕ) → Through n → is_over (states n) ≡ false → Settled (at (suc n)) (states (suc n))
  unfolding cycles_of steps_of
  next_settled n t on =
      let s : MachineState = states n in
      let xs : List CycleStep = steps_of rule p requests n start in
      let none : Option CycleStep = None in
      subst (λ b. Settled (λ j. count_of j (with_last (cond b none (step_with rule p (bus_at (arrivals_at requests s).gates s) s)) xs)) (cond b s (cycle_of rule p requests s))) (sym on)
      (cycle_span n s xs refl (run_of-now rule p content inputs requests n on) (known rule order passes p content inputs requests own runs scripts policy keep q o n)
      (run_keeps rule order passes p content inputs requests own runs scripts policy keep q o n) (run_lasts rule order passes p content inputs requests own runs scripts policy keep q o n)
      (t.spanned on) t.short)

  over_next : (n : ℕ) → is_over (states n) ≡ true → Through n → Through (suc n)
  over_next n over t =
      let e : states (suc n) ≡ states n = stays_is rule p content inputs requests n over in
      record {
        spanned = λ on'. let x : true ≡ false = sym over ∙ ap is_over (sym e) ∙ on' in absurd cc;
        short = subst (λ (s : MachineState). All IsShort s.log.intervals) (sym e) t.short;
      }

  through_spans : (n : ℕ) → Through n
  through_spans zero = first_through
  through_spans (suc n) =
      ⊎_elim (λ (over : is_over (states n) ≡ true). over_next n over (through_spans n))
      (λ (on : is_over (states n) ≡ false).
      let c : Settled (at (suc n)) (states (suc n)) = next_settled n (through_spans n) on in
      record { spanned = λ _. c.spanned; short = c.short })
      (cases_Bool (is_over (states n)))

pub intervals_keep_closed : IntervalsKeepClosed
intervals_keep_closed rule order passes p content inputs requests own runs scripts longest opened n policy run is some opens =
    (through_spans rule order passes p content inputs requests own runs scripts policy is.each run.runnable is.own_runs longest opened some opens n).short
