-- A cycle of a core whose tasks keep to their scripts: each predictable interval that has ended has lasted as long as it stated.
use Rattle.std.proofs.Common.{◌≡◌, ℕ, ◌+◌, ◌-◌, ◌<◌, ◌≤◌, refl, ap, ◌∙◌, sym, subst, cond, ltb, true, false, Bool, Some, None, Option, List, length, ◌∷◌, arith, []}
use Rattle.std.specs.Prelude.{All, is_some, ◌&&◌}
use Rattle.prem_sound.proofs.Prelude.{issuing_did, MayMove, does, stands_still, turn_with, Moves as Scheduled, bump, Stands, Issuing, Runs, bump_move, issuing, kept_plant, phase_in, want_of}
use Rattle.prem_sound.proofs.Prelude.{is_paid, CoreMove, Passes, Issues, is_predictable, new_interval, stated_after, core_issue, core_turn, Arrivals, with_memory, with_clash, joined}
use Rattle.prem_sound.proofs.Prelude.{ends_before, ended_interval, at_point, close_interval, settle, with_now, next_cycle, ticked, issued_by, owed_by, Attempt, Traps, Executes, LineTouch}
use Rattle.prem_sound.proofs.Prelude.{attempt_behind, one_if, with_touch, with_touches, with_store, Setup, Work, CoreState, Counts, MachineState, start_of, task_in, Interval, Mode, Point}
use Rattle.prem_sound.proofs.Prelude.{Switching, Running, Idle, Turned, wants, plain_fits, cost_of, TaskRun, Did, did_of, plain_did, plain_run, Phase, Stored, ReplacementRule, lines_in}
use Rattle.prem_sound.proofs.Prelude.{OrderRule, TaskJobs, LastsAsStated, IsPolicy, lines_of_did, call_of, Script, and_parts, cond_both, All-nil, All-push}
use Rattle.prem_sound.proofs.Lasts.{Clock, GoesOn, ClockMove, clock_moves, clock_issues, lasted, never_over}
use Rattle.prem_sound.proofs.ResidentLemmas.Counted.{AttemptFits, attempt_fits}
use Rattle.prem_sound.proofs.ResidentLemmas.Facing.{Meets, Faces, Comes}
use Rattle.prem_sound.proofs.ResidentLemmas.Keeps.{sets_are, KeepScripts, Keeps}
use Rattle.prem_sound.proofs.ResidentLemmas.Residents.{phase_at, begun_at, Resides, Moves}
use Rattle.prem_sound.proofs.ResidentLemmas.Touches.{TouchesLines, issue_touches}

-- ---- overruns

touch_overruns : (phase : Phase) (ts : List LineTouch) (n : Counts) → (with_touches phase ts n).overruns ≡ n.overruns
touch_overruns phase [] n = refl
touch_overruns phase (t ∷ ts) n = touch_overruns phase ts (with_touch phase t n)

store_overruns : (phase : Phase) (o : Option Stored) (n : Counts) → (with_store phase o n).overruns ≡ n.overruns
store_overruns phase None n = refl
store_overruns phase (Some s) n = refl

issue_overruns : (rule : ReplacementRule) (p : Setup) (now k : ℕ) (i : Interval) (a : Attempt) (w : Work) (c : CoreState) (n : Counts) →
    (core_issue rule p now k i a w c n).counts.overruns ≡ n.overruns
issue_overruns rule p now k i (Traps cause) w c n = refl
issue_overruns rule p now k i (Executes instr e) w c n =
    store_overruns (phase_in w k) e.stored (with_touches (phase_in w k) (issued_by rule p k e w).touches n) ∙ touch_overruns (phase_in w k) (issued_by rule p k e w).touches n

-- an overrun is counted where an interval ends alone
turn_overruns : (rule : ReplacementRule) (p : Setup) (now : ℕ) (m : CoreMove) (w : Work) (c : CoreState) (n : Counts) → (core_turn rule p now m w c n).counts.overruns ≡ n.overruns
turn_overruns rule p now (Passes c') w c n = refl
turn_overruns rule p now (Issues k i) w c n = issue_overruns rule p now k i (attempt_behind rule p k w) w c n

-- ---- a move that may be none

may_clock : (order : OrderRule) (p : Setup) (runs : ℕ → TaskRun) (scripts : ℕ → Script) (at : ℕ → ℕ) (orders : List (List ℕ)) (now : ℕ) (had : Bool)
    (sched : List TaskJobs) (w : Work) (c : CoreState) (m : CoreMove) → MayMove p now had sched w c m → (wants (want_of c.debt) ≡ true → had ≡ true) →
    ((j : ℕ) → m ≡ Issues j (new_interval now (phase_in w j)) → (c.mode ≡ Running j → ⊥) → is_predictable (phase_in w j) ≡ true →
    (begun_at runs at j).steps ≡ []) → GoesOn order p.plant (length p.tasks) runs scripts now c.mode c.interval c.mark c.debt →
    Clock order p.plant (length p.tasks) runs scripts now at orders c.mode c.interval c.mark c.debt →
    ClockMove order p.plant (length p.tasks) runs scripts now at orders m
may_clock order p runs scripts at orders now had sched w c _ (does m x) serves fresh on r =
    clock_moves order p.plant (length p.tasks) runs scripts at orders now p had sched w c m x serves fresh on r
may_clock order p runs scripts at orders now had sched w c _ (stands_still e) serves fresh on r =
    record { positive = r.positive; in_time = λ j x. absurd (let y : Point ≡ Running j = sym e ∙ x in cc) }

module _ (rule : ReplacementRule) (order : OrderRule) (passes : ℕ → ℕ) (p : Setup) (own : ℕ → ℕ → Bool) (runs : ℕ → TaskRun) (scripts : ℕ → Script)
    (policy : IsPolicy rule order passes) (keep : KeepScripts p passes runs scripts) where
  abbrev ClockAt : ℕ → (ℕ → ℕ) → Work → CoreState → Type 0
  ClockAt now at w c = Clock order p.plant (length p.tasks) runs scripts now at (lines_in w.cache) c.mode c.interval c.mark c.debt

  -- ---- the core's part

  turn_clock : (at : ℕ → ℕ) (now : ℕ) (sched : List TaskJobs) (m : CoreMove) (w : Work) (c : CoreState) (n : Counts) → Stands p own runs at w →
      Runs p own runs → Scheduled p runs at sched m → Moves order p.plant (length p.tasks) runs scripts at (lines_in w.cache) m →
      ClockMove order p.plant (length p.tasks) runs scripts now at (lines_in w.cache) m →
      ClockAt (now + 1) (bump_move m at) (core_turn rule p now m w c n).work (core_turn rule p now m w c n).core
  turn_clock at now sched (Passes c') w c n s rs j r h = h
  turn_clock at now sched (Issues k i) w c n s rs j r h =
      let lt : k < length p.tasks = j.unfinished.bound in
      let x : Issuing p (own k) (runs k) (at k) k w = issuing p own runs at w k rs s j.unfinished in
      let did : plain_did (runs k) (plain_run (runs k) (at k)) ≡ Some (did_of (task_in w k).pc (task_in w k).phase x.instr x.effect) = issuing_did p (own k) runs at k w j.unfinished (s.each k lt) x in
      let d : Did = did_of (task_in w k).pc (task_in w k).phase x.instr x.effect in
      let fits : AttemptFits (runs k).size (task_in w k) x.effect =
      attempt_fits (runs k).target (runs k).size (plain_run (runs k) (at k)).task.view (task_in w k) x.instr x.effect
      (plain_fits (runs k) (rs.is k lt).fits (at k)).task.bytes x.alone in
      let touches : TouchesLines order p.plant.ways w.cache (lines_of_did p.plant.line d) (issued_by rule p k x.effect w) =
      issue_touches rule order policy.moves p k x.effect w policy.keeps s.kept (subst (λ m. (task_in w k).pc + 4 ≤ m) (rs.is k lt).size fits.within) in
      subst (λ a. ClockAt (now + 1) (bump k at) (core_issue rule p now k i a w c n).work (core_issue rule p now k i a w c n).core) (sym (x.behind rule policy.keeps))
      (subst (λ l. Clock order p.plant (length p.tasks) runs scripts (now + 1) (bump k at) l (Running k)
      (record i { stated = stated_after x.effect.change i.stated }) x.effect.change
      (record { transactions = owed_by p.plant (issued_by rule p k x.effect w).touches; begun = false; cost = cost_of x.instr - 1 }))
      (sym touches.lines_are)
      (clock_issues order p.plant (length p.tasks) runs scripts at (lines_in w.cache) now passes k i d (issued_by rule p k x.effect w).touches (kept_plant p w.cache w.memory s.kept) policy.once
      (sets_are rule order passes p own runs scripts policy keep w s.kept) (keep k lt) did touches.misses_are r h))

  -- ---- the end of a cycle

  -- what is known of the time of a state
  pub record Lasts (at : ℕ → ℕ) (s : MachineState) : Type 0 where
    pub clock : ClockAt s.now at s.work s.core
    pub goes_on : GoesOn order p.plant (length p.tasks) runs scripts s.now s.core.mode s.core.interval s.core.mark s.core.debt
    pub lasts : All LastsAsStated s.log.intervals
    pub in_time : s.log.counts.overruns ≡ 0

  none_runs : (now : ℕ) (mode : Mode) (c : CoreState) → ((k : ℕ) → mode ≡ Running k → ⊥) → GoesOn order p.plant (length p.tasks) runs scripts now mode c.interval c.mark c.debt
  none_runs now mode c none k e = absurd (none k e)

  settle_lasts : (at : ℕ → ℕ) (m : Mode) (s : MachineState) → s.core.mode ≡ m → ClockAt s.now at s.work s.core →
      Resides order p.plant (length p.tasks) runs scripts at (lines_in s.work.cache) s.core.mode s.core.interval s.core.mark →
      All LastsAsStated s.log.intervals → s.log.counts.overruns ≡ 0 → Lasts at (settle m s)
  settle_lasts at Point s e c r h z = record { clock = c; goes_on = none_runs s.now s.core.mode s.core (λ k x. let y : Point ≡ Running k = sym e ∙ x in cc); lasts = h; in_time = z }
  settle_lasts at (Switching k left) s e c r h z =
      record { clock = c; goes_on = none_runs s.now s.core.mode s.core (λ j x. let y : Switching k left ≡ Running j = sym e ∙ x in cc); lasts = h; in_time = z }
  settle_lasts at (Running k) s e c r h z =
      cond_both (is_paid s.core.debt && ends_before s.now s.core.interval s.core.mark) (close_interval k s) s (Lasts at)
      (λ over. record {
        clock = record { positive = c.positive; in_time = λ j x. absurd (let y : Point ≡ Running j = x in cc) };
        goes_on = λ j x. absurd (let y : Point ≡ Running j = x in cc);
        lasts = All-push LastsAsStated s.log.intervals (ended_interval s.now k s.core.interval) h
            (lasted order p.plant (length p.tasks) runs scripts s.now k s.core.interval s.core.mark s.core.debt (phase_at runs at k)
            (call_of (scripts k) (begun_at runs at k)).stated (begun_at runs at k).steps (lines_in s.work.cache)
            (and_parts (is_paid s.core.debt) (ends_before s.now s.core.interval s.core.mark) over).1 (r.runs_in k e).issued (c.in_time k e));
        in_time = ap (λ b. s.log.counts.overruns + one_if b)
            (never_over order p.plant (length p.tasks) runs scripts s.now s.core.interval s.core.mark s.core.debt (phase_at runs at k)
            (call_of (scripts k) (begun_at runs at k)).stated (begun_at runs at k).steps (lines_in s.work.cache)
            (r.runs_in k e).issued (c.in_time k e)) ∙ (let y : s.log.counts.overruns ≡ 0 = z in omega arith);
      })
      (λ on. record { clock = c; goes_on = λ j x. on; lasts = h; in_time = z })
  settle_lasts at (Idle until) s e c r h z =
      cond_both (ltb s.now until) s (record s { core = at_point s.core }) (Lasts at)
      (λ _. record { clock = c; goes_on = none_runs s.now s.core.mode s.core (λ j x. let y : Idle until ≡ Running j = sym e ∙ x in cc); lasts = h; in_time = z })
      (λ _. record {
        clock = record { positive = c.positive; in_time = λ j x. absurd (let y : Point ≡ Running j = x in cc) };
        goes_on = λ j x. absurd (let y : Point ≡ Running j = x in cc);
        lasts = h;
        in_time = z;
      })

  ticked_lasts : (at : ℕ → ℕ) (s : MachineState) → s.trapped ≡ None → ClockAt (s.now + 1) at s.work s.core →
      Resides order p.plant (length p.tasks) runs scripts at (lines_in s.work.cache) s.core.mode s.core.interval s.core.mark →
      All LastsAsStated s.log.intervals → s.log.counts.overruns ≡ 0 → Lasts at (ticked s)
  ticked_lasts at s u c r h z =
      subst (λ t. Lasts at (cond (is_some t) s (next_cycle s))) (sym u)
      (settle_lasts at s.core.mode (with_now s (s.now + 1)) refl c r h z)

  -- ---- a cycle

  -- the clock behind the core's part
  pub core_clock : (rs : Runs p own runs) (at : ℕ → ℕ) (b : Turned) (m : CoreMove) (s : MachineState) →
      Keeps rule order passes p own runs scripts policy keep at s → Lasts at s → Meets p own b m s →
      Faces rule order passes p own runs scripts policy keep rs at b m s →
      ClockAt (s.now + 1) (bump_move m at) (turn_with rule p b m s).work (turn_with rule p b m s).core
  core_clock rs at b m s h l meets f =
      let w : Work = with_memory b.memory s.work in
      let cm : ClockMove order p.plant (length p.tasks) runs scripts s.now at (lines_in w.cache) m =
      may_clock order p runs scripts at (lines_in w.cache) s.now b.turn.core s.sched w s.core m meets.may meets.serves
      (λ j e none pred.
      let lt : j < length p.tasks = (subst (Scheduled p runs at s.sched) e f.scheduled).unfinished.bound in
      h.resides.rests j lt none (ap is_predictable (sym (f.phases.same j lt)) ∙ pred))
      l.goes_on l.clock in
      turn_clock at s.now s.sched m w s.core (with_clash b.turn.clash s.log.counts) f.stands rs f.scheduled f.moves_to cm

  -- behind the end of the cycle
  pub core_lasts : (rs : Runs p own runs) (at : ℕ → ℕ) (a : Arrivals) (b : Turned) (m : CoreMove) (s : MachineState) →
      Keeps rule order passes p own runs scripts policy keep at s → Lasts at s → Meets p own b m s →
      Faces rule order passes p own runs scripts policy keep rs at b m s → Comes rule order passes p own runs scripts policy keep rs at a b m s →
      Lasts (bump_move m at) (ticked (joined a b (turn_with rule p b m s) s))
  core_lasts rs at a b m s h l meets f c =
      ticked_lasts (bump_move m at) (joined a b (turn_with rule p b m s) s) c.position.untrapped
      (core_clock rs at b m s h l meets f) c.turn.resides l.lasts
      (turn_overruns rule p s.now m (with_memory b.memory s.work) s.core (with_clash b.turn.clash s.log.counts) ∙ l.in_time)

  -- ---- the start

  pub start_lasts : (inputs : List (List ℕ)) (memory : List ℕ) → Lasts (λ k. 0) (start_of p inputs memory)
  start_lasts inputs memory = record {
    clock = record { positive = tt; in_time = λ k e. absurd (let x : Point ≡ Running k = e in cc) };
    goes_on = λ k e. absurd (let x : Point ≡ Running k = e in cc);
    lasts = All-nil LastsAsStated;
    in_time = refl;
  }
