-- Where the tasks stand behind the core's part of a cycle, and behind the cycle.
use Rattle.std.proofs.Common.{◌≡◌, ℕ, ◌+◌, ◌<◌, refl, ap, ◌∙◌, sym, subst, arith, cond, ltb, None, true, Bool, List, [], length, get_or, ⊎_elim}
use Rattle.std.specs.Prelude.{slice_set, is_some, ◌&&◌}
use Rattle.prem_cycle.proofs.Prelude.{plain_of, ended_after, is_paid, CoreMove, Passes, Issues, CoreTurn, core_issue, core_turn, Arrivals, with_memory, with_clash, move_at, core_at, joined}
use Rattle.prem_cycle.proofs.Prelude.{ends_before, at_point, close_interval, settle, with_now, next_cycle, ticked, cycle_with, task_after, issued_by, StaysOwn, Setup, record_of, no_record}
use Rattle.prem_cycle.proofs.Prelude.{first_task, Task, Work, CoreState, Counts, MachineState, task_in, Mode, Point, Switching, Running, Idle, Turned, with_stored, TaskRun, PlainState}
use Rattle.prem_cycle.proofs.Prelude.{is_running, plain_run, Change, Stay, Memory, Execute, End, Job, view_of, ReplacementRule, IsRule, task_at, TaskJobs, cases_eq, cond_both, lt-ltb}
use Rattle.prem_cycle.proofs.Prelude.{get_or-set_same, get_or-set_other, length-set}
use Rattle.prem_cycle.proofs.CoreCases.{move_cases}
use Rattle.prem_cycle.proofs.RunsLemmas.PositionLemmas.MayMoves.{turn_with}
use Rattle.prem_cycle.proofs.RunsLemmas.PositionLemmas.Schedules.{ends_job, ended_more, uncounted, uncounted_same, uncounted_other, Unfinished, GoesOn, Schedules, Ready, Moves, moves}
use Rattle.prem_cycle.proofs.RunsLemmas.PositionLemmas.Schedules.{closes, idle_ends}
use Rattle.prem_cycle.proofs.RunsLemmas.PositionLemmas.Stands.{stored_out, after_registers, bump, bump_same, bump_other, IsAt, Stands, Issuing, IsRun, issue_matches}
use Rattle.prem_cycle.proofs.RunsLemmas.PositionLemmas.Works.{IsKept, Issue, stored_same}

-- each task's run, and whose the bytes are
pub record Runs (p : Setup) (own : ℕ → ℕ → Bool) (runs : ℕ → TaskRun) : Type 0 where
  pub is : (k : ℕ) → k < length p.tasks → IsRun p k (runs k)
  pub stay : (k : ℕ) → k < length p.tasks → StaysOwn p (own k) (runs k)
  pub apart : (j k a : ℕ) → j < length p.tasks → k < length p.tasks → own j a ≡ true → own k a ≡ true → j ≡ k

-- ---- an instruction

at_next : (run : TaskRun) (n : ℕ) (t : Task) (view : ℕ → ℕ) (ended : ℕ) → plain_run run n ≡ plain_of t view ended → plain_of t (plain_run run n).task.view (plain_run run n).ended ≡ plain_run run n
at_next run n t view ended e = ap (λ (q : PlainState). plain_of t q.task.view q.ended) e ∙ sym e

module _ (p : Setup) (own : ℕ → ℕ → Bool) (runs : ℕ → TaskRun) (at : ℕ → ℕ) where
  -- the task that issues, and the others
  issued_stands : (rule : ReplacementRule) (k : ℕ) (w : Work) → IsRule rule → Runs p own runs → Stands p own runs at w → k < length p.tasks →
      (i : Issuing p (own k) (runs k) (at k) k w) → Stands p own runs (bump k at) (issued_by rule p k i.effect w).work
  issued_stands rule k w r rs s lt i =
      let t : Task = task_after (record_of p k) i.effect (task_in w k) in
      let w' : Work = (issued_by rule p k i.effect w).work in
      let f : Issue p (slice_set w.tasks k t) i.effect.stored (view_of w.cache w.memory) w' = i.work rule r in
      let next : plain_run (runs k) (bump k at k) ≡ plain_of t (with_stored i.effect.stored (plain_run (runs k) (at k)).task.view) (ended_after i.effect.change (plain_run (runs k) (at k)).ended) =
      ap (plain_run (runs k)) (bump_same k at) ∙ i.next in
      let here : task_in w' k ≡ t = ap (λ ts. get_or ts k (first_task no_record [])) f.tasks_are ∙ get_or-set_same w.tasks k t (first_task no_record []) (omega (arith, s.count)) in
      record {
        count = ap length f.tasks_are ∙ length-set w.tasks k t ∙ s.count;
        each = λ j lj.
            ⊎_elim (λ (e : j ≡ k).
            subst (λ x. IsAt (runs x) (bump k at x) (task_in w' x)) (sym e)
            (subst (IsAt (runs k) (bump k at k)) (sym here)
            (record {
              same = at_next (runs k) (bump k at k) t _ _ next;
              registers = after_registers (record_of p k) i.effect (task_in w k) (s.each k lt).registers;
            })))
            (λ (ne : j ≡ k → ⊥).
            subst (λ n. IsAt (runs j) n (task_in w' j)) (sym (bump_other k j at ne))
            (subst (IsAt (runs j) (at j)) (sym (ap (λ ts. get_or ts j (first_task no_record [])) f.tasks_are ∙ get_or-set_other w.tasks k j t (first_task no_record []) ne)) (s.each j lj)))
            (cases_eq j k);
        view = λ j a lj o.
            ⊎_elim (λ (e : j ≡ k).
            let ok : own k a ≡ true = ap (λ x. own x a) (sym e) ∙ o in
            subst (λ x. view_of w'.cache w'.memory a ≡ (plain_run (runs x) (bump k at x)).task.view a) (sym e)
            (f.sees a ∙ stored_same i.effect.stored (view_of w.cache w.memory) (plain_run (runs k) (at k)).task.view a (s.view k a lt ok)
            ∙ ap (λ (q : PlainState). q.task.view a) (sym next)))
            (λ (ne : j ≡ k → ⊥).
            f.sees a ∙ stored_out (own k) i.effect.stored (view_of w.cache w.memory) a i.stays.stores (λ y. ne (rs.apart j k a lj lt o y))
            ∙ s.view j a lj o ∙ ap (λ n. (plain_run (runs j) n).task.view a) (sym (bump_other k j at ne)))
            (cases_eq j k);
        kept = f.kept;
      }

  goes_after : (k : ℕ) (c : Change) → Unfinished p runs at k → (plain_run (runs k) (bump k at k)).ended ≡ (plain_run (runs k) (at k)).ended + ends_job c → GoesOn p runs (bump k at) k c
  goes_after k Stay u e = record { bound = u.bound; left = omega (arith, u.left, e) }
  goes_after k (Execute stated) u e = record { bound = u.bound; left = omega (arith, u.left, e) }
  goes_after k Memory u e = u.bound
  goes_after k End u e = u.bound
  goes_after k Job u e = u.bound

  issued_schedules : (k : ℕ) (w : Work) (sched : List TaskJobs) → Ready p runs at sched k → (i : Issuing p (own k) (runs k) (at k) k w) → Schedules p runs (bump k at) sched (Running k) i.effect.change
  issued_schedules k w sched r i =
      let c : Change = i.effect.change in
      let more : (plain_run (runs k) (bump k at k)).ended ≡ (plain_run (runs k) (at k)).ended + ends_job c =
      ap (λ n. (plain_run (runs k) n).ended) (bump_same k at) ∙ ap (λ (q : PlainState). q.ended) i.next ∙ ended_more c (plain_run (runs k) (at k)).ended in
      record {
        count = r.schedules.count;
        jobs = r.schedules.jobs;
        periods = r.schedules.periods;
        ended = λ j lt.
            let was : (task_at sched j).ended + 0 ≡ (plain_run (runs j) (at j)).ended = r.schedules.ended j lt in
            ⊎_elim (λ (e : j ≡ k).
            let same : (plain_run (runs j) (bump k at j)).ended ≡ (plain_run (runs j) (at j)).ended + ends_job c =
            subst (λ x. (plain_run (runs x) (bump k at x)).ended ≡ (plain_run (runs x) (at x)).ended + ends_job c) (sym e) more in
            let u : uncounted (Running k) c j ≡ ends_job c = ap (uncounted (Running k) c) e ∙ uncounted_same k c in
            omega arith)
            (λ (ne : j ≡ k → ⊥).
            let u : uncounted (Running k) c j ≡ 0 = uncounted_other k j c ne in
            let same : (plain_run (runs j) (bump k at j)).ended ≡ (plain_run (runs j) (at j)).ended = ap (λ n. (plain_run (runs j) n).ended) (bump_other k j at ne) in
            omega arith)
            (cases_eq j k);
        going = goes_after k c r.unfinished more;
      }

-- ---- the core's part

abbrev pub bump_move : CoreMove → (ℕ → ℕ) → ℕ → ℕ
bump_move (Passes c) at = at
bump_move (Issues k i) at = bump k at

pub record TurnStands (p : Setup) (own : ℕ → ℕ → Bool) (runs : ℕ → TaskRun) (at : ℕ → ℕ) (sched : List TaskJobs) (t : CoreTurn) : Type 0 where
  pub stands : Stands p own runs at t.work
  pub schedules : Schedules p runs at sched t.core.mode t.core.mark
  pub untrapped : t.trapped ≡ None

pub running_is : (p : Setup) (own : ℕ → Bool) (runs : ℕ → TaskRun) (at : ℕ → ℕ) (k : ℕ) (t : Task) → IsAt (runs k) (at k) t → Unfinished p runs at k →
    is_running (runs k) (plain_run (runs k) (at k)) ≡ true
running_is p own runs at k t h u =
    let e : is_running (runs k) (plain_of t (plain_run (runs k) (at k)).task.view (plain_run (runs k) (at k)).ended) ≡ ltb (plain_run (runs k) (at k)).ended (runs k).jobs = refl in
    ap (is_running (runs k)) (sym h.same) ∙ e ∙ lt-ltb (plain_run (runs k) (at k)).ended (runs k).jobs u.left

pub issuing : (p : Setup) (own : ℕ → ℕ → Bool) (runs : ℕ → TaskRun) (at : ℕ → ℕ) (w : Work) (k : ℕ) → Runs p own runs → Stands p own runs at w →
    Unfinished p runs at k → Issuing p (own k) (runs k) (at k) k w
issuing p own runs at w k rs s u =
    let lt : k < length p.tasks = u.bound in
    let goes : is_running (runs k) (plain_run (runs k) (at k)) ≡ true = running_is p (own k) runs at k (task_in w k) (s.each k lt) u in
    issue_matches p (own k) (runs k) (at k) k w (rs.is k lt) (rs.stay k lt (at k) goes) goes (s.each k lt) (λ a o. sym (s.view k a lt o)) s.kept

pub turn_stands : (rule : ReplacementRule) (p : Setup) (own : ℕ → ℕ → Bool) (runs : ℕ → TaskRun) (at : ℕ → ℕ) (now : ℕ) (sched : List TaskJobs)
    (m : CoreMove) (w : Work) (c : CoreState) (n : Counts) → IsRule rule → Runs p own runs → Stands p own runs at w → Moves p runs at sched m →
    TurnStands p own runs (bump_move m at) sched (core_turn rule p now m w c n)
turn_stands rule p own runs at now sched (Passes c') w c n r rs s m = record { stands = s; schedules = m; untrapped = refl }
turn_stands rule p own runs at now sched (Issues k i) w c n r rs s m =
    let x : Issuing p (own k) (runs k) (at k) k w = issuing p own runs at w k rs s m.unfinished in
    subst (λ a. TurnStands p own runs (bump k at) sched (core_issue rule p now k i a w c n)) (sym (x.behind rule r))
    (record {
      stands = issued_stands p own runs at rule k w r rs s m.unfinished.bound x;
      schedules = issued_schedules p own runs at k w sched m x;
      untrapped = refl;
    })

-- ---- the cycle

pub record Position (p : Setup) (own : ℕ → ℕ → Bool) (runs : ℕ → TaskRun) (at : ℕ → ℕ) (s : MachineState) : Type 0 where
  pub stands : Stands p own runs at s.work
  pub schedules : Schedules p runs at s.sched s.core.mode s.core.mark
  pub untrapped : s.trapped ≡ None

settle_position : (p : Setup) (own : ℕ → ℕ → Bool) (runs : ℕ → TaskRun) (at : ℕ → ℕ) (m : Mode) (s : MachineState) → s.core.mode ≡ m → Position p own runs at s → Position p own runs at (settle m s)
settle_position p own runs at Point s e h = h
settle_position p own runs at (Switching k left) s e h = h
settle_position p own runs at (Running k) s e h =
    cond_both (is_paid s.core.debt && ends_before s.now s.core.interval s.core.mark) (close_interval k s) s (Position p own runs at)
    (λ _. record {
      stands = h.stands;
      schedules = closes p runs at s.sched k s.core.mark (subst (λ m. Schedules p runs at s.sched m s.core.mark) e h.schedules);
      untrapped = h.untrapped;
    })
    (λ _. h)
settle_position p own runs at (Idle until) s e h =
    cond_both (ltb s.now until) s (record s { core = at_point s.core }) (Position p own runs at) (λ _. h)
    (λ _. record {
      stands = h.stands;
      schedules = idle_ends p runs at s.sched until s.core.mark s.core.mark (subst (λ m. Schedules p runs at s.sched m s.core.mark) e h.schedules);
      untrapped = h.untrapped;
    })

-- what is over with a cycle ends
pub ticked_position : (p : Setup) (own : ℕ → ℕ → Bool) (runs : ℕ → TaskRun) (at : ℕ → ℕ) (s : MachineState) → Position p own runs at s → Position p own runs at (ticked s)
ticked_position p own runs at s h =
    subst (λ o. Position p own runs at (cond (is_some o) s (next_cycle s))) (sym h.untrapped)
    (settle_position p own runs at s.core.mode (with_now s (s.now + 1)) refl
    (record { stands = h.stands; schedules = h.schedules; untrapped = h.untrapped }))

-- what the bus writes leaves own bytes as they are
pub record BusKeeps (p : Setup) (own : ℕ → ℕ → Bool) (w : Work) (memory : List ℕ) : Type 0 where
  pub view : (k a : ℕ) → k < length p.tasks → own k a ≡ true → view_of w.cache memory a ≡ view_of w.cache w.memory a
  pub kept : IsKept p w.cache memory

pub bus_stands : (p : Setup) (own : ℕ → ℕ → Bool) (runs : ℕ → TaskRun) (at : ℕ → ℕ) (w : Work) (memory : List ℕ) → BusKeeps p own w memory →
    Stands p own runs at w → Stands p own runs at (with_memory memory w)
bus_stands p own runs at w memory b s =
    record {
      count = s.count;
      each = s.each;
      view = λ k a lt o. b.view k a lt o ∙ s.view k a lt o;
      kept = b.kept;
    }

-- behind the core's part of a cycle, whatever it does, and whatever the bus does that leaves own bytes
pub moved_position : (rule : ReplacementRule) (p : Setup) (own : ℕ → ℕ → Bool) (runs : ℕ → TaskRun) (at : ℕ → ℕ) (a : Arrivals) (b : Turned)
    (m : CoreMove) (s : MachineState) → IsRule rule → Runs p own runs → BusKeeps p own s.work b.memory → Moves p runs at s.sched m →
    Position p own runs at s → Position p own runs (bump_move m at) (joined a b (turn_with rule p b m s) s)
moved_position rule p own runs at a b m s r rs k j h =
    let w : Work = with_memory b.memory s.work in
    let t : TurnStands p own runs (bump_move m at) s.sched (turn_with rule p b m s) =
    turn_stands rule p own runs at s.now s.sched m w s.core (with_clash b.turn.clash s.log.counts) r rs
    (bus_stands p own runs at s.work b.memory k h.stands) j in
    record { stands = t.stands; schedules = t.schedules; untrapped = t.untrapped }

pub cycle_position : (rule : ReplacementRule) (p : Setup) (own : ℕ → ℕ → Bool) (runs : ℕ → TaskRun) (at : ℕ → ℕ) (a : Arrivals) (b : Turned)
    (s : MachineState) → IsRule rule → Runs p own runs → BusKeeps p own s.work b.memory → Position p own runs at s →
    Position p own runs (bump_move (move_at p b s) at) (cycle_with rule p a b s)
cycle_position rule p own runs at a b s r rs k h =
    ticked_position p own runs (bump_move (move_at p b s) at) (joined a b (core_at rule p b s) s)
    (moved_position rule p own runs at a b (move_at p b s) s r rs k
    (moves p runs at s.sched s.now b.turn.core (with_memory b.memory s.work) s.core (move_at p b s) (move_cases p s.now b.turn.core s.sched (with_memory b.memory s.work) s.core) h.schedules) h)
