-- The core's move keeps that its window closes.
use Rattle.std.proofs.Common.{◌≡◌, ℕ, zero, suc, ◌+◌, ◌/◌, ◌<◌, ◌≤◌, refl, ap, ◌∙◌, sym, subst, arith, cond, Some, None, Option, false, Bool, List, [], length, get_or, ⊎_elim, inl, inr, ◌⊎◌}
use Rattle.prem_cycle.proofs.Prelude.{CoreMove, Passes, Issues, phase_in, new_interval, stated_after, window_after, core_issue, CoreTurn, core_turn, Attempt, Traps, Executes, attempt_by}
use Rattle.prem_cycle.proofs.Prelude.{attempt_fetched, attempt_of, view_behind, effect_in, behind_touches, task_moved, task_after, issued_by, issued_with, is_execution, closing_in}
use Rattle.prem_cycle.proofs.Prelude.{closing_at, is_last, WindowCloses, Setup, record_of, no_record, first_task, Task, Work, CoreState, Counts, task_in, Interval, Mode, Point, Switching}
use Rattle.prem_cycle.proofs.Prelude.{Running, Idle, Window, TaskRecord, act_lawful, act, fetch, phase_after, OnDone, EffectLawful, IsLawful, next_input, Access, Cause, Change, Stay, Memory}
use Rattle.prem_cycle.proofs.Prelude.{Execute, End, Job, Effect, Outcome, Trap, Done, Phase, Compatible, Execution, Stored, Instr, Touched, touch_of, view_of, ReplacementRule, Target}
use Rattle.prem_cycle.proofs.Prelude.{TaskJobs, cases_lt, cases_eq, get_or-set_same, get_or-set_other, get_or_past, set_past, slice_set, slice_index, Result, Ok, Err}
use Rattle.prem_cycle.proofs.CoreCases.{Continues, MoveCase, pays_on_bus, is_denied, pays_cost, waits, goes_on, switches, begins, chooses, chooses_now, begins_idle, has_finished, idles}
use Rattle.prem_cycle.proofs.RunsLemmas.PositionLemmas.Times.{changed_phase}
use Rattle.prem_isa.specs.declared.effect.Phase.TheVariants.{Memory as MemoryPhase}

-- ---- what an instruction may do in a phase

done_lawful : (phase : Phase) (i instr : Instr) (o : Outcome) (e : Effect) → OnDone (EffectLawful phase) o → attempt_by i o ≡ Executes instr e → EffectLawful phase e
done_lawful phase i instr (Trap cause) e h is = absurd (let x : Traps cause ≡ Executes instr e = is in cc)
done_lawful phase i instr (Done d) e h is =
    let x : Executes i d ≡ Executes instr e = is in
    let same : d ≡ e = cc in
    subst (EffectLawful phase) same h

fetched_lawful : (target : Target) (size : ℕ) (view : ℕ → ℕ) (t : Task) (f : Result Instr Cause) (instr : Instr) (e : Effect) →
    attempt_fetched target size view t f ≡ Executes instr e → EffectLawful t.phase e
fetched_lawful target size view t (Err cause) instr e is = absurd (let x : Traps cause ≡ Executes instr e = is in cc)
fetched_lawful target size view t (Ok i) instr e is =
    done_lawful t.phase i instr (act target size view (slice_index t.registers) t.pc t.phase (next_input t.left) i) e
    (act_lawful target size view (slice_index t.registers) t.pc t.phase (next_input t.left) i) is

-- what it executes is lawful in the phase of its task
pub attempt_lawful : (p : Setup) (k : ℕ) (w : Work) (instr : Instr) (e : Effect) → attempt_of p k w ≡ Executes instr e → EffectLawful (phase_in w k) e
attempt_lawful p k w instr e is =
    fetched_lawful p.plant.target p.plant.memory (view_of w.cache w.memory) (task_in w k) (fetch p.plant.memory (view_of w.cache w.memory) (task_in w k).pc) instr e is

-- ---- the phases behind it

tasks_issued : (rule : ReplacementRule) (size : ℕ) (tasks : List Task) (stored : Option Stored) (line : ℕ) (f : Touched) (a : Option Access) →
    (issued_with rule size tasks stored line f a).work.tasks ≡ tasks
tasks_issued rule size tasks stored line f None = refl
tasks_issued rule size tasks stored line f (Some a) = refl

issue_tasks : (rule : ReplacementRule) (p : Setup) (k : ℕ) (e : Effect) (w : Work) → (issued_by rule p k e w).work.tasks ≡ slice_set w.tasks k (task_after (record_of p k) e (task_in w k))
issue_tasks rule p k e w =
    let line : ℕ = (task_in w k).pc / p.plant.line in
    tasks_issued rule p.plant.line (slice_set w.tasks k (task_after (record_of p k) e (task_in w k))) e.stored line (touch_of rule w.cache line w.memory) e.access

-- the phase behind a change, or there is no such task, which is in a compatible phase
abbrev Follows : Change → Phase → Phase → Type 0
Follows c phase next = (next ≡ phase_after c phase) ⊎ ((phase ≡ Compatible) × (next ≡ Compatible))

abbrev no_one : Task
no_one = first_task no_record []

abbrev phase_of : List Task → ℕ → Phase
phase_of tasks k = (get_or tasks k no_one).phase

set_follows : (tasks : List Task) (k : ℕ) (r : TaskRecord) (e : Effect) → Follows e.change (phase_of tasks k) (phase_of (slice_set tasks k (task_after r e (get_or tasks k no_one))) k)
set_follows tasks k r e =
    let t : Task = task_after r e (get_or tasks k no_one) in
    ⊎_elim (λ (lt : k < length tasks).
    inl (ap (λ (x : Task). x.phase) (get_or-set_same tasks k t no_one lt) ∙ changed_phase r e.change (task_moved e (get_or tasks k no_one))))
    (λ (past : length tasks ≤ k).
    let is : phase_of tasks k ≡ Compatible = ap (λ (x : Task). x.phase) (get_or_past tasks k no_one past) in
    inr (is, ap (λ ts. phase_of ts k) (set_past tasks k t past) ∙ is))
    (cases_lt k (length tasks))

issue_follows : (rule : ReplacementRule) (p : Setup) (k : ℕ) (e : Effect) (w : Work) → Follows e.change (phase_in w k) (phase_in (issued_by rule p k e w).work k)
issue_follows rule p k e w =
    subst (λ ts. Follows e.change (phase_in w k) (phase_of ts k)) (sym (issue_tasks rule p k e w)) (set_follows w.tasks k (record_of p k) e)

issue_others : (rule : ReplacementRule) (p : Setup) (k j : ℕ) (e : Effect) (w : Work) → (j ≡ k → ⊥) → phase_in (issued_by rule p k e w).work j ≡ phase_in w j
issue_others rule p k j e w ne =
    let t : Task = task_after (record_of p k) e (task_in w k) in
    ap (λ ts. phase_of ts j) (issue_tasks rule p k e w)
    ∙ ap (λ (x : Task). x.phase) (get_or-set_other w.tasks k j t no_one ne)

-- ---- an instruction

-- the close of a window in which a task in this phase issues
abbrev pub issue_close : ℕ → Interval → Phase → ℕ
issue_close now i phase = cond (is_execution phase) (i.first + i.stated) now

still_phase : (phase next : Phase) → Follows Stay phase next → next ≡ phase
still_phase phase next (inl e) = e
still_phase phase next (inr e) = e.1 ∙ sym e.0

-- behind it the window closes in time again
close_next : (now : ℕ) (i : Interval) (w : Window) (c : Change) (phase next : Phase) → IsLawful phase c → Follows c phase next → w.close ≤ issue_close now i phase →
    (window_after c now i.first w).close ≤ closing_in now (record i { stated = stated_after c i.stated }) c next
close_next now i w Stay phase next l f h = subst (λ (x : Phase). w.close ≤ issue_close now i x) (sym (still_phase phase next f)) h
close_next now i w Memory phase next l f h = subst (λ (x : Phase). w.close ≤ issue_close now i x) l h
close_next now i w Job phase next l f h = subst (λ (x : Phase). w.close ≤ issue_close now i x) l h
close_next now i w End phase next l f h = subst (λ (x : Phase). w.close ≤ issue_close now i x) l h
close_next now i w (Execute stated) phase next l (inl e) h =
    subst (λ (x : Phase). i.first + stated ≤ cond (is_execution x) (i.first + stated) now) (sym e) (omega arith)
close_next now i w (Execute stated) phase next l (inr e) h = absurd (let x : MemoryPhase ≡ Compatible = sym l ∙ e.0 in cc)

-- a task that is in its execution phase then has issued no last instruction
last_next : (c : Change) (phase next : Phase) → IsLawful phase c → Follows c phase next → next ≡ Execution → is_last c ≡ false
last_next Stay phase next l f x = refl
last_next (Execute stated) phase next l f x = refl
last_next Memory phase next l (inl e) x = absurd (let y : MemoryPhase ≡ Execution = sym e ∙ x in cc)
last_next Memory phase next l (inr e) x = absurd (let y : Compatible ≡ Execution = sym e.1 ∙ x in cc)
last_next End phase next l (inl e) x = absurd (let y : Compatible ≡ Execution = sym e ∙ x in cc)
last_next End phase next l (inr e) x = absurd (let y : Compatible ≡ Execution = sym e.1 ∙ x in cc)
last_next Job phase next l (inl e) x = absurd (let y : Compatible ≡ Execution = sym e ∙ x in cc)
last_next Job phase next l (inr e) x = absurd (let y : Compatible ≡ Execution = sym e.1 ∙ x in cc)

-- the window stays, or was closed
window_next : (now : ℕ) (i : Interval) (w : Window) (c : Change) (phase : Phase) → IsLawful phase c → w.close ≤ issue_close now i phase → (window_after c now i.first w ≡ w) ⊎ (w.close ≤ now)
window_next now i w Stay phase l h = inl refl
window_next now i w Memory phase l h = inl refl
window_next now i w End phase l h = inl refl
window_next now i w Job phase l h = inl refl
window_next now i w (Execute stated) phase l h = inr (subst (λ (x : Phase). w.close ≤ issue_close now i x) l h)

-- ---- the move

-- what holds where a task issues: no other is in its execution phase
pub record MayIssue (now : ℕ) (phases : ℕ → Phase) (window : Window) (k : ℕ) (i : Interval) : Type 0 where
  pub by_then : window.close ≤ issue_close now i (phases k)
  pub alone : (j : ℕ) → phases j ≡ Execution → j ≡ k

-- and where the core passes on
pub record MayPass (now : ℕ) (phases : ℕ → Phase) (window : Window) (c : CoreState) : Type 0 where
  pub closes : WindowCloses now phases c.interval c.mark c.mode c.window
  pub stays : (c.window ≡ window) ⊎ (window.close ≤ now)

abbrev pub Moves : ℕ → (ℕ → Phase) → Window → CoreMove → Type 0
Moves now phases window (Passes c) = MayPass now phases window c
Moves now phases window (Issues k i) = MayIssue now phases window k i

-- no task is in its execution phase
abbrev NoneExecutes : (ℕ → Phase) → Type 0
NoneExecutes phases = (k : ℕ) → phases k ≡ Execution → ⊥

closed_by : (phase : Phase) (now : ℕ) (i : Interval) (w : Window) → (phase ≡ Execution → ⊥) → w.close ≤ now → w.close ≤ issue_close now i phase
closed_by Compatible now i w none h = h
closed_by MemoryPhase now i w none h = h
closed_by Execution now i w none h = absurd (none refl)

module _ (now : ℕ) (phases : ℕ → Phase) where
  begins_issue : (i : Interval) (w : Window) (k : ℕ) → NoneExecutes phases → w.close ≤ now → MayIssue now phases w k i
  begins_issue i w k none h = record { by_then = closed_by (phases k) now i w (none k) h; alone = λ x e. absurd (none x e) }

  closes_where : (i : Interval) (mark : Change) (mode : Mode) (w : Window) → NoneExecutes phases → w.close ≤ closing_at now phases i mark mode → WindowCloses now phases i mark mode w
  closes_where i mark mode w none h = record { by_then = h; runs = λ k e. absurd (none k e); goes_on = λ k e. absurd (none k e) }

  -- at a scheduling point, and in a switch
  none_at_point : (i : Interval) (mark : Change) (w : Window) → WindowCloses now phases i mark Point w → NoneExecutes phases
  none_at_point i mark w h k e = let x : Point ≡ Running k = h.runs k e in cc

  none_in_switch : (i : Interval) (mark : Change) (w : Window) (k left : ℕ) → WindowCloses now phases i mark (Switching k left) w → NoneExecutes phases
  none_in_switch i mark w k left h j e = let x : Switching k left ≡ Running j = h.runs j e in cc

  goes_issue : (i : Interval) (mark : Change) (w : Window) (k : ℕ) → Continues mark → WindowCloses now phases i mark (Running k) w → MayIssue now phases w k i
  goes_issue i mark w k goes h = record { by_then = by mark goes h.by_then; alone = λ j e. let x : Running k ≡ Running j = h.runs j e in cc } where
    by : (m : Change) → Continues m → w.close ≤ closing_in now i m (phases k) → w.close ≤ issue_close now i (phases k)
    by Stay g l = l
    by (Execute stated) g l = l
    by Memory g l = absurd g
    by End g l = absurd g
    by Job g l = absurd g

  -- what the core's move makes of it
  pub moves : (p : Setup) (had : Bool) (sched : List TaskJobs) (w : Work) (c : CoreState) (m : CoreMove) → MoveCase p now had sched w c m →
      WindowCloses now phases c.interval c.mark c.mode c.window → Moves now phases c.window m
  moves p had sched w c _ (pays_on_bus q h) s = record { closes = s; stays = inl refl }
  moves p had sched w c _ (is_denied q h) s = record { closes = s; stays = inl refl }
  moves p had sched w c _ (pays_cost k cost q e h) s = record { closes = s; stays = inl refl }
  moves p had sched w c _ (waits k q e h x) s = record { closes = s; stays = inl refl }
  moves p had sched w c _ (has_finished q e h) s = record { closes = s; stays = inl refl }
  moves p had sched w c _ (idles until q e) s = record { closes = s; stays = inl refl }
  moves p had sched w c _ (goes_on k q e h x) s =
      goes_issue c.interval c.mark c.window k x (subst (λ m. WindowCloses now phases c.interval c.mark m c.window) e s)
  moves p had sched w c _ (switches k left q e) s =
      let t : WindowCloses now phases c.interval c.mark (Switching k (suc left)) c.window = subst (λ m. WindowCloses now phases c.interval c.mark m c.window) e s in
      record { closes = closes_where c.interval c.mark (Switching k left) c.window (none_in_switch c.interval c.mark c.window k (suc left) t) t.by_then; stays = inl refl }
  moves p had sched w c _ (begins k q e) s =
      let t : WindowCloses now phases c.interval c.mark (Switching k zero) c.window = subst (λ m. WindowCloses now phases c.interval c.mark m c.window) e s in
      begins_issue (new_interval now (phase_in w k)) c.window k (none_in_switch c.interval c.mark c.window k zero t) t.by_then
  moves p had sched w c _ (chooses k left q e h z) s =
      let t : WindowCloses now phases c.interval c.mark Point c.window = subst (λ m. WindowCloses now phases c.interval c.mark m c.window) e s in
      record { closes = closes_where c.interval c.mark (Switching k left) c.window (none_at_point c.interval c.mark c.window t) t.by_then; stays = inl refl }
  moves p had sched w c _ (chooses_now k q e h z) s =
      let t : WindowCloses now phases c.interval c.mark Point c.window = subst (λ m. WindowCloses now phases c.interval c.mark m c.window) e s in
      begins_issue (new_interval now (phase_in w k)) c.window k (none_at_point c.interval c.mark c.window t) t.by_then
  moves p had sched w c _ (begins_idle until q e h) s =
      let t : WindowCloses now phases c.interval c.mark Point c.window = subst (λ m. WindowCloses now phases c.interval c.mark m c.window) e s in
      record {
        closes = closes_where c.interval c.mark (Idle until) (record { start = now + 1; close = until }) (none_at_point c.interval c.mark c.window t) (omega arith);
        stays = inr t.by_then;
      }

-- ---- the core's part of a cycle

-- what it leaves
pub record TurnCloses (now : ℕ) (window : Window) (t : CoreTurn) : Type 0 where
  pub closes : WindowCloses now (phase_in t.work) t.core.interval t.core.mark t.core.mode t.core.window
  pub stays : (t.core.window ≡ window) ⊎ (window.close ≤ now)

issue_closes : (rule : ReplacementRule) (p : Setup) (now k : ℕ) (i : Interval) (a : Attempt) (w : Work) (c : CoreState) (n : Counts) →
    attempt_of p k w ≡ a → WindowCloses now (phase_in w) c.interval c.mark c.mode c.window → MayIssue now (phase_in w) c.window k i →
    TurnCloses now c.window (core_issue rule p now k i (behind_touches rule p k w a) w c n)
issue_closes rule p now k i (Traps cause) w c n is s h = record { closes = s; stays = inl refl }
issue_closes rule p now k i (Executes instr f) w c n is s h =
    let e : Effect = effect_in p.plant.target p.plant.memory (view_behind rule p k w f.access) (task_in w k) instr f in
    let l : IsLawful (phase_in w k) e.change = (attempt_lawful p k w instr f is).change in
    let next : Follows e.change (phase_in w k) (phase_in (issued_by rule p k e w).work k) = issue_follows rule p k e w in
    let only : (j : ℕ) → phase_in (issued_by rule p k e w).work j ≡ Execution → j ≡ k =
    λ j x. ⊎_elim (λ (same : j ≡ k). same) (λ (ne : j ≡ k → ⊥). h.alone j (sym (issue_others rule p k j e w ne) ∙ x)) (cases_eq j k) in
    record {
      closes = record {
        by_then = close_next now i c.window e.change (phase_in w k) (phase_in (issued_by rule p k e w).work k) l next h.by_then;
        runs = λ j x. ap (λ m. Running m) (sym (only j x));
        goes_on = λ j x.
            last_next e.change (phase_in w k) (phase_in (issued_by rule p k e w).work k) l next
            (ap (phase_in (issued_by rule p k e w).work) (sym (only j x)) ∙ x);
      };
      stays = window_next now i c.window e.change (phase_in w k) l h.by_then;
    }

pub turn_closes : (rule : ReplacementRule) (p : Setup) (now : ℕ) (m : CoreMove) (w : Work) (c : CoreState) (n : Counts) →
    WindowCloses now (phase_in w) c.interval c.mark c.mode c.window → Moves now (phase_in w) c.window m →
    TurnCloses now c.window (core_turn rule p now m w c n)
turn_closes rule p now (Passes c') w c n s h = record { closes = h.closes; stays = h.stays }
turn_closes rule p now (Issues k i) w c n s h = issue_closes rule p now k i (attempt_of p k w) w c n refl s h
