-- A cycle of a run whose tasks keep to their scripts: nothing misses in an execution phase, and nothing clashes.
use Rattle.std.proofs.Common.{◌≡◌, ℕ, ◌+◌, ◌-◌, ◌<◌, ◌≤◌, refl, ap, ◌∙◌, sym, subst, arith, cond, ltb, Some, None, Option, true, false, Bool, List, [], ◌∷◌, length, inl, inr, ⊎_elim}
use Rattle.std.specs.Prelude.{◌&&◌, is_some}
use Rattle.prem_sound.proofs.Prelude.{MoveCase, pays_on_bus, is_denied, pays_cost, waits, goes_on, switches, begins, chooses, chooses_now, begins_idle, has_finished, idles, issuing_did}
use Rattle.prem_sound.proofs.Prelude.{Moves as Scheduled, bump, IsAt, Stands, Issuing, Runs, bump_move, issuing, IsKept, kept_plant, MayIssue as WindowIssue, want_of, is_paid, CoreMove}
use Rattle.prem_sound.proofs.Prelude.{Passes, Issues, is_predictable, phase_in, window_after, CoreTurn, core_issue, core_turn, ends_before, at_point, close_interval, settle, with_now}
use Rattle.prem_sound.proofs.Prelude.{next_cycle, ticked, Executes, issued_by, is_execution, Setup, Task, Transaction, Work, CoreState, Counts, MachineState, task_in, Interval, Mode, Point, Switching}
use Rattle.prem_sound.proofs.Prelude.{Running, Idle, wants, Window, plain_fits, cost_of, TaskRun, PlainState, Did, did_of, plain_did, plain_run, Access, Change, Stay, Memory, Execute, End}
use Rattle.prem_sound.proofs.Prelude.{Job, Effect, Phase, Compatible, Execution, CacheState, ReplacementRule, lines_in, lines_of, OrderRule, IsPlant, Plant, TaskJobs, IsPolicy, lines_of_did}
use Rattle.prem_sound.proofs.Prelude.{StoresNothing, Script, IsScript, and_parts, cases_Bool, cond_both, length-map}
use Rattle.prem_cycle.proofs.RunsLemmas.WindowLemmas.Moves.{Moves as Windowed}
use Rattle.prem_isa.specs.declared.effect.Phase.TheVariants.{Memory as MemoryPhase}
use Rattle.prem_sound.proofs.ResidentLemmas.Counted.{NoFaults, owed_none, issue_counts, AttemptFits, attempt_fits}
use Rattle.prem_sound.proofs.ResidentLemmas.Residents.{opens, MustHit, with_stated, phase_at, Resides, MayIssue, Moves, issues, hits, ends, idle_ends}
use Rattle.prem_sound.proofs.ResidentLemmas.Touches.{missed_lines, TouchesLines, issue_touches}

-- ---- the core's part of a cycle

-- a core that owes a transaction meets a closed window
abbrev pub IsCalm : ℕ → CoreState → Type 0
IsCalm now c = wants (want_of c.debt) ≡ true → c.window.close ≤ now

abbrev pub CalmMove : ℕ → CoreMove → Type 0
CalmMove now (Passes c) = IsCalm now c
CalmMove now (Issues k i) = Unit {0}

pub calm_moves : (p : Setup) (now : ℕ) (had : Bool) (sched : List TaskJobs) (w : Work) (c : CoreState) (m : CoreMove) → MoveCase p now had sched w c m → IsCalm now c → CalmMove now m
calm_moves p now had sched w c _ (pays_on_bus q h) calm = λ _. calm q
calm_moves p now had sched w c _ (is_denied q h) calm = calm
calm_moves p now had sched w c _ (pays_cost k cost q e h) calm = calm
calm_moves p now had sched w c _ (waits k q e h x) calm = calm
calm_moves p now had sched w c _ (has_finished q e h) calm = calm
calm_moves p now had sched w c _ (idles until q e) calm = calm
calm_moves p now had sched w c _ (goes_on k q e h x) calm = tt
calm_moves p now had sched w c _ (switches k left q e) calm = calm
calm_moves p now had sched w c _ (begins k q e) calm = tt
calm_moves p now had sched w c _ (chooses k left q e h z) calm = calm
calm_moves p now had sched w c _ (chooses_now k q e h z) calm = tt
calm_moves p now had sched w c _ (begins_idle until q e h) calm = λ y. absurd (let x : false ≡ true = sym q ∙ y in cc)

same_window : (c : Change) (now first : ℕ) (w : Window) → opens c ≡ false → window_after c now first w ≡ w
same_window Stay now first w h = refl
same_window Memory now first w h = refl
same_window (Execute stated) now first w h = absurd (let x : true ≡ false = h in cc)
same_window End now first w h = refl
same_window Job now first w h = refl

stores_in : (phase : Phase) (access : Option Access) → (is_predictable phase ≡ true → StoresNothing phase access) → StoresNothing phase access
stores_in Compatible access h = tt
stores_in MemoryPhase access h = h refl
stores_in Execution access h = tt

-- touches that all hit leave no transaction
pub owes_none : (ts : List Transaction) (cost : ℕ) → ts ≡ [] → wants (want_of (record { transactions = ts; begun = false; cost = cost })) ≡ true → ⊥
owes_none [] cost e h = let x : false ≡ true = h in cc
owes_none (t ∷ ts) cost e h = let x : t ∷ ts ≡ [] = e in cc

-- the script of each task
abbrev pub KeepScripts : Setup → (ℕ → ℕ) → (ℕ → TaskRun) → (ℕ → Script) → Type 0
KeepScripts p passes runs scripts = (k : ℕ) → k < length p.tasks → IsScript p.plant passes (runs k) (scripts k)

module _ (rule : ReplacementRule) (order : OrderRule) (passes : ℕ → ℕ) (p : Setup) (own : ℕ → ℕ → Bool) (runs : ℕ → TaskRun) (scripts : ℕ → Script)
    (policy : IsPolicy rule order passes) (keep : KeepScripts p passes runs scripts) where
  -- where the lines of the tasks are
  abbrev pub ResidesAt : (ℕ → ℕ) → CacheState → Mode → Interval → Change → Type 0
  ResidesAt at c mode i mark = Resides order p.plant (length p.tasks) runs scripts at (lines_in c) mode i mark

  -- what the core's part leaves
  pub record TurnKeeps (now : ℕ) (at : ℕ → ℕ) (t : CoreTurn) : Type 0 where
    pub resides : ResidesAt at t.work.cache t.core.mode t.core.interval t.core.mark
    pub calm : IsCalm now t.core
    pub counts : NoFaults t.counts

  pub same_phase : (at : ℕ → ℕ) (w : Work) (k : ℕ) → IsAt (runs k) (at k) (task_in w k) → phase_in w k ≡ phase_at runs at k
  same_phase at w k h = ap (λ (s : PlainState). s.task.phase) h.same

  pub sets_are : (w : Work) → IsKept p w.cache w.memory → length (lines_in w.cache) ≡ p.plant.sets
  sets_are w h = length-map w.cache.sets lines_of ∙ h.cache.count ∙ ap (λ (q : Plant). q.sets) h.plant

  -- the lines of an instruction of a task
  issue_lines : (at : ℕ → ℕ) (k : ℕ) (w : Work) → Stands p own runs at w → Runs p own runs → k < length p.tasks →
      (x : Issuing p (own k) (runs k) (at k) k w) →
      TouchesLines order p.plant.ways w.cache (lines_of_did p.plant.line (did_of (task_in w k).pc (task_in w k).phase x.instr x.effect))
      (issued_by rule p k x.effect w)
  issue_lines at k w s rs lt x =
      let t : Task = task_in w k in
      let fits : AttemptFits (runs k).size t x.effect =
      attempt_fits (runs k).target (runs k).size (plain_run (runs k) (at k)).task.view t x.instr x.effect
      (plain_fits (runs k) (rs.is k lt).fits (at k)).task.bytes x.alone in
      issue_touches rule order policy.moves p k x.effect w policy.keeps s.kept (subst (λ m. t.pc + 4 ≤ m) (rs.is k lt).size fits.within)

  -- in an execution phase, and where one begins, none of them misses
  pub issue_hits : (at : ℕ → ℕ) (k : ℕ) (i : Interval) (w : Work) → Stands p own runs at w → Runs p own runs → k < length p.tasks →
      (x : Issuing p (own k) (runs k) (at k) k w) →
      plain_did (runs k) (plain_run (runs k) (at k)) ≡ Some (did_of (task_in w k).pc (task_in w k).phase x.instr x.effect) →
      MayIssue order p.plant (length p.tasks) runs scripts at (lines_in w.cache) k i → MustHit (phase_in w k) x.effect.change →
      missed_lines (issued_by rule p k x.effect w).touches ≡ []
  issue_hits at k i w s rs lt x did may must =
      let d : Did = did_of (task_in w k).pc (task_in w k).phase x.instr x.effect in
      let plant : IsPlant p.plant = kept_plant p w.cache w.memory s.kept in
      (issue_lines at k w s rs lt x).misses_are
      ∙ hits order p.plant (length p.tasks) runs scripts at (lines_in w.cache) passes k i d policy.full (keep k lt) did (let y : 1 ≤ p.plant.sets = plant.sets.0 in omega arith) (sets_are w s.kept) may
      (subst (λ ph. MustHit ph x.effect.change) (same_phase at w k (s.each k lt)) must)

  -- an instruction of a task
  issue_keeps : (at : ℕ → ℕ) (now k : ℕ) (i : Interval) (w : Work) (c : CoreState) (n : Counts) → Stands p own runs at w → Runs p own runs →
      k < length p.tasks → (x : Issuing p (own k) (runs k) (at k) k w) →
      plain_did (runs k) (plain_run (runs k) (at k)) ≡ Some (did_of (task_in w k).pc (task_in w k).phase x.instr x.effect) →
      MayIssue order p.plant (length p.tasks) runs scripts at (lines_in w.cache) k i → WindowIssue now (phase_in w) c.window k i → NoFaults n →
      TurnKeeps now (bump k at) (core_issue rule p now k i (Executes x.instr x.effect) w c n)
  issue_keeps at now k i w c n s rs lt x did may window f =
      let t : Task = task_in w k in
      let e : Effect = x.effect in
      let d : Did = did_of t.pc t.phase x.instr e in
      let sc : IsScript p.plant passes (runs k) (scripts k) = keep k lt in
      let fits : AttemptFits (runs k).size t e =
      attempt_fits (runs k).target (runs k).size (plain_run (runs k) (at k)).task.view t x.instr e
      (plain_fits (runs k) (rs.is k lt).fits (at k)).task.bytes x.alone in
      let touches : TouchesLines order p.plant.ways w.cache (lines_of_did p.plant.line d) (issued_by rule p k e w) = issue_lines at k w s rs lt x in
      let hit : MustHit t.phase e.change → missed_lines (issued_by rule p k e w).touches ≡ [] = (λ m. issue_hits at k i w s rs lt x did may m) in
      record {
        resides = subst (λ o. Resides order p.plant (length p.tasks) runs scripts (bump k at) o (Running k) (with_stated e.change i) e.change) (sym touches.lines_are)
            (issues order p.plant (length p.tasks) runs scripts at (lines_in w.cache) passes k i d sc did may);
        calm =
            ⊎_elim (λ (in_execution : is_execution t.phase ≡ true). λ y. absurd (owes_none _ (cost_of x.instr - 1) (owed_none p.plant (issued_by rule p k e w).touches (hit (inl in_execution))) y))
            (λ (outside : is_execution t.phase ≡ false).
            ⊎_elim (λ (begins_one : opens e.change ≡ true). λ y. absurd (owes_none _ (cost_of x.instr - 1) (owed_none p.plant (issued_by rule p k e w).touches (hit (inr begins_one))) y))
            (λ (goes : opens e.change ≡ false).
            λ _. subst (λ (v : Window). v.close ≤ now) (sym (same_window e.change now i.first c.window goes)) (subst (λ b. c.window.close ≤ cond b (i.first + i.stated) now) outside window.by_then))
            (cases_Bool (opens e.change)))
            (cases_Bool (is_execution t.phase));
        counts =
            issue_counts t.phase e (issued_by rule p k e w).touches n fits.effect.matches
            (stores_in t.phase e.access (λ y. (sc.steps (at k) d did y).stores)) (λ y. hit (inl y)) f;
      }

  pub turn_keeps : (at : ℕ → ℕ) (now : ℕ) (sched : List TaskJobs) (m : CoreMove) (w : Work) (c : CoreState) (n : Counts) → Stands p own runs at w →
      Runs p own runs → Scheduled p runs at sched m → Moves order p.plant (length p.tasks) runs scripts at (lines_in w.cache) m → CalmMove now m →
      Windowed now (phase_in w) c.window m → NoFaults n → TurnKeeps now (bump_move m at) (core_turn rule p now m w c n)
  turn_keeps at now sched (Passes c') w c n s rs j r calm window f = record { resides = r; calm = calm; counts = f }
  turn_keeps at now sched (Issues k i) w c n s rs j r calm window f =
      let lt : k < length p.tasks = j.unfinished.bound in
      let x : Issuing p (own k) (runs k) (at k) k w = issuing p own runs at w k rs s j.unfinished in
      subst (λ a. TurnKeeps now (bump k at) (core_issue rule p now k i a w c n)) (sym (x.behind rule policy.keeps))
      (issue_keeps at now k i w c n s rs lt x (issuing_did p (own k) runs at k w j.unfinished (s.each k lt) x) r window f)

  -- ---- the end of a cycle

  pub record Keeps (at : ℕ → ℕ) (s : MachineState) : Type 0 where
    pub resides : ResidesAt at s.work.cache s.core.mode s.core.interval s.core.mark
    pub calm : IsCalm s.now s.core
    pub counts : NoFaults s.log.counts

  settle_keeps : (at : ℕ → ℕ) (m : Mode) (s : MachineState) → s.core.mode ≡ m → Keeps at s → Keeps at (settle m s)
  settle_keeps at Point s e h = h
  settle_keeps at (Switching k left) s e h = h
  settle_keeps at (Running k) s e h =
      cond_both (is_paid s.core.debt && ends_before s.now s.core.interval s.core.mark) (close_interval k s) s (Keeps at)
      (λ over. record {
        resides = ends order p.plant (length p.tasks) runs scripts at (lines_in s.work.cache) s.now k s.core.interval s.core.mark
            (and_parts (is_paid s.core.debt) (ends_before s.now s.core.interval s.core.mark) over).1
            (subst (λ m. ResidesAt at s.work.cache m s.core.interval s.core.mark) e h.resides);
        calm = h.calm;
        counts = record { exec_misses = h.counts.exec_misses; memory_stores = h.counts.memory_stores; clashes = h.counts.clashes };
      })
      (λ _. h)
  settle_keeps at (Idle until) s e h =
      cond_both (ltb s.now until) s (record s { core = at_point s.core }) (Keeps at) (λ _. h)
      (λ _. record {
        resides = idle_ends order p.plant (length p.tasks) runs scripts at (lines_in s.work.cache) until s.core.interval s.core.mark
            (subst (λ m. ResidesAt at s.work.cache m s.core.interval s.core.mark) e h.resides);
        calm = h.calm;
        counts = h.counts;
      })

  pub ticked_keeps : (at : ℕ → ℕ) (s : MachineState) → s.trapped ≡ None → Keeps at s → Keeps at (ticked s)
  ticked_keeps at s u h =
      subst (λ o. Keeps at (cond (is_some o) s (next_cycle s))) (sym u)
      (settle_keeps at s.core.mode (with_now s (s.now + 1)) refl
      (record { resides = h.resides; calm = λ y. (let le : s.core.window.close ≤ s.now = h.calm y in omega arith); counts = h.counts }))
