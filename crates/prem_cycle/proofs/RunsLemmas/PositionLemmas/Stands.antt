-- Each task stands where it stands on its own, and so it does behind an instruction.
use Rattle.std.proofs.Common.{◌≡◌, ◌≢◌, ℕ, zero, suc, ◌+◌, ◌-◌, ◌<◌, ◌≤◌, refl, ap, ◌∙◌, sym, subst, arith, cond, eqb, Some, None, Option, true, Bool, List, length, IfSome, ⊎_elim}
use Rattle.prem_cycle.proofs.Prelude.{plain_of, ended_after, Executes, attempt_in, attempt_of, view_behind, behind_touches, attempt_behind, task_moved, task_changed, task_after, issued_by}
use Rattle.prem_cycle.proofs.Prelude.{AllOwn, IsOwn, IsOwnOutcome, next_outcome, Setup, record_of, first_list, Task, Work, task_in, TaskRecord, plain_fits, plain_steps-next}
use Rattle.prem_cycle.proofs.Prelude.{list_with_register, with_stored, EffectFits, EffectLawful, TaskRun, PlainState, is_running, plain_step, plain_run, RunFits, StateFits, Change, Stay}
use Rattle.prem_cycle.proofs.Prelude.{Memory, Execute, End, Job, Effect, Stored, Instr, put_below, put_above, view_of, ReplacementRule, IsRule, cases_lt, ne_eqb, length-set, slice_set}
use Rattle.prem_cycle.proofs.RunsLemmas.PositionLemmas.Attempts.{AgreeOn, Next, next_of, seen_same}
use Rattle.prem_cycle.proofs.RunsLemmas.PositionLemmas.Works.{IsKept, Issue, issue_facts, behind_view}
use Rattle.prem_cycle.proofs.SamePlain.{plain_step-same}
use Rattle.std.proofs.lemmas.Bool.{eq-eqb}
use Rattle.std.specs.Prelude.{replicate}

-- ---- what a store leaves

-- a byte that isn't stored to stays
pub stored_out : (own : ℕ → Bool) (stored : Option Stored) (view : ℕ → ℕ) (a : ℕ) → IfSome stored (λ s. AllOwn own s.address s.size) → (own a ≡ true → ⊥) → with_stored stored view a ≡ view a
stored_out own None view a h out = refl
stored_out own (Some s) view a h out =
    ⊎_elim (λ (below : a < s.address). put_below s.size s.address s.value view a below)
    (λ (from : s.address ≤ a).
    ⊎_elim (λ (inside : a < s.address + s.size).
    let e : s.address + (a - s.address) ≡ a = omega arith in
    absurd (out (subst (λ b. own b ≡ true) e (h (a - s.address) (omega arith)))))
    (λ (above : s.address + s.size ≤ a). put_above s.size s.address s.value view a above)
    (cases_lt a (s.address + s.size)))
    (cases_lt a s.address)

-- ---- registers stay 32

length-register : (rd value : ℕ) (registers : List ℕ) → length (list_with_register rd value registers) ≡ length registers
length-register zero value registers = refl
length-register (suc rd) value registers = length-set registers (suc rd) value

length-first : (stack : ℕ) → length (first_list stack) ≡ 32
length-first stack = length-register 2 stack (replicate 32 0)

changed_registers : (r : TaskRecord) (c : Change) (t : Task) → length t.registers ≡ 32 → length (task_changed r c t).registers ≡ 32
changed_registers r Stay t h = h
changed_registers r Memory t h = h
changed_registers r (Execute stated) t h = h
changed_registers r End t h = h
changed_registers r Job t h = length-first r.stack

pub after_registers : (r : TaskRecord) (e : Effect) (t : Task) → length t.registers ≡ 32 → length (task_after r e t).registers ≡ 32
after_registers r e t h = changed_registers r e.change (task_moved e t) (length-register e.rd e.value t.registers ∙ h)

-- ---- where the tasks stand

-- one more instruction of a task
abbrev pub bump : ℕ → (ℕ → ℕ) → ℕ → ℕ
bump k at j = cond (eqb k j) (at j + 1) (at j)

pub bump_same : (k : ℕ) (at : ℕ → ℕ) → bump k at k ≡ at k + 1
bump_same k at = ap (λ b. cond b (at k + 1) (at k)) (eq-eqb k k refl)

pub bump_other : (k j : ℕ) (at : ℕ → ℕ) → j ≢ k → bump k at j ≡ at j
bump_other k j at ne = ap (λ b. cond b (at j + 1) (at j)) (ne_eqb k j (λ e. ne (sym e)))

-- a task that has done so many instructions
pub record IsAt (run : TaskRun) (n : ℕ) (t : Task) : Type 0 where
  pub same : plain_of t (plain_run run n).task.view (plain_run run n).ended ≡ plain_run run n
  pub registers : length t.registers ≡ 32

pub record Stands (p : Setup) (own : ℕ → ℕ → Bool) (runs : ℕ → TaskRun) (at : ℕ → ℕ) (w : Work) : Type 0 where
  pub count : length w.tasks ≡ length p.tasks
  pub each : (k : ℕ) → k < length p.tasks → IsAt (runs k) (at k) (task_in w k)
  pub view : (k a : ℕ) → k < length p.tasks → own k a ≡ true → view_of w.cache w.memory a ≡ (plain_run (runs k) (at k)).task.view a
  pub kept : IsKept p w.cache w.memory

-- what the next instruction of a task is, in the machine and on its own
pub record Issuing (p : Setup) (own : ℕ → Bool) (run : TaskRun) (n : ℕ) (k : ℕ) (w : Work) : Type 0 where
  pub instr : Instr
  pub effect : Effect
  pub does : attempt_of p k w ≡ Executes instr effect
  pub behind : (rule : ReplacementRule) → IsRule rule → attempt_behind rule p k w ≡ Executes instr effect
  pub alone : attempt_in run.target run.size (plain_run run n).task.view (task_in w k) ≡ Executes instr effect
  pub next : plain_run run (n + 1)
      ≡ plain_of (task_after (record_of p k) effect (task_in w k)) (with_stored effect.stored (plain_run run n).task.view)
      (ended_after effect.change (plain_run run n).ended)
  pub lawful : EffectLawful (task_in w k).phase effect
  pub stays : IsOwn p own (task_in w k).pc effect
  pub work : (rule : ReplacementRule) → IsRule rule →
      Issue p (slice_set w.tasks k (task_after (record_of p k) effect (task_in w k))) effect.stored (view_of w.cache w.memory)
      (issued_by rule p k effect w).work

pub record IsRun (p : Setup) (k : ℕ) (run : TaskRun) : Type 0 where
  pub target : run.target ≡ p.plant.target
  pub size : run.size ≡ p.plant.memory
  pub entry : run.entry ≡ (record_of p k).entry
  pub stack : run.stack ≡ (record_of p k).stack
  pub fits : RunFits run

-- an instruction issues, and matches that of the task's run on its own
pub issue_matches : (p : Setup) (own : ℕ → Bool) (run : TaskRun) (n k : ℕ) (w : Work) → IsRun p k run →
    IsOwnOutcome p own (plain_run run n).pc (next_outcome run (plain_run run n)) → is_running run (plain_run run n) ≡ true →
    IsAt run n (task_in w k) → AgreeOn own (plain_run run n).task.view (view_of w.cache w.memory) → IsKept p w.cache w.memory → Issuing p own run n k w
issue_matches p own run n k w is stays goes here agree kept =
    let t : Task = task_in w k in
    let s : PlainState = plain_run run n in
    let f : StateFits s = plain_fits run is.fits n in
    let x : Next p own run.target run.size s.task.view t =
    next_of p own run s.task.view t s.ended f.task.bytes
    (subst (λ (q : PlainState). IsOwnOutcome p own q.pc (next_outcome run q)) (sym here.same) stays) in
    let alone : attempt_in run.target run.size s.task.view t ≡ Executes x.instr x.effect = x.does s.task.view (λ a o. refl) in
    let rd : x.effect.rd < 32 = x.fits.register in
    let does : attempt_of p k w ≡ Executes x.instr x.effect =
    ap (λ g. attempt_in g p.plant.memory (view_of w.cache w.memory) t) (sym is.target)
    ∙ ap (λ m. attempt_in run.target m (view_of w.cache w.memory) t) (sym is.size) ∙ x.does (view_of w.cache w.memory) agree in
    let fits : EffectFits p.plant.memory x.effect = subst (λ m. EffectFits m x.effect) is.size x.fits in
    let within : t.pc + 4 ≤ p.plant.memory = omega (arith, x.fetch_within, is.size) in
    record {
      instr = x.instr;
      effect = x.effect;
      does = does;
      behind = λ rule r.
          let seen : ℕ → ℕ = view_behind rule p k w x.effect.access in
          ap (behind_touches rule p k w) does
          ∙ ap (Executes x.instr) (seen_same p.plant.target p.plant.memory seen t x.instr x.effect
          (ap (λ g. attempt_in g p.plant.memory seen t) (sym is.target)
          ∙ ap (λ m. attempt_in run.target m seen t) (sym is.size)
          ∙ x.does seen (λ a o. agree a o ∙ sym (behind_view rule p k x.effect.access w r kept fits.access within x.stays.fetch_line x.stays.data_line a))));
      alone = alone;
      next =
          plain_steps-next run n _ ∙ ap (plain_step run) (sym here.same)
          ∙ plain_step-same run (record_of p k) t s.task.view s.ended x.instr x.effect is.entry is.stack (omega (arith, here.registers))
          (ap (is_running run) here.same ∙ goes) alone;
      lawful = x.lawful;
      stays = x.stays;
      work = λ rule r.
          issue_facts rule p k x.effect w r kept fits within x.stays.fetch_line x.stays.data_line;
    }
