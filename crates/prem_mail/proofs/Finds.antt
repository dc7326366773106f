-- A word that comes before a read that would have passed the end of the list.
use Rattle.std.specs.Prelude.{◌==◌, ◌&&◌, nat_le, slice_index_or}
use Rattle.std.proofs.Common.{◌≡◌, ℕ, zero, suc, ◌<◌, refl, ap, ◌∙◌, sym, arith, cond, ⊎_elim, Bool, true, false, List, [], ◌∷◌, ◌++◌, Some, None, length}
use Rattle.std.proofs.lemmas.Bool.{cases_Bool}
use Rattle.prem_lru.specs.Entries.{ReplacementRule}
use Rattle.prem_gate.specs.declared.request.Request.{Request}
use Rattle.prem_gate.specs.Gates.{Turned}
use Rattle.prem_cycle.specs.declared.state.Interval.{Interval}
use Rattle.prem_cycle.specs.State.{Setup, MachineState, Task, Work, task_in}
use Rattle.prem_cycle.specs.Issue.{Attempt, Traps, Executes, attempt_behind}
use Rattle.prem_cycle.specs.Core.{is_empty, CoreMove, Passes, Issues}
use Rattle.prem_cycle.specs.Cycle.{arrivals_at, bus_at, with_memory, move_at, is_over}
use Rattle.prem_cycle.specs.FactsOf.{with_input, with_word}
use Rattle.prem_cycle.specs.Run.{step_by, step_in, coming_step, wants_word, wants_input_of}
use Rattle.prem_cycle.proofs.RunsLemmas.InputsLemmas.Words.{no_task, tasks_with}
use Rattle.prem_cycle.proofs.RunsLemmas.InputsLemmas.Turns.{work_with, past_of, move_with}
use Rattle.prem_cycle.proofs.RunsLemmas.InputsLemmas.Cycles.{over_with, coming_goes, coming_stays}

-- ---- the task that has got a word has one left

pub set_there : (tasks : List Task) (k word : ℕ) → k < length tasks → slice_index_or (tasks_with k word tasks) k no_task ≡ with_word word (slice_index_or tasks k no_task)
set_there [] k word lt = absurd (omega arith)
set_there (t ∷ tasks) zero word lt = refl
set_there (t ∷ tasks) (suc k) word lt = set_there tasks k word (omega arith)

not_empty : (left : List ℕ) (word : ℕ) → is_empty (left ++ word ∷ []) ≡ false
not_empty [] word = refl
not_empty (x ∷ left) word = refl

last_false : (a b c : Bool) → c ≡ false → (a && b && c) ≡ false
last_false true true c h = h
last_false true false c h = refl
last_false false b c h = refl

-- a step of a task that has words left isn't past the end
step_finds : (rule : ReplacementRule) (p : Setup) (j now i : ℕ) (v : Interval) (w : Work) (a : Attempt) → is_empty (task_in w i).left ≡ false → past_of j (step_by rule p now i v w a) ≡ false
step_finds rule p j now i v w (Traps cause) h = refl
step_finds rule p j now i v w (Executes instr e) h = last_false (i == j) e.input (is_empty (task_in w i).left) h

-- ---- the task that wants a word is the one that issues

some_task : (b : Bool) (task k : ℕ) → cond b (Some task) None ≡ Some k → task ≡ k
some_task true task k h = let x : Some task ≡ Some k = h in cc
some_task false task k h = absurd (let x : None ≡ Some k = h in cc)

issuer : (rule : ReplacementRule) (p : Setup) (now k i : ℕ) (v : Interval) (w : Work) (a : Attempt) → wants_word (step_by rule p now i v w a) ≡ Some k → i ≡ k
issuer rule p now k i v w (Traps cause) h = absurd (let x : None ≡ Some k = h in cc)
issuer rule p now k i v w (Executes instr e) h = some_task (e.input && nat_le (length (task_in w i).left) 0) i k h

finds_in : (rule : ReplacementRule) (p : Setup) (j now k : ℕ) (w : Work) (m : CoreMove) → k < length w.tasks →
    wants_word (step_in rule p now w m) ≡ Some k → past_of j (step_in rule p now (work_with k 0 w) m) ≡ false
finds_in rule p j now k w (Passes c) lt h = absurd (let x : None ≡ Some k = h in cc)
finds_in rule p j now k w (Issues i v) lt h =
    let same : i ≡ k = issuer rule p now k i v w (attempt_behind rule p i w) h in
    let there : task_in (work_with k 0 w) i ≡ with_word 0 (task_in w k) = ap (λ n. task_in (work_with k 0 w) n) same ∙ set_there w.tasks k 0 lt in
    step_finds rule p j now i v (work_with k 0 w) (attempt_behind rule p i (work_with k 0 w)) (ap (λ (t : Task). is_empty t.left) there ∙ not_empty (task_in w k).left 0)

-- ---- a cycle

-- where a task wants a word and gets it, no task reads past the end in the coming cycle
pub supplied_finds : (rule : ReplacementRule) (p : Setup) (requests : List Request) (s : MachineState) (k j : ℕ) → k < length s.work.tasks →
    wants_input_of rule p requests s ≡ Some k → past_of j (coming_step rule p requests (with_input k 0 s)) ≡ false
supplied_finds rule p requests s k j lt h =
    let b : Turned = bus_at (arrivals_at requests s).gates s in
    ⊎_elim (λ (e : is_over s ≡ true). ap (past_of j) (coming_stays rule p requests (with_input k 0 s) (over_with k 0 s ∙ e)))
    (λ (e : is_over s ≡ false).
    ap (past_of j) (coming_goes rule p requests (with_input k 0 s) (over_with k 0 s ∙ e))
    ∙ ap (λ m. past_of j (step_in rule p s.now (work_with k 0 (with_memory b.memory s.work)) m)) (move_with p k 0 s.now b.turn.core s.sched (with_memory b.memory s.work) s.core)
    ∙ finds_in rule p j s.now k (with_memory b.memory s.work) (move_at p b s) lt (sym (ap wants_word (coming_goes rule p requests s e)) ∙ h))
    (cases_Bool (is_over s))
