-- How many tasks a state has.
use Rattle.std.specs.Prelude.{slice_set}
use Rattle.std.proofs.Common.{◌≡◌, ℕ, zero, suc, ◌/◌, refl, ap, ◌∙◌, ⊎_elim, true, false, List, length, length-set}
use Rattle.std.proofs.lemmas.Bool.{cases_Bool}
use Rattle.prem_lru.specs.Entries.{ReplacementRule}
use Rattle.prem_lru.specs.CacheState.{touch_of}
use Rattle.prem_gate.specs.declared.request.Request.{Request}
use Rattle.prem_gate.specs.Gates.{Turned}
use Rattle.prem_cycle.specs.State.{Setup, MachineState, Task, Work, record_of, start_of, task_in}
use Rattle.prem_cycle.specs.Issue.{Attempt, Traps, Executes, attempt_behind, task_after}
use Rattle.prem_cycle.specs.Core.{CoreMove, Passes, Issues, attempted, moved}
use Rattle.prem_cycle.specs.Cycle.{arrivals_at, bus_at, with_memory, move_at, is_over, step_of}
use Rattle.prem_cycle.specs.Run.{cycles_of, memory_of, run_of}
use Rattle.prem_cycle.proofs.CycleParts.{cycle_work}
use Rattle.prem_cycle.proofs.RunLaws.{step_of-goes, step_of-stays}
use Rattle.prem_cycle.proofs.RunsLemmas.InputsLemmas.Taken.{issued_tasks}
use Rattle.prem_cycle.proofs.RunsLemmas.PositionLemmas.Starts.{length-first_tasks as first_long}

attempted_long : (rule : ReplacementRule) (p : Setup) (j : ℕ) (a : Attempt) (w : Work) → length (attempted rule p j a w).tasks ≡ length w.tasks
attempted_long rule p j (Traps cause) w = refl
attempted_long rule p j (Executes instr e) w =
    let line : ℕ = (task_in w j).pc / p.plant.line in
    let t : Task = task_after (record_of p j) e (task_in w j) in
    ap length (issued_tasks rule p.plant.line (slice_set w.tasks j t) e.stored line (touch_of rule w.cache line w.memory) e.access) ∙ length-set w.tasks j t

moved_long : (rule : ReplacementRule) (p : Setup) (m : CoreMove) (w : Work) → length (moved rule p m w).tasks ≡ length w.tasks
moved_long rule p (Passes c) w = refl
moved_long rule p (Issues j i) w = attempted_long rule p j (attempt_behind rule p j w) w

pub step_long : (rule : ReplacementRule) (p : Setup) (requests : List Request) (s : MachineState) → length (step_of rule p requests s).work.tasks ≡ length s.work.tasks
step_long rule p requests s =
    let b : Turned = bus_at (arrivals_at requests s).gates s in
    ⊎_elim (λ (e : is_over s ≡ true). ap (λ (u : MachineState). length u.work.tasks) (step_of-stays rule p requests s e))
    (λ (e : is_over s ≡ false).
    ap (λ (u : MachineState). length u.work.tasks) (step_of-goes rule p requests s e)
    ∙ ap (λ (w : Work). length w.tasks) (cycle_work rule p (arrivals_at requests s) b s)
    ∙ moved_long rule p (move_at p b s) (with_memory b.memory s.work))
    (cases_Bool (is_over s))

cycles_long : (rule : ReplacementRule) (p : Setup) (requests : List Request) (n : ℕ) (s : MachineState) → length (cycles_of rule p requests n s).work.tasks ≡ length s.work.tasks
unfolding cycles_of
cycles_long rule p requests zero s = refl
cycles_long rule p requests (suc n) s = step_long rule p requests (cycles_of rule p requests n s) ∙ cycles_long rule p requests n s

-- a state of a run has as many as the machine
pub run_long : (rule : ReplacementRule) (p : Setup) (content : List ℕ) (inputs : List (List ℕ)) (requests : List Request) (n : ℕ) →
    length (run_of rule p content inputs requests n).work.tasks ≡ length p.tasks
run_long rule p content inputs requests n =
    cycles_long rule p requests n (start_of p inputs (memory_of p content)) ∙ first_long p.tasks inputs
