-- Where a run of one task without devices stands.
use Rattle.std.proofs.Common.{◌≡◌, ℕ, zero, suc, ◌<◌, refl, ap, arith, Some, [], ◌∷◌}
use Rattle.prem_cycle.proofs.Prelude.{plain_of, did_in, memory_of, lone, run_alone, lone_run, lone_issued, LoneStandsAsAlone, LoneIssuesAsAlone, issued_of, StandsAsAlone, IssuedAsAlone}
use Rattle.prem_cycle.proofs.Prelude.{Setup, MachineState, start_of, task_in, TaskRun, PlainState, Did, plain_did, plain_run}
use Rattle.prem_cycle.proofs.RunsLemmas.PositionLemmas.Issues.{instructions_are_alone}
use Rattle.prem_cycle.proofs.RunsLemmas.PositionLemmas.Lone.{all_whole, lone_runnable, lone_own}
use Rattle.prem_cycle.proofs.RunsLemmas.PositionLemmas.Positions.{tasks_stand_as_alone}

pub lone_stands_as_alone : LoneStandsAsAlone
lone_stands_as_alone rule plant task content words n r h never =
    let p : Setup = lone plant task in
    let run : TaskRun = run_alone plant task content words in
    let s : MachineState = lone_run rule plant task content words n in
    let m : ℕ = lone_issued rule plant task content words n in
    let x : StandsAsAlone p all_whole (λ k. run) (issued_of rule p [] n (start_of p (words ∷ []) (memory_of p content))) s =
    tasks_stand_as_alone rule p content (words ∷ []) [] all_whole (λ k. run) n r (lone_runnable plant task content words h) (lone_own plant task content words h never) in
    let same : plain_of (task_in s.work 0) (plain_run run m).task.view (plain_run run m).ended ≡ plain_run run m = x.tasks 0 (omega arith) in
    record {
      untrapped = x.untrapped;
      registers = λ q. ap (λ (u : PlainState). u.task.registers q) same;
      pc = ap (λ (u : PlainState). u.pc) same;
      left = ap (λ (u : PlainState). u.task.left) same;
      outputs = ap (λ (u : PlainState). u.task.outputs) same;
      bytes = λ a. x.bytes 0 a (omega arith) refl;
    }

first_task_of : (run : TaskRun) (at : ℕ → ℕ) (k : ℕ) (d : Did) → k < 1 → plain_did run (plain_run run (at k)) ≡ Some d → plain_did run (plain_run run (at 0)) ≡ Some d
first_task_of run at zero d lt e = e
first_task_of run at (suc k) d lt e = absurd (omega arith)

pub lone_issues_as_alone : LoneIssuesAsAlone
lone_issues_as_alone rule plant task content words n st r h never e =
    let p : Setup = lone plant task in
    let run : TaskRun = run_alone plant task content words in
    let at : ℕ → ℕ = issued_of rule p [] n (start_of p (words ∷ []) (memory_of p content)) in
    let x : IssuedAsAlone p (λ k. run) at (lone_run rule plant task content words n).work st =
    instructions_are_alone rule p content (words ∷ []) [] all_whole (λ k. run) n st r (lone_runnable plant task content words h) (lone_own plant task content words h never) e in
    first_task_of run at st.task (did_in st) x.there x.did
