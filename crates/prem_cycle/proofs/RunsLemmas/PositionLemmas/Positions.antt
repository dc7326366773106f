-- The law of position.
use Rattle.prem_cycle.proofs.Prelude.{memory_of, run_of, issued_of, AreOwn, IsRunnable, StandsAsAlone, TasksStandAsAlone, Setup, MachineState, start_of, Request, TaskRun, ReplacementRule}
use Rattle.prem_cycle.proofs.Prelude.{IsRule, ℕ, Bool, List}
use Rattle.prem_cycle.proofs.RunsLemmas.PositionLemmas.Runs.{AllAt, run_all}
use Rattle.prem_cycle.proofs.RunsLemmas.PositionLemmas.Starts.{start_all}

-- the whole of what is known of a state of a run
pub run_stands : (rule : ReplacementRule) (p : Setup) (content : List ℕ) (inputs : List (List ℕ)) (requests : List Request) (own : ℕ → ℕ → Bool)
    (runs : ℕ → TaskRun) (n : ℕ) → IsRule rule → IsRunnable p content requests → AreOwn p content inputs own runs →
    AllAt p own runs (issued_of rule p requests n (start_of p inputs (memory_of p content))) (run_of rule p content inputs requests n)
run_stands rule p content inputs requests own runs n r q o =
    run_all rule p content inputs requests own runs r q o n (start_of p inputs (memory_of p content)) (start_all p content inputs requests own runs q o)

all_stand : (p : Setup) (own : ℕ → ℕ → Bool) (runs : ℕ → TaskRun) (at : ℕ → ℕ) (s : MachineState) → AllAt p own runs at s → StandsAsAlone p own runs at s
all_stand p own runs at s h = record {
  untrapped = h.position.untrapped;
  tasks = λ k lt. (h.position.stands.each k lt).same;
  bytes = h.position.stands.view;
  clean = h.position.stands.kept.clean;
}

pub tasks_stand_as_alone : TasksStandAsAlone
tasks_stand_as_alone rule p content inputs requests own runs n r q o =
    all_stand p own runs (issued_of rule p requests n (start_of p inputs (memory_of p content))) (run_of rule p content inputs requests n)
    (run_stands rule p content inputs requests own runs n r q o)
