-- The tasks of a run, each with its run on its own, and what each has issued.
use Rattle.std.specs.Prelude.{◌≡◌, ℕ, ◌/◌, ◌<◌, ◌≤◌, ◌==◌, Bool, true, List, [], length, Some, None, All, count_by, slice_index, slice_index_or}
use Rattle.prem_cycle.specs.Prelude.{Request, IsPlaced, TaskRun, RunFits, plain_run, plain_did, view_of, IsClean, ReplacementRule, IsRule, IsPlant}
use Rattle.prem_cycle.specs.Alone.{plain_of}
use Rattle.prem_cycle.specs.Inputs.{IsRequest}
use Rattle.prem_cycle.specs.Run.{CycleStep, coming_step, did_in, memory_of, run_of, steps_of}
use Rattle.prem_cycle.specs.Runs.Position.Own.{IsFree, StaysOwn}
use Rattle.prem_cycle.specs.State.{Setup, record_of, Work, MachineState, start_of, task_in}

-- how many of the instructions are a task's
abbrev pub count_of : ℕ → List CycleStep → ℕ
count_of k steps = count_by (λ s. s.task == k) steps

-- how many instructions a task has issued in n cycles from a state
abbrev pub issued_of : ReplacementRule → Setup → List Request → ℕ → MachineState → ℕ → ℕ
issued_of rule p requests n s k = count_of k (steps_of rule p requests n s)

-- a run on its own of the task number k: the same records and inputs, and the same bytes where they are its own
pub record IsRunOf (p : Setup) (memory : List ℕ) (inputs : List (List ℕ)) (own : ℕ → Bool) (k : ℕ) (run : TaskRun) : Type 0 where
  pub target : run.target ≡ p.plant.target
  pub size : run.size ≡ p.plant.memory
  pub entry : run.entry ≡ (record_of p k).entry
  pub stack : run.stack ≡ (record_of p k).stack
  pub jobs : run.jobs ≡ (record_of p k).jobs
  pub words : run.inputs ≡ slice_index_or inputs k []
  pub bytes : (a : ℕ) → own a ≡ true → slice_index memory a ≡ run.bytes a
  pub fits : RunFits run

-- each task's run stays with bytes that are its own alone, and no line of a device holds one of them
pub record AreOwn (p : Setup) (content : List ℕ) (inputs : List (List ℕ)) (own : ℕ → ℕ → Bool) (runs : ℕ → TaskRun) : Type 0 where
  pub runs_are : (k : ℕ) → k < length p.tasks → IsRunOf p (memory_of p content) inputs (own k) k (runs k)
  pub stay : (k : ℕ) → k < length p.tasks → StaysOwn p (own k) (runs k)
  pub apart : (j k a : ℕ) → j < length p.tasks → k < length p.tasks → own j a ≡ true → own k a ≡ true → j ≡ k
  pub free : (k a : ℕ) → k < length p.tasks → own k a ≡ true → IsFree p (a / p.plant.line)

-- content that fits a memory, devices whose lines lie at lines of it, and requests for these
pub record IsRunnable (p : Setup) (content : List ℕ) (requests : List Request) : Type 0 where
  pub plant : IsPlant p.plant
  pub room : length content ≤ p.plant.memory
  pub devices : All (IsPlaced p.plant.line p.plant.memory) p.devices
  pub asked : All (IsRequest p.devices) requests

-- in a state each task is where its run on its own is behind so many instructions, the core sees that run's bytes wherever
-- they are the task's own, and each resident line that isn't dirty has memory's bytes
pub record StandsAsAlone (p : Setup) (own : ℕ → ℕ → Bool) (runs : ℕ → TaskRun) (at : ℕ → ℕ) (s : MachineState) : Type 0 where
  pub untrapped : s.trapped ≡ None
  pub tasks : (k : ℕ) → k < length p.tasks →
      plain_of (task_in s.work k) (plain_run (runs k) (at k)).task.view (plain_run (runs k) (at k)).ended ≡ plain_run (runs k) (at k)
  pub bytes : (k a : ℕ) → k < length p.tasks → own k a ≡ true →
      view_of s.work.cache s.work.memory a ≡ (plain_run (runs k) (at k)).task.view a
  pub clean : IsClean s.work.cache s.work.memory

-- after any number of cycles, behind the instructions that it has issued
abbrev pub TasksStandAsAlone : Type 0
TasksStandAsAlone =
    (rule : ReplacementRule) (p : Setup) (content : List ℕ) (inputs : List (List ℕ)) (requests : List Request) (own : ℕ → ℕ → Bool) (runs : ℕ → TaskRun) (n : ℕ) →
    IsRule rule → IsRunnable p content requests → AreOwn p content inputs own runs →
    StandsAsAlone p own runs (issued_of rule p requests n (start_of p inputs (memory_of p content))) (run_of rule p content inputs requests n)

-- an instruction that issues in a state is the one that its task's run on its own executes behind so many
pub record IssuedAsAlone (p : Setup) (runs : ℕ → TaskRun) (at : ℕ → ℕ) (w : Work) (st : CycleStep) : Type 0 where
  pub there : st.task < length p.tasks
  pub before : st.before ≡ task_in w st.task
  pub did : plain_did (runs st.task) (plain_run (runs st.task) (at st.task)) ≡ Some (did_in st)

-- in every cycle
abbrev pub InstructionsAreAlone : Type 0
InstructionsAreAlone =
    (rule : ReplacementRule) (p : Setup) (content : List ℕ) (inputs : List (List ℕ)) (requests : List Request) (own : ℕ → ℕ → Bool) (runs : ℕ → TaskRun) (n : ℕ) (st : CycleStep) →
    IsRule rule → IsRunnable p content requests → AreOwn p content inputs own runs →
    coming_step rule p requests (run_of rule p content inputs requests n) ≡ Some st →
    IssuedAsAlone p runs (issued_of rule p requests n (start_of p inputs (memory_of p content))) (run_of rule p content inputs requests n).work st
