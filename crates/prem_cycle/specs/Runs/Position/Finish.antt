-- One task without devices: where its run stands, by when it is finished, and with what.
use Rattle.std.specs.Prelude.{◌≡◌, ℕ, ◌+◌, ◌-◌, ◌*◌, ◌%◌, ◌^◌, ◌<◌, ◌≤◌, true, false, List, [], ◌∷◌, Option, Some, None, All, length, sum_by, slice_index}
use Rattle.prem_cycle.specs.Prelude.{TaskRecord, cost_of, greatest_cost, TaskRun, plain_start, plain_run, Did, plain_did, plain_trace, Access, Compatible, view_of, ReplacementRule, IsRule}
use Rattle.prem_cycle.specs.Prelude.{IsPlant, Plant, task_at}
use Rattle.prem_cycle.specs.Alone.{run_in}
use Rattle.prem_cycle.specs.Cycle.{is_finished, is_full, log_size}
use Rattle.prem_cycle.specs.Run.{CycleStep, coming_step, did_in, memory_of, run_of}
use Rattle.prem_cycle.specs.Runs.Position.Issued.{issued_of}
use Rattle.prem_cycle.specs.State.{Setup, MachineState, start_of, task_in}

-- ---- the run

-- the setup
abbrev pub lone : Plant → TaskRecord → Setup
lone plant task = record { plant = plant; tasks = task ∷ []; devices = [] }

-- the task's run on its own, on the same content and input words
abbrev pub run_alone : Plant → TaskRecord → (content words : List ℕ) → TaskRun
run_alone plant task content words = run_in (lone plant task) content (words ∷ []) 0

-- the state of the machine after n cycles
abbrev pub lone_run : ReplacementRule → Plant → TaskRecord → (content words : List ℕ) → ℕ → MachineState
lone_run rule plant task content words n = run_of rule (lone plant task) content (words ∷ []) [] n

-- numbers in their ranges, content that is bytes and fits memory, and input words
pub record IsLone (plant : Plant) (task : TaskRecord) (content words : List ℕ) : Type 0 where
  pub in_range : IsPlant plant
  pub period : 1 ≤ task.period
  pub jobs : task.jobs ≤ 65535
  pub entry : task.entry % 4 ≡ 0
  pub stack : task.stack ≤ plant.memory
  pub room : length content ≤ plant.memory
  pub bytes : All (λ byte. byte < 256) content
  pub inputs : All (λ word. word < 2 ^ 32) words

-- ---- where it stands

abbrev pub NeverTraps : TaskRun → Type 0
NeverTraps run = (n : ℕ) → (plain_run run n).trapped ≡ None

-- the instructions issued in n cycles
abbrev pub lone_issued : ReplacementRule → Plant → TaskRecord → (content words : List ℕ) → ℕ → ℕ
lone_issued rule plant task content words n =
    issued_of rule (lone plant task) [] n (start_of (lone plant task) (words ∷ []) (memory_of (lone plant task) content)) 0

-- a state where the run on its own is after m instructions: its registers, its place, its words, and every byte
pub record StandsAt (run : TaskRun) (m : ℕ) (s : MachineState) : Type 0 where
  pub untrapped : s.trapped ≡ None
  pub registers : (q : ℕ) → slice_index (task_in s.work 0).registers q ≡ (plain_run run m).task.registers q
  pub pc : (task_in s.work 0).pc ≡ (plain_run run m).pc
  pub left : (task_in s.work 0).left ≡ (plain_run run m).task.left
  pub outputs : (task_in s.work 0).outputs ≡ (plain_run run m).task.outputs
  pub bytes : (a : ℕ) → view_of s.work.cache s.work.memory a ≡ (plain_run run m).task.view a

-- each state of a run stands behind the instructions that were issued
abbrev pub LoneStandsAsAlone : Type 0
LoneStandsAsAlone =
    (rule : ReplacementRule) (plant : Plant) (task : TaskRecord) (content words : List ℕ) (n : ℕ) →
    IsRule rule → IsLone plant task content words → NeverTraps (run_alone plant task content words) →
    StandsAt (run_alone plant task content words) (lone_issued rule plant task content words n) (lone_run rule plant task content words n)

-- the instruction that it issues next, if it does, is the next one of the run on its own
abbrev pub LoneIssuesAsAlone : Type 0
LoneIssuesAsAlone =
    (rule : ReplacementRule) (plant : Plant) (task : TaskRecord) (content words : List ℕ) (n : ℕ) (st : CycleStep) →
    IsRule rule → IsLone plant task content words → NeverTraps (run_alone plant task content words) →
    coming_step rule (lone plant task) [] (lone_run rule plant task content words n) ≡ Some st →
    plain_did (run_alone plant task content words) (plain_run (run_alone plant task content words) (lone_issued rule plant task content words n)) ≡ Some (did_in st)

-- ---- what is due

-- the accesses of an executed instruction: its fetch, and the data of a load or store
abbrev pub data_accesses : Option Access → ℕ
data_accesses None = 0
data_accesses (Some a) = 1

abbrev pub accesses_of : Did → ℕ
accesses_of d = 1 + data_accesses d.access

-- the cycles that it takes at most
abbrev pub due_of : Plant → Did → ℕ
due_of plant d = cost_of d.instr + accesses_of d * (plant.fill + plant.back)

-- the cycles that jobs take at most: up to the last release, their switches, and their instructions
abbrev pub finish_of : Plant → TaskRecord → List Did → ℕ
finish_of plant task dids = (task.jobs - 1) * task.period + task.jobs * plant.switch + sum_by (due_of plant) dids

-- ---- the end

-- n instructions end all jobs of a run on its own, in compatible intervals alone, and put out fewer words than a log holds
pub record EndsIn (run : TaskRun) (n : ℕ) : Type 0 where
  pub ended : (plain_run run n).ended ≡ run.jobs
  pub untrapped : (plain_run run n).trapped ≡ None
  pub compatible : (m : ℕ) → m ≤ n → (plain_run run m).task.phase ≡ Compatible
  pub outputs : length (plain_run run n).task.outputs < log_size

-- the machine has finished with what the run on its own has after n instructions
pub record FinishedAs (run : TaskRun) (n : ℕ) (s : MachineState) : Type 0 where
  pub finished : is_finished s ≡ true
  pub untrapped : s.trapped ≡ None
  pub room : is_full s ≡ false
  pub ended : (task_at s.sched 0).ended ≡ run.jobs
  pub outputs : (task_in s.work 0).outputs ≡ (plain_run run n).task.outputs
  pub bytes : (a : ℕ) → view_of s.work.cache s.work.memory a ≡ (plain_run run n).task.view a

-- where the run on its own ends, the machine's run has finished by the cycles that are due, and stays so
abbrev pub FinishesInTime : Type 0
FinishesInTime =
    (rule : ReplacementRule) (plant : Plant) (task : TaskRecord) (content words : List ℕ) (n cycles : ℕ) →
    IsRule rule → IsLone plant task content words → EndsIn (run_alone plant task content words) n →
    finish_of plant task (plain_trace (run_alone plant task content words) n (plain_start (run_alone plant task content words))) ≤ cycles →
    FinishedAs (run_alone plant task content words) n (lone_run rule plant task content words cycles)

-- one job of n instructions: each takes at most the greatest cost of the target and two accesses
abbrev pub FinishesOneJob : Type 0
FinishesOneJob =
    (rule : ReplacementRule) (plant : Plant) (task : TaskRecord) (content words : List ℕ) (n cycles : ℕ) →
    IsRule rule → IsLone plant task content words → task.jobs ≡ 1 → EndsIn (run_alone plant task content words) n →
    plant.switch + n * (greatest_cost plant.target + 2 * (plant.fill + plant.back)) ≤ cycles →
    FinishedAs (run_alone plant task content words) n (lone_run rule plant task content words cycles)
