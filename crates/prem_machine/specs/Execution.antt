-- Instructions that are executed one behind the other, as they are told. Time is in cycles.
use Rattle.std.specs.Prelude.{◌≡◌, ℕ, suc, ◌+◌, ◌-◌, ◌≤◌, ◌<◌, List, [], ◌∷◌, ◌++◌}
use Rattle.prem_machine.specs.Prelude.{cycles_of, task_in, MachineState, Running, Setup, Request, ReplacementRule}
use Rattle.prem_machine.specs.Hits.{Leads, here, then_hits, Spot, Reaches, LeadsTo}
use Rattle.prem_machine.specs.Prelude.{Plant, Work}
use Rattle.prem_machine.specs.Wanted.{core_in}
use Rattle.prem_machine.specs.declared.parts.Parts.{Parts}
use Rattle.prem_machine.specs.declared.execution.Execution.{Execution}
use Rattle.prem_machine.specs.declared.execution.ExecutionView.{ExecutionView}

-- ---- one of them

-- the lines that all instructions so far have touched
abbrev pub touched : MachineState → ℕ
touched s = s.log.counts.hits + s.log.counts.misses

-- no line is touched between two states
pub record SameTouches (s t : MachineState) : Type 0 where
  pub hits : t.log.counts.hits ≡ s.log.counts.hits
  pub misses : t.log.counts.misses ≡ s.log.counts.misses
  pub backs : t.log.counts.writebacks ≡ s.log.counts.writebacks

-- n cycles from a state on are those of one instruction of a task: the first one executes it, and in the others the task only waits for it
pub record IsOneExecution (rule : ReplacementRule) (p : Setup) (requests : List Request) (task n : ℕ) (s : MachineState) : Type 0 where
  pub some : 1 ≤ n
  pub runs : (m : ℕ) → m < n → (cycles_of rule p requests m s).core.mode ≡ Running task
  pub passes : (m : ℕ) → m ≤ n → (cycles_of rule p requests m s).now ≡ s.now + m
  pub touches : touched s < touched (cycles_of rule p requests 1 s)
  pub misses : s.log.counts.misses ≤ (cycles_of rule p requests 1 s).log.counts.misses
  pub backs : s.log.counts.writebacks ≤ (cycles_of rule p requests 1 s).log.counts.writebacks
  pub waits : (m : ℕ) → 1 ≤ m → m ≤ n → SameTouches (cycles_of rule p requests 1 s) (cycles_of rule p requests m s)

-- what is told of it: where it stands, its cycles, and the lines that it has brought in and that were written back for them
pub record IsExecution (rule : ReplacementRule) (p : Setup) (requests : List Request) (x : Execution) (s : MachineState) : Type 0 where
  pub task : ℕ
  pub one : IsOneExecution rule p requests task x.cycles s
  pub stands : x.pc ≡ (task_in s.work task).pc
  pub misses : (cycles_of rule p requests x.cycles s).log.counts.misses ≡ s.log.counts.misses + x.misses
  pub backs : (cycles_of rule p requests x.cycles s).log.counts.writebacks ≡ s.log.counts.writebacks + x.backs

-- ---- one behind the other

-- all their cycles
abbrev pub cycles_in : List Execution → ℕ
cycles_in [] = 0
cycles_in (x ∷ xs) = x.cycles + cycles_in xs

-- the cycles from a state on are those of these instructions
abbrev pub AreExecutions : ReplacementRule → Setup → List Request → List Execution → MachineState → Type 0
AreExecutions rule p requests [] s = Unit {0}
AreExecutions rule p requests (x ∷ xs) s = IsExecution rule p requests x s × AreExecutions rule p requests xs (cycles_of rule p requests x.cycles s)

-- n cycles from a state on are those of instructions that are told behind others
pub record ToldBehind (rule : ReplacementRule) (p : Setup) (requests : List Request) (n : ℕ) (s : MachineState) (before told : List Execution) : Type 0 where
  pub executions : List Execution
  pub added : told ≡ before ++ executions
  pub take : cycles_in executions ≡ n
  pub are : AreExecutions rule p requests executions s

-- ---- how they are told

-- a view of a machine, of which a task executes instructions
abbrev pub seen_of : {P : Type 0} → (task : ℕ) → Parts P → ExecutionView
seen_of task x = record { pc = (core_in x.work task).pc; now = x.now; misses = x.facts.misses; backs = x.facts.writebacks }

-- between two of them
abbrev pub execution_since : ExecutionView → ExecutionView → Execution
execution_since a b = record { pc = a.pc; cycles = b.now - a.now; misses = b.misses - a.misses; backs = b.backs - a.backs }

-- of instructions that hit
abbrev pub hits_on : {p : Plant} {memory : List ℕ} {a b : Spot} {n : ℕ} → Leads p memory a n b → List Execution
hits_on here = []
hits_on (then_hits b f h) = hits_on f ++ record { pc = b.task.pc; cycles = h.cost; misses = 0; backs = 0 } ∷ []

-- some lead from a place to another, and are told behind others
pub record ReachesTold (p : Plant) (memory : List ℕ) (a b : Spot) (before told : List Execution) : Type 0 where
  pub reaches : Reaches p memory a b
  pub added : told ≡ before ++ hits_on reaches.leads

-- from one work to another
pub record LeadsToTold (p : Plant) (k : ℕ) (w w' : Work) (time hits stores : ℕ) (before told : List Execution) : Type 0 where
  pub leads : LeadsTo p k w w' time hits stores
  pub added : told ≡ before ++ hits_on leads.reaches.leads
