-- Instructions of one task that hit and go on in their interval, one behind the other. Time is in cycles.
use Rattle.std.specs.Prelude.{◌≡◌, ℕ, suc, ◌+◌, ◌/◌, ◌%◌, ◌<◌, ◌≤◌, true, false, List, [], ◌∷◌, Option, None, Some, IfSome, length, map, slice_index, slice_set}
use Rattle.prem_machine.specs.Prelude.{log_size, output_count, Executes, LineTouch, attempt_in, attempt_seen, is_memory, issued_with, one_if, task_moved, view_touched, cycles_of, Counts}
use Rattle.prem_machine.specs.Prelude.{MachineState, Setup, Task, Work, rule_in, task_in, Request, cost_of, decode_of, UpshotFits, act_of, told_by, Access, Stay, Effect, Phase, Instr}
use Rattle.prem_machine.specs.Prelude.{Upshot, CacheState, is_resident, touch_of, view_of, rule_of, Plant, number_at}
use Rattle.prem_isa.specs.declared.effect.Stored.{Stored}
use Rattle.prem_machine.specs.Stretch.{IsLone}

-- ---- one of them

-- a touch of a line that is resident
abbrev pub hit_of : ℕ → LineTouch
hit_of line = record { line = line; hit = true; back = false }

-- a touch of a line finds it, and leaves this cache
abbrev pub Finds : CacheState → (line : ℕ) → (memory : List ℕ) → CacheState → Type 0
Finds c line memory c' = touch_of (rule_of c.plant.policy) c line memory ≡ record { cache = c'; memory = memory; hit = true; back = false }

-- what a store counts as in a phase
abbrev pub stores_in : Phase → Option Stored → ℕ
stores_in phase None = 0
stores_in phase (Some s) = one_if (is_memory phase)

-- the next instruction of a task is executed, finds all lines that it touches, leaves memory as it is, takes no input word, and
-- its interval goes on: then the task and the cache are these, it has this cost, found so many lines and counts as so many stores
pub record IsHit (p : Plant) (memory : List ℕ) (t : Task) (c : CacheState) (t' : Task) (c' : CacheState) (cost hits stores : ℕ) : Type 0 where
  pub instr : Instr
  pub effect : Effect
  pub lines : List ℕ
  pub does : attempt_seen p.target p.memory (view_touched (rule_of p.policy) p.line c memory t.pc) t
      (attempt_in p.target p.memory (view_of c memory) t) ≡ Executes instr effect
  pub stays : effect.change ≡ Stay
  pub takes_none : effect.input ≡ false
  pub issued : (tasks : List Task) → issued_with (rule_of p.policy) p.line tasks effect.stored (t.pc / p.line)
      (touch_of (rule_of p.policy) c (t.pc / p.line) memory) effect.access
      ≡ record { work = record { tasks = tasks; cache = c'; memory = memory }; touches = map hit_of lines }
  pub moved : t' ≡ task_moved effect t
  pub costs : cost_of instr ≡ cost
  pub finds : length lines ≡ hits
  pub counts : stores_in t.phase effect.stored ≡ stores

-- the next instruction of a task, which stands there as a word, has this cost and comes to this upshot
pub record ComesTo (p : Plant) (view : ℕ → ℕ) (t : Task) (cost : ℕ) (u : Upshot) : Type 0 where
  pub word : ℕ
  pub place : t.pc + 4 ≤ p.memory
  pub aligned : t.pc % 4 ≡ 0
  pub reads : word ≡ number_at view t.pc 4
  pub costs : IfSome (decode_of word) (λ i. cost_of i ≡ cost)
  pub outcome : (v : ℕ → ℕ) (input : ℕ) → told_by v t.pc input u ≡ act_of p.target p.memory v (slice_index t.registers) t.pc t.phase input (decode_of word)
  pub fits : UpshotFits p.memory u

-- the lines of a fetch and of an access, if there is one
abbrev pub lines_of : (size line : ℕ) → Option Access → List ℕ
lines_of size line None = line ∷ []
lines_of size line (Some a) = line ∷ a.address / size ∷ []

-- how many they are
abbrev pub count_of : Option Access → ℕ
count_of None = 1
count_of (Some a) = 2

-- they are all in the cache
abbrev pub lines_there : CacheState → (line : ℕ) → Option Access → Type 0
lines_there c line access = (is_resident c line ≡ true) × IfSome access (λ a. is_resident c (a.address / c.plant.line) ≡ true)

-- ---- one behind the other

-- a place between two of them: the task, the cache, how many cycles they have taken so far, how many lines they have
-- found, and how many stores of theirs are counted
pub record Spot : Type 0 where
  pub task : Task
  pub cache : CacheState
  pub time : ℕ
  pub hits : ℕ
  pub stores : ℕ

-- one leads from a place to another
pub record IsNext (p : Plant) (memory : List ℕ) (a b : Spot) : Type 0 where
  pub cost : ℕ
  pub found : ℕ
  pub stored : ℕ
  pub hit : IsHit p memory a.task a.cache b.task b.cache cost found stored
  pub time : b.time ≡ a.time + cost
  pub hits : b.hits ≡ a.hits + found
  pub stores : b.stores ≡ a.stores + stored

-- so many lead from one place to another
pub data Leads (p : Plant) (memory : List ℕ) (a : Spot) : ℕ → Spot → Type 0 where
  here : Leads p memory a 0 a
  then_hits : {n : ℕ} {c : Spot} (b : Spot) → Leads p memory a n b → IsNext p memory b c → Leads p memory a (suc n) c

-- one does, which takes 1 to 20 cycles, finds at most two lines and counts as one store at most
pub record IsStep (p : Plant) (memory : List ℕ) (a b : Spot) : Type 0 where
  pub next : IsNext p memory a b
  pub some : a.time + 1 ≤ b.time
  pub most : b.time ≤ a.time + 20
  pub found : b.hits ≤ a.hits + 2
  pub stored : b.stores ≤ a.stores + 1

-- some do
pub record Reaches (p : Plant) (memory : List ℕ) (a b : Spot) : Type 0 where
  pub steps : ℕ
  pub leads : Leads p memory a steps b

abbrev pub spot_at : Task → CacheState → (time hits stores : ℕ) → Spot
spot_at t c time hits stores = record { task = t; cache = c; time = time; hits = hits; stores = stores }

-- ---- in a run of the machine

-- where a task stands in a state
abbrev pub spot_in : ℕ → MachineState → Spot
spot_in task s = record { task = task_in s.work task; cache = s.work.cache; time = 0; hits = 0; stores = 0 }

-- the state in which it stands at a place
abbrev pub work_at : ℕ → Work → Spot → Work
work_at task w b = record { tasks = slice_set w.tasks task b.task; cache = b.cache; memory = w.memory }

-- some instructions of a task lead from one work to another
pub record LeadsTo (p : Plant) (k : ℕ) (w w' : Work) (time hits stores : ℕ) : Type 0 where
  pub task : Task
  pub reaches : Reaches p w.memory (spot_at (task_in w k) w.cache 0 0 0) (spot_at task w'.cache time hits stores)
  pub tasks : w'.tasks ≡ slice_set w.tasks k task
  pub kept : w'.memory ≡ w.memory

abbrev pub counts_at : Counts → Spot → Counts
counts_at n b = record n { hits = n.hits + b.hits; memory_stores = n.memory_stores + b.stores }

abbrev pub state_at : ℕ → MachineState → Spot → MachineState
state_at task s b =
    record s {
      now = s.now + b.time;
      work = work_at task s.work b;
      log = record s.log { counts = counts_at s.log.counts b };
    }

-- while nothing but the task goes on, such instructions are as many cycles of the machine as they take
abbrev pub HitsAreCycles : Type 0
HitsAreCycles =
    (p : Setup) (requests : List Request) (task until n : ℕ) (s : MachineState) (b : Spot) →
    IsLone task until requests s → s.trapped ≡ None → task < length s.work.tasks →
    Leads p.plant s.work.memory (spot_in task s) n b → s.now + b.time ≤ until →
    output_count s.work.tasks + n < log_size → length s.log.intervals < log_size →
    cycles_of (rule_in p) p requests b.time s ≡ state_at task s b
