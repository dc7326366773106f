-- The signals of a wave, and their values in a cycle: what the states of the machine before and behind that cycle show. A value is a number,
-- or none. A word is the number whose bytes, from the high one down, spell it.
use Rattle.std.specs.Prelude.{ℕ, zero, suc, ◌+◌, ◌*◌, ◌==◌, ◌&&◌, nat_le, nat_lt, Bool, if◌then◌else◌, List, [], ◌∷◌, ◌++◌, Option, Some, None, length, slice_get}
use Rattle.prem_sched.specs.declared.sched.TaskJobs.{TaskJobs}
use Rattle.prem_sched.specs.declared.sched.Choice.{Choice}
use Rattle.prem_sched.specs.declared.sched.Choice.TheVariants.{Run, Idle as Rest, Finished}
use Rattle.prem_sched.specs.Schedule.{choice, is_ready, task_at}
use Rattle.prem_isa.specs.declared.effect.Phase.{Phase}
use Rattle.prem_isa.specs.declared.effect.Phase.TheVariants.{Compatible, Memory as MemoryPhase, Execution}
use Rattle.prem_isa.specs.declared.effect.Change.{Change}
use Rattle.prem_isa.specs.declared.effect.Change.TheVariants.{Stay, Memory, Execute, End, Job}
use Rattle.prem_gate.specs.declared.bus.Carried.{Carried}
use Rattle.prem_gate.specs.declared.bus.Transfer.{Transfer}
use Rattle.prem_gate.specs.declared.bus.Window.{Window}
use Rattle.prem_gate.specs.Gates.{gate_at}
use Rattle.prem_cycle.specs.declared.state.Mode.{Mode}
use Rattle.prem_cycle.specs.declared.state.Mode.TheVariants.{Point, Switching, Running, Idle}
use Rattle.prem_cycle.specs.declared.state.Interval.{Interval}
use Rattle.prem_cycle.specs.declared.state.TransactionKind.{TransactionKind}
use Rattle.prem_cycle.specs.declared.state.TransactionKind.TheVariants.{WriteBack, Fill}
use Rattle.prem_cycle.specs.declared.facts.EndedInterval.{EndedInterval}
use Rattle.prem_cycle.specs.State.{Setup, MachineState}
use Rattle.prem_cycle.specs.Core.{is_paid, phase_in}
use Rattle.prem_machine.specs.Owed.{first_kind}
use Rattle.prem_wave.specs.declared.words.TheConstants.{CORE_BACK, CORE_FILL, COMPATIBLE, DEVICE, DONE, EXECUTION, FREE, GET, MEMORY, PUT, RELEASED, SWITCH, WAIT}
use Rattle.prem_wave.specs.declared.doing.Doing.{Doing}
use Rattle.prem_wave.specs.declared.doing.Doing.TheVariants.{Rests, Switches, Begins, Goes}
use Rattle.prem_wave.specs.declared.bus.OnBus.{OnBus}
use Rattle.prem_wave.specs.declared.bus.Before.{Before}

-- ---- words

abbrev pub spelled_behind : ℕ → List ℕ → ℕ
spelled_behind n [] = n
spelled_behind n (b ∷ bytes) = spelled_behind (n * 256 + b) bytes

-- the number that spells a word
abbrev pub spelled : List ℕ → ℕ
spelled bytes = spelled_behind 0 bytes

-- a value for each of the first n numbers
abbrev pub each : {A : Type 0} → (ℕ → List A) → ℕ → List A
each values zero = []
each values (suc n) = each values n ++ values n

-- ---- what the core does in the coming cycle

-- in a switch that has so many cycles left; where none is left, the first instruction of an interval issues
abbrev pub switching : ℕ → ℕ → Doing
switching k left = if left == 0 then Begins k else Switches k

abbrev pub chosen : ℕ → Choice → Doing
chosen switch (Run k) = switching k switch
chosen switch (Rest until) = Rests
chosen switch Finished = Rests

abbrev pub doing_in : (switch now : ℕ) → List TaskJobs → Mode → Doing
doing_in switch now sched Point = chosen switch (choice now sched)
doing_in switch now sched (Switching k left) = switching k left
doing_in switch now sched (Running k) = Goes k
doing_in switch now sched (Idle until) = Rests

abbrev pub doing_of : ℕ → MachineState → Doing
doing_of switch s = doing_in switch s.now s.sched s.core.mode

-- the task that has the core
abbrev pub core_task : Doing → Option ℕ
core_task Rests = None
core_task (Switches k) = Some k
core_task (Begins k) = Some k
core_task (Goes k) = Some k

-- ---- what a task does

abbrev pub phase_word : Phase → ℕ
phase_word Compatible = COMPATIBLE
phase_word MemoryPhase = MEMORY
phase_word Execution = EXECUTION

-- in a predictable interval, behind an instruction with this change: behind `pm.end` it waits for the interval's end, when all is paid
abbrev pub predictable_word : Change → Bool → Phase → ℕ
predictable_word Stay paid phase = phase_word phase
predictable_word Memory paid phase = phase_word phase
predictable_word (Execute stated) paid phase = phase_word phase
predictable_word End paid phase = if paid then WAIT else EXECUTION
predictable_word Job paid phase = phase_word phase

abbrev pub interval_word : Interval → Change → Bool → Phase → ℕ
interval_word i mark paid phase = if i.predictable then predictable_word mark paid phase else COMPATIBLE

-- without the core: a job is released, or all jobs that were released have ended
abbrev pub away_word : Bool → ℕ
away_word ready = if ready then RELEASED else DONE

abbrev pub task_word : Doing → Interval → Change → (paid : Bool) → Phase → (ready : Bool) → ℕ → ℕ
task_word Rests i mark paid phase ready k = away_word ready
task_word (Switches j) i mark paid phase ready k = if j == k then SWITCH else away_word ready
task_word (Begins j) i mark paid phase ready k = if j == k then phase_word phase else away_word ready
task_word (Goes j) i mark paid phase ready k = if j == k then interval_word i mark paid phase else away_word ready

-- how many marked calls of task k are among intervals: its predictable ones
abbrev pub calls_of : ℕ → List EndedInterval → ℕ
calls_of k [] = 0
calls_of k (i ∷ intervals) = if i.predictable && i.task == k then suc (calls_of k intervals) else calls_of k intervals

-- what task k does, the number of its job, which is that of those that have ended, and the number of its marked call
abbrev pub task_values_with : ℕ → MachineState → (call : ℕ) → ℕ → List (Option ℕ)
task_values_with switch s call k =
    Some (task_word (doing_of switch s) s.core.interval s.core.mark (is_paid s.core.debt) (phase_in s.work k) (is_ready s.now (task_at s.sched k)) k)
    ∷ Some (task_at s.sched k).ended ∷ Some call ∷ []

-- the number of a marked call in all of the run is that of those that have ended
abbrev pub task_values : ℕ → MachineState → ℕ → List (Option ℕ)
task_values switch s k = task_values_with switch s (calls_of k s.log.intervals) k

-- ---- the window and the bus

abbrev pub bit : Bool → ℕ
bit b = if b then 1 else 0

-- whether a transfer may run in this cycle
abbrev pub is_open : ℕ → Window → Bool
is_open now w = nat_le w.start now && nat_lt now w.close

abbrev pub carried_on : Carried → OnBus
carried_on c = record { device = c.device; request = c.request }

abbrev pub ended_on : Option Transfer → Option OnBus
ended_on None = None
ended_on (Some t) = Some (record { device = t.device; request = t.request })

-- the request that had the bus in a cycle: the one that is carried behind it, or else the one whose transfer has ended with it
abbrev pub on_bus : Option Carried → Option Transfer → Option OnBus
on_bus (Some c) ended = Some (carried_on c)
on_bus None ended = ended_on ended

-- what the state before a cycle gives to what is seen behind it
abbrev pub before_of : MachineState → Before
before_of s =
    record {
      misses = s.log.counts.misses;
      backs = s.log.counts.writebacks;
      transfers = length s.log.transfers;
      wants = first_kind s.core.debt.transactions;
    }

abbrev pub bus_after : Before → MachineState → Option OnBus
bus_after b t = on_bus t.gates.carried (slice_get t.log.transfers b.transfers)

abbrev pub core_word : TransactionKind → ℕ
core_word WriteBack = CORE_BACK
core_word Fill = CORE_FILL

-- who has the bus: a device, the core if it wants it, or nobody
abbrev pub bus_word : Option OnBus → Option TransactionKind → ℕ
bus_word (Some o) wants = DEVICE
bus_word None (Some kind) = core_word kind
bus_word None None = FREE

-- the line that device d transfers, and how
abbrev pub line_of : ℕ → Option OnBus → Option ℕ
line_of d None = None
line_of d (Some o) = if o.device == d then Some o.request.line else None

abbrev pub direction_word : Option ℕ → ℕ
direction_word (Some value) = PUT
direction_word None = GET

abbrev pub direction_of : ℕ → Option OnBus → Option ℕ
direction_of d None = None
direction_of d (Some o) = if o.device == d then Some (direction_word o.request.put) else None

-- the requests in the queue of device d, and what of it is on the bus
abbrev pub device_values : Option OnBus → MachineState → ℕ → List (Option ℕ)
device_values on t d = Some (length (gate_at t.gates.gates d).queue) ∷ line_of d on ∷ direction_of d on ∷ []

-- ---- all signals

-- those that the state before the cycle shows: of the core, and of each of so many tasks
abbrev pub values_before : (switch tasks : ℕ) → MachineState → List (Option ℕ)
values_before switch tasks s =
    (core_task (doing_of switch s) ∷ Some (bit (is_open s.now s.core.window)) ∷ []) ++ each (task_values switch s) tasks

-- those that the state behind it shows: of the bus and the cache, and of each of so many devices
abbrev pub values_after : (devices : ℕ) → Before → MachineState → List (Option ℕ)
values_after devices b t =
    (Some (bus_word (bus_after b t) b.wants)
    ∷ Some (bit (nat_lt b.misses t.log.counts.misses)) ∷ Some (bit (nat_lt b.backs t.log.counts.writebacks)) ∷ [])
    ++ each (device_values (bus_after b t) t) devices

-- the values in the cycle between two states
abbrev pub values_with : (switch tasks devices : ℕ) → MachineState → MachineState → List (Option ℕ)
values_with switch tasks devices s t = values_before switch tasks s ++ values_after devices (before_of s) t

abbrev pub values_of : Setup → MachineState → MachineState → List (Option ℕ)
values_of p s t = values_with p.plant.switch (length p.tasks) (length p.devices) s t
