-- The memory token: who asks for it, who gets it, and when it is free again. Time is in cycles.
use Rattle.std.specs.Prelude.{ℕ, ◌+◌, ◌&&◌, ◌||◌, not, Bool, true, false, List, [], ◌∷◌, if◌then◌else◌}
use Rattle.prem_pair.specs.Prelude.{is_empty, CoreState, MachineState, Mode, Point, Switching, Running, Idle, GateState, CoreWant, No, Stay, Memory, Execute, End, Job, TaskJobs}
use Rattle.prem_gate.specs.declared.bus.Window.{Window}
use Rattle.prem_isa.specs.declared.effect.Change.{Change}
use Rattle.prem_pair.specs.declared.cycles.state.Holder.{Holder}
use Rattle.prem_pair.specs.declared.cycles.state.Holder.TheVariants.{Nobody, First, Second, Gates}
use Rattle.prem_sched.specs.Schedule.{choice}
use Rattle.prem_sched.specs.declared.sched.Choice.{Choice}
use Rattle.prem_sched.specs.declared.sched.Choice.TheVariants.{Run, Idle as Rest, Finished}

-- ---- who asks

abbrev pub is_run : Choice → Bool
is_run (Run k) = true
is_run (Rest until) = false
is_run Finished = false

abbrev pub asks_in : ℕ → List TaskJobs → Mode → Bool
asks_in now sched Point = is_run (choice now sched)
asks_in now sched (Switching k left) = false
asks_in now sched (Running k) = false
asks_in now sched (Idle until) = false

-- a core asks for the token where it stands at a scheduling point with a ready task
abbrev pub asks : MachineState → Bool
asks s = asks_in s.now s.sched s.core.mode

-- the gates ask for it where a request waits
abbrev pub some_wait : List GateState → Bool
some_wait [] = false
some_wait (g ∷ gates) = not (is_empty g.queue) || some_wait gates

-- ---- who gets it

-- core 0 goes before core 1, and both before the gates
abbrev pub given : (first second gates : Bool) → Holder
given true second gates = First
given false true gates = Second
given false false true = Gates
given false false false = Nobody

-- whoever holds it keeps it
abbrev pub holder_with : Holder → (first second gates : Bool) → Holder
holder_with Nobody first second gates = given first second gates
holder_with First first second gates = First
holder_with Second first second gates = Second
holder_with Gates first second gates = Gates

abbrev pub is_first : Holder → Bool
is_first Nobody = false
is_first First = true
is_first Second = false
is_first Gates = false

abbrev pub is_second : Holder → Bool
is_second Nobody = false
is_second First = false
is_second Second = true
is_second Gates = false

abbrev pub is_gates : Holder → Bool
is_gates Nobody = false
is_gates First = false
is_gates Second = false
is_gates Gates = true

-- ---- what the gates may start

-- as many cycles as the dearest transfer may take
abbrev pub longest_transfer : ℕ
longest_transfer = 100000

abbrev pub empty_window : Window
empty_window = record { start = 1; close = 0 }

abbrev pub window_got : ℕ → Holder → Window
window_got now Gates = record { start = now; close = now + longest_transfer }
window_got now Nobody = empty_window
window_got now First = empty_window
window_got now Second = empty_window

-- in the cycle in which they get the token it is open for one transfer, and else for none
abbrev pub window_given : ℕ → (before after : Holder) → Window
window_given now Nobody after = window_got now after
window_given now First after = empty_window
window_given now Second after = empty_window
window_given now Gates after = empty_window

-- ---- the bus

-- the holder has the bus: a core for the transaction that it owes
abbrev pub want_with : Holder → (first second : CoreWant) → CoreWant
want_with Nobody first second = No
want_with First first second = first
want_with Second first second = second
want_with Gates first second = No

-- a cycle that two of the three want: both cores, and the gates, which carry or start a transfer while they hold the token
abbrev pub two_want : (first second gates : Bool) → Bool
two_want first second gates = (first && second) || (first && gates) || (second && gates)

-- ---- when it is free again

abbrev pub is_execute : Change → Bool
is_execute Stay = false
is_execute Memory = false
is_execute (Execute stated) = true
is_execute End = false
is_execute Job = false

-- behind a cycle that leaves its core in this mode, behind an instruction with this change: at a scheduling point, or behind a `pm.exec`
abbrev pub frees_in : Mode → Change → Bool
frees_in Point mark = true
frees_in (Switching k left) mark = false
frees_in (Running k) mark = is_execute mark
frees_in (Idle until) mark = false

abbrev pub frees : CoreState → Bool
frees c = frees_in c.mode c.mark

-- behind a cycle that leaves the cores so, and that was a transfer's last one or not
abbrev pub holder_after : Holder → (first second : CoreState) → (ended : Bool) → Holder
holder_after Nobody first second ended = Nobody
holder_after First first second ended = if frees first then Nobody else First
holder_after Second first second ended = if frees second then Nobody else Second
holder_after Gates first second ended = if ended then Nobody else Gates
