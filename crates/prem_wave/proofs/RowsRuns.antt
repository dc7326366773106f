-- The signals of a worked run, computed: a wrong value anywhere is refused.
use Rattle.std.proofs.Common.{◌≡◌, ℕ, suc, List, [], ◌∷◌, Option, Some, None, map, refl, arith}
use Rattle.prem_gate.specs.declared.request.Request.{Request}
use Rattle.prem_cycle.specs.State.{MachineState, Setup, rule_in}
use Rattle.prem_cycle.specs.Run.{cycles_of}
use Rattle.prem_cycle.proofs.Images.{alone, device, marked, plant, put, run, task}
use Rattle.prem_wave.specs.declared.words.TheConstants.{CORE_BACK, CORE_FILL, COMPATIBLE, DEVICE, EXECUTION, FREE, MEMORY, PUT, SWITCH, WAIT}
use Rattle.prem_wave.specs.Dump.{value_text}
use Rattle.prem_wave.specs.Reading.{value_in}
use Rattle.prem_wave.specs.Waves.{wave_text}
use Rattle.prem_wave.proofs.Reading.{waves_are_read_back}
use Rattle.prem_wave.specs.Signals.{before_of, bus_after, bus_word, values_of}

-- one task with a device whose transfers take 40 cycles; two requests come while the marked function's lines are brought in
abbrev setup : Setup
setup = alone 368 1 304 (device 40 304 ∷ [])

abbrev requests : List Request
requests = put 30 0 0 1 ∷ put 30 0 1 2 ∷ []

-- the values in a cycle: the task with the core, the window, the task's state, job and marked call, the bus, a miss, a write back, and the
-- device's queue, line and direction
abbrev shown : ℕ → List (Option ℕ)
shown n = values_of setup (run setup marked requests n) (run setup marked requests (suc n))

row_switch : shown 0 ≡ Some 0 ∷ Some 0 ∷ Some SWITCH ∷ Some 0 ∷ Some 0 ∷ Some FREE ∷ Some 0 ∷ Some 0 ∷ Some 0 ∷ None ∷ None ∷ []
unfolding cycles_of
row_switch = refl

-- the first instruction misses, and its line comes in from the next cycle on
row_miss : shown 20 ≡ Some 0 ∷ Some 0 ∷ Some COMPATIBLE ∷ Some 0 ∷ Some 0 ∷ Some FREE ∷ Some 1 ∷ Some 0 ∷ Some 0 ∷ None ∷ None ∷ []
unfolding cycles_of
row_miss = refl

row_fill : shown 21 ≡ Some 0 ∷ Some 0 ∷ Some COMPATIBLE ∷ Some 0 ∷ Some 0 ∷ Some CORE_FILL ∷ Some 0 ∷ Some 0 ∷ Some 0 ∷ None ∷ None ∷ []
unfolding cycles_of
row_fill = refl

row_memory : shown 111 ≡ Some 0 ∷ Some 0 ∷ Some MEMORY ∷ Some 0 ∷ Some 0 ∷ Some FREE ∷ Some 1 ∷ Some 0 ∷ Some 2 ∷ None ∷ None ∷ []
unfolding cycles_of
row_memory = refl

-- the window opens, and the first transfer begins
row_transfer : shown 385 ≡ Some 0 ∷ Some 1 ∷ Some EXECUTION ∷ Some 0 ∷ Some 0 ∷ Some DEVICE ∷ Some 0 ∷ Some 0 ∷ Some 1 ∷ Some 0 ∷ Some PUT ∷ []
unfolding cycles_of
row_transfer = refl

-- it ends with cycle 424, behind which the state carries none
row_last : shown 424 ≡ Some 0 ∷ Some 1 ∷ Some WAIT ∷ Some 0 ∷ Some 0 ∷ Some DEVICE ∷ Some 0 ∷ Some 0 ∷ Some 1 ∷ Some 0 ∷ Some PUT ∷ []
unfolding cycles_of
row_last = refl

row_second : shown 425 ≡ Some 0 ∷ Some 1 ∷ Some WAIT ∷ Some 0 ∷ Some 0 ∷ Some DEVICE ∷ Some 0 ∷ Some 0 ∷ Some 0 ∷ Some 1 ∷ Some PUT ∷ []
unfolding cycles_of
row_second = refl

-- the window is closed from the cycle on in which the interval has ended
row_closed : shown 602 ≡ Some 0 ∷ Some 0 ∷ Some SWITCH ∷ Some 0 ∷ Some 1 ∷ Some FREE ∷ Some 0 ∷ Some 0 ∷ Some 0 ∷ None ∷ None ∷ []
unfolding cycles_of
row_closed = refl

-- the law on what a reader finds, of the cycles from 20 up to 30: in cycle 21 the core's line comes in
abbrev begun : MachineState
begun = run setup marked requests 0

row_read : value_in 5 21 (wave_text (rule_in setup) setup requests begun 20 30) ≡ Some (value_text (Some CORE_FILL))
unfolding cycles_of
row_read = waves_are_read_back (rule_in setup) setup requests begun 20 30 (omega arith) (omega arith) 5 21 (Some CORE_FILL) (omega arith) (omega arith) refl

-- ---- two misses of one instruction

-- in two sets of one line, with write backs of 7 cycles: two stores make the lines 0 and 1 dirty, and behind a jump to 32 a load from 48
-- brings the lines 2 and 3 in their places
abbrev replaces : List ℕ
replaces = 0x00002623 ∷ 0x00002823 ∷ 0x0180006f ∷ 0 ∷ 0 ∷ 0 ∷ 0 ∷ 0 ∷ 0x03002283 ∷ 0x0000300b ∷ []

abbrev replacing : Setup
replacing = record { plant = record (plant 112) { sets = 2; ways = 1; back = 7; switch = 0 }; tasks = task 1000 1 0 112 ∷ []; devices = [] }

-- who has the bus in a cycle
abbrev holder : ℕ → ℕ
holder n =
    let s : MachineState = run replacing replaces [] n in
    let b = before_of s in
    bus_word (bus_after b (run replacing replaces [] (suc n))) b.wants

-- the load issues in cycle 26: each line goes back before the one that takes its place comes, that of the fetch first
row_back_and_fill : map holder (26 ∷ 27 ∷ 33 ∷ 34 ∷ 43 ∷ 44 ∷ 50 ∷ 51 ∷ 60 ∷ 61 ∷ [])
    ≡ FREE ∷ CORE_BACK ∷ CORE_BACK ∷ CORE_FILL ∷ CORE_FILL ∷ CORE_BACK ∷ CORE_BACK ∷ CORE_FILL ∷ CORE_FILL ∷ FREE ∷ []
unfolding cycles_of
row_back_and_fill = refl
