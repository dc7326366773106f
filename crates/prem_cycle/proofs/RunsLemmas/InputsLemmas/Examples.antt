-- Words that come in time and too late, counted by hand. A task takes a word and puts it out: after a switch of 20 cycles the
-- `pm.in` issues in cycle 20; its line comes in 10 cycles, so the `pm.out` issues in cycle 31.
use Rattle.std.proofs.Common.{◌≡◌, ◌≢◌, ℕ, List, [], ◌∷◌, ◌++◌, refl, ap, ◌∙◌, sym, arith, true, false}
use Rattle.prem_cycle.proofs.Prelude.{with_input, cycles_of, memory_of, run_of, steps_of, with_word_for, History, Begins, Appends, cycles_in, inputs_in, state_in, reads_past_end_in}
use Rattle.prem_cycle.proofs.Prelude.{IsTimely, run_reads_past_end, Setup, MachineState, start_of, task_in, to_front, slice_index}
use Rattle.prem_cycle.proofs.Images.{bytes_in, plant, task}
use Rattle.prem_cycle.specs.Runs.Inputs.History.{Passes}

-- `pm.in x10`, `pm.out x10`, `pm.done`
abbrev echo : List ℕ
echo = 0x0000450b ∷ 0x0005500b ∷ 0x0000300b ∷ []

abbrev one : Setup
one = record { plant = plant 16; tasks = task 1000 1 0 16 ∷ []; devices = [] }

abbrev run : List (List ℕ) → ℕ → MachineState
run inputs n = run_of to_front one (bytes_in echo) inputs [] n

-- ---- when the end is passed

not_yet : run_reads_past_end to_front one (bytes_in echo) ([] ∷ []) [] 20 0 ≡ false
unfolding cycles_of steps_of
not_yet = refl

in_that_cycle : run_reads_past_end to_front one (bytes_in echo) ([] ∷ []) [] 21 0 ≡ true
unfolding cycles_of steps_of
in_that_cycle = refl

-- a read that finds its word is none past the end
never : run_reads_past_end to_front one (bytes_in echo) ((7 ∷ []) ∷ []) [] 40 0 ≡ false
unfolding cycles_of steps_of
never = refl

-- ---- a word before the read, and one after it

-- a state's word in x10, the words left, and those put out 20 cycles later
abbrev told_of : Setup → ℕ → MachineState → ℕ × List ℕ × List ℕ
told_of p k s =
    let t = task_in s.work k in
    (slice_index t.registers 10, t.left, (task_in (cycles_of to_front p [] 20 s).work k).outputs)

abbrev told : MachineState → ℕ × List ℕ × List ℕ
told s = told_of one 0 s

-- before the read, the word may as well have been there from the start
in_time : told (with_input 0 7 (run ([] ∷ []) 20)) ≡ (0, 7 ∷ [], 7 ∷ [])
unfolding cycles_of
in_time = refl

from_the_start : told (run ((7 ∷ []) ∷ []) 20) ≡ (0, 7 ∷ [], 7 ∷ [])
unfolding cycles_of
from_the_start = refl

-- the read takes it
taken : told (run ((7 ∷ []) ∷ []) 21) ≡ (7, [], 7 ∷ [])
unfolding cycles_of
taken = refl

-- after a read that has given 0 the word stays
too_late : told (with_input 0 7 (run ([] ∷ []) 21)) ≡ (0, 7 ∷ [], 0 ∷ [])
unfolding cycles_of
too_late = refl

-- so the law doesn't hold without its premise
told_left : ℕ × List ℕ × List ℕ → List ℕ
told_left t = t.1

not_the_run : with_input 0 7 (run ([] ∷ []) 21) ≢ run ((7 ∷ []) ∷ []) 21
unfolding told_left
not_the_run e =
    let word : List ℕ = 7 ∷ [] in
    let x : word ≡ [] = ap told_left (sym too_late ∙ ap told e ∙ taken) in
    absurd cc

-- ---- two tasks

-- the first one's `pm.done` issues in cycle 32; after a switch the `pm.in` of the second one, at address 16, issues in cycle 53
abbrev two : Setup
two = record { plant = plant 32; tasks = task 1000 1 0 16 ∷ task 1000 1 16 32 ∷ []; devices = [] }

abbrev two_bytes : List ℕ
two_bytes = bytes_in (echo ++ 0 ∷ echo)

first_past : run_reads_past_end to_front two two_bytes ([] ∷ [] ∷ []) [] 53 0 ≡ true
unfolding cycles_of steps_of
first_past = refl

second_not_past : run_reads_past_end to_front two two_bytes ([] ∷ [] ∷ []) [] 53 1 ≡ false
unfolding cycles_of steps_of
second_not_past = refl

second_past : run_reads_past_end to_front two two_bytes ([] ∷ [] ∷ []) [] 54 1 ≡ true
unfolding cycles_of steps_of
second_past = refl

-- a word is still in time for the second one
second_in_time : told_of two 1 (with_input 1 7 (run_of to_front two two_bytes ([] ∷ [] ∷ []) [] 53)) ≡ (0, 7 ∷ [], 7 ∷ [])
unfolding cycles_of
second_in_time = refl

second_from_the_start : told_of two 1 (run_of to_front two two_bytes ([] ∷ (7 ∷ []) ∷ []) [] 53) ≡ (0, 7 ∷ [], 7 ∷ [])
unfolding cycles_of
second_from_the_start = refl

-- ---- lists and histories

behind_the_others : with_word_for 1 9 ((1 ∷ []) ∷ (2 ∷ 3 ∷ []) ∷ []) ≡ (1 ∷ []) ∷ (2 ∷ 3 ∷ 9 ∷ []) ∷ []
behind_the_others = refl

abbrev history : History
history = Appends (Passes (Appends (Passes Begins 20) 0 7) 5) 0 8

all_words : inputs_in history ([] ∷ []) ≡ (7 ∷ 8 ∷ []) ∷ []
all_words = refl

all_cycles : cycles_in history ≡ 25
all_cycles = refl

abbrev start : MachineState
start = start_of one ([] ∷ []) (memory_of one (bytes_in echo))

-- counted on the machine, and not by the law
leads_to_the_run : told (state_in to_front one [] history start) ≡ (7, 8 ∷ [], 7 ∷ [])
unfolding cycles_of
leads_to_the_run = refl

is_the_run : told (run ((7 ∷ 8 ∷ []) ∷ []) 25) ≡ (7, 8 ∷ [], 7 ∷ [])
unfolding cycles_of
is_the_run = refl

is_timely : IsTimely to_front one [] 1 history start
unfolding cycles_of steps_of
is_timely = ((tt, omega arith, refl), omega arith, refl)

none_missing : reads_past_end_in to_front one [] history start 0 ≡ false
unfolding cycles_of steps_of
none_missing = refl

-- the word comes a cycle too late
abbrev late : History
late = Appends (Passes (Passes Begins 20) 1) 0 7

one_missing : reads_past_end_in to_front one [] late start 0 ≡ true
unfolding cycles_of steps_of
one_missing = refl

is_late : IsTimely to_front one [] 1 late start → ⊥
unfolding cycles_of steps_of
is_late h = let x : true ≡ false = h.2 in absurd cc
