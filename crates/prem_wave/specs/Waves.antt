-- The waves of a run, by the states of its machine.
use Rattle.std.specs.Prelude.{◌≡◌, ℕ, suc, ◌<◌, max, nat_lt, if◌then◌else◌, Bool, true, false, List, [], ◌++◌, Option, Some, None}
use Rattle.prem_lru.specs.Entries.{ReplacementRule}
use Rattle.prem_gate.specs.declared.bus.Window.{Window}
use Rattle.prem_gate.specs.declared.request.Request.{Request}
use Rattle.prem_cycle.specs.declared.state.Stop.{Stop}
use Rattle.prem_cycle.specs.declared.state.Stop.TheVariants.{Finished, Trap, LogFull, Limit}
use Rattle.prem_cycle.specs.State.{Setup, MachineState}
use Rattle.prem_cycle.specs.Run.{cycles_of}
use Rattle.prem_wave.specs.Dump.{Moment, changes_from, moment_at, moments_of, moments_text, time_text}
use Rattle.prem_wave.specs.Header.{header_text}
use Rattle.prem_wave.specs.Names.{device_names, task_names}
use Rattle.prem_wave.specs.Signals.{values_of, values_with}

-- the values in cycle n from a state on
abbrev pub run_values : ReplacementRule → Setup → List Request → MachineState → ℕ → List (Option ℕ)
run_values rule p requests s n = values_of p (cycles_of rule p requests n s) (cycles_of rule p requests (suc n) s)

-- the dump of the cycles from one up to another, in which it ends: that of a list of values for each cycle
abbrev pub dump_text : (tasks devices : List (List ℕ)) → (ℕ → List (Option ℕ)) → (from to : ℕ) → List ℕ
dump_text tasks devices values from to = header_text tasks devices ++ (moments_text (moments_of values from to) ++ time_text to)

-- that of a run from a state, up to a limit, of the cycles that pass in it
abbrev pub wave_text : ReplacementRule → Setup → List Request → MachineState → (from limit : ℕ) → List ℕ
wave_text rule p requests s from limit =
    dump_text (task_names p.tasks) (device_names p.devices) (run_values rule p requests s) from (cycles_of rule p requests limit s).now

-- ---- cycles that all have the same values

-- what is told of the cycles from `at` up to `now`, behind these values
abbrev pub moments_between : (last : List (Option ℕ)) → (from at now : ℕ) → (values : List (Option ℕ)) → List Moment
moments_between last from at now values = if nat_lt (max from at) now then moment_at (max from at) (changes_from last 0 values) else []

-- the values in the last one that is told
abbrev pub last_between : (last : List (Option ℕ)) → (from at now : ℕ) → (values : List (Option ℕ)) → List (Option ℕ)
last_between last from at now values = if nat_lt (max from at) now then values else last

-- the first cycle behind this one in which a window opens or closes
abbrev pub window_change : ℕ → Window → Option ℕ
window_change now w = if nat_lt now w.start then Some w.start else (if nat_lt now w.close then Some w.close else None)

-- ---- turns

-- in each of so many cycles from a state on the values are those between both ends
abbrev pub AllSame : ReplacementRule → Setup → List Request → (n : ℕ) → MachineState → Type 0
AllSame rule p requests n s =
    (switch tasks devices m : ℕ) → m < n →
    values_with switch tasks devices (cycles_of rule p requests m s) (cycles_of rule p requests (suc m) s) ≡ values_with switch tasks devices s (cycles_of rule p requests n s)

-- whether a run that stopped so went on when it came to its limit
abbrev pub goes_on : Stop → Bool
goes_on Finished = false
goes_on (Trap task pc cause) = false
goes_on (LogFull n) = false
goes_on Limit = true
