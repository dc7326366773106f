-- Runs to which words are appended time and again.
use Rattle.std.specs.Prelude.{◌≡◌, ℕ, ◌+◌, ◌<◌, ◌||◌, Bool, false, List, length}
use Rattle.prem_cycle.specs.Prelude.{Request, ReplacementRule}
use Rattle.prem_cycle.specs.FactsOf.{with_input}
use Rattle.prem_cycle.specs.Run.{cycles_of, memory_of, run_of}
use Rattle.prem_cycle.specs.Runs.Inputs.Extended.{with_word_for}
use Rattle.prem_cycle.specs.Runs.Inputs.PastEnd.{has_read_past_end}
use Rattle.prem_cycle.specs.State.{Setup, MachineState, start_of}

-- a run begins, then cycles pass and words are put behind the tasks' lists
pub data History : Type 0 where
  Begins : History
  Passes : (before : History) (cycles : ℕ) → History
  Appends : (before : History) (task word : ℕ) → History

-- the cycles that have passed
abbrev pub cycles_in : History → ℕ
cycles_in Begins = 0
cycles_in (Passes before n) = cycles_in before + n
cycles_in (Appends before k word) = cycles_in before

-- the lists with all appended words
abbrev pub inputs_in : History → List (List ℕ) → List (List ℕ)
inputs_in Begins inputs = inputs
inputs_in (Passes before n) inputs = inputs_in before inputs
inputs_in (Appends before k word) inputs = with_word_for k word (inputs_in before inputs)

-- the state that it has led to
abbrev pub state_in : ReplacementRule → Setup → List Request → History → MachineState → MachineState
state_in rule p requests Begins s = s
state_in rule p requests (Passes before n) s = cycles_of rule p requests n (state_in rule p requests before s)
state_in rule p requests (Appends before k word) s = with_input k word (state_in rule p requests before s)

-- whether a task has read past the end of the list that it had then
abbrev pub reads_past_end_in : ReplacementRule → Setup → List Request → History → MachineState → ℕ → Bool
reads_past_end_in rule p requests Begins s j = false
reads_past_end_in rule p requests (Passes before n) s j =
    reads_past_end_in rule p requests before s j || has_read_past_end rule p requests n (state_in rule p requests before s) j
reads_past_end_in rule p requests (Appends before k word) s j = reads_past_end_in rule p requests before s j

-- each word goes to one of the lists, before its task has read past that list's end
abbrev pub IsTimely : ReplacementRule → Setup → List Request → (lists : ℕ) → History → MachineState → Type 0
IsTimely rule p requests lists Begins s = Unit {0}
IsTimely rule p requests lists (Passes before n) s = IsTimely rule p requests lists before s
IsTimely rule p requests lists (Appends before k word) s =
    IsTimely rule p requests lists before s × (k < lists) × (reads_past_end_in rule p requests before s k ≡ false)

-- then the state is that of the run on the lists with all appended words
abbrev pub HistoriesAreRuns : Type 0
HistoriesAreRuns =
    (rule : ReplacementRule) (p : Setup) (content : List ℕ) (inputs : List (List ℕ)) (requests : List Request) (h : History) →
    IsTimely rule p requests (length inputs) h (start_of p inputs (memory_of p content)) →
    state_in rule p requests h (start_of p inputs (memory_of p content))
    ≡ run_of rule p content (inputs_in h inputs) requests (cycles_in h)
