-- Words that are put behind a task's input words while its run goes on.
use Rattle.std.specs.Prelude.{◌≡◌, ℕ, ◌+◌, ◌<◌, true, false, List, [], ◌∷◌, ◌++◌, length, slice_index_or, slice_set}
use Rattle.prem_cycle.specs.Prelude.{Request, ReplacementRule}
use Rattle.prem_cycle.specs.FactsOf.{has_room_for_word, with_input}
use Rattle.prem_cycle.specs.Inputs.{FitsRun}
use Rattle.prem_cycle.specs.Run.{cycles_of, run_of}
use Rattle.prem_cycle.specs.Runs.Inputs.PastEnd.{has_read_past_end, run_reads_past_end}
use Rattle.prem_cycle.specs.State.{Setup, MachineState}

-- lists of input words, with a word put behind those of a task
abbrev pub with_word_for : ℕ → ℕ → List (List ℕ) → List (List ℕ)
with_word_for k word inputs = slice_set inputs k (slice_index_or inputs k [] ++ word ∷ [])

-- unless the task reads past the end in n cycles, a word may as well be appended before them as behind them
abbrev pub CyclesLeaveTheWord : Type 0
CyclesLeaveTheWord =
    (rule : ReplacementRule) (p : Setup) (requests : List Request) (n : ℕ) (s : MachineState) (k word : ℕ) →
    has_read_past_end rule p requests n s k ≡ false →
    cycles_of rule p requests n (with_input k word s) ≡ with_input k word (cycles_of rule p requests n s)

-- unless the task has read past the end before, a word appended to it leads to the run on the longer lists
abbrev pub InputsExtend : Type 0
InputsExtend =
    (rule : ReplacementRule) (p : Setup) (content : List ℕ) (inputs : List (List ℕ)) (requests : List Request) (n k word : ℕ) →
    k < length inputs → run_reads_past_end rule p content inputs requests n k ≡ false →
    with_input k word (run_of rule p content inputs requests n) ≡ run_of rule p content (with_word_for k word inputs) requests n

-- and that run goes on from there
abbrev pub RunsGoOn : Type 0
RunsGoOn =
    (rule : ReplacementRule) (p : Setup) (content : List ℕ) (inputs : List (List ℕ)) (requests : List Request) (s : MachineState)
    (m j k word : ℕ) →
    k < length inputs → s ≡ run_of rule p content inputs requests m →
    run_reads_past_end rule p content inputs requests m k ≡ false →
    cycles_of rule p requests j (with_input k word s)
    ≡ run_of rule p content (with_word_for k word inputs) requests (m + j)

-- in which the same tasks have read past the end so far
abbrev pub ReadsStay : Type 0
ReadsStay =
    (rule : ReplacementRule) (p : Setup) (content : List ℕ) (inputs : List (List ℕ)) (requests : List Request) (n k word j : ℕ) →
    k < length inputs → run_reads_past_end rule p content inputs requests n k ≡ false →
    run_reads_past_end rule p content (with_word_for k word inputs) requests n j
    ≡ run_reads_past_end rule p content inputs requests n j

-- and the longer lists fit the machine, where the task had room for the word
abbrev pub ListsStayFit : Type 0
ListsStayFit =
    (rule : ReplacementRule) (p : Setup) (content : List ℕ) (inputs : List (List ℕ)) (requests : List Request) (n k word : ℕ) →
    k < length p.tasks → FitsRun p inputs requests →
    has_room_for_word k (run_of rule p content inputs requests n) ≡ true →
    FitsRun p (with_word_for k word inputs) requests
