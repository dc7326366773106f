-- A run on longer lists of input words.
use Rattle.std.proofs.Common.{◌≡◌, ℕ, zero, suc, ◌+◌, ◌<◌, refl, ap, ◌∙◌, sym, arith, false, List, [], ◌∷◌, length}
use Rattle.prem_cycle.proofs.Prelude.{with_input, cycles_of, memory_of, run_of, with_word_for, has_read_past_end, run_reads_past_end, Setup, MachineState, Task, first_task, first_tasks}
use Rattle.prem_cycle.proofs.Prelude.{start_of, Request, TaskRecord, ReplacementRule}
use Rattle.prem_cycle.proofs.RunLaws.{cycles_of-add}
use Rattle.prem_cycle.proofs.RunsLemmas.InputsLemmas.Cycles.{cycles_leave_the_word, has_read_same}
use Rattle.prem_cycle.proofs.RunsLemmas.InputsLemmas.Words.{tasks_with}

-- ---- the start

first_with : (rs : List TaskRecord) (inputs : List (List ℕ)) (k word : ℕ) → k < length inputs → tasks_with k word (first_tasks rs inputs) ≡ first_tasks rs (with_word_for k word inputs)
first_with [] inputs k word lt = refl
first_with (r ∷ rs) [] k word lt = absurd (omega arith)
first_with (r ∷ rs) (words ∷ inputs) zero word lt = refl
first_with (r ∷ rs) (words ∷ inputs) (suc k) word lt =
    ap (λ (tasks : List Task). first_task r words ∷ tasks) (first_with rs inputs k word (omega arith))

abbrev with_tasks : MachineState → List Task → MachineState
with_tasks s tasks = record s { work = record s.work { tasks = tasks } }

start_with : (p : Setup) (inputs : List (List ℕ)) (memory : List ℕ) (k word : ℕ) → k < length inputs → with_input k word (start_of p inputs memory) ≡ start_of p (with_word_for k word inputs) memory
start_with p inputs memory k word lt =
    ap (with_tasks (start_of p inputs memory)) (first_with p.tasks inputs k word lt)

-- ---- the run

pub inputs_extend : (rule : ReplacementRule) (p : Setup) (content : List ℕ) (inputs : List (List ℕ)) (requests : List Request) (n k word : ℕ) →
    k < length inputs → run_reads_past_end rule p content inputs requests n k ≡ false →
    with_input k word (run_of rule p content inputs requests n) ≡ run_of rule p content (with_word_for k word inputs) requests n
inputs_extend rule p content inputs requests n k word lt h =
    sym (cycles_leave_the_word rule p requests n (start_of p inputs (memory_of p content)) k word h)
    ∙ ap (cycles_of rule p requests n) (start_with p inputs (memory_of p content) k word lt)

-- the same of a state that is told to be the run's
pub state_extends : (rule : ReplacementRule) (p : Setup) (content : List ℕ) (inputs : List (List ℕ)) (requests : List Request) (s : MachineState)
    (n k word : ℕ) → k < length inputs → s ≡ run_of rule p content inputs requests n → run_reads_past_end rule p content inputs requests n k ≡ false →
    with_input k word s ≡ run_of rule p content (with_word_for k word inputs) requests n
state_extends rule p content inputs requests s n k word lt is h =
    ap (with_input k word) is ∙ inputs_extend rule p content inputs requests n k word lt h

pub runs_go_on : (rule : ReplacementRule) (p : Setup) (content : List ℕ) (inputs : List (List ℕ)) (requests : List Request) (s : MachineState)
    (m j k word : ℕ) → k < length inputs → s ≡ run_of rule p content inputs requests m →
    run_reads_past_end rule p content inputs requests m k ≡ false →
    cycles_of rule p requests j (with_input k word s) ≡ run_of rule p content (with_word_for k word inputs) requests (m + j)
runs_go_on rule p content inputs requests s m j k word lt is h =
    ap (cycles_of rule p requests j) (state_extends rule p content inputs requests s m k word lt is h)
    ∙ sym (cycles_of-add rule p requests m j (start_of p (with_word_for k word inputs) (memory_of p content)))

pub reads_stay : (rule : ReplacementRule) (p : Setup) (content : List ℕ) (inputs : List (List ℕ)) (requests : List Request) (n k word j : ℕ) →
    k < length inputs → run_reads_past_end rule p content inputs requests n k ≡ false →
    run_reads_past_end rule p content (with_word_for k word inputs) requests n j ≡ run_reads_past_end rule p content inputs requests n j
reads_stay rule p content inputs requests n k word j lt h =
    ap (λ s. has_read_past_end rule p requests n s j) (sym (start_with p inputs (memory_of p content) k word lt))
    ∙ has_read_same rule p requests n (start_of p inputs (memory_of p content)) k word j h
