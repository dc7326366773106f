-- A history leads to the run on the lists with all appended words.
use Rattle.std.proofs.Common.{length-set, ◌≡◌, ℕ, ◌+◌, ◌<◌, refl, ap, ◌∙◌, sym, subst, false, List, [], ◌∷◌, ◌++◌, length}
use Rattle.std.specs.Prelude.{◌||◌, slice_index_or}
use Rattle.prem_cycle.proofs.Prelude.{with_input, cycles_of, memory_of, run_of, steps_of, History, Begins, Appends, cycles_in, inputs_in, state_in, reads_past_end_in, IsTimely, is_past_end}
use Rattle.prem_cycle.proofs.Prelude.{has_read_past_end, run_reads_past_end, Setup, MachineState, start_of, Request, ReplacementRule, list_any-append, list_any}
use Rattle.prem_cycle.proofs.RunLaws.{cycles_of-add, steps_of-add}
use Rattle.prem_cycle.proofs.RunsLemmas.InputsLemmas.Runs.{inputs_extend, reads_stay}
use Rattle.prem_cycle.specs.Runs.Inputs.History.{Passes}

-- the reads past the end of m + n cycles
has_read-add : (rule : ReplacementRule) (p : Setup) (requests : List Request) (m n : ℕ) (s : MachineState) (k : ℕ) →
    has_read_past_end rule p requests (m + n) s k
    ≡ (has_read_past_end rule p requests m s k || has_read_past_end rule p requests n (cycles_of rule p requests m s) k)
has_read-add rule p requests m n s k =
    ap (list_any (is_past_end k)) (steps_of-add rule p requests m n s)
    ∙ list_any-append (is_past_end k) (steps_of rule p requests m s) (steps_of rule p requests n (cycles_of rule p requests m s))

-- the state and the reads past the end are those of the run
pub record IsRun (rule : ReplacementRule) (p : Setup) (content : List ℕ) (inputs : List (List ℕ)) (requests : List Request) (h : History) : Type 0 where
  pub state : state_in rule p requests h (start_of p inputs (memory_of p content)) ≡ run_of rule p content (inputs_in h inputs) requests (cycles_in h)
  pub reads : (j : ℕ) → reads_past_end_in rule p requests h (start_of p inputs (memory_of p content)) j ≡ run_reads_past_end rule p content (inputs_in h inputs) requests (cycles_in h) j
  pub lists : length (inputs_in h inputs) ≡ length inputs

history_is_run : (rule : ReplacementRule) (p : Setup) (content : List ℕ) (inputs : List (List ℕ)) (requests : List Request) (h : History) →
    IsTimely rule p requests (length inputs) h (start_of p inputs (memory_of p content)) → IsRun rule p content inputs requests h
unfolding cycles_of steps_of
history_is_run rule p content inputs requests Begins timely = record { state = refl; reads = λ j. refl; lists = refl }
history_is_run rule p content inputs requests (Passes before n) timely =
    let is : IsRun rule p content inputs requests before = history_is_run rule p content inputs requests before timely in
    let m : ℕ = cycles_in before in
    let start : MachineState = start_of p (inputs_in before inputs) (memory_of p content) in
    record {
      state = ap (cycles_of rule p requests n) is.state ∙ sym (cycles_of-add rule p requests m n start);
      reads = λ j.
          ap (λ b. b || has_read_past_end rule p requests n (state_in rule p requests before (start_of p inputs (memory_of p content))) j) (is.reads j)
          ∙ ap (λ s. has_read_past_end rule p requests m start j || has_read_past_end rule p requests n s j) is.state
          ∙ sym (has_read-add rule p requests m n start j);
      lists = is.lists;
    }
history_is_run rule p content inputs requests (Appends before k word) timely =
    let is : IsRun rule p content inputs requests before = history_is_run rule p content inputs requests before timely.0 in
    let lt : k < length (inputs_in before inputs) = subst (λ n. k < n) (sym is.lists) timely.1 in
    let none : run_reads_past_end rule p content (inputs_in before inputs) requests (cycles_in before) k ≡ false =
    sym (is.reads k) ∙ timely.2 in
    record {
      state =
          ap (with_input k word) is.state
          ∙ inputs_extend rule p content (inputs_in before inputs) requests (cycles_in before) k word lt none;
      reads = λ j.
          is.reads j
          ∙ sym (reads_stay rule p content (inputs_in before inputs) requests (cycles_in before) k word j lt none);
      lists =
          length-set (inputs_in before inputs) k (slice_index_or (inputs_in before inputs) k [] ++ word ∷ []) ∙ is.lists;
    }

pub histories_are_runs : (rule : ReplacementRule) (p : Setup) (content : List ℕ) (inputs : List (List ℕ)) (requests : List Request) (h : History) →
    IsTimely rule p requests (length inputs) h (start_of p inputs (memory_of p content)) →
    state_in rule p requests h (start_of p inputs (memory_of p content)) ≡ run_of rule p content (inputs_in h inputs) requests (cycles_in h)
histories_are_runs rule p content inputs requests h timely =
    (history_is_run rule p content inputs requests h timely).state
