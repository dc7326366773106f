-- The lists with an appended word fit the machine.
use Rattle.std.proofs.Common.{ltb-true, length-append, length-set, ◌≡◌, ℕ, ◌<◌, ◌≤◌, ◌∙◌, sym, arith, true, List, [], ◌∷◌, ◌++◌, length}
use Rattle.prem_cycle.proofs.Prelude.{has_room_for_word, inputs_size, FitsRun, run_of, with_word_for, Setup, Request, ReplacementRule, All-set, slice_index_or}
use Rattle.prem_cycle.proofs.RunsLemmas.InputsLemmas.Taken.{room_is_of_the_list}

one_more : (words : List ℕ) (word size : ℕ) → length words < size → length (words ++ word ∷ []) ≤ size
one_more words word size lt = omega (arith, length-append words (word ∷ []))

pub lists_stay_fit : (rule : ReplacementRule) (p : Setup) (content : List ℕ) (inputs : List (List ℕ)) (requests : List Request) (n k word : ℕ) →
    k < length p.tasks → FitsRun p inputs requests → has_room_for_word k (run_of rule p content inputs requests n) ≡ true →
    FitsRun p (with_word_for k word inputs) requests
lists_stay_fit rule p content inputs requests n k word lt fits room =
    let words : List ℕ = slice_index_or inputs k [] in
    let less : length words < inputs_size =
    ltb-true (length words) inputs_size (sym (room_is_of_the_list rule p content inputs requests n k lt) ∙ room) in
    record {
      tasks = length-set inputs k (words ++ word ∷ []) ∙ fits.tasks;
      each = All-set (λ (list : List ℕ). length list ≤ inputs_size) inputs k (words ++ word ∷ []) (one_more words word inputs_size less) fits.each;
      short = fits.short;
    }
