-- Literals of statements whose tokens are spelled are words.
use Rattle.std.proofs.Common.{List, [], ◌∷◌, ◌++◌, Option, None, Some, arith}
use Rattle.prem_text.proofs.Prelude.{HasWords, HasWordsIf, HaveWords, StatementHasWords, StatementsHaveWords, Text, Expression, Place, spelled, tree, listed, side, Target, to_name}
use Rattle.prem_text.proofs.Prelude.{to_element, Parted, Arguments, no_arguments, arguments, StatementPhrase, StatementPhrases, of_block, of_if, of_else, of_for, of_while, of_output}
use Rattle.prem_text.proofs.Prelude.{of_call, of_input, of_call_to, of_assign, of_change, of_count, no_phrases, next_phrase, parted_tokens, argument_tokens, target_tokens, written}
use Rattle.prem_text.proofs.Prelude.{all_written, parted_trees, argument_trees, target_at, target_text, target_index, meant, all_meant}
use Rattle.prem_text.proofs.CanonicalLemmas.Sayable.{AreSaid, front, back}
use Rattle.prem_text.proofs.ReadWordsLemmas.PhraseWords.{phrase_words}

-- ---- arguments and targets

more_words : (es : List Expression) (e : Expression) → HaveWords es → HasWords e → HaveWords (es ++ e ∷ [])
more_words [] e ws w = (w, tt)
more_words (x ∷ es) e ws w = (ws.0, more_words es e ws.1 w)

parted_words : (before : List Parted) → AreSaid (parted_tokens before) → HaveWords (parted_trees before)
parted_words [] s = tt
parted_words (a ∷ rest) s =
    let first = front (spelled a.0 ++ a.1) (parted_tokens rest) s in
    (phrase_words a.0 (front (spelled a.0) a.1 first), parted_words rest (back (spelled a.0 ++ a.1) (parted_tokens rest) s))

given_words : (given : Arguments) → AreSaid (argument_tokens given) → HaveWords (argument_trees given)
given_words no_arguments s = tt
given_words (arguments before last) s =
    more_words (parted_trees before) (tree last) (parted_words before (front (parted_tokens before) (spelled last) s)) (phrase_words last (back (parted_tokens before) (spelled last) s))

index_words : (t : Target) → AreSaid (target_tokens t) → HasWordsIf (target_index t)
index_words (to_name at text) s = tt
index_words (to_element at text a index b) s = phrase_words index (front (spelled index) _ s.1.1)

side_words : (at : Place) (x : Text) (index : Option Expression) → HasWordsIf index → HasWords (side at x index)
side_words at x None w = tt
side_words at x (Some index) w = w

-- ---- statements

mutual
  statement_words : (p : StatementPhrase) → AreSaid (written p) → StatementHasWords (meant p)
  statement_words (of_block head inner tail) s = statements_words inner (back head (all_written inner) (front (head ++ all_written inner) tail s))
  statement_words (of_if head condition close taken) s =
      let to_test = front (head ++ spelled condition) close (front (head ++ spelled condition ++ close) (written taken) s) in
      (phrase_words condition (back head (spelled condition) to_test), statement_words taken (back (head ++ spelled condition ++ close) (written taken) s))
  statement_words (of_else head condition close taken middle other) s =
      let to_middle = front (head ++ spelled condition ++ close ++ written taken ++ middle) (written other) s in
      let to_taken = front (head ++ spelled condition ++ close ++ written taken) middle to_middle in
      let to_test = front (head ++ spelled condition) close (front (head ++ spelled condition ++ close) (written taken) to_taken) in (
        phrase_words condition (back head (spelled condition) to_test),
        statement_words taken (back (head ++ spelled condition ++ close) (written taken) to_taken),
        statement_words other (back (head ++ spelled condition ++ close ++ written taken ++ middle) (written other) s),
      )
  statement_words (of_for head low bound high form step body) s =
      let to_step = front (head ++ spelled low ++ bound ++ spelled high ++ step) (written body) s in
      let to_high = front (head ++ spelled low ++ bound ++ spelled high) step to_step in
      let to_low = front (head ++ spelled low) bound (front (head ++ spelled low ++ bound) (spelled high) to_high) in (
        phrase_words low (back head (spelled low) to_low),
        phrase_words high (back (head ++ spelled low ++ bound) (spelled high) to_high),
        statement_words body (back (head ++ spelled low ++ bound ++ spelled high ++ step) (written body) s),
      )
  statement_words (of_while head condition close body) s =
      let to_test = front (head ++ spelled condition) close (front (head ++ spelled condition ++ close) (written body) s) in
      (phrase_words condition (back head (spelled condition) to_test), statement_words body (back (head ++ spelled condition ++ close) (written body) s))
  statement_words (of_output head value tail) s = phrase_words value (back head (spelled value) (front (head ++ spelled value) tail s))
  statement_words (of_call head given tail) s = given_words given (back head (argument_tokens given) (front (head ++ argument_tokens given) tail s))
  statement_words (of_input row) s = tt
  statement_words (of_call_to head given tail) s = given_words given (back head (argument_tokens given) (front (head ++ argument_tokens given) tail s))
  statement_words (of_assign target sign value tail) s =
      let to_value = front (target_tokens target ++ sign ++ spelled value) tail s in
      let to_sign = front (target_tokens target ++ sign) (spelled value) to_value in
      (index_words target (front (target_tokens target) sign to_sign), phrase_words value (back (target_tokens target ++ sign) (spelled value) to_value))
  statement_words (of_change target direction sign value tail) s =
      let to_value = front (target_tokens target ++ sign ++ spelled value) tail s in
      let to_sign = front (target_tokens target ++ sign) (spelled value) to_value in
      let index = index_words target (front (target_tokens target) sign to_sign) in
      (index, (side_words (target_at target) (target_text target) (target_index target) index, phrase_words value (back (target_tokens target ++ sign) (spelled value) to_value)))
  statement_words (of_count target direction row) s =
      let index = index_words target (front (target_tokens target) row s) in
      (index, (side_words (target_at target) (target_text target) (target_index target) index, omega arith))

  pub statements_words : (ps : StatementPhrases) → AreSaid (all_written ps) → StatementsHaveWords (listed (all_meant ps))
  statements_words no_phrases s = tt
  statements_words (next_phrase first rest) s =
      (statement_words first (front (written first) (all_written rest) s), statements_words rest (back (written first) (all_written rest) s))
