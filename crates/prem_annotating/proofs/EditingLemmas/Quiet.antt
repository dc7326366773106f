-- Expressions and statements have no type among their tokens, and no mark of a function.
use Rattle.std.proofs.Common.{not, ◌&&◌, ◌≡◌, Bool, true, false, List, [], ◌∷◌, ◌++◌, refl}
use Rattle.prem_annotating.proofs.Prelude.{Phrase, of_literal, of_name, of_element, of_bracket, of_prefix, of_infix, spelled, IsRow, Slot, fits, left_brace, right_brace, right_parenthesis}
use Rattle.prem_annotating.proofs.Prelude.{semicolon, comma, equal_sign, the_else, StepForm, by_one_step, added_step, summed_step, step_slots, if_head, for_head, for_bound, while_head}
use Rattle.prem_annotating.proofs.Prelude.{out_head, statement_tail, call_head, call_to_head, input_row, Direction, up, down, change_sign, count_sign, Target, to_name, to_element, Parted}
use Rattle.prem_annotating.proofs.Prelude.{Arguments, no_arguments, arguments, StatementPhrase, StatementPhrases, of_block, of_if, of_else, of_for, of_while, of_output, of_call, of_input}
use Rattle.prem_annotating.proofs.Prelude.{of_call_to, of_assign, of_change, of_count, no_phrases, next_phrase, AreParted, AreArguments, IsStatement, AreStatements, parted_tokens}
use Rattle.prem_annotating.proofs.Prelude.{argument_tokens, target_tokens, written, all_written, Lexeme, name, number, word, mark, end_of_text, Seen, every, Word, and_parts}
use Rattle.prem_annotating.proofs.EditingLemmas.Goes.{is_quiet, AreQuiet, quiet_join}
use Rattle.prem_text.specs.declared.lexing.token.token.Word.TheVariants as w

-- ---- rows

-- a slot in which no type stands, and no mark of a function
abbrev pub quiet_slot : Slot → Bool
quiet_slot s =
    not (fits s (word w.Void)) && (not (fits s (word w.Int)) &&
    (not (fits s (word w.Short)) &&
    (not (fits s (word w.Signed)) && (not (fits s (word w.Char)) && (not (fits s (word w.Unsigned)) && not (fits s (word w.Predictable)))))))

no_other : (x : Bool) → x ≡ true → not x ≡ true → ⊥
no_other true a b = cc
no_other false a b = cc

word_quiet : (s : Slot) (k : Word) → fits s (word k) ≡ true → quiet_slot s ≡ true → is_quiet (word k) ≡ true
word_quiet s w.Void f q = absurd (no_other (fits s (word w.Void)) f (and_parts (not (fits s (word w.Void))) _ q).0)
word_quiet s w.Int f q = absurd (no_other (fits s (word w.Int)) f (and_parts (not (fits s (word w.Int))) _ (and_parts (not (fits s (word w.Void))) _ q).1).0)
word_quiet s w.Short f q = absurd
    (no_other (fits s (word w.Short)) f
    (and_parts (not (fits s (word w.Short))) _ (and_parts (not (fits s (word w.Int))) _ (and_parts (not (fits s (word w.Void))) _ q).1).1).0)
word_quiet s w.Signed f q = absurd
    (no_other (fits s (word w.Signed)) f
    (and_parts (not (fits s (word w.Signed))) _
    (and_parts (not (fits s (word w.Short))) _ (and_parts (not (fits s (word w.Int))) _ (and_parts (not (fits s (word w.Void))) _ q).1).1).1).0)
word_quiet s w.Char f q = absurd
    (no_other (fits s (word w.Char)) f
    (and_parts (not (fits s (word w.Char))) _
    (and_parts (not (fits s (word w.Signed))) _
    (and_parts (not (fits s (word w.Short))) _ (and_parts (not (fits s (word w.Int))) _ (and_parts (not (fits s (word w.Void))) _ q).1).1).1).1).0)
word_quiet s w.Unsigned f q =
    absurd (no_other (fits s (word w.Unsigned)) f
    (and_parts (not (fits s (word w.Unsigned))) _
    (and_parts (not (fits s (word w.Char))) _
    (and_parts (not (fits s (word w.Signed))) _
    (and_parts (not (fits s (word w.Short))) _ (and_parts (not (fits s (word w.Int))) _ (and_parts (not (fits s (word w.Void))) _ q).1).1).1).1).1).0)
word_quiet s w.Predictable f q =
    absurd (no_other (fits s (word w.Predictable)) f
    (and_parts (not (fits s (word w.Unsigned))) _
    (and_parts (not (fits s (word w.Char))) _
    (and_parts (not (fits s (word w.Signed))) _
    (and_parts (not (fits s (word w.Short))) _ (and_parts (not (fits s (word w.Int))) _ (and_parts (not (fits s (word w.Void))) _ q).1).1).1).1).1).1)
word_quiet s _ f q = refl

slot_quiet : (s : Slot) (x : Lexeme) → fits s x ≡ true → quiet_slot s ≡ true → is_quiet x ≡ true
slot_quiet s (word k) f q = word_quiet s k f q
slot_quiet s (name x) f q = refl
slot_quiet s (number v k) f q = refl
slot_quiet s (mark k) f q = refl
slot_quiet s end_of_text f q = refl

pub row_quiet : (slots : List Slot) (row : List Seen) → every quiet_slot slots ≡ true → IsRow slots row → AreQuiet row
row_quiet [] [] all h = tt
row_quiet [] (t ∷ ts) all h = absurd h
row_quiet (s ∷ slots) [] all h = absurd h
row_quiet (s ∷ slots) (t ∷ ts) all h =
    let parts = and_parts (quiet_slot s) (every quiet_slot slots) all in
    (slot_quiet s t.0 h.0 parts.0, row_quiet slots ts parts.1 h.1)

-- ---- expressions

pub phrase_quiet : (p : Phrase) → AreQuiet (spelled p)
phrase_quiet (of_literal at value kind) = (refl, tt)
phrase_quiet (of_name at text) = (refl, tt)
phrase_quiet (of_element at text a index b) = (refl, (refl, quiet_join (spelled index) _ (phrase_quiet index) (refl, tt)))
phrase_quiet (of_bracket a inner b) = (refl, quiet_join (spelled inner) _ (phrase_quiet inner) (refl, tt))
phrase_quiet (of_prefix at sign op operand) = (refl, phrase_quiet operand)
phrase_quiet (of_infix left at sign op right) = quiet_join (spelled left) _ (phrase_quiet left) (refl, phrase_quiet right)

-- ---- statements

parted_quiet : (ps : List Parted) → AreParted ps → AreQuiet (parted_tokens ps)
parted_quiet [] h = tt
parted_quiet (a ∷ rest) h = quiet_join (spelled a.0 ++ a.1) (parted_tokens rest) (quiet_join (spelled a.0) a.1 (phrase_quiet a.0) (row_quiet (comma ∷ []) a.1 refl h.1)) (parted_quiet rest h.2)

arguments_quiet : (given : Arguments) → AreArguments given → AreQuiet (argument_tokens given)
arguments_quiet no_arguments h = tt
arguments_quiet (arguments before last) h = quiet_join (parted_tokens before) (spelled last) (parted_quiet before h.0) (phrase_quiet last)

target_quiet : (t : Target) → AreQuiet (target_tokens t)
target_quiet (to_name at text) = (refl, tt)
target_quiet (to_element at text a index b) = (refl, (refl, quiet_join (spelled index) _ (phrase_quiet index) (refl, tt)))

step_quiet : (form : StepForm) → every quiet_slot (step_slots form) ≡ true
step_quiet by_one_step = refl
step_quiet added_step = refl
step_quiet summed_step = refl

change_quiet : (d : Direction) → every quiet_slot (change_sign d ∷ []) ≡ true
change_quiet up = refl
change_quiet down = refl

count_quiet : (d : Direction) → every quiet_slot (count_sign d ∷ semicolon ∷ []) ≡ true
count_quiet up = refl
count_quiet down = refl

mutual
  statement_quiet : (p : StatementPhrase) → IsStatement p → AreQuiet (written p)
  statement_quiet (of_block head inner tail) h =
      quiet_join (head ++ all_written inner) tail
      (quiet_join head (all_written inner) (row_quiet (left_brace ∷ []) head refl h.0) (statements_quiet inner h.1))
      (row_quiet (right_brace ∷ []) tail refl h.2)
  statement_quiet (of_if head condition close taken) h =
      quiet_join (head ++ spelled condition ++ close) (written taken)
      (quiet_join (head ++ spelled condition) close (quiet_join head (spelled condition) (row_quiet if_head head refl h.0) (phrase_quiet condition))
      (row_quiet (right_parenthesis ∷ []) close refl h.2)) (statement_quiet taken h.3)
  statement_quiet (of_else head condition close taken middle other) h =
      quiet_join (head ++ spelled condition ++ close ++ written taken ++ middle) (written other)
      (quiet_join (head ++ spelled condition ++ close ++ written taken) middle
      (quiet_join (head ++ spelled condition ++ close) (written taken)
      (quiet_join (head ++ spelled condition) close (quiet_join head (spelled condition) (row_quiet if_head head refl h.0) (phrase_quiet condition))
      (row_quiet (right_parenthesis ∷ []) close refl h.2)) (statement_quiet taken h.3))
      (row_quiet (the_else ∷ []) middle refl h.5)) (statement_quiet other h.6)
  statement_quiet (of_for head low bound high form step body) h =
      quiet_join (head ++ spelled low ++ bound ++ spelled high ++ step) (written body)
      (quiet_join (head ++ spelled low ++ bound ++ spelled high) step
      (quiet_join (head ++ spelled low ++ bound) (spelled high)
      (quiet_join (head ++ spelled low) bound (quiet_join head (spelled low) (row_quiet for_head head refl h.0) (phrase_quiet low)) (row_quiet for_bound bound refl h.2)) (phrase_quiet high))
      (row_quiet (step_slots form) step (step_quiet form) h.4)) (statement_quiet body h.5)
  statement_quiet (of_while head condition close body) h =
      quiet_join (head ++ spelled condition ++ close) (written body)
      (quiet_join (head ++ spelled condition) close
      (quiet_join head (spelled condition) (row_quiet while_head head refl h.0) (phrase_quiet condition))
      (row_quiet (right_parenthesis ∷ []) close refl h.2)) (statement_quiet body h.3)
  statement_quiet (of_output head value tail) h =
      quiet_join (head ++ spelled value) tail (quiet_join head (spelled value) (row_quiet out_head head refl h.0) (phrase_quiet value))
      (row_quiet statement_tail tail refl h.2)
  statement_quiet (of_call head given tail) h =
      quiet_join (head ++ argument_tokens given) tail
      (quiet_join head (argument_tokens given) (row_quiet call_head head refl h.0) (arguments_quiet given h.1)) (row_quiet statement_tail tail refl h.2)
  statement_quiet (of_input row) h = row_quiet input_row row refl h
  statement_quiet (of_call_to head given tail) h =
      quiet_join (head ++ argument_tokens given) tail
      (quiet_join head (argument_tokens given) (row_quiet call_to_head head refl h.0) (arguments_quiet given h.1)) (row_quiet statement_tail tail refl h.2)
  statement_quiet (of_assign target sign value tail) h =
      quiet_join (target_tokens target ++ sign ++ spelled value) tail
      (quiet_join (target_tokens target ++ sign) (spelled value)
      (quiet_join (target_tokens target) sign (target_quiet target) (row_quiet (equal_sign ∷ []) sign refl h.1)) (phrase_quiet value))
      (row_quiet (semicolon ∷ []) tail refl h.3)
  statement_quiet (of_change target direction sign value tail) h =
      quiet_join (target_tokens target ++ sign ++ spelled value) tail
      (quiet_join (target_tokens target ++ sign) (spelled value)
      (quiet_join (target_tokens target) sign (target_quiet target) (row_quiet (change_sign direction ∷ []) sign (change_quiet direction) h.1))
      (phrase_quiet value)) (row_quiet (semicolon ∷ []) tail refl h.3)
  statement_quiet (of_count target direction row) h = quiet_join (target_tokens target) row (target_quiet target) (row_quiet (count_sign direction ∷ semicolon ∷ []) row (count_quiet direction) h.1)

  pub statements_quiet : (ps : StatementPhrases) → AreStatements ps → AreQuiet (all_written ps)
  statements_quiet no_phrases h = tt
  statements_quiet (next_phrase first rest) h = quiet_join (written first) (all_written rest) (statement_quiet first h.0) (statements_quiet rest h.1)
