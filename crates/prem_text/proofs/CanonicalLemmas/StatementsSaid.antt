-- The canonical tokens of an expression or statement of a text can be spelled, and it has the shape that they need.
use Rattle.std.proofs.Common.{◌≡◌, ℕ, ◌+◌, nat_lt, Bool, true, false, List, [], ◌∷◌, ◌++◌, Option, None, Some, refl, ◌∙◌, arith}
use Rattle.prem_text.proofs.Prelude.{Text, Expression, literal, binary, Place, number_lexeme, infix_sign, enclosed, expression_lexemes, more_arguments, argument_lexemes, target_lexemes}
use Rattle.prem_text.proofs.Prelude.{call_lexemes, while_lexemes, for_lexemes, bound_lexemes, step_lexemes, tail_lexemes, if_lexemes, statement_lexemes, statements_lexemes}
use Rattle.prem_text.proofs.Prelude.{unplaced_statement, unplaced_statements, level_of, Phrase, of_literal, of_name, of_element, of_bracket, of_prefix, of_infix, spelled, tree, IsRow}
use Rattle.prem_text.proofs.Prelude.{name_at, value_at, place_at, side, changed, listed, is_at_most, StepForm, by_one_step, added_step, summed_step, fourth_name, step_size, Target, to_name}
use Rattle.prem_text.proofs.Prelude.{to_element, Direction, Parted, Arguments, no_arguments, arguments, StatementPhrase, of_block, of_if, of_else, of_for, of_while, of_output, of_call}
use Rattle.prem_text.proofs.Prelude.{of_input, of_call_to, of_assign, of_change, of_count, StatementPhrases, no_phrases, next_phrase, for_head, for_bound, call_head, call_to_head, input_row}
use Rattle.prem_text.proofs.Prelude.{step_slots, ends_open, IsStatement, AreStatements, parted_tokens, argument_tokens, target_tokens, written, all_written, parted_trees, argument_trees}
use Rattle.prem_text.proofs.Prelude.{target_at, target_text, target_index, change_op, loop_names, meant, all_meant, Lexeme, name, word, mark, Seen, BinOp, Int}
use Rattle.prem_text.proofs.CanonicalLemmas.Sayable.{IsSayable, AreSayable, both, AreSaid, front, back, name_said, value_said, number_said, Each, each_last}
use Rattle.prem_text.proofs.CanonicalLemmas.Shaped.{leaves_open, IsShaped, AreShaped}
use Rattle.prem_text.specs.declared.lexing.token.token.Mark.TheVariants as m
use Rattle.prem_text.specs.declared.lexing.token.token.Word.TheVariants as w

-- ---- expressions

enclosed_said : (b : Bool) (xs : List Lexeme) → AreSayable xs → AreSayable (enclosed b xs)
enclosed_said false xs p = p
enclosed_said true xs p = both xs (mark m.CloseParenthesis ∷ []) p tt

binary_said : (least : ℕ) (at : Place) (op : BinOp) (left right : Expression) → ((k : ℕ) → AreSayable (expression_lexemes k left)) → ((k : ℕ) → AreSayable (expression_lexemes k right)) →
    AreSayable (expression_lexemes least (binary at op left right))
binary_said least at op left right p q =
    enclosed_said (nat_lt (level_of op) least) _
    (both (expression_lexemes (level_of op) left) (mark (infix_sign op) ∷ expression_lexemes (level_of op + 1) right) (p (level_of op))
    (q (level_of op + 1)))

pub expression_said : (p : Phrase) → AreSaid (spelled p) → (least : ℕ) → AreSayable (expression_lexemes least (tree p))
expression_said (of_literal at value kind) s least = (s.0, tt)
expression_said (of_name at text) s least = (s.0, tt)
expression_said (of_element at text a index b) s least =
    (s.0, both (expression_lexemes 1 (tree index)) (mark m.CloseBracket ∷ []) (expression_said index (front (spelled index) _ s.1.1) 1) tt)
expression_said (of_bracket a inner b) s least = expression_said inner (front (spelled inner) _ s.1) least
expression_said (of_prefix at sign op operand) s least = expression_said operand s.1 11
expression_said (of_infix left at sign op right) s least =
    binary_said least at op (tree left) (tree right) (expression_said left (front (spelled left) _ s)) (expression_said right (back (spelled left) _ s).1)

-- ---- parts of statements

parted_said : (before : List Parted) → AreSaid (parted_tokens before) → Each (expression_lexemes 1) (parted_trees before)
parted_said [] s = tt
parted_said (a ∷ rest) s =
    let head = front (spelled a.0 ++ a.1) (parted_tokens rest) s in
    (expression_said a.0 (front (spelled a.0) a.1 head) 1, parted_said rest (back (spelled a.0 ++ a.1) (parted_tokens rest) s))

more_said : (es : List Expression) → Each (expression_lexemes 1) es → AreSayable (more_arguments es)
more_said [] p = tt
more_said (e ∷ rest) p = both (expression_lexemes 1 e) (more_arguments rest) p.0 (more_said rest p.1)

list_said : (es : List Expression) → Each (expression_lexemes 1) es → AreSayable (argument_lexemes es)
list_said [] p = tt
list_said (e ∷ rest) p = both (expression_lexemes 1 e) (more_arguments rest) p.0 (more_said rest p.1)

arguments_said : (g : Arguments) → AreSaid (argument_tokens g) → AreSayable (argument_lexemes (argument_trees g))
arguments_said no_arguments s = tt
arguments_said (arguments before last) s =
    list_said _ (each_last (expression_lexemes 1) (parted_trees before) (tree last)
    (parted_said before (front (parted_tokens before) (spelled last) s)) (expression_said last (back (parted_tokens before) (spelled last) s) 1))

target_said : (t : Target) → AreSaid (target_tokens t) → AreSayable (target_lexemes (target_text t) (target_index t))
target_said (to_name at text) s = (s.0, tt)
target_said (to_element at text a index b) s =
    (s.0, both (expression_lexemes 1 (tree index)) (mark m.CloseBracket ∷ []) (expression_said index (front (spelled index) _ s.1.1) 1) tt)

side_said : (t : Target) (at : Place) → AreSaid (target_tokens t) → (least : ℕ) → AreSayable (expression_lexemes least (side at (target_text t) (target_index t)))
side_said (to_name at text) place s least = (s.0, tt)
side_said (to_element at text a index b) place s least =
    (s.0, both (expression_lexemes 1 (tree index)) (mark m.CloseBracket ∷ []) (expression_said index (front (spelled index) _ s.1.1) 1) tt)

fourth_said : (form : StepForm) (ts : List Seen) → IsRow (step_slots form) ts → AreSaid ts → IsSayable (name (fourth_name form ts))
fourth_said by_one_step ts right s = name_said 1 (step_slots by_one_step) ts refl right s
fourth_said added_step ts right s = name_said 1 (step_slots added_step) ts refl right s
fourth_said summed_step ts right s = name_said 3 (step_slots summed_step) ts refl right s

third_said : (form : StepForm) (ts : List Seen) → IsRow (step_slots form) ts → AreSaid ts → IsSayable (name (name_at 1 ts))
third_said by_one_step ts right s = name_said 1 (step_slots by_one_step) ts refl right s
third_said added_step ts right s = name_said 1 (step_slots added_step) ts refl right s
third_said summed_step ts right s = name_said 1 (step_slots summed_step) ts refl right s

size_said : (form : StepForm) (ts : List Seen) → AreSaid ts → IsSayable (number_lexeme (step_size form ts))
size_said by_one_step ts s = number_said 1 (omega arith)
size_said added_step ts s = value_said 3 ts s
size_said summed_step ts s = value_said 5 ts s

if_said : (condition : Phrase) → AreSaid (spelled condition) → AreSayable (if_lexemes (tree condition))
if_said condition s = both (expression_lexemes 1 (tree condition)) (mark m.CloseParenthesis ∷ []) (expression_said condition s 1) tt

assign_said : (x : Text) (index : Option Expression) (e : Expression) → AreSayable (target_lexemes x index) → AreSayable (expression_lexemes 1 e) →
    AreSayable (target_lexemes x index ++ (mark m.Equal ∷ []) ++ expression_lexemes 1 e ++ mark m.Semicolon ∷ [])
assign_said x index e p q =
    both (target_lexemes x index ++ (mark m.Equal ∷ []) ++ expression_lexemes 1 e) (mark m.Semicolon ∷ [])
    (both (target_lexemes x index ++ mark m.Equal ∷ []) (expression_lexemes 1 e) (both (target_lexemes x index) (mark m.Equal ∷ []) p tt) q) tt

-- a target with its own value changed
changed_said : (t : Target) (direction : Direction) (at place : Place) (e : Expression) → AreSaid (target_tokens t) → ((least : ℕ) → AreSayable (expression_lexemes least e)) →
    AreSayable (statement_lexemes (changed at (target_text t) (target_index t) (change_op direction) place e))
changed_said t direction at place e s p =
    assign_said (target_text t) (target_index t) (binary place (change_op direction) (side at (target_text t) (target_index t)) e) (target_said t s)
    (binary_said 1 place (change_op direction) _ e (side_said t at s) p)

-- ---- statements

pub opens : (p : StatementPhrase) → leaves_open (unplaced_statement (meant p)) ≡ ends_open p
opens (of_block head inner tail) = refl
opens (of_if head condition close taken) = refl
opens (of_else head condition close taken middle other) = opens other
opens (of_for head low bound high form step body) = opens body
opens (of_while head condition close body) = opens body
opens (of_output head value tail) = refl
opens (of_call head given tail) = refl
opens (of_input row) = refl
opens (of_call_to head given tail) = refl
opens (of_assign target sign value tail) = refl
opens (of_change target direction sign value tail) = refl
opens (of_count target direction row) = refl

mutual
  pub shaped : (p : StatementPhrase) → IsStatement p → IsShaped (unplaced_statement (meant p))
  shaped (of_block head inner tail) is = all_shaped inner is.1
  shaped (of_if head condition close taken) is = shaped taken is.3
  shaped (of_else head condition close taken middle other) is = (shaped taken is.3, opens taken ∙ is.4, shaped other is.6)
  shaped (of_for head low bound high form step body) is = shaped body is.5
  shaped (of_while head condition close body) is = shaped body is.3
  shaped (of_output head value tail) is = tt
  shaped (of_call head given tail) is = tt
  shaped (of_input row) is = tt
  shaped (of_call_to head given tail) is = tt
  shaped (of_assign target sign value tail) is = tt
  shaped (of_change target direction sign value tail) is = tt
  shaped (of_count target direction row) is = tt

  pub all_shaped : (ps : StatementPhrases) → AreStatements ps → AreShaped (unplaced_statements (listed (all_meant ps)))
  all_shaped no_phrases is = tt
  all_shaped (next_phrase first rest) is = (shaped first is.0, all_shaped rest is.1)

mutual
  statement_said : (p : StatementPhrase) → IsStatement p → AreSaid (written p) → AreSayable (statement_lexemes (meant p))
  statement_said (of_block head inner tail) is s =
      let body = back head (all_written inner) (front (head ++ all_written inner) tail s) in
      both (statements_lexemes (listed (all_meant inner))) (mark m.CloseBrace ∷ []) (all_statements_said inner is.1 body) tt
  statement_said (of_if head condition close taken) is s =
      let h = front (head ++ spelled condition ++ close) (written taken) s in
      let c = back head (spelled condition) (front (head ++ spelled condition) close h) in
      both (if_lexemes (tree condition)) (statement_lexemes (meant taken)) (if_said condition c) (statement_said taken is.3 (back (head ++ spelled condition ++ close) (written taken) s))
  statement_said (of_else head condition close taken middle other) is s =
      let e = front (head ++ spelled condition ++ close ++ written taken ++ middle) (written other) s in
      let d = front (head ++ spelled condition ++ close ++ written taken) middle e in
      let h = front (head ++ spelled condition ++ close) (written taken) d in
      let c = back head (spelled condition) (front (head ++ spelled condition) close h) in
      let first = both (if_lexemes (tree condition)) (statement_lexemes (meant taken)) (if_said condition c)
      (statement_said taken is.3 (back (head ++ spelled condition ++ close) (written taken) d)) in
      both (if_lexemes (tree condition) ++ statement_lexemes (meant taken) ++ word w.Else ∷ []) (statement_lexemes (meant other))
      (both (if_lexemes (tree condition) ++ statement_lexemes (meant taken)) (word w.Else ∷ []) first tt)
      (statement_said other is.6 (back (head ++ spelled condition ++ close ++ written taken ++ middle) (written other) s))
  statement_said (of_for head low bound high form step body) is s =
      let f = front (head ++ spelled low ++ bound ++ spelled high ++ step) (written body) s in
      let e = front (head ++ spelled low ++ bound ++ spelled high) step f in
      let d = front (head ++ spelled low ++ bound) (spelled high) e in
      let c = front (head ++ spelled low) bound d in
      let names = loop_names head bound form step in
      let for_is = for_lexemes names.first in
      let bound_is = bound_lexemes names.second (is_at_most bound) in
      let step_is = step_lexemes names.third names.fourth (step_size form step) in
      let low_is = expression_lexemes 1 (tree low) in
      let high_is = expression_lexemes 8 (tree high) in
      let for_said : AreSayable for_is = (name_said 2 for_head head refl is.0 (front head (spelled low) c), tt) in
      let bound_said : AreSayable bound_is = (name_said 1 for_bound bound refl is.2 (back (head ++ spelled low) bound d), tt) in
      let steps = back (head ++ spelled low ++ bound ++ spelled high) step f in
      let step_said : AreSayable step_is = (third_said form step is.4 steps, (fourth_said form step is.4 steps, (size_said form step steps, tt))) in
      let low_said = expression_said low (back head (spelled low) c) 1 in
      let high_said = expression_said high (back (head ++ spelled low ++ bound) (spelled high) e) 8 in
      let through_high = both (for_is ++ low_is ++ bound_is) high_is (both (for_is ++ low_is) bound_is (both for_is low_is for_said low_said) bound_said) high_said in
      both (for_is ++ low_is ++ bound_is ++ high_is ++ step_is) (statement_lexemes (meant body)) (both (for_is ++ low_is ++ bound_is ++ high_is) step_is through_high step_said)
      (statement_said body is.5 (back (head ++ spelled low ++ bound ++ spelled high ++ step) (written body) s))
  statement_said (of_while head condition close body) is s =
      let h = front (head ++ spelled condition ++ close) (written body) s in
      let g = front (head ++ spelled condition) close h in
      let while_is = while_lexemes (value_at 2 head) in
      let while_said : AreSayable while_is = (value_said 2 head (front head (spelled condition) g), tt) in
      let test_is = expression_lexemes 1 (tree condition) in
      both (while_is ++ test_is ++ mark m.CloseParenthesis ∷ []) (statement_lexemes (meant body))
      (both (while_is ++ test_is) (mark m.CloseParenthesis ∷ []) (both while_is test_is while_said (expression_said condition (back head (spelled condition) g) 1)) tt)
      (statement_said body is.3 (back (head ++ spelled condition ++ close) (written body) s))
  statement_said (of_output head value tail) is s =
      both (expression_lexemes 1 (tree value)) tail_lexemes (expression_said value (back head (spelled value) (front (head ++ spelled value) tail s)) 1) tt
  statement_said (of_call head given tail) is s =
      let h = front (head ++ argument_tokens given) tail s in
      let call_is = call_lexemes None (name_at 0 head) in
      let es = argument_lexemes (argument_trees given) in
      both (call_is ++ es) tail_lexemes
      (both call_is es (name_said 0 call_head head refl is.0 (front head (argument_tokens given) h), tt)
      (arguments_said given (back head (argument_tokens given) h))) tt
  statement_said (of_input row) is s = (name_said 0 input_row row refl is s, tt)
  statement_said (of_call_to head given tail) is s =
      let h = front (head ++ argument_tokens given) tail s in
      let call_is = call_lexemes (Some (name_at 0 head)) (name_at 2 head) in
      let es = argument_lexemes (argument_trees given) in
      let names = front head (argument_tokens given) h in
      let call_said : AreSayable call_is = (name_said 0 call_to_head head refl is.0 names, (name_said 2 call_to_head head refl is.0 names, tt)) in
      both (call_is ++ es) tail_lexemes (both call_is es call_said (arguments_said given (back head (argument_tokens given) h))) tt
  statement_said (of_assign target sign value tail) is s =
      let f = front (target_tokens target ++ sign ++ spelled value) tail s in
      let e = front (target_tokens target ++ sign) (spelled value) f in
      assign_said (target_text target) (target_index target) (tree value) (target_said target (front (target_tokens target) sign e))
      (expression_said value (back (target_tokens target ++ sign) (spelled value) f) 1)
  statement_said (of_change target direction sign value tail) is s =
      let f = front (target_tokens target ++ sign ++ spelled value) tail s in
      let e = front (target_tokens target ++ sign) (spelled value) f in
      let t = front (target_tokens target) sign e in
      changed_said target direction (target_at target) (place_at 0 sign) (tree value) t (expression_said value (back (target_tokens target ++ sign) (spelled value) f))
  statement_said (of_count target direction row) is s =
      let t = front (target_tokens target) row s in
      changed_said target direction (target_at target) (place_at 0 row) (literal (place_at 0 row) 1 Int) t (λ least. (omega arith, tt))

  pub all_statements_said : (ps : StatementPhrases) → AreStatements ps → AreSaid (all_written ps) → AreSayable (statements_lexemes (listed (all_meant ps)))
  all_statements_said no_phrases is s = tt
  all_statements_said (next_phrase first rest) is s =
      both (statement_lexemes (meant first)) (statements_lexemes (listed (all_meant rest)))
      (statement_said first is.0 (front (written first) (all_written rest) s)) (all_statements_said rest is.1 (back (written first) (all_written rest) s))
