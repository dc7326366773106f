-- What the tokens so far spell, wherever the reader of statements stands.
use Rattle.std.proofs.Common.{◌≡◌, ℕ, List, [], ◌∷◌, ◌++◌, None, Some, Bool, true, false, refl, ap, sym, subst, ◌∙◌, append_assoc}
use Rattle.prem_text.proofs.Prelude.{Text, Statement, Place, State, Phrase, spelled, tree, IsExpression, IsRow, name_at, Slot, right_parenthesis, left_brace, semicolon, equal_sign}
use Rattle.prem_text.proofs.Prelude.{step_sign, a_name, the_else, value_at, place_at, Around, in_body, in_block, in_taken, in_other, in_while, in_for, Header, Use, for_output, for_if}
use Rattle.prem_text.proofs.Prelude.{for_while, for_low, for_high, for_index, for_value, for_change, for_argument, Row, if_row, out_row, while_row, for_row, bound_row, sign_row, step_row}
use Rattle.prem_text.proofs.Prelude.{last_row, Point, between, may_else, filling, inside, on_name, on_element, Turn, on, leaves, wrong, ended, settled, least_of, is_at_most, StepForm}
use Rattle.prem_text.proofs.Prelude.{step_slots, step_size, Target, to_element, target_tokens, target_at, target_text, target_index, IsTarget, Direction, change_sign, change_op, Parted}
use Rattle.prem_text.proofs.Prelude.{AreParted, parted_tokens, parted_trees, StatementPhrase, of_if, of_else, of_for, of_while, StatementPhrases, no_phrases, next_phrase, if_head, for_head}
use Rattle.prem_text.proofs.Prelude.{for_bound, while_head, out_head, call_head, call_to_head, IsStatement, AreStatements, ends_open, written, all_written, meant, all_meant, loop_names}
use Rattle.prem_text.proofs.Prelude.{name, mark, Seen, append-nil}
use Rattle.prem_text.proofs.GrammarLemmas.Sound.{StandsIn}
use Rattle.std.specs.Prelude.{if◌then◌else◌}
use Rattle.prem_text.specs.declared.lexing.token.token.Mark.TheVariants as m

-- ---- one statement more

abbrev pub with_phrase : StatementPhrases → StatementPhrase → StatementPhrases
with_phrase no_phrases s = next_phrase s no_phrases
with_phrase (next_phrase first rest) s = next_phrase first (with_phrase rest s)

with_meant : (ss : StatementPhrases) (s : StatementPhrase) → all_meant (with_phrase ss s) ≡ all_meant ss ++ meant s ∷ []
with_meant no_phrases s = refl
with_meant (next_phrase first rest) s = ap (λ (l : List Statement). meant first ∷ l) (with_meant rest s)

pub with_written : (ss : StatementPhrases) (s : StatementPhrase) → all_written (with_phrase ss s) ≡ all_written ss ++ written s
with_written no_phrases s = append-nil (written s)
with_written (next_phrase first rest) s = ap (λ (l : List Seen). written first ++ l) (with_written rest s) ∙ sym (append_assoc (written first) (all_written rest) (written s))

pub with_right : (ss : StatementPhrases) (s : StatementPhrase) → AreStatements ss → IsStatement s → AreStatements (with_phrase ss s)
with_right no_phrases s all right = (right, tt)
with_right (next_phrase first rest) s all right = (all.0, with_right rest s all.1 right)

-- ---- what is opened

pub data Opened : Around → List Seen → Type 0 where
  body_opened : (ss : StatementPhrases) → AreStatements ss → Opened (in_body (all_meant ss)) (all_written ss)
  block_opened : (head : List Seen) (ss : StatementPhrases) (around : Around) (pre : List Seen) → IsRow (left_brace ∷ []) head → AreStatements ss → Opened around pre →
      Opened (in_block (place_at 0 head) (all_meant ss) around) (pre ++ head ++ all_written ss)
  taken_opened : (head : List Seen) (p : Phrase) (close : List Seen) (around : Around) (pre : List Seen) → IsRow if_head head → IsExpression 1 p →
      IsRow (right_parenthesis ∷ []) close → Opened around pre →
      Opened (in_taken (place_at 0 head) (tree p) around) (pre ++ head ++ spelled p ++ close)
  other_opened : (head : List Seen) (p : Phrase) (close : List Seen) (taken : StatementPhrase) (middle : List Seen) (around : Around) (pre : List Seen) → IsRow if_head head → IsExpression 1 p →
      IsRow (right_parenthesis ∷ []) close → IsStatement taken → ends_open taken ≡ false → IsRow (the_else ∷ []) middle → Opened around pre →
      Opened (in_other (place_at 0 head) (tree p) (meant taken) around) (pre ++ head ++ spelled p ++ close ++ written taken ++ middle)
  while_opened : (head : List Seen) (p : Phrase) (close : List Seen) (around : Around) (pre : List Seen) → IsRow while_head head → IsExpression 1 p →
      IsRow (right_parenthesis ∷ []) close → Opened around pre →
      Opened (in_while (place_at 0 head) (value_at 2 head) (tree p) around) (pre ++ head ++ spelled p ++ close)
  for_opened : (head : List Seen) (p : Phrase) (bound : List Seen) (q : Phrase) (form : StepForm) (step : List Seen) (around : Around) (pre : List Seen) → IsRow for_head head → IsExpression 1 p →
      IsRow for_bound bound → IsExpression 8 q → IsRow (step_slots form) step → Opened around pre →
      Opened (in_for (place_at 0 head) (loop_names head bound form step) (tree p) (is_at_most bound) (tree q) (step_size form step) around) (pre ++ head ++ spelled p ++ bound ++ spelled q ++ step)

abbrev pub header_of : List Seen → Phrase → List Seen → Phrase → Header
header_of head p bound q = record { at = place_at 0 head; first = name_at 2 head; low = tree p; second = name_at 1 bound; closed = is_at_most bound; high = tree q }

-- a whole row, behind what its statement has before it
pub data RowIs : Row → List Seen → List Seen → Type 0 where
  if_is : (all : List Seen) → IsRow if_head all → RowIs if_row [] all
  out_is : (all : List Seen) → IsRow out_head all → RowIs out_row [] all
  while_is : (all : List Seen) → IsRow while_head all → RowIs while_row [] all
  for_is : (all : List Seen) → IsRow for_head all → RowIs for_row [] all
  bound_is : (head : List Seen) (p : Phrase) (all : List Seen) → IsRow for_head head → IsExpression 1 p → IsRow for_bound all →
      RowIs (bound_row (place_at 0 head) (name_at 2 head) (tree p)) (head ++ spelled p) all
  sign_is : (head : List Seen) (p : Phrase) (bound : List Seen) (q : Phrase) (all : List Seen) → IsRow for_head head → IsExpression 1 p → IsRow for_bound bound → IsExpression 8 q →
      IsRow (semicolon ∷ a_name ∷ step_sign ∷ []) all → RowIs (sign_row (header_of head p bound q)) (head ++ spelled p ++ bound ++ spelled q) all
  step_is : (head : List Seen) (p : Phrase) (bound : List Seen) (q : Phrase) (form : StepForm) (all : List Seen) → IsRow for_head head → IsExpression 1 p → IsRow for_bound bound → IsExpression 8 q →
      IsRow (step_slots form) all → RowIs (step_row (header_of head p bound q)) (head ++ spelled p ++ bound ++ spelled q) all
  last_is : (s : StatementPhrase) (before all : List Seen) → IsStatement s → ends_open s ≡ false → written s ≡ before ++ all → RowIs (last_row (meant s)) before all

-- what stands before an expression, from its statement's beginning on
pub data UseIs : Use → List Seen → Type 0 where
  output_is : (head : List Seen) → IsRow out_head head → UseIs (for_output (place_at 0 head)) head
  condition_is : (head : List Seen) → IsRow if_head head → UseIs (for_if (place_at 0 head)) head
  turns_is : (head : List Seen) → IsRow while_head head → UseIs (for_while (place_at 0 head) (value_at 2 head)) head
  low_is : (head : List Seen) → IsRow for_head head → UseIs (for_low (place_at 0 head) (name_at 2 head)) head
  high_is : (head : List Seen) (p : Phrase) (bound : List Seen) → IsRow for_head head → IsExpression 1 p → IsRow for_bound bound →
      UseIs (for_high (place_at 0 head) (name_at 2 head) (tree p) (name_at 1 bound) (is_at_most bound)) (head ++ spelled p ++ bound)
  index_is : (at : Place) (text : Text) (a : Place) → UseIs (for_index at text) ((name text, at) ∷ (mark m.OpenBracket, a) ∷ [])
  value_is : (target : Target) (sign : List Seen) → IsTarget target → IsRow (equal_sign ∷ []) sign →
      UseIs (for_value (target_at target) (target_text target) (target_index target)) (target_tokens target ++ sign)
  change_is : (target : Target) (direction : Direction) (sign : List Seen) → IsTarget target → IsRow (change_sign direction ∷ []) sign →
      UseIs (for_change (target_at target) (target_text target) (target_index target) (change_op direction) (place_at 0 sign)) (target_tokens target ++ sign)
  argument_is : (head : List Seen) (before : List Parted) → IsRow call_head head → AreParted before →
      UseIs (for_argument (place_at 0 head) None (name_at 0 head) (parted_trees before)) (head ++ parted_tokens before)
  argument_to_is : (head : List Seen) (before : List Parted) → IsRow call_to_head head → AreParted before →
      UseIs (for_argument (place_at 0 head) (Some (name_at 0 head)) (name_at 2 head) (parted_trees before)) (head ++ parted_tokens before)

pub data StandsAt : Point → List Seen → Type 0 where
  at_between : (around : Around) (pre : List Seen) → Opened around pre → StandsAt (between around) pre
  at_else : (head : List Seen) (p : Phrase) (close : List Seen) (taken : StatementPhrase) (around : Around) (pre : List Seen) → IsRow if_head head →
      IsExpression 1 p → IsRow (right_parenthesis ∷ []) close →
      IsStatement taken → ends_open taken ≡ false → Opened around pre →
      StandsAt (may_else (place_at 0 head) (tree p) (meant taken) around) (pre ++ head ++ spelled p ++ close ++ written taken)
  at_row : (row : Row) (before got : List Seen) (wanted : Slot) (later : List Slot) (around : Around) (pre : List Seen) → Opened around pre →
      ((more : List Seen) → IsRow (wanted ∷ later) more → RowIs row before (got ++ more)) → StandsAt (filling row got wanted later around) (pre ++ before ++ got)
  at_expression : (u : Use) (s : State) (room : ℕ) (before mid : List Seen) (around : Around) (pre : List Seen) → Opened around pre → UseIs u before → StandsIn (least_of u) s mid →
      StandsAt (inside u s room around) (pre ++ before ++ mid)
  at_name : (at : Place) (text : Text) (around : Around) (pre : List Seen) → Opened around pre → StandsAt (on_name at text around) (pre ++ (name text, at) ∷ [])
  at_element : (at : Place) (text : Text) (a : Place) (index : Phrase) (b : Place) (around : Around) (pre : List Seen) → IsExpression 1 index → Opened around pre →
      StandsAt (on_element at text (tree index) around) (pre ++ target_tokens (to_element at text a index b))

-- what a turn says of the tokens before it, and with its own
abbrev pub FineTurn : List Seen → List Seen → Turn → Type 0
FineTurn pre now (on p) = StandsAt p now
FineTurn pre now (leaves statements) = (ss : StatementPhrases) × AreStatements ss × (all_meant ss ≡ statements) × (all_written ss ≡ pre)
FineTurn pre now wrong = Unit {0}

pub stands_same : (p : Point) (xs ys : List Seen) → xs ≡ ys → StandsAt p xs → StandsAt p ys
stands_same p xs ys same stands = subst (λ (ts : List Seen). StandsAt p ts) same stands

pub if_fine : (pre now : List Seen) (b : Bool) (x y : Turn) → (b ≡ true → FineTurn pre now x) → (b ≡ false → FineTurn pre now y) → FineTurn pre now (if b then x else y)
if_fine pre now true x y first second = first refl
if_fine pre now false x y first second = second refl

-- ---- a statement ends

one_more_body : (ss : StatementPhrases) (s : StatementPhrase) → AreStatements ss → IsStatement s → Opened (in_body (all_meant ss ++ meant s ∷ [])) (all_written ss ++ written s)
one_more_body ss s all right =
    subst (λ (l : List Statement). Opened (in_body l) (all_written ss ++ written s)) (with_meant ss s)
    (subst (λ (ts : List Seen). Opened (in_body (all_meant (with_phrase ss s))) ts) (with_written ss s) (body_opened (with_phrase ss s) (with_right ss s all right)))

one_more_block : (head : List Seen) (ss : StatementPhrases) (around : Around) (pre : List Seen) (s : StatementPhrase) → IsRow (left_brace ∷ []) head →
    AreStatements ss → Opened around pre → IsStatement s →
    Opened (in_block (place_at 0 head) (all_meant ss ++ meant s ∷ []) around) ((pre ++ head ++ all_written ss) ++ written s)
one_more_block head ss around pre s row all opened right =
    let same : pre ++ head ++ all_written (with_phrase ss s) ≡ (pre ++ head ++ all_written ss) ++ written s =
    ap (λ (l : List Seen). pre ++ head ++ l) (with_written ss s) ∙ simp append_assoc in
    subst (λ (l : List Statement). Opened (in_block (place_at 0 head) l around) ((pre ++ head ++ all_written ss) ++ written s)) (with_meant ss s)
    (subst (λ (ts : List Seen). Opened (in_block (place_at 0 head) (all_meant (with_phrase ss s)) around) ts) same
    (block_opened head (with_phrase ss s) around pre row (with_right ss s all right) opened))

pub ended_stands : (around : Around) (pre : List Seen) (s : StatementPhrase) → Opened around pre → IsStatement s → ends_open s ≡ false → StandsAt (ended (meant s) around) (pre ++ written s)
ended_stands _ _ s (body_opened ss all) right closed = at_between _ _ (one_more_body ss s all right)
ended_stands _ _ s (block_opened head ss around pre row all opened) right closed = at_between _ _ (one_more_block head ss around pre s row all opened right)
ended_stands _ _ s (taken_opened head p close around pre row short shut opened) right closed =
    stands_same _ (pre ++ head ++ spelled p ++ close ++ written s) _ (simp append_assoc) (at_else head p close s around pre row short shut right closed opened)
ended_stands _ _ s (other_opened head p close taken middle around pre row short shut first before parts opened) right closed =
    stands_same _ (pre ++ written (of_else head p close taken middle s)) _ (simp append_assoc)
    (ended_stands around pre (of_else head p close taken middle s) opened (row, short, shut, first, before, parts, right) closed)
ended_stands _ _ s (while_opened head p close around pre row short shut opened) right closed =
    stands_same _ (pre ++ written (of_while head p close s)) _ (simp append_assoc) (ended_stands around pre (of_while head p close s) opened (row, short, shut, right) closed)
ended_stands _ _ s (for_opened head p bound q form step around pre row low parts high steps opened) right closed =
    stands_same _ (pre ++ written (of_for head p bound q form step s)) _ (simp append_assoc)
    (ended_stands around pre (of_for head p bound q form step s) opened (row, low, parts, high, steps, right) closed)

pub opened_same : (around : Around) (xs ys : List Seen) → xs ≡ ys → Opened around xs → Opened around ys
opened_same around xs ys same opened = subst (λ (ts : List Seen). Opened around ts) same opened

pub settled_opened : (around : Around) (pre : List Seen) (s : StatementPhrase) → Opened around pre → IsStatement s → Opened (settled (meant s) around) (pre ++ written s)
settled_opened _ _ s (body_opened ss all) right = one_more_body ss s all right
settled_opened _ _ s (block_opened head ss around pre row all opened) right = one_more_block head ss around pre s row all opened right
settled_opened _ _ s (taken_opened head p close around pre row short shut opened) right =
    opened_same _ (pre ++ written (of_if head p close s)) _ (simp append_assoc) (settled_opened around pre (of_if head p close s) opened (row, short, shut, right))
settled_opened _ _ s (other_opened head p close taken middle around pre row short shut first before parts opened) right =
    opened_same _ (pre ++ written (of_else head p close taken middle s)) _ (simp append_assoc)
    (settled_opened around pre (of_else head p close taken middle s) opened (row, short, shut, first, before, parts, right))
settled_opened _ _ s (while_opened head p close around pre row short shut opened) right =
    opened_same _ (pre ++ written (of_while head p close s)) _ (simp append_assoc) (settled_opened around pre (of_while head p close s) opened (row, short, shut, right))
settled_opened _ _ s (for_opened head p bound q form step around pre row low parts high steps opened) right =
    opened_same _ (pre ++ written (of_for head p bound q form step s)) _ (simp append_assoc)
    (settled_opened around pre (of_for head p bound q form step s) opened (row, low, parts, high, steps, right))
