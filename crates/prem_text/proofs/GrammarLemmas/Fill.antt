-- Whatever the reader of statements has taken begins the statements of a body.
use Rattle.std.proofs.Common.{◌≡◌, ◌≤◌, ℕ, List, [], ◌∷◌, ◌++◌, true, refl, ap, sym, subst, ◌∙◌, append_assoc, arith}
use Rattle.prem_text.proofs.Prelude.{Place, Phrase, of_literal, spelled, IsExpression, IsRow, left_bracket, plus_sign, minus_sign, minus_minus, minus_equal, the_if, the_for, the_bounded}
use Rattle.prem_text.proofs.Prelude.{the_in, the_out, the_return, the_void, the_range, the_predictable, the_region, the_int, the_short, the_signed, the_char, the_unsigned, the_end, Slot}
use Rattle.prem_text.proofs.Prelude.{left_parenthesis, right_parenthesis, left_brace, right_brace, right_bracket, semicolon, comma, equal_sign, plus_plus, plus_equal, comparison, step_sign}
use Rattle.prem_text.proofs.Prelude.{a_name, a_literal, the_else, the_while, fits, Around, Use, for_output, for_high, Row, Point, least_of, rest_of_step, by_one_step, step_slots, to_name}
use Rattle.prem_text.proofs.Prelude.{to_element, up, arguments, StatementPhrase, of_block, of_if, of_else, of_for, of_while, of_output, of_call, of_call_to, of_assign, of_change, of_count}
use Rattle.prem_text.proofs.Prelude.{StatementPhrases, no_phrases, for_head, for_bound, statement_tail, IsStatement, AreStatements, written, all_written, Lexeme, name, number, word, mark}
use Rattle.prem_text.proofs.Prelude.{end_of_text, Seen, Int, append-nil}
use Rattle.prem_text.proofs.GrammarLemmas.Sound.{begins_expression}
use Rattle.prem_text.proofs.GrammarLemmas.Stand.{Opened, body_opened, block_opened, taken_opened, other_opened, while_opened, for_opened, RowIs, if_is, out_is, while_is, for_is, bound_is}
use Rattle.prem_text.proofs.GrammarLemmas.Stand.{sign_is, step_is, last_is, UseIs, output_is, condition_is, turns_is, low_is, high_is, index_is, value_is, change_is, argument_is}
use Rattle.prem_text.proofs.GrammarLemmas.Stand.{argument_to_is, StandsAt, at_between, at_else, at_row, at_expression, at_name, at_element, with_phrase, with_written, with_right}
use Rattle.prem_text.proofs.GrammarLemmas.Turns.{sign_fits}
use Rattle.prem_text.specs.declared.lexing.token.token.Mark.TheVariants as m
use Rattle.prem_text.specs.declared.lexing.token.token.Word.TheVariants as w

-- tokens begin some statements
pub record Begins (pre : List Seen) : Type 0 where
  pub more : List Seen
  pub phrases : StatementPhrases
  pub right : AreStatements phrases
  pub spells : all_written phrases ≡ pre ++ more

-- so do their first ones
begins_less : (pre xs : List Seen) → Begins (pre ++ xs) → Begins pre
begins_less pre xs b = record { more = xs ++ b.more; phrases = b.phrases; right = b.right; spells = b.spells ∙ append_assoc pre xs b.more }

pub begins_same : (xs ys : List Seen) → xs ≡ ys → Begins xs → Begins ys
begins_same xs ys same b = subst (λ (l : List Seen). Begins l) same b

-- ---- a token for each slot

abbrev pub origin : Place
origin = record { line = 0; col = 0 }

abbrev pub sample : Slot → Lexeme
sample left_parenthesis = mark m.OpenParenthesis
sample right_parenthesis = mark m.CloseParenthesis
sample left_brace = mark m.OpenBrace
sample right_brace = mark m.CloseBrace
sample left_bracket = mark m.OpenBracket
sample right_bracket = mark m.CloseBracket
sample semicolon = mark m.Semicolon
sample comma = mark m.Comma
sample equal_sign = mark m.Equal
sample plus_sign = mark m.Plus
sample minus_sign = mark m.Minus
sample plus_plus = mark m.PlusPlus
sample plus_equal = mark m.PlusEqual
sample comparison = mark m.Less
sample step_sign = mark m.PlusPlus
sample a_name = name []
sample a_literal = number 0 Int
sample the_if = word w.If
sample the_else = word w.Else
sample the_for = word w.For
sample the_while = word w.While
sample the_bounded = word w.Bounded
sample the_in = word w.In
sample the_out = word w.Out
sample the_return = word w.Return
sample the_void = word w.Void
sample the_range = word w.Range
sample the_predictable = word w.Predictable
sample the_region = word w.Region
sample the_int = word w.Int
sample the_short = word w.Short
sample the_signed = word w.Signed
sample the_char = word w.Char
sample the_unsigned = word w.Unsigned
sample minus_minus = mark m.MinusMinus
sample minus_equal = mark m.MinusEqual
sample the_end = end_of_text

sample_fits : (s : Slot) → fits s (sample s) ≡ true
sample_fits left_parenthesis = refl
sample_fits _ = refl

abbrev pub samples : List Slot → List Seen
samples [] = []
samples (s ∷ slots) = (sample s, origin) ∷ samples slots

pub samples_fit : (slots : List Slot) → IsRow slots (samples slots)
samples_fit [] = tt
samples_fit (s ∷ slots) = (sample_fits s, samples_fit slots)

abbrev pub zero_phrase : Phrase
zero_phrase = of_literal origin 0 Int

pub zero_short : (least : ℕ) → least ≤ 11 → IsExpression least zero_phrase
zero_short least le = (omega (arith, le), tt)

abbrev pub empty_block : StatementPhrase
empty_block = of_block (samples (left_brace ∷ [])) no_phrases (samples (right_brace ∷ []))

empty_right : IsStatement empty_block
empty_right = ((refl, tt), tt, (refl, tt))

-- ---- what is open is closed

fill_around : (around : Around) (pre : List Seen) (s : StatementPhrase) → Opened around pre → IsStatement s → Begins (pre ++ written s)
fill_around _ _ s (body_opened ss all) right =
    record {
      more = [];
      phrases = with_phrase ss s;
      right = with_right ss s all right;
      spells = with_written ss s
          ∙ sym (append-nil (all_written ss ++ written s));
    }
fill_around _ _ s (block_opened head ss around pre row all opened) right =
    let close = samples (right_brace ∷ []) in
    let whole = fill_around around pre (of_block head (with_phrase ss s) (samples (right_brace ∷ []))) opened (row, with_right ss s all right, (refl, tt)) in
    let same : pre ++ (head ++ all_written (with_phrase ss s) ++ samples (right_brace ∷ [])) ≡ (pre ++ head ++ all_written ss) ++ written s ++ samples (right_brace ∷ []) =
    ap (λ (l : List Seen). pre ++ (head ++ l ++ samples (right_brace ∷ []))) (with_written ss s) ∙ simp append_assoc in
    begins_less _ (samples (right_brace ∷ [])) (begins_same _ _ same whole)
fill_around _ _ s (taken_opened head p close around pre row short shut opened) right =
    begins_same (pre ++ written (of_if head p close s)) _ (simp append_assoc) (fill_around around pre (of_if head p close s) opened (row, short, shut, right))
fill_around _ _ s (other_opened head p close taken middle around pre row short shut first before parts opened) right =
    begins_same (pre ++ written (of_else head p close taken middle s)) _ (simp append_assoc)
    (fill_around around pre (of_else head p close taken middle s) opened (row, short, shut, first, before, parts, right))
fill_around _ _ s (while_opened head p close around pre row short shut opened) right =
    begins_same (pre ++ written (of_while head p close s)) _ (simp append_assoc) (fill_around around pre (of_while head p close s) opened (row, short, shut, right))
fill_around _ _ s (for_opened head p bound q form step around pre row low parts high steps opened) right =
    begins_same (pre ++ written (of_for head p bound q form step s)) _ (simp append_assoc) (fill_around around pre (of_for head p bound q form step s) opened (row, low, parts, high, steps, right))

-- a statement whose first tokens are those so far
fill_with : (around : Around) (pre before rest : List Seen) (s : StatementPhrase) → Opened around pre → IsStatement s → written s ≡ before ++ rest → Begins (pre ++ before)
fill_with around pre before rest s opened right is =
    begins_less (pre ++ before) rest (begins_same (pre ++ written s) _ (ap (λ (l : List Seen). pre ++ l) is ∙ sym (append_assoc pre before rest)) (fill_around around pre s opened right))

-- ---- rows and expressions

abbrev pub one_step : List Seen
one_step = samples (step_slots by_one_step)

fill_sign : (head : List Seen) (p : Phrase) (bound : List Seen) (q : Phrase) (all : List Seen) (around : Around) (pre : List Seen) →
    IsRow for_head head → IsExpression 1 p → IsRow for_bound bound → IsExpression 8 q →
    IsRow (semicolon ∷ a_name ∷ step_sign ∷ []) all → Opened around pre → Begins (pre ++ (head ++ spelled p ++ bound ++ spelled q ++ all))
fill_sign head p bound q (t ∷ u ∷ v ∷ []) around pre row low parts high signs opened =
    let more = samples ((rest_of_step (t ∷ u ∷ v ∷ [])).0 ∷ (rest_of_step (t ∷ u ∷ v ∷ [])).1) in
    let f = sign_fits t u v (samples ((rest_of_step (t ∷ u ∷ v ∷ [])).0 ∷ (rest_of_step (t ∷ u ∷ v ∷ [])).1)) signs.0 signs.1.0 signs.1.1.0
    (samples_fit ((rest_of_step (t ∷ u ∷ v ∷ [])).0 ∷ (rest_of_step (t ∷ u ∷ v ∷ [])).1)) in
    fill_with around pre _ (samples ((rest_of_step (t ∷ u ∷ v ∷ [])).0 ∷ (rest_of_step (t ∷ u ∷ v ∷ [])).1) ++ written empty_block)
    (of_for head p bound q f.0 (t ∷ u ∷ v ∷ samples ((rest_of_step (t ∷ u ∷ v ∷ [])).0 ∷ (rest_of_step (t ∷ u ∷ v ∷ [])).1)) empty_block) opened
    (row, low, parts, high, f.1, empty_right) (simp append_assoc)
fill_sign head p bound q (t ∷ u ∷ v ∷ x ∷ rest) around pre row low parts high signs opened = absurd signs.1.1.1
fill_sign head p bound q (t ∷ u ∷ []) around pre row low parts high signs opened = absurd signs.1.1
fill_sign head p bound q (t ∷ []) around pre row low parts high signs opened = absurd signs.1
fill_sign head p bound q [] around pre row low parts high signs opened = absurd signs

fill_row : (row : Row) (before all : List Seen) (around : Around) (pre : List Seen) → RowIs row before all → Opened around pre → Begins (pre ++ (before ++ all))
fill_row _ _ _ around pre (if_is all row) opened =
    fill_with around pre _ (spelled zero_phrase ++ samples (right_parenthesis ∷ []) ++ written empty_block)
    (of_if all zero_phrase (samples (right_parenthesis ∷ [])) empty_block) opened (row, zero_short 1 (omega arith), (refl, tt), empty_right)
    (simp append_assoc)
fill_row _ _ _ around pre (out_is all row) opened =
    fill_with around pre _ (spelled zero_phrase ++ samples statement_tail) (of_output all zero_phrase (samples statement_tail)) opened
    (row, zero_short 1 (omega arith), (refl, (refl, tt))) (simp append_assoc)
fill_row _ _ _ around pre (while_is all row) opened =
    fill_with around pre _ (spelled zero_phrase ++ samples (right_parenthesis ∷ []) ++ written empty_block)
    (of_while all zero_phrase (samples (right_parenthesis ∷ [])) empty_block) opened (row, zero_short 1 (omega arith), (refl, tt), empty_right)
    (simp append_assoc)
fill_row _ _ _ around pre (for_is all row) opened =
    fill_with around pre _ (spelled zero_phrase ++ samples for_bound ++ spelled zero_phrase ++ one_step ++ written empty_block)
    (of_for all zero_phrase (samples for_bound) zero_phrase by_one_step one_step empty_block) opened
    (row, zero_short 1 (omega arith), samples_fit for_bound, zero_short 8 (omega arith), samples_fit (step_slots by_one_step), empty_right) (simp append_assoc)
fill_row _ _ _ around pre (bound_is head p all row short parts) opened =
    fill_with around pre _ (spelled zero_phrase ++ one_step ++ written empty_block) (of_for head p all zero_phrase by_one_step one_step empty_block)
    opened (row, short, parts, zero_short 8 (omega arith), samples_fit (step_slots by_one_step), empty_right) (simp append_assoc)
fill_row _ _ _ around pre (sign_is head p bound q all row low parts high signs) opened = fill_sign head p bound q all around pre row low parts high signs opened
fill_row _ _ _ around pre (step_is head p bound q form all row low parts high steps) opened =
    fill_with around pre _ (written empty_block) (of_for head p bound q form all empty_block) opened (row, low, parts, high, steps, empty_right) (simp append_assoc)
fill_row _ _ _ around pre (last_is s before all right closed is) opened = fill_with around pre _ [] s opened right (is ∙ sym (append-nil (before ++ all)))

fill_use : (u : Use) (before : List Seen) (p : Phrase) (around : Around) (pre : List Seen) → UseIs u before → IsExpression (least_of u) p → Opened around pre → Begins (pre ++ (before ++ spelled p))
fill_use _ _ p around pre (output_is head row) short opened =
    fill_with around pre _ (samples statement_tail) (of_output head p (samples statement_tail)) opened (row, short, samples_fit statement_tail) refl
fill_use _ _ p around pre (condition_is head row) short opened =
    fill_with around pre _ (samples (right_parenthesis ∷ []) ++ written empty_block) (of_if head p (samples (right_parenthesis ∷ [])) empty_block)
    opened (row, short, (refl, tt), empty_right) (simp append_assoc)
fill_use _ _ p around pre (turns_is head row) short opened =
    fill_with around pre _ (samples (right_parenthesis ∷ []) ++ written empty_block) (of_while head p (samples (right_parenthesis ∷ [])) empty_block)
    opened (row, short, (refl, tt), empty_right) (simp append_assoc)
fill_use _ _ p around pre (low_is head row) short opened =
    fill_with around pre _ (samples for_bound ++ spelled zero_phrase ++ one_step ++ written empty_block) (of_for head p (samples for_bound) zero_phrase by_one_step one_step empty_block) opened
    (row, short, samples_fit for_bound, zero_short 8 (omega arith), samples_fit (step_slots by_one_step), empty_right) (simp append_assoc)
fill_use _ _ q around pre (high_is head p bound row short parts) high opened =
    fill_with around pre _ (one_step ++ written empty_block) (of_for head p bound q by_one_step one_step empty_block) opened
    (row, short, parts, high, samples_fit (step_slots by_one_step), empty_right) (simp append_assoc)
fill_use _ _ p around pre (index_is at text a) short opened =
    fill_with around pre _ (samples (right_bracket ∷ []) ++ samples (plus_plus ∷ semicolon ∷ []))
    (of_count (to_element at text a p origin) up (samples (plus_plus ∷ semicolon ∷ []))) opened (short, (refl, (refl, tt))) (simp append_assoc)
fill_use _ _ p around pre (value_is g sign is row) short opened =
    fill_with around pre _ (samples (semicolon ∷ [])) (of_assign g sign p (samples (semicolon ∷ []))) opened (is, row, short, (refl, tt)) (simp append_assoc)
fill_use _ _ p around pre (change_is g direction sign is row) short opened =
    fill_with around pre _ (samples (semicolon ∷ [])) (of_change g direction sign p (samples (semicolon ∷ []))) opened (is, row, short, (refl, tt))
    (simp append_assoc)
fill_use _ _ p around pre (argument_is head before row all) short opened =
    fill_with around pre _ (samples statement_tail) (of_call head (arguments before p) (samples statement_tail)) opened (row, (all, short), samples_fit statement_tail) (simp append_assoc)
fill_use _ _ p around pre (argument_to_is head before row all) short opened =
    fill_with around pre _ (samples statement_tail) (of_call_to head (arguments before p) (samples statement_tail)) opened (row, (all, short), samples_fit statement_tail) (simp append_assoc)

pub small : (u : Use) → least_of u ≤ 11
small (for_high at first low second closed) = omega arith
small (for_output at) = omega arith
small _ = omega arith

pub fill_point : (p : Point) (pre : List Seen) → StandsAt p pre → Begins pre
fill_point _ _ (at_between around pre opened) = fill_with_nothing around pre opened
  where
    fill_with_nothing : (around : Around) (pre : List Seen) → Opened around pre → Begins pre
    fill_with_nothing around pre opened = begins_less pre (written empty_block) (fill_around around pre empty_block opened empty_right)
fill_point _ _ (at_else head p close taken around pre row short shut right closed opened) =
    begins_same (pre ++ written (of_if head p close taken)) _ (simp append_assoc) (fill_around around pre (of_if head p close taken) opened (row, short, shut, right))
fill_point _ _ (at_row row before got wanted later around pre opened is) =
    let more = samples (wanted ∷ later) in
    let whole = fill_row row before (got ++ samples (wanted ∷ later)) around pre (is (samples (wanted ∷ later)) (samples_fit (wanted ∷ later))) opened in
    begins_less _ (samples (wanted ∷ later)) (begins_same _ (pre ++ before ++ got ++ samples (wanted ∷ later)) (simp append_assoc) whole)
fill_point _ _ (at_expression u s room before mid around pre opened is stands) =
    let w = begins_expression (least_of u) s mid (small u) stands in
    let whole = fill_use u before w.phrase around pre is (w.levels, w.binds) opened in
    let same : pre ++ (before ++ spelled w.phrase) ≡ pre ++ before ++ mid ++ w.rest = ap (λ (l : List Seen). pre ++ (before ++ l)) w.spells ∙ simp append_assoc in
    begins_less _ w.rest (begins_same _ _ same whole)
fill_point _ _ (at_name at text around pre opened) =
    fill_with around pre _ (samples (plus_plus ∷ semicolon ∷ [])) (of_count (to_name at text) up (samples (plus_plus ∷ semicolon ∷ []))) opened (tt, (refl, (refl, tt))) refl
fill_point _ _ (at_element at text a index b around pre short opened) =
    fill_with around pre _ (samples (plus_plus ∷ semicolon ∷ [])) (of_count (to_element at text a index b) up (samples (plus_plus ∷ semicolon ∷ []))) opened (short, (refl, (refl, tt))) refl
