-- Each token that the reader of statements takes is spelled, and behind a body the body is.
use Rattle.std.proofs.Common.{◌≡◌, ◌≤◌, ◌-◌, ℕ, List, [], ◌∷◌, ◌++◌, Option, None, Some, true, false, refl, ap, sym, subst, ◌∙◌, append_assoc, arith}
use Rattle.prem_text.proofs.Prelude.{Text, Expression, Statement, input, Place, bottom, State, wants, Move, goes, ends, stops, move, Phrase, spelled, tree, IsExpression, IsRow, name_at}
use Rattle.prem_text.proofs.Prelude.{name_or_none, Slot, left_parenthesis, right_parenthesis, semicolon, comma, equal_sign, comparison, step_sign, a_name, a_literal, the_while, fits}
use Rattle.prem_text.proofs.Prelude.{text_at, place_at, is_left_parenthesis, is_else, is_in, is_comma, is_right_brace, Around, in_for, Use, for_output, for_if, for_while, for_low, for_high}
use Rattle.prem_text.proofs.Prelude.{for_index, for_value, for_change, for_argument, Row, if_row, out_row, while_row, for_row, bound_row, sign_row, step_row, last_row, Point, between}
use Rattle.prem_text.proofs.Prelude.{filling, inside, on, wrong, expression, least_of, statement, begins_statement, without, next, else_or, rest_of_step, step_in, fourth_in, looped}
use Rattle.prem_text.proofs.Prelude.{is_at_most, filled, filled_or, change, behind_name, used, is_start, at_start, lone_name, called, turn, StepForm, by_one_step, added_step, summed_step}
use Rattle.prem_text.proofs.Prelude.{step_slots, step_size, fourth_name, Target, to_name, to_element, target_tokens, target_at, target_text, target_index, IsTarget, up, down, Parted}
use Rattle.prem_text.proofs.Prelude.{AreParted, parted_tokens, parted_trees, no_arguments, arguments, StatementPhrase, of_block, of_if, of_output, of_call, of_input, of_call_to, of_assign}
use Rattle.prem_text.proofs.Prelude.{of_change, of_count, no_phrases, if_head, for_head, for_bound, IsStatement, ends_open, written, meant, Lexeme, name, number, word, mark, end_of_text}
use Rattle.prem_text.proofs.Prelude.{Seen, append-nil}
use Rattle.prem_text.proofs.GrammarLemmas.Sound.{at_bottom, at_prefix, at_infix, at_bracket, at_index, StandsIn, wanting, naming, having, Fine, move_fine}
use Rattle.prem_text.proofs.GrammarLemmas.Stand.{Opened, body_opened, block_opened, taken_opened, other_opened, while_opened, for_opened, header_of, RowIs, if_is, out_is, while_is, for_is}
use Rattle.prem_text.proofs.GrammarLemmas.Stand.{bound_is, sign_is, step_is, last_is, UseIs, output_is, condition_is, turns_is, low_is, high_is, index_is, value_is, change_is, argument_is}
use Rattle.prem_text.proofs.GrammarLemmas.Stand.{argument_to_is, StandsAt, at_between, at_else, at_row, at_expression, at_name, at_element, FineTurn, stands_same, if_fine, ended_stands}
use Rattle.prem_text.proofs.GrammarLemmas.Stand.{opened_same, settled_opened}
use Rattle.std.specs.Prelude.{if◌then◌else◌}
use Rattle.prem_text.specs.declared.lexing.token.token.Mark.TheVariants as m
use Rattle.prem_text.specs.declared.lexing.token.token.Word.TheVariants as w

begins : (least : ℕ) → StandsIn least (wants bottom) []
begins least = wanting bottom [] at_bottom

-- an expression is begun
expression_begins : (u : Use) (before : List Seen) (around : Around) (pre : List Seen) → Opened around pre → UseIs u before → StandsAt (inside u (wants bottom) 257 around) (pre ++ before)
expression_begins u before around pre opened is = stands_same _ (pre ++ before ++ []) _ (simp append-nil) (at_expression u (wants bottom) 257 before [] around pre opened is (begins (least_of u)))

-- ---- rows

-- a row begins at the first token of a statement
row_begins : (row : Row) (t : Seen) (wanted : Slot) (later : List Slot) (around : Around) (pre : List Seen) → Opened around pre →
    ((more : List Seen) → IsRow (wanted ∷ later) more → RowIs row [] (t ∷ more)) →
    StandsAt (filling row (t ∷ []) wanted later around) (pre ++ t ∷ [])
row_begins row t wanted later around pre opened is = stands_same _ (pre ++ [] ++ t ∷ []) _ (simp append-nil) (at_row row [] (t ∷ []) wanted later around pre opened is)

-- the rest of a statement that is known
finish_stands : (s : (more : List Seen) → StatementPhrase) (meaning : Statement) (before : List Seen) (t : Seen) (wanted : Slot) (later : List Slot)
    (around : Around) (pre : List Seen) → Opened around pre →
    ((more : List Seen) → meant (s more) ≡ meaning) →
    ((more : List Seen) → IsRow (wanted ∷ later) more → IsStatement (s more) × (ends_open (s more) ≡ false) × (written (s more) ≡ before ++ t ∷ more)) →
    StandsAt (filling (last_row meaning) (t ∷ []) wanted later around) (pre ++ before ++ t ∷ [])
finish_stands s meaning before t wanted later around pre opened same is =
    at_row (last_row meaning) before (t ∷ []) wanted later around pre opened
    (λ more row. let h = is more row in subst (λ (x : Statement). RowIs (last_row x) before (t ∷ more)) (same more) (last_is (s more) before (t ∷ more) h.0 h.1 h.2))

for_filled : (all : List Seen) (o : Option Text) (around : Around) (pre now : List Seen) → text_at 2 all ≡ o → IsRow for_head all → Opened around pre →
    FineTurn now (pre ++ all) (elim o [ Some first ↦ expression (for_low (place_at 0 all) first) around | None ↦ wrong ])
for_filled all None around pre now is row opened = tt
for_filled all (Some first) around pre now is row opened =
    expression_begins _ all around pre opened (subst (λ (x : Text). UseIs (for_low (place_at 0 all) x) all) (ap name_or_none is) (low_is all row))

bound_filled : (head : List Seen) (p : Phrase) (all : List Seen) (o : Option Text) (around : Around) (pre now : List Seen) → text_at 1 all ≡ o →
    IsRow for_head head → IsExpression 1 p → IsRow for_bound all → Opened around pre →
    FineTurn now (pre ++ (head ++ spelled p) ++ all) (elim o [ Some second ↦ expression (for_high (place_at 0 head) (name_at 2 head) (tree p) second (is_at_most all)) around | None ↦ wrong ])
bound_filled head p all None around pre now is row short parts opened = tt
bound_filled head p all (Some second) around pre now is row short parts opened =
    stands_same _ (pre ++ (head ++ spelled p ++ all)) _ (simp append_assoc)
    (expression_begins _ (head ++ spelled p ++ all) around pre opened
    (subst (λ (x : Text). UseIs (for_high (place_at 0 head) (name_at 2 head) (tree p) x (is_at_most all)) (head ++ spelled p ++ all)) (ap name_or_none is) (high_is head p all row short parts)))

-- behind the sign of a step its form is known
pub sign_fits : (t u v : Seen) (more : List Seen) → fits semicolon t.0 ≡ true → fits a_name u.0 ≡ true → fits step_sign v.0 ≡ true →
    IsRow ((rest_of_step (t ∷ u ∷ v ∷ [])).0 ∷ (rest_of_step (t ∷ u ∷ v ∷ [])).1) more → (form : StepForm) × IsRow (step_slots form) (t ∷ u ∷ v ∷ more)
sign_fits t u (mark m.PlusPlus, at) more a b c row = (by_one_step, (a, (b, (refl, row))))
sign_fits t u (mark m.PlusEqual, at) more a b c row = (added_step, (a, (b, (refl, row))))
sign_fits t u (mark m.Equal, at) more a b c row = (summed_step, (a, (b, (refl, row))))
sign_fits t u (mark _, at) more a b c row = absurd cc
sign_fits t u (_, at) more a b c row = absurd cc

-- the tree of a step is read from its row as the grammar reads it
step_filled : (head : List Seen) (p : Phrase) (bound : List Seen) (q : Phrase) (form : StepForm) (all : List Seen) (o : Option Text) (o' : Option Text) (around : Around) (pre now : List Seen) →
    text_at 1 all ≡ o → fourth_in all ≡ o' → name_or_none (fourth_in all) ≡ fourth_name form all → step_in all ≡ step_size form all →
    IsRow for_head head → IsExpression 1 p → IsRow for_bound bound → IsExpression 8 q → IsRow (step_slots form) all → Opened around pre →
    FineTurn now (pre ++ (head ++ spelled p ++ bound ++ spelled q) ++ all) (elim o [
      | Some third ↦ elim o' [ Some fourth ↦ on (between (looped (header_of head p bound q) all third fourth around)) | None ↦ wrong ]
      | None ↦ wrong
    ])
step_filled head p bound q form all None o' around pre now is is' same size row low parts high steps opened = tt
step_filled head p bound q form all (Some third) None around pre now is is' same size row low parts high steps opened = tt
step_filled head p bound q form all (Some third) (Some fourth) around pre now is is' same size row low parts high steps opened =
    let third_is : name_at 1 all ≡ third = ap name_or_none is in
    let fourth_is : fourth_name form all ≡ fourth = sym same ∙ ap name_or_none is' in
    let whole = for_opened head p bound q form all around pre row low parts high steps opened in
    let named = subst (λ (x : Text). Opened
    (in_for (place_at 0 head) record { first = name_at 2 head; second = name_at 1 bound; third = x; fourth = fourth_name form all } (tree p)
    (is_at_most bound) (tree q) (step_size form all) around) (pre ++ head ++ spelled p ++ bound ++ spelled q ++ all)) third_is whole in
    let both = subst (λ (x : Text). Opened
    (in_for (place_at 0 head) record { first = name_at 2 head; second = name_at 1 bound; third = third; fourth = x } (tree p) (is_at_most bound)
    (tree q) (step_size form all) around) (pre ++ head ++ spelled p ++ bound ++ spelled q ++ all)) fourth_is named in
    let sized = subst (λ (n : ℕ). Opened
    (in_for (place_at 0 head) record { first = name_at 2 head; second = name_at 1 bound; third = third; fourth = fourth } (tree p)
    (is_at_most bound) (tree q) n around) (pre ++ head ++ spelled p ++ bound ++ spelled q ++ all)) (sym size) both in
    stands_same _ (pre ++ head ++ spelled p ++ bound ++ spelled q ++ all) _ (simp append_assoc) (at_between _ _ sized)

-- a step's row has the forms that its sign tells
fourth_same : (form : StepForm) (all : List Seen) → IsRow (step_slots form) all → name_or_none (fourth_in all) ≡ fourth_name form all
fourth_same by_one_step (t ∷ u ∷ (mark m.PlusPlus, at) ∷ rest) row = refl
fourth_same by_one_step (t ∷ u ∷ (mark _, at) ∷ rest) row = absurd cc
fourth_same by_one_step (t ∷ u ∷ (_, at) ∷ rest) row = absurd cc
fourth_same by_one_step (t ∷ u ∷ []) row = absurd row.1.1
fourth_same by_one_step (t ∷ []) row = absurd row.1
fourth_same by_one_step [] row = absurd row
fourth_same added_step (t ∷ u ∷ (mark m.PlusEqual, at) ∷ rest) row = refl
fourth_same added_step (t ∷ u ∷ (mark _, at) ∷ rest) row = absurd cc
fourth_same added_step (t ∷ u ∷ (_, at) ∷ rest) row = absurd cc
fourth_same added_step (t ∷ u ∷ []) row = absurd row.1.1
fourth_same added_step (t ∷ []) row = absurd row.1
fourth_same added_step [] row = absurd row
fourth_same summed_step (t ∷ u ∷ (mark m.Equal, at) ∷ rest) row = refl
fourth_same summed_step (t ∷ u ∷ (mark _, at) ∷ rest) row = absurd cc
fourth_same summed_step (t ∷ u ∷ (_, at) ∷ rest) row = absurd cc
fourth_same summed_step (t ∷ u ∷ []) row = absurd row.1.1
fourth_same summed_step (t ∷ []) row = absurd row.1
fourth_same summed_step [] row = absurd row

pub size_same : (form : StepForm) (all : List Seen) → IsRow (step_slots form) all → step_in all ≡ step_size form all
size_same by_one_step (t ∷ u ∷ (mark m.PlusPlus, at) ∷ rest) row = refl
size_same by_one_step (t ∷ u ∷ (mark _, at) ∷ rest) row = absurd cc
size_same by_one_step (t ∷ u ∷ (_, at) ∷ rest) row = absurd cc
size_same by_one_step (t ∷ u ∷ []) row = absurd row.1.1
size_same by_one_step (t ∷ []) row = absurd row.1
size_same by_one_step [] row = absurd row
size_same added_step (t ∷ u ∷ (mark m.PlusEqual, at) ∷ rest) row = refl
size_same added_step (t ∷ u ∷ (mark _, at) ∷ rest) row = absurd cc
size_same added_step (t ∷ u ∷ (_, at) ∷ rest) row = absurd cc
size_same added_step (t ∷ u ∷ []) row = absurd row.1.1
size_same added_step (t ∷ []) row = absurd row.1
size_same added_step [] row = absurd row
size_same summed_step (t ∷ u ∷ (mark m.Equal, at) ∷ rest) row = refl
size_same summed_step (t ∷ u ∷ (mark _, at) ∷ rest) row = absurd cc
size_same summed_step (t ∷ u ∷ (_, at) ∷ rest) row = absurd cc
size_same summed_step (t ∷ u ∷ []) row = absurd row.1.1
size_same summed_step (t ∷ []) row = absurd row.1
size_same summed_step [] row = absurd row

sign_stands : (head : List Seen) (p : Phrase) (bound : List Seen) (q : Phrase) (all : List Seen) (around : Around) (pre : List Seen) →
    IsRow for_head head → IsExpression 1 p → IsRow for_bound bound → IsExpression 8 q →
    IsRow (semicolon ∷ a_name ∷ step_sign ∷ []) all → Opened around pre →
    StandsAt (filling (step_row (header_of head p bound q)) all (rest_of_step all).0 (rest_of_step all).1 around) (pre ++ (head ++ spelled p ++ bound ++ spelled q) ++ all)
sign_stands head p bound q (t ∷ u ∷ v ∷ []) around pre row low parts high signs opened =
    at_row (step_row (header_of head p bound q)) (head ++ spelled p ++ bound ++ spelled q) (t ∷ u ∷ v ∷ []) _ _ around pre opened
    (λ more rest. let f = sign_fits t u v more signs.0 signs.1.0 signs.1.1.0 rest in step_is head p bound q f.0 (t ∷ u ∷ v ∷ more) row low parts high f.1)
sign_stands head p bound q (t ∷ u ∷ v ∷ x ∷ rest) around pre row low parts high signs opened = absurd signs.1.1.1
sign_stands head p bound q (t ∷ u ∷ []) around pre row low parts high signs opened = absurd signs.1.1
sign_stands head p bound q (t ∷ []) around pre row low parts high signs opened = absurd signs.1
sign_stands head p bound q [] around pre row low parts high signs opened = absurd signs

filled_fine : (row : Row) (before all : List Seen) (around : Around) (pre now : List Seen) → RowIs row before all → Opened around pre → FineTurn now (pre ++ before ++ all) (filled row all around)
filled_fine _ _ _ around pre now (if_is all row) opened = stands_same _ (pre ++ all) _ (simp append-nil) (expression_begins _ all around pre opened (condition_is all row))
filled_fine _ _ _ around pre now (out_is all row) opened = stands_same _ (pre ++ all) _ (simp append-nil) (expression_begins _ all around pre opened (output_is all row))
filled_fine _ _ _ around pre now (while_is all row) opened = stands_same _ (pre ++ all) _ (simp append-nil) (expression_begins _ all around pre opened (turns_is all row))
filled_fine _ _ _ around pre now (for_is all row) opened =
    let same : pre ++ all ≡ pre ++ [] ++ all = simp append-nil in
    subst (λ (ts : List Seen). FineTurn now ts (filled for_row all around)) same (for_filled all (text_at 2 all) around pre now refl row opened)
filled_fine _ _ _ around pre now (bound_is head p all row short parts) opened = bound_filled head p all (text_at 1 all) around pre now refl row short parts opened
filled_fine _ _ _ around pre now (sign_is head p bound q all row low parts high signs) opened = sign_stands head p bound q all around pre row low parts high signs opened
filled_fine _ _ _ around pre now (step_is head p bound q form all row low parts high steps) opened =
    step_filled head p bound q form all (text_at 1 all) (fourth_in all) around pre now refl refl (fourth_same form all steps) (size_same form all steps) row low parts high steps opened
filled_fine _ _ _ around pre now (last_is s before all right closed is) opened =
    stands_same _ (pre ++ written s) _ (ap (λ (ts : List Seen). pre ++ ts) is ∙ simp append_assoc) (ended_stands around pre s opened right closed)

-- ---- the first token of a statement

statement_fine : (around : Around) (pre : List Seen) (x : Lexeme) (at : Place) → Opened around pre → FineTurn pre (pre ++ (x, at) ∷ []) (statement around (x, at) x)
statement_fine around pre (mark m.OpenBrace) at opened =
    stands_same _ (pre ++ ((mark m.OpenBrace, at) ∷ []) ++ []) _ (simp append-nil) (at_between _ _ (block_opened ((mark m.OpenBrace, at) ∷ []) no_phrases around pre (refl, tt) tt opened))
statement_fine around pre (mark _) at opened = tt
statement_fine around pre (word w.If) at opened = row_begins if_row (word w.If, at) left_parenthesis [] around pre opened (λ more row. if_is ((word w.If, at) ∷ more) (refl, row))
statement_fine around pre (word w.Out) at opened = row_begins out_row (word w.Out, at) left_parenthesis [] around pre opened (λ more row. out_is ((word w.Out, at) ∷ more) (refl, row))
statement_fine around pre (word w.Bounded) at opened =
    row_begins while_row (word w.Bounded, at) left_parenthesis (a_literal ∷ right_parenthesis ∷ the_while ∷ left_parenthesis ∷ []) around pre opened
    (λ more row. while_is ((word w.Bounded, at) ∷ more) (refl, row))
statement_fine around pre (word w.For) at opened =
    row_begins for_row (word w.For, at) left_parenthesis (a_name ∷ equal_sign ∷ []) around pre opened (λ more row. for_is ((word w.For, at) ∷ more) (refl, row))
statement_fine around pre (word _) at opened = tt
statement_fine around pre (name x) at opened = at_name at x around pre opened
statement_fine around pre (number v k) at opened = tt
statement_fine around pre end_of_text at opened = tt

without_fine : (around : Around) (pre : List Seen) (t : Seen) → Opened around pre → FineTurn pre (pre ++ t ∷ []) (without around t)
without_fine _ _ t (body_opened ss all) = (ss, all, refl, refl)
without_fine _ _ t (block_opened head ss around pre row all opened) =
    if_fine _ _ (is_right_brace t.0) _ wrong
    (λ h. stands_same _ (pre ++ written (of_block head ss (t ∷ []))) _ (simp append_assoc) (ended_stands around pre (of_block head ss (t ∷ [])) opened (row, all, (h, tt)) refl)) (λ _. tt)
without_fine _ _ t (taken_opened head p close around pre row short shut opened) = tt
without_fine _ _ t (other_opened head p close taken middle around pre row short shut first before parts opened) = tt
without_fine _ _ t (while_opened head p close around pre row short shut opened) = tt
without_fine _ _ t (for_opened head p bound q form step around pre row low parts high steps opened) = tt

next_fine : (around : Around) (pre : List Seen) (t : Seen) → Opened around pre → FineTurn pre (pre ++ t ∷ []) (next around t)
next_fine around pre t opened =
    if_fine _ _ (begins_statement t.0) _ _ (λ h. statement_fine around pre t.0 t.1 opened) (λ h. without_fine around pre t opened)

-- ---- behind a name

change_fine : (g : Target) (around : Around) (pre x : List Seen) (t : Lexeme) (at : Place) → IsTarget g → Opened around pre →
    FineTurn x (pre ++ target_tokens g ++ (t, at) ∷ []) (change (target_at g) (target_text g) (target_index g) around (t, at) t)
change_fine g around pre x (mark m.Equal) at is opened =
    stands_same _ (pre ++ (target_tokens g ++ (mark m.Equal, at) ∷ [])) _ (simp append_assoc) (expression_begins _ _ around pre opened (value_is g ((mark m.Equal, at) ∷ []) is (refl, tt)))
change_fine g around pre x (mark m.PlusEqual) at is opened =
    stands_same _ (pre ++ (target_tokens g ++ (mark m.PlusEqual, at) ∷ [])) _ (simp append_assoc) (expression_begins _ _ around pre opened (change_is g up ((mark m.PlusEqual, at) ∷ []) is (refl, tt)))
change_fine g around pre x (mark m.MinusEqual) at is opened =
    stands_same _ (pre ++ (target_tokens g ++ (mark m.MinusEqual, at) ∷ [])) _ (simp append_assoc)
    (expression_begins _ _ around pre opened (change_is g down ((mark m.MinusEqual, at) ∷ []) is (refl, tt)))
change_fine g around pre x (mark m.PlusPlus) at is opened =
    finish_stands (λ more. of_count g up ((mark m.PlusPlus, at) ∷ more)) _ (target_tokens g) (mark m.PlusPlus, at) semicolon [] around pre opened
    (λ more. refl) (λ more row. ((is, (refl, row)), refl, refl))
change_fine g around pre x (mark m.MinusMinus) at is opened =
    finish_stands (λ more. of_count g down ((mark m.MinusMinus, at) ∷ more)) _ (target_tokens g) (mark m.MinusMinus, at)
    semicolon [] around pre opened (λ more. refl) (λ more row. ((is, (refl, row)), refl, refl))
change_fine g around pre x (mark _) at is opened = tt
change_fine g around pre x _ at is opened = tt

behind_name_fine : (from : Place) (text : Text) (around : Around) (pre x : List Seen) (t : Lexeme) (at : Place) → Opened around pre →
    FineTurn x (pre ++ (name text, from) ∷ [] ++ (t, at) ∷ []) (behind_name from text around (t, at))
behind_name_fine from text around pre x (mark m.OpenParenthesis) at opened =
    stands_same _ (pre ++ ((name text, from) ∷ (mark m.OpenParenthesis, at) ∷ [] ++ [])) _ (simp append_assoc)
    (expression_begins _ _ around pre opened (argument_is ((name text, from) ∷ (mark m.OpenParenthesis, at) ∷ []) [] (refl, (refl, tt)) tt))
behind_name_fine from text around pre x (mark m.OpenBracket) at opened =
    stands_same _ (pre ++ (name text, from) ∷ (mark m.OpenBracket, at) ∷ []) _ (simp append_assoc) (expression_begins _ _ around pre opened (index_is from text at))
behind_name_fine from text around pre x (mark m.Equal) at opened = change_fine (to_name from text) around pre x (mark m.Equal) at tt opened
behind_name_fine from text around pre x (mark m.PlusEqual) at opened = change_fine (to_name from text) around pre x (mark m.PlusEqual) at tt opened
behind_name_fine from text around pre x (mark m.MinusEqual) at opened = change_fine (to_name from text) around pre x (mark m.MinusEqual) at tt opened
behind_name_fine from text around pre x (mark m.PlusPlus) at opened = change_fine (to_name from text) around pre x (mark m.PlusPlus) at tt opened
behind_name_fine from text around pre x (mark m.MinusMinus) at opened = change_fine (to_name from text) around pre x (mark m.MinusMinus) at tt opened
behind_name_fine from text around pre x (mark _) at opened = tt
behind_name_fine from text around pre x _ at opened = tt

-- ---- arguments

abbrev parted_of : Phrase → Seen → Parted
parted_of p t = (p, t ∷ [])

more_trees : (before : List Parted) (p : Phrase) (t : Seen) → parted_trees (before ++ parted_of p t ∷ []) ≡ parted_trees before ++ tree p ∷ []
more_trees [] p t = refl
more_trees (a ∷ rest) p t = ap (λ (l : List Expression). tree a.0 ∷ l) (more_trees rest p t)

more_tokens : (before : List Parted) (p : Phrase) (t : Seen) → parted_tokens (before ++ parted_of p t ∷ []) ≡ parted_tokens before ++ (spelled p ++ t ∷ [])
more_tokens [] p t = append-nil (spelled p ++ t ∷ [])
more_tokens (a ∷ rest) p t = ap (λ (l : List Seen). spelled a.0 ++ a.1 ++ l) (more_tokens rest p t) ∙ simp append_assoc

more_parted : (before : List Parted) (p : Phrase) (t : Seen) → AreParted before → IsExpression 1 p → IsRow (comma ∷ []) (t ∷ []) → AreParted (before ++ parted_of p t ∷ [])
more_parted [] p t all short row = (short, row, tt)
more_parted (a ∷ rest) p t all short row = (all.0, all.1, more_parted rest p t all.2 short row)

comma_stands : (target : Option Text) (from : Place) (callee : Text) (head : List Seen) (before : List Parted) (p : Phrase) (t : Seen) (around : Around) (pre : List Seen) → Opened around pre →
    UseIs (for_argument from target callee (parted_trees (before ++ parted_of p t ∷ []))) (head ++ parted_tokens (before ++ parted_of p t ∷ [])) →
    StandsAt (inside (for_argument from target callee (parted_trees before ++ tree p ∷ [])) (wants bottom) 257 around) (pre ++ (head ++ parted_tokens before) ++ spelled p ++ t ∷ [])
comma_stands target from callee head before p t around pre opened is =
    let same : pre ++ (head ++ parted_tokens (before ++ parted_of p t ∷ [])) ≡ pre ++ (head ++ parted_tokens before) ++ spelled p ++ t ∷ [] =
    ap (λ (l : List Seen). pre ++ (head ++ l)) (more_tokens before p t) ∙ simp append_assoc in
    subst (λ (l : List Expression). StandsAt (inside (for_argument from target callee l) (wants bottom) 257 around)
    (pre ++ (head ++ parted_tokens before) ++ spelled p ++ t ∷ [])) (more_trees before p t)
    (stands_same _ _ _ same (expression_begins _ _ around pre opened is))

-- ---- expressions

index_used : (from : Place) (text : Text) (a : Place) (p : Phrase) (around : Around) (pre x : List Seen) (t : Lexeme) (at : Place) → IsExpression 1 p → Opened around pre →
    FineTurn x (pre ++ ((name text, from) ∷ (mark m.OpenBracket, a) ∷ []) ++ spelled p ++ (t, at) ∷ []) (used (for_index from text) (tree p) around (t, at))
index_used from text a p around pre x (mark m.CloseBracket) at short opened =
    stands_same _ (pre ++ target_tokens (to_element from text a p at)) _ (simp append_assoc) (at_element from text a p at around pre short opened)
index_used from text a p around pre x (mark _) at short opened = tt
index_used from text a p around pre x _ at short opened = tt

used_fine : (u : Use) (before : List Seen) (p : Phrase) (around : Around) (pre x : List Seen) (t : Seen) → UseIs u before → IsExpression (least_of u) p → Opened around pre →
    FineTurn x (pre ++ before ++ spelled p ++ t ∷ []) (used u (tree p) around t)
used_fine _ _ p around pre x t (output_is head row) short opened =
    if_fine _ _ (fits right_parenthesis t.0) _ wrong
    (λ h. stands_same _ (pre ++ (head ++ spelled p) ++ t ∷ []) _ (simp append_assoc)
    (finish_stands (λ more. of_output head p (t ∷ more)) _ (head ++ spelled p) t semicolon [] around pre opened (λ more. refl) (λ more rest. ((row, short, (h, rest)), refl, refl)))) (λ _. tt)
used_fine _ _ p around pre x t (condition_is head row) short opened =
    if_fine _ _ (fits right_parenthesis t.0) _ wrong
    (λ h. stands_same _ (pre ++ head ++ spelled p ++ (t ∷ [])) _ refl (at_between _ _ (taken_opened head p (t ∷ []) around pre row short (h, tt) opened))) (λ _. tt)
used_fine _ _ p around pre x t (turns_is head row) short opened =
    if_fine _ _ (fits right_parenthesis t.0) _ wrong
    (λ h. stands_same _ (pre ++ head ++ spelled p ++ (t ∷ [])) _ refl (at_between _ _ (while_opened head p (t ∷ []) around pre row short (h, tt) opened))) (λ _. tt)
used_fine _ _ p around pre x t (low_is head row) short opened =
    if_fine _ _ (fits semicolon t.0) _ wrong
    (λ h. stands_same _ (pre ++ (head ++ spelled p) ++ t ∷ []) _ (simp append_assoc)
    (at_row (bound_row (place_at 0 head) (name_at 2 head) (tree p)) (head ++ spelled p) (t ∷ []) a_name (comparison ∷ []) around pre opened
    (λ more rest. bound_is head p (t ∷ more) row short (h, rest)))) (λ _. tt)
used_fine _ _ q around pre x t (high_is head p bound row short parts) high opened =
    if_fine _ _ (fits semicolon t.0) _ wrong
    (λ h. stands_same _ (pre ++ (head ++ spelled p ++ bound ++ spelled q) ++ t ∷ []) _ (simp append_assoc)
    (at_row (sign_row (header_of head p bound q)) (head ++ spelled p ++ bound ++ spelled q) (t ∷ []) a_name (step_sign ∷ []) around pre opened
    (λ more rest. sign_is head p bound q (t ∷ more) row short parts high (h, rest)))) (λ _. tt)
used_fine _ _ p around pre x t (index_is at text a) short opened = index_used at text a p around pre x t.0 t.1 short opened
used_fine _ _ p around pre x t (value_is g sign is row) short opened =
    if_fine _ _ (fits semicolon t.0) _ wrong
    (λ h. stands_same _ (pre ++ written (of_assign g sign p (t ∷ []))) _ (simp append_assoc) (ended_stands around pre (of_assign g sign p (t ∷ [])) opened (is, row, short, (h, tt)) refl)) (λ _. tt)
used_fine _ _ p around pre x t (change_is g direction sign is row) short opened =
    if_fine _ _ (fits semicolon t.0) _ wrong
    (λ h. stands_same _ (pre ++ written (of_change g direction sign p (t ∷ []))) _ (simp append_assoc)
    (ended_stands around pre (of_change g direction sign p (t ∷ [])) opened (is, row, short, (h, tt)) refl)) (λ _. tt)
used_fine _ _ p around pre x t (argument_is head before row all) short opened =
    if_fine _ _ (is_comma t.0) _ _
    (λ h. comma_stands None (place_at 0 head) (name_at 0 head) head before p t around pre opened (argument_is head (before ++ parted_of p t ∷ []) row (more_parted before p t all short (h, tt))))
    (λ _. if_fine _ _ (fits right_parenthesis t.0) _ wrong
    (λ h. stands_same _ (pre ++ (head ++ parted_tokens before ++ spelled p) ++ t ∷ []) _ (simp append_assoc)
    (finish_stands (λ more. of_call head (arguments before p) (t ∷ more)) _ (head ++ parted_tokens before ++ spelled p) t semicolon [] around pre opened (λ more. refl)
    (λ more rest. ((row, (all, short), (h, rest)), refl, simp append_assoc)))) (λ _. tt))
used_fine _ _ p around pre x t (argument_to_is head before row all) short opened =
    if_fine _ _ (is_comma t.0) _ _
    (λ h. comma_stands (Some (name_at 0 head)) (place_at 0 head) (name_at 2 head) head before p t around pre opened
    (argument_to_is head (before ++ parted_of p t ∷ []) row (more_parted before p t all short (h, tt))))
    (λ _. if_fine _ _ (fits right_parenthesis t.0) _ wrong
    (λ h. stands_same _ (pre ++ (head ++ parted_tokens before ++ spelled p) ++ t ∷ []) _ (simp append_assoc)
    (finish_stands (λ more. of_call_to head (arguments before p) (t ∷ more)) _ (head ++ parted_tokens before ++ spelled p) t semicolon [] around pre opened (λ more. refl)
    (λ more rest. ((row, (all, short), (h, rest)), refl, simp append_assoc)))) (λ _. tt))

called_fine : (u : Use) (s : State) (before mid : List Seen) (around : Around) (pre x : List Seen) (t : Seen) → is_left_parenthesis t.0 ≡ true →
    UseIs u before → StandsIn (least_of u) s mid → Opened around pre →
    FineTurn x (pre ++ before ++ mid ++ t ∷ []) (elim (lone_name s) [ Some callee ↦ called u callee around | None ↦ wrong ])
called_fine u _ before _ around pre x t h is (wanting o mid stands) opened = tt
called_fine u _ before _ around pre x t h is (having p o mid binds whole stands) opened = tt
called_fine u _ before _ around pre x t h is (naming at text _ _ (at_prefix a s o q mid i stands)) opened = tt
called_fine u _ before _ around pre x t h is (naming at text _ _ (at_infix l a s o q mid i b le lo stands)) opened = tt
called_fine u _ before _ around pre x t h is (naming at text _ _ (at_bracket a q mid stands)) opened = tt
called_fine u _ before _ around pre x t h is (naming at text _ _ (at_index a b c q mid stands)) opened = tt
called_fine _ _ _ _ around pre x t h (value_is (to_name from target) (s ∷ []) is row) (naming at text _ _ at_bottom) opened =
    stands_same _ (pre ++ ((name target, from) ∷ s ∷ (name text, at) ∷ t ∷ [] ++ [])) _ (simp append_assoc)
    (expression_begins _ _ around pre opened (argument_to_is ((name target, from) ∷ s ∷ (name text, at) ∷ t ∷ []) [] (refl, (row.0, (refl, (h, tt)))) tt))
called_fine _ _ _ _ around pre x t h (value_is (to_name from target) (s ∷ s' ∷ rest) is row) (naming at text _ _ at_bottom) opened = absurd row.1
called_fine _ _ _ _ around pre x t h (value_is (to_name from target) [] is row) (naming at text _ _ at_bottom) opened = absurd row
called_fine _ _ _ _ around pre x t h (value_is (to_element from target a index b) sign is row) (naming at text _ _ at_bottom) opened = tt
called_fine _ _ _ _ around pre x t h (output_is head row) (naming at text _ _ at_bottom) opened = tt
called_fine _ _ _ _ around pre x t h (condition_is head row) (naming at text _ _ at_bottom) opened = tt
called_fine _ _ _ _ around pre x t h (turns_is head row) (naming at text _ _ at_bottom) opened = tt
called_fine _ _ _ _ around pre x t h (low_is head row) (naming at text _ _ at_bottom) opened = tt
called_fine _ _ _ _ around pre x t h (high_is head p bound row short parts) (naming at text _ _ at_bottom) opened = tt
called_fine _ _ _ _ around pre x t h (index_is a b c) (naming at text _ _ at_bottom) opened = tt
called_fine _ _ _ _ around pre x t h (change_is g direction sign is row) (naming at text _ _ at_bottom) opened = tt
called_fine _ _ _ _ around pre x t h (argument_is head given row all) (naming at text _ _ at_bottom) opened = tt
called_fine _ _ _ _ around pre x t h (argument_to_is head given row all) (naming at text _ _ at_bottom) opened = tt

start_fine : (u : Use) (before : List Seen) (around : Around) (pre x : List Seen) (t : Seen) → UseIs u before → Opened around pre → FineTurn x (pre ++ before ++ t ∷ []) (at_start u around t)
start_fine _ _ around pre x t (value_is (to_name from target) (s ∷ []) is row) opened =
    if_fine _ _ (is_in t.0) _ wrong
    (λ h. finish_stands (λ more. of_input ((name target, from) ∷ s ∷ t ∷ more)) (input from target) ((name target, from) ∷ s ∷ []) t left_parenthesis
    (right_parenthesis ∷ semicolon ∷ []) around pre opened
    (λ more. refl) (λ more rest. ((refl, (row.0, (h, rest))), refl, refl))) (λ _. tt)
start_fine _ _ around pre x t (value_is (to_name from target) (s ∷ s' ∷ rest) is row) opened = absurd row.1
start_fine _ _ around pre x t (value_is (to_name from target) [] is row) opened = absurd row
start_fine _ _ around pre x t (value_is (to_element from target a index b) sign is row) opened = tt
start_fine _ _ around pre x t (argument_is head [] row all) opened =
    if_fine _ _ (fits right_parenthesis t.0) _ wrong
    (λ h. stands_same _ (pre ++ head ++ t ∷ []) _ (simp append-nil)
    (finish_stands (λ more. of_call head no_arguments (t ∷ more)) _ head t semicolon [] around pre opened (λ more. refl) (λ more rest. ((row, tt, (h, rest)), refl, simp append-nil)))) (λ _. tt)
start_fine _ _ around pre x t (argument_is head (a ∷ given) row all) opened = tt
start_fine _ _ around pre x t (argument_to_is head [] row all) opened =
    if_fine _ _ (fits right_parenthesis t.0) _ wrong
    (λ h. stands_same _ (pre ++ head ++ t ∷ []) _ (simp append-nil)
    (finish_stands (λ more. of_call_to head no_arguments (t ∷ more)) _ head t semicolon [] around pre opened (λ more. refl) (λ more rest. ((row, tt, (h, rest)), refl, simp append-nil)))) (λ _. tt)
start_fine _ _ around pre x t (argument_to_is head (a ∷ given) row all) opened = tt
start_fine _ _ around pre x t (output_is head row) opened = tt
start_fine _ _ around pre x t (condition_is head row) opened = tt
start_fine _ _ around pre x t (turns_is head row) opened = tt
start_fine _ _ around pre x t (low_is head row) opened = tt
start_fine _ _ around pre x t (high_is head p bound row short parts) opened = tt
start_fine _ _ around pre x t (index_is a b c) opened = tt
start_fine _ _ around pre x t (change_is g direction sign is row) opened = tt

stopped_fine : (u : Use) (s : State) (before mid : List Seen) (around : Around) (pre x : List Seen) (t : Seen) → UseIs u before → StandsIn (least_of u) s mid → Opened around pre →
    FineTurn x (pre ++ before ++ mid ++ t ∷ []) (if is_start s then at_start u around t else wrong)
stopped_fine u _ before _ around pre x t is (wanting _ _ at_bottom) opened =
    let same : pre ++ before ++ t ∷ [] ≡ pre ++ before ++ [] ++ t ∷ [] = simp append-nil in
    subst (λ (ts : List Seen). FineTurn x ts (at_start u around t)) same (start_fine u before around pre x t is opened)
stopped_fine u _ before _ around pre x t is (wanting _ _ (at_prefix a s o q mid i stands)) opened = tt
stopped_fine u _ before _ around pre x t is (wanting _ _ (at_infix l a s o q mid i b le lo stands)) opened = tt
stopped_fine u _ before _ around pre x t is (wanting _ _ (at_bracket a q mid stands)) opened = tt
stopped_fine u _ before _ around pre x t is (wanting _ _ (at_index a b c q mid stands)) opened = tt
stopped_fine u _ before _ around pre x t is (naming at text o mid stands) opened = tt
stopped_fine u _ before _ around pre x t is (having p o mid binds whole stands) opened = tt

moved_fine : (u : Use) (s : State) (room : ℕ) (before mid : List Seen) (around : Around) (pre : List Seen) (t : Seen) (m : Move) →
    Fine (least_of u) mid t m → UseIs u before → StandsIn (least_of u) s mid → Opened around pre →
    FineTurn (pre ++ before ++ mid) (pre ++ before ++ mid ++ t ∷ []) (elim m [
      | goes s' ↦ on (inside u s' (room - 1) around)
      | ends e ↦ if is_left_parenthesis t.0 then elim (lone_name s) [ Some callee ↦ called u callee around | None ↦ wrong ] else used u e around t
      | stops ↦ if is_start s then at_start u around t else wrong
    ])
unfolding Fine
moved_fine u s room before mid around pre t (goes s') fine is stands opened =
    stands_same _ (pre ++ before ++ (mid ++ t ∷ [])) _ (simp append_assoc) (at_expression u s' (room - 1) before (mid ++ t ∷ []) around pre opened is fine)
moved_fine u s room before mid around pre t (ends e) fine is stands opened =
    if_fine _ _ (is_left_parenthesis t.0) _ _ (λ h. called_fine u s before mid around pre _ t h is stands opened)
    (λ h.
    subst (λ (ts : List Seen). FineTurn (pre ++ before ++ mid) (pre ++ before ++ ts ++ t ∷ []) (used u e around t)) fine.3
    (subst (λ (v : Expression). FineTurn (pre ++ before ++ mid) (pre ++ before ++ spelled fine.0 ++ t ∷ []) (used u v around t)) fine.4
    (used_fine u before fine.0 around pre _ t is (fine.1, fine.2) opened)))
moved_fine u s room before mid around pre t stops fine is stands opened = stopped_fine u s before mid around pre _ t is stands opened

least_small : (u : Use) → least_of u ≤ 11
least_small (for_high at first low second closed) = omega arith
least_small (for_output at) = omega arith
least_small (for_if at) = omega arith
least_small (for_while at turns) = omega arith
least_small (for_low at first) = omega arith
least_small (for_index at text) = omega arith
least_small (for_value at text index) = omega arith
least_small (for_change at text index op sign) = omega arith
least_small (for_argument at target callee before) = omega arith

-- ---- a token

else_fine : (head : List Seen) (p : Phrase) (close : List Seen) (taken : StatementPhrase) (around : Around) (pre : List Seen) (t : Seen) →
    IsRow if_head head → IsExpression 1 p → IsRow (right_parenthesis ∷ []) close →
    IsStatement taken → ends_open taken ≡ false → Opened around pre →
    FineTurn (pre ++ head ++ spelled p ++ close ++ written taken) (pre ++ head ++ spelled p ++ close ++ written taken ++ t ∷ []) (else_or (place_at 0 head) (tree p) (meant taken) around t)
else_fine head p close taken around pre t row short shut first before opened =
    if_fine _ _ (is_else t.0) _ _
    (λ h. at_between _ _ (other_opened head p close taken (t ∷ []) around pre row short shut first before (h, tt) opened))
    (λ h. next_fine _ _ t (opened_same _ (pre ++ written (of_if head p close taken)) _ (simp append_assoc) (settled_opened around pre (of_if head p close taken) opened (row, short, shut, first))))

row_fine : (row : Row) (before got : List Seen) (t : Seen) (wanted : Slot) (later : List Slot) (around : Around) (pre x : List Seen) → fits wanted t.0 ≡ true → Opened around pre →
    ((more : List Seen) → IsRow (wanted ∷ later) more → RowIs row before (got ++ more)) → FineTurn x (pre ++ before ++ got ++ t ∷ []) (filled_or row (got ++ t ∷ []) later around)
row_fine row before got t wanted [] around pre x h opened is =
    let same : pre ++ before ++ (got ++ t ∷ []) ≡ pre ++ before ++ got ++ t ∷ [] = simp append_assoc in
    subst (λ (ts : List Seen). FineTurn x ts (filled row (got ++ t ∷ []) around)) same (filled_fine row before (got ++ t ∷ []) around pre x (is (t ∷ []) (h, tt)) opened)
row_fine row before got t wanted (next' ∷ later) around pre x h opened is =
    stands_same _ (pre ++ before ++ (got ++ t ∷ [])) _ (simp append_assoc)
    (at_row row before (got ++ t ∷ []) next' later around pre opened
    (λ more rest. subst (λ (ts : List Seen). RowIs row before ts) (sym (append_assoc got (t ∷ []) more)) (is (t ∷ more) (h, rest))))

pub turn_fine : (p : Point) (pre : List Seen) (t : Seen) → StandsAt p pre → FineTurn pre (pre ++ t ∷ []) (turn p t)
turn_fine _ _ t (at_between around pre opened) = next_fine around pre t opened
turn_fine _ _ t (at_else head p close taken around pre row short shut first before opened) = else_fine head p close taken around pre t row short shut first before opened
turn_fine _ _ t (at_row row before got wanted later around pre opened is) =
    if_fine _ _ (fits wanted t.0) _ wrong (λ h. row_fine row before got t wanted later around pre _ h opened is) (λ _. tt)
turn_fine _ _ t (at_expression u s room before mid around pre opened is stands) =
    moved_fine u s room before mid around pre t (move (least_of u) s t) (move_fine (least_of u) s mid t (least_small u) stands) is stands opened
turn_fine _ _ t (at_name at text around pre opened) =
    let same : pre ++ (name text, at) ∷ [] ++ t ∷ [] ≡ pre ++ (name text, at) ∷ [] ++ t ∷ [] = refl in
    behind_name_fine at text around pre _ t.0 t.1 opened
turn_fine _ _ t (at_element at text a index b around pre short opened) = change_fine (to_element at text a index b) around pre _ t.0 t.1 short opened
