-- Whole statements are read as the grammar says, also where they are nested.
use Rattle.std.proofs.Common.{◌≡◌, ℕ, suc, List, [], ◌∷◌, ◌++◌, Option, None, Some, true, false, refl, ap, sym, subst, ◌∙◌, append_assoc}
use Rattle.prem_text.proofs.Prelude.{Text, Expression, Statement, output, call, Place, bottom, State, wants, has, Phrase, spelled, tree, level, IsExpression, IsRow, name_at, quiet, counted}
use Rattle.prem_text.proofs.Prelude.{opening, left_parenthesis, right_parenthesis, semicolon, comma, equal_sign, comparison, step_sign, a_name, a_literal, the_if, the_for, the_while}
use Rattle.prem_text.proofs.Prelude.{the_bounded, the_out, fits, text_at, value_at, place_at, is_comma, Around, in_taken, in_while, in_for, Use, for_output, for_if, for_while, for_low}
use Rattle.prem_text.proofs.Prelude.{for_high, for_argument, if_row, out_row, while_row, for_row, bound_row, sign_row, step_row, last_row, Point, between, filling, inside, on, wrong, ended}
use Rattle.prem_text.proofs.Prelude.{expression, least_of, finish, rest_of_step, fourth_in, looped, is_at_most, filled, used, turn, is_past, StepForm, by_one_step, added_step, summed_step}
use Rattle.prem_text.proofs.Prelude.{step_slots, step_size, fourth_name, Parted, AreParted, parted_tokens, parted_trees, parted_past, Arguments, no_arguments, arguments, AreArguments}
use Rattle.prem_text.proofs.Prelude.{argument_tokens, argument_trees, argument_past, of_output, if_head, for_head, for_bound, while_head, statement_tail, IsStatement, loop_names, Lexeme}
use Rattle.prem_text.proofs.Prelude.{mark, Seen, append-nil}
use Rattle.prem_text.proofs.GrammarLemmas.Stand.{header_of}
use Rattle.prem_text.proofs.GrammarLemmas.Steps.{Same}
use Rattle.prem_text.proofs.GrammarLemmas.Taken.{Turns, stay, go, turns_append, depth_of, ended_quiet, reads_inside, row_reads, behind_expression, one_behind, name_in_row}
use Rattle.prem_text.proofs.GrammarLemmas.Taken.{parenthesis_closes, semicolon_closes, comma_closes, no_comma, when_fits, text_some, first_if, first_out, first_bounded, first_for}
use Rattle.prem_text.proofs.GrammarLemmas.Taken.{head_reads, for_begins}
use Rattle.prem_text.proofs.GrammarLemmas.Turns.{size_same}
use Rattle.prem_text.specs.declared.lexing.token.token.Mark.TheVariants as m

-- ---- tails and headers

-- `) ;` behind the last expression of a statement
tail_reads : (u : Use) (p : Phrase) (around : Around) (end : State) (room : ℕ) (tail : List Seen) (s : Statement) → Same (least_of u) (level p) end (has (tree p) bottom) →
    ((t : Seen) → fits right_parenthesis t.0 ≡ true → used u (tree p) around t ≡ finish s t around) → IsRow statement_tail tail → Turns (inside u end room around) tail (quiet tail) (ended s around)
tail_reads u p around end room [] s same is fit = absurd fit
tail_reads u p around end room (t ∷ more') s same is fit =
    behind_expression u p around end room t more' (last_row s) semicolon [] (ended s around) (parenthesis_closes t.0 fit.0) same (is t fit.0) refl fit.1 refl (ended_quiet s around)

-- `)` behind the expression of a header
close_reads : (u : Use) (p : Phrase) (around : Around) (end : State) (room : ℕ) (close : List Seen) (next' : Point) → Same (least_of u) (level p) end (has (tree p) bottom) →
    ((t : Seen) → fits right_parenthesis t.0 ≡ true → used u (tree p) around t ≡ on next') → is_past next' ≡ false →
    IsRow (right_parenthesis ∷ []) close → Turns (inside u end room around) close (quiet close) next'
close_reads u p around end room [] next' same is flag fit = absurd fit
close_reads u p around end room (t ∷ []) next' same is flag fit = one_behind u p around end room t next' (parenthesis_closes t.0 fit.0) same (is t fit.0) flag
close_reads u p around end room (t ∷ v ∷ ts) next' same is flag fit = absurd fit.1

-- `;` behind the expression of an assignment
pub semicolon_reads : (u : Use) (p : Phrase) (around : Around) (end : State) (room : ℕ) (tail : List Seen) (next' : Point) → Same (least_of u) (level p) end (has (tree p) bottom) →
    ((t : Seen) → fits semicolon t.0 ≡ true → used u (tree p) around t ≡ on next') → is_past next' ≡ false → IsRow (semicolon ∷ []) tail → Turns (inside u end room around) tail (quiet tail) next'
semicolon_reads u p around end room [] next' same is flag fit = absurd fit
semicolon_reads u p around end room (t ∷ []) next' same is flag fit = one_behind u p around end room t next' (semicolon_closes t.0 fit.0) same (is t fit.0) flag
semicolon_reads u p around end room (t ∷ v ∷ ts) next' same is flag fit = absurd fit.1

pub output_reads : (head : List Seen) (p : Phrase) (tail : List Seen) (around : Around) → IsStatement (of_output head p tail) →
    Turns (between around) (head ++ spelled p ++ tail) (opening (suc (depth_of around)) head ++ counted 1 (spelled p) ++ quiet tail) (ended (output (place_at 0 head) (tree p)) around)
output_reads head p tail around right =
    let e = reads_inside (for_output (place_at 0 head)) p around right.1 in
    turns_append (turns_append (head_reads around out_row head the_out left_parenthesis [] _ right.0 (first_out around) (λ t. refl) refl refl) e.turns)
    (tail_reads (for_output (place_at 0 head)) p around e.end e.room tail (output (place_at 0 head) (tree p)) e.same (λ t h. when_fits right_parenthesis t _ h) right.2)

pub if_reads : (head : List Seen) (p : Phrase) (close : List Seen) (around : Around) → IsRow if_head head → IsExpression 1 p → IsRow (right_parenthesis ∷ []) close →
    Turns (between around) (head ++ spelled p ++ close) (opening (suc (depth_of around)) head ++ counted 1 (spelled p) ++ quiet close) (between (in_taken (place_at 0 head) (tree p) around))
if_reads head p close around row short shut =
    let e = reads_inside (for_if (place_at 0 head)) p around short in
    turns_append (turns_append (head_reads around if_row head the_if left_parenthesis [] _ row (first_if around) (λ t. refl) refl refl) e.turns)
    (close_reads (for_if (place_at 0 head)) p around e.end e.room close (between (in_taken (place_at 0 head) (tree p) around)) e.same (λ t h. when_fits right_parenthesis t _ h) refl shut)

pub while_reads : (head : List Seen) (p : Phrase) (close : List Seen) (around : Around) → IsRow while_head head → IsExpression 1 p → IsRow (right_parenthesis ∷ []) close →
    Turns (between around) (head ++ spelled p ++ close) (opening (suc (depth_of around)) head ++ counted 1 (spelled p) ++ quiet close)
    (between (in_while (place_at 0 head) (value_at 2 head) (tree p) around))
while_reads head p close around row short shut =
    let e = reads_inside (for_while (place_at 0 head) (value_at 2 head)) p around short in
    turns_append (turns_append (head_reads around while_row head the_bounded left_parenthesis
    (a_literal ∷ right_parenthesis ∷ the_while ∷ left_parenthesis ∷ []) _ row (first_bounded around) (λ t. refl) refl refl) e.turns)
    (close_reads (for_while (place_at 0 head) (value_at 2 head)) p around e.end e.room close
    (between (in_while (place_at 0 head) (value_at 2 head) (tree p) around)) e.same (λ t h. when_fits right_parenthesis t _ h) refl shut)

-- ---- `for`

-- the first three tokens of a step, and its end
pub record Split (all : List Seen) : Type 0 where
  t : Seen
  u : Seen
  v : Seen
  rest : List Seen
  is : all ≡ t ∷ u ∷ v ∷ rest
  first : fits semicolon t.0 ≡ true
  second : fits a_name u.0 ≡ true
  third : fits step_sign v.0 ≡ true
  fit : IsRow ((rest_of_step (t ∷ u ∷ v ∷ [])).0 ∷ (rest_of_step (t ∷ u ∷ v ∷ [])).1) rest

fourth_some : (form : StepForm) (all : List Seen) → IsRow (step_slots form) all → fourth_in all ≡ Some (fourth_name form all)
fourth_some by_one_step (t ∷ u ∷ (mark m.PlusPlus, at) ∷ rest) row = text_some u.0 row.1.0
fourth_some by_one_step (t ∷ u ∷ (mark _, at) ∷ rest) row = absurd cc
fourth_some by_one_step (t ∷ u ∷ (_, at) ∷ rest) row = absurd cc
fourth_some by_one_step (t ∷ u ∷ []) row = absurd row.1.1
fourth_some by_one_step (t ∷ []) row = absurd row.1
fourth_some by_one_step [] row = absurd row
fourth_some added_step (t ∷ u ∷ (mark m.PlusEqual, at) ∷ rest) row = text_some u.0 row.1.0
fourth_some added_step (t ∷ u ∷ (mark _, at) ∷ rest) row = absurd cc
fourth_some added_step (t ∷ u ∷ (_, at) ∷ rest) row = absurd cc
fourth_some added_step (t ∷ u ∷ []) row = absurd row.1.1
fourth_some added_step (t ∷ []) row = absurd row.1
fourth_some added_step [] row = absurd row
fourth_some summed_step (t ∷ u ∷ (mark m.Equal, at) ∷ rest) row = name_in_row 3 (step_slots summed_step) (t ∷ u ∷ (mark m.Equal, at) ∷ rest) refl row
fourth_some summed_step (t ∷ u ∷ (mark _, at) ∷ rest) row = absurd cc
fourth_some summed_step (t ∷ u ∷ (_, at) ∷ rest) row = absurd cc
fourth_some summed_step (t ∷ u ∷ []) row = absurd row.1.1
fourth_some summed_step (t ∷ []) row = absurd row.1
fourth_some summed_step [] row = absurd row

split_step : (form : StepForm) (all : List Seen) → IsRow (step_slots form) all → Split all
split_step by_one_step (t ∷ u ∷ (mark m.PlusPlus, at) ∷ rest) row =
    record { t = t; u = u; v = (mark m.PlusPlus, at); rest = rest; is = refl; first = row.0; second = row.1.0; third = refl; fit = row.1.1.1 }
split_step by_one_step (t ∷ u ∷ (mark _, at) ∷ rest) row = absurd cc
split_step by_one_step (t ∷ u ∷ (_, at) ∷ rest) row = absurd cc
split_step by_one_step (t ∷ u ∷ []) row = absurd row.1.1
split_step by_one_step (t ∷ []) row = absurd row.1
split_step by_one_step [] row = absurd row
split_step added_step (t ∷ u ∷ (mark m.PlusEqual, at) ∷ rest) row =
    record { t = t; u = u; v = (mark m.PlusEqual, at); rest = rest; is = refl; first = row.0; second = row.1.0; third = refl; fit = row.1.1.1 }
split_step added_step (t ∷ u ∷ (mark _, at) ∷ rest) row = absurd cc
split_step added_step (t ∷ u ∷ (_, at) ∷ rest) row = absurd cc
split_step added_step (t ∷ u ∷ []) row = absurd row.1.1
split_step added_step (t ∷ []) row = absurd row.1
split_step added_step [] row = absurd row
split_step summed_step (t ∷ u ∷ (mark m.Equal, at) ∷ rest) row = record { t = t; u = u; v = (mark m.Equal, at); rest = rest; is = refl; first = row.0; second = row.1.0; third = refl; fit = row.1.1.1 }
split_step summed_step (t ∷ u ∷ (mark _, at) ∷ rest) row = absurd cc
split_step summed_step (t ∷ u ∷ (_, at) ∷ rest) row = absurd cc
split_step summed_step (t ∷ u ∷ []) row = absurd row.1.1
split_step summed_step (t ∷ []) row = absurd row.1
split_step summed_step [] row = absurd row

third_some : (form : StepForm) (all : List Seen) → IsRow (step_slots form) all → text_at 1 all ≡ Some (name_at 1 all)
third_some by_one_step all row = name_in_row 1 (step_slots by_one_step) all refl row
third_some added_step all row = name_in_row 1 (step_slots added_step) all refl row
third_some summed_step all row = name_in_row 1 (step_slots summed_step) all refl row

step_ends : (head : List Seen) (p : Phrase) (bound : List Seen) (q : Phrase) (form : StepForm) (all : List Seen) (around : Around) → IsRow (step_slots form) all →
    filled (step_row (header_of head p bound q)) all around
    ≡ on (between (in_for (place_at 0 head) (loop_names head bound form all) (tree p) (is_at_most bound) (tree q) (step_size form all) around))
step_ends head p bound q form all around row =
    let named : filled (step_row (header_of head p bound q)) all around ≡ on (between (looped (header_of head p bound q) all (name_at 1 all) (fourth_name form all) around)) =
    ap (λ (o : Option Text). elim o [
      | Some third ↦ elim (fourth_in all) [ Some fourth ↦ on (between (looped (header_of head p bound q) all third fourth around)) | None ↦ wrong ]
      | None ↦ wrong
    ]) (third_some form all row)
    ∙ ap (λ (o : Option Text). elim o [ Some fourth ↦ on (between (looped (header_of head p bound q) all (name_at 1 all) fourth around)) | None ↦ wrong ]) (fourth_some form all row) in
    named ∙ ap (λ (n : ℕ). on (between (in_for (place_at 0 head) (loop_names head bound form all) (tree p) (is_at_most bound) (tree q) n around))) (size_same form all row)

step_reads : (head : List Seen) (p : Phrase) (bound : List Seen) (q : Phrase) (around : Around) (end : State) (room : ℕ) (all : List Seen) (next' : Point) →
    Same 8 (level q) end (has (tree q) bottom) → Split all → filled (step_row (header_of head p bound q)) all around ≡ on next' → is_past next' ≡ false →
    Turns (inside (for_high (place_at 0 head) (name_at 2 head) (tree p) (name_at 1 bound) (is_at_most bound)) end room around) all (quiet all) next'
step_reads head p bound q around end room all next' same s whole flag =
    let use_ = for_high (place_at 0 head) (name_at 2 head) (tree p) (name_at 1 bound) (is_at_most bound) in
    let signed : Turns (inside use_ end room around) (s.t ∷ s.u ∷ s.v ∷ []) (quiet (s.t ∷ s.u ∷ s.v ∷ []))
    (filling (step_row (header_of head p bound q)) (s.t ∷ s.u ∷ s.v ∷ []) (rest_of_step (s.t ∷ s.u ∷ s.v ∷ [])).0
    (rest_of_step (s.t ∷ s.u ∷ s.v ∷ [])).1 around) =
    behind_expression use_ q around end room s.t (s.u ∷ s.v ∷ []) (sign_row (header_of head p bound q)) a_name (step_sign ∷ []) _
    (semicolon_closes s.t.0 s.first) same (when_fits semicolon s.t _ s.first) refl (s.second, (s.third, tt)) refl refl in
    let ending = row_reads (step_row (header_of head p bound q)) s.t (s.u ∷ s.v ∷ []) _ _ around s.rest next' s.fit
    (ap (λ (l : List Seen). filled (step_row (header_of head p bound q)) l around) (sym s.is) ∙ whole) flag in
    subst (λ (l : List Seen). Turns (inside use_ end room around) l (quiet l) next') (sym s.is) (turns_append signed ending)

bound_reads : (head : List Seen) (p : Phrase) (around : Around) (end : State) (room : ℕ) (bound : List Seen) → Same 1 (level p) end (has (tree p) bottom) → IsRow for_bound bound →
    Turns (inside (for_low (place_at 0 head) (name_at 2 head)) end room around) bound (quiet bound)
    (inside (for_high (place_at 0 head) (name_at 2 head) (tree p) (name_at 1 bound) (is_at_most bound)) (wants bottom) 257 around)
bound_reads head p around end room [] same fit = absurd fit
bound_reads head p around end room (t ∷ more') same fit =
    behind_expression (for_low (place_at 0 head) (name_at 2 head)) p around end room t more' (bound_row (place_at 0 head) (name_at 2 head) (tree p))
    a_name (comparison ∷ []) _ (semicolon_closes t.0 fit.0) same
    (when_fits semicolon t _ fit.0) refl fit.1
    (ap (λ (o : Option Text). elim o
    [ Some second ↦ expression (for_high (place_at 0 head) (name_at 2 head) (tree p) second (is_at_most (t ∷ more'))) around | None ↦ wrong ])
    (name_in_row 1 for_bound (t ∷ more') refl fit)) refl

pub for_reads : (head : List Seen) (p : Phrase) (bound : List Seen) (q : Phrase) (form : StepForm) (step : List Seen) (around : Around) →
    IsRow for_head head → IsExpression 1 p → IsRow for_bound bound → IsExpression 8 q → IsRow (step_slots form) step →
    Turns (between around) (head ++ spelled p ++ bound ++ spelled q ++ step) (opening (suc (depth_of around)) head ++ counted 1 (spelled p) ++ quiet bound ++ counted 1 (spelled q) ++ quiet step)
    (between (in_for (place_at 0 head) (loop_names head bound form step) (tree p) (is_at_most bound) (tree q) (step_size form step) around))
for_reads head p bound q form step around row low parts high steps =
    let e = reads_inside (for_low (place_at 0 head) (name_at 2 head)) p around low in
    let f = reads_inside (for_high (place_at 0 head) (name_at 2 head) (tree p) (name_at 1 bound) (is_at_most bound)) q around high in
    turns_append (turns_append (turns_append
    (turns_append (head_reads around for_row head the_for left_parenthesis (a_name ∷ equal_sign ∷ []) _ row (first_for around) (λ t. refl)
    (for_begins head around row) refl) e.turns)
    (bound_reads head p around e.end e.room bound e.same parts)) f.turns)
    (step_reads head p bound q around f.end f.room step _ f.same (split_step form step steps) (step_ends head p bound q form step around steps) refl)

-- ---- calls

-- expressions that `,` parts
parted_reads : (from : Place) (target : Option Text) (callee : Text) (acc : List Expression) (before : List Parted) (around : Around) → AreParted before →
    Turns (inside (for_argument from target callee acc) (wants bottom) 257 around) (parted_tokens before) (parted_past before)
    (inside (for_argument from target callee (acc ++ parted_trees before)) (wants bottom) 257 around)
parted_reads from target callee acc [] around all =
    subst (λ (l : List Expression). Turns (inside (for_argument from target callee acc) (wants bottom) 257 around) [] []
    (inside (for_argument from target callee l) (wants bottom) 257 around)) (sym (append-nil acc)) (stay _)
parted_reads from target callee acc (a ∷ rest) around all =
    let e = reads_inside (for_argument from target callee acc) a.0 around all.0 in
    let later = parted_reads from target callee (acc ++ tree a.0 ∷ []) rest around all.2 in
    let moved = subst (λ (l : List Expression). Turns (inside (for_argument from target callee (acc ++ tree a.0 ∷ [])) (wants bottom) 257 around)
    (parted_tokens rest) (parted_past rest) (inside (for_argument from target callee l) (wants bottom) 257 around))
    (append_assoc acc (tree a.0 ∷ []) (parted_trees rest)) later in
    turns_append (turns_append e.turns (comma_reads from target callee acc a.0 e.end e.room a.1 around e.same all.1)) moved
  where
    comma_reads : (from : Place) (target : Option Text) (callee : Text) (acc : List Expression) (p : Phrase) (end : State) (room : ℕ)
        (parts : List Seen) (around : Around) → Same 1 (level p) end (has (tree p) bottom) → IsRow (comma ∷ []) parts →
        Turns (inside (for_argument from target callee acc) end room around) parts (quiet parts) (inside (for_argument from target callee (acc ++ tree p ∷ [])) (wants bottom) 257 around)
    comma_reads from target callee acc p end room [] around same fit = absurd fit
    comma_reads from target callee acc p end room (t ∷ []) around same fit =
        one_behind (for_argument from target callee acc) p around end room t _ (comma_closes t.0 fit.0) same (comma_used from target callee acc (tree p) around t fit.0) refl
      where
        comma_used : (from : Place) (target : Option Text) (callee : Text) (acc : List Expression) (e : Expression) (around : Around) (t : Seen) → is_comma t.0 ≡ true →
            used (for_argument from target callee acc) e around t ≡ on (inside (for_argument from target callee (acc ++ e ∷ [])) (wants bottom) 257 around)
        comma_used from target callee acc e around t h = rw h refl
    comma_reads from target callee acc p end room (t ∷ v ∷ ts) around same fit = absurd fit.1

nothing_used : (from : Place) (target : Option Text) (callee : Text) (around : Around) (x : Lexeme) (at : Place) → fits right_parenthesis x ≡ true →
    turn (inside (for_argument from target callee []) (wants bottom) 257 around) (x, at) ≡ finish (call from target callee []) (x, at) around
nothing_used from target callee around (mark m.CloseParenthesis) at h = refl
nothing_used from target callee around (mark _) at h = absurd cc
nothing_used from target callee around _ at h = absurd cc

last_used : (from : Place) (target : Option Text) (callee : Text) (acc : List Expression) (e : Expression) (around : Around) (t : Seen) → fits right_parenthesis t.0 ≡ true →
    used (for_argument from target callee acc) e around t ≡ finish (call from target callee (acc ++ e ∷ [])) t around
last_used from target callee acc e around t h = rw (no_comma t.0 h) (when_fits right_parenthesis t _ h)

pub arguments_read : (from : Place) (target : Option Text) (callee : Text) (given : Arguments) (tail : List Seen) (around : Around) → AreArguments given → IsRow statement_tail tail →
    Turns (inside (for_argument from target callee []) (wants bottom) 257 around) (argument_tokens given ++ tail) (argument_past given ++ quiet tail)
    (ended (call from target callee (argument_trees given)) around)
arguments_read from target callee no_arguments [] around all fit = absurd fit
arguments_read from target callee no_arguments (t ∷ more') around all fit =
    go _ (filling (last_row (call from target callee [])) (t ∷ []) semicolon [] around) _ t more' false _ (nothing_used from target callee around t.0 t.1 fit.0) refl
    (row_reads (last_row (call from target callee [])) t [] semicolon [] around more' _ fit.1 refl (ended_quiet (call from target callee []) around))
arguments_read from target callee (arguments before last) tail around all fit =
    let e = reads_inside (for_argument from target callee (parted_trees before)) last around all.1 in
    turns_append (turns_append (parted_reads from target callee [] before around all.0) e.turns)
    (tail_reads (for_argument from target callee (parted_trees before)) last around e.end e.room tail _ e.same (λ t h. last_used from target callee (parted_trees before) (tree last) around t h) fit)
