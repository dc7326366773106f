-- Statements in statements are read as the grammar says.
use Rattle.std.proofs.Common.{◌≡◌, suc, List, [], ◌∷◌, ◌++◌, None, Some, Bool, true, false, refl, sym, ◌∙◌}
use Rattle.prem_text.proofs.Prelude.{Text, Statement, if_else, bounded_while, counting_for, input, Place, bottom, wants, named, Phrase, spelled, tree, IsRow, name_at, name_or_none, opening}
use Rattle.prem_text.proofs.Prelude.{Slot, left_parenthesis, right_parenthesis, left_brace, semicolon, equal_sign, a_name, a_literal, the_if, the_for, the_while, the_bounded, the_in}
use Rattle.prem_text.proofs.Prelude.{the_out, fits, text_of, place_at, is_left_parenthesis, is_else, is_in, is_name, is_equal, Around, in_body, in_block, in_taken, in_other, in_while}
use Rattle.prem_text.proofs.Prelude.{in_for, for_index, for_value, for_change, for_argument, last_row, Point, between, inside, on_name, on_element, on, ended, settled, begin, next}
use Rattle.prem_text.proofs.Prelude.{behind_name, turn, by_one, Target, to_name, to_element, target_tokens, target_at, target_text, target_index, target_past, IsTarget, Direction, up, down}
use Rattle.prem_text.proofs.Prelude.{change_sign, change_op, count_sign, argument_tokens, StatementPhrase, of_block, of_if, of_else, of_for, of_while, of_output, of_call, of_input}
use Rattle.prem_text.proofs.Prelude.{of_call_to, of_assign, of_change, of_count, call_head, call_to_head, input_row, IsStatement, written, all_written, meant, past, Lexeme, name, number}
use Rattle.prem_text.proofs.Prelude.{word, mark, end_of_text, Seen}
use Rattle.prem_text.proofs.GrammarLemmas.Taken.{Turns, stay, go, turns_append, depth_of, ended_quiet, reads_inside, row_reads, one_behind, when_fits, first_name, nest_flag}
use Rattle.prem_text.proofs.GrammarLemmas.TakenWhole.{semicolon_reads}
use Rattle.prem_text.specs.declared.lexing.token.token.Mark.TheVariants as m
use Rattle.prem_text.specs.declared.lexing.token.token.Word.TheVariants as w

-- ---- behind a name

pub call_begins : (around : Around) (head : List Seen) → IsRow call_head head →
    Turns (between around) head (opening (suc (depth_of around)) head) (inside (for_argument (place_at 0 head) None (name_at 0 head) []) (wants bottom) 257 around)
call_begins around [] row = absurd row
call_begins around (t ∷ []) row = absurd row.1
call_begins around (t ∷ v ∷ x ∷ ts) row = absurd row.1.1
call_begins around (t ∷ v ∷ []) row =
    go _ (on_name t.1 (name_or_none (text_of t.0)) around) _ t _ _ _ (first_name around t.0 t.1 row.0) (nest_flag around)
    (go _ _ _ v [] false [] (opens t.1 (name_or_none (text_of t.0)) around v row.1.0) refl (stay _))
  where
    opens : (at : Place) (x : Text) (around : Around) (t : Seen) → is_left_parenthesis t.0 ≡ true → behind_name at x around t ≡ on (inside (for_argument at None x []) (wants bottom) 257 around)
    opens at x around t h = rw h refl

-- `name =`
equal_begins : (at : Place) (x : Text) (around : Around) (t : Lexeme) (from : Place) → is_equal t ≡ true →
    behind_name at x around (t, from) ≡ on (inside (for_value at x None) (wants bottom) 257 around)
equal_begins at x around (mark m.Equal) from h = refl
equal_begins at x around (mark _) from h = absurd cc
equal_begins at x around _ from h = absurd cc

name_inside : (at : Place) (x : Text) (around : Around) (t : Lexeme) (from : Place) → is_name t ≡ true →
    turn (inside (for_value at x None) (wants bottom) 257 around) (t, from) ≡ on (inside (for_value at x None) (named from (name_or_none (text_of t)) bottom) 256 around)
name_inside at x around (name y) from h = refl
name_inside at x around (number v k) from h = absurd cc
name_inside at x around (word y) from h = absurd cc
name_inside at x around (mark y) from h = absurd cc
name_inside at x around end_of_text from h = absurd cc

call_inside : (at : Place) (x : Text) (from : Place) (y : Text) (around : Around) (t : Lexeme) (b : Place) → is_left_parenthesis t ≡ true →
    turn (inside (for_value at x None) (named from y bottom) 256 around) (t, b) ≡ on (inside (for_argument at (Some x) y []) (wants bottom) 257 around)
call_inside at x from y around (mark m.OpenParenthesis) b h = refl
call_inside at x from y around (mark _) b h = absurd cc
call_inside at x from y around _ b h = absurd cc

pub call_to_begins : (around : Around) (head : List Seen) → IsRow call_to_head head →
    Turns (between around) head (opening (suc (depth_of around)) head) (inside (for_argument (place_at 0 head) (Some (name_at 0 head)) (name_at 2 head) []) (wants bottom) 257 around)
call_to_begins around [] row = absurd row
call_to_begins around (a ∷ []) row = absurd row.1
call_to_begins around (a ∷ b ∷ []) row = absurd row.1.1
call_to_begins around (a ∷ b ∷ c ∷ []) row = absurd row.1.1.1
call_to_begins around (a ∷ b ∷ c ∷ d ∷ e ∷ ts) row = absurd row.1.1.1.1
call_to_begins around (a ∷ b ∷ c ∷ d ∷ []) row =
    go _ (on_name a.1 (name_or_none (text_of a.0)) around) _ a _ _ _ (first_name around a.0 a.1 row.0) (nest_flag around)
    (go _ _ _ b _ false _ (equal_begins a.1 _ around b.0 b.1 row.1.0) refl
    (go _ _ _ c _ false _ (name_inside a.1 _ around c.0 c.1 row.1.1.0) refl (go _ _ _ d [] false [] (call_inside a.1 _ c.1 _ around d.0 d.1 row.1.1.1.0) refl (stay _))))

input_inside : (at : Place) (x : Text) (around : Around) (t : Lexeme) (b : Place) → is_in t ≡ true →
    turn (inside (for_value at x None) (wants bottom) 257 around) (t, b) ≡ begin (last_row (input at x)) (t, b) left_parenthesis (right_parenthesis ∷ semicolon ∷ []) around
input_inside at x around (word w.In) b h = refl
input_inside at x around (word _) b h = absurd cc
input_inside at x around _ b h = absurd cc

pub input_reads : (around : Around) (row : List Seen) → IsRow input_row row → Turns (between around) row (opening (suc (depth_of around)) row) (ended (input (place_at 0 row) (name_at 0 row)) around)
input_reads around [] row = absurd row
input_reads around (a ∷ []) row = absurd row.1
input_reads around (a ∷ b ∷ []) row = absurd row.1.1
input_reads around (a ∷ b ∷ c ∷ ts) row =
    go _ (on_name a.1 (name_or_none (text_of a.0)) around) _ a _ _ _ (first_name around a.0 a.1 row.0) (nest_flag around)
    (go _ _ _ b _ false _ (equal_begins a.1 _ around b.0 b.1 row.1.0) refl
    (go _ _ _ c _ false _ (input_inside a.1 _ around c.0 c.1 row.1.1.0) refl
    (row_reads (last_row (input a.1 (name_or_none (text_of a.0)))) c [] left_parenthesis (right_parenthesis ∷ semicolon ∷ [])
    around ts _ row.1.1.1 refl (ended_quiet (input a.1 (name_or_none (text_of a.0))) around))))

-- ---- assignments

abbrev pub target_point : Target → Around → Point
target_point (to_name at text) around = on_name at text around
target_point (to_element at text a index b) around = on_element at text (tree index) around

target_reads : (g : Target) (around : Around) → IsTarget g → Turns (between around) (target_tokens g) (target_past (suc (depth_of around)) g) (target_point g around)
target_reads (to_name at text) around is = go _ (on_name at text around) _ (name text, at) [] _ [] refl (nest_flag around) (stay _)
target_reads (to_element at text a index b) around is =
    let e = reads_inside (for_index at text) index around is in
    go _ (on_name at text around) _ (name text, at) _ _ _ refl (nest_flag around)
    (go _ (inside (for_index at text) (wants bottom) 257 around) _ (mark m.OpenBracket, a) _ false _ refl refl
    (turns_append e.turns (one_behind (for_index at text) index around e.end e.room (mark m.CloseBracket, b) (on_element at text (tree index) around) refl e.same refl refl)))

set_begins : (g : Target) (around : Around) (t : Lexeme) (b : Place) → is_equal t ≡ true →
    turn (target_point g around) (t, b) ≡ on (inside (for_value (target_at g) (target_text g) (target_index g)) (wants bottom) 257 around)
set_begins (to_name at text) around (mark m.Equal) b h = refl
set_begins (to_element at text a index c) around (mark m.Equal) b h = refl
set_begins g around (mark _) b h = absurd cc
set_begins g around _ b h = absurd cc

change_begins : (g : Target) (direction : Direction) (around : Around) (t : Lexeme) (b : Place) → fits (change_sign direction) t ≡ true →
    turn (target_point g around) (t, b) ≡ on (inside (for_change (target_at g) (target_text g) (target_index g) (change_op direction) b) (wants bottom) 257 around)
change_begins (to_name at text) up around (mark m.PlusEqual) b h = refl
change_begins (to_element at text a index c) up around (mark m.PlusEqual) b h = refl
change_begins (to_name at text) down around (mark m.MinusEqual) b h = refl
change_begins (to_element at text a index c) down around (mark m.MinusEqual) b h = refl
change_begins g up around (mark _) b h = absurd cc
change_begins g up around _ b h = absurd cc
change_begins g down around (mark _) b h = absurd cc
change_begins g down around _ b h = absurd cc

count_begins : (g : Target) (direction : Direction) (around : Around) (t : Lexeme) (b : Place) → fits (count_sign direction) t ≡ true →
    turn (target_point g around) (t, b) ≡ begin (last_row (by_one (target_at g) (target_text g) (target_index g) (change_op direction) b)) (t, b) semicolon [] around
count_begins (to_name at text) up around (mark m.PlusPlus) b h = refl
count_begins (to_element at text a index c) up around (mark m.PlusPlus) b h = refl
count_begins (to_name at text) down around (mark m.MinusMinus) b h = refl
count_begins (to_element at text a index c) down around (mark m.MinusMinus) b h = refl
count_begins g up around (mark _) b h = absurd cc
count_begins g up around _ b h = absurd cc
count_begins g down around (mark _) b h = absurd cc
count_begins g down around _ b h = absurd cc

pub assign_reads : (g : Target) (sign : List Seen) (p : Phrase) (tail : List Seen) (around : Around) → IsStatement (of_assign g sign p tail) →
    Turns (between around) (written (of_assign g sign p tail)) (past (suc (depth_of around)) (of_assign g sign p tail)) (ended (meant (of_assign g sign p tail)) around)
assign_reads g [] p tail around right = absurd right.1
assign_reads g (t ∷ v ∷ ts) p tail around right = absurd right.1.1
assign_reads g (t ∷ []) p tail around right =
    let u = for_value (target_at g) (target_text g) (target_index g) in
    let e = reads_inside u p around right.2 in
    turns_append (turns_append (turns_append (target_reads g around right.0) (go _ _ _ t [] false [] (set_begins g around t.0 t.1 right.1.0) refl (stay _))) e.turns)
    (semicolon_reads u p around e.end e.room tail _ e.same (λ t h. when_fits semicolon t _ h) (ended_quiet _ around) right.3)

pub change_reads : (g : Target) (direction : Direction) (sign : List Seen) (p : Phrase) (tail : List Seen) (around : Around) → IsStatement (of_change g direction sign p tail) →
    Turns (between around) (written (of_change g direction sign p tail)) (past (suc (depth_of around)) (of_change g direction sign p tail)) (ended (meant (of_change g direction sign p tail)) around)
change_reads g direction [] p tail around right = absurd right.1
change_reads g direction (t ∷ v ∷ ts) p tail around right = absurd right.1.1
change_reads g direction (t ∷ []) p tail around right =
    let u = for_change (target_at g) (target_text g) (target_index g) (change_op direction) t.1 in
    let e = reads_inside u p around right.2 in
    turns_append (turns_append (turns_append (target_reads g around right.0) (go _ _ _ t [] false [] (change_begins g direction around t.0 t.1 right.1.0) refl (stay _))) e.turns)
    (semicolon_reads u p around e.end e.room tail _ e.same (λ t h. when_fits semicolon t _ h) (ended_quiet _ around) right.3)

pub count_reads : (g : Target) (direction : Direction) (row : List Seen) (around : Around) → IsStatement (of_count g direction row) →
    Turns (between around) (written (of_count g direction row)) (past (suc (depth_of around)) (of_count g direction row)) (ended (meant (of_count g direction row)) around)
count_reads g direction [] around right = absurd right.1
count_reads g direction (t ∷ ts) around right =
    turns_append (target_reads g around right.0)
    (go _ _ _ t ts false _ (count_begins g direction around t.0 t.1 right.1.0) refl
    (row_reads (last_row (by_one (target_at g) (target_text g) (target_index g) (change_op direction) t.1))
    t [] semicolon [] around ts _ right.1.1 refl (ended_quiet _ around)))

-- ---- `else`

pub settle_same : (s : Statement) (around : Around) (t : Seen) → is_else t.0 ≡ false → next (settled s around) t ≡ turn (ended s around) t
settle_same s (in_body before) t no_else = refl
settle_same s (in_block at before around) t no_else = refl
settle_same s (in_taken at condition around) t no_else = rw no_else refl
settle_same s (in_other at condition taken around) t no_else = settle_same (if_else at condition taken s) around t no_else
settle_same s (in_while at turns condition around) t no_else = settle_same (bounded_while at turns condition s) around t no_else
settle_same s (in_for at names low closed high step around) t no_else = settle_same (counting_for at names low closed high step s) around t no_else

-- tokens that don't begin with `else`
abbrev pub Plain : List Seen → Type 0
Plain [] = ⊥
Plain (t ∷ ts) = is_else t.0 ≡ false

pub plain_append : (xs ys : List Seen) → Plain xs → Plain (xs ++ ys)
plain_append [] ys plain = absurd plain
plain_append (t ∷ ts) ys plain = plain

pub plain_slot : (s : Slot) (x : Lexeme) → fits s (word w.Else) ≡ false → fits s x ≡ true → is_else x ≡ false
plain_slot s (word w.Else) is h = let e : false ≡ true = sym is ∙ h in absurd cc
plain_slot s (word _) is h = refl
plain_slot s _ is h = refl

pub plain_row : (s : Slot) (slots : List Slot) (row : List Seen) → fits s (word w.Else) ≡ false → IsRow (s ∷ slots) row → Plain row
plain_row s slots [] is row = absurd row
plain_row s slots (t ∷ ts) is row = plain_slot s t.0 is row.0

plain_target : (g : Target) → Plain (target_tokens g)
plain_target (to_name at text) = refl
plain_target (to_element at text a index b) = refl

pub plain_statement : (s : StatementPhrase) → IsStatement s → Plain (written s)
plain_statement (of_block head inner tail) right = plain_append (head ++ all_written inner) tail (plain_append head (all_written inner) (plain_row left_brace [] head refl right.0))
plain_statement (of_if head condition close taken) right =
    plain_append (head ++ spelled condition ++ close) _
    (plain_append (head ++ spelled condition) close (plain_append head (spelled condition) (plain_row the_if (left_parenthesis ∷ []) head refl right.0)))
plain_statement (of_else head condition close taken middle other) right =
    plain_append (head ++ spelled condition ++ close ++ written taken ++ middle) _
    (plain_append (head ++ spelled condition ++ close ++ written taken) _
    (plain_append (head ++ spelled condition ++ close) _
    (plain_append (head ++ spelled condition) close (plain_append head (spelled condition) (plain_row the_if (left_parenthesis ∷ []) head refl right.0)))))
plain_statement (of_for head low bound high form step body) right =
    plain_append (head ++ spelled low ++ bound ++ spelled high ++ step) _
    (plain_append (head ++ spelled low ++ bound ++ spelled high) _
    (plain_append (head ++ spelled low ++ bound) _
    (plain_append (head ++ spelled low) _ (plain_append head _ (plain_row the_for (left_parenthesis ∷ a_name ∷ equal_sign ∷ []) head refl right.0)))))
plain_statement (of_while head condition close body) right =
    plain_append (head ++ spelled condition ++ close) _
    (plain_append (head ++ spelled condition) close
    (plain_append head (spelled condition)
    (plain_row the_bounded (left_parenthesis ∷ a_literal ∷ right_parenthesis ∷ the_while ∷ left_parenthesis ∷ []) head refl right.0)))
plain_statement (of_output head value tail) right = plain_append (head ++ spelled value) _ (plain_append head _ (plain_row the_out (left_parenthesis ∷ []) head refl right.0))
plain_statement (of_call head given tail) right = plain_append (head ++ argument_tokens given) _ (plain_append head _ (plain_row a_name (left_parenthesis ∷ []) head refl right.0))
plain_statement (of_input row) right = plain_row a_name (equal_sign ∷ the_in ∷ left_parenthesis ∷ right_parenthesis ∷ semicolon ∷ []) row refl right
plain_statement (of_call_to head given tail) right =
    plain_append (head ++ argument_tokens given) _ (plain_append head _ (plain_row a_name (equal_sign ∷ a_name ∷ left_parenthesis ∷ []) head refl right.0))
plain_statement (of_assign g sign value tail) right =
    plain_append (target_tokens g ++ sign ++ spelled value) _ (plain_append (target_tokens g ++ sign) _ (plain_append (target_tokens g) _ (plain_target g)))
plain_statement (of_change g direction sign value tail) right =
    plain_append (target_tokens g ++ sign ++ spelled value) _ (plain_append (target_tokens g ++ sign) _ (plain_append (target_tokens g) _ (plain_target g)))
plain_statement (of_count g direction row) right = plain_append (target_tokens g) _ (plain_target g)

-- points that agree but for `else` read the same
pub agree : (p q end : Point) (ts : List Seen) (bs : List Bool) → ((t : Seen) → is_else t.0 ≡ false → turn p t ≡ turn q t) → Plain ts → Turns q ts bs end → Turns p ts bs end
agree p q end _ _ same plain (stay _) = absurd plain
agree p q end _ _ same plain (go _ mid _ t ts b bs is flag later) = go p mid end t ts b bs (same t plain ∙ is) flag later
