-- What the grammar of statements spells is read, and each token past a limit is seen to be.
use Rattle.std.proofs.Common.{◌≡◌, ◌+◌, ◌-◌, ℕ, zero, suc, List, [], ◌∷◌, ◌++◌, Option, None, Some, Bool, true, false, ◌&&◌, not, refl, ap, subst, ◌∙◌, append_assoc, arith, nat_lt, nat_le}
use Rattle.prem_text.proofs.Prelude.{Text, Statement, if_else, bounded_while, counting_for, Place, bottom, State, wants, has, Move, goes, ends, stops, move, is_closer, Phrase, spelled, tree}
use Rattle.prem_text.proofs.Prelude.{level, IsExpression, IsRow, name_at, name_or_none, quiet, counted, opening, Slot, left_parenthesis, right_parenthesis, semicolon, comma, equal_sign}
use Rattle.prem_text.proofs.Prelude.{a_name, a_literal, the_while, fits, text_of, text_at, place_at, is_left_parenthesis, is_comma, is_if, is_out, is_bounded, is_for, is_name, is_left_brace}
use Rattle.prem_text.proofs.Prelude.{Around, in_body, in_block, in_taken, in_other, in_while, in_for, Use, for_low, Row, if_row, out_row, while_row, for_row, bound_row, sign_row, step_row}
use Rattle.prem_text.proofs.Prelude.{last_row, Point, between, filling, inside, on_name, Turn, on, wrong, ended, expression, least_of, begin, next, filled, when, used, turn, nests}
use Rattle.prem_text.proofs.Prelude.{begins_row, is_past, is_start, at_start, lone_name, called, for_head, Lexeme, name, number, word, mark, end_of_text, Seen, nat_tests}
use Rattle.prem_text.proofs.GrammarLemmas.Complete.{reads_phrase}
use Rattle.prem_text.proofs.GrammarLemmas.Steps.{Goes, done, more, Same}
use Rattle.std.specs.Prelude.{if◌then◌else◌}
use Rattle.prem_text.specs.declared.lexing.token.token.Mark.TheVariants as m
use Rattle.prem_text.specs.declared.lexing.token.token.Word.TheVariants as w

-- a point reads all of these tokens; which are past a limit is told of each
pub data Turns : Point → List Seen → List Bool → Point → Type 0 where
  stay : (p : Point) → Turns p [] [] p
  go : (p mid end : Point) (t : Seen) (ts : List Seen) (b : Bool) (bs : List Bool) → turn p t ≡ on mid → is_past mid ≡ b → Turns mid ts bs end → Turns p (t ∷ ts) (b ∷ bs) end

pub turns_append : {p mid end : Point} {xs ys : List Seen} {cs bs : List Bool} → Turns p xs cs mid → Turns mid ys bs end → Turns p (xs ++ ys) (cs ++ bs) end
turns_append (stay _) q = q
turns_append (go p next' _ t ts b bs is flag r) q = go p next' _ t _ b _ is flag (turns_append r q)

-- ---- limits

-- how many statements are open
abbrev pub depth_of : Around → ℕ
depth_of (in_body before) = 0
depth_of (in_block at before around) = suc (depth_of around)
depth_of (in_taken at condition around) = suc (depth_of around)
depth_of (in_other at condition taken around) = suc (depth_of around)
depth_of (in_while at turns condition around) = suc (depth_of around)
depth_of (in_for at names low closed high step around) = suc (depth_of around)

one_deeper : (n d : ℕ) (b : Bool) → b ≡ nat_le d (n - 1) → (nat_lt 0 n && b) ≡ nat_le (suc d) n
one_deeper zero d b is = grind (arith, nat_tests)
one_deeper (suc n) d b is = let same : nat_lt 0 (suc n) ≡ true = grind (arith, nat_tests) in rw (same, is) (grind (arith, nat_tests))

nests_depth : (n : ℕ) (around : Around) → nests n around ≡ nat_le (depth_of around) n
nests_depth n (in_body before) = grind (arith, nat_tests)
nests_depth n (in_block at before around) = one_deeper n (depth_of around) _ (nests_depth (n - 1) around)
nests_depth n (in_taken at condition around) = one_deeper n (depth_of around) _ (nests_depth (n - 1) around)
nests_depth n (in_other at condition taken around) = one_deeper n (depth_of around) _ (nests_depth (n - 1) around)
nests_depth n (in_while at turns condition around) = one_deeper n (depth_of around) _ (nests_depth (n - 1) around)
nests_depth n (in_for at names low closed high step around) = one_deeper n (depth_of around) _ (nests_depth (n - 1) around)

deep_flag : (d : ℕ) → not (nat_le d 63) ≡ nat_lt 64 (suc d)
deep_flag d = by (nat_le d 63) refl
  where
    by : (b : Bool) → nat_le d 63 ≡ b → not b ≡ nat_lt 64 (suc d)
    by true is = grind (arith, nat_tests)
    by false is = grind (arith, nat_tests)

pub nest_flag : (around : Around) → not (nests 63 around) ≡ nat_lt 64 (suc (depth_of around))
nest_flag around = ap not (nests_depth 63 around) ∙ deep_flag (depth_of around)

pub room_flag : (room n : ℕ) → room ≡ 258 - n → not (nat_lt 0 (room - 1)) ≡ nat_lt 256 n
room_flag room n is = by (nat_lt 0 (room - 1)) refl
  where
    by : (b : Bool) → nat_lt 0 (room - 1) ≡ b → not b ≡ nat_lt 256 n
    by true h = grind (arith, nat_tests)
    by false h = grind (arith, nat_tests)

-- a statement that has ended is no new one
pub ended_quiet : (s : Statement) (around : Around) → is_past (ended s around) ≡ false
ended_quiet s (in_body before) = refl
ended_quiet s (in_block at [] around) = refl
ended_quiet s (in_block at (first ∷ rest) around) = refl
ended_quiet s (in_taken at condition around) = refl
ended_quiet s (in_other at condition taken around) = ended_quiet (if_else at condition taken s) around
ended_quiet s (in_while at turns condition around) = ended_quiet (bounded_while at turns condition s) around
ended_quiet s (in_for at names low closed high step around) = ended_quiet (counting_for at names low closed high step s) around

-- ---- expressions

-- what a point inside an expression does, by the move of the expression's reader
abbrev pub after_move : Use → State → ℕ → Around → Seen → Move → Turn
after_move u s room around t (goes s') = on (inside u s' (room - 1) around)
after_move u s room around t (ends e) = if is_left_parenthesis t.0 then elim (lone_name s) [ Some callee ↦ called u callee around | None ↦ wrong ] else used u e around t
after_move u s room around t stops = if is_start s then at_start u around t else wrong

by_moves : (u : Use) (s : State) (room : ℕ) (around : Around) (t : Seen) (y : Move) → (elim y [
  | goes s' ↦ on (inside u s' (room - 1) around)
  | ends e ↦ if is_left_parenthesis t.0 then elim (lone_name s) [ Some callee ↦ called u callee around | None ↦ wrong ] else used u e around t
  | stops ↦ if is_start s then at_start u around t else wrong
]) ≡ after_move u s room around t y
by_moves u s room around t (goes s') = refl
by_moves u s room around t (ends e) = refl
by_moves u s room around t stops = refl

by_move : (u : Use) (s : State) (room : ℕ) (around : Around) (t : Seen) (x : Move) → move (least_of u) s t ≡ x → turn (inside u s room around) t ≡ after_move u s room around t x
by_move u s room around t x is = by_moves u s room around t (move (least_of u) s t) ∙ ap (after_move u s room around t) is

-- an expression is read for a use
pub record Inside (u : Use) (p : Phrase) (around : Around) : Type 0 where
  pub end : State
  pub room : ℕ
  pub turns : Turns (inside u (wants bottom) 257 around) (spelled p) (counted 1 (spelled p)) (inside u end room around)
  pub same : Same (least_of u) (level p) end (has (tree p) bottom)

pub record Counted (u : Use) (s end : State) (room n : ℕ) (ts : List Seen) (around : Around) : Type 0 where
  left : ℕ
  turns : Turns (inside u s room around) ts (counted n ts) (inside u end left around)

counted_goes : (u : Use) (s end : State) (room n : ℕ) (ts : List Seen) (around : Around) → Goes (least_of u) s ts end → room ≡ 258 - n → Counted u s end room n ts around
counted_goes u s _ room n _ around (done _) is = record { left = room; turns = stay _ }
counted_goes u s end room n _ around (more _ mid _ t ts step later) is =
    let next_room : room - 1 ≡ 258 - (n + 1) = omega (arith, is) in
    let rest = counted_goes u mid end (room - 1) (n + 1) ts around later next_room in
    record { left = rest.left; turns = go _ (inside u mid (room - 1) around) _ t ts _ _ (by_move u s room around t (goes mid) step) (room_flag room n is) rest.turns }

pub reads_inside : (u : Use) (p : Phrase) (around : Around) → IsExpression (least_of u) p → Inside u p around
reads_inside u p around short =
    let r = reads_phrase (least_of u) p bottom short.1 short.0 in
    let c = counted_goes u (wants bottom) r.end 257 1 (spelled p) around r.goes refl in
    record { end = r.end; room = c.left; turns = c.turns; same = r.same }

closer_turn : (u : Use) (p : Phrase) (around : Around) (x : Lexeme) (at : Place) (end : State) (room : ℕ) → is_closer x ≡ true → Same (least_of u) (level p) end (has (tree p) bottom) →
    turn (inside u end room around) (x, at) ≡ used u (tree p) around (x, at)
closer_turn u p around (mark m.CloseParenthesis) at end room is same = by_move u end room around (mark m.CloseParenthesis, at) _ (same (mark m.CloseParenthesis) at (refl, tt))
closer_turn u p around (mark m.CloseBracket) at end room is same = by_move u end room around (mark m.CloseBracket, at) _ (same (mark m.CloseBracket) at (refl, tt))
closer_turn u p around (mark m.Semicolon) at end room is same = by_move u end room around (mark m.Semicolon, at) _ (same (mark m.Semicolon) at (refl, tt))
closer_turn u p around (mark m.Comma) at end room is same = by_move u end room around (mark m.Comma, at) _ (same (mark m.Comma) at (refl, tt))
closer_turn u p around (mark _) at end room is same = absurd cc
closer_turn u p around _ at end room is same = absurd cc

pub parenthesis_closes : (x : Lexeme) → fits right_parenthesis x ≡ true → is_closer x ≡ true
parenthesis_closes (mark m.CloseParenthesis) h = refl
parenthesis_closes (mark _) h = absurd cc
parenthesis_closes _ h = absurd cc

pub semicolon_closes : (x : Lexeme) → fits semicolon x ≡ true → is_closer x ≡ true
semicolon_closes (mark m.Semicolon) h = refl
semicolon_closes (mark _) h = absurd cc
semicolon_closes _ h = absurd cc

pub comma_closes : (x : Lexeme) → fits comma x ≡ true → is_closer x ≡ true
comma_closes (mark m.Comma) h = refl
comma_closes (mark _) h = absurd cc
comma_closes _ h = absurd cc

pub no_comma : (x : Lexeme) → fits right_parenthesis x ≡ true → is_comma x ≡ false
no_comma (mark m.CloseParenthesis) h = refl
no_comma (mark _) h = absurd cc
no_comma _ h = absurd cc

pub when_fits : (slot : Slot) (t : Seen) (x : Turn) → fits slot t.0 ≡ true → when slot t x ≡ x
when_fits slot t x h = rw h refl

-- ---- rows

begun_once : (row : Row) (g : Seen) (got : List Seen) (t : Seen) → begins_row row (g ∷ got ++ t ∷ []) ≡ false
begun_once if_row g [] t = refl
begun_once if_row g (x ∷ got) t = refl
begun_once out_row g [] t = refl
begun_once out_row g (x ∷ got) t = refl
begun_once while_row g [] t = refl
begun_once while_row g (x ∷ got) t = refl
begun_once for_row g [] t = refl
begun_once for_row g (x ∷ got) t = refl
begun_once (bound_row _ _ _) g got t = refl
begun_once (sign_row _) g got t = refl
begun_once (step_row _) g got t = refl
begun_once (last_row _) g got t = refl

pub row_reads : (row : Row) (g : Seen) (got : List Seen) (wanted : Slot) (later : List Slot) (around : Around) (ts : List Seen) (end : Point) → IsRow (wanted ∷ later) ts →
    filled row (g ∷ (got ++ ts)) around ≡ on end → is_past end ≡ false → Turns (filling row (g ∷ got) wanted later around) ts (quiet ts) end
row_reads row g got wanted [] around (t ∷ []) end fit is flag = go _ end _ t [] false [] (when_fits wanted t _ fit.0 ∙ is) flag (stay end)
row_reads row g got wanted [] around (t ∷ u ∷ ts) end fit is flag = absurd fit.1
row_reads row g got wanted [] around [] end fit is flag = absurd fit
row_reads row g got wanted (slot ∷ later) around [] end fit is flag = absurd fit
row_reads row g got wanted (slot ∷ later) around (t ∷ ts) end fit is flag =
    let quiet_here : is_past (filling row (g ∷ (got ++ t ∷ [])) slot later around) ≡ false = rw (begun_once row g got t) refl in
    let same : filled row (g ∷ ((got ++ t ∷ []) ++ ts)) around ≡ on end = ap (λ (l : List Seen). filled row (g ∷ l) around) (append_assoc got (t ∷ []) ts) ∙ is in
    go _ (filling row (g ∷ (got ++ t ∷ [])) slot later around) _ t ts false _ (when_fits wanted t _ fit.0) quiet_here (row_reads row g (got ++ t ∷ []) slot later around ts end fit.1 same flag)

-- a row behind an expression, which begins with the token that ends it
pub behind_expression : (u : Use) (p : Phrase) (around : Around) (end : State) (room : ℕ) (t : Seen) (more' : List Seen) (row : Row) (wanted : Slot)
    (later : List Slot) (next' : Point) → is_closer t.0 ≡ true →
    Same (least_of u) (level p) end (has (tree p) bottom) → used u (tree p) around t ≡ on (filling row (t ∷ []) wanted later around) → begins_row row (t ∷ []) ≡ false → IsRow (wanted ∷ later) more' →
    filled row (t ∷ more') around ≡ on next' → is_past next' ≡ false → Turns (inside u end room around) (t ∷ more') (quiet (t ∷ more')) next'
behind_expression u p around end room t more' row wanted later next' closes same is late fit whole flag =
    go _ (filling row (t ∷ []) wanted later around) _ t more' false _ (closer_turn u p around t.0 t.1 end room closes same ∙ is) (rw late refl)
    (row_reads row t [] wanted later around more' next' fit whole flag)

-- one token behind an expression
pub one_behind : (u : Use) (p : Phrase) (around : Around) (end : State) (room : ℕ) (t : Seen) (next' : Point) → is_closer t.0 ≡ true → Same (least_of u) (level p) end (has (tree p) bottom) →
    used u (tree p) around t ≡ on next' → is_past next' ≡ false → Turns (inside u end room around) (t ∷ []) (false ∷ []) next'
one_behind u p around end room t next' closes same is flag = go _ next' _ t [] false [] (closer_turn u p around t.0 t.1 end room closes same ∙ is) flag (stay next')

-- ---- names in rows

abbrev pub nth : ℕ → List Slot → Option Slot
nth n [] = None
nth zero (s ∷ slots) = Some s
nth (suc n) (s ∷ slots) = nth n slots

pub text_some : (x : Lexeme) → is_name x ≡ true → text_of x ≡ Some (name_or_none (text_of x))
text_some (name x) h = refl
text_some (number v k) h = absurd cc
text_some (word x) h = absurd cc
text_some (mark x) h = absurd cc
text_some end_of_text h = absurd cc

slot_same : (s : Slot) → Some s ≡ Some a_name → s ≡ a_name
slot_same s is = cc

pub name_in_row : (n : ℕ) (slots : List Slot) (all : List Seen) → nth n slots ≡ Some a_name → IsRow slots all → text_at n all ≡ Some (name_at n all)
name_in_row n [] [] is row = absurd cc
name_in_row n [] (t ∷ ts) is row = absurd row
name_in_row n (s ∷ slots) [] is row = absurd row
name_in_row zero (s ∷ slots) (t ∷ ts) is row = text_some t.0 (subst (λ (x : Slot). fits x t.0 ≡ true) (slot_same s is) row.0)
name_in_row (suc n) (s ∷ slots) (t ∷ ts) is row = name_in_row n slots ts is row.1

-- ---- heads

pub first_if : (around : Around) (x : Lexeme) (at : Place) → is_if x ≡ true → next around (x, at) ≡ begin if_row (x, at) left_parenthesis [] around
first_if around (word w.If) at h = refl
first_if around (word _) at h = absurd cc
first_if around _ at h = absurd cc

pub first_out : (around : Around) (x : Lexeme) (at : Place) → is_out x ≡ true → next around (x, at) ≡ begin out_row (x, at) left_parenthesis [] around
first_out around (word w.Out) at h = refl
first_out around (word _) at h = absurd cc
first_out around _ at h = absurd cc

pub first_bounded : (around : Around) (x : Lexeme) (at : Place) → is_bounded x ≡ true →
    next around (x, at) ≡ begin while_row (x, at) left_parenthesis (a_literal ∷ right_parenthesis ∷ the_while ∷ left_parenthesis ∷ []) around
first_bounded around (word w.Bounded) at h = refl
first_bounded around (word _) at h = absurd cc
first_bounded around _ at h = absurd cc

pub first_for : (around : Around) (x : Lexeme) (at : Place) → is_for x ≡ true → next around (x, at) ≡ begin for_row (x, at) left_parenthesis (a_name ∷ equal_sign ∷ []) around
first_for around (word w.For) at h = refl
first_for around (word _) at h = absurd cc
first_for around _ at h = absurd cc

pub first_name : (around : Around) (x : Lexeme) (at : Place) → is_name x ≡ true → next around (x, at) ≡ on (on_name at (name_or_none (text_of x)) around)
first_name around (name x) at h = refl
first_name around (number v k) at h = absurd cc
first_name around (word x) at h = absurd cc
first_name around (mark x) at h = absurd cc
first_name around end_of_text at h = absurd cc

pub first_brace : (around : Around) (x : Lexeme) (at : Place) → is_left_brace x ≡ true → next around (x, at) ≡ on (between (in_block at [] around))
first_brace around (mark m.OpenBrace) at h = refl
first_brace around (mark _) at h = absurd cc
first_brace around _ at h = absurd cc

-- a head of a statement before its first expression
pub head_reads : (around : Around) (row : Row) (head : List Seen) (first : Slot) (wanted : Slot) (later : List Slot) (end : Point) → IsRow (first ∷ wanted ∷ later) head →
    ((x : Lexeme) (at : Place) → fits first x ≡ true → next around (x, at) ≡ begin row (x, at) wanted later around) → ((t : Seen) → begins_row row (t ∷ []) ≡ true) →
    filled row head around ≡ on end → is_past end ≡ false → Turns (between around) head (opening (suc (depth_of around)) head) end
head_reads around row [] first wanted later end fit begins new whole flag = absurd fit
head_reads around row (t ∷ ts) first wanted later end fit begins new whole flag =
    go _ (filling row (t ∷ []) wanted later around) _ t ts _ _ (begins t.0 t.1 fit.0) (rw (new t) (nest_flag around)) (row_reads row t [] wanted later around ts end fit.1 whole flag)

pub for_begins : (head : List Seen) (around : Around) → IsRow for_head head → filled for_row head around ≡ on (inside (for_low (place_at 0 head) (name_at 2 head)) (wants bottom) 257 around)
for_begins head around row = ap (λ (o : Option Text). elim o [ Some first ↦ expression (for_low (place_at 0 head) first) around | None ↦ wrong ]) (name_in_row 2 for_head head refl row)
