-- The edits of a text: at each function's mark and parameters, where something differs.
use Rattle.std.proofs.Common.{◌≡◌, ◌≤◌, ℕ, Bool, true, false, List, [], ◌∷◌, ◌++◌, map, refl, sym, ap, subst, ◌∙◌, arith, Some}
use Rattle.std.specs.Prelude.{cond, length, ◌==◌, ◌&&◌, if◌then◌else◌}
use Rattle.prem_annotating.proofs.Prelude.{same_region, same_regions, length_order, regions_order, Order, leave, put, put_for, mode_of, region_row, Piece, between, a_token, text_of}
use Rattle.prem_annotating.proofs.Prelude.{lexemes_in, AreDivided, said, mark_piece, range_pieces, regions_pieces, AreRegionWords, AreGaps, EndsInToken, Edited, all_edited, kept_piece}
use Rattle.prem_annotating.proofs.Prelude.{with_range, with_regions, with_length, Copying, TokenPlace, Elsewhere, InMark, RegionText, MarkText, stands_every, same_bytes, number_lexeme}
use Rattle.prem_annotating.proofs.Prelude.{kind_for, lexemes_of, lexeme_bytes, unplaced_region, unplaced_mark, IsRow, MarkPhrase, AreRegions, region_tokens, region_trees, IsMark}
use Rattle.prem_annotating.proofs.Prelude.{mark_tokens, mark_tree, nowhere, Slot, left_parenthesis, right_parenthesis, a_name, a_literal, comma, the_region, the_predictable, value_of}
use Rattle.prem_annotating.proofs.Prelude.{value_at, is_left_parenthesis, is_right_parenthesis, is_literal, marks, Lexeme, number, word, mark, Seen, StandsIn, every, Spells, as_mark, Mark}
use Rattle.prem_annotating.proofs.Prelude.{Kind, and_parts, nat_tests, bytes_eq-Decides, option_map, bytes_eq}
use Rattle.prem_annotating.proofs.EditingLemmas.Goes.{Goes, Stays, goes_both, stays_go, AreQuiet, quiet_join, quiet_stays}
use Rattle.prem_annotating.proofs.EditingLemmas.Quiet.{row_quiet}
use Rattle.prem_annotating.proofs.EditingLemmas.Single.{leave_goes, literal_goes, regions_go, trees_length}
use Rattle.prem_annotating.proofs.Edits.{regions_right, regions_are, regions_lexed}
use Rattle.prem_annotating.proofs.Inserted.{regions_say}
use Rattle.prem_text.specs.Grammar.Slots.{is_predictable}
use Rattle.std.proofs.lemmas.List.{append_assoc, append-nil}
use Rattle.prem_text.specs.declared.lexing.token.token.Mark.TheVariants as m
use Rattle.prem_text.specs.declared.lexing.token.token.Word.TheVariants as w

-- ---- pieces cut where tokens are

pub record PieceCut (xs ys : List Seen) (ps : List Piece) : Type 0 where
  pub front : List Piece
  pub back : List Piece
  pub parts : front ++ back ≡ ps
  pub one : lexemes_in front ≡ lexemes_of xs
  pub two : lexemes_in back ≡ lexemes_of ys
  pub ends : EndsInToken front

nothing_ends : EndsInToken []
nothing_ends [] bytes is = cc
nothing_ends (p ∷ front) bytes is = cc

token_ends : (b : List ℕ) (t : Lexeme) (ps : List Piece) → EndsInToken ps → EndsInToken (a_token b t ∷ ps)
token_ends b t ps ends [] bytes is = cc
token_ends b t ps ends (p ∷ front) bytes is = let rest : ps ≡ front ++ between bytes ∷ [] = cc in ends front bytes rest

-- a gap is not the last piece where a token is among those behind it
gap_ends : (b : List ℕ) (ps : List Piece) (x : Lexeme) (xs : List Lexeme) → lexemes_in ps ≡ x ∷ xs → EndsInToken ps → EndsInToken (between b ∷ ps)
gap_ends b [] x xs e ends front bytes is = cc
gap_ends b (q ∷ ps) x xs e ends [] bytes is = cc
gap_ends b (q ∷ ps) x xs e ends (p ∷ front) bytes is = let rest : q ∷ ps ≡ front ++ between bytes ∷ [] = cc in ends front bytes rest

-- what stands behind a piece ends as all does
pub ends_behind : (xs : List Piece) (p : Piece) (rest : List Piece) → EndsInToken (xs ++ (p ∷ rest)) → EndsInToken rest
ends_behind xs p rest ends front bytes is = ends (xs ++ (p ∷ front)) bytes (ap (λ l. xs ++ (p ∷ l)) is ∙ sym (append_assoc xs (p ∷ front) (between bytes ∷ [])))

pub piece_cut : (xs ys : List Seen) (ps : List Piece) → lexemes_in ps ≡ lexemes_of (xs ++ ys) → PieceCut xs ys ps
piece_cut [] ys ps e = record { front = []; back = ps; parts = refl; one = refl; two = e; ends = nothing_ends }
piece_cut (x ∷ xs) ys [] e = cc
piece_cut (x ∷ xs) ys (between b ∷ ps) e =
    let c = piece_cut (x ∷ xs) ys ps e in
    record { front = between b ∷ c.front; back = c.back; parts = ap (λ l. between b ∷ l) c.parts; one = c.one; two = c.two; ends = gap_ends b c.front (x.0) (lexemes_of xs) c.one c.ends }
piece_cut (x ∷ xs) ys (a_token b t ∷ ps) e =
    let head : t ≡ x.0 = cc in
    let tail : lexemes_in ps ≡ lexemes_of (xs ++ ys) = cc in
    let c = piece_cut xs ys ps tail in
    record { front = a_token b t ∷ c.front; back = c.back; parts = ap (λ l. a_token b t ∷ l) c.parts; one = (λ i. head i ∷ c.one i); two = c.two; ends = token_ends b t c.front c.ends }

pub record FirstToken (x : Lexeme) (ys : List Lexeme) (ps : List Piece) : Type 0 where
  pub gaps : List Piece
  pub bytes : List ℕ
  pub rest : List Piece
  pub parts : gaps ++ (a_token bytes x ∷ rest) ≡ ps
  pub are : AreGaps gaps
  pub two : lexemes_in rest ≡ ys

pub first_token : (x : Lexeme) (ys : List Lexeme) (ps : List Piece) → lexemes_in ps ≡ x ∷ ys → FirstToken x ys ps
first_token x ys [] e = cc
first_token x ys (between b ∷ ps) e =
    let f = first_token x ys ps e in
    record { gaps = between b ∷ f.gaps; bytes = f.bytes; rest = f.rest; parts = ap (λ l. between b ∷ l) f.parts; are = f.are; two = f.two }
first_token x ys (a_token b t ∷ ps) e =
    let head : t ≡ x = cc in
    let tail : lexemes_in ps ≡ ys = cc in
    record { gaps = []; bytes = b; rest = ps; parts = ap (λ u. a_token b u ∷ ps) (sym head); are = tt; two = tail }

pub gap_lexemes : (gaps ps : List Piece) → AreGaps gaps → lexemes_in (gaps ++ ps) ≡ lexemes_in ps
gap_lexemes [] ps are = refl
gap_lexemes (between b ∷ gaps) ps are = gap_lexemes gaps ps are
gap_lexemes (a_token b t ∷ gaps) ps are = absurd are

-- ---- spelled tokens

abbrev pub AreSpelled : List Piece → Type 0
AreSpelled [] = Unit {0}
AreSpelled (between b ∷ ps) = AreSpelled ps
AreSpelled (a_token b t ∷ ps) = Spells b t × AreSpelled ps

pub divided_spelled : (ps : List Piece) → AreDivided ps → AreSpelled ps
divided_spelled [] h = tt
divided_spelled (between b ∷ ps) h = divided_spelled ps h.1
divided_spelled (a_token b t ∷ ps) h = (h.0.spells, divided_spelled ps h.1)

pub spelled_left : (ps qs : List Piece) → AreSpelled (ps ++ qs) → AreSpelled ps
spelled_left [] qs h = tt
spelled_left (between b ∷ ps) qs h = spelled_left ps qs h
spelled_left (a_token b t ∷ ps) qs h = (h.0, spelled_left ps qs h.1)

pub spelled_right : (ps qs : List Piece) → AreSpelled (ps ++ qs) → AreSpelled qs
spelled_right [] qs h = h
spelled_right (between b ∷ ps) qs h = spelled_right ps qs h
spelled_right (a_token b t ∷ ps) qs h = spelled_right ps qs h.1

-- the bytes of `(` and `)`
abbrev is_open : Mark → Bool
is_open m.OpenParenthesis = true
is_open _ = false

abbrev is_close : Mark → Bool
is_close m.CloseParenthesis = true
is_close _ = false

opens_alone : every (λ (x : List ℕ × Mark). cond (is_open x.1) (bytes_eq x.0 (40 ∷ [])) true) marks ≡ true
opens_alone = refl

closes_alone : every (λ (x : List ℕ × Mark). cond (is_close x.1) (bytes_eq x.0 (41 ∷ [])) true) marks ≡ true
closes_alone = refl

stands_of : (b : List ℕ) (k : Mark) → Spells b (mark k) → StandsIn (b, k) marks
stands_of _ _ (as_mark b k there) = there

pub open_bytes : (b : List ℕ) → Spells b (mark m.OpenParenthesis) → b ≡ 40 ∷ []
open_bytes b s = same_bytes b (40 ∷ [])
    (stands_every (λ (x : List ℕ × Mark). cond (is_open x.1) (bytes_eq x.0 (40 ∷ [])) true) (b, m.OpenParenthesis) marks
    (stands_of b m.OpenParenthesis s) opens_alone)

pub close_bytes : (b : List ℕ) → Spells b (mark m.CloseParenthesis) → b ≡ 41 ∷ []
close_bytes b s = same_bytes b (41 ∷ [])
    (stands_every (λ (x : List ℕ × Mark). cond (is_close x.1) (bytes_eq x.0 (41 ∷ [])) true) (b, m.CloseParenthesis) marks
    (stands_of b m.CloseParenthesis s) closes_alone)

-- ---- edits

pub edited_itself : (ps : List Piece) → Edited ps ps
edited_itself [] = all_edited
edited_itself (p ∷ ps) = kept_piece p (edited_itself ps)

pub edited_append : {a b c d : List Piece} → Edited a b → Edited c d → Edited (a ++ c) (b ++ d)
edited_append all_edited more = more
edited_append (kept_piece p rest) more = kept_piece p (edited_append rest more)
edited_append {c = c} {d = d} (with_range bytes t r {ps} {qs} low high rest) more =
    subst (λ l. Edited (a_token bytes t ∷ (ps ++ c)) (a_token bytes t ∷ l)) (sym (append_assoc (range_pieces r) qs d)) (with_range bytes t r low high (edited_append rest more))
edited_append {c = c} {d = d} (with_regions old rs {ps} {qs} other words rest) more =
    let whole = with_regions old rs other words (edited_append rest more) in
    subst (λ l. Edited (mark_piece m.CloseParenthesis ∷ l) (mark_piece m.CloseParenthesis ∷ ((regions_pieces rs ++ qs) ++ d))) (sym (append_assoc old ps c))
    (subst (λ l. Edited (mark_piece m.CloseParenthesis ∷ (old ++ (ps ++ c))) (mark_piece m.CloseParenthesis ∷ l)) (sym (append_assoc (regions_pieces rs) qs d)) whole)
edited_append {c = c} {d = d} (with_length head before gaps bytes old kind n {ps} {qs} differ le are_before are rest) more =
    let whole = with_length head before gaps bytes old kind n differ le are_before are (edited_append rest more) in
    let start : Piece = a_token head (word w.Predictable) in
    let from_open : Piece → List Piece → List Piece = λ p l. mark_piece m.OpenParenthesis ∷ (gaps ++ (p ∷ l)) in
    let moved : (p : Piece) (xs ys : List Piece) → before ++ from_open p (xs ++ ys) ≡ (before ++ from_open p xs) ++ ys =
    λ p xs ys. sym (append_assoc before (from_open p xs) ys ∙ ap (λ l. before ++ (mark_piece m.OpenParenthesis ∷ l)) (append_assoc gaps (p ∷ xs) ys)) in
    subst (λ l. Edited (start ∷ l) (start ∷ ((before ++ from_open (said (number_lexeme n)) qs) ++ d))) (moved (a_token bytes (number old kind)) ps c)
    (subst (λ l. Edited (start ∷ (before ++ from_open (a_token bytes (number old kind)) (ps ++ c))) (start ∷ l)) (moved (said (number_lexeme n)) qs d) whole)

pub kept_front : (front : List Piece) {ps qs : List Piece} → Edited ps qs → Edited (front ++ ps) (front ++ qs)
kept_front front edited = edited_append (edited_itself front) edited

-- pieces with other lexemes, as the walk from one spot to another gives them by orders, of which some are left
pub record EditedTo (s : TokenPlace) (os : List Order) (ps : List Piece) (ls : List Lexeme) (s' : TokenPlace) (os' : List Order) : Type 0 where
  pub new : List Piece
  pub edited : Edited ps new
  pub lexemes : lexemes_in new ≡ ls
  pub goes : Goes s os ps new s' os'

-- ---- the walk over gaps and marks

gaps_none : (gaps : List Piece) → AreGaps gaps → lexemes_in gaps ≡ []
gaps_none [] are = refl
gaps_none (between b ∷ gaps) are = gaps_none gaps are
gaps_none (a_token b t ∷ gaps) are = absurd are

pub gaps_go : (s : TokenPlace) (os : List Order) (gaps : List Piece) → mode_of s ≡ Copying → AreGaps gaps → Goes s os gaps gaps s os
gaps_go s os gaps mode are = stays_go s s os gaps mode (subst (λ l. Stays s l s) (sym (gaps_none gaps are)) refl)

-- ---- a mark

open_is : (x : Lexeme) → is_left_parenthesis x ≡ true → x ≡ mark m.OpenParenthesis
open_is (mark m.OpenParenthesis) h = refl
open_is (mark _) h = absurd cc
open_is _ h = absurd cc

predictable_is : (x : Lexeme) → is_predictable x ≡ true → x ≡ word w.Predictable
predictable_is (word w.Predictable) h = refl
predictable_is (word _) h = absurd cc
predictable_is _ h = absurd cc

close_is : (x : Lexeme) → is_right_parenthesis x ≡ true → x ≡ mark m.CloseParenthesis
close_is (mark m.CloseParenthesis) h = refl
close_is (mark _) h = absurd cc
close_is _ h = absurd cc

record IsNumber (x : Lexeme) : Type 0 where
  value : ℕ
  kind : Kind
  is : x ≡ number value kind

number_of : (x : Lexeme) → is_literal x ≡ true → IsNumber x
number_of (number v k) h = record { value = v; kind = k; is = refl }
number_of _ h = absurd cc

same_regions_are : (xs ys : List RegionText) → same_regions xs ys ≡ true → map unplaced_region xs ≡ map unplaced_region ys
same_regions_are [] [] h = refl
same_regions_are [] (y ∷ ys) h = cc
same_regions_are (x ∷ xs) [] h = cc
same_regions_are (x ∷ xs) (y ∷ ys) h =
    let parts = and_parts (same_region x y) (same_regions xs ys) h in
    let names = and_parts (bytes_eq x.name y.name) ((x.low == y.low) && (x.high == y.high)) parts.0 in
    let numbers = and_parts (x.low == y.low) (x.high == y.high) names.1 in
    let name_is : x.name ≡ y.name = (bytes_eq-Decides x.name y.name).0 names.0 in
    let low_is : x.low ≡ y.low = (let e = numbers.0 in grind (arith, nat_tests)) in
    let high_is : x.high ≡ y.high = (let e = numbers.1 in grind (arith, nat_tests)) in
    let rest = same_regions_are xs ys parts.1 in
    λ i. record { at = nowhere; name = name_is i; low = low_is i; high = high_is i } ∷ rest i

pub same_regions_yes : (xs ys : List RegionText) → map unplaced_region xs ≡ map unplaced_region ys → same_regions xs ys ≡ true
same_regions_yes [] [] e = refl
same_regions_yes [] (y ∷ ys) e = cc
same_regions_yes (x ∷ xs) [] e = cc
same_regions_yes (x ∷ xs) (y ∷ ys) e =
    let one : unplaced_region x ≡ unplaced_region y = cc in
    let rest : map unplaced_region xs ≡ map unplaced_region ys = cc in
    let names : bytes_eq x.name y.name ≡ true = (bytes_eq-Decides x.name y.name).1 (ap (λ (r : RegionText). r.name) one) in
    let low_is : x.low ≡ y.low = ap (λ (r : RegionText). r.low) one in
    let high_is : x.high ≡ y.high = ap (λ (r : RegionText). r.high) one in
    let lows : (x.low == y.low) ≡ true = grind (arith, nat_tests) in
    let highs : (x.high == y.high) ≡ true = grind (arith, nat_tests) in
    (λ i. (names i && (lows i && highs i)) && same_regions xs ys) ∙ same_regions_yes xs ys rest

two_answers : true ≡ false → ⊥
two_answers e = cc

-- the regions behind a `)`
record NewRows (before : List (List Seen)) (rs : List RegionText) (old : List Piece) : Type 0 where
  rows : List (List Seen)
  right : AreRegions rows
  are : map unplaced_region (region_trees rows) ≡ map unplaced_region rs
  new : List Piece
  edited : Edited (mark_piece m.CloseParenthesis ∷ old) (mark_piece m.CloseParenthesis ∷ new)
  lexemes : lexemes_in new ≡ lexemes_of (region_tokens rows)
  goes : (os : List Order) → Goes InMark (regions_order (region_trees before) rs ∷ os) (mark_piece m.CloseParenthesis ∷ old) (mark_piece m.CloseParenthesis ∷ new) Elsewhere os

-- regions that stay
rows_stay : (rows : List (List Seen)) → AreRegions rows → AreQuiet (region_tokens rows)
rows_stay [] h = tt
rows_stay (row ∷ rows) h = quiet_join row (region_tokens rows)
    (row_quiet (the_region ∷ left_parenthesis ∷ a_name ∷ comma ∷ a_literal ∷ comma ∷ a_literal ∷ right_parenthesis ∷ []) row refl h.0) (rows_stay rows h.1)

left_goes : (os : List Order) (rows : List (List Seen)) (old : List Piece) → AreRegions rows → lexemes_in old ≡ lexemes_of (region_tokens rows) →
    Goes InMark (leave ∷ os) (mark_piece m.CloseParenthesis ∷ old) (mark_piece m.CloseParenthesis ∷ old) Elsewhere os
left_goes os rows old right e =
    goes_both InMark Elsewhere Elsewhere (leave ∷ os) os os (mark_piece m.CloseParenthesis ∷ []) old (mark_piece m.CloseParenthesis ∷ []) old
    (leave_goes InMark Elsewhere os (lexeme_bytes (mark m.CloseParenthesis)) (mark m.CloseParenthesis) refl (λ b. refl))
    (stays_go Elsewhere Elsewhere os old refl (subst (λ l. Stays Elsewhere l Elsewhere) (sym e) (quiet_stays (region_tokens rows) (rows_stay rows right))))

new_rows : (rows : List (List Seen)) (rs : List RegionText) (old : List Piece) → AreRegions rows → AreRegionWords rs → EndsInToken old →
    lexemes_in old ≡ lexemes_of (region_tokens rows) → NewRows rows rs old
new_rows rows rs old right words ends e = by (same_regions (region_trees rows) rs) refl
  where
    by : (b : Bool) → same_regions (region_trees rows) rs ≡ b → NewRows rows rs old
    by true is = record {
      rows = rows;
      right = right;
      are = same_regions_are (region_trees rows) rs is;
      new = old;
      edited = edited_itself (mark_piece m.CloseParenthesis ∷ old);
      lexemes = e;
      goes = λ os. subst (λ x. Goes InMark (x ∷ os) (mark_piece m.CloseParenthesis ∷ old) (mark_piece m.CloseParenthesis ∷ old) Elsewhere os)
          (sym (ap (λ (x : Bool). if x then leave else put_for (length (region_trees rows)) (text_of (regions_pieces rs))) is)) (left_goes os rows old right e);
    }
    by false is = record {
      rows = map region_row rs;
      right = regions_right rs;
      are = regions_are rs;
      new = regions_pieces rs ++ [];
      edited = subst (λ l. Edited (mark_piece m.CloseParenthesis ∷ l) (mark_piece m.CloseParenthesis ∷ (regions_pieces rs ++ []))) (append-nil old)
          (with_regions old rs (record {
            rows = rows;
            right = right;
            lexemes = e;
            ends = ends;
            differ = λ same. two_answers (sym (same_regions_yes (region_trees rows) rs same) ∙ is);
          }) words all_edited);
      lexemes = ap lexemes_in (append-nil (regions_pieces rs)) ∙ regions_say rs ∙ sym (regions_lexed rs);
      goes =
          λ os. let order : put_for (length rows) (text_of (regions_pieces rs ++ [])) ≡ regions_order (region_trees rows) rs =
          (λ i. put_for (sym (trees_length rows) i) (text_of (append-nil (regions_pieces rs) i)))
          ∙ sym (ap (λ (x : Bool). if x then leave else put_for (length (region_trees rows)) (text_of (regions_pieces rs))) is) in
          subst (λ x. Goes InMark (x ∷ os) (mark_piece m.CloseParenthesis ∷ old) (mark_piece m.CloseParenthesis ∷ (regions_pieces rs ++ []))
          Elsewhere os) order (regions_go close_bytes os rows old (regions_pieces rs ++ []) right ends e);
    }

same_number : (a b : ℕ) → a ≡ b → (a == b) ≡ true
same_number a b e = grind (arith, nat_tests)

-- the literal of a mark
record NewLiteral (n : ℕ) (head : List ℕ) (before gaps : List Piece) (bytes : List ℕ) (old : ℕ) (kind : Kind) (ps qs : List Piece) : Type 0 where
  lexeme : Lexeme
  fits_is : is_literal lexeme ≡ true
  value_is : value_of lexeme ≡ n
  piece : Piece
  edited : Edited (a_token head (word w.Predictable) ∷ (before ++ (mark_piece m.OpenParenthesis ∷ (gaps ++ (a_token bytes (number old kind) ∷ ps)))))
      (a_token head (word w.Predictable) ∷ (before ++ (mark_piece m.OpenParenthesis ∷ (gaps ++ (piece ∷ qs)))))
  lexemes : lexemes_in (gaps ++ (piece ∷ qs)) ≡ lexeme ∷ lexemes_in qs
  goes : (os : List Order) → Goes InMark (length_order old n ∷ os) (a_token bytes (number old kind) ∷ []) (piece ∷ []) InMark os

new_literal : (n : ℕ) (head : List ℕ) (before gaps : List Piece) (bytes : List ℕ) (old : ℕ) (kind : Kind) (ps qs : List Piece) → n ≤ 4294967295 →
    AreGaps before → AreGaps gaps → Edited ps qs → NewLiteral n head before gaps bytes old kind ps qs
new_literal n head before gaps bytes old kind ps qs le are_before are edited = by (old == n) refl
  where
    by : (b : Bool) → (old == n) ≡ b → NewLiteral n head before gaps bytes old kind ps qs
    by true is = record {
      lexeme = number old kind;
      fits_is = refl;
      value_is = grind (arith, nat_tests);
      piece = a_token bytes (number old kind);
      edited = kept_piece (a_token head (word w.Predictable)) (kept_front before (kept_piece (mark_piece m.OpenParenthesis) (kept_front gaps (kept_piece (a_token bytes (number old kind)) edited))));
      lexemes = gap_lexemes gaps (a_token bytes (number old kind) ∷ qs) are;
      goes = λ os. subst (λ x. Goes InMark (x ∷ os) (a_token bytes (number old kind) ∷ []) (a_token bytes (number old kind) ∷ []) InMark os)
          (sym (ap (λ (x : Bool). if x then leave else put (lexeme_bytes (number_lexeme n))) is))
          (leave_goes InMark InMark os bytes (number old kind) refl (λ b. refl));
    }
    by false is = record {
      lexeme = number_lexeme n;
      fits_is = refl;
      value_is = refl;
      piece = said (number_lexeme n);
      edited = with_length head before gaps bytes old kind n (λ same. two_answers (sym (same_number old n same) ∙ is)) le are_before are edited;
      lexemes = gap_lexemes gaps (said (number_lexeme n) ∷ qs) are;
      goes = λ os. subst (λ x. Goes InMark (x ∷ os) (a_token bytes (number old kind) ∷ []) (said (number_lexeme n) ∷ []) InMark os)
          (sym (ap (λ (x : Bool). if x then leave else put (lexeme_bytes (number_lexeme n))) is))
          (literal_goes os bytes (lexeme_bytes (number_lexeme n)) old n kind (kind_for n));
    }

pub record NewMarkOf (k a : MarkText) (os : List Order) (ps : List Piece) : Type 0 where
  pub phrase : MarkPhrase
  pub right : IsMark (Some phrase)
  pub tree_is : option_map unplaced_mark (mark_tree (Some phrase)) ≡ Some (unplaced_mark a)
  pub to : EditedTo Elsewhere (length_order k.stated a.stated ∷ regions_order k.regions a.regions ∷ os) ps (lexemes_of (mark_tokens (Some phrase))) Elsewhere os

abbrev mark_slots : List Slot
mark_slots = the_predictable ∷ left_parenthesis ∷ a_literal ∷ right_parenthesis ∷ []

-- the pieces of a mark
mark_by : (head : List Seen) (rows : List (List Seen)) (a : MarkText) (os : List Order) (ps : List Piece) → IsRow mark_slots head → AreRegions rows →
    a.stated ≤ 4294967295 → AreRegionWords a.regions → EndsInToken ps → AreSpelled ps → lexemes_in ps ≡ lexemes_of (head ++ region_tokens rows) →
    NewMarkOf (record { stated = value_at 2 head; regions = region_trees rows }) a os ps
mark_by [] rows a os ps h right le words ends spelled e = absurd h
mark_by (t ∷ []) rows a os ps h right le words ends spelled e = absurd h.1
mark_by (t ∷ u ∷ []) rows a os ps h right le words ends spelled e = absurd h.1.1
mark_by (t ∷ u ∷ v ∷ []) rows a os ps h right le words ends spelled e = absurd h.1.1.1
mark_by (t ∷ u ∷ v ∷ x ∷ y ∷ more) rows a os ps h right le words ends spelled e = absurd h.1.1.1.1
mark_by (t ∷ u ∷ v ∷ x ∷ []) rows a os ps h right le words ends spelled e =
    let one = first_token t.0 (u.0 ∷ v.0 ∷ x.0 ∷ lexemes_of (region_tokens rows)) ps e in
    let two = first_token u.0 (v.0 ∷ x.0 ∷ lexemes_of (region_tokens rows)) one.rest one.two in
    let three = first_token v.0 (x.0 ∷ lexemes_of (region_tokens rows)) two.rest two.two in
    let four = first_token x.0 (lexemes_of (region_tokens rows)) three.rest three.two in
    let spelled_one : AreSpelled (one.gaps ++ (a_token one.bytes t.0 ∷ one.rest)) = subst AreSpelled (sym one.parts) spelled in
    let after_one : AreSpelled one.rest = (spelled_right one.gaps (a_token one.bytes t.0 ∷ one.rest) spelled_one).1 in
    let at_two = spelled_right two.gaps (a_token two.bytes u.0 ∷ two.rest) (subst AreSpelled (sym two.parts) after_one) in
    let at_three = spelled_right three.gaps (a_token three.bytes v.0 ∷ three.rest) (subst AreSpelled (sym three.parts) at_two.1) in
    let at_four = spelled_right four.gaps (a_token four.bytes x.0 ∷ four.rest) (subst AreSpelled (sym four.parts) at_three.1) in
    let ends_one : EndsInToken one.rest = ends_behind one.gaps (a_token one.bytes t.0) one.rest (subst EndsInToken (sym one.parts) ends) in
    let ends_two : EndsInToken two.rest = ends_behind two.gaps (a_token two.bytes u.0) two.rest (subst EndsInToken (sym two.parts) ends_one) in
    let ends_three : EndsInToken three.rest = ends_behind three.gaps (a_token three.bytes v.0) three.rest (subst EndsInToken (sym three.parts) ends_two) in
    let ends_four : EndsInToken four.rest = ends_behind four.gaps (a_token four.bytes x.0) four.rest (subst EndsInToken (sym four.parts) ends_three) in
    let is_word : t.0 ≡ word w.Predictable = predictable_is t.0 h.0 in
    let is_open' : u.0 ≡ mark m.OpenParenthesis = open_is u.0 h.1.0 in
    let is_close' : x.0 ≡ mark m.CloseParenthesis = close_is x.0 h.1.1.1.0 in
    let literal = number_of v.0 h.1.1.0 in
    let open_piece : a_token two.bytes u.0 ≡ mark_piece m.OpenParenthesis =
    (λ i. a_token two.bytes (is_open' i)) ∙ ap (λ b. a_token b (mark m.OpenParenthesis)) (open_bytes two.bytes (subst (λ l. Spells two.bytes l) is_open' at_two.0)) in
    let close_piece : a_token four.bytes x.0 ≡ mark_piece m.CloseParenthesis =
    (λ i. a_token four.bytes (is_close' i)) ∙ ap (λ b. a_token b (mark m.CloseParenthesis)) (close_bytes four.bytes (subst (λ l. Spells four.bytes l) is_close' at_four.0)) in
    let regions = new_rows rows a.regions four.rest right words ends_four four.two in
    let tail : Edited (four.gaps ++ (mark_piece m.CloseParenthesis ∷ four.rest)) (four.gaps ++ (mark_piece m.CloseParenthesis ∷ regions.new)) = kept_front four.gaps regions.edited in
    let stated = new_literal a.stated one.bytes two.gaps three.gaps three.bytes literal.value literal.kind
    (four.gaps ++ (mark_piece m.CloseParenthesis ∷ four.rest)) (four.gaps ++ (mark_piece m.CloseParenthesis ∷ regions.new)) le two.are three.are tail in
    let start : Piece = a_token one.bytes (word w.Predictable) in
    let open' : Piece = mark_piece m.OpenParenthesis in
    let behind_old = four.gaps ++ (mark_piece m.CloseParenthesis ∷ four.rest) in
    let behind_new = four.gaps ++ (mark_piece m.CloseParenthesis ∷ regions.new) in
    let lit : Piece = a_token three.bytes (number literal.value literal.kind) in
    let stated_new : List Piece = three.gaps ++ (stated.piece ∷ behind_new) in
    let o2 = regions_order (region_trees rows) a.regions in
    let o1 = length_order literal.value a.stated in
    let both = o1 ∷ o2 ∷ os in
    let g7 = regions.goes os in
    let g6 = goes_both InMark InMark Elsewhere (o2 ∷ os) (o2 ∷ os) os four.gaps (mark_piece m.CloseParenthesis ∷ four.rest) four.gaps
    (mark_piece m.CloseParenthesis ∷ regions.new) (gaps_go InMark (o2 ∷ os) four.gaps refl four.are) g7 in
    let g5 = goes_both InMark InMark Elsewhere both (o2 ∷ os) os (lit ∷ []) behind_old (stated.piece ∷ []) behind_new (stated.goes (o2 ∷ os)) g6 in
    let g4 = goes_both InMark InMark Elsewhere both both os three.gaps (lit ∷ behind_old) three.gaps (stated.piece ∷ behind_new) (gaps_go InMark both three.gaps refl three.are) g5 in
    let g3 = goes_both InMark InMark Elsewhere both both os (open' ∷ []) (three.gaps ++ (lit ∷ behind_old)) (open' ∷ []) stated_new
    (stays_go InMark InMark both (open' ∷ []) refl (InMark, (λ o b. refl), refl, refl)) g4 in
    let g2 = goes_both InMark InMark Elsewhere both both os two.gaps (open' ∷ (three.gaps ++ (lit ∷ behind_old))) two.gaps (open' ∷ stated_new) (gaps_go InMark both two.gaps refl two.are) g3 in
    let g1 = goes_both Elsewhere InMark Elsewhere both both os (start ∷ []) (two.gaps ++ (open' ∷ (three.gaps ++ (lit ∷ behind_old)))) (start ∷ [])
    (two.gaps ++ (open' ∷ stated_new)) (stays_go Elsewhere InMark both (start ∷ []) refl (InMark, (λ o b. refl), refl, refl)) g2 in
    let g0 = goes_both Elsewhere Elsewhere Elsewhere both both os one.gaps (start ∷ (two.gaps ++ (open' ∷ (three.gaps ++ (lit ∷ behind_old)))))
    one.gaps (start ∷ (two.gaps ++ (open' ∷ stated_new))) (gaps_go Elsewhere both one.gaps refl one.are) g1 in
    let whole : Edited (one.gaps ++
    (start ∷ (two.gaps ++ (mark_piece m.OpenParenthesis ∷
    (three.gaps ++ (a_token three.bytes (number literal.value literal.kind) ∷ (four.gaps ++ (mark_piece m.CloseParenthesis ∷ four.rest))))))))
    (one.gaps ++ (start ∷ (two.gaps ++ (mark_piece m.OpenParenthesis ∷ stated_new)))) = kept_front one.gaps stated.edited in
    let old_is : one.gaps ++ (start ∷
    (two.gaps ++ (mark_piece m.OpenParenthesis ∷
    (three.gaps ++ (a_token three.bytes (number literal.value literal.kind) ∷ (four.gaps ++ (mark_piece m.CloseParenthesis ∷ four.rest))))))) ≡ ps =
    (λ i. one.gaps ++ (a_token one.bytes (sym is_word i) ∷
    (two.gaps ++ (sym open_piece i ∷ (three.gaps ++ (a_token three.bytes (sym literal.is i) ∷ (four.gaps ++ (sym close_piece i ∷ four.rest))))))))
    ∙ ap (λ l. one.gaps ++ (a_token one.bytes t.0 ∷ (two.gaps ++ (a_token two.bytes u.0 ∷ (three.gaps ++ (a_token three.bytes v.0 ∷ l)))))) four.parts
    ∙ ap (λ l. one.gaps ++ (a_token one.bytes t.0 ∷ (two.gaps ++ (a_token two.bytes u.0 ∷ l)))) three.parts
    ∙ ap (λ l. one.gaps ++ (a_token one.bytes t.0 ∷ l)) two.parts
    ∙ one.parts in
    let new = one.gaps ++ (start ∷ (two.gaps ++ (mark_piece m.OpenParenthesis ∷ stated_new))) in
    let new_lexemes : lexemes_in new ≡ t.0 ∷ mark m.OpenParenthesis ∷ stated.lexeme ∷ mark m.CloseParenthesis ∷ lexemes_of (region_tokens regions.rows) =
    gap_lexemes one.gaps (start ∷ (two.gaps ++ (mark_piece m.OpenParenthesis ∷ stated_new))) one.are
    ∙ (λ i. sym is_word i ∷ lexemes_in (two.gaps ++ (mark_piece m.OpenParenthesis ∷ stated_new)))
    ∙ ap (λ l. t.0 ∷ l) (gap_lexemes two.gaps (mark_piece m.OpenParenthesis ∷ stated_new) two.are
    ∙ ap (λ l. mark m.OpenParenthesis ∷ l)
    (stated.lexemes ∙ ap (λ l. stated.lexeme ∷ l)
    (gap_lexemes four.gaps (mark_piece m.CloseParenthesis ∷ regions.new) four.are ∙ ap (λ l. mark m.CloseParenthesis ∷ l) regions.lexemes))) in
    record {
      phrase = record { head = t ∷ (mark m.OpenParenthesis, nowhere) ∷ (stated.lexeme, nowhere) ∷ (mark m.CloseParenthesis, nowhere) ∷ []; regions = regions.rows };
      right = ((h.0, (refl, (stated.fits_is, (refl, tt)))), regions.right);
      tree_is = λ i. Some (record { stated = stated.value_is i; regions = regions.are i });
      to = record {
        new = new;
        edited = subst (λ l. Edited l new) old_is whole;
        lexemes = new_lexemes;
        goes =
            let value : value_of v.0 ≡ literal.value = ap value_of literal.is in
            subst (λ n. Goes Elsewhere (length_order n a.stated ∷ o2 ∷ os) ps new Elsewhere os) (sym value) (subst (λ l. Goes Elsewhere both l new Elsewhere os) old_is g0);
      };
    }

pub new_mark_of : (k : MarkPhrase) (a : MarkText) (os : List Order) (ps : List Piece) → IsMark (Some k) → a.stated ≤ 4294967295 →
    AreRegionWords a.regions → EndsInToken ps → AreSpelled ps → lexemes_in ps ≡ lexemes_of (mark_tokens (Some k)) →
    NewMarkOf (record { stated = value_at 2 k.head; regions = region_trees k.regions }) a os ps
new_mark_of k a os ps h le words ends spelled e = mark_by k.head k.regions a os ps h.0 h.1 le words ends spelled e
