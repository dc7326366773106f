-- An edited text divides as its pieces say; and rows that are put in are right.
use Rattle.std.proofs.Common.{ℤ, ◌≡◌, Bool, true, false, List, [], ◌∷◌, ◌++◌, map, refl, sym, ap, subst, ◌∙◌, arith, Some}
use Rattle.prem_annotating.proofs.Prelude.{anywhere, constant_phrase, range_phrase, region_row, Piece, a_token, AreDivided, said, mark_piece, Edited, all_edited, kept_piece, with_range}
use Rattle.prem_annotating.proofs.Prelude.{with_regions, with_length, EditedTextsDivide, is_below, RegionText, number_lexeme, constant_lexemes, range_lexemes, region_lexemes}
use Rattle.prem_annotating.proofs.Prelude.{regions_lexemes, lexemes_of, unplaced_region, IsRow, IsConstant as IsConstantPhrase, constant_slots, constant_tree, constant_value, IsRange}
use Rattle.prem_annotating.proofs.Prelude.{range_tokens, range_tree, AreRegions, region_trees, region_tokens, Lexeme, number, word, mark, Seen, ints, int_lt, unsigned_abs, pos, negsuc}
use Rattle.prem_annotating.proofs.Prelude.{neg_ℤ}
use Rattle.prem_annotating.proofs.Inserted.{range_put, regions_put, length_put}
use Rattle.std.proofs.lemmas.List.{append_assoc}
use Rattle.std.specs.Prelude.{cond}
use Rattle.prem_text.specs.declared.lexing.token.token.Mark.TheVariants as m
use Rattle.prem_text.specs.declared.lexing.token.token.Word.TheVariants as w

-- behind other pieces
edited_behind : (front ps qs : List Piece) → Edited ps qs → AreDivided (front ++ ps) → AreDivided (front ++ qs)
edited_behind front _ _ all_edited h = h
edited_behind front _ _ (kept_piece p {ps} {qs} more) h =
    subst AreDivided (append_assoc front (p ∷ []) qs) (edited_behind (front ++ p ∷ []) ps qs more (subst AreDivided (sym (append_assoc front (p ∷ []) ps)) h))
edited_behind front _ _ (with_range bytes t r {ps} {qs} low high more) h =
    let one = a_token bytes t ∷ [] in
    let rest = edited_behind (front ++ one) ps qs more (subst AreDivided (sym (append_assoc front one ps)) h) in
    range_put front qs bytes t r low high (subst AreDivided (append_assoc front one qs) rest)
edited_behind front _ _ (with_regions old rs {ps} {qs} other words more) h =
    let one = mark_piece m.CloseParenthesis ∷ old in
    let rest = edited_behind (front ++ one) ps qs more (subst AreDivided (sym (append_assoc front one ps)) h) in
    regions_put front old qs rs words (subst AreDivided (append_assoc front one qs) rest)
edited_behind front _ _ (with_length word_bytes before gaps bytes old kind n {ps} {qs} differ le are_before are more) h =
    let head = a_token word_bytes (word w.Predictable) ∷ before in
    let literal = a_token bytes (number old kind) ∷ [] in
    let open_row = mark_piece m.OpenParenthesis ∷ (gaps ++ literal) in
    let from_open : (rest : List Piece) → List Piece = λ rest. mark_piece m.OpenParenthesis ∷ (gaps ++ (a_token bytes (number old kind) ∷ rest)) in
    let whole : (rest : List Piece) → (front ++ (head ++ open_row)) ++ rest ≡ front ++ (head ++ from_open rest) =
    λ rest. append_assoc front (head ++ open_row) rest
    ∙ ap (λ l. front ++ l) (append_assoc head open_row rest ∙ ap (λ l. head ++ (mark_piece m.OpenParenthesis ∷ l)) (append_assoc gaps literal rest)) in
    let rest = edited_behind (front ++ (head ++ open_row)) ps qs more (subst AreDivided (sym (whole ps)) h) in
    let put = length_put (front ++ head) gaps qs bytes old kind n le are (subst AreDivided (whole qs ∙ sym (append_assoc front head (from_open qs))) rest) in
    subst AreDivided (append_assoc front head (mark_piece m.OpenParenthesis ∷ (gaps ++ (said (number_lexeme n) ∷ qs)))) put

pub edited_divide : EditedTextsDivide
edited_divide ps qs edited h = edited_behind [] ps qs edited h

-- ---- rows

aside : (ts : List Lexeme) → lexemes_of (anywhere ts) ≡ ts
aside [] = refl
aside (t ∷ ts) = ap (λ l. t ∷ l) (aside ts)

constant_right : (z : ℤ) → IsConstantPhrase (constant_phrase z)
constant_right z = by (int_lt z (pos 0))
  where
    by : (b : Bool) → IsRow (constant_slots b) (anywhere (cond b (mark m.Minus ∷ number_lexeme (unsigned_abs z) ∷ []) (number_lexeme (unsigned_abs z) ∷ [])))
    by true = (refl, (refl, tt))
    by false = (refl, tt)

negated : (z : ℤ) → int_lt z (pos 0) ≡ true → neg_ℤ (pos (unsigned_abs z)) ≡ z
negated (pos n) e = absurd (let b = is_below (pos n) (pos 0) e in omega (arith, ints))
negated (negsuc n) e = refl

natural : (z : ℤ) → int_lt z (pos 0) ≡ false → pos (unsigned_abs z) ≡ z
natural (pos n) e = refl
natural (negsuc n) e = cc

constant_is : (z : ℤ) → constant_tree (constant_phrase z) ≡ z
constant_is z = by (int_lt z (pos 0)) refl
  where
    by : (b : Bool) → int_lt z (pos 0) ≡ b → constant_value b (anywhere (cond b (mark m.Minus ∷ number_lexeme (unsigned_abs z) ∷ []) (number_lexeme (unsigned_abs z) ∷ []))) ≡ z
    by true is = negated z is
    by false is = natural z is

pub range_right : (r : ℤ × ℤ) → IsRange (Some (range_phrase r))
range_right r = ((refl, (refl, tt)), constant_right r.0, (refl, tt), constant_right r.1, (refl, tt))

pub range_is : (r : ℤ × ℤ) → range_tree (Some (range_phrase r)) ≡ Some r
range_is (low, high) = λ i. Some (constant_is low i, constant_is high i)

pub lexemes_join : (xs ys : List Seen) → lexemes_of (xs ++ ys) ≡ lexemes_of xs ++ lexemes_of ys
lexemes_join [] ys = refl
lexemes_join (x ∷ xs) ys = ap (λ l. x.0 ∷ l) (lexemes_join xs ys)

pub range_lexed : (r : ℤ × ℤ) → lexemes_of (range_tokens (Some (range_phrase r))) ≡ range_lexemes (Some r)
range_lexed (low, high) =
    let h = anywhere (word w.Range ∷ mark m.OpenParenthesis ∷ []) in
    let a = anywhere (constant_lexemes low) in
    let c = anywhere (mark m.Comma ∷ []) in
    let b = anywhere (constant_lexemes high) in
    let e = anywhere (mark m.CloseParenthesis ∷ []) in
    lexemes_join (h ++ a ++ c ++ b) e
    ∙ ap (λ l. l ++ lexemes_of e) (lexemes_join (h ++ a ++ c) b ∙ ap (λ l. l ++ lexemes_of b) (lexemes_join (h ++ a) c ∙ ap (λ l. l ++ lexemes_of c) (lexemes_join h a)))
    ∙ (λ i. (word w.Range ∷ mark m.OpenParenthesis ∷ []) ++ aside (constant_lexemes low) i ++ (mark m.Comma ∷ []) ++ aside (constant_lexemes high) i ++ (mark m.CloseParenthesis ∷ []))

pub regions_right : (rs : List RegionText) → AreRegions (map region_row rs)
regions_right [] = tt
regions_right (r ∷ rs) = ((refl, (refl, (refl, (refl, (refl, (refl, (refl, (refl, tt)))))))), regions_right rs)

pub regions_are : (rs : List RegionText) → map unplaced_region (region_trees (map region_row rs)) ≡ map unplaced_region rs
regions_are [] = refl
regions_are (r ∷ rs) = ap (λ l. unplaced_region r ∷ l) (regions_are rs)

pub regions_lexed : (rs : List RegionText) → lexemes_of (region_tokens (map region_row rs)) ≡ regions_lexemes rs
regions_lexed [] = refl
regions_lexed (r ∷ rs) = lexemes_join (region_row r) (region_tokens (map region_row rs)) ∙ (λ i. aside (region_lexemes r) i ++ regions_lexed rs i)
