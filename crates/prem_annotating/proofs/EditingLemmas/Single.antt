-- The walk over single tokens that have an order, and over regions that go.
use Rattle.std.proofs.Common.{not, ◌≡◌, ◌⊎◌, inl, inr, ⊎_elim, ℕ, zero, suc, Bool, true, false, List, [], ◌∷◌, ◌++◌, length, refl, sym, ap, subst, ◌∙◌, append-nil, Option, Some}
use Rattle.std.specs.Prelude.{if◌then◌else◌}
use Rattle.prem_annotating.proofs.Prelude.{plain, marks_of, Order, leave, put, put_for, Marked, Step, step, gone, is_close, at_token, first_order, walked, mode_of, behind_close, Piece}
use Rattle.prem_annotating.proofs.Prelude.{between, a_token, text_of, lexemes_in, AreDivided, mark_piece, EndsInToken, GapMode, Copying, Dropping, Skipping, TokenPlace, Elsewhere, InMark}
use Rattle.prem_annotating.proofs.Prelude.{AmongRegions, InParameters, Text, is_number_row, literal_row, lexemes_of, IsRow, AreRegions, region_tokens, region_trees, Slot, fits}
use Rattle.prem_annotating.proofs.Prelude.{left_parenthesis, right_parenthesis, a_name, comma, a_literal, the_region, Lexeme, name, number, word, mark, end_of_text, Seen, is_digit}
use Rattle.prem_annotating.proofs.Prelude.{is_name_byte, goes_on, every, Spells, as_name, as_literal, Kind, and_parts}
use Rattle.prem_annotating.proofs.EditingLemmas.Goes.{after_step, copies, drops, skips, skip_ends, from, Goes}
use Rattle.prem_annotating.proofs.Edits.{lexemes_join}
use Rattle.prem_annotating.proofs.Pieces.{token_begun}
use Rattle.prem_text.specs.declared.lexing.token.token.Mark.TheVariants as m

-- ---- a token with an order to leave it

pub leave_goes : (s s1 : TokenPlace) (os : List Order) (bytes : List ℕ) (t : Lexeme) → mode_of s1 ≡ Copying → ((b : ℕ) → at_token s (Some leave) t b ≡ step (b ∷ []) s1 Copying true) →
    Goes s (leave ∷ os) (a_token bytes t ∷ []) (a_token bytes t ∷ []) s1 os
leave_goes s s1 os [] t mode is more h = let none = token_begun [] (text_of more) t h.0 in let parts : [] ≡ none.first ∷ none.more = none.parts in absurd cc
leave_goes s s1 os (b ∷ bytes) t mode is more h =
    let first : from s (leave ∷ os) (a_token (b ∷ bytes) t ∷ more) ≡ b ∷ walked s1 Copying os (plain bytes ++ marks_of more) =
    ap (λ (x : Step). after_step x (leave ∷ os) (plain bytes ++ marks_of more)) (is b) in
    first ∙ ap (λ (l : List ℕ). b ∷ l) (copies s1 os bytes (marks_of more))
    ∙ ap (λ (k : GapMode). b ∷ bytes ++ walked s1 k os (marks_of more)) (sym mode) ∙ ap (λ (l : List ℕ). l ++ from s1 os more) (sym (append-nil (b ∷ bytes)))

-- ---- words of name bytes

record NameWord (bytes : List ℕ) : Type 0 where
  first : ℕ
  others : List ℕ
  parts : bytes ≡ first ∷ others
  all : every is_name_byte others ≡ true

number_word : (bytes : List ℕ) → is_number_row bytes ≡ true → NameWord bytes
number_word [] row = absurd cc
number_word (b ∷ more) row = record { first = b; others = more; parts = refl; all = (and_parts (is_digit b) (every is_name_byte more) row).1 }

literal_word : (bytes : List ℕ) (n : ℕ) (kind : Kind) → Spells bytes (number n kind) → NameWord bytes
literal_word _ _ _ (as_literal bytes n kind l) = number_word bytes (literal_row bytes n kind l)

record NameSpelled (bytes : List ℕ) (x : Text) : Type 0 where
  right : NameWord bytes
  is : bytes ≡ x

name_word : (bytes : List ℕ) (x : Text) → Spells bytes (name x) → NameSpelled bytes x
name_word _ _ (as_name b rest letter all le none) = record { right = record { first = b; others = rest; parts = refl; all = all }; is = refl }

-- a word that is skipped, with bytes in its place
word_skipped : (s s1 : TokenPlace) (os : List Order) (wanted new : List ℕ) (b : ℕ) (bytes : List ℕ) (t : Lexeme) (more : List Piece) →
    mode_of s1 ≡ Copying → every is_name_byte bytes ≡ true → goes_on (text_of more) ≡ false →
    at_token s (Some (put wanted)) t b ≡ step new s1 Skipping true → from s (put wanted ∷ os) (a_token (b ∷ bytes) t ∷ more) ≡ new ++ from s1 os more
word_skipped s s1 os wanted new b bytes t more mode all off is =
    let first : from s (put wanted ∷ os) (a_token (b ∷ bytes) t ∷ more) ≡ new ++ walked s1 Skipping os (plain bytes ++ marks_of more) =
    ap (λ (x : Step). after_step x (put wanted ∷ os) (plain bytes ++ marks_of more)) is in
    first ∙ ap (λ (l : List ℕ). new ++ l) (skips s1 os bytes (marks_of more) all ∙ skip_ends s1 os more off) ∙ ap (λ (k : GapMode). new ++ walked s1 k os (marks_of more)) (sym mode)

-- ---- a name with a RANGE, and a literal in place of another one

pub name_goes : (os : List Order) (bytes : List ℕ) (x : Text) (behind : List Piece) →
    Goes InParameters (put (text_of behind) ∷ os) (a_token bytes (name x) ∷ []) (a_token bytes (name x) ∷ behind) InParameters os
name_goes os bytes x behind more h =
    let s = name_word bytes x h.0.spells in
    let parts : bytes ≡ s.right.first ∷ s.right.others = s.right.parts in
    let off = h.0.apart refl in
    ap (λ (l : List ℕ). from InParameters (put (text_of behind) ∷ os) (a_token l (name x) ∷ more)) parts
    ∙ word_skipped InParameters InParameters os (text_of behind) (x ++ text_of behind) s.right.first s.right.others (name x) more refl s.right.all off refl
    ∙ ap (λ (l : List ℕ). l ++ text_of behind ++ from InParameters os more) (sym s.is)

pub literal_goes : (os : List Order) (bytes wanted : List ℕ) (old n : ℕ) (kind kind' : Kind) →
    Goes InMark (put wanted ∷ os) (a_token bytes (number old kind) ∷ []) (a_token wanted (number n kind') ∷ []) InMark os
literal_goes os bytes wanted old n kind kind' more h =
    let word' = literal_word bytes old kind h.0.spells in
    let parts : bytes ≡ word'.first ∷ word'.others = word'.parts in
    let off = h.0.apart refl in
    ap (λ (l : List ℕ). from InMark (put wanted ∷ os) (a_token l (number old kind) ∷ more)) parts
    ∙ word_skipped InMark InMark os wanted wanted word'.first word'.others (number old kind) more refl word'.all off refl
    ∙ ap (λ (l : List ℕ). l ++ from InMark os more) (sym (append-nil wanted))

-- ---- regions that go

abbrev pub closes : Lexeme → Bool
closes (mark k) = is_close k
closes _ = false

-- tokens with one more `)` than a number, the last of them at the end
abbrev pub Left : ℕ → List Lexeme → Type 0
Left k [] = ⊥
Left zero (t ∷ ts) = ((closes t ≡ true) × (ts ≡ [])) ⊎ ((closes t ≡ false) × Left zero ts)
Left (suc k) (t ∷ ts) = ((closes t ≡ true) × Left k ts) ⊎ ((closes t ≡ false) × Left (suc k) ts)

among_off : (more : ℕ) (o : Option Order) (t : Lexeme) (b : ℕ) → closes t ≡ false → at_token (AmongRegions more) o t b ≡ gone (AmongRegions more)
among_off more o (mark k) b off = ap (λ (x : Bool). gone (if x then behind_close more else AmongRegions more)) off
among_off more o (name x) b off = refl
among_off more o (number v k) b off = refl
among_off more o (word k) b off = refl
among_off more o end_of_text b off = refl

among_on : (more : ℕ) (o : Option Order) (t : Lexeme) (b : ℕ) → closes t ≡ true → at_token (AmongRegions more) o t b ≡ gone (behind_close more)
among_on more o (mark k) b on = ap (λ (x : Bool). gone (if x then behind_close more else AmongRegions more)) on
among_on more o (name x) b on = absurd cc
among_on more o (number v k) b on = absurd cc
among_on more o (word k) b on = absurd cc
among_on more o end_of_text b on = absurd cc

drop_token : (k : ℕ) (os : List Order) (b : ℕ) (bytes : List ℕ) (t : Lexeme) (ms : List Marked) → closes t ≡ false →
    walked (AmongRegions k) Dropping os ((b, Some t) ∷ plain bytes ++ ms) ≡ walked (AmongRegions k) Dropping os ms
drop_token k os b bytes t ms off =
    let first : walked (AmongRegions k) Dropping os ((b, Some t) ∷ plain bytes ++ ms) ≡ walked (AmongRegions k) Dropping os (plain bytes ++ ms) =
    ap (λ (x : Step). after_step x os (plain bytes ++ ms)) (among_off k (first_order os) t b off) in
    first ∙ drops (AmongRegions k) os bytes ms

drop_close : (k : ℕ) (os : List Order) (b : ℕ) (bytes : List ℕ) (t : Lexeme) (ms : List Marked) → closes t ≡ true →
    walked (AmongRegions (suc k)) Dropping os ((b, Some t) ∷ plain bytes ++ ms) ≡ walked (AmongRegions k) Dropping os ms
drop_close k os b bytes t ms on =
    let first : walked (AmongRegions (suc k)) Dropping os ((b, Some t) ∷ plain bytes ++ ms)
    ≡ walked (AmongRegions k) Dropping os (plain bytes ++ ms) =
    ap (λ (x : Step). after_step x os (plain bytes ++ ms)) (among_on (suc k) (first_order os) t b on) in
    first ∙ drops (AmongRegions k) os bytes ms

drop_last : (os : List Order) (b : ℕ) (t : Lexeme) (ms : List Marked) → closes t ≡ true → walked (AmongRegions 0) Dropping os ((b, Some t) ∷ ms) ≡ walked Elsewhere Copying os ms
drop_last os b t ms on = ap (λ (x : Step). after_step x os ms) (among_on 0 (first_order os) t b on)

nothing_left : (p : Piece) (ps : List Piece) → EndsInToken (p ∷ ps) → lexemes_in ps ≡ [] → ps ≡ []
nothing_left p [] ends e = refl
nothing_left p (between b ∷ []) ends e = absurd (ends (p ∷ []) b refl)
nothing_left p (between b ∷ between c ∷ ps) ends e =
    let none : between c ∷ ps ≡ [] = nothing_left (between b) (between c ∷ ps) (λ front bytes is. ends (p ∷ front) bytes (ap (λ (l : List Piece). p ∷ l) is)) e in
    absurd cc
nothing_left p (between b ∷ a_token c t ∷ ps) ends e = cc
nothing_left p (a_token c t ∷ ps) ends e = cc

ends_tail : (p : Piece) (ps : List Piece) → EndsInToken (p ∷ ps) → EndsInToken ps
ends_tail p ps ends front bytes is = ends (p ∷ front) bytes (ap (λ (l : List Piece). p ∷ l) is)

closing_byte : (bytes : List ℕ) (t : Lexeme) → Spells bytes t → closes t ≡ true → ((b : List ℕ) → Spells b (mark m.CloseParenthesis) → b ≡ 41 ∷ []) → bytes ≡ 41 ∷ []
closing_byte bytes (mark m.CloseParenthesis) s on single = single bytes s
closing_byte bytes (mark _) s on single = absurd cc
closing_byte bytes _ s on single = absurd cc

pub gone_over : (single : (b : List ℕ) → Spells b (mark m.CloseParenthesis) → b ≡ 41 ∷ []) (k : ℕ) (os : List Order) (ps more : List Piece) →
    Left k (lexemes_in ps) → EndsInToken ps → AreDivided (ps ++ more) → from (AmongRegions k) os (ps ++ more) ≡ from Elsewhere os more
gone_over single k os [] more l ends h = absurd l
gone_over single zero os (between b ∷ ps) more l ends h = drops (AmongRegions zero) os b (marks_of (ps ++ more)) ∙ gone_over single zero os ps more l (ends_tail (between b) ps ends) h.1
gone_over single (suc k) os (between b ∷ ps) more l ends h = drops (AmongRegions (suc k)) os b (marks_of (ps ++ more)) ∙ gone_over single (suc k) os ps more l (ends_tail (between b) ps ends) h.1
gone_over single k os (a_token [] t ∷ ps) more l ends h = let none = token_begun [] (text_of (ps ++ more)) t h.0 in let parts : [] ≡ none.first ∷ none.more = none.parts in absurd cc
gone_over single zero os (a_token (b ∷ bytes) t ∷ ps) more l ends h =
    ⊎_elim (λ (x : (closes t ≡ true) × (lexemes_in ps ≡ [])).
    let one : b ∷ bytes ≡ 41 ∷ [] = closing_byte (b ∷ bytes) t h.0.spells x.0 single in
    let alone : bytes ≡ [] = cc in
    let last : ps ≡ [] = nothing_left (a_token (b ∷ bytes) t) ps ends x.1 in
    ap (λ (l : List ℕ). walked (AmongRegions 0) Dropping os ((b, Some t) ∷ plain l ++ marks_of (ps ++ more))) alone
    ∙ ap (λ (l : List Piece). walked (AmongRegions 0) Dropping os ((b, Some t) ∷ marks_of (l ++ more))) last ∙ drop_last os b t (marks_of more) x.0)
    (λ (x : (closes t ≡ false) × Left zero (lexemes_in ps)). drop_token 0 os b bytes t (marks_of (ps ++ more)) x.0
    ∙ gone_over single zero os ps more x.1 (ends_tail (a_token (b ∷ bytes) t) ps ends) h.1) l
gone_over single (suc k) os (a_token (b ∷ bytes) t ∷ ps) more l ends h =
    ⊎_elim (λ (x : (closes t ≡ true) × Left k (lexemes_in ps)). drop_close k os b bytes t (marks_of (ps ++ more)) x.0
    ∙ gone_over single k os ps more x.1 (ends_tail (a_token (b ∷ bytes) t) ps ends) h.1)
    (λ (x : (closes t ≡ false) × Left (suc k) (lexemes_in ps)). drop_token (suc k) os b bytes t (marks_of (ps ++ more)) x.0
    ∙ gone_over single (suc k) os ps more x.1 (ends_tail (a_token (b ∷ bytes) t) ps ends) h.1) l

-- ---- the tokens of regions

-- what is left behind the `)` of a region
abbrev Behind : ℕ → List Lexeme → Type 0
Behind zero ls = ls ≡ []
Behind (suc k) ls = Left k ls

close_now : (k : ℕ) (t : Lexeme) (ls : List Lexeme) → closes t ≡ true → Behind k ls → Left k (t ∷ ls)
close_now zero t ls on b = inl (on, b)
close_now (suc k) t ls on b = inl (on, b)

close_later : (k : ℕ) (t : Lexeme) (ls : List Lexeme) → closes t ≡ false → Left k ls → Left k (t ∷ ls)
close_later zero t ls off l = inr (off, l)
close_later (suc k) t ls off l = inr (off, l)

close_on : (x : Lexeme) → fits right_parenthesis x ≡ true → closes x ≡ true
close_on (mark m.CloseParenthesis) h = refl
close_on (mark _) h = absurd cc
close_on _ h = absurd cc

-- a slot in which no `)` stands
abbrev no_close_slot : Slot → Bool
no_close_slot s = not (fits s (mark m.CloseParenthesis))

close_off : (s : Slot) (x : Lexeme) → no_close_slot s ≡ true → fits s x ≡ true → closes x ≡ false
close_off s (mark m.CloseParenthesis) none h = absurd (clash (fits s (mark m.CloseParenthesis)) h none)
  where
    clash : (x : Bool) → x ≡ true → not x ≡ true → ⊥
    clash true a b = cc
    clash false a b = cc
close_off s (mark _) none h = refl
close_off s (name x) none h = refl
close_off s (number v k) none h = refl
close_off s (word k) none h = refl
close_off s end_of_text none h = refl

row_left : (k : ℕ) (slots : List Slot) (row : List Seen) (ls : List Lexeme) → every no_close_slot slots ≡ true →
    IsRow (slots ++ right_parenthesis ∷ []) row → Behind k ls → Left k (lexemes_of row ++ ls)
row_left k [] [] ls all h b = absurd h
row_left k [] (t ∷ []) ls all h b = close_now k t.0 ls (close_on t.0 h.0) b
row_left k [] (t ∷ u ∷ more) ls all h b = absurd h.1
row_left k (s ∷ slots) [] ls all h b = absurd h
row_left k (s ∷ slots) (t ∷ ts) ls all h b =
    let parts = and_parts (no_close_slot s) (every no_close_slot slots) all in
    close_later k t.0 (lexemes_of ts ++ ls) (close_off s t.0 parts.0 h.0) (row_left k slots ts ls parts.1 h.1 b)

rows_behind : (rows : List (List Seen)) → AreRegions rows → Behind (length rows) (lexemes_of (region_tokens rows))
rows_behind [] h = refl
rows_behind (row ∷ rows) h =
    subst (λ l. Left (length rows) l) (sym (lexemes_join row (region_tokens rows)))
    (row_left (length rows) (the_region ∷ left_parenthesis ∷ a_name ∷ comma ∷ a_literal ∷ comma ∷ a_literal ∷ []) row (lexemes_of (region_tokens rows)) refl h.0 (rows_behind rows h.1))

pub trees_length : (rows : List (List Seen)) → length (region_trees rows) ≡ length rows
trees_length [] = refl
trees_length (r ∷ rs) = ap suc (trees_length rs)

-- a `)` with regions behind it, in place of others
pub regions_go : (single : (b : List ℕ) → Spells b (mark m.CloseParenthesis) → b ≡ 41 ∷ []) (os : List Order) (rows : List (List Seen))
    (old new : List Piece) → AreRegions rows → EndsInToken old → lexemes_in old ≡ lexemes_of (region_tokens rows) →
    Goes InMark (put_for (length rows) (text_of new) ∷ os) (mark_piece m.CloseParenthesis ∷ old) (mark_piece m.CloseParenthesis ∷ new) Elsewhere os
regions_go single os [] old new right ends e more h =
    let none : old ≡ [] = nothing_left (mark_piece m.CloseParenthesis) old (λ front bytes is. closing front bytes is) e in
    ap (λ (l : List Piece). from InMark (put_for 0 (text_of new) ∷ os) (mark_piece m.CloseParenthesis ∷ l ++ more)) none
  where
    closing : (front : List Piece) (bytes : List ℕ) → mark_piece m.CloseParenthesis ∷ old ≡ front ++ between bytes ∷ [] → ⊥
    closing [] bytes is = cc
    closing (p ∷ front) bytes is = let rest : old ≡ front ++ between bytes ∷ [] = cc in ends front bytes rest
regions_go single os (row ∷ rows) old new right ends e more h =
    let l : Left (length rows) (lexemes_in old) = subst (λ x. Left (length rows) x) (sym e) (rows_behind (row ∷ rows) right) in
    ap (λ (x : List ℕ). 41 ∷ text_of new ++ x) (gone_over single (length rows) os old more l ends h.1)
