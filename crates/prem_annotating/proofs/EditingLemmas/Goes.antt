-- How the walk goes over pieces.
use Rattle.std.proofs.Common.{not, ◌&&◌, ◌≡◌, ℕ, Bool, true, false, List, [], ◌∷◌, ◌++◌, refl, sym, ap, subst, ◌∙◌, append_assoc, Option, Some}
use Rattle.std.specs.Prelude.{if◌then◌else◌}
use Rattle.prem_annotating.proofs.Prelude.{plain, marks_of, Order, Marked, Step, kept, at_token, skipped, first_order, rest_if, walked, mode_of, is_type, is_predictable, type_or, elsewhere}
use Rattle.prem_annotating.proofs.Prelude.{Piece, between, a_token, text_of, lexemes_in, AreDivided, GapMode, Copying, Dropping, Skipping, TokenPlace, Elsewhere, BehindType, InMark}
use Rattle.prem_annotating.proofs.Prelude.{lexemes_of, Lexeme, name, number, word, mark, end_of_text, Seen, is_name_byte, goes_on, every, and_parts}
use Rattle.prem_annotating.proofs.Pieces.{token_begun}

-- what a step and the bytes behind it give
abbrev pub after_step : Step → List Order → List Marked → List ℕ
after_step x os ms = x.bytes ++ walked x.behind.spot x.behind.mode (rest_if x.behind.done os) ms

-- ---- bytes

pub copies : (spot : TokenPlace) (os : List Order) (bytes : List ℕ) (ms : List Marked) → walked spot Copying os (plain bytes ++ ms) ≡ bytes ++ walked spot Copying os ms
copies spot os [] ms = refl
copies spot os (b ∷ bytes) ms = ap (λ (l : List ℕ). b ∷ l) (copies spot os bytes ms)

pub drops : (spot : TokenPlace) (os : List Order) (bytes : List ℕ) (ms : List Marked) → walked spot Dropping os (plain bytes ++ ms) ≡ walked spot Dropping os ms
drops spot os [] ms = refl
drops spot os (b ∷ bytes) ms = drops spot os bytes ms

pub skips : (spot : TokenPlace) (os : List Order) (bytes : List ℕ) (ms : List Marked) → every is_name_byte bytes ≡ true → walked spot Skipping os (plain bytes ++ ms) ≡ walked spot Skipping os ms
skips spot os [] ms all = refl
skips spot os (b ∷ bytes) ms all =
    let parts = and_parts (is_name_byte b) (every is_name_byte bytes) all in
    skipped_one b (is_name_byte b) parts.0 ∙ skips spot os bytes ms parts.1
  where
    skipped_one : (b : ℕ) (x : Bool) → x ≡ true → (skipped b x).0 ++ walked spot (skipped b x).1 os (plain bytes ++ ms) ≡ walked spot Skipping os (plain bytes ++ ms)
    skipped_one b true is = refl
    skipped_one b false is = absurd cc

-- behind what is skipped a gap or a token begins
pub skip_ends : (spot : TokenPlace) (os : List Order) (ps : List Piece) → goes_on (text_of ps) ≡ false → walked spot Skipping os (marks_of ps) ≡ walked spot Copying os (marks_of ps)
skip_ends spot os [] off = refl
skip_ends spot os (between [] ∷ ps) off = skip_ends spot os ps off
skip_ends spot os (between (b ∷ bytes) ∷ ps) off = ap (λ (x : Bool). (skipped b x).0 ++ walked spot (skipped b x).1 os (plain bytes ++ marks_of ps)) off
skip_ends spot os (a_token [] t ∷ ps) off = skip_ends spot os ps off
skip_ends spot os (a_token (b ∷ bytes) t ∷ ps) off = refl

-- ---- pieces from a spot on

abbrev pub from : TokenPlace → List Order → List Piece → List ℕ
from spot os ps = walked spot (mode_of spot) os (marks_of ps)

-- pieces are walked over, and give others' bytes
abbrev pub Goes : TokenPlace → List Order → List Piece → List Piece → TokenPlace → List Order → Type 0
Goes spot os ps new spot' os' = (more : List Piece) → AreDivided (ps ++ more) → from spot os (ps ++ more) ≡ text_of new ++ from spot' os' more

pub divided_right : (ps qs : List Piece) → AreDivided (ps ++ qs) → AreDivided qs
divided_right [] qs h = h
divided_right (between b ∷ ps) qs h = divided_right ps qs h.1
divided_right (a_token b t ∷ ps) qs h = divided_right ps qs h.1

text_join : (ps qs : List Piece) → text_of (ps ++ qs) ≡ text_of ps ++ text_of qs
text_join [] qs = refl
text_join (between b ∷ ps) qs = ap (λ (l : List ℕ). b ++ l) (text_join ps qs) ∙ sym (append_assoc b (text_of ps) (text_of qs))
text_join (a_token b t ∷ ps) qs = ap (λ (l : List ℕ). b ++ l) (text_join ps qs) ∙ sym (append_assoc b (text_of ps) (text_of qs))

pub goes_both : (s s1 s2 : TokenPlace) (o o1 o2 : List Order) (a b na nb : List Piece) → Goes s o a na s1 o1 → Goes s1 o1 b nb s2 o2 → Goes s o (a ++ b) (na ++ nb) s2 o2
goes_both s s1 s2 o o1 o2 a b na nb one two more h =
    let h' : AreDivided (a ++ (b ++ more)) = subst AreDivided (append_assoc a b more) h in
    ap (λ (l : List Piece). from s o l) (append_assoc a b more) ∙ one (b ++ more) h' ∙ ap (λ (l : List ℕ). text_of na ++ l) (two more (divided_right a (b ++ more) h'))
    ∙ sym (append_assoc (text_of na) (text_of nb) (from s2 o2 more)) ∙ ap (λ (l : List ℕ). l ++ from s2 o2 more) (sym (text_join na nb))

-- ---- tokens that stay, with no order for them

abbrev pub Stays : TokenPlace → List Lexeme → TokenPlace → Type 0
Stays s [] s' = s ≡ s'
Stays s (t ∷ ts) s' = (s1 : TokenPlace) × ((o : Option Order) (b : ℕ) → at_token s o t b ≡ kept b s1) × (mode_of s1 ≡ Copying) × Stays s1 ts s'

pub stays_join : (s s1 s2 : TokenPlace) (xs ys : List Lexeme) → Stays s xs s1 → Stays s1 ys s2 → Stays s (xs ++ ys) s2
stays_join s s1 s2 [] ys one two = subst (λ x. Stays x ys s2) (sym one) two
stays_join s s1 s2 (x ∷ xs) ys one two = (one.0, one.1, one.2, stays_join one.0 s1 s2 xs ys one.3 two)

-- one token that stays
token_stays : (s s1 : TokenPlace) (os : List Order) (b : ℕ) (bytes : List ℕ) (t : Lexeme) (ms : List Marked) (mode : GapMode) → ((o : Option Order) (b : ℕ) → at_token s o t b ≡ kept b s1) →
    walked s mode os ((b, Some t) ∷ plain bytes ++ ms) ≡ b ∷ bytes ++ walked s1 Copying os ms
token_stays s s1 os b bytes t ms mode is = ap (λ (x : Step). after_step x os (plain bytes ++ ms)) (is (first_order os) b) ∙ ap (λ (l : List ℕ). b ∷ l) (copies s1 os bytes ms)

pub stays_go : (s s' : TokenPlace) (os : List Order) (ps : List Piece) → mode_of s ≡ Copying → Stays s (lexemes_in ps) s' → Goes s os ps ps s' os
stays_go s s' os [] mode stays more h = ap (λ (x : TokenPlace). from x os more) stays
stays_go s s' os (between bytes ∷ ps) mode stays more h =
    let first : from s os (between bytes ∷ ps ++ more) ≡ walked s Copying os (plain bytes ++ marks_of (ps ++ more)) = ap (λ (m : GapMode). walked s m os (plain bytes ++ marks_of (ps ++ more))) mode in
    let back : walked s Copying os (marks_of (ps ++ more)) ≡ from s os (ps ++ more) = ap (λ (m : GapMode). walked s m os (marks_of (ps ++ more))) (sym mode) in
    first ∙ copies s os bytes (marks_of (ps ++ more)) ∙ ap (λ (l : List ℕ). bytes ++ l) (back ∙ stays_go s s' os ps mode stays more h.1) ∙ sym (append_assoc bytes (text_of ps) (from s' os more))
stays_go s s' os (a_token [] t ∷ ps) mode stays more h = let none = token_begun [] (text_of (ps ++ more)) t h.0 in let parts : [] ≡ none.first ∷ none.more = none.parts in absurd cc
stays_go s s' os (a_token (b ∷ bytes) t ∷ ps) mode stays more h =
    let s1 = stays.0 in
    let back : walked s1 Copying os (marks_of (ps ++ more)) ≡ from s1 os (ps ++ more) = ap (λ (m : GapMode). walked s1 m os (marks_of (ps ++ more))) (sym stays.2) in
    token_stays s s1 os b bytes t (marks_of (ps ++ more)) (mode_of s) stays.1 ∙ ap (λ (l : List ℕ). b ∷ bytes ++ l) (back ∙ stays_go s1 s' os ps stays.2 stays.3 more h.1)
    ∙ sym (append_assoc (b ∷ bytes) (text_of ps) (from s' os more))

-- ---- quiet tokens

-- no type, and no mark of a function
abbrev pub is_quiet : Lexeme → Bool
is_quiet (word k) = not (is_type k) && not (is_predictable k)
is_quiet _ = true

abbrev pub AreQuiet : List Seen → Type 0
AreQuiet [] = Unit {0}
AreQuiet (t ∷ ts) = (is_quiet t.0 ≡ true) × AreQuiet ts

pub quiet_join : (xs ys : List Seen) → AreQuiet xs → AreQuiet ys → AreQuiet (xs ++ ys)
quiet_join [] ys one two = two
quiet_join (x ∷ xs) ys one two = (one.0, quiet_join xs ys one.1 two)

negated : (x : Bool) → not x ≡ true → x ≡ false
negated true e = sym e
negated false e = refl

quiet_spot : (t : Lexeme) → is_quiet t ≡ true → elsewhere t ≡ Elsewhere
quiet_spot (word k) is =
    let parts = and_parts (not (is_type k)) (not (is_predictable k)) is in
    ap (λ (x : Bool). if x then InMark else type_or k) (negated (is_predictable k) parts.1) ∙ ap (λ (x : Bool). if x then BehindType else Elsewhere) (negated (is_type k) parts.0)
quiet_spot (name x) is = refl
quiet_spot (number v k) is = refl
quiet_spot (mark k) is = refl
quiet_spot end_of_text is = refl

pub quiet_stays : (ts : List Seen) → AreQuiet ts → Stays Elsewhere (lexemes_of ts) Elsewhere
quiet_stays [] q = refl
quiet_stays (t ∷ ts) q = (Elsewhere, (λ o b. ap (kept b) (quiet_spot t.0 q.0)), refl, quiet_stays ts q.1)
