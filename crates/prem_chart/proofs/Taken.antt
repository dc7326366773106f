-- Texts of pieces as a reader of XML takes them.
use Rattle.std.specs.Prelude.{◌&&◌, nat_le, nat_lt, codes, decimal, option_and_then}
use Rattle.std.specs.Fmt.{digits, digits_onto, digit_glyph}
use Rattle.std.proofs.Common.{◌≡◌, ◌≤◌, ◌<◌, ◌+◌, ◌%◌, ◌/◌, ◌==◌, ℕ, zero, suc, List, [], ◌∷◌, ◌++◌, Bool, true, false, cond, Option, Some, None, refl, ap, sym, ◌∙◌, arith, append-nil}
use Rattle.std.proofs.lemmas.Bool.Decides.{nat_tests}
use Rattle.std.proofs.Math.Nat.{mod-lt}
use Rattle.prem_chart.specs.Pieces.{Piece, words, number, name, piece_text, text_of, spelled, escaped}
use Rattle.prem_chart.specs.Xml.{Name, Reading, Before, Content, Marked, Opening, Spaced, Attribute, Equals, Value, Quoted, Empty, Closing, Entity, After, Wrong, is_printed, read, step}

read-append : (r : Reading) (xs ys : List ℕ) → read r (xs ++ ys) ≡ read (read r xs) ys
read-append r [] ys = refl
read-append r (x ∷ xs) ys = read-append (step r x) xs ys

-- from here a text leads there
pub then_taken : (r t u : Reading) (xs ys : List ℕ) → read r xs ≡ t → read t ys ≡ u → read r (xs ++ ys) ≡ u
then_taken r t u xs ys h k = read-append r xs ys ∙ ap (λ x. read x ys) h ∙ k

-- ---- bytes that leave the reader where it is

by_content : (a c d e p : Bool) (r s t u v w : Reading) → a ≡ false → c ≡ false → d ≡ false → p ≡ true → r ≡ u →
    cond a s (cond c t (cond d v (cond e r (cond p u w)))) ≡ u
by_content true c d e p r s t u v w h k l m same = absurd (cc)
by_content false true d e p r s t u v w h k l m same = absurd (cc)
by_content false false true e p r s t u v w h k l m same = absurd (cc)
by_content false false false true p r s t u v w h k l m same = same
by_content false false false false true r s t u v w h k l m same = refl
by_content false false false false false r s t u v w h k l m same = absurd (cc)

content_kept : (around : List Name) (b : ℕ) → (b == 60) ≡ false → (b == 38) ≡ false → (b == 62) ≡ false → is_printed b ≡ true → step (Content around) b ≡ Content around
content_kept around b h k l m =
    by_content (b == 60) (b == 38) (b == 62) (b == 10) (is_printed b) (Content around) (Marked around) (Entity [] around) (Content around) Wrong Wrong h k l m refl

by_value : (a c d p : Bool) (s t u v w : Reading) → a ≡ false → c ≡ false → d ≡ false → p ≡ true → cond a s (cond c t (cond d v (cond p u w))) ≡ u
by_value true c d p s t u v w h k l m = absurd (cc)
by_value false true d p s t u v w h k l m = absurd (cc)
by_value false false true p s t u v w h k l m = absurd (cc)
by_value false false false true s t u v w h k l m = refl
by_value false false false false s t u v w h k l m = absurd (cc)

value_kept : (tag : Name) (has around : List Name) (b : ℕ) → (b == 34) ≡ false → (b == 60) ≡ false → (b == 38) ≡ false → is_printed b ≡ true →
    step (Value tag has around) b ≡ Value tag has around
value_kept tag has around b h k l m =
    by_value (b == 34) (b == 60) (b == 38) (is_printed b) (Quoted tag has around) Wrong (Value tag has around) Wrong Wrong h k l m

-- ---- numbers

abbrev Digits : List ℕ → Type 0
Digits [] = Unit {0}
Digits (b ∷ bytes) = (48 ≤ b) × (b ≤ 57) × Digits bytes

either_digits : (b : Bool) (xs ys : List ℕ) → Digits xs → Digits ys → Digits (cond b xs ys)
either_digits true xs ys h k = h
either_digits false xs ys h k = k

glyph_by : (d other : ℕ) (b : Bool) → nat_lt d 10 ≡ b → d < 10 → cond b (48 + d) other ≡ 48 + d
glyph_by d other true e h = refl
glyph_by d other false e h = absurd (grind (arith, nat_tests))

glyph_is : (d : ℕ) → d < 10 → digit_glyph false d ≡ 48 + d
glyph_is d h = glyph_by d (87 + d) (nat_lt d 10) refl h

onto_digits : (k n : ℕ) (acc : List ℕ) → Digits acc → Digits (digits_onto k 10 false n acc)
onto_digits zero n acc h = h
onto_digits (suc k) n acc h =
    let ten : 0 < 10 = omega arith in
    let less : n % 10 < 10 = mod-lt n ten in
    let is = glyph_is (n % 10) less in
    let more : Digits (digit_glyph false (n % 10) ∷ acc) = (omega (arith, is), omega (arith, is, less), h) in
    either_digits (n / 10 == 0) _ _ more (onto_digits k (n / 10) (digit_glyph false (n % 10) ∷ acc) more)

decimal_digits : (n : ℕ) → Digits (decimal n)
unfolding digits
decimal_digits n = onto_digits 64 n [] tt

is_printed_digit : (b : ℕ) → 48 ≤ b → b ≤ 57 → is_printed b ≡ true
is_printed_digit b h k = both (nat_le 32 b) (nat_le b 126) (grind (arith, nat_tests)) (grind (arith, nat_tests))
  where
    both : (x y : Bool) → x ≡ true → y ≡ true → (x && y) ≡ true
    both true y h k = k
    both false y h k = absurd (cc)

content_digits : (around : List Name) (bytes : List ℕ) → Digits bytes → read (Content around) bytes ≡ Content around
content_digits around [] h = refl
content_digits around (b ∷ bytes) h =
    let low : 48 ≤ b = h.0 in
    let high : b ≤ 57 = h.1 in
    ap (λ r. read r bytes) (content_kept around b (grind (arith, nat_tests)) (grind (arith, nat_tests)) (grind (arith, nat_tests)) (is_printed_digit b low high))
    ∙ content_digits around bytes h.2

value_digits : (tag : Name) (has around : List Name) (bytes : List ℕ) → Digits bytes → read (Value tag has around) bytes ≡ Value tag has around
value_digits tag has around [] h = refl
value_digits tag has around (b ∷ bytes) h =
    let low : 48 ≤ b = h.0 in
    let high : b ≤ 57 = h.1 in
    ap (λ r. read r bytes) (value_kept tag has around b (grind (arith, nat_tests)) (grind (arith, nat_tests)) (grind (arith, nat_tests)) (is_printed_digit b low high))
    ∙ value_digits tag has around bytes h.2

-- ---- names

spelled_by : (around : List Name) (b : ℕ) (a c d q p : Bool) → (b == 38) ≡ a → (b == 60) ≡ c → (b == 62) ≡ d → (b == 34) ≡ q → is_printed b ≡ p →
    read (Content around) (cond a (codes "&amp;") (cond c (codes "&lt;") (cond d (codes "&gt;") (cond q (codes "&quot;") (cond p (b ∷ []) (codes "?")))))) ≡ Content around
spelled_by around b true c d q p h k l m n = refl
spelled_by around b false true d q p h k l m n = refl
spelled_by around b false false true q p h k l m n = refl
spelled_by around b false false false true p h k l m n = refl
spelled_by around b false false false false true h k l m n = content_kept around b k h l n
spelled_by around b false false false false false h k l m n = refl

spelled_taken : (around : List Name) (b : ℕ) → read (Content around) (spelled b) ≡ Content around
spelled_taken around b = spelled_by around b (b == 38) (b == 60) (b == 62) (b == 34) (is_printed b) refl refl refl refl refl

pub escaped_taken : (around : List Name) (bytes : List ℕ) → read (Content around) (escaped bytes) ≡ Content around
escaped_taken around [] = refl
escaped_taken around (b ∷ bytes) = then_taken _ _ _ (spelled b) (escaped bytes) (spelled_taken around b) (escaped_taken around bytes)

-- ---- pieces

-- a number leaves the reader of content and of values where it is, a name that of content
abbrev numbered : Reading → Option Reading
numbered (Content around) = Some (Content around)
numbered (Value tag has around) = Some (Value tag has around)
numbered _ = None

abbrev named : Reading → Option Reading
named (Content around) = Some (Content around)
named _ = None

abbrev taken : Reading → Piece → Option Reading
taken r (words text) = Some (read r text)
taken r (number n) = numbered r
taken r (name bytes) = named r

-- where the reader stands behind pieces, if it takes them
abbrev pub all_taken : Reading → List Piece → Option Reading
all_taken r [] = Some r
all_taken r (p ∷ pieces) = option_and_then (λ t. all_taken t pieces) (taken r p)

same_some : (r t : Reading) → Some r ≡ Some t → r ≡ t
same_some r t e = cc

number_taken : (r : Reading) (n : ℕ) (t : Reading) → numbered r ≡ Some t → read r (decimal n) ≡ t
number_taken (Content around) n t e = content_digits around (decimal n) (decimal_digits n) ∙ same_some _ t e
number_taken (Value tag has around) n t e = value_digits tag has around (decimal n) (decimal_digits n) ∙ same_some _ t e
number_taken Before n t e = absurd (cc)
number_taken (Marked around) n t e = absurd (cc)
number_taken (Opening tag around) n t e = absurd (cc)
number_taken (Spaced tag has around) n t e = absurd (cc)
number_taken (Attribute attribute tag has around) n t e = absurd (cc)
number_taken (Equals tag has around) n t e = absurd (cc)
number_taken (Quoted tag has around) n t e = absurd (cc)
number_taken (Empty around) n t e = absurd (cc)
number_taken (Closing left around) n t e = absurd (cc)
number_taken (Entity bytes around) n t e = absurd (cc)
number_taken After n t e = absurd (cc)
number_taken Wrong n t e = absurd (cc)

name_taken : (r : Reading) (bytes : List ℕ) (t : Reading) → named r ≡ Some t → read r (escaped bytes) ≡ t
name_taken (Content around) bytes t e = escaped_taken around bytes ∙ same_some _ t e
name_taken Before bytes t e = absurd (cc)
name_taken (Marked around) bytes t e = absurd (cc)
name_taken (Opening tag around) bytes t e = absurd (cc)
name_taken (Spaced tag has around) bytes t e = absurd (cc)
name_taken (Attribute attribute tag has around) bytes t e = absurd (cc)
name_taken (Equals tag has around) bytes t e = absurd (cc)
name_taken (Quoted tag has around) bytes t e = absurd (cc)
name_taken (Empty around) bytes t e = absurd (cc)
name_taken (Closing left around) bytes t e = absurd (cc)
name_taken (Entity letters around) bytes t e = absurd (cc)
name_taken After bytes t e = absurd (cc)
name_taken Wrong bytes t e = absurd (cc)
name_taken (Value tag has around) bytes t e = absurd (cc)

piece_taken : (r : Reading) (p : Piece) (t : Reading) → taken r p ≡ Some t → read r (piece_text p) ≡ t
piece_taken r (words text) t e = same_some _ t e
piece_taken r (number n) t e = number_taken r n t e
piece_taken r (name bytes) t e = name_taken r bytes t e

text_cons : (p : Piece) (pieces : List Piece) → text_of (p ∷ pieces) ≡ piece_text p ++ text_of pieces
text_cons p [] = sym (append-nil (piece_text p))
text_cons p (q ∷ more) = refl

pub taken_text : (r : Reading) (pieces : List Piece) (t : Reading) → all_taken r pieces ≡ Some t → read r (text_of pieces) ≡ t
taken_text r [] t e = same_some r t e
taken_text r (p ∷ pieces) t e = go (taken r p) refl e (λ u h. taken_text u pieces t h)
  where
    go : (o : Option Reading) → taken r p ≡ o → option_and_then (λ u. all_taken u pieces) o ≡ Some t → ((u : Reading) → all_taken u pieces ≡ Some t → read u (text_of pieces) ≡ t) →
        read r (text_of (p ∷ pieces)) ≡ t
    go None is h rest = absurd (cc)
    go (Some u) is h rest = ap (read r) (text_cons p pieces) ∙ then_taken r u t (piece_text p) (text_of pieces) (piece_taken r p u is) (rest u h)
