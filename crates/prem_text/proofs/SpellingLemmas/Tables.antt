-- Tables of spellings, and the reserved words.
use Rattle.std.proofs.Common.{◌≡◌, ℕ, Bool, true, false, List, [], ◌∷◌, Option, None, Some, refl, sym, ap, subst, ◌∙◌, not, ◌&&◌, ◌||◌, bytes_eq, is_none, inl, inr, if◌then◌else◌}
use Rattle.std.specs.Prelude.{◌⊎◌}
use Rattle.prem_text.proofs.Prelude.{words, unused, word_in, used_word, is_one_of, is_unused, reserved_word, is_name_byte, StandsIn, at_front, further, every, is_letter, Reserved}
use Rattle.prem_text.proofs.Prelude.{without_use, Word, and_parts, or_left, not-true}
use Rattle.prem_text.specs.Spelling.Spellings.{used}
use Rattle.std.proofs.lemmas.Slice.Eq.{bytes_eq-Decides}
use Rattle.prem_text.specs.declared.lexing.token.token.Word.TheVariants as w

pub stands_every : {X : Type 0} (p : X → Bool) (x : X) (xs : List X) → StandsIn x xs → every p xs ≡ true → p x ≡ true
stands_every p x _ (at_front xs) all = (and_parts (p x) (every p xs) all).0
stands_every p x _ (further y xs there) all = stands_every p x xs there (and_parts (p y) (every p xs) all).1

none_in : {X : Type 0} (z : X) (zs : List X) → StandsIn z zs → zs ≡ [] → ⊥
none_in z _ (at_front xs) e = cc
none_in z _ (further y xs t) e = cc

pub stands_none : {X : Type 0} (x : X) → StandsIn x [] → ⊥
stands_none x s = none_in x [] s refl

pub split : {X : Type 0} (z : X) (ys : List X) → StandsIn z ys → (x : X) (xs : List X) → ys ≡ x ∷ xs → (x ≡ z) ⊎ StandsIn z xs
split z _ (at_front us) x xs e = let same : x ≡ z = cc in inl same
split z _ (further y us there) x xs e = let same : us ≡ xs = cc in inr (subst (λ (l : List _). StandsIn z l) same there)

pub pair_is : {A B : Type 0} (x : A × B) (a : A) (b : B) → x.0 ≡ a → x.1 ≡ b → x ≡ (a, b)
pair_is x a b p q = λ i. (p i, q i)

pub same_bytes : (xs ys : List ℕ) → bytes_eq xs ys ≡ true → xs ≡ ys
same_bytes xs ys is = (bytes_eq-Decides xs ys).0 is

same_is : (xs ys : List ℕ) → xs ≡ ys → bytes_eq xs ys ≡ true
same_is xs ys e = (bytes_eq-Decides xs ys).1 e

-- ---- keys

abbrev pub distinct : {K : Type 0} → List (List ℕ × K) → Bool
distinct [] = true
distinct (x ∷ xs) = every (λ y. not (bytes_eq x.0 y.0)) xs && distinct xs

key_apart : {K : Type 0} (x z : List ℕ × K) (xs : List (List ℕ × K)) → every (λ y. not (bytes_eq x.0 y.0)) xs ≡ true → StandsIn z xs → x.0 ≡ z.0 → ⊥
key_apart x z xs all there same =
    let differ = not-true (bytes_eq x.0 z.0) (stands_every (λ y. not (bytes_eq x.0 y.0)) z xs there all) in
    let equal = same_is x.0 z.0 same in
    let e : false ≡ true = sym differ ∙ equal in cc

one_by : {K : Type 0} (y z x : List ℕ × K) (xs : List (List ℕ × K)) → every (λ u. not (bytes_eq x.0 u.0)) xs ≡ true → (StandsIn y xs → StandsIn z xs → y.1 ≡ z.1) → y.0 ≡ z.0 →
    (x ≡ y) ⊎ StandsIn y xs → (x ≡ z) ⊎ StandsIn z xs → y.1 ≡ z.1
one_by y z x xs apart rec same (inl e) (inl f) = ap (λ (p : List ℕ × _). p.1) (sym e ∙ f)
one_by y z x xs apart rec same (inl e) (inr t) = absurd (key_apart x z xs apart t (ap (λ (p : List ℕ × _). p.0) e ∙ same))
one_by y z x xs apart rec same (inr s) (inl f) = absurd (key_apart x y xs apart s (ap (λ (p : List ℕ × _). p.0) f ∙ sym same))
one_by y z x xs apart rec same (inr s) (inr t) = rec s t

-- in a table of distinct keys a key has one value
pub one_value : {K : Type 0} (y z : List ℕ × K) (xs : List (List ℕ × K)) → distinct xs ≡ true → StandsIn y xs → StandsIn z xs → y.0 ≡ z.0 → y.1 ≡ z.1
one_value y z [] d s t same = absurd (stands_none y s)
one_value y z (x ∷ xs) d s t same =
    let parts = and_parts (every (λ u. not (bytes_eq x.0 u.0)) xs) (distinct xs) d in
    one_by y z x xs parts.0 (λ s2 t2. one_value y z xs parts.1 s2 t2 same) same (split y (x ∷ xs) s x xs refl) (split z (x ∷ xs) t x xs refl)

-- ---- reserved words

found_by : (b : Bool) (x : List ℕ × Word) (xs : List (List ℕ × Word)) (bytes : List ℕ) (k : Word) → bytes_eq bytes x.0 ≡ b →
    (word_in xs bytes ≡ Some k → StandsIn (bytes, k) xs) → word_in (x ∷ xs) bytes ≡ Some k → StandsIn (bytes, k) (x ∷ xs)
found_by true x xs bytes k e rec is =
    let value : Some x.1 ≡ Some k = rw e at is in
    let one : x.1 ≡ k = cc in
    let row = pair_is x bytes k (sym (same_bytes bytes x.0 e)) one in
    subst (λ (r : List ℕ × Word). StandsIn (bytes, k) (r ∷ xs)) (sym row) (at_front xs)
found_by false x xs bytes k e rec is = further x xs (rec (rw e at is))

word_found : (xs : List (List ℕ × Word)) (bytes : List ℕ) (k : Word) → word_in xs bytes ≡ Some k → StandsIn (bytes, k) xs
word_found [] bytes k is = absurd cc
word_found (x ∷ xs) bytes k is = found_by (bytes_eq bytes x.0) x xs bytes k refl (word_found xs bytes k) is

none_by : (b : Bool) (x : List ℕ × Word) (xs : List (List ℕ × Word)) (bytes : List ℕ) (k : Word) → bytes_eq bytes x.0 ≡ b → word_in (x ∷ xs) bytes ≡ None →
    (word_in xs bytes ≡ None → StandsIn (bytes, k) xs → ⊥) → (x ≡ (bytes, k)) ⊎ StandsIn (bytes, k) xs → ⊥
none_by true x xs bytes k e is rec there = let off : Some x.1 ≡ None = rw e at is in cc
none_by false x xs bytes k e is rec (inl row) =
    let same = same_is bytes x.0 (sym (ap (λ (p : List ℕ × Word). p.0) row)) in
    let off : false ≡ true = sym e ∙ same in cc
none_by false x xs bytes k e is rec (inr t) = rec (rw e at is) t

word_none : (xs : List (List ℕ × Word)) (bytes : List ℕ) (k : Word) → word_in xs bytes ≡ None → StandsIn (bytes, k) xs → ⊥
word_none [] bytes k is there = stands_none (bytes, k) there
word_none (x ∷ xs) bytes k is there = none_by (bytes_eq bytes x.0) x xs bytes k refl is (word_none xs bytes k) (split (bytes, k) (x ∷ xs) there x xs refl)

words_distinct : distinct words ≡ true
words_distinct = refl

used_by : (o : Option Word) (bytes : List ℕ) (k : Word) → word_in words bytes ≡ o → StandsIn (bytes, k) words → o ≡ Some k
used_by None bytes k is there = absurd (word_none words bytes k is there)
used_by (Some l) bytes k is there = ap (λ (x : Word). Some x) (one_value (bytes, l) (bytes, k) words words_distinct (word_found words bytes l is) there refl)

used_read : (bytes : List ℕ) (k : Word) → StandsIn (bytes, k) words → used_word bytes ≡ Some k
unfolding used_word
used_read bytes k there = used_by (word_in words bytes) bytes k refl there

used_found : (bytes : List ℕ) (k : Word) → used_word bytes ≡ Some k → StandsIn (bytes, k) words
unfolding used_word
used_found bytes k is = word_found words bytes k is

one_of_by : (x bytes : List ℕ) (xs : List (List ℕ)) → (StandsIn bytes xs → is_one_of xs bytes ≡ true) → (x ≡ bytes) ⊎ StandsIn bytes xs → (bytes_eq bytes x || is_one_of xs bytes) ≡ true
one_of_by x bytes xs rec (inl e) = or_left (bytes_eq bytes x) (is_one_of xs bytes) (same_is bytes x (sym e))
one_of_by x bytes xs rec (inr t) = rw (rec t) (or_true (bytes_eq bytes x))
  where
    or_true : (b : Bool) → (b || true) ≡ true
    or_true true = refl
    or_true false = refl

one_of_read : (xs : List (List ℕ)) (bytes : List ℕ) → StandsIn bytes xs → is_one_of xs bytes ≡ true
one_of_read [] bytes t = absurd (stands_none bytes t)
one_of_read (x ∷ xs) bytes t = one_of_by x bytes xs (one_of_read xs bytes) (split bytes (x ∷ xs) t x xs refl)

one_of_found_by : (b : Bool) (x bytes : List ℕ) (xs : List (List ℕ)) → bytes_eq bytes x ≡ b → (is_one_of xs bytes ≡ true → StandsIn bytes xs) →
    (b || is_one_of xs bytes) ≡ true → StandsIn bytes (x ∷ xs)
one_of_found_by true x bytes xs e rec is = subst (λ (y : List ℕ). StandsIn bytes (y ∷ xs)) (same_bytes bytes x e) (at_front xs)
one_of_found_by false x bytes xs e rec is = further x xs (rec is)

one_of_found : (xs : List (List ℕ)) (bytes : List ℕ) → is_one_of xs bytes ≡ true → StandsIn bytes xs
one_of_found [] bytes is = absurd cc
one_of_found (x ∷ xs) bytes is = one_of_found_by (bytes_eq bytes x) x bytes xs refl (one_of_found xs bytes) is

abbrev from_used : Bool → Option Word → Option Word
from_used b (Some x) = Some x
from_used b None = if b then Some w.Unused else None

reserved_is : (bytes : List ℕ) → reserved_word bytes ≡ from_used (is_unused bytes) (used_word bytes)
unfolding reserved_word
reserved_is bytes = same (is_unused bytes) (used_word bytes)
  where
    same : (b : Bool) (o : Option Word) → (elim o [ Some x ↦ Some x | None ↦ if b then Some w.Unused else None ]) ≡ from_used b o
    same b None = refl
    same b (Some x) = refl

is_none_at : (o : Option Word) → is_none o ≡ true → o ≡ None
is_none_at None is = refl
is_none_at (Some x) is = absurd cc

unused_apart : every (λ b. is_none (used_word b)) unused ≡ true
unfolding used_word
unused_apart = refl

pub reserved_read : (bytes : List ℕ) (k : Word) → Reserved bytes k → reserved_word bytes ≡ Some k
unfolding is_unused
reserved_read bytes k (used _ _ there) = reserved_is bytes ∙ ap (from_used (is_unused bytes)) (used_read bytes k there)
reserved_read bytes _ (without_use _ there) =
    let none = is_none_at (used_word bytes) (stands_every (λ b. is_none (used_word b)) bytes unused there unused_apart) in
    let is : is_one_of unused bytes ≡ true = one_of_read unused bytes there in
    reserved_is bytes ∙ ap (from_used (is_unused bytes)) none ∙ ap (λ (b : Bool). from_used b None) is

reserved_by : (b : Bool) (o : Option Word) (bytes : List ℕ) (k : Word) → is_one_of unused bytes ≡ b → used_word bytes ≡ o → from_used b o ≡ Some k → Reserved bytes k
reserved_by b (Some l) bytes k un us is = let e : l ≡ k = cc in used bytes k (subst (λ (x : Word). StandsIn (bytes, x) words) e (used_found bytes l us))
reserved_by true None bytes k un us is = let e : w.Unused ≡ k = cc in subst (λ (x : Word). Reserved bytes x) e (without_use bytes (one_of_found unused bytes un))
reserved_by false None bytes k un us is = absurd cc

pub reserved_found : (bytes : List ℕ) (k : Word) → reserved_word bytes ≡ Some k → Reserved bytes k
unfolding is_unused
reserved_found bytes k is = reserved_by (is_unused bytes) (used_word bytes) bytes k refl refl (sym (reserved_is bytes) ∙ is)

-- every reserved word begins with a letter, and is of name bytes
abbrev pub is_word_row : List ℕ → Bool
is_word_row [] = false
is_word_row (b ∷ rest) = is_letter b && every is_name_byte rest

words_are_rows : every (λ (x : List ℕ × Word). is_word_row x.0) words ≡ true
words_are_rows = refl

unused_are_rows : every is_word_row unused ≡ true
unused_are_rows = refl

pub reserved_row : (bytes : List ℕ) (k : Word) → Reserved bytes k → is_word_row bytes ≡ true
reserved_row bytes k (used _ _ there) = stands_every (λ (x : List ℕ × Word). is_word_row x.0) (bytes, k) words there words_are_rows
reserved_row bytes _ (without_use _ there) = stands_every is_word_row bytes unused there unused_are_rows
