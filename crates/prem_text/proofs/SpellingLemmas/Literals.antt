-- Literals: what is read is spelled so, and what is spelled so is read.
use Rattle.std.proofs.Common.{append-nil, ◌≡◌, ◌≤◌, ◌<◌, ℕ, zero, suc, ◌+◌, ◌*◌, ◌^◌, Bool, true, false, List, [], ◌∷◌, ◌++◌, length, Option, None, Some, refl, sym, ap, subst, ◌∙◌, arith}
use Rattle.std.proofs.Common.{nat_lt, ◌&&◌, ◌||◌, ◌==◌, slice_index, add-mul, mul_assoc, add_assoc, mul-one, add-zero, option_and_then, if◌then◌else◌}
use Rattle.prem_text.proofs.Prelude.{digit_value, is_suffix, digits, with_kind, literal_word, is_digit, is_name_byte, every, is_hexadecimal, value_in, Digits, just_zero, decimal}
use Rattle.prem_text.proofs.Prelude.{hexadecimal, Literal, as_int, as_large, as_suffixed, Kind, Int, Unsigned, and_parts, and_from, nat_tests}
use Rattle.prem_text.proofs.SpellingLemmas.Bytes.{value_suffix, suffix_x, suffix_digit, suffix_name, digit_decimal, decimal_digit, digit_name, hexadecimal_name, x_name, every_append}
use Rattle.prem_text.proofs.SpellingLemmas.Bytes.{every_more}
use native.Mathlib.Nat.{pow-zero}
use native.Mathlib.Omega.{pow_step}

-- a number, and digits behind it
abbrev after : ℕ → ℕ → List ℕ → ℕ
after base n [] = n
after base n (d ∷ ds) = after base (n * base + digit_value d) ds

abbrev fits : ℕ → ℕ → Bool
fits base d = nat_lt (digit_value d) base

pub shifted : (n b v p e : ℕ) → (n * b + v) * p + e ≡ n * (b * p) + (v * p + e)
shifted n b v p e = ap (λ (x : ℕ). x + e) (add-mul (n * b) v p ∙ ap (λ (x : ℕ). x + v * p) (mul_assoc n b p)) ∙ add_assoc (n * (b * p)) (v * p) e

after_is : (base n : ℕ) (ds : List ℕ) → after base n ds ≡ n * base ^ length ds + value_in base ds
after_is base n [] = sym (ap (λ (x : ℕ). n * x + 0) (pow-zero base) ∙ add-zero (n * 1) ∙ mul-one n)
after_is base n (d ∷ ds) =
    after_is base (n * base + digit_value d) ds ∙ shifted n base (digit_value d) (base ^ length ds) (value_in base ds)
    ∙ ap (λ (x : ℕ). n * x + (digit_value d * base ^ length ds + value_in base ds)) (sym (pow_step base (length ds)))

value_after : (base : ℕ) (ds : List ℕ) → after base 0 ds ≡ value_in base ds
value_after base ds = let e = after_is base 0 ds in let z : 0 * base ^ length ds ≡ 0 = grind arith in e ∙ ap (λ (x : ℕ). x + value_in base ds) z ∙ omega arith

grows : (n b v : ℕ) → 0 < b → n ≤ n * b + v
grows n (suc b) v pos = let e : n * suc b ≡ n * b + n = grind arith in omega arith
grows n zero v pos = absurd (omega arith)

after_more : (base n : ℕ) (ds : List ℕ) → 0 < base → n ≤ after base n ds
after_more base n [] pos = omega arith
after_more base n (d ∷ ds) pos =
    let here = grows n base (digit_value d) pos in
    let rest = after_more base (n * base + digit_value d) ds pos in omega arith

digits_step : (base n d : ℕ) (ds : List ℕ) → is_suffix d ≡ false → fits base d ≡ true → nat_lt (n * base + digit_value d) (2 ^ 32) ≡ true →
    digits base n (d ∷ ds) ≡ digits base (n * base + digit_value d) ds
digits_step base n d ds off is lt = rw (off, is, lt) refl

digits_through : (base n : ℕ) (ds tail : List ℕ) → base ≤ 16 → 0 < base → every (fits base) ds ≡ true → after base n ds < 2 ^ 32 → digits base n (ds ++ tail) ≡ digits base (after base n ds) tail
digits_through base n [] tail le pos all lt = refl
digits_through base n (d ∷ ds) tail le pos all lt =
    let parts = and_parts (fits base d) (every (fits base) ds) all in
    let small : n * base + digit_value d ≤ after base (n * base + digit_value d) ds = after_more base (n * base + digit_value d) ds pos in
    let under : nat_lt (n * base + digit_value d) (2 ^ 32) ≡ true = lt_test (n * base + digit_value d) (after base (n * base + digit_value d) ds) small lt in
    digits_step base n d (ds ++ tail) (value_suffix base d le parts.0) parts.0 under ∙ digits_through base (n * base + digit_value d) ds tail le pos parts.1 lt
  where
    lt_test : (a b : ℕ) → a ≤ b → b < 2 ^ 32 → nat_lt a (2 ^ 32) ≡ true
    lt_test a b le lt = grind (arith, nat_tests)

-- what may stand behind the digits of a literal
pub data IsTail : List ℕ → Bool → Type 0 where
  no_tail : IsTail [] false
  a_tail : (u : ℕ) → is_suffix u ≡ true → IsTail (u ∷ []) true

digits_tail : (base m : ℕ) (tail : List ℕ) (flag : Bool) → IsTail tail flag → digits base m tail ≡ Some (m, flag)
digits_tail base m _ _ no_tail = refl
digits_tail base m _ _ (a_tail u is) = rw is refl

no_x : (tail : List ℕ) (flag : Bool) → IsTail tail flag → (slice_index (48 ∷ tail) 1 == 120 || slice_index (48 ∷ tail) 1 == 88) ≡ false
no_x _ _ no_tail = refl
no_x _ _ (a_tail u is) = suffix_x u is

zero_word : (tail : List ℕ) → (slice_index (48 ∷ tail) 1 == 120 || slice_index (48 ∷ tail) 1 == 88) ≡ false → literal_word (48 ∷ tail) ≡ option_and_then (with_kind false) (digits 0 0 tail)
unfolding literal_word
zero_word tail off = rw off refl

hexadecimal_word : (x d : ℕ) (ds : List ℕ) → (x == 120 || x == 88) ≡ true → is_hexadecimal d ≡ true → literal_word (48 ∷ x ∷ d ∷ ds) ≡ option_and_then (with_kind true) (digits 16 0 (d ∷ ds))
unfolding literal_word
hexadecimal_word x d ds is hex = rw (is, hex) refl

decimal_word : (d : ℕ) (ds : List ℕ) → (d == 48) ≡ false → literal_word (d ∷ ds) ≡ option_and_then (with_kind false) (digits 10 0 (d ∷ ds))
unfolding literal_word
decimal_word d ds off = rw off refl

read_digits : (hex : Bool) (front : List ℕ) (n : ℕ) → Digits hex front n → n < 2 ^ 32 → (tail : List ℕ) (flag : Bool) → IsTail tail flag → literal_word (front ++ tail) ≡ with_kind hex (n, flag)
read_digits _ _ _ just_zero lt tail flag is = zero_word tail (no_x tail flag is) ∙ ap (option_and_then (with_kind false)) (digits_tail 0 0 tail flag is)
read_digits _ _ _ (decimal d ds all off) lt tail flag is =
    let valid = every_more is_digit (fits 10) digit_decimal (d ∷ ds) all in
    let e = value_after 10 (d ∷ ds) in
    let within : after 10 0 (d ∷ ds) < 2 ^ 32 = subst (λ (k : ℕ). k < 2 ^ 32) (sym e) lt in
    decimal_word d (ds ++ tail) off
    ∙ ap (option_and_then (with_kind false)) (digits_through 10 0 (d ∷ ds) tail (omega arith) (omega arith) valid within ∙ digits_tail 10 _ tail flag is)
    ∙ ap (λ (k : ℕ). with_kind false (k, flag)) e
read_digits _ _ _ (hexadecimal x d ds is_x all) lt tail flag is =
    let e = value_after 16 (d ∷ ds) in
    let within : after 16 0 (d ∷ ds) < 2 ^ 32 = subst (λ (k : ℕ). k < 2 ^ 32) (sym e) lt in
    hexadecimal_word x d (ds ++ tail) is_x (and_parts (is_hexadecimal d) (every is_hexadecimal ds) all).0
    ∙ ap (option_and_then (with_kind true)) (digits_through 16 0 (d ∷ ds) tail (omega arith) (omega arith) all within ∙ digits_tail 16 _ tail flag is)
    ∙ ap (λ (k : ℕ). with_kind true (k, flag)) e

int_kind : (hex : Bool) (n : ℕ) → n ≤ 2147483647 → with_kind hex (n, false) ≡ Some (n, Int)
int_kind hex n le = let lt : nat_lt n (2 ^ 31) ≡ true = grind (arith, nat_tests) in rw lt refl

large_kind : (n : ℕ) → 2147483647 < n → with_kind true (n, false) ≡ Some (n, Unsigned)
large_kind n lt = let off : nat_lt n (2 ^ 31) ≡ false = grind (arith, nat_tests) in rw off refl

pub literal_read : (word : List ℕ) (n : ℕ) (kind : Kind) → Literal word n kind → literal_word word ≡ Some (n, kind)
literal_read _ _ _ (as_int hex front n is le) = ap literal_word (sym (append-nil front)) ∙ read_digits hex front n is (omega arith) [] false no_tail ∙ int_kind hex n le
literal_read _ _ _ (as_large front n is lt le) = ap literal_word (sym (append-nil front)) ∙ read_digits true front n is (omega arith) [] false no_tail ∙ large_kind n lt
literal_read _ _ _ (as_suffixed hex front n u is suffix le) = read_digits hex front n is (omega arith) (u ∷ []) true (a_tail u suffix)

-- ---- what is read is spelled so

data Found (base n : ℕ) : List ℕ → ℕ × Bool → Type 0 where
  found : (front tail : List ℕ) (flag : Bool) → every (fits base) front ≡ true → after base n front < 2 ^ 32 → IsTail tail flag → Found base n (front ++ tail) (after base n front, flag)

found_more : (base n d : ℕ) (ds : List ℕ) (x : ℕ × Bool) → fits base d ≡ true → Found base (n * base + digit_value d) ds x → Found base n (d ∷ ds) x
found_more base n d _ _ is (found front tail flag all lt shut) = found (d ∷ front) tail flag (and_from (fits base d) (every (fits base) front) is all) lt shut

is_nothing : (ds : List ℕ) (b : Bool) → (length ds == 0) ≡ b → b ≡ true → ds ≡ []
is_nothing [] b is onto = refl
is_nothing (d ∷ ds) b is onto = let off : (length (d ∷ ds) == 0) ≡ true = is ∙ onto in absurd (grind (arith, nat_tests))

suffix_by : (b : Bool) (base n d : ℕ) (ds : List ℕ) (x : ℕ × Bool) → (length ds == 0) ≡ b → is_suffix d ≡ true → n < 2 ^ 32 → (if b then Some (n, true) else None) ≡ Some x → Found base n (d ∷ ds) x
suffix_by true base n d ds x e suffix lt is =
    let value : (n, true) ≡ x = cc in
    let nothing = is_nothing ds true e refl in
    let one : Found base n (d ∷ []) (n, true) = found [] (d ∷ []) true refl lt (a_tail d suffix) in
    subst (λ (y : ℕ × Bool). Found base n (d ∷ ds) y) value (subst (λ (l : List ℕ). Found base n (d ∷ l) (n, true)) (sym nothing) one)
suffix_by false base n d ds x e suffix lt is = absurd cc

digit_by : (a b : Bool) (base n d : ℕ) (ds : List ℕ) (x : ℕ × Bool) → fits base d ≡ a → nat_lt (n * base + digit_value d) (2 ^ 32) ≡ b →
    (n * base + digit_value d < 2 ^ 32 → digits base (n * base + digit_value d) ds ≡ Some x → Found base (n * base + digit_value d) ds x) →
    (if a && b then digits base (n * base + digit_value d) ds else None) ≡ Some x → Found base n (d ∷ ds) x
digit_by true true base n d ds x fit lt rec is = found_more base n d ds x fit (rec (lt_from (n * base + digit_value d) lt) is)
  where
    lt_from : (k : ℕ) → nat_lt k (2 ^ 32) ≡ true → k < 2 ^ 32
    lt_from k is = grind (arith, nat_tests)
digit_by true false base n d ds x fit lt rec is = absurd cc
digit_by false b base n d ds x fit lt rec is = absurd cc

found_by : (s : Bool) (base n d : ℕ) (ds : List ℕ) (x : ℕ × Bool) → is_suffix d ≡ s → n < 2 ^ 32 →
    (n * base + digit_value d < 2 ^ 32 → digits base (n * base + digit_value d) ds ≡ Some x → Found base (n * base + digit_value d) ds x) →
    digits base n (d ∷ ds) ≡ Some x → Found base n (d ∷ ds) x
found_by true base n d ds x e lt rec is = suffix_by (length ds == 0) base n d ds x refl e lt (rw e at is)
found_by false base n d ds x e lt rec is = digit_by (fits base d) (nat_lt (n * base + digit_value d) (2 ^ 32)) base n d ds x refl refl rec (rw e at is)

digits_found : (base n : ℕ) (ds : List ℕ) (x : ℕ × Bool) → n < 2 ^ 32 → digits base n ds ≡ Some x → Found base n ds x
digits_found base n [] x lt is = let value : (n, false) ≡ x = cc in subst (λ (y : ℕ × Bool). Found base n [] y) value (found [] [] false refl lt no_tail)
digits_found base n (d ∷ ds) x lt is = found_by (is_suffix d) base n d ds x refl lt (λ less read. digits_found base (n * base + digit_value d) ds x less read) is

plain_by : (b hex : Bool) (front : List ℕ) (n : ℕ) (x : ℕ × Kind) → nat_lt n (2 ^ 31) ≡ b → Digits hex front n → n < 2 ^ 32 →
    (if b then Some (n, Int) else if hex then Some (n, Unsigned) else None) ≡ Some x → Literal front x.0 x.1
plain_by true hex front n x lt is small e =
    let value : (n, Int) ≡ x = cc in
    let le : n ≤ 2147483647 = grind (arith, nat_tests) in
    subst (λ (y : ℕ × Kind). Literal front y.0 y.1) value (as_int hex front n is le)
plain_by false true front n x lt is small e =
    let value : (n, Unsigned) ≡ x = cc in
    let more : 2147483647 < n = grind (arith, nat_tests) in
    subst (λ (y : ℕ × Kind). Literal front y.0 y.1) value (as_large front n is more (omega arith))
plain_by false false front n x lt is small e = absurd cc

kind_sound : (hex flag : Bool) (front tail : List ℕ) (n : ℕ) (x : ℕ × Kind) → Digits hex front n → n < 2 ^ 32 → IsTail tail flag → with_kind hex (n, flag) ≡ Some x → Literal (front ++ tail) x.0 x.1
kind_sound hex _ front _ n x is small no_tail e =
    subst (λ (l : List ℕ). Literal l x.0 x.1) (sym (append-nil front)) (plain_by (nat_lt n (2 ^ 31)) hex front n x refl is small e)
kind_sound hex _ front _ n x is small (a_tail u suffix) e =
    let value : (n, Unsigned) ≡ x = cc in
    subst (λ (y : ℕ × Kind). Literal (front ++ u ∷ []) y.0 y.1) value (as_suffixed hex front n u is suffix (omega arith))

tail_front : (tail : List ℕ) (flag : Bool) (d : ℕ) (ds : List ℕ) → IsTail tail flag → tail ≡ d ∷ ds → is_suffix d ≡ true
tail_front _ _ d ds no_tail e = absurd cc
tail_front _ _ d ds (a_tail u is) e = let same : u ≡ d = cc in ap is_suffix (sym same) ∙ is

zero_shape : (rest : List ℕ) (y : ℕ × Bool) (x : ℕ × Kind) → Found 0 0 rest y → with_kind false y ≡ Some x → Literal (48 ∷ rest) x.0 x.1
zero_shape _ _ x (found [] tail flag all lt shut) e = kind_sound false flag (48 ∷ []) tail 0 x just_zero lt shut e
zero_shape _ _ x (found (c ∷ cs) tail flag all lt shut) e = let off : nat_lt (digit_value c) 0 ≡ true = (and_parts (fits 0 c) (every (fits 0) cs) all).0 in absurd (grind (arith, nat_tests))

decimal_shape : (word : List ℕ) (y : ℕ × Bool) (x : ℕ × Kind) (d : ℕ) (ds : List ℕ) → Found 10 0 word y → word ≡ d ∷ ds → is_digit d ≡ true →
    (d == 48) ≡ false → with_kind false y ≡ Some x → Literal word x.0 x.1
decimal_shape _ _ x d ds (found [] tail flag all lt shut) same digit off e =
    let onto = suffix_digit d (tail_front tail flag d ds shut same) in
    let clash : true ≡ false = sym digit ∙ onto in absurd cc
decimal_shape _ _ x d ds (found (c ∷ cs) tail flag all lt shut) same digit off e =
    let first : c ≡ d = cc in
    let value = value_after 10 (c ∷ cs) in
    let valid = every_more (fits 10) is_digit decimal_digit (c ∷ cs) all in
    let spelled = decimal c cs valid (ap (λ (k : ℕ). k == 48) first ∙ off) in
    kind_sound false flag (c ∷ cs) tail (value_in 10 (c ∷ cs)) x spelled (subst (λ (k : ℕ). k < 2 ^ 32) value lt) shut (ap (λ (k : ℕ). with_kind false (k, flag)) (sym value) ∙ e)

hexadecimal_shape : (word : List ℕ) (y : ℕ × Bool) (x : ℕ × Kind) (sign d : ℕ) (ds : List ℕ) → (sign == 120 || sign == 88) ≡ true → Found 16 0 word y → word ≡ d ∷ ds → is_hexadecimal d ≡ true →
    with_kind true y ≡ Some x → Literal (48 ∷ sign ∷ word) x.0 x.1
hexadecimal_shape _ _ x sign d ds is_x (found [] tail flag all lt shut) same digit e =
    let off = value_suffix 16 d (omega arith) digit in
    let clash : true ≡ false = sym (tail_front tail flag d ds shut same) ∙ off in absurd cc
hexadecimal_shape _ _ x sign d ds is_x (found (c ∷ cs) tail flag all lt shut) same digit e =
    let value = value_after 16 (c ∷ cs) in
    kind_sound true flag (48 ∷ sign ∷ c ∷ cs) tail (value_in 16 (c ∷ cs)) x (hexadecimal sign c cs is_x all) (subst (λ (k : ℕ). k < 2 ^ 32) value lt)
    shut (ap (λ (k : ℕ). with_kind true (k, flag)) (sym value) ∙ e)

-- what digits are read as
by_digits : (T : Type 0) (base : ℕ) (hex : Bool) (ds : List ℕ) (x : ℕ × Kind) → option_and_then (with_kind hex) (digits base 0 ds) ≡ Some x →
    ((y : ℕ × Bool) → Found base 0 ds y → with_kind hex y ≡ Some x → T) → T
by_digits T base hex ds x is shape = go (digits base 0 ds) refl is
  where
    go : (o : Option (ℕ × Bool)) → digits base 0 ds ≡ o → option_and_then (with_kind hex) o ≡ Some x → T
    go None e is = absurd cc
    go (Some y) e is = shape y (digits_found base 0 ds y (omega arith) e) is

plain_zero : (tail : List ℕ) (x : ℕ × Kind) → (slice_index (48 ∷ tail) 1 == 120 || slice_index (48 ∷ tail) 1 == 88) ≡ false → literal_word (48 ∷ tail) ≡ Some x → Literal (48 ∷ tail) x.0 x.1
plain_zero tail x off is = by_digits (Literal (48 ∷ tail) x.0 x.1) 0 false tail x (sym (zero_word tail off) ∙ is) (λ y f e. zero_shape tail y x f e)

no_digits : (sign : ℕ) → (sign == 120 || sign == 88) ≡ true → literal_word (48 ∷ sign ∷ []) ≡ None
unfolding literal_word
no_digits sign is = rw is refl

wrong_digit : (sign d : ℕ) (ds : List ℕ) → (sign == 120 || sign == 88) ≡ true → is_hexadecimal d ≡ false → literal_word (48 ∷ sign ∷ d ∷ ds) ≡ None
unfolding literal_word
wrong_digit sign d ds is off = rw (is, off) refl

hexadecimal_by : (b : Bool) (sign d : ℕ) (ds : List ℕ) (x : ℕ × Kind) → is_hexadecimal d ≡ b → (sign == 120 || sign == 88) ≡ true →
    literal_word (48 ∷ sign ∷ d ∷ ds) ≡ Some x → Literal (48 ∷ sign ∷ d ∷ ds) x.0 x.1
hexadecimal_by true sign d ds x hex is e =
    by_digits (Literal (48 ∷ sign ∷ d ∷ ds) x.0 x.1) 16 true (d ∷ ds) x (sym (hexadecimal_word sign d ds is hex) ∙ e)
    (λ y f k. hexadecimal_shape (d ∷ ds) y x sign d ds is f refl hex k)
hexadecimal_by false sign d ds x hex is e = let off : None ≡ Some x = sym (wrong_digit sign d ds is hex) ∙ e in absurd cc

sign_by : (b : Bool) (sign : ℕ) (more : List ℕ) (x : ℕ × Kind) → (sign == 120 || sign == 88) ≡ b → literal_word (48 ∷ sign ∷ more) ≡ Some x → Literal (48 ∷ sign ∷ more) x.0 x.1
sign_by false sign more x e is = plain_zero (sign ∷ more) x e is
sign_by true sign [] x e is = let off : None ≡ Some x = sym (no_digits sign e) ∙ is in absurd cc
sign_by true sign (d ∷ ds) x e is = hexadecimal_by (is_hexadecimal d) sign d ds x refl e is

zero_found : (rest : List ℕ) (x : ℕ × Kind) → literal_word (48 ∷ rest) ≡ Some x → Literal (48 ∷ rest) x.0 x.1
zero_found [] x is = plain_zero [] x refl is
zero_found (sign ∷ more) x is = sign_by (sign == 120 || sign == 88) sign more x refl is

literal_by : (b : Bool) (d : ℕ) (ds : List ℕ) (x : ℕ × Kind) → (d == 48) ≡ b → is_digit d ≡ true → literal_word (d ∷ ds) ≡ Some x → Literal (d ∷ ds) x.0 x.1
literal_by true d ds x e digit is =
    let zero_is : d ≡ 48 = grind (arith, nat_tests) in
    subst (λ (k : ℕ). Literal (k ∷ ds) x.0 x.1) (sym zero_is) (zero_found ds x (subst (λ (k : ℕ). literal_word (k ∷ ds) ≡ Some x) zero_is is))
literal_by false d ds x e digit is = by_digits (Literal (d ∷ ds) x.0 x.1) 10 false (d ∷ ds) x (sym (decimal_word d ds e) ∙ is) (λ y f k. decimal_shape (d ∷ ds) y x d ds f refl digit e k)

pub literal_found : (d : ℕ) (ds : List ℕ) (x : ℕ × Kind) → is_digit d ≡ true → literal_word (d ∷ ds) ≡ Some x → Literal (d ∷ ds) x.0 x.1
literal_found d ds x digit is = literal_by (d == 48) d ds x refl digit is

-- ---- every literal begins with a digit, and is of name bytes

abbrev pub is_number_row : List ℕ → Bool
is_number_row [] = false
is_number_row (b ∷ rest) = is_digit b && every is_name_byte rest

digits_row : (hex : Bool) (front : List ℕ) (n : ℕ) → Digits hex front n → is_number_row front ≡ true
digits_row _ _ _ just_zero = refl
digits_row _ _ _ (decimal d ds all off) =
    let parts = and_parts (is_digit d) (every is_digit ds) all in
    and_from (is_digit d) (every is_name_byte ds) parts.0 (every_more is_digit is_name_byte digit_name ds parts.1)
digits_row _ _ _ (hexadecimal x d ds is all) =
    and_from (is_name_byte x) (every is_name_byte (d ∷ ds)) (x_name x is) (every_more is_hexadecimal is_name_byte hexadecimal_name (d ∷ ds) all)

row_behind : (front : List ℕ) (u : ℕ) → is_number_row front ≡ true → is_suffix u ≡ true → is_number_row (front ++ u ∷ []) ≡ true
row_behind [] u row is = absurd cc
row_behind (b ∷ rest) u row is =
    let parts = and_parts (is_digit b) (every is_name_byte rest) row in
    and_from (is_digit b) (every is_name_byte (rest ++ u ∷ [])) parts.0 (every_append is_name_byte rest (u ∷ []) parts.1 (and_from (is_name_byte u) true (suffix_name u is) refl))

pub literal_row : (word : List ℕ) (n : ℕ) (kind : Kind) → Literal word n kind → is_number_row word ≡ true
literal_row _ _ _ (as_int hex front n is le) = digits_row hex front n is
literal_row _ _ _ (as_large front n is lt le) = digits_row true front n is
literal_row _ _ _ (as_suffixed hex front n u is suffix le) = row_behind front u (digits_row hex front n is) suffix
