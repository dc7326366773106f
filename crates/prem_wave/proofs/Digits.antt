-- The digits of numbers.
use Rattle.std.specs.Prelude.{◌&&◌, nat_le, nat_lt, decimal}
use Rattle.std.specs.List.{list_all}
use Rattle.std.specs.Fmt.{digits, digits_onto, digit_glyph}
use Rattle.std.proofs.Common.{◌≡◌, ◌≤◌, ◌<◌, ◌+◌, ◌%◌, ◌/◌, ◌==◌, ℕ, zero, suc, List, [], ◌∷◌, Bool, true, false, cond, Option, Some, None, length, refl, ap, ◌∙◌, arith}
use Rattle.std.proofs.lemmas.Bool.Decides.{nat_tests}
use Rattle.std.proofs.Math.Nat.{mod-lt}
use Rattle.prem_wave.specs.Dump.{value_text}
use Rattle.prem_wave.specs.Grammar.{IsPrinted, IsValue, is_between, is_bit}

-- what holds of each digit holds of all that are put in front of some
onto_all : (p : ℕ → Bool) (base : ℕ) → 0 < base → ((d : ℕ) → d < base → p (digit_glyph false d) ≡ true) → (k n : ℕ) (acc : List ℕ) → list_all p acc ≡ true →
    list_all p (digits_onto k base false n acc) ≡ true
onto_all p base some each zero n acc h = h
onto_all p base some each (suc k) n acc h =
    let d = digit_glyph false (n % base) in
    let front : p d ≡ true = each (n % base) (mod-lt n some) in
    let more : list_all p (d ∷ acc) ≡ true = ap (λ b. b && list_all p acc) front ∙ h in
    either (n / base == 0) (d ∷ acc) (digits_onto k base false (n / base) (d ∷ acc)) more (onto_all p base some each k (n / base) (d ∷ acc) more)
  where
    either : (b : Bool) (xs ys : List ℕ) → list_all p xs ≡ true → list_all p ys ≡ true → list_all p (cond b xs ys) ≡ true
    either true xs ys h k = h
    either false xs ys h k = k

either_short : (b : Bool) (xs ys : List ℕ) (n : ℕ) → length xs ≤ n → length ys ≤ n → length (cond b xs ys) ≤ n
either_short true xs ys n h k = h
either_short false xs ys n h k = k

onto_short : (base k n : ℕ) (acc : List ℕ) → length (digits_onto k base false n acc) ≤ k + length acc
onto_short base zero n acc = omega arith
onto_short base (suc k) n acc =
    let d = digit_glyph false (n % base) in
    let rest = onto_short base k (n / base) (d ∷ acc) in
    either_short (n / base == 0) (d ∷ acc) (digits_onto k base false (n / base) (d ∷ acc)) (suc k + length acc) (omega arith) (omega (arith, rest))

onto_long : (base k n : ℕ) (acc : List ℕ) → length acc ≤ length (digits_onto k base false n acc)
onto_long base zero n acc = omega arith
onto_long base (suc k) n acc =
    let d = digit_glyph false (n % base) in
    let rest = onto_long base k (n / base) (d ∷ acc) in
    either_long (n / base == 0) (d ∷ acc) (digits_onto k base false (n / base) (d ∷ acc)) (length acc) (omega arith) (omega (arith, rest))
  where
    either_long : (b : Bool) (xs ys : List ℕ) (n : ℕ) → n ≤ length xs → n ≤ length ys → n ≤ length (cond b xs ys)
    either_long true xs ys n h k = h
    either_long false xs ys n h k = k

onto_some : (base k n : ℕ) (acc : List ℕ) → 1 ≤ length (digits_onto (suc k) base false n acc)
onto_some base k n acc =
    let d = digit_glyph false (n % base) in
    let rest = onto_long base k (n / base) (d ∷ acc) in
    either_long (n / base == 0) (d ∷ acc) (digits_onto k base false (n / base) (d ∷ acc)) (omega arith) (omega (arith, rest))
  where
    either_long : (b : Bool) (xs ys : List ℕ) → 1 ≤ length xs → 1 ≤ length ys → 1 ≤ length (cond b xs ys)
    either_long true xs ys h k = h
    either_long false xs ys h k = k

glyph_by : (d other : ℕ) (b : Bool) → nat_lt d 10 ≡ b → d < 10 → cond b (48 + d) other ≡ 48 + d
glyph_by d other true e h = refl
glyph_by d other false e h = absurd (grind (arith, nat_tests))

glyph_is : (d : ℕ) → d < 10 → digit_glyph false d ≡ 48 + d
glyph_is d h = glyph_by d (87 + d) (nat_lt d 10) refl h

both : (x y : Bool) → x ≡ true → y ≡ true → (x && y) ≡ true
both true y h k = k
both false y h k = absurd (cc)

-- ---- decimal numbers are printed

printed_digit : (d : ℕ) → d < 10 → is_between 33 126 (digit_glyph false d) ≡ true
printed_digit d h = ap (is_between 33 126) (glyph_is d h) ∙ both (nat_le 33 (48 + d)) (nat_le (48 + d) 126) (grind (arith, nat_tests)) (grind (arith, nat_tests))

first_true : (x y : Bool) → (x && y) ≡ true → x ≡ true
first_true true y e = refl
first_true false y e = absurd (cc)

rest_true : (x y : Bool) → (x && y) ≡ true → y ≡ true
rest_true true y e = e
rest_true false y e = absurd (cc)

printed_by : (bytes : List ℕ) → 1 ≤ length bytes → list_all (is_between 33 126) bytes ≡ true → IsPrinted bytes
printed_by [] some all = absurd (omega (arith, some))
printed_by (b ∷ bytes) some all = (first_true _ _ all, rest_true _ _ all)

pub decimal_printed : (n : ℕ) → IsPrinted (decimal n)
unfolding digits
decimal_printed n =
    printed_by (decimal n) (onto_some 10 63 n []) (onto_all (is_between 33 126) 10 (omega arith) printed_digit 64 n [] refl)

-- ---- values

bit_digit : (d : ℕ) → d < 2 → is_bit (digit_glyph false d) ≡ true
bit_digit zero h = refl
bit_digit (suc zero) h = refl
bit_digit (suc (suc d)) h = absurd (omega (arith, h))

value_by : (bytes : List ℕ) → 1 ≤ length bytes → length bytes ≤ 64 → list_all is_bit bytes ≡ true → IsValue 64 bytes
value_by [] some few all = absurd (omega (arith, some))
value_by (b ∷ bytes) some few all = (all, few)

pub wide_value : (v : Option ℕ) → IsValue 64 (value_text v)
unfolding digits
wide_value None = (refl, omega arith)
wide_value (Some n) =
    let few = onto_short 2 64 n [] in
    value_by (value_text (Some n)) (onto_some 2 63 n []) (omega (arith, few)) (onto_all is_bit 2 (omega arith) bit_digit 64 n [] refl)
