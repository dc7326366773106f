-- Single bytes, and runs of them.
use Rattle.std.proofs.Common.{◌≡◌, ◌≤◌, ℕ, Bool, true, false, List, [], ◌∷◌, ◌++◌, length, refl, sym, ap, ◌∙◌, arith, nat_lt, ◌||◌, ◌==◌, cond, take_while, zero-le}
use Rattle.prem_text.proofs.Prelude.{digit_value, is_suffix, is_digit, is_name_byte, is_blank, is_printable, goes_on, every, is_letter, is_hexadecimal, and_parts, and_from, nat_tests}
use Rattle.prem_text.proofs.Prelude.{take_while-cons}

or_more : (d a b c : Bool) → (a || b || c) ≡ true → (d || a || b || c) ≡ true
or_more true a b c is = refl
or_more false a b c is = is

or_less : (d a b c : Bool) → d ≡ false → (d || a || b || c) ≡ true → (a || b || c) ≡ true
or_less true a b c off is = absurd cc
or_less false a b c off is = is

pub letter_name : (b : ℕ) → is_letter b ≡ true → is_name_byte b ≡ true
letter_name b is = or_more (is_digit b) _ _ _ is

pub letter_digit : (b : ℕ) → is_letter b ≡ true → is_digit b ≡ false
letter_digit b is = grind (arith, nat_tests)

pub name_letter : (b : ℕ) → is_digit b ≡ false → is_name_byte b ≡ true → is_letter b ≡ true
name_letter b off is = or_less (is_digit b) _ _ _ off is

digit_or : (d a b c : Bool) → d ≡ true → (d || a || b || c) ≡ true
digit_or true a b c is = refl
digit_or false a b c is = absurd cc

pub digit_name : (b : ℕ) → is_digit b ≡ true → is_name_byte b ≡ true
digit_name b is = digit_or (is_digit b) _ _ _ is

pub name_blank : (b : ℕ) → is_name_byte b ≡ true → is_blank b ≡ false
name_blank b is = grind (arith, nat_tests)

pub name_printable : (b : ℕ) → is_name_byte b ≡ true → is_printable b ≡ true
name_printable b is = grind (arith, nat_tests)

pub digit_decimal : (b : ℕ) → is_digit b ≡ true → nat_lt (digit_value b) 10 ≡ true
digit_decimal b is = grind (arith, nat_tests)

pub decimal_digit : (b : ℕ) → nat_lt (digit_value b) 10 ≡ true → is_digit b ≡ true
decimal_digit b is = grind (arith, nat_tests)

pub hexadecimal_name : (b : ℕ) → is_hexadecimal b ≡ true → is_name_byte b ≡ true
hexadecimal_name b is = grind (arith, nat_tests)

pub suffix_name : (b : ℕ) → is_suffix b ≡ true → is_name_byte b ≡ true
suffix_name b is = grind (arith, nat_tests)

pub suffix_digit : (b : ℕ) → is_suffix b ≡ true → is_digit b ≡ false
suffix_digit b is = grind (arith, nat_tests)

pub x_name : (b : ℕ) → (b == 120 || b == 88) ≡ true → is_name_byte b ≡ true
x_name b is = grind (arith, nat_tests)

pub suffix_x : (b : ℕ) → is_suffix b ≡ true → (b == 120 || b == 88) ≡ false
suffix_x b is = grind (arith, nat_tests)

pub value_suffix : (base b : ℕ) → base ≤ 16 → nat_lt (digit_value b) base ≡ true → is_suffix b ≡ false
value_suffix base b le is = grind (arith, nat_tests)

-- ---- runs of bytes

pub every_append : {X : Type 0} (p : X → Bool) (xs ys : List X) → every p xs ≡ true → every p ys ≡ true → every p (xs ++ ys) ≡ true
every_append p [] ys all more = more
every_append p (x ∷ xs) ys all more =
    let parts = and_parts (p x) (every p xs) all in
    and_from (p x) (every p (xs ++ ys)) parts.0 (every_append p xs ys parts.1 more)

pub every_more : {X : Type 0} (p q : X → Bool) → ((x : X) → p x ≡ true → q x ≡ true) → (xs : List X) → every p xs ≡ true → every q xs ≡ true
every_more p q more [] all = refl
every_more p q more (x ∷ xs) all =
    let parts = and_parts (p x) (every p xs) all in
    and_from (q x) (every q xs) (more x parts.0) (every_more p q more xs parts.1)

-- the name bytes at the front
pub run_is : (s rest : List ℕ) → every is_name_byte s ≡ true → goes_on rest ≡ false → take_while is_name_byte (s ++ rest) ≡ s
run_is [] [] all stops = refl
run_is [] (b ∷ rest) all stops = take_while-cons is_name_byte b rest ∙ ap (λ (t : Bool). cond t (b ∷ take_while is_name_byte rest) []) stops
run_is (b ∷ s) rest all stops =
    let parts = and_parts (is_name_byte b) (every is_name_byte s) all in
    take_while-cons is_name_byte b (s ++ rest) ∙ ap (λ (t : Bool). cond t (b ∷ take_while is_name_byte (s ++ rest)) []) parts.0 ∙ ap (λ (l : List ℕ). b ∷ l) (run_is s rest parts.1 stops)

pub record Run (text : List ℕ) : Type 0 where
  pub rest : List ℕ
  pub parts : text ≡ take_while is_name_byte text ++ rest
  pub all : every is_name_byte (take_while is_name_byte text) ≡ true
  pub stops : goes_on rest ≡ false

run_by : (t : Bool) (b : ℕ) (text : List ℕ) → is_name_byte b ≡ t → Run text → Run (b ∷ text)
run_by true b text is run =
    let front : take_while is_name_byte (b ∷ text) ≡ b ∷ take_while is_name_byte text = take_while-cons is_name_byte b text ∙ ap (λ (t : Bool). cond t (b ∷ take_while is_name_byte text) []) is in
    record {
      rest = run.rest;
      parts = ap (λ (l : List ℕ). b ∷ l) run.parts ∙ ap (λ (l : List ℕ). l ++ run.rest) (sym front);
      all = ap (every is_name_byte) front ∙ and_from (is_name_byte b) (every is_name_byte (take_while is_name_byte text)) is run.all;
      stops = run.stops;
    }
run_by false b text is run =
    let front : take_while is_name_byte (b ∷ text) ≡ [] = take_while-cons is_name_byte b text ∙ ap (λ (t : Bool). cond t (b ∷ take_while is_name_byte text) []) is in
    record {
      rest = b ∷ text;
      parts = ap (λ (l : List ℕ). l ++ b ∷ text) (sym front);
      all = ap (every is_name_byte) front;
      stops = is;
    }

pub run_of : (text : List ℕ) → Run text
run_of [] = record { rest = []; parts = refl; all = refl; stops = refl }
run_of (b ∷ text) = run_by (is_name_byte b) b text refl (run_of text)

-- a run of name bytes is no longer than the longest one
pub run_longest : (s rest more later : List ℕ) → goes_on rest ≡ false → every is_name_byte more ≡ true → s ++ rest ≡ more ++ later → length more ≤ length s
run_longest s rest [] later stops all e = zero-le
run_longest [] rest (b ∷ more) later stops all e =
    let on : goes_on rest ≡ true = ap goes_on e ∙ (and_parts (is_name_byte b) (every is_name_byte more) all).0 in
    let off : false ≡ true = sym stops ∙ on in absurd cc
run_longest (c ∷ s) rest (b ∷ more) later stops all e =
    let tails : s ++ rest ≡ more ++ later = cc in
    let le = run_longest s rest more later stops (and_parts (is_name_byte b) (every is_name_byte more) all).1 tails in
    omega arith
