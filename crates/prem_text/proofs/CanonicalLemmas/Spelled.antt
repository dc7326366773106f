-- Lexemes are spelled by their bytes.
use Rattle.std.proofs.Common.{◌≡◌, ◌≤◌, ◌<◌, ℕ, zero, suc, ◌+◌, ◌*◌, ◌^◌, ◌==◌, true, false, List, [], ◌∷◌, length, get_or, refl, ap, sym, subst, ◌∙◌, arith, add-zero, mul-one, map}
use Rattle.prem_text.proofs.Prelude.{word_bytes, mark_bytes, lexeme_bytes, spelling_of, digit_value, marks, Lexeme, name, number, word, mark, end_of_text, is_digit, AreSpellings, StandsIn}
use Rattle.prem_text.proofs.Prelude.{at_front, further, every, value_in, Digits, just_zero, decimal as decimal_digits, as_int, as_suffixed, Reserved, without_use, Spells, as_word}
use Rattle.prem_text.proofs.Prelude.{as_literal, as_mark, Mark, Word, Kind, Int, Unsigned, and_from, nat_tests}
use Rattle.prem_text.proofs.CanonicalLemmas.Sayable.{AreSayable, IsSayable}
use Rattle.prem_text.proofs.SpellingLemmas.Literals.{shifted}
use Rattle.prem_text.specs.Spelling.Spellings.{used}
use Rattle.std.proofs.lemmas.Fmt.{decimal_is_IsNumeral, decimal_digit, first_decimal}
use Rattle.std.proofs.lemmas.Str.{digit_value_digit}
use Rattle.std.proofs.lemmas.Str.Parse.{digit_from_value}
use Rattle.std.specs.Char.{digit_value as digit_of}
use Rattle.std.specs.Fmt.{decimal}
use Rattle.std.specs.Str.Parse.{AllDigits, digits_value, digits_value_after}
use native.Mathlib.Nat.{pow-zero}
use native.Mathlib.Omega.{pow_step}
use Rattle.prem_text.specs.declared.lexing.token.token.Word.TheVariants as w
use Rattle.prem_text.specs.declared.lexing.token.token.Mark.TheVariants as m

-- ---- digits

pub in_digits : (c : ℕ) → digit_of c < 10 → is_digit c ≡ true
in_digits c lt = let r = digit_from_value c lt in grind (arith, nat_tests, r)

ten_back : (c : ℕ) → is_digit c ≡ true → digit_value c + 48 ≡ c
ten_back c is = let le : 48 ≤ c = grind (arith, nat_tests) in rw is (omega (arith, le))

same_digit : (c : ℕ) → digit_of c < 10 → digit_of c ≡ digit_value c
same_digit c lt = let a = digit_value_digit c (digit_from_value c lt) in let b = ten_back c (in_digits c lt) in omega (arith, a, b)

every_digit : (ds : List ℕ) → AllDigits 10 ds → every is_digit ds ≡ true
every_digit [] all = refl
every_digit (d ∷ ds) all = and_from (is_digit d) (every is_digit ds) (in_digits d all.0) (every_digit ds all.1)

value_after : (n : ℕ) (ds : List ℕ) → AllDigits 10 ds → digits_value_after 10 n ds ≡ n * 10 ^ length ds + value_in 10 ds
value_after n [] all = sym (ap (λ (x : ℕ). n * x + 0) (pow-zero 10) ∙ add-zero (n * 1) ∙ mul-one n)
value_after n (d ∷ ds) all =
    value_after (n * 10 + digit_of d) ds all.1 ∙ shifted n 10 (digit_of d) (10 ^ length ds) (value_in 10 ds)
    ∙ ap (λ (x : ℕ). n * x + (digit_of d * 10 ^ length ds + value_in 10 ds)) (sym (pow_step 10 (length ds)))
    ∙ ap (λ (x : ℕ). n * 10 ^ length (d ∷ ds) + (x * 10 ^ length ds + value_in 10 ds)) (same_digit d all.0)

value_is : (ds : List ℕ) → AllDigits 10 ds → digits_value 10 ds ≡ value_in 10 ds
value_is ds all = let z : 0 * 10 ^ length ds ≡ 0 = grind arith in value_after 0 ds all ∙ ap (λ (x : ℕ). x + value_in 10 ds) z ∙ omega arith

digits_from : (ds : List ℕ) (n : ℕ) → AllDigits 10 ds → digits_value 10 ds ≡ n → 48 < get_or ds 0 0 → Digits false ds n
digits_from [] n all is lt = absurd (omega (arith, lt))
digits_from (d ∷ ds) n all is lt =
    let off : (d == 48) ≡ false = grind (arith, nat_tests) in
    subst (Digits false (d ∷ ds)) (sym (value_is (d ∷ ds) all) ∙ is) (decimal_digits d ds (every_digit (d ∷ ds) all) off)

number_digits : (n : ℕ) → n ≤ 4294967295 → Digits false (decimal n) n
number_digits zero le = subst (λ (ds : List ℕ). Digits false ds 0) (sym (decimal_digit 0 (omega arith))) just_zero
number_digits (suc k) le =
    let small : suc k < 2 ^ 64 = omega arith in
    let d = decimal_is_IsNumeral (suc k) small in
    digits_from (decimal (suc k)) (suc k) d.0.1 d.1 (first_decimal (suc k) (omega arith) small)

-- ---- words and marks

mark_stands : (x : Mark) → StandsIn (mark_bytes x, x) marks
mark_stands m.LessEqual = at_front _
mark_stands m.GreaterEqual = further _ _ (at_front _)
mark_stands m.EqualEqual = further _ _ (further _ _ (at_front _))
mark_stands m.NotEqual = further _ _ (further _ _ (further _ _ (at_front _)))
mark_stands m.AndAnd = further _ _ (further _ _ (further _ _ (further _ _ (at_front _))))
mark_stands m.OrOr = further _ _ (further _ _ (further _ _ (further _ _ (further _ _ (at_front _)))))
mark_stands m.ShiftLeft = further _ _ (further _ _ (further _ _ (further _ _ (further _ _ (further _ _ (at_front _))))))
mark_stands m.ShiftRight = further _ _ (further _ _ (further _ _ (further _ _ (further _ _ (further _ _ (further _ _ (at_front _)))))))
mark_stands m.PlusPlus = further _ _ (further _ _ (further _ _ (further _ _ (further _ _ (further _ _ (further _ _ (further _ _ (at_front _))))))))
mark_stands m.MinusMinus = further _ _ (further _ _ (further _ _ (further _ _ (further _ _ (further _ _ (further _ _ (further _ _ (further _ _ (at_front _)))))))))
mark_stands m.PlusEqual = further _ _ (further _ _ (further _ _ (further _ _ (further _ _ (further _ _ (further _ _ (further _ _ (further _ _ (further _ _ (at_front _))))))))))
mark_stands m.MinusEqual = further _ _ (further _ _ (further _ _ (further _ _ (further _ _ (further _ _ (further _ _ (further _ _ (further _ _ (further _ _ (further _ _ (at_front _)))))))))))
mark_stands m.OpenParenthesis =
    further _ _ (further _ _ (further _ _
    (further _ _ (further _ _ (further _ _ (further _ _ (further _ _ (further _ _ (further _ _ (further _ _ (further _ _ (at_front _))))))))))))
mark_stands m.CloseParenthesis =
    further _ _ (further _ _ (further _ _
    (further _ _ (further _ _ (further _ _ (further _ _ (further _ _ (further _ _ (further _ _ (further _ _ (further _ _ (further _ _ (at_front _)))))))))))))
mark_stands m.OpenBrace = further _ _
    (further _ _ (further _ _ (further _ _
    (further _ _ (further _ _ (further _ _ (further _ _ (further _ _ (further _ _ (further _ _ (further _ _ (further _ _ (further _ _ (at_front _))))))))))))))
mark_stands m.CloseBrace = further _ _
    (further _ _ (further _ _ (further _ _
    (further _ _ (further _ _ (further _ _
    (further _ _ (further _ _ (further _ _ (further _ _ (further _ _ (further _ _ (further _ _ (further _ _ (at_front _)))))))))))))))
mark_stands m.OpenBracket = further _ _
    (further _ _ (further _ _ (further _ _
    (further _ _ (further _ _ (further _ _
    (further _ _ (further _ _ (further _ _ (further _ _ (further _ _ (further _ _ (further _ _ (further _ _ (further _ _ (at_front _))))))))))))))))
mark_stands m.CloseBracket = further _ _
    (further _ _ (further _ _ (further _ _
    (further _ _ (further _ _ (further _ _
    (further _ _ (further _ _ (further _ _
    (further _ _ (further _ _ (further _ _ (further _ _ (further _ _ (further _ _ (further _ _ (at_front _)))))))))))))))))
mark_stands m.Semicolon = further _ _
    (further _ _ (further _ _ (further _ _
    (further _ _ (further _ _ (further _ _
    (further _ _ (further _ _ (further _ _
    (further _ _ (further _ _ (further _ _ (further _ _ (further _ _ (further _ _ (further _ _ (further _ _ (at_front _))))))))))))))))))
mark_stands m.Comma = further _ _
    (further _ _ (further _ _ (further _ _
    (further _ _ (further _ _ (further _ _
    (further _ _ (further _ _ (further _ _
    (further _ _ (further _ _ (further _ _ (further _ _ (further _ _ (further _ _ (further _ _ (further _ _ (further _ _ (at_front _)))))))))))))))))))
mark_stands m.Equal = further _ _
    (further _ _ (further _ _ (further _ _
    (further _ _ (further _ _ (further _ _
    (further _ _ (further _ _ (further _ _
    (further _ _ (further _ _ (further _ _
    (further _ _ (further _ _ (further _ _ (further _ _ (further _ _ (further _ _ (further _ _ (at_front _))))))))))))))))))))
mark_stands m.Plus = further _ _
    (further _ _ (further _ _ (further _ _
    (further _ _ (further _ _ (further _ _
    (further _ _ (further _ _ (further _ _
    (further _ _ (further _ _ (further _ _
    (further _ _ (further _ _ (further _ _ (further _ _ (further _ _ (further _ _ (further _ _ (further _ _ (at_front _)))))))))))))))))))))
mark_stands m.Minus = further _ _
    (further _ _ (further _ _ (further _ _
    (further _ _ (further _ _ (further _ _
    (further _ _ (further _ _ (further _ _
    (further _ _ (further _ _ (further _ _
    (further _ _ (further _ _ (further _ _ (further _ _ (further _ _ (further _ _ (further _ _ (further _ _ (further _ _ (at_front _))))))))))))))))))))))
mark_stands m.Star = further _ _
    (further _ _ (further _ _ (further _ _
    (further _ _ (further _ _ (further _ _
    (further _ _ (further _ _ (further _ _
    (further _ _ (further _ _ (further _ _
    (further _ _ (further _ _ (further _ _
    (further _ _ (further _ _ (further _ _ (further _ _ (further _ _ (further _ _ (further _ _ (at_front _)))))))))))))))))))))))
mark_stands m.Slash = further _ _
    (further _ _ (further _ _ (further _ _
    (further _ _ (further _ _ (further _ _
    (further _ _ (further _ _ (further _ _
    (further _ _ (further _ _ (further _ _
    (further _ _ (further _ _ (further _ _
    (further _ _ (further _ _ (further _ _ (further _ _ (further _ _ (further _ _ (further _ _ (further _ _ (at_front _))))))))))))))))))))))))
mark_stands m.Percent = further _ _
    (further _ _ (further _ _ (further _ _
    (further _ _ (further _ _ (further _ _
    (further _ _ (further _ _ (further _ _
    (further _ _ (further _ _ (further _ _
    (further _ _ (further _ _ (further _ _
    (further _ _ (further _ _ (further _ _ (further _ _ (further _ _ (further _ _ (further _ _ (further _ _ (further _ _ (at_front _)))))))))))))))))))))))))
mark_stands m.And = further _ _
    (further _ _ (further _ _ (further _ _
    (further _ _ (further _ _ (further _ _
    (further _ _ (further _ _ (further _ _
    (further _ _ (further _ _ (further _ _
    (further _ _ (further _ _ (further _ _
    (further _ _ (further _ _ (further _ _
    (further _ _ (further _ _ (further _ _ (further _ _ (further _ _ (further _ _ (further _ _ (at_front _))))))))))))))))))))))))))
mark_stands m.Or = further _ _
    (further _ _ (further _ _ (further _ _
    (further _ _ (further _ _ (further _ _
    (further _ _ (further _ _ (further _ _
    (further _ _ (further _ _ (further _ _
    (further _ _ (further _ _ (further _ _
    (further _ _ (further _ _ (further _ _
    (further _ _ (further _ _ (further _ _ (further _ _ (further _ _ (further _ _ (further _ _ (further _ _ (at_front _)))))))))))))))))))))))))))
mark_stands m.Caret = further _ _
    (further _ _ (further _ _ (further _ _
    (further _ _ (further _ _ (further _ _
    (further _ _ (further _ _ (further _ _
    (further _ _ (further _ _ (further _ _
    (further _ _ (further _ _ (further _ _
    (further _ _ (further _ _ (further _ _
    (further _ _ (further _ _ (further _ _ (further _ _ (further _ _ (further _ _ (further _ _ (further _ _ (further _ _ (at_front _))))))))))))))))))))))))))))
mark_stands m.Tilde = further _ _
    (further _ _ (further _ _ (further _ _
    (further _ _ (further _ _ (further _ _
    (further _ _ (further _ _ (further _ _
    (further _ _ (further _ _ (further _ _
    (further _ _ (further _ _ (further _ _
    (further _ _ (further _ _ (further _ _
    (further _ _ (further _ _ (further _ _
    (further _ _ (further _ _ (further _ _ (further _ _ (further _ _ (further _ _ (further _ _ (at_front _)))))))))))))))))))))))))))))
mark_stands m.Bang = further _ _
    (further _ _ (further _ _ (further _ _
    (further _ _ (further _ _ (further _ _
    (further _ _ (further _ _ (further _ _
    (further _ _ (further _ _ (further _ _
    (further _ _ (further _ _ (further _ _
    (further _ _ (further _ _ (further _ _
    (further _ _ (further _ _ (further _ _
    (further _ _ (further _ _ (further _ _ (further _ _ (further _ _ (further _ _ (further _ _ (further _ _ (at_front _))))))))))))))))))))))))))))))
mark_stands m.Less = further _ _
    (further _ _ (further _ _ (further _ _
    (further _ _ (further _ _ (further _ _
    (further _ _ (further _ _ (further _ _
    (further _ _ (further _ _ (further _ _
    (further _ _ (further _ _ (further _ _
    (further _ _ (further _ _ (further _ _
    (further _ _ (further _ _ (further _ _
    (further _ _ (further _ _ (further _ _
    (further _ _ (further _ _ (further _ _ (further _ _ (further _ _ (further _ _ (at_front _)))))))))))))))))))))))))))))))
mark_stands m.Greater = further _ _
    (further _ _ (further _ _ (further _ _
    (further _ _ (further _ _ (further _ _
    (further _ _ (further _ _ (further _ _
    (further _ _ (further _ _ (further _ _
    (further _ _ (further _ _ (further _ _
    (further _ _ (further _ _ (further _ _
    (further _ _ (further _ _ (further _ _
    (further _ _ (further _ _ (further _ _
    (further _ _ (further _ _ (further _ _ (further _ _ (further _ _ (further _ _ (further _ _ (at_front _))))))))))))))))))))))))))))))))

word_reserved : (k : Word) → Reserved (word_bytes k) k
word_reserved w.Void = used _ _ (at_front _)
word_reserved w.Int = used _ _ (further _ _ (at_front _))
word_reserved w.Short = used _ _ (further _ _ (further _ _ (at_front _)))
word_reserved w.Signed = used _ _ (further _ _ (further _ _ (further _ _ (at_front _))))
word_reserved w.Char = used _ _ (further _ _ (further _ _ (further _ _ (further _ _ (at_front _)))))
word_reserved w.Unsigned = used _ _ (further _ _ (further _ _ (further _ _ (further _ _ (further _ _ (at_front _))))))
word_reserved w.If = used _ _ (further _ _ (further _ _ (further _ _ (further _ _ (further _ _ (further _ _ (at_front _)))))))
word_reserved w.Else = used _ _ (further _ _ (further _ _ (further _ _ (further _ _ (further _ _ (further _ _ (further _ _ (at_front _))))))))
word_reserved w.For = used _ _ (further _ _ (further _ _ (further _ _ (further _ _ (further _ _ (further _ _ (further _ _ (further _ _ (at_front _)))))))))
word_reserved w.While = used _ _ (further _ _ (further _ _ (further _ _ (further _ _ (further _ _ (further _ _ (further _ _ (further _ _ (further _ _ (at_front _))))))))))
word_reserved w.Return = used _ _ (further _ _ (further _ _ (further _ _ (further _ _ (further _ _ (further _ _ (further _ _ (further _ _ (further _ _ (further _ _ (at_front _)))))))))))
word_reserved w.Predictable = used _ _
    (further _ _ (further _ _ (further _ _
    (further _ _ (further _ _ (further _ _ (further _ _ (further _ _ (further _ _ (further _ _ (further _ _ (at_front _))))))))))))
word_reserved w.Region = used _ _
    (further _ _ (further _ _ (further _ _
    (further _ _ (further _ _ (further _ _ (further _ _ (further _ _ (further _ _ (further _ _ (further _ _ (further _ _ (at_front _)))))))))))))
word_reserved w.Range = used _ _
    (further _ _ (further _ _ (further _ _
    (further _ _ (further _ _ (further _ _ (further _ _ (further _ _ (further _ _ (further _ _ (further _ _ (further _ _ (further _ _ (at_front _))))))))))))))
word_reserved w.Bounded = used _ _
    (further _ _ (further _ _ (further _ _
    (further _ _ (further _ _ (further _ _
    (further _ _ (further _ _ (further _ _ (further _ _ (further _ _ (further _ _ (further _ _ (further _ _ (at_front _)))))))))))))))
word_reserved w.In = used _ _ (further _ _
    (further _ _ (further _ _ (further _ _
    (further _ _ (further _ _ (further _ _
    (further _ _ (further _ _ (further _ _ (further _ _ (further _ _ (further _ _ (further _ _ (further _ _ (at_front _))))))))))))))))
word_reserved w.Out = used _ _
    (further _ _ (further _ _ (further _ _
    (further _ _ (further _ _ (further _ _
    (further _ _ (further _ _ (further _ _
    (further _ _ (further _ _ (further _ _ (further _ _ (further _ _ (further _ _ (further _ _ (at_front _)))))))))))))))))
word_reserved w.Unused = without_use _ (at_front _)

number_spelled : (value : ℕ) (kind : Kind) → IsSayable (number value kind) → Spells (lexeme_bytes (number value kind)) (number value kind)
number_spelled value Int le = as_literal _ value Int (as_int false (decimal value) value (number_digits value (omega (arith, le))) le)
number_spelled value Unsigned le = as_literal _ value Unsigned (as_suffixed false (decimal value) value 117 (number_digits value le) refl le)

pub are_spellings : (xs : List Lexeme) → AreSayable xs → AreSpellings (map spelling_of xs)
are_spellings [] p = tt
are_spellings (name x ∷ xs) p = (p.0, are_spellings xs p.1)
are_spellings (number value kind ∷ xs) p = (number_spelled value kind p.0, are_spellings xs p.1)
are_spellings (word k ∷ xs) p = (as_word _ k (word_reserved k), are_spellings xs p)
are_spellings (mark k ∷ xs) p = (as_mark _ k (mark_stands k), are_spellings xs p)
are_spellings (end_of_text ∷ xs) p = absurd p
