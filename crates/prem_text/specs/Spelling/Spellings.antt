-- How each token is spelled.
use Rattle.std.specs.Prelude.{◌≡◌, ℕ, ◌+◌, ◌*◌, ◌^◌, ◌<◌, ◌≤◌, ◌==◌, Bool, true, false, ◌&&◌, ◌||◌, nat_lt, nat_le, List, [], ◌∷◌, ◌++◌, length, codes}
use Rattle.prem_text.specs.Prelude.{Kind, Int, Unsigned}
use Rattle.prem_text.specs.Lexing.Literal.{digit_value, is_suffix}
use Rattle.prem_text.specs.Lexing.Spelling.{words, unused, marks}
use Rattle.prem_text.specs.Lexing.Token.Lexeme.{Lexeme, name, number, word, mark}
use Rattle.prem_text.specs.Lexing.Tokens.{is_digit, is_name_byte}
use Rattle.prem_text.specs.declared.lexing.token.token.Mark.{Mark}
use Rattle.prem_text.specs.declared.lexing.token.token.Word.{Word}
use Rattle.prem_text.specs.declared.lexing.token.token.Word.TheVariants as w

-- an element of a list
pub data StandsIn {X : Type 0} (x : X) : List X → Type 0 where
  at_front : (xs : List X) → StandsIn x (x ∷ xs)
  further : (y : X) (xs : List X) → StandsIn x xs → StandsIn x (y ∷ xs)

abbrev pub every : {X : Type 0} → (X → Bool) → List X → Bool
every p [] = true
every p (x ∷ xs) = p x && every p xs

-- ---- literals

abbrev pub is_hexadecimal : ℕ → Bool
is_hexadecimal b = nat_lt (digit_value b) 16

-- the number that digits denote: each counts its value times the base to the power of how many stand behind it
abbrev pub value_in : ℕ → List ℕ → ℕ
value_in base [] = 0
value_in base (d ∷ ds) = digit_value d * base ^ length ds + value_in base ds

-- `0`, or decimal digits without a leading zero, or `0x` or `0X` and hexadecimal digits, which the flag tells; and their number
pub data Digits : Bool → List ℕ → ℕ → Type 0 where
  just_zero : Digits false (codes "0") 0
  decimal : (d : ℕ) (ds : List ℕ) → every is_digit (d ∷ ds) ≡ true → (d == 48) ≡ false → Digits false (d ∷ ds) (value_in 10 (d ∷ ds))
  hexadecimal : (x d : ℕ) (ds : List ℕ) → (x == 120 || x == 88) ≡ true → every is_hexadecimal (d ∷ ds) ≡ true → Digits true (codes "0" ++ x ∷ d ∷ ds) (value_in 16 (d ∷ ds))

-- without a suffix a literal is int up to 2147483647, and a hexadecimal one past it unsigned; with `u` or `U` it is unsigned
pub data Literal : List ℕ → ℕ → Kind → Type 0 where
  as_int : (hex : Bool) (digits : List ℕ) (n : ℕ) → Digits hex digits n → n ≤ 2147483647 → Literal digits n Int
  as_large : (digits : List ℕ) (n : ℕ) → Digits true digits n → 2147483647 < n → n ≤ 4294967295 → Literal digits n Unsigned
  as_suffixed : (hex : Bool) (digits : List ℕ) (n u : ℕ) → Digits hex digits n → is_suffix u ≡ true → n ≤ 4294967295 → Literal (digits ++ u ∷ []) n Unsigned

-- ---- words and marks

-- a reserved word, with a use in the grammar or without
pub data Reserved : List ℕ → Word → Type 0 where
  used : (bytes : List ℕ) (k : Word) → StandsIn (bytes, k) words → Reserved bytes k
  without_use : (bytes : List ℕ) → StandsIn bytes unused → Reserved bytes w.Unused

-- a letter or `_`
abbrev pub is_letter : ℕ → Bool
is_letter b = (nat_le 65 b && nat_le b 90) || (nat_le 97 b && nat_le b 122) || b == 95

-- these bytes are a spelling of a token
pub data Spells : List ℕ → Lexeme → Type 0 where
  as_name : (b : ℕ) (rest : List ℕ) → is_letter b ≡ true → every is_name_byte rest ≡ true → length (b ∷ rest) ≤ 64 →
      ((k : Word) → Reserved (b ∷ rest) k → ⊥) → Spells (b ∷ rest) (name (b ∷ rest))
  as_word : (bytes : List ℕ) (k : Word) → Reserved bytes k → Spells bytes (word k)
  as_literal : (bytes : List ℕ) (n : ℕ) (kind : Kind) → Literal bytes n kind → Spells bytes (number n kind)
  as_mark : (bytes : List ℕ) (m : Mark) → StandsIn (bytes, m) marks → Spells bytes (mark m)
