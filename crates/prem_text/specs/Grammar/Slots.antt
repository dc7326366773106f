-- Places for tokens in a row of which no other choice is left, as `for ( name =`.
use Rattle.std.specs.Prelude.{ℕ, zero, suc, Bool, true, false, List, [], ◌∷◌, Option, None, Some}
use Rattle.prem_text.specs.Prelude.{Text, Place}
use Rattle.prem_text.specs.Lexing.Token.Lexeme.{Lexeme, name, number, word, mark, end_of_text, Seen}
use Rattle.prem_text.specs.declared.lexing.token.token.Mark.TheVariants as m
use Rattle.prem_text.specs.declared.lexing.token.token.Word.TheVariants as w

abbrev pub is_left_parenthesis : Lexeme → Bool
is_left_parenthesis (mark m.OpenParenthesis) = true
is_left_parenthesis _ = false

abbrev pub is_right_parenthesis : Lexeme → Bool
is_right_parenthesis (mark m.CloseParenthesis) = true
is_right_parenthesis _ = false

abbrev pub is_left_brace : Lexeme → Bool
is_left_brace (mark m.OpenBrace) = true
is_left_brace _ = false

abbrev pub is_right_brace : Lexeme → Bool
is_right_brace (mark m.CloseBrace) = true
is_right_brace _ = false

abbrev pub is_left_bracket : Lexeme → Bool
is_left_bracket (mark m.OpenBracket) = true
is_left_bracket _ = false

abbrev pub is_right_bracket : Lexeme → Bool
is_right_bracket (mark m.CloseBracket) = true
is_right_bracket _ = false

abbrev pub is_semicolon : Lexeme → Bool
is_semicolon (mark m.Semicolon) = true
is_semicolon _ = false

abbrev pub is_comma : Lexeme → Bool
is_comma (mark m.Comma) = true
is_comma _ = false

abbrev pub is_equal : Lexeme → Bool
is_equal (mark m.Equal) = true
is_equal _ = false

abbrev pub is_plus : Lexeme → Bool
is_plus (mark m.Plus) = true
is_plus _ = false

abbrev pub is_minus : Lexeme → Bool
is_minus (mark m.Minus) = true
is_minus _ = false

abbrev pub is_plus_plus : Lexeme → Bool
is_plus_plus (mark m.PlusPlus) = true
is_plus_plus _ = false

abbrev pub is_plus_equal : Lexeme → Bool
is_plus_equal (mark m.PlusEqual) = true
is_plus_equal _ = false

abbrev pub is_less_equal : Lexeme → Bool
is_less_equal (mark m.LessEqual) = true
is_less_equal _ = false

-- `<` or `<=`
abbrev pub is_comparison : Lexeme → Bool
is_comparison (mark m.Less) = true
is_comparison (mark m.LessEqual) = true
is_comparison _ = false

-- `++`, `+=` or `=` of a step
abbrev pub is_step_sign : Lexeme → Bool
is_step_sign (mark m.PlusPlus) = true
is_step_sign (mark m.PlusEqual) = true
is_step_sign (mark m.Equal) = true
is_step_sign _ = false

abbrev pub is_name : Lexeme → Bool
is_name (name x) = true
is_name _ = false

abbrev pub is_literal : Lexeme → Bool
is_literal (number value kind) = true
is_literal _ = false

abbrev pub is_if : Lexeme → Bool
is_if (word w.If) = true
is_if _ = false

abbrev pub is_else : Lexeme → Bool
is_else (word w.Else) = true
is_else _ = false

abbrev pub is_for : Lexeme → Bool
is_for (word w.For) = true
is_for _ = false

abbrev pub is_while : Lexeme → Bool
is_while (word w.While) = true
is_while _ = false

abbrev pub is_bounded : Lexeme → Bool
is_bounded (word w.Bounded) = true
is_bounded _ = false

abbrev pub is_in : Lexeme → Bool
is_in (word w.In) = true
is_in _ = false

abbrev pub is_out : Lexeme → Bool
is_out (word w.Out) = true
is_out _ = false

abbrev pub is_return : Lexeme → Bool
is_return (word w.Return) = true
is_return _ = false

abbrev pub is_void : Lexeme → Bool
is_void (word w.Void) = true
is_void _ = false

abbrev pub is_range : Lexeme → Bool
is_range (word w.Range) = true
is_range _ = false

abbrev pub is_predictable : Lexeme → Bool
is_predictable (word w.Predictable) = true
is_predictable _ = false

abbrev pub is_region : Lexeme → Bool
is_region (word w.Region) = true
is_region _ = false

abbrev pub is_int : Lexeme → Bool
is_int (word w.Int) = true
is_int _ = false

abbrev pub is_short : Lexeme → Bool
is_short (word w.Short) = true
is_short _ = false

abbrev pub is_signed : Lexeme → Bool
is_signed (word w.Signed) = true
is_signed _ = false

abbrev pub is_char : Lexeme → Bool
is_char (word w.Char) = true
is_char _ = false

abbrev pub is_unsigned : Lexeme → Bool
is_unsigned (word w.Unsigned) = true
is_unsigned _ = false

abbrev pub is_minus_minus : Lexeme → Bool
is_minus_minus (mark m.MinusMinus) = true
is_minus_minus _ = false

abbrev pub is_minus_equal : Lexeme → Bool
is_minus_equal (mark m.MinusEqual) = true
is_minus_equal _ = false

abbrev pub is_end : Lexeme → Bool
is_end end_of_text = true
is_end _ = false

-- what stands in one place of a row
pub data Slot : Type 0 where
  left_parenthesis : Slot
  right_parenthesis : Slot
  left_brace : Slot
  right_brace : Slot
  left_bracket : Slot
  right_bracket : Slot
  semicolon : Slot
  comma : Slot
  equal_sign : Slot
  plus_sign : Slot
  minus_sign : Slot
  plus_plus : Slot
  plus_equal : Slot
  comparison : Slot
  step_sign : Slot
  a_name : Slot
  a_literal : Slot
  the_if : Slot
  the_else : Slot
  the_for : Slot
  the_while : Slot
  the_bounded : Slot
  the_in : Slot
  the_out : Slot
  the_return : Slot
  the_void : Slot
  the_range : Slot
  the_predictable : Slot
  the_region : Slot
  the_int : Slot
  the_short : Slot
  the_signed : Slot
  the_char : Slot
  the_unsigned : Slot
  minus_minus : Slot
  minus_equal : Slot
  the_end : Slot

abbrev pub fits : Slot → Lexeme → Bool
fits left_parenthesis t = is_left_parenthesis t
fits right_parenthesis t = is_right_parenthesis t
fits left_brace t = is_left_brace t
fits right_brace t = is_right_brace t
fits left_bracket t = is_left_bracket t
fits right_bracket t = is_right_bracket t
fits semicolon t = is_semicolon t
fits comma t = is_comma t
fits equal_sign t = is_equal t
fits plus_sign t = is_plus t
fits minus_sign t = is_minus t
fits plus_plus t = is_plus_plus t
fits plus_equal t = is_plus_equal t
fits comparison t = is_comparison t
fits step_sign t = is_step_sign t
fits a_name t = is_name t
fits a_literal t = is_literal t
fits the_if t = is_if t
fits the_else t = is_else t
fits the_for t = is_for t
fits the_while t = is_while t
fits the_bounded t = is_bounded t
fits the_in t = is_in t
fits the_out t = is_out t
fits the_return t = is_return t
fits the_void t = is_void t
fits the_range t = is_range t
fits the_predictable t = is_predictable t
fits the_region t = is_region t
fits the_int t = is_int t
fits the_short t = is_short t
fits the_signed t = is_signed t
fits the_char t = is_char t
fits the_unsigned t = is_unsigned t
fits minus_minus t = is_minus_minus t
fits minus_equal t = is_minus_equal t
fits the_end t = is_end t

-- the name that a token is
abbrev pub text_of : Lexeme → Option Text
text_of (name x) = Some x
text_of _ = None

-- the value of a literal
abbrev pub value_of : Lexeme → ℕ
value_of (number value kind) = value
value_of _ = 0

-- of the tokens of a row, from 0 on: a name, a literal's value, a place
abbrev pub text_at : ℕ → List Seen → Option Text
text_at n [] = None
text_at zero (t ∷ ts) = text_of t.0
text_at (suc n) (t ∷ ts) = text_at n ts

abbrev pub value_at : ℕ → List Seen → ℕ
value_at n [] = 0
value_at zero (t ∷ ts) = value_of t.0
value_at (suc n) (t ∷ ts) = value_at n ts

abbrev pub place_at : ℕ → List Seen → Place
place_at n [] = record { line = 0; col = 0 }
place_at zero (t ∷ ts) = t.1
place_at (suc n) (t ∷ ts) = place_at n ts

-- whether a token of a row is of a slot
abbrev pub slot_at : ℕ → Slot → List Seen → Bool
slot_at n s [] = false
slot_at zero s (t ∷ ts) = fits s t.0
slot_at (suc n) s (t ∷ ts) = slot_at n s ts
