-- The grammar of expressions: phrases as they are spelled, with the place of each token.
use Rattle.std.specs.Prelude.{◌≡◌, ℕ, ◌+◌, ◌≤◌, ◌<◌, nat_lt, Bool, true, false, List, [], ◌∷◌, ◌++◌, Option, None, Some}
use Rattle.prem_text.specs.Prelude.{Text, Expression, literal, variable, element, unary, binary, Place, UnOp, BinOp, Kind}
use Rattle.prem_text.specs.Grammar.Expression.{infix_of, prefix_of, level_of}
use Rattle.prem_text.specs.Grammar.Slots.{Slot, fits, text_at}
use Rattle.prem_text.specs.Lexing.Token.Lexeme.{name, number, mark, Seen}
use Rattle.prem_text.specs.declared.lexing.token.token.Mark.{Mark}
use Rattle.prem_text.specs.declared.lexing.token.token.Mark.TheVariants as m

pub data Phrase : Type 0 where
  of_literal : (at : Place) (value : ℕ) (kind : Kind) → Phrase
  of_name : (at : Place) (text : Text) → Phrase
  of_element : (at : Place) (text : Text) (a : Place) (index : Phrase) (b : Place) → Phrase
  of_bracket : (a : Place) (inner : Phrase) (b : Place) → Phrase
  of_prefix : (at : Place) (sign : Mark) (op : UnOp) (operand : Phrase) → Phrase
  of_infix : (left : Phrase) (at : Place) (sign : Mark) (op : BinOp) (right : Phrase) → Phrase

abbrev pub spelled : Phrase → List Seen
spelled (of_literal at value kind) = (number value kind, at) ∷ []
spelled (of_name at text) = (name text, at) ∷ []
spelled (of_element at text a index b) = (name text, at) ∷ (mark m.OpenBracket, a) ∷ spelled index ++ (mark m.CloseBracket, b) ∷ []
spelled (of_bracket a inner b) = (mark m.OpenParenthesis, a) ∷ spelled inner ++ (mark m.CloseParenthesis, b) ∷ []
spelled (of_prefix at sign op operand) = (mark sign, at) ∷ spelled operand
spelled (of_infix left at sign op right) = spelled left ++ (mark sign, at) ∷ spelled right

abbrev pub tree : Phrase → Expression
tree (of_literal at value kind) = literal at value kind
tree (of_name at text) = variable at text
tree (of_element at text a index b) = element at text (tree index)
tree (of_bracket a inner b) = tree inner
tree (of_prefix at sign op operand) = unary at op (tree operand)
tree (of_infix left at sign op right) = binary at op (tree left) (tree right)

-- how tightly a phrase holds together
abbrev pub level : Phrase → ℕ
level (of_infix left at sign op right) = level_of op
level (of_prefix at sign op operand) = 11
level _ = 12

-- the operators of a phrase bind as the levels say, all from the left
abbrev pub Binds : Phrase → Type 0
Binds (of_element at text a index b) = Binds index
Binds (of_bracket a inner b) = Binds inner
Binds (of_prefix at sign op operand) = (prefix_of sign ≡ Some op) × (11 ≤ level operand) × Binds operand
Binds (of_infix left at sign op right) =
    (infix_of sign ≡ Some op) × (level_of op ≤ level left) × (level_of op < level right) × Binds left × Binds right
Binds _ = Unit {0}

-- a whole expression of a level or tighter: 1 is `expr`, and 8 is `shift`
abbrev pub IsExpression : ℕ → Phrase → Type 0
IsExpression least p = (least ≤ level p) × Binds p

-- tokens spell an expression of a level or tighter, whose tree is e
abbrev pub Spells : ℕ → List Seen → Expression → Type 0
Spells least ts e = (p : Phrase) × (least ≤ level p) × Binds p × (spelled p ≡ ts) × (tree p ≡ e)

-- ---- rows of tokens

-- tokens stand in these slots
abbrev pub IsRow : List Slot → List Seen → Type 0
IsRow [] [] = Unit {0}
IsRow [] (t ∷ ts) = ⊥
IsRow (s ∷ slots) [] = ⊥
IsRow (s ∷ slots) (t ∷ ts) = (fits s t.0 ≡ true) × IsRow slots ts

abbrev pub name_or_none : Option Text → Text
name_or_none (Some x) = x
name_or_none None = []

-- the name in a row
abbrev pub name_at : ℕ → List Seen → Text
name_at n ts = name_or_none (text_at n ts)

-- ---- limits, token by token

abbrev pub quiet : List Seen → List Bool
quiet [] = []
quiet (t ∷ ts) = false ∷ quiet ts

-- the tokens of an outermost expression from the n-th on: those behind the 256th are past the limit
abbrev pub counted : ℕ → List Seen → List Bool
counted n [] = []
counted n (t ∷ ts) = nat_lt 256 n ∷ counted (n + 1) ts

-- tokens that begin a statement of nesting n: the first is past the limit where that is more than 64
abbrev pub opening : ℕ → List Seen → List Bool
opening n [] = []
opening n (t ∷ ts) = nat_lt 64 n ∷ quiet ts
