-- Reading an expression, one token after the other.
use Rattle.std.specs.Prelude.{ℕ, nat_le, nat_lt, if◌then◌else◌, Option, None, Some}
use Rattle.prem_text.specs.Prelude.{Text, Expression, literal, variable, element, unary, binary, Place, UnOp, Neg, Flip, Not, BinOp, Add, Sub, Mul, Div, Rem, Shl, Shr, Lt, Le, Gt, Ge, Eq}
use Rattle.prem_text.specs.Prelude.{Ne, And, Xor, Or, AndAlso, OrElse}
use Rattle.prem_text.specs.Lexing.Token.Lexeme.{Lexeme, name, number, mark, Seen}
use Rattle.prem_text.specs.declared.lexing.token.token.Mark.{Mark}
use Rattle.prem_text.specs.declared.lexing.token.token.Mark.TheVariants as m

-- the operator of a mark between operands
abbrev pub infix_of : Mark → Option BinOp
infix_of m.OrOr = Some OrElse
infix_of m.AndAnd = Some AndAlso
infix_of m.Or = Some Or
infix_of m.Caret = Some Xor
infix_of m.And = Some And
infix_of m.EqualEqual = Some Eq
infix_of m.NotEqual = Some Ne
infix_of m.Less = Some Lt
infix_of m.LessEqual = Some Le
infix_of m.Greater = Some Gt
infix_of m.GreaterEqual = Some Ge
infix_of m.ShiftLeft = Some Shl
infix_of m.ShiftRight = Some Shr
infix_of m.Plus = Some Add
infix_of m.Minus = Some Sub
infix_of m.Star = Some Mul
infix_of m.Slash = Some Div
infix_of m.Percent = Some Rem
infix_of _ = None

-- from the loosest to the tightest
abbrev pub level_of : BinOp → ℕ
level_of OrElse = 1
level_of AndAlso = 2
level_of Or = 3
level_of Xor = 4
level_of And = 5
level_of Eq = 6
level_of Ne = 6
level_of Lt = 7
level_of Le = 7
level_of Gt = 7
level_of Ge = 7
level_of Shl = 8
level_of Shr = 8
level_of Add = 9
level_of Sub = 9
level_of Mul = 10
level_of Div = 10
level_of Rem = 10

abbrev pub prefix_of : Mark → Option UnOp
prefix_of m.Minus = Some Neg
prefix_of m.Tilde = Some Flip
prefix_of m.Bang = Some Not
prefix_of _ = None

-- what is open around an operand, the innermost first
pub data Open : Type 0 where
  bottom : Open
  under : (at : Place) (op : UnOp) (around : Open) → Open
  right_of : (left : Expression) (at : Place) (op : BinOp) (around : Open) → Open
  bracket : (around : Open) → Open
  index_of : (at : Place) (text : Text) (around : Open) → Open

-- an operand with the open operators that bind it before an operator of a level does
abbrev pub bind : ℕ → Expression → Open → Expression × Open
bind k e (under at op around) = bind k (unary at op e) around
bind k e (right_of left at op around) = if nat_le k (level_of op) then bind k (binary at op left e) around else (e, right_of left at op around)
bind k e around = (e, around)

-- an operand is wanted; a name stands, behind which an index may come; an operand stands
pub data State : Type 0 where
  wants : (around : Open) → State
  named : (at : Place) (text : Text) (around : Open) → State
  has : (e : Expression) (around : Open) → State

-- a token is one of the expression's; it is behind the expression; or no expression has it here
pub data Move : Type 0 where
  goes : (s : State) → Move
  ends : (e : Expression) → Move
  stops : Move

abbrev pub operand : Open → Lexeme → Place → Move
operand around (number v k) at = goes (has (literal at v k) around)
operand around (name x) at = goes (named at x around)
operand around (mark m.OpenParenthesis) at = goes (wants (bracket around))
operand around (mark x) at = elim (prefix_of x) [ Some op ↦ goes (wants (under at op around)) | None ↦ stops ]
operand around _ at = stops

-- an operator behind an operand; at the bottom those looser than a level are behind the expression
abbrev pub operator : ℕ → BinOp → Place → Expression × Open → Move
operator least op at (e, bottom) = if nat_lt (level_of op) least then ends e else goes (wants (right_of e at op bottom))
operator least op at (e, around) = goes (wants (right_of e at op around))

abbrev pub closing : Expression × Open → Lexeme → Move
closing (e, bottom) t = ends e
closing (e, bracket around) (mark m.CloseParenthesis) = goes (has e around)
closing (e, index_of at x around) (mark m.CloseBracket) = goes (has (element at x e) around)
closing (e, around) t = stops

abbrev pub behind : ℕ → Expression → Open → Lexeme → Place → Move
behind least e around (mark x) at = elim (infix_of x) [
  | Some op ↦ operator least op at (bind (level_of op) e around)
  | None ↦ closing (bind 0 e around) (mark x)
]
behind least e around t at = closing (bind 0 e around) t

abbrev pub move : ℕ → State → Seen → Move
move least (wants around) t = operand around t.0 t.1
move least (named at x around) (mark m.OpenBracket, b) = goes (wants (index_of at x around))
move least (named at x around) t = behind least (variable at x) around t.0 t.1
move least (has e around) t = behind least e around t.0 t.1
