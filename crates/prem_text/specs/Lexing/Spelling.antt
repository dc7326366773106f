-- The spelling of the reserved words and the marks.
use Rattle.prem_text.specs.declared.lexing.token.token.Mark.{Mark}
use Rattle.prem_text.specs.declared.lexing.token.token.Word.{Word}
use Rattle.std.specs.Prelude.{ℕ, Bool, false, ◌==◌, ◌&&◌, ◌||◌, if◌then◌else◌, List, [], ◌∷◌, length, Option, None, Some, codes}
use Rattle.std.specs.Str.{bytes_eq}
use Rattle.prem_text.specs.declared.lexing.token.token.Word.TheVariants as w
use Rattle.prem_text.specs.declared.lexing.token.token.Mark.TheVariants as m

abbrev pub words : List (List ℕ × Word)
words =
    (codes "void", w.Void) ∷
    (codes "int", w.Int) ∷
    (codes "short", w.Short) ∷
    (codes "signed", w.Signed) ∷
    (codes "char", w.Char) ∷
    (codes "unsigned", w.Unsigned) ∷
    (codes "if", w.If) ∷
    (codes "else", w.Else) ∷
    (codes "for", w.For) ∷
    (codes "while", w.While) ∷
    (codes "return", w.Return) ∷
    (codes "PREDICTABLE", w.Predictable) ∷
    (codes "REGION", w.Region) ∷
    (codes "RANGE", w.Range) ∷
    (codes "BOUNDED", w.Bounded) ∷
    (codes "in", w.In) ∷
    (codes "out", w.Out) ∷
    []

-- reserved words that the grammar has no use for
abbrev pub unused : List (List ℕ)
unused =
    codes "auto" ∷
    codes "break" ∷
    codes "case" ∷
    codes "const" ∷
    codes "continue" ∷
    codes "default" ∷
    codes "do" ∷
    codes "double" ∷
    codes "enum" ∷
    codes "extern" ∷
    codes "float" ∷
    codes "goto" ∷
    codes "inline" ∷
    codes "long" ∷
    codes "register" ∷
    codes "restrict" ∷
    codes "sizeof" ∷
    codes "static" ∷
    codes "struct" ∷
    codes "switch" ∷
    codes "typedef" ∷
    codes "union" ∷
    codes "volatile" ∷
    codes "_Bool" ∷
    codes "_Complex" ∷
    codes "_Imaginary" ∷
    []

-- the marks, longer ones first
abbrev pub marks : List (List ℕ × Mark)
marks =
    (codes "<=", m.LessEqual) ∷
    (codes ">=", m.GreaterEqual) ∷
    (codes "==", m.EqualEqual) ∷
    (codes "!=", m.NotEqual) ∷
    (codes "&&", m.AndAnd) ∷
    (codes "||", m.OrOr) ∷
    (codes "<<", m.ShiftLeft) ∷
    (codes ">>", m.ShiftRight) ∷
    (codes "++", m.PlusPlus) ∷
    (codes "--", m.MinusMinus) ∷
    (codes "+=", m.PlusEqual) ∷
    (codes "-=", m.MinusEqual) ∷
    (codes "(", m.OpenParenthesis) ∷
    (codes ")", m.CloseParenthesis) ∷
    (codes "{", m.OpenBrace) ∷
    (codes "}", m.CloseBrace) ∷
    (codes "[", m.OpenBracket) ∷
    (codes "]", m.CloseBracket) ∷
    (codes ";", m.Semicolon) ∷
    (codes ",", m.Comma) ∷
    (codes "=", m.Equal) ∷
    (codes "+", m.Plus) ∷
    (codes "-", m.Minus) ∷
    (codes "*", m.Star) ∷
    (codes "/", m.Slash) ∷
    (codes "%", m.Percent) ∷
    (codes "&", m.And) ∷
    (codes "|", m.Or) ∷
    (codes "^", m.Caret) ∷
    (codes "~", m.Tilde) ∷
    (codes "!", m.Bang) ∷
    (codes "<", m.Less) ∷
    (codes ">", m.Greater) ∷
    []

abbrev pub word_in : List (List ℕ × Word) → List ℕ → Option Word
word_in [] bytes = None
word_in (x ∷ xs) bytes = if bytes_eq bytes x.0 then Some x.1 else word_in xs bytes

unfoldable pub used_word : List ℕ → Option Word
used_word bytes = word_in words bytes

abbrev pub is_one_of : List (List ℕ) → List ℕ → Bool
is_one_of [] bytes = false
is_one_of (x ∷ xs) bytes = bytes_eq bytes x || is_one_of xs bytes

unfoldable pub is_unused : List ℕ → Bool
is_unused bytes = is_one_of unused bytes

-- the reserved word that bytes spell
unfoldable pub reserved_word : List ℕ → Option Word
reserved_word bytes = elim (used_word bytes) [ Some x ↦ Some x | None ↦ if is_unused bytes then Some w.Unused else None ]

-- whether a byte and the next one begin with a spelling
abbrev pub begins : List ℕ → ℕ → ℕ → Bool
begins (a ∷ []) first second = first == a
begins (a ∷ b ∷ rest) first second = first == a && second == b
begins [] first second = false

abbrev pub mark_in : List (List ℕ × Mark) → ℕ → ℕ → Option (Mark × ℕ)
mark_in [] first second = None
mark_in (x ∷ xs) first second = if begins x.0 first second then Some (x.1, length x.0) else mark_in xs first second

-- the longest mark at a byte that another, or 0, follows
unfoldable pub longest_mark : ℕ → ℕ → Option (Mark × ℕ)
longest_mark first second = mark_in marks first second
