-- The canonical spelling of a program's tree, as a text.
use Rattle.std.specs.Prelude.{ℕ, List, [], ◌++◌, map, codes, decimal}
use Rattle.prem_text.specs.Prelude.{ProgramText, Int, Unsigned}
use Rattle.prem_text.specs.Canonical.Canonical.{program_lexemes}
use Rattle.prem_text.specs.Lexing.Token.Lexeme.{Lexeme, name, number, word, mark, end_of_text}
use Rattle.prem_text.specs.Spelling.Spelled.{Spelling, joined}
use Rattle.prem_text.specs.declared.lexing.token.token.Mark.{Mark}
use Rattle.prem_text.specs.declared.lexing.token.token.Word.{Word}
use Rattle.prem_text.specs.declared.lexing.token.token.Mark.TheVariants as m
use Rattle.prem_text.specs.declared.lexing.token.token.Word.TheVariants as w

-- of the keywords without use the first one stands for all, and no program has any
abbrev pub word_bytes : Word → List ℕ
word_bytes w.Void = codes "void"
word_bytes w.Int = codes "int"
word_bytes w.Short = codes "short"
word_bytes w.Signed = codes "signed"
word_bytes w.Char = codes "char"
word_bytes w.Unsigned = codes "unsigned"
word_bytes w.If = codes "if"
word_bytes w.Else = codes "else"
word_bytes w.For = codes "for"
word_bytes w.While = codes "while"
word_bytes w.Return = codes "return"
word_bytes w.Predictable = codes "PREDICTABLE"
word_bytes w.Region = codes "REGION"
word_bytes w.Range = codes "RANGE"
word_bytes w.Bounded = codes "BOUNDED"
word_bytes w.In = codes "in"
word_bytes w.Out = codes "out"
word_bytes w.Unused = codes "auto"

abbrev pub mark_bytes : Mark → List ℕ
mark_bytes m.LessEqual = codes "<="
mark_bytes m.GreaterEqual = codes ">="
mark_bytes m.EqualEqual = codes "=="
mark_bytes m.NotEqual = codes "!="
mark_bytes m.AndAnd = codes "&&"
mark_bytes m.OrOr = codes "||"
mark_bytes m.ShiftLeft = codes "<<"
mark_bytes m.ShiftRight = codes ">>"
mark_bytes m.PlusPlus = codes "++"
mark_bytes m.MinusMinus = codes "--"
mark_bytes m.PlusEqual = codes "+="
mark_bytes m.MinusEqual = codes "-="
mark_bytes m.OpenParenthesis = codes "("
mark_bytes m.CloseParenthesis = codes ")"
mark_bytes m.OpenBrace = codes "{"
mark_bytes m.CloseBrace = codes "}"
mark_bytes m.OpenBracket = codes "["
mark_bytes m.CloseBracket = codes "]"
mark_bytes m.Semicolon = codes ";"
mark_bytes m.Comma = codes ","
mark_bytes m.Equal = codes "="
mark_bytes m.Plus = codes "+"
mark_bytes m.Minus = codes "-"
mark_bytes m.Star = codes "*"
mark_bytes m.Slash = codes "/"
mark_bytes m.Percent = codes "%"
mark_bytes m.And = codes "&"
mark_bytes m.Or = codes "|"
mark_bytes m.Caret = codes "^"
mark_bytes m.Tilde = codes "~"
mark_bytes m.Bang = codes "!"
mark_bytes m.Less = codes "<"
mark_bytes m.Greater = codes ">"

-- a literal is decimal, and an unsigned one has the suffix `u`
abbrev pub lexeme_bytes : Lexeme → List ℕ
lexeme_bytes (name x) = x
lexeme_bytes (number value Int) = decimal value
lexeme_bytes (number value Unsigned) = decimal value ++ codes "u"
lexeme_bytes (word k) = word_bytes k
lexeme_bytes (mark m) = mark_bytes m
lexeme_bytes end_of_text = []

abbrev pub spelling_of : Lexeme → Spelling
spelling_of t = (lexeme_bytes t, t)

-- the canonical spelling: one blank between each two tokens
abbrev pub printed : ProgramText → List ℕ
printed items = joined (map spelling_of (program_lexemes items))
