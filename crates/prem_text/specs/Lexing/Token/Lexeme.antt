-- Tokens as plain data: what a token says, wherever its name lies in memory.
use Rattle.prem_text.specs.Prelude.{Text, Place, Kind, ℕ}
use Rattle.prem_syntax.specs.Name.{name_bytes}
use Rattle.prem_text.specs.declared.lexing.token.token.Mark.{Mark}
use Rattle.prem_text.specs.declared.lexing.token.token.Spotted.{Spotted}
use Rattle.prem_text.specs.declared.lexing.token.token.Token.{Token}
use Rattle.prem_text.specs.declared.lexing.token.token.Word.{Word}
use Rattle.prem_text.specs.declared.lexing.token.token.Token.TheVariants as code

pub data Lexeme : Type 0 where
  name : (text : Text) → Lexeme
  number : (value : ℕ) (kind : Kind) → Lexeme
  word : Word → Lexeme
  mark : Mark → Lexeme
  end_of_text : Lexeme

abbrev pub lexeme_of : Token → Lexeme
lexeme_of (code.Name n) = name (name_bytes n)
lexeme_of (code.Literal value kind) = number value kind
lexeme_of (code.Word w) = word w
lexeme_of (code.Mark m) = mark m
lexeme_of code.End = end_of_text

-- a token and its place
abbrev pub Seen : Type 0
Seen = Lexeme × Place

abbrev pub seen_of : Spotted → Seen
seen_of s = (lexeme_of s.token, s.at)
