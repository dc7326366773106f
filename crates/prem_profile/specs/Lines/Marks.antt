-- The lines of the marks of a text: those of its words `PREDICTABLE`, of which each marked function has one, in order.
use Rattle.std.specs.Prelude.{ℕ, if◌then◌else◌, Bool, true, false, List, [], ◌∷◌, Result, Ok, Err}
use Rattle.prem_text.specs.declared.lexing.token.token.Word.{Word}
use Rattle.prem_text.specs.declared.lexing.token.token.Word.TheVariants.{Predictable}
use Rattle.prem_text.specs.declared.lexing.token.fail.FrontFail.{FrontFail}
use Rattle.prem_text.specs.Lexing.Token.Lexeme.{Lexeme, word, Seen}
use Rattle.prem_text.specs.Lexing.Tokens.{tokens_of}

abbrev pub is_predictable : Word → Bool
is_predictable Predictable = true
is_predictable _ = false

abbrev pub is_mark : Lexeme → Bool
is_mark (word w) = is_predictable w
is_mark _ = false

abbrev pub marks_in : List Seen → List ℕ
marks_in [] = []
marks_in (t ∷ ts) = if is_mark t.0 then t.1.line ∷ marks_in ts else marks_in ts

abbrev pub marks_if_read : Result (List Seen) FrontFail → List ℕ
marks_if_read (Ok all) = marks_in all
marks_if_read (Err fail) = []

-- none where the text has no tokens
abbrev pub mark_lines : List ℕ → List ℕ
mark_lines text = marks_if_read (tokens_of text)
