-- A text with tokens put behind it.
use Rattle.std.specs.Prelude.{ℕ, List, [], ◌∷◌, ◌++◌}
use Rattle.prem_text.specs.Lexing.Token.Lexeme.{Lexeme}
use Rattle.prem_text.specs.Canonical.Printed.{lexeme_bytes}

-- a token and a blank
unfoldable pub piece : Lexeme → List ℕ
piece x = lexeme_bytes x ++ 32 ∷ []

-- a text with tokens behind it, a blank behind each
abbrev pub written : List ℕ → List Lexeme → List ℕ
written text [] = text
written text (x ∷ xs) = written (text ++ piece x) xs
