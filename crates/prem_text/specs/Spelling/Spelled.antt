-- Texts that are made of spellings.
use Rattle.prem_text.specs.Lexing.Token.Lexeme.{Lexeme, Seen}
use Rattle.prem_text.specs.Spelling.Division.{place_behind}
use Rattle.prem_text.specs.Spelling.Spellings.{Spells}
use Rattle.std.specs.Prelude.{ℕ, List, [], ◌∷◌, ◌++◌}

-- bytes, and the token that they are to be
abbrev pub Spelling : Type 0
Spelling = List ℕ × Lexeme

abbrev pub AreSpellings : List Spelling → Type 0
AreSpellings [] = Unit {0}
AreSpellings (x ∷ xs) = Spells x.0 x.1 × AreSpellings xs

-- one blank between each two
abbrev pub joined : List Spelling → List ℕ
joined [] = []
joined (x ∷ []) = x.0
joined (x ∷ y ∷ ys) = x.0 ++ 32 ∷ joined (y ∷ ys)

-- the tokens of spellings that stand so behind other bytes
abbrev pub placed : List ℕ → List Spelling → List Seen
placed before [] = []
placed before (x ∷ xs) = (x.1, place_behind before) ∷ placed (before ++ x.0 ++ 32 ∷ []) xs
