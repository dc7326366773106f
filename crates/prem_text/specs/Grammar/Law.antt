-- What the reader does with a list of tokens, for the laws that hold it to the grammar.
use Rattle.std.specs.Prelude.{◌≡◌, ℕ, Bool, true, false, List, [], ◌∷◌, ◌++◌, Option, None, Some}
use Rattle.prem_text.specs.Prelude.{ItemText}
use Rattle.prem_text.specs.Grammar.Expression.{State, goes, ends, stops, move}
use Rattle.prem_text.specs.Grammar.Item.{Stage, outside, ahead, made, refused, step, is_too_deep}
use Rattle.prem_text.specs.Grammar.Phrases.{quiet}
use Rattle.prem_text.specs.Grammar.ProgramPhrases.{ProgramPhrase, IsProgram, program_tokens, program_past}
use Rattle.prem_text.specs.Grammar.Statement.{in_body, Point, between, Turn, on, leaves, wrong, turn, is_past}
use Rattle.prem_text.specs.Lexing.Token.Lexeme.{Lexeme, word, mark, Seen}
use Rattle.prem_text.specs.declared.lexing.token.token.Mark.TheVariants as m
use Rattle.prem_text.specs.declared.lexing.token.token.Word.TheVariants as w

-- the state of an expression behind tokens that it has all taken
abbrev pub moves : ℕ → State → List Seen → Option State
moves least s [] = Some s
moves least s (t ∷ ts) = elim (move least s t) [ goes next ↦ moves least next ts | ends e ↦ None | stops ↦ None ]

-- the tokens that may stand behind a whole expression
abbrev pub is_closer : Lexeme → Bool
is_closer (mark m.CloseParenthesis) = true
is_closer (mark m.CloseBracket) = true
is_closer (mark m.Semicolon) = true
is_closer (mark m.Comma) = true
is_closer _ = false

-- before the first statement of a body
abbrev pub body_begins : Point
body_begins = between (in_body [])

-- the point behind tokens that a body has all taken
abbrev pub turns : Point → List Seen → Option Point
turns p [] = Some p
turns p (t ∷ ts) = elim (turn p t) [ on next ↦ turns next ts | leaves statements ↦ None | wrong ↦ None ]

abbrev pub goes_on : Turn → Bool
goes_on (on p) = true
goes_on _ = false

-- of the tokens that a body takes, which are past a limit
abbrev pub limits : Point → List Seen → List Bool
limits p [] = []
limits p (t ∷ ts) = elim (turn p t) [ on next ↦ is_past next ∷ limits next ts | leaves statements ↦ [] | wrong ↦ [] ]

-- the tokens behind the statements of a body
abbrev pub ends_body : Lexeme → Bool
ends_body (mark m.CloseBrace) = true
ends_body (word w.Return) = true
ends_body _ = false

-- the items that a program's tokens make, and the stage behind them
abbrev pub stages : List ItemText → Stage → List Seen → Option (List ItemText × Stage)
stages items stage [] = Some (items, stage)
stages items stage (t ∷ ts) = elim (step stage t) [ ahead next ↦ stages items next ts | made item ↦ stages (items ++ item ∷ []) outside ts | refused ↦ None ]

-- of the tokens that a program takes, which are past a limit
abbrev pub depths : Stage → List Seen → List Bool
depths stage [] = []
depths stage (t ∷ ts) = elim (step stage t) [ ahead next ↦ is_too_deep next ∷ depths next ts | made item ↦ false ∷ depths outside ts | refused ↦ [] ]

-- no token is past a limit
abbrev pub are_within : List Bool → Bool
are_within [] = true
are_within (true ∷ rest) = false
are_within (false ∷ rest) = are_within rest

-- tokens begin a program
pub record Begins (ts : List Seen) : Type 0 where
  pub more : List Seen
  pub phrase : ProgramPhrase
  pub right : IsProgram phrase
  pub tokens : program_tokens phrase ≡ ts ++ more

-- a token stands at a place, and no program has it behind the tokens before it, with which some program begins and of which none is past a limit there
pub record IsUnexpected (ts : List Seen) (line col : ℕ) : Type 0 where
  pub good : List Seen
  pub token : Seen
  pub rest : List Seen
  pub parts : ts ≡ good ++ token ∷ rest
  pub line_is : token.1.line ≡ line
  pub col_is : token.1.col ≡ col
  pub begun : Begins good
  pub later : List Bool
  pub within : program_past begun.phrase ≡ quiet good ++ later
  pub none : (more : List Seen) (p : ProgramPhrase) → IsProgram p → program_tokens p ≡ good ++ token ∷ more → ⊥

-- a token stands in a line, and a program has it behind the tokens before it as its first one past a limit
pub record IsPast (ts : List Seen) (line : ℕ) : Type 0 where
  pub good : List Seen
  pub token : Seen
  pub rest : List Seen
  pub parts : ts ≡ good ++ token ∷ rest
  pub line_is : token.1.line ≡ line
  pub phrase : ProgramPhrase
  pub right : IsProgram phrase
  pub more : List Seen
  pub tokens : program_tokens phrase ≡ good ++ token ∷ more
  pub later : List Bool
  pub past : program_past phrase ≡ quiet good ++ true ∷ later
