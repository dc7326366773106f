-- What holds of the canonical spelling of a text's tree.
use Rattle.std.specs.Prelude.{◌≡◌, ℕ, ◌+◌, ◌≤◌, ◌<◌, List, [], ◌∷◌, ◌++◌, length, map, Result, Ok, Err}
use Rattle.prem_text.specs.Prelude.{Expression, ProgramText}
use Rattle.prem_text.specs.Canonical.Canonical.{program_lexemes}
use Rattle.prem_text.specs.Canonical.Printed.{printed}
use Rattle.prem_text.specs.Canonical.Unplaced.{unplaced_expression, unplaced}
use Rattle.prem_text.specs.Grammar.Law.{IsPast}
use Rattle.prem_text.specs.Grammar.Phrases.{Phrase, spelled, tree, IsExpression}
use Rattle.prem_text.specs.Grammar.ProgramPhrases.{ProgramPhrase, IsProgram, program_tokens, program_tree}
use Rattle.prem_text.specs.Lexing.Token.Lexeme.{Lexeme, mark, end_of_text, Seen}
use Rattle.prem_text.specs.Spelling.Division.{Divides, AreTokens, place_behind}
use Rattle.prem_text.specs.Texts.{IsProgramText}
use Rattle.prem_text.specs.declared.lexing.token.fail.FrontFail.{FrontFail}
use Rattle.prem_text.specs.declared.lexing.token.fail.FrontFail.TheVariants.{TooLong, TooDeep}
use Rattle.prem_text.specs.declared.lexing.token.token.Mark.TheVariants as m

-- a tree is, places aside, that of some text
pub record IsOfText (p : ProgramText) : Type 0 where
  pub text : List ℕ
  pub items : ProgramText
  pub is_text : IsProgramText text items
  pub same : unplaced p ≡ unplaced items

-- tokens, wherever they stand
abbrev pub lexemes_of : List Seen → List Lexeme
lexemes_of ts = map (λ (t : Seen). t.0) ts

-- ---- tokens

-- tokens are a tree's canonical ones and the end of the text, wherever they stand
abbrev pub AreCanonical : ProgramText → List Seen → Type 0
AreCanonical p ts = lexemes_of ts ≡ program_lexemes p ++ end_of_text ∷ []

-- a program of the grammar has these tokens, and its tree is the given one, places aside
pub record IsSpelled (p : ProgramText) (ts : List Seen) : Type 0 where
  pub phrase : ProgramPhrase
  pub right : IsProgram phrase
  pub tokens : program_tokens phrase ≡ ts
  pub same : unplaced (program_tree phrase) ≡ unplaced p

-- a text divides into the canonical tokens of a tree, and a program of the grammar has these and the end of the text, whose tree is the given one, places aside
pub record IsTextOf (p : ProgramText) (text : List ℕ) : Type 0 where
  pub tokens : List Seen
  pub divides : Divides [] text tokens []
  pub canonical : lexemes_of tokens ≡ program_lexemes p
  pub is_spelled : IsSpelled p (tokens ++ (end_of_text, place_behind text) ∷ [])

-- ---- parentheses

-- 1 for a parenthesis that is opened
abbrev pub opened : Lexeme → ℕ
opened (mark m.OpenParenthesis) = 1
opened _ = 0

-- how many parentheses stand among tokens, each opened and closed
abbrev pub parentheses : List Lexeme → ℕ
parentheses [] = 0
parentheses (x ∷ xs) = opened x + parentheses xs

-- tokens are those of a phrase of a level or tighter whose tree is an expression, places aside; each such phrase has as many parentheses or more, and none has as few but with these tokens
pub record HasFewest (least : ℕ) (e : Expression) (xs : List Lexeme) : Type 0 where
  pub phrase : Phrase
  pub right : IsExpression least phrase
  pub tokens : lexemes_of (spelled phrase) ≡ xs
  pub same : unplaced_expression (tree phrase) ≡ unplaced_expression e
  pub fewest : (p : Phrase) → IsExpression least p → unplaced_expression (tree p) ≡ unplaced_expression e → parentheses xs ≤ parentheses (lexemes_of (spelled p))
  pub alone : (p : Phrase) → IsExpression least p → unplaced_expression (tree p) ≡ unplaced_expression e →
      parentheses (lexemes_of (spelled p)) ≤ parentheses xs → lexemes_of (spelled p) ≡ xs

-- ---- reading

-- a spelling within the limits of a text
pub record Fits (p : ProgramText) : Type 0 where
  pub bytes : length (printed p) ≤ 1048576
  pub tokens : length (program_lexemes p) ≤ 200000

-- one past them
pub data IsTooLong (p : ProgramText) : Type 0 where
  too_many_bytes : 1048576 < length (printed p) → IsTooLong p
  too_many_tokens : 200000 < length (program_lexemes p) → IsTooLong p

-- reading gave a tree back, places aside; or the spelling is too long; or of its tokens one is the first past a limit
pub data ReadBack (p : ProgramText) : Result ProgramText FrontFail → Type 0 where
  gives_back : (items : ProgramText) → Fits p → IsProgramText (printed p) items → unplaced items ≡ unplaced p → ReadBack p (Ok items)
  is_too_long : IsTooLong p → ReadBack p (Err TooLong)
  is_too_deep : (line : ℕ) (ts : List Seen) → Fits p → AreTokens (printed p) ts → IsPast ts line → ReadBack p (Err (TooDeep line))
