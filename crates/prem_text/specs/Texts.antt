-- Which texts are programs, and why another is none.
use Rattle.std.specs.Prelude.{◌≡◌, ℕ, true, List, Result}
use Rattle.prem_text.specs.Prelude.{ProgramText}
use Rattle.prem_text.specs.Grammar.Law.{are_within, IsUnexpected, IsPast}
use Rattle.prem_text.specs.Grammar.ProgramPhrases.{ProgramPhrase, IsProgram, program_tokens, program_tree, program_past}
use Rattle.prem_text.specs.Grammar.Reader.{read}
use Rattle.prem_text.specs.Lexing.Token.Lexeme.{Seen}
use Rattle.prem_text.specs.Lexing.Token.Reading.{◌>>=◌}
use Rattle.prem_text.specs.Lexing.Tokens.{tokens_of}
use Rattle.prem_text.specs.Spelling.Division.{AreTokens, Refused}
use Rattle.prem_text.specs.declared.lexing.token.fail.FrontFail.{FrontFail}
use Rattle.prem_text.specs.declared.lexing.token.fail.FrontFail.TheVariants.{Syntax, TooDeep}

-- what is read of a text, or its first refusal: the tokens of the whole text come first, then the grammar
abbrev pub reads : List ℕ → Result ProgramText FrontFail
reads text = tokens_of text >>= read

-- a text divides into tokens that a program of the grammar has, none of them past a limit, and that program has this tree
pub record IsProgramText (text : List ℕ) (items : ProgramText) : Type 0 where
  pub all : List Seen
  pub tokens : AreTokens text all
  pub phrase : ProgramPhrase
  pub right : IsProgram phrase
  pub spelled : program_tokens phrase ≡ all
  pub within : are_within (program_past phrase) ≡ true
  pub tree : program_tree phrase ≡ items

-- a text doesn't divide into tokens; or of its tokens one stands where no program has it behind those before, none of which is past a limit; or one is the first past a limit in some program
pub data IsNoProgram (text : List ℕ) : FrontFail → Type 0 where
  not_divided : (fail : FrontFail) → Refused text fail → IsNoProgram text fail
  unexpected : (all : List Seen) (line col : ℕ) → AreTokens text all → IsUnexpected all line col → IsNoProgram text (Syntax line col)
  past : (all : List Seen) (line : ℕ) → AreTokens text all → IsPast all line → IsNoProgram text (TooDeep line)
