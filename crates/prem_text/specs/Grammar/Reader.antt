-- Reading a program, one token after the other.
use Rattle.std.specs.Prelude.{if◌then◌else◌, List, [], ◌∷◌, ◌++◌, Result, Ok}
use Rattle.prem_text.specs.Prelude.{ItemText, ProgramText, Place}
use Rattle.prem_text.specs.Grammar.Item.{Stage, outside, finished, ahead, made, refused, step, is_too_deep}
use Rattle.prem_text.specs.Lexing.Token.Lexeme.{Seen}
use Rattle.prem_text.specs.Lexing.Token.Reading.{no_program, too_deep}
use Rattle.prem_text.specs.declared.lexing.token.fail.FrontFail.{FrontFail}

-- tokens that lack the end of the text end here, which no place of a text is
abbrev pub nowhere : Place
nowhere = record { line = 0; col = 0 }

abbrev pub unless_deep : Stage → Place → Result ProgramText FrontFail → Result ProgramText FrontFail
unless_deep stage at later = if is_too_deep stage then too_deep at else later

abbrev pub at_end : List ItemText → Stage → Result ProgramText FrontFail
at_end items finished = Ok items
at_end items _ = no_program nowhere

-- the program, from some items on
abbrev pub read_on : List ItemText → Stage → List Seen → Result ProgramText FrontFail
read_on items stage [] = at_end items stage
read_on items stage (t ∷ ts) = elim (step stage t) [
  | ahead next ↦ unless_deep next t.1 (read_on items next ts)
  | made item ↦ read_on (items ++ item ∷ []) outside ts
  | refused ↦ no_program t.1
]

-- the program that tokens are, the last of which is the end of the text
abbrev pub read : List Seen → Result ProgramText FrontFail
read ts = read_on [] outside ts
