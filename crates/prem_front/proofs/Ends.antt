-- What is read of a text at the end of its tokens.
use Rattle.std.proofs.Common.{◌≡◌, List, Ok, true, false, refl}
use Rattle.prem_syntax.specs.Syntax.{ItemText}
use Rattle.prem_text.specs.Lexing.Token.Reading.{no_program}
use Rattle.prem_text.specs.Grammar.Item.{Stage, finished}
use Rattle.prem_text.specs.Grammar.Reader.{nowhere, at_end}
use Rattle.prem_front.specs.Ends.{is_finished}

pub finished_at_end : (items : List ItemText) (s : Stage) → is_finished s ≡ true → at_end items s ≡ Ok items
finished_at_end items finished is = refl
finished_at_end items _ is = absurd cc

pub unfinished_at_end : (items : List ItemText) (s : Stage) → is_finished s ≡ false → at_end items s ≡ no_program nowhere
unfinished_at_end items finished is = absurd cc
unfinished_at_end items _ is = refl
