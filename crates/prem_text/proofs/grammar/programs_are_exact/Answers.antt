use Rattle.prem_text.proofs.GrammarLemmas.Program.{programs_read}
use Rattle.prem_text.proofs.GrammarLemmas.ProgramRefused.{refused_for, unexpected_refused, past_refused}
use Rattle.prem_text.proofs.GrammarLemmas.ProgramSound.{programs_sound}
use Rattle.prem_text.specs.declared.lexing.token.fail.FrontFail.TheVariants.{Syntax, TooDeep}
use Rattle.prem_text.proofs.grammar.programs_are_exact.Goals as goal

pub returns : goal.returns
returns c = record {
  read = programs_read;
  sound = programs_sound;
  stops = λ ts line col is. refused_for ts (Syntax line col) is;
  unexpected =
      unexpected_refused;
  limits = λ ts line is. refused_for ts (TooDeep line) is;
  past = past_refused;
}
