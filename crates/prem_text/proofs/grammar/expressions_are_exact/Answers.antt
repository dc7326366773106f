use Rattle.prem_text.proofs.GrammarLemmas.Exact.{expressions_read, expressions_sound, expressions_begun, expressions_end}
use Rattle.prem_text.proofs.grammar.expressions_are_exact.Goals as goal

pub returns : goal.returns
returns c = record { read = expressions_read; sound = expressions_sound; begun = expressions_begun; stops = expressions_end }
