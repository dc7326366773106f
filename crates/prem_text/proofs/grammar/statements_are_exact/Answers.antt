use Rattle.prem_text.proofs.GrammarLemmas.Exact.{statements_read, statements_sound, statements_begun, statements_end, statements_limited}
use Rattle.prem_text.proofs.grammar.statements_are_exact.Goals as goal

pub returns : goal.returns
returns c = record { read = statements_read; sound = statements_sound; begun = statements_begun; stops = statements_end; limited = statements_limited }
