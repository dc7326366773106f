use Rattle.prem_text.proofs.SpellingLemmas.Exact.{sound, complete, unique}
use Rattle.prem_text.proofs.spelling.divisions_are_exact.Goals as goal

pub returns : goal.returns
returns c = record { sound = sound; complete = complete; unique = unique }
