use Rattle.prem_text.proofs.SpellingLemmas.Exact.{refusals_sound, refusals_complete}
use Rattle.prem_text.proofs.spelling.refusals_are_exact.Goals as goal

pub returns : goal.returns
returns c = record { sound = refusals_sound; complete = refusals_complete }
