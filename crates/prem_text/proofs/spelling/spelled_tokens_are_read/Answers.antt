use Rattle.prem_text.proofs.SpellingLemmas.Joined.{spelled_read}
use Rattle.prem_text.proofs.spelling.spelled_tokens_are_read.Goals as goal

pub returns : goal.returns
returns c = spelled_read
