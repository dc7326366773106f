use Rattle.prem_text.proofs.ReadWordsLemmas.ProgramWords.{reads_have_words}
use Rattle.prem_text.proofs.read_words.reads_have_words.Goals as goal

pub returns : goal.returns
returns c = reads_have_words
