use Rattle.prem_text.proofs.CanonicalLemmas.Read.{canonical_read}
use Rattle.prem_text.proofs.canonical.canonical_texts_are_read.Goals as goal

pub returns : goal.returns
returns c = canonical_read
