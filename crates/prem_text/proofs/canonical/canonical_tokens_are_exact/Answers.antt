use Rattle.prem_text.proofs.CanonicalLemmas.Read.{canonical_spelled, canonical_spellings, canonical_divided}
use Rattle.prem_text.proofs.canonical.canonical_tokens_are_exact.Goals as goal

pub returns : goal.returns
returns c = record { grammar = canonical_spelled; bytes = canonical_spellings; text = canonical_divided }
