use Rattle.prem_prefetch.proofs.SizesLemmas.PartsOf.{parts_are_exact}
use Rattle.prem_prefetch.proofs.sizes.laws.parts_are_exact.Goals as goal

pub returns : goal.returns
returns c = parts_are_exact
