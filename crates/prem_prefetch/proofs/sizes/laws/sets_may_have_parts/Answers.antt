use Rattle.prem_prefetch.proofs.SizesLemmas.Programs.{sets_may_have_parts}
use Rattle.prem_prefetch.proofs.sizes.laws.sets_may_have_parts.Goals as goal

pub returns : goal.returns
returns c = sets_may_have_parts
