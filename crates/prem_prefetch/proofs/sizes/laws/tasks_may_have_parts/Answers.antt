use Rattle.prem_prefetch.proofs.SizesLemmas.Programs.{tasks_may_have_parts}
use Rattle.prem_prefetch.proofs.sizes.laws.tasks_may_have_parts.Goals as goal

pub returns : goal.returns
returns c = tasks_may_have_parts
