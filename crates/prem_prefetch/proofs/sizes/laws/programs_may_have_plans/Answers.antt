use Rattle.prem_prefetch.proofs.SizesLemmas.Programs.{programs_may_have_plans}
use Rattle.prem_prefetch.proofs.sizes.laws.programs_may_have_plans.Goals as goal

pub returns : goal.returns
returns c = programs_may_have_plans
