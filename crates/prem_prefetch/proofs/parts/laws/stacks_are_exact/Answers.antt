use Rattle.prem_prefetch.proofs.PartsLemmas.Stacks.{stacks_are_exact}
use Rattle.prem_prefetch.proofs.parts.laws.stacks_are_exact.Goals as goal

pub returns : goal.returns
returns c = stacks_are_exact
