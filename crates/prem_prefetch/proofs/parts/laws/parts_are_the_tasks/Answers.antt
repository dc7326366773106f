use Rattle.prem_prefetch.proofs.PartsLemmas.Stacks.{parts_are_the_tasks}
use Rattle.prem_prefetch.proofs.parts.laws.parts_are_the_tasks.Goals as goal

pub returns : goal.returns
returns c = parts_are_the_tasks
