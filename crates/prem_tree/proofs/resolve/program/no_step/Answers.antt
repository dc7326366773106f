use Rattle.prem_tree.proofs.ResolveLemmas.StepLaws.{IsStep_none}
use Rattle.prem_tree.proofs.resolve.program.no_step.Goals as goal

pub returns : goal.returns
returns c = IsStep_none c.new.result c.new.ensures
