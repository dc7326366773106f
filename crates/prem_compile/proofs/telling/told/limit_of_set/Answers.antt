use Rattle.prem_compile.proofs.TellingLemmas.Limits.{limit_is}
use Rattle.prem_compile.proofs.telling.told.limit_of_set.Goals as goal

pub returns : goal.returns
returns c = λ p e. limit_is p c.args.tasks.now c.args.jobs.now c.limit.result e c.limit.ensures
