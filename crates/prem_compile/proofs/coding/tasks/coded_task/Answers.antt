use Rattle.std.proofs.Common.{refl}
use Rattle.prem_compile.proofs.CodingLemmas.Codable.{may_have_plans, is_coded_task}
use Rattle.prem_compile.proofs.coding.tasks.coded_task.Goals as goal

pub facts_of-requires : goal.facts_of-requires
facts_of-requires c = may_have_plans c.args.coded c.requires

pub intervals_of-requires-clause-may : goal.intervals_of-requires-clause-may
intervals_of-requires-clause-may c = may_have_plans c.args.coded c.requires

pub stack_size-stack-requires-clause-may : goal.stack_size-stack-requires-clause-may
stack_size-stack-requires-clause-may c = may_have_plans c.args.coded c.requires

pub returns-clause-coded : goal.returns-clause-coded
returns-clause-coded c = is_coded_task c.args.coded _ c.requires refl refl refl c.in_ok-plans.ensures c.stack_size-stack.ensures
