use Rattle.std.proofs.Common.{ap, ◌∙◌}
use Rattle.prem_profile.specs.Bound.Memory.{calls_of}
use Rattle.prem_profile.proofs.BillLemmas.Known.{more_calls}
use Rattle.prem_profile.proofs.bound.task.with_call.Goals as goal

pub returns-clause-calls : goal.returns-clause-calls
returns-clause-calls c = ap calls_of c.in_ok-push.ensures.items ∙ more_calls c.args.billed.calls.items c.args.call
