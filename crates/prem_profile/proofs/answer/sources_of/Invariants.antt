use Rattle.std.proofs.Common.{◌≡◌, take}
use Rattle.prem_profile.specs.Answer.{sources_of}
use Rattle.prem_profile.proofs.answer.sources_of.Given as goal

abbrev pub invariant-tasks : goal.invariant-tasks
invariant-tasks l = l.sources.items ≡ sources_of (take l.task-index l.tasks)
