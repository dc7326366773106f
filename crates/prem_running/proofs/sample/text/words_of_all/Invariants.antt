use Rattle.std.proofs.Common.{◌≡◌, ◌++◌, map, drop}
use Rattle.prem_cycle.specs.FactsOf.{task_report}
use Rattle.prem_running.specs.Sample.Sample.{words_of_all}
use Rattle.prem_running.proofs.sample.text.words_of_all.Given as goal

abbrev pub invariant-tasks : goal.invariant-tasks
invariant-tasks l = l.words.items ++ words_of_all (map task_report (drop l.task-index l.tasks)) ≡ words_of_all (map task_report l.tasks)
