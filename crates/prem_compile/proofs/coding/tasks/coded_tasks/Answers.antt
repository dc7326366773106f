use Rattle.prem_tasks.specs.SetOf.{set_of}
use Rattle.prem_compile.proofs.CodingLemmas.Codable.{all_codable, as_many, tasks_are}
use Rattle.prem_compile.proofs.CodingLemmas.Joined.{has_code}
use Rattle.prem_compile.proofs.coding.tasks.coded_tasks.Goals as goal

pub code_tasks-requires-clause-tasks : goal.code_tasks-requires-clause-tasks
code_tasks-requires-clause-tasks c = as_many (set_of c.args.set.now) c.tasks.result.now c.in_ok-coded.coded.items c.in_ok-coded.ensures c.tasks.ensures.tasks

pub code_tasks-requires-clause-each : goal.code_tasks-requires-clause-each
code_tasks-requires-clause-each c = all_codable (set_of c.args.set.now).plant.target c.in_ok-coded.coded.items c.in_ok-coded.ensures.each

pub returns : goal.returns
returns c =
    has_code (set_of c.args.set.now) c.in_ok-coded.coded.items c.in_ok-tasks.tasks.items c.in_ok-coded.ensures
    (tasks_are (set_of c.args.set.now) c.tasks.result.now c.in_ok-coded.coded.items c.in_ok-tasks.tasks.items c.in_ok-coded.ensures
    c.tasks.ensures.tasks c.tasks.ensures.ranges.count.1 c.in_ok-tasks.ensures.same c.in_ok-tasks.ensures.coded)
