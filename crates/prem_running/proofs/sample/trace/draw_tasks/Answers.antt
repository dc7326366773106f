use Rattle.std.proofs.Common.{ap, map}
use Rattle.prem_list.specs.Sequence.{items_of}
use Rattle.prem_tasks.specs.SetOf.{task_of}
use Rattle.prem_running.proofs.SampleLemmas.Texts.{four_tasks}
use Rattle.prem_running.proofs.sample.trace.draw_tasks.Goals as goal

pub returns-clause-tasks : goal.returns-clause-tasks
returns-clause-tasks c =
    four_tasks c.args.draws.now.state c.push_task.new.draws.state c.push_task-2.new.draws.state c.push_task-3.new.draws.state
    (map task_of (items_of c.new.result)) (map task_of (items_of c.push_task.new.all.tasks)) (map task_of (items_of c.push_task-2.new.all.tasks))
    (map task_of (items_of c.push_task-3.new.all.tasks)) (map task_of (items_of c.push_task-4.new.all.tasks))
    (ap (map task_of) c.new.ensures) c.in_ok-push_task.ensures.tasks c.in_ok-push_task.ensures.state c.in_ok-push_task-2.ensures.tasks c.in_ok-push_task-2.ensures.state
    c.in_ok-push_task-3.ensures.tasks c.in_ok-push_task-3.ensures.state c.in_ok-push_task-4.ensures.tasks
