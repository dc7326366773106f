use Rattle.prem_list.specs.Sequence.{items_of}
use Rattle.prem_compile.proofs.TellingLemmas.Bounded.{one_bounded, small_more, task_told}
use Rattle.prem_compile.proofs.telling.intervals.longest_of_tasks.Goals as goal

pub longest_of_task-requires-clause-bound : goal.longest_of_task-requires-clause-bound
longest_of_task-requires-clause-bound c =
    one_bounded c.args.p.now c.args.tasks.now c.loop-task.task-index c.task-item.result c.loop-task-test.true c.task-item.is c.requires.bounds

pub loop-task-preserved : goal.loop-task-preserved
loop-task-preserved c = record {
  told =
      task_told c.args.p.now c.args.tasks.now c.loop-task.task-index c.task-item.result c.longest_of_task.result (items_of c.loop-task.all)
      (items_of c.push.new.self) c.loop-task-test.true c.task-item.is
      c.longest_of_task.ensures.longest c.loop-task.invariant.told c.in_ok-push.ensures.ok;
  small = small_more (items_of c.loop-task.all) (items_of c.push.new.self) c.longest_of_task.result c.loop-task.invariant.small c.longest_of_task.ensures.small c.in_ok-push.ensures.ok;
}
