use Rattle.prem_annotate_answer.proofs.Reading.{read_at}
use Rattle.prem_annotate_answer.proofs.noted.noted_tasks.Goals as goal

pub noted_task-requires : goal.noted_task-requires
noted_task-requires c =
    read_at c.args.tasks.now c.args.programs.now c.loop-n.n c.index-tasks-n.result c.index-programs-n.result c.requires.read c.index-tasks-n.is c.index-programs-n.is c.loop-n-test.true
