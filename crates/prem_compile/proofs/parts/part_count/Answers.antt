use Rattle.std.proofs.Common.{ap, ◌∙◌, length}
use Rattle.prem_compile.proofs.Pushing.{counted}
use Rattle.prem_compile.proofs.parts.part_count.Goals as goal

pub returns-clause-count : goal.returns-clause-count
returns-clause-count c =
    (counted c.args.task.now (length c.items.result.now) (length c.items-2.result.now) c.len.result c.requires (ap length c.items.ensures)
    (ap length c.items-2.ensures) (c.len.ensures ∙ c.args.task.now.program.globals.ok.0)).is

pub returns-clause-few : goal.returns-clause-few
returns-clause-few c =
    (counted c.args.task.now (length c.items.result.now) (length c.items-2.result.now) c.len.result c.requires (ap length c.items.ensures)
    (ap length c.items-2.ensures) (c.len.ensures ∙ c.args.task.now.program.globals.ok.0)).few
