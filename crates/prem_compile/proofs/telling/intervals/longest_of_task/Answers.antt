use Rattle.std.proofs.Common.{ap, ◌∙◌, map}
use Rattle.prem_layout.specs.Stretch.Paths.{longest_of}
use Rattle.prem_split.specs.PlanOf.{plan_of}
use Rattle.prem_bounds.specs.TableOf.{table_of}
use Rattle.prem_compile.proofs.telling.intervals.longest_of_task.Goals as goal

pub returns-clause-longest : goal.returns-clause-longest
returns-clause-longest c = c.in-Ok.ensures.longest ∙ ap (λ plans. longest_of c.args.p.now (map plan_of plans) (table_of c.args.t.now.table)) c.items.ensures
