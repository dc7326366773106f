use Rattle.std.proofs.Common.{ap, ◌∙◌}
use Rattle.prem_wcet_laws.specs.Scopes.{fact_of}
use Rattle.prem_wcet.specs.JobTimes.{at_start}
use Rattle.prem_wcet.specs.SceneOf.{scene_in}
use Rattle.prem_wcet.proofs.JobSums.{cut_told}
use Rattle.prem_wcet.proofs.task.cut_stretch.Goals as goal

pub returns : goal.returns
returns c =
    let e = at_start (scene_in c.args.scene.now) in
    cut_told e c.args.job c.own_jump.result c.done_weight.result c.greatest.result c.taking-first.result c.fact_parted-parted.result.sums
    c.taking-last.result c.chained-inside.result c.chained-all.result c.own_jump.ensures.jump c.done_weight.ensures.done
    c.taking-first.ensures c.taking-last.ensures (ap (λ x. x.sums) c.fact_parted-parted.ensures ∙ ap (λ f. (fact_of e f).parted.sums) c.from.ensures)
    c.chained-inside.ensures c.chained-all.ensures c.greatest.ensures
