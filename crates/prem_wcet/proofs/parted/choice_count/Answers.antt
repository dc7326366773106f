use Rattle.std.proofs.Common.{◌*◌, ap, ◌∙◌}
use Rattle.prem_bounds.specs.Scale.{clipped}
use Rattle.prem_wcet_laws.specs.Counts.{quiet}
use Rattle.prem_wcet_laws.specs.Least.{own_jump}
use Rattle.prem_wcet.specs.CountOf.{count_in}
use Rattle.prem_wcet.specs.SceneOf.{scene_in}
use Rattle.prem_wcet.proofs.CountSums.{choice_told}
use Rattle.prem_wcet.proofs.parted.choice_count.Goals as goal

pub returns : goal.returns
returns c =
    let j = own_jump (scene_in c.args.scene.now) in
    let is = c.own_jump-jump.ensures.jump in
    choice_told j c.args.skips c.times-over.result (count_in c.args.taken) (count_in c.args.other) (count_in c.quiet-back.result) (count_in c.quiet-skip.result) (count_in c.then_count-first.result)
    (count_in c.then_count-second.result) (count_in c.either_count-sides.result) (count_in c.quiet-back.result) (count_in c.then_count.result)
    (c.times-over.ensures ∙ ap (λ k. clipped (c.args.skips * k)) is) c.quiet-skip.ensures
    c.then_count-first.ensures (c.quiet-back.ensures ∙ ap quiet is) c.then_count-second.ensures c.either_count-sides.ensures (c.quiet-back.ensures ∙ ap quiet is) c.then_count.ensures
