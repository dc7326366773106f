use Rattle.std.proofs.Common.{◌+◌, ap, ◌∙◌}
use Rattle.prem_bounds.specs.Scale.{clipped}
use Rattle.prem_wcet_laws.specs.Counts.{quiet}
use Rattle.prem_wcet_laws.specs.Least.{own_jump}
use Rattle.prem_wcet.specs.CountOf.{count_in}
use Rattle.prem_wcet.specs.SceneOf.{scene_in}
use Rattle.prem_wcet.proofs.CountSums.{turn_told}
use Rattle.prem_wcet.proofs.parted.turn_count.Goals as goal

pub returns : goal.returns
returns c =
    let j = own_jump (scene_in c.args.scene.now) in
    let is = c.own_jump-jump.ensures.jump in
    turn_told c.args.turns c.args.head j c.plus-start.result c.plus-leave.result (count_in c.args.body) (count_in c.quiet-begin.result)
    (count_in c.quiet-over.result) (count_in c.then_count-back.result)
    (count_in c.then_count-turn.result) (count_in c.quiet-out.result) (count_in c.turned_count.result)
    (c.plus-start.ensures ∙ ap (λ k. clipped (c.args.head + k)) is) (c.quiet-over.ensures ∙ ap quiet is)
    c.then_count-back.ensures c.quiet-begin.ensures c.then_count-turn.ensures (c.plus-leave.ensures ∙ ap (λ k. clipped (c.plus-start.result + k)) is) c.quiet-out.ensures c.turned_count.ensures
