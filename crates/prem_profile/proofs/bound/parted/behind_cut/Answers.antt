use Rattle.std.proofs.Common.{◌++◌, ap, ◌∙◌}
use Rattle.prem_wcet.specs.EdgesOf.{edge_of}
use Rattle.prem_wcet.specs.PartsOf.{parts_of}
use Rattle.prem_wcet.specs.SceneOf.{scene_in}
use Rattle.prem_profile.specs.Bound.Passages.{passage_bill}
use Rattle.prem_profile.specs.Bound.Memory.{calls_of}
use Rattle.prem_profile.proofs.bound.parted.behind_cut.Goals as goal

pub returns : goal.returns
returns c =
    let e = scene_in c.args.scene.now in
    let known = calls_of c.args.known.now in
    let front = parts_of c.args.front.now in
    let edge = edge_of c.args.edge.now in
    let told = c.deref.ensures.value ∙ c.in_ok-most.ensures ∙ (λ i. passage_bill e known (c.landing_place-from.ensures i) (c.landing-first.ensures i) front edge) in
    c.in_ok-append.ensures ∙ ap (λ x. c.args.cut.items ++ x) told
