use Rattle.std.proofs.Common.{◌∙◌}
use Rattle.prem_bounds.specs.Scale.{clipped}
use Rattle.prem_wcet.specs.CountOf.{count_in}
use Rattle.prem_wcet.specs.EdgesOf.{edge_of, landing_edge, landing_place}
use Rattle.prem_wcet.specs.Outlines.{passage_in}
use Rattle.prem_wcet.specs.PartsOf.{part_of, parts_of}
use Rattle.prem_wcet.specs.SceneOf.{scene_in}
use Rattle.prem_wcet.proofs.PartedSums.{behind_told}
use Rattle.prem_wcet.proofs.parted.behind_cut.Goals as goal

pub returns : goal.returns
returns c =
    let e = scene_in c.args.scene.now in
    let p = part_of c.args.part.now in
    let from = landing_place c.args.at p in
    behind_told (passage_in e from (landing_edge p) (parts_of c.args.front.now) (edge_of c.args.edge.now)) c.in_ok-most.most
    (count_in c.quiet-next.result) (count_in c.then_count-tail.result) (count_in c.args.cut) (count_in c.args.rest)
    (count_in c.then_count.result)
    (c.in_ok-most.ensures ∙ (λ i. clipped (passage_in e (c.landing_place-from.ensures i) (c.landing-first.ensures i) (parts_of c.args.front.now) (edge_of c.args.edge.now))))
    c.quiet-next.ensures c.then_count-tail.ensures c.then_count.ensures
