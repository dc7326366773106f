use Rattle.std.proofs.Common.{◌*◌, ◌++◌, ap, ◌∙◌, sym}
use Rattle.prem_asm.specs.Pieces.{followed}
use Rattle.prem_asm.specs.PiecesOf.{pieces_of}
use Rattle.prem_layout.specs.Bounds.{part_weight, weight_at}
use Rattle.prem_layout.specs.Footprint.{lines_of}
use Rattle.prem_bounds.specs.Scale.{clipped}
use Rattle.prem_wcet_laws.specs.Weights.{weighted_from}
use Rattle.prem_wcet_laws.specs.Scopes.{charge_with}
use Rattle.prem_wcet.specs.Crowds.{place_weight}
use Rattle.prem_wcet.specs.Known.{bare_span}
use Rattle.prem_wcet.specs.Outlines.{code_of}
use Rattle.prem_wcet.specs.PartsOf.{parts_of}
use Rattle.prem_wcet.specs.SceneOf.{scene_in}
use Rattle.prem_wcet.specs.Walks.{weight_by}
use Rattle.prem_wcet.proofs.Charges.{charge_sum}
use Rattle.prem_wcet.proofs.Rooms.{free_is, place_is}
use Rattle.prem_wcet.proofs.scope.charge_with.Goals as goal

pub scale_of-scale-requires-clause-alone : goal.scale_of-scale-requires-clause-alone
scale_of-scale-requires-clause-alone c =
    let line = c.args.scene.now.plant.now.line in
    let touched = c.deref.result.now in
    free_is c.args.scene.now.plant.now (lines_of line (c.args.ranges.code.items ++ touched)) (lines_of line touched) c.in_ok-crowd.crowd c.requires.scene.plant c.in_ok-crowd.ensures

pub returns : goal.returns
returns c =
    let s = c.args.scene.now in
    let line = s.plant.now.line in
    let touched = c.deref.result.now in
    let lines = lines_of line (c.args.ranges.code.items ++ touched) in
    let held = lines_of line touched in
    let crowd = c.in_ok-crowd.crowd in
    let scale = c.scale_of-scale.result in
    let ps = followed (pieces_of c.args.before.now) (followed (code_of (parts_of c.args.parts.now)) (pieces_of c.args.last.now)) in
    c.plus.ensures
    ∙ charge_sum s (place_weight crowd) (weight_by scale) scale.functions lines held c.args.at crowd.held (crowd.held * c.from.result) c.walk_parts-path.result.sum ps c.requires.scene.known
    (ap place_weight (sym c.scale_of-scale.ensures.crowd)) (ap place_weight c.scale_of-scale.ensures.crowd ∙ place_is s.plant.now lines held crowd c.requires.scene.plant c.in_ok-crowd.ensures)
    c.scale_of-scale.ensures.functions c.in_ok-crowd.ensures.held (ap (λ k. crowd.held * k) c.from.ensures)
    (c.walk_parts-path.ensures ∙ ap (λ n. clipped (weighted_from (weight_by scale) (part_weight n (weight_at scale.functions) (λ k. 0)) c.args.at ps)) c.scale_of-scale.ensures.count)
    ∙ ap (λ xs. clipped (charge_with (scene_in s) c.args.at (bare_span ps) (lines_of line (c.args.ranges.code.items ++ xs)) (lines_of line xs))) c.deref.ensures.value
