use Rattle.std.proofs.Common.{◌+◌, ◌∙◌, arith}
use Rattle.prem_list.specs.Sequence.{items_of}
use Rattle.prem_asm.specs.Pieces.{size_of}
use Rattle.prem_asm.specs.PiecesOf.{pieces_of}
use Rattle.prem_bounds.specs.Scale.{clipped}
use Rattle.prem_wcet_laws.specs.Scopes.{charge}
use Rattle.prem_wcet_laws.specs.Least.{own}
use Rattle.prem_wcet.specs.Functions.{function_span_in}
use Rattle.prem_wcet.specs.Outlines.{least_in}
use Rattle.prem_wcet.specs.PartsOf.{parts_of}
use Rattle.prem_wcet.specs.SceneOf.{scene_in}
use Rattle.prem_wcet.proofs.LeastSums.{fits_all, function_sum}
use Rattle.prem_wcet.proofs.least.least_function.Goals as goal

pub behind_code-requires : goal.behind_code-requires
behind_code-requires c = let all = fits_all (c.args.at + size_of (pieces_of c.args.outline.now.entry.now)) (parts_of (items_of c.args.outline.now.body)) c.requires.fits in omega (arith, all)

pub returns : goal.returns
returns c =
    let e = scene_in c.args.scene.now in
    let o = c.args.outline.now in
    function_sum c.in_ok-whole.whole c.own-entry.result c.own-leaving.result c.plus-around.result c.in_ok-inside.inside c.plus-divided.result c.min.result
    (charge e c.args.at (function_span_in (pieces_of c.args.code.now) o)) (own e (pieces_of o.entry.now)) (own e (pieces_of o.leaving.now))
    (least_in e (c.args.at + size_of (pieces_of o.entry.now)) (parts_of (items_of o.body)))
    c.in_ok-whole.ensures c.own-entry.ensures c.own-leaving.ensures c.plus-around.ensures
    (c.in_ok-inside.ensures ∙ (λ i. clipped (least_in e (c.behind_code.ensures i) (parts_of (c.items.ensures i))))) c.plus-divided.ensures c.min.ensures
