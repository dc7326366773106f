use Rattle.std.proofs.Common.{◌≡◌, ap, ◌∙◌, sym, arith, length}
use Rattle.prem_layout.specs.Bounds.{part_weight, weight_at}
use Rattle.prem_layout.specs.Footprint.{place_at}
use Rattle.prem_bounds.specs.Scale.{clipped}
use Rattle.prem_bounds.specs.TableOf.{listed}
use Rattle.prem_bounds.proofs.Calls.{none_told}
use Rattle.prem_bounds.proofs.Steps.{listed_long, listed_item}
use Rattle.prem_asm.specs.PiecesOf.{pieces_of}
use Rattle.prem_wcet_laws.specs.Weights.{weighted_from}
use Rattle.prem_wcet.specs.Crowds.{place_weight}
use Rattle.prem_wcet.proofs.PlaceWeights.{function_more}
use Rattle.prem_wcet.proofs.scope.weights_of.Goals as goal

pub loop-n-init : goal.loop-n-init
loop-n-init c = none_told 256

pub loop-n-preserved : goal.loop-n-preserved
loop-n-preserved c =
    let code = c.args.code.now in
    let n = c.loop-n.n in
    let long : length (listed code) ≡ length code = listed_long code in
    let item = listed_item code n c.index-code-n.result (omega (arith, c.loop-n-test.true, c.requires.known)) c.index-code-n.is ∙ ap pieces_of (sym c.items.ensures) in
    function_more (place_weight c.args.crowd.now) (length (listed code)) (λ part. (place_at c.args.places.now part).0) (listed code)
    (pieces_of c.items.result.now) n c.walk.result.sum c.loop-n.functions
    (omega (arith, c.loop-n-test.true, c.requires.known, long)) (omega (arith, c.loop-n-test.true, c.requires.known, c.requires.few)) item c.loop-n.invariant
    (c.walk.ensures.sum
    ∙ (λ i. clipped (weighted_from (place_weight c.args.crowd.now) (part_weight (sym long i) (weight_at c.loop-n.functions) (λ k. 0)) ((c.place.ensures i).0) (pieces_of c.items.result.now))))
