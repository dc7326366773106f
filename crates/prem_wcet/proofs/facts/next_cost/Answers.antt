use Rattle.std.proofs.Common.{◌≡◌, ◌+◌, ◌<◌, length, get_or, ap, ◌∙◌, arith}
use Rattle.prem_list.specs.Sequence.{items_of}
use Rattle.prem_asm.specs.Pieces.{no_pieces}
use Rattle.prem_asm.specs.PiecesOf.{pieces_of}
use Rattle.prem_layout.specs.Footprint.{place_at}
use Rattle.prem_layout.specs.Bounds.{part_weight, weight_at}
use Rattle.prem_bounds.specs.Scale.{clipped}
use Rattle.prem_bounds.specs.TableOf.{listed}
use Rattle.prem_wcet_laws.specs.Weights.{weighted_from}
use Rattle.prem_wcet.proofs.NextFacts.{free_none, pieces_there}
use Rattle.prem_wcet.proofs.facts.next_cost.Goals as goal

pub returns : goal.returns
returns c =
    let t = c.args.t.now in
    let n = c.len-n.result in
    let costs = c.args.known.now.costs in
    let n_is : n ≡ length c.args.known.now.facts.items = c.len-n.ensures ∙ c.args.known.now.facts.ok.0 in
    let lt : n < length (items_of t.table.code) = omega (arith, n_is, c.requires.there) in
    let at : (c.place.result).0 ≡ (place_at t.places (1 + length c.args.known.now.facts.items)).0 = (λ i. (c.place.ensures i).0) ∙ ap (λ k. (place_at t.places (1 + k)).0) n_is in
    let ps : pieces_of c.items.result.now ≡ get_or (listed (items_of t.table.code)) (length c.args.known.now.facts.items) no_pieces =
    pieces_there t n c.items-code.result.now c.index-code-n.result c.items.result.now lt c.items-code.ensures c.index-code-n.is c.items.ensures
    ∙ ap (λ k. get_or (listed (items_of t.table.code)) k no_pieces) n_is in
    c.walk.ensures.sum
    ∙ (λ i. clipped (weighted_from (free_none c.args.p.now c.no_crowd-alone.result c.requires.plant c.no_crowd-alone.ensures i)
    (part_weight (length (c.items-code.ensures i)) (weight_at costs) (λ k. 0)) (at i) (ps i)))
