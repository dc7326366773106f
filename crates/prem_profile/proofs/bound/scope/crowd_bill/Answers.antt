use Rattle.std.proofs.Common.{[], ◌∷◌, ◌++◌, length, ap, ◌∙◌}
use Rattle.prem_asm.specs.Pieces.{followed}
use Rattle.prem_asm.specs.PiecesOf.{pieces_of}
use Rattle.prem_layout.specs.Footprint.{place_at}
use Rattle.prem_wcet.specs.Outlines.{code_of}
use Rattle.prem_wcet.specs.PartsOf.{parts_of}
use Rattle.prem_wcet.specs.SceneOf.{facts_in}
use Rattle.prem_profile.specs.Bound.Pieces.{bill_from, part_bill}
use Rattle.prem_profile.specs.Bound.Priced.{bills_in, crowd_cost}
use Rattle.prem_profile.specs.Bound.Scopes.{bills_behind, lines_item}
use Rattle.prem_profile.specs.Bound.Spread.{spread_path}
use Rattle.prem_profile.proofs.BillLemmas.Calling.{called_as}
use Rattle.prem_profile.proofs.bound.scope.crowd_bill.Goals as goal

pub returns : goal.returns
returns c =
    let s = c.args.scene.now in
    let k = crowd_cost c.args.crowd.now in
    let whole = followed (pieces_of c.args.before.now) (followed (code_of (parts_of c.args.parts.now)) (pieces_of c.args.last.now)) in
    let all = bills_behind k (length s.code.now) (λ part. (place_at s.places.now part).0) [] (facts_in s.facts.now s.code.now) in
    let item = lines_item s.plant.now c.args.at c.args.crowd.now.held in
    let count = length s.code.now in
    let known = bills_in c.in_ok-functions.functions.bills.items in
    let cycles = c.deref.result.now in
    let some = bill_from k (part_bill count cycles) c.args.at whole in
    let path = c.deref-2.ensures.value ∙ c.in_ok-push_parts.ensures ∙ ap (λ bill. bill ++ some) c.new-path.ensures.items in
    c.in_ok-push_spread.ensures
    ∙ (λ i. c.in_ok-push_lines.ensures i ++ spread_path (bills_in (c.deref-3.ensures.value i)) (path i))
    ∙ ap (λ bill. (bill ++ item ∷ []) ++ spread_path known some) c.new-bill.ensures.items
    ∙ ap (λ bill. item ∷ bill)
    (called_as k count c.args.at whole known all cycles c.code_calls.result c.code_calls.ensures (c.deref.ensures.value ∙ c.in_ok-functions.ensures.cycles) c.in_ok-functions.ensures.bills)
