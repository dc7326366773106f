use Rattle.std.proofs.Common.{◌≡◌, ◌++◌, ap, ◌∙◌}
use Rattle.prem_asm.specs.Pieces.{followed, no_pieces}
use Rattle.prem_asm.specs.PiecesOf.{pieces_of}
use Rattle.prem_asm.proofs.Rows.{followed_none}
use Rattle.prem_layout.specs.Footprint.{lines_of, place_at}
use Rattle.prem_wcet.specs.JobTimes.{at_start, job_span}
use Rattle.prem_wcet.specs.Known.{bare_span}
use Rattle.prem_wcet.specs.SceneOf.{scene_in}
use Rattle.prem_wcet.proofs.Outcomes.{if_more}
use Rattle.prem_profile.specs.Bound.Bills.{cheaper}
use Rattle.prem_profile.specs.Bound.Scopes.{scope_bill, scope_bill_with}
use Rattle.prem_profile.proofs.BillLemmas.Scopes.{start_told}
use Rattle.prem_profile.proofs.bound.task.start_or.Goals as goal

pub returns : goal.returns
returns c =
    let s = c.args.scene.now in
    let e = scene_in s in
    let line = s.plant.now.line in
    let code = c.in_ok-ranges.ranges.code.items in
    let touched = c.in_ok-ranges.ranges.touched.items in
    let ps = followed (pieces_of c.items.result.now) no_pieces in
    if_more {Q = λ bill. bill.items ≡ cheaper (scope_bill (at_start e) (place_at s.places.now 0).0 (job_span c.args.job)) c.args.divided.items} c.scope_or.result
    (λ bill told. told
    ∙ (λ i. cheaper (scope_bill_with e ((c.place-at.ensures i).0) (bare_span ps) (lines_of line (code ++ touched)) (lines_of line touched)) c.args.divided.items)
    ∙ ap (λ x. cheaper x c.args.divided.items) (start_told e (place_at s.places.now 0).0 c.args.job code touched ps c.in_ok-ranges.ensures.code c.in_ok-ranges.ensures.touched
    (followed_none (pieces_of c.items.result.now) ∙ ap pieces_of c.items.ensures ∙ c.in_ok-pieces.ensures)))
    c.scope_or.ensures
