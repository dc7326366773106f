use Rattle.std.proofs.Common.{◌++◌, ◌∙◌}
use Rattle.prem_asm.specs.Pieces.{followed}
use Rattle.prem_asm.specs.PiecesOf.{pieces_of}
use Rattle.prem_layout.specs.Footprint.{lines_of}
use Rattle.prem_wcet.specs.Known.{bare_span}
use Rattle.prem_wcet.specs.Outlines.{code_of}
use Rattle.prem_wcet.specs.PartsOf.{parts_of}
use Rattle.prem_wcet.specs.SceneOf.{scene_in}
use Rattle.prem_wcet.proofs.Outcomes.{if_more}
use Rattle.prem_profile.specs.Bound.Scopes.{scope_bill_with}
use Rattle.prem_profile.proofs.BillLemmas.Scopes.{crowd_is}
use Rattle.prem_profile.proofs.bound.scope.scope_bill.Goals as goal

pub returns : goal.returns
returns c =
    let e = scene_in c.args.scene.now in
    let line = e.plant.line in
    let code = c.in_ok-code.code.items in
    let touched = c.deref-2.result.now in
    let ps = followed (pieces_of c.args.before.now) (followed (code_of (parts_of c.args.parts.now)) (pieces_of c.args.last.now)) in
    let codes = c.in_ok-code.ensures ∙ c.deref.ensures.value in
    let touch = c.deref-2.ensures.value in
    if_more c.crowd_bill.result
    (λ bill told. told ∙ crowd_is e (lines_of line (code ++ touched)) (lines_of line touched) c.in_ok-crowd.crowd c.requires.scene.plant c.in_ok-crowd.ensures c.args.at ps
    ∙ (λ i. scope_bill_with e c.args.at (bare_span ps) (lines_of line (codes i ++ touch i)) (lines_of line (touch i))))
    c.crowd_bill.ensures
