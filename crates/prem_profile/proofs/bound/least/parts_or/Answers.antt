use Rattle.std.proofs.Common.{◌≡◌, [], ◌∷◌, ◌+◌, ap, ◌∙◌, arith}
use Rattle.prem_asm.specs.Pieces.{followed, no_pieces, size_of}
use Rattle.prem_asm.proofs.Rows.{followed_none}
use Rattle.prem_wcet.specs.Once.{with_code}
use Rattle.prem_wcet.specs.Outlines.{code_of, span_in}
use Rattle.prem_wcet.specs.PartsOf.{parts_of}
use Rattle.prem_wcet.specs.SceneOf.{scene_in}
use Rattle.prem_wcet.proofs.Outcomes.{if_more}
use Rattle.prem_profile.specs.Bound.Bills.{cheaper}
use Rattle.prem_profile.specs.Bound.Scopes.{scope_bill}
use Rattle.prem_profile.proofs.BillLemmas.Scopes.{scope_told}
use Rattle.prem_profile.proofs.bound.least.parts_or.Goals as goal

pub scope_or-requires-clause-place : goal.scope_or-requires-clause-place
scope_or-requires-clause-place c = omega (arith, c.requires.place, ap size_of (followed_none (code_of (parts_of c.args.parts.now))))

pub returns : goal.returns
returns c =
    let e = scene_in c.args.scene.now in
    let o = parts_of c.args.parts.now in
    let ranges = c.in_ok-ranges.ranges in
    if_more {Q = λ bill. bill.items ≡ cheaper (scope_bill e c.args.at (span_in o)) c.args.divided.items} c.scope_or.result
    (λ bill told. told
    ∙ ap (λ x. cheaper x c.args.divided.items) (scope_told e c.args.at o ranges.code.items ranges.touched.items (followed (code_of o) no_pieces)
    (c.in_ok-ranges.ensures.code ∙ ap (λ k. with_code e ((c.args.at, c.args.at + k) ∷ []) o) c.parts_size.ensures) c.in_ok-ranges.ensures.touched (followed_none (code_of o))))
    c.scope_or.ensures
