use Rattle.std.proofs.Common.{◌≡◌, [], ◌∷◌, ◌+◌, ◌++◌, ap, ◌∙◌, arith}
use Rattle.prem_list.specs.Sequence.{items_of}
use Rattle.prem_asm.specs.Pieces.{followed, no_pieces, size_of}
use Rattle.prem_asm.specs.PiecesOf.{pieces_of}
use Rattle.prem_asm.proofs.Rows.{followed_none}
use Rattle.prem_wcet.specs.Once.{with_code}
use Rattle.prem_wcet.specs.Outlines.{code_of}
use Rattle.prem_wcet.specs.PartsOf.{parts_of}
use Rattle.prem_wcet.specs.SceneOf.{scene_in}
use Rattle.prem_wcet.proofs.Outcomes.{if_more}
use Rattle.prem_profile.specs.Bound.Bills.{cheaper}
use Rattle.prem_profile.specs.Bound.Scopes.{own_bill}
use Rattle.prem_profile.specs.Bound.Statements.{least_bill}
use Rattle.prem_profile.specs.Bound.Memory.{calls_of, function_least_bill}
use Rattle.prem_profile.proofs.BillLemmas.Scopes.{function_told}
use Rattle.prem_profile.proofs.bound.least.least_function.Goals as goal

pub scope_or-requires-clause-place : goal.scope_or-requires-clause-place
scope_or-requires-clause-place c = omega (arith, c.requires.place, ap size_of (followed_none (pieces_of c.args.code.now)))

pub returns : goal.returns
returns c =
    let e = scene_in c.args.scene.now in
    let known = calls_of c.args.known.now in
    let t = c.args.outline.now in
    let o = parts_of (items_of t.body) in
    let ps = pieces_of c.args.code.now in
    let ranges = c.in_ok-ranges.ranges in
    let body = ap parts_of c.items-body.ensures in
    let begin = c.behind_code-begin.ensures in
    let inside = c.deref.ensures.value ∙ c.in_ok-inside.ensures ∙ (λ i. least_bill e known (begin i) (body i)) in
    let long = c.parts_size.ensures ∙ ap (λ q. size_of (code_of q)) body in
    let end : c.behind_code-begin.result + c.parts_size.result ≡ c.args.at + size_of (pieces_of t.entry.now) + size_of (code_of o) = λ i. begin i + long i in
    let divided = c.in_ok-divided.ensures ∙ (λ i. own_bill e c.args.at (pieces_of t.entry.now) ++ (inside i ++ own_bill e (end i) (pieces_of t.leaving.now))) in
    if_more {Q = λ bill. bill.items ≡ function_least_bill e known c.args.at ps t} c.scope_or.result
    (λ bill told. told
    ∙ (λ i. cheaper
    (function_told e c.args.at ps (followed ps no_pieces) o (items_of t.entry_names) (items_of t.leaving_names) ranges.code.items ranges.touched.items
    (c.in_ok-ranges.ensures.code ∙ ap (λ k. with_code e ((c.args.at, c.args.at + k) ∷ []) o) c.size.ensures) c.in_ok-ranges.ensures.touched (followed_none ps) i)
    (divided i)))
    c.scope_or.ensures
