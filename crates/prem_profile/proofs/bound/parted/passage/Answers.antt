use Rattle.std.proofs.Common.{◌≡◌, ◌+◌, ◌++◌, refl, ap, ◌∙◌, arith}
use Rattle.prem_asm.specs.Pieces.{size_of}
use Rattle.prem_wcet.specs.EdgesOf.{edge_of}
use Rattle.prem_wcet.specs.Outlines.{between, code_of}
use Rattle.prem_wcet.specs.PartsOf.{parts_of}
use Rattle.prem_wcet.specs.SceneOf.{scene_in}
use Rattle.prem_wcet.proofs.Outcomes.{if_more}
use Rattle.prem_wcet.proofs.Passages.{between_size}
use Rattle.prem_profile.specs.Bound.Bills.{cheaper}
use Rattle.prem_profile.specs.Bound.Scopes.{own_bill}
use Rattle.prem_profile.specs.Bound.Statements.{least_bill}
use Rattle.prem_profile.specs.Bound.Passages.{passage_bill}
use Rattle.prem_profile.specs.Bound.Memory.{calls_of}
use Rattle.prem_profile.proofs.BillLemmas.Scopes.{passage_told}
use Rattle.prem_profile.proofs.bound.parted.passage.Goals as goal

pub behind_code-begin-requires : goal.behind_code-begin-requires
behind_code-begin-requires c = let d = between_size (edge_of c.args.before.now) (edge_of c.args.last.now) (parts_of c.args.parts.now) in omega (arith, c.requires.place, d)

pub parts_size-requires : goal.parts_size-requires
parts_size-requires c = let d = between_size (edge_of c.args.before.now) (edge_of c.args.last.now) (parts_of c.args.parts.now) in omega (arith, c.requires.place, d)

pub overflow_add-end : goal.overflow_add-end
overflow_add-end c = let d = between_size (edge_of c.args.before.now) (edge_of c.args.last.now) (parts_of c.args.parts.now) in
    omega (arith, c.requires.place, d, c.behind_code-begin.ensures, c.parts_size.ensures)

pub around-requires-clause-behind : goal.around-requires-clause-behind
around-requires-clause-behind c = let d = between_size (edge_of c.args.before.now) (edge_of c.args.last.now) (parts_of c.args.parts.now) in
    omega (arith, c.requires.place, d, c.behind_code-begin.ensures, c.parts_size.ensures)

pub returns : goal.returns
returns c =
    let e = scene_in c.args.scene.now in
    let known = calls_of c.args.known.now in
    let at = c.args.at in
    let b = edge_of c.args.before.now in
    let l = edge_of c.args.last.now in
    let o = parts_of c.args.parts.now in
    let ranges = c.in_ok-ranges.ranges in
    let end : c.behind_code-begin.result + c.parts_size.result ≡ at + size_of b.pieces + size_of (code_of o) = λ i. c.behind_code-begin.ensures i + c.parts_size.ensures i in
    let inside = c.deref.ensures.value ∙ c.in_ok-inside.ensures ∙ ap (λ k. least_bill e known k o) c.behind_code-begin.ensures in
    let divided = c.in_ok-divided.ensures ∙ (λ i. own_bill e at b.pieces ++ (inside i ++ own_bill e (end i) l.pieces)) in
    if_more {Q = λ bill. bill.items ≡ passage_bill e known at b o l} c.scope_or.result
    (λ bill told. told
    ∙ (λ i. cheaper
    (passage_told e at (at + size_of (between b o l).pieces) o b l c.args.before.now.below c.args.last.now.below ranges.code.items ranges.touched.items refl refl refl
    c.in_ok-ranges.ensures.code c.in_ok-ranges.ensures.touched i)
    (divided i)))
    c.scope_or.ensures
