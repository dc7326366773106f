use Rattle.std.proofs.Common.{◌≡◌, [], ap, ◌∙◌, arith}
use Rattle.prem_asm.specs.Pieces.{size_of}
use Rattle.prem_asm.specs.PiecesOf.{pieces_of}
use Rattle.prem_wcet.specs.EdgesOf.{entry_of, leaving_of}
use Rattle.prem_wcet.specs.Outlines.{code_of}
use Rattle.prem_wcet.specs.PartsOf.{parts_of}
use Rattle.prem_wcet.specs.SceneOf.{scene_in}
use Rattle.prem_wcet.proofs.Outcomes.{if_more}
use Rattle.prem_wcet.proofs.Passages.{between_size}
use Rattle.prem_profile.specs.Bound.Passages.{parted_bill}
use Rattle.prem_profile.specs.Bound.Memory.{calls_of, function_parted_bill, stubs_in}
use Rattle.prem_profile.proofs.bound.parted.parted_function.Goals as goal

pub parted-requires-clause-place : goal.parted-requires-clause-place
parted-requires-clause-place c =
    let o = c.args.outline.now in
    let body = ap (λ xs. size_of (code_of (parts_of xs))) c.items-3.ensures in
    let size = between_size (entry_of o) (leaving_of o) (parts_of c.items-3.result.now) in
    omega (arith, c.requires.place, body, size)

pub returns : goal.returns
returns c =
    let e = scene_in c.args.scene.now in
    let o = c.args.outline.now in
    if_more {Q = λ bill. bill.items ≡ function_parted_bill e (stubs_in c.args.scene.now c.args.task) (calls_of c.args.known.now) c.args.at o} c.parted.result
    (λ n told. told
    ∙ (λ i. parted_bill e (stubs_in c.args.scene.now c.args.task) (calls_of c.args.known.now) c.args.at (record { pieces = pieces_of o.entry.now; globals = c.items.ensures i; below = [] })
    (record { pieces = pieces_of o.leaving.now; globals = c.items-2.ensures i; below = [] }) (parts_of (c.items-3.ensures i))))
    c.parted.ensures
