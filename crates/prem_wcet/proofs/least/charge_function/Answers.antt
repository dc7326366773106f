use Rattle.std.proofs.Common.{[], ◌∷◌, ◌+◌, ap, ◌∙◌, arith}
use Rattle.prem_list.specs.Sequence.{items_of}
use Rattle.prem_asm.specs.Pieces.{followed, no_pieces, size_of}
use Rattle.prem_asm.specs.PiecesOf.{pieces_of}
use Rattle.prem_asm.proofs.Rows.{followed_none}
use Rattle.prem_bounds.specs.Scale.{clipped}
use Rattle.prem_wcet.specs.Once.{with_code}
use Rattle.prem_wcet.specs.PartsOf.{parts_of}
use Rattle.prem_wcet.specs.SceneOf.{scene_in}
use Rattle.prem_wcet.proofs.Charges.{function_told}
use Rattle.prem_wcet.proofs.Outcomes.{if_more}
use Rattle.prem_wcet.proofs.least.charge_function.Goals as goal

pub charge_with-requires-clause-place : goal.charge_with-requires-clause-place
charge_with-requires-clause-place c = omega (arith, c.requires.place, ap size_of (followed_none (pieces_of c.args.code.now)))

pub returns : goal.returns
returns c =
    let e = scene_in c.args.scene.now in
    let t = c.args.outline.now in
    let o = parts_of (items_of t.body) in
    let ps = pieces_of c.args.code.now in
    let ranges = c.in_ok-ranges.ranges in
    if_more c.charge_with.result
    (λ n told. told
    ∙ ap clipped (function_told e c.args.at ps (followed ps no_pieces) o (items_of t.entry_names) (items_of t.leaving_names) ranges.code.items ranges.touched.items
    (c.in_ok-ranges.ensures.code ∙ ap (λ k. with_code e ((c.args.at, c.args.at + k) ∷ []) o) c.size.ensures) c.in_ok-ranges.ensures.touched (followed_none ps)))
    c.charge_with.ensures
