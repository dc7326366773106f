use Rattle.std.proofs.Common.{◌+◌, ap, ◌∙◌, arith}
use Rattle.prem_asm.specs.Pieces.{size_of}
use Rattle.prem_bounds.specs.Scale.{clipped}
use Rattle.prem_wcet_laws.specs.Least.{own}
use Rattle.prem_wcet.specs.EdgesOf.{edge_of, whole_in}
use Rattle.prem_wcet.specs.Outlines.{least_in}
use Rattle.prem_wcet.specs.PartsOf.{parts_of}
use Rattle.prem_wcet.specs.SceneOf.{scene_in}
use Rattle.prem_wcet.proofs.Passages.{between_size, passage_sum}
use Rattle.prem_wcet.proofs.parted.passage.Goals as goal

pub size-requires : goal.size-requires
size-requires c = let d = between_size (edge_of c.args.before.now) (edge_of c.args.last.now) (parts_of c.args.parts.now) in omega (arith, c.requires.place, d)

pub overflow_cast-size : goal.overflow_cast-size
overflow_cast-size c = let d = between_size (edge_of c.args.before.now) (edge_of c.args.last.now) (parts_of c.args.parts.now) in omega (arith, c.requires.place, d, c.size.ensures)

pub overflow_add-at : goal.overflow_add-at
overflow_add-at c = let d = between_size (edge_of c.args.before.now) (edge_of c.args.last.now) (parts_of c.args.parts.now) in omega (arith, c.requires.place, d, c.size.ensures)

pub returns : goal.returns
returns c =
    let e = scene_in c.args.scene.now in
    let b = edge_of c.args.before.now in
    let l = edge_of c.args.last.now in
    let o = parts_of c.args.parts.now in
    passage_sum c.in_ok-whole.whole c.own-first.result c.in_ok-statements.statements c.own-behind.result c.plus.result c.plus-divided.result c.min.result (whole_in e c.args.at b o l) (own e b.pieces)
    (least_in e (c.args.at + size_of b.pieces) o) (own e l.pieces) c.in_ok-whole.ensures c.own-first.ensures
    (c.in_ok-statements.ensures ∙ ap (λ n. clipped (least_in e (c.args.at + n) o)) c.size.ensures) c.own-behind.ensures
    c.plus.ensures c.plus-divided.ensures c.min.ensures
