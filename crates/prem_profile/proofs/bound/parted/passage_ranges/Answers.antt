use Rattle.std.proofs.Common.{◌≡◌, ◌+◌, [], ◌∷◌, ap, ◌∙◌, arith}
use Rattle.prem_asm.specs.Pieces.{size_of}
use Rattle.prem_wcet.specs.EdgesOf.{edge_of}
use Rattle.prem_wcet.specs.Once.{with_code, with_names, with_some}
use Rattle.prem_wcet.specs.Outlines.{between}
use Rattle.prem_wcet.specs.PartsOf.{parts_of}
use Rattle.prem_wcet.specs.SceneOf.{scene_in}
use Rattle.prem_wcet.proofs.Passages.{between_size}
use Rattle.prem_profile.proofs.bound.parted.passage_ranges.Goals as goal

pub size-first-requires : goal.size-first-requires
size-first-requires c = let d = between_size (edge_of c.args.before.now) (edge_of c.args.last.now) (parts_of c.args.parts.now) in omega (arith, c.requires.place, d)

pub overflow_cast-first : goal.overflow_cast-first
overflow_cast-first c = let d = between_size (edge_of c.args.before.now) (edge_of c.args.last.now) (parts_of c.args.parts.now) in omega (arith, c.requires.place, d, c.size-first.ensures)

pub parts_size-inner-requires : goal.parts_size-inner-requires
parts_size-inner-requires c = let d = between_size (edge_of c.args.before.now) (edge_of c.args.last.now) (parts_of c.args.parts.now) in omega (arith, c.requires.place, d)

pub overflow_add-end : goal.overflow_add-end
overflow_add-end c = let d = between_size (edge_of c.args.before.now) (edge_of c.args.last.now) (parts_of c.args.parts.now) in omega (arith, c.requires.place, d, c.size-first.ensures)

pub overflow_add-end-2 : goal.overflow_add-end-2
overflow_add-end-2 c = let d = between_size (edge_of c.args.before.now) (edge_of c.args.last.now) (parts_of c.args.parts.now) in
    omega (arith, c.requires.place, d, c.size-first.ensures, c.parts_size-inner.ensures)

pub size-requires : goal.size-requires
size-requires c = let d = between_size (edge_of c.args.before.now) (edge_of c.args.last.now) (parts_of c.args.parts.now) in omega (arith, c.requires.place, d)

pub overflow_cast-end : goal.overflow_cast-end
overflow_cast-end c = let d = between_size (edge_of c.args.before.now) (edge_of c.args.last.now) (parts_of c.args.parts.now) in omega (arith, c.requires.place, d, c.size.ensures)

pub overflow_add-end-3 : goal.overflow_add-end-3
overflow_add-end-3 c = let d = between_size (edge_of c.args.before.now) (edge_of c.args.last.now) (parts_of c.args.parts.now) in
    omega (arith, c.requires.place, d, c.size-first.ensures, c.parts_size-inner.ensures, c.size.ensures)

pub returns-clause-code : goal.returns-clause-code
returns-clause-code c =
    let e = scene_in c.args.scene.now in
    let b = edge_of c.args.before.now in
    let l = edge_of c.args.last.now in
    let o = parts_of c.args.parts.now in
    let d = between_size b l o in
    let end : c.args.at + c.size-first.result + c.parts_size-inner.result + c.size.result ≡ c.args.at + size_of (between b o l).pieces =
    omega (arith, d, c.size-first.ensures, c.parts_size-inner.ensures, c.size.ensures) in
    c.in_ok-with_edge-2.ensures.code ∙ c.in_ok-with_edge.ensures.code ∙ c.in_ok-ranges.ensures.code ∙ ap (λ k. with_code e ((c.args.at, k) ∷ []) o) end

pub returns-clause-touched : goal.returns-clause-touched
returns-clause-touched c =
    let e = scene_in c.args.scene.now in
    let b = c.args.before.now in
    let l = c.args.last.now in
    c.in_ok-with_edge-2.ensures.touched
    ∙ ap (λ r. with_some (with_names e r l.names.now) l.below) (c.in_ok-with_edge.ensures.touched ∙ ap (λ r. with_some (with_names e r b.names.now) b.below) c.in_ok-ranges.ensures.touched)
