use Rattle.std.proofs.Common.{◌≡◌, ◌+◌, ◌-◌, ◌<◌, refl, ap, ◌∙◌, sym, subst, arith, drop, take, length}
use Rattle.prem_asm.specs.Pieces.{size_of}
use Rattle.prem_asm.specs.PiecesOf.{pieces_of}
use Rattle.prem_wcet_laws.specs.Least.{own}
use Rattle.prem_wcet.specs.Alike.{AreAlike}
use Rattle.prem_wcet.specs.CountOf.{count_in}
use Rattle.prem_wcet.specs.EdgesOf.{BelowFits, alone_in, cut_count_in, edge_of}
use Rattle.prem_wcet.specs.Fitting.{FitsAt}
use Rattle.prem_wcet.specs.Outlines.{first_place as first_side, inner_place, parted_in, second_place}
use Rattle.prem_wcet.specs.PartsOf.{part_code, parts_of}
use Rattle.prem_wcet.specs.SceneOf.{scene_in}
use Rattle.prem_wcet.proofs.LeastSums.{fits_all}
use Rattle.prem_wcet.proofs.Outcomes.{if_more}
use Rattle.prem_wcet.proofs.PartRows.{count, count_item, is_choice, is_turning}
use Rattle.prem_wcet.proofs.PartedSums.{alone_fits, alone_place, alone_told, closed_all, closed_at, closed_before, cut_choice_told, cut_turns_told, first_fits, first_place}
use Rattle.prem_wcet.proofs.PartedSums.{front_place, front_stands, part_below, part_fits, part_room}
use Rattle.prem_wcet.proofs.Passages.{between_size}
use Rattle.prem_wcet.proofs.parted.+parted.Goals as goal

pub cut_choice-first_place-requires : goal.cut_choice-first_place-requires
cut_choice-first_place-requires t c = let all = fits_all (first_side c.args.at (pieces_of c.args.condition.now)) (parts_of c.args.taken.now) c.requires.taken in omega (arith, all)

pub cut_choice-second_place-requires : goal.cut_choice-second_place-requires
cut_choice-second_place-requires t c =
    let all = fits_all (second_place c.args.at (pieces_of c.args.condition.now) (parts_of c.args.taken.now) c.args.skips) (parts_of c.args.other.now) c.requires.other in omega (arith, all)

pub cut_choice-returns : goal.cut_choice-returns
cut_choice-returns t c =
    let e = scene_in c.args.scene.now in
    let one = first_side c.args.at (pieces_of c.args.condition.now) in
    let two = second_place c.args.at (pieces_of c.args.condition.now) (parts_of c.args.taken.now) c.args.skips in
    cut_choice_told e c.args.skips (own e (pieces_of c.args.condition.now)) c.own-test.result (count_in c.quiet-start.result)
    (count_in c.choice_count-sides.result) (count_in c.in_ok-first.first) (count_in c.in_ok-second.second)
    (alone_in e one (parts_of c.args.taken.now)) (alone_in e two (parts_of c.args.other.now)) (count_in c.then_count.result) c.own-test.ensures c.quiet-start.ensures
    (subst (λ k. AreAlike (count_in c.in_ok-first.first) (alone_in e k (parts_of c.args.taken.now))) c.first_place.ensures c.in_ok-first.ensures)
    (subst (λ k. AreAlike (count_in c.in_ok-second.second) (alone_in e k (parts_of c.args.other.now))) c.second_place.ensures c.in_ok-second.ensures)
    c.choice_count-sides.ensures c.then_count.ensures

pub cut_turns-inner_place-requires : goal.cut_turns-inner_place-requires
cut_turns-inner_place-requires t c =
    let all = fits_all (inner_place c.args.at (pieces_of c.args.first.now) (pieces_of c.args.head.now) (pieces_of c.args.before.now)) (parts_of c.args.body.now) c.requires.body in omega (arith, all)

pub cut_turns-returns : goal.cut_turns-returns
cut_turns-returns t c =
    let e = scene_in c.args.scene.now in
    let place = inner_place c.args.at (pieces_of c.args.first.now) (pieces_of c.args.head.now) (pieces_of c.args.before.now) in
    let body = parts_of c.args.body.now in
    cut_turns_told e c.args.turns (own e (pieces_of c.args.head.now)) c.own-top.result (own e (pieces_of c.args.first.now)) c.own-outside.result
    (own e (pieces_of c.args.before.now)) c.own-start.result
    (own e (pieces_of c.args.behind.now)) c.own-last.result (count_in c.in_ok-inside.inside) (count_in c.quiet-leave.result)
    (count_in c.then_count-ended.result) (count_in c.quiet-begin.result) (count_in c.then_count-turn.result)
    (count_in c.turn_count-all.result) (count_in c.quiet-entry.result) (alone_in e place body) (count_in c.then_count.result)
    (subst (λ k. AreAlike (count_in c.in_ok-inside.inside) (alone_in e k body)) c.inner_place.ensures c.in_ok-inside.ensures)
    c.own-last.ensures c.quiet-leave.ensures c.then_count-ended.ensures c.own-start.ensures c.quiet-begin.ensures c.then_count-turn.ensures
    c.own-top.ensures c.turn_count-all.ensures c.own-outside.ensures c.quiet-entry.ensures
    c.then_count.ensures

pub cut_count-cut_choice-requires : goal.cut_count-cut_choice-requires
cut_count-cut_choice-requires t c =
    let is = is_choice c.args.part.now c.in-Choice.code c.in-Choice.names c.in-Choice.condition c.in-Choice.skips c.in-Choice.taken c.in-Choice.other
    c.items.result.now c.items-in-Choice.result.now c.in-Choice.is c.items.ensures c.items-in-Choice.ensures in
    let fits = subst (FitsAt c.args.at) is c.requires.fits in
    let below = subst (BelowFits (scene_in c.args.scene.now)) is c.requires.below in
    (omega (arith, c.decreases, ap count is), (c.requires.scene, (fits.0, (fits.1.0, (below.0, below.1.0)))))

pub cut_count-cut_turns-requires : goal.cut_count-cut_turns-requires
cut_count-cut_turns-requires t c =
    let is = is_turning c.args.part.now c.in-Turning.code c.in-Turning.names c.in-Turning.first c.in-Turning.turns c.in-Turning.head
    c.in-Turning.before c.in-Turning.body c.in-Turning.behind c.items-in-Turning.result.now c.in-Turning.is c.items-in-Turning.ensures in
    let fits = subst (FitsAt c.args.at) is c.requires.fits in
    let below = subst (BelowFits (scene_in c.args.scene.now)) is c.requires.below in
    (omega (arith, c.decreases, ap count is), (c.requires.scene, (fits.0, below.0)))

pub cut_count-returns-in-Choice : goal.cut_count-returns-in-Choice
cut_count-returns-in-Choice t c =
    let is = is_choice c.args.part.now c.in-Choice.code c.in-Choice.names c.in-Choice.condition c.in-Choice.skips c.in-Choice.taken c.in-Choice.other
    c.items.result.now c.items-in-Choice.result.now c.in-Choice.is c.items.ensures c.items-in-Choice.ensures in
    if_more c.cut_choice.result (λ n told. subst (AreAlike (count_in n)) (sym (ap (cut_count_in (scene_in c.args.scene.now) c.args.at) is)) told) c.cut_choice.ensures

pub cut_count-returns-in-Turning : goal.cut_count-returns-in-Turning
cut_count-returns-in-Turning t c =
    let is = is_turning c.args.part.now c.in-Turning.code c.in-Turning.names c.in-Turning.first c.in-Turning.turns c.in-Turning.head
    c.in-Turning.before c.in-Turning.body c.in-Turning.behind c.items-in-Turning.result.now c.in-Turning.is c.items-in-Turning.ensures in
    if_more c.cut_turns.result (λ n told. subst (AreAlike (count_in n)) (sym (ap (cut_count_in (scene_in c.args.scene.now) c.args.at) is)) told) c.cut_turns.ensures

pub alone-parted-requires : goal.alone-parted-requires
alone-parted-requires t c =
    let b = edge_of c.no_edge-edge.result in
    let o = parts_of c.args.parts.now in (
      omega (arith, c.decreases),
      (
        c.requires.scene,
        (
          alone_place c.args.at b o c.no_edge-edge.ensures c.requires.fits,
          (alone_fits c.args.at b o c.no_edge-edge.ensures c.requires.fits, c.requires.below),
        ),
      ),
    )

pub alone-returns : goal.alone-returns
alone-returns t c =
    let e = scene_in c.args.scene.now in
    let o = parts_of c.args.parts.now in
    if_more c.parted.result
    (λ n told. subst (AreAlike (count_in n)) ((λ i. parted_in e c.args.at (c.no_edge-edge.ensures i) (c.no_edge-edge.ensures i) o) ∙ alone_told e c.args.at o) told) c.parted.ensures

pub parted-end_of-place-requires : goal.parted-end_of-place-requires
parted-end_of-place-requires t c = let size = between_size (edge_of c.args.before.now) (edge_of c.args.last.now) (parts_of c.args.parts.now) in omega (arith, c.requires.place, size)

pub parted-start_of-place-requires : goal.parted-start_of-place-requires
parted-start_of-place-requires t c =
    part_room (scene_in c.args.scene.now) (edge_of c.args.last.now) c.args.parts.now (c.args.at + size_of (pieces_of c.args.before.now.pieces.now))
    c.back.n (c.back.n - 1) c.back.place c.back.until (edge_of c.back.edge)
    (count_in c.back.count) c.index-parts-n.result c.back.invariant c.requires.fits (omega (arith, c.back-test.true))
    (omega (arith, c.back-test.true, c.back.invariant.low, c.back.invariant.high)) c.index-parts-n.is

pub parted-cut_count-requires : goal.parted-cut_count-requires
parted-cut_count-requires t c =
    let e = scene_in c.args.scene.now in
    let l = edge_of c.args.last.now in
    let ps = c.args.parts.now in
    let start = c.args.at + size_of (pieces_of c.args.before.now.pieces.now) in
    let n = c.back.n - 1 in
    let p = c.index-parts-n.result in
    let x = edge_of c.back.edge in
    let k = count_in c.back.count in
    let one = (let same : c.back.n ≡ n + 1 = omega (arith, c.back-test.true) in same) in
    let here = (let less : n < length ps = omega (arith, c.back-test.true, c.back.invariant.low, c.back.invariant.high) in less) in
    let room = part_room e l ps start c.back.n n c.back.place c.back.until x k p c.back.invariant c.requires.fits one here c.index-parts-n.is in
    let stands = (let same : c.start_of-place.result + size_of (part_code p) ≡ c.back.place = omega (arith, room, c.start_of-place.ensures) in same) in (
      omega (arith, c.decreases, count_item ps n p here c.index-parts-n.is),
      (
        c.requires.scene,
        (
          part_fits e l ps start c.back.n n c.back.place c.back.until x k p c.back.invariant c.requires.fits c.start_of-place.result one here c.index-parts-n.is stands,
          part_below e l ps start c.back.n n c.back.place c.back.until x k p c.back.invariant c.requires.fits here c.index-parts-n.is c.requires.below,
        ),
      ),
    )

pub parted-behind_cut-requires-clause-place : goal.parted-behind_cut-requires-clause-place
parted-behind_cut-requires-clause-place t c =
    let e = scene_in c.args.scene.now in
    let l = edge_of c.args.last.now in
    let ps = c.args.parts.now in
    let start = c.args.at + size_of (pieces_of c.args.before.now.pieces.now) in
    let n = c.back.n - 1 in
    let p = c.index-parts-n.result in
    let x = edge_of c.back.edge in
    let k = count_in c.back.count in
    let one = (let same : c.back.n ≡ n + 1 = omega (arith, c.back-test.true) in same) in
    let here = (let less : n < length ps = omega (arith, c.back-test.true, c.back.invariant.low, c.back.invariant.high) in less) in
    let room = part_room e l ps start c.back.n n c.back.place c.back.until x k p c.back.invariant c.requires.fits one here c.index-parts-n.is in
    let stands = (let same : c.start_of-place.result + size_of (part_code p) ≡ c.back.place = omega (arith, room, c.start_of-place.ensures) in same) in
    let whole = between_size (edge_of c.args.before.now) l (parts_of ps) in
    front_place e l ps start c.back.n n c.back.place c.back.until x k p c.back.invariant c.requires.fits c.start_of-place.result (parts_of (take (c.back.until - (n + 1)) (drop (n + 1) ps)))
    (part_fits e l ps start c.back.n n c.back.place c.back.until x k p c.back.invariant c.requires.fits c.start_of-place.result one here c.index-parts-n.is stands) stands
    (ap (λ j. parts_of (take (c.back.until - j) (drop j ps))) (sym one)) (omega (arith, c.requires.place, whole))

pub parted-behind_cut-requires-clause-fits : goal.parted-behind_cut-requires-clause-fits
parted-behind_cut-requires-clause-fits t c =
    let e = scene_in c.args.scene.now in
    let l = edge_of c.args.last.now in
    let ps = c.args.parts.now in
    let start = c.args.at + size_of (pieces_of c.args.before.now.pieces.now) in
    let n = c.back.n - 1 in
    let p = c.index-parts-n.result in
    let x = edge_of c.back.edge in
    let k = count_in c.back.count in
    let one = (let same : c.back.n ≡ n + 1 = omega (arith, c.back-test.true) in same) in
    let here = (let less : n < length ps = omega (arith, c.back-test.true, c.back.invariant.low, c.back.invariant.high) in less) in
    let room = part_room e l ps start c.back.n n c.back.place c.back.until x k p c.back.invariant c.requires.fits one here c.index-parts-n.is in
    let stands = (let same : c.start_of-place.result + size_of (part_code p) ≡ c.back.place = omega (arith, room, c.start_of-place.ensures) in same) in
    front_stands e l ps start c.back.n n c.back.place c.back.until x k p c.back.invariant c.requires.fits c.start_of-place.result (parts_of (take (c.back.until - (n + 1)) (drop (n + 1) ps)))
    (part_fits e l ps start c.back.n n c.back.place c.back.until x k p c.back.invariant c.requires.fits c.start_of-place.result one here c.index-parts-n.is stands) stands
    (ap (λ j. parts_of (take (c.back.until - j) (drop j ps))) (sym one))

pub parted-passing-edge-requires : goal.parted-passing-edge-requires
parted-passing-edge-requires t c =
    part_below (scene_in c.args.scene.now) (edge_of c.args.last.now) c.args.parts.now (c.args.at + size_of (pieces_of c.args.before.now.pieces.now))
    c.back.n (c.back.n - 1) c.back.place c.back.until (edge_of c.back.edge)
    (count_in c.back.count) c.index-parts-n.result c.back.invariant c.requires.fits (omega (arith, c.back-test.true, c.back.invariant.low, c.back.invariant.high)) c.index-parts-n.is c.requires.below

pub parted-back-preserved-then-cuts : goal.parted-back-preserved-then-cuts
parted-back-preserved-then-cuts t c =
    let e = scene_in c.args.scene.now in
    let l = edge_of c.args.last.now in
    let ps = c.args.parts.now in
    let start = c.args.at + size_of (pieces_of c.args.before.now.pieces.now) in
    let n = c.back.n - 1 in
    let p = c.index-parts-n.result in
    let x = edge_of c.back.edge in
    let k = count_in c.back.count in
    let one = (let same : c.back.n ≡ n + 1 = omega (arith, c.back-test.true) in same) in
    let here = (let less : n < length ps = omega (arith, c.back-test.true, c.back.invariant.low, c.back.invariant.high) in less) in
    let room = part_room e l ps start c.back.n n c.back.place c.back.until x k p c.back.invariant c.requires.fits one here c.index-parts-n.is in
    let stands = (let same : c.start_of-place.result + size_of (part_code p) ≡ c.back.place = omega (arith, room, c.start_of-place.ensures) in same) in
    closed_at e l ps start c.back.n n c.back.place c.start_of-place.result c.back.until x (edge_of c.passing-edge.result) k (count_in c.in_ok-cut.cut) (count_in c.in_ok-count.count)
    (parts_of (take (c.back.until - (n + 1)) (drop (n + 1) ps))) p one here c.index-parts-n.is (sym c.if-cuts.ensures) stands c.passing-edge.ensures c.in_ok-cut.ensures
    (ap (λ j. parts_of (take (c.back.until - j) (drop j ps))) (sym one)) c.in_ok-count.ensures c.back.invariant

pub parted-back-preserved : goal.parted-back-preserved
parted-back-preserved t c =
    let e = scene_in c.args.scene.now in
    let l = edge_of c.args.last.now in
    let ps = c.args.parts.now in
    let start = c.args.at + size_of (pieces_of c.args.before.now.pieces.now) in
    let n = c.back.n - 1 in
    let p = c.index-parts-n.result in
    let x = edge_of c.back.edge in
    let k = count_in c.back.count in
    let one = (let same : c.back.n ≡ n + 1 = omega (arith, c.back-test.true) in same) in
    let here = (let less : n < length ps = omega (arith, c.back-test.true, c.back.invariant.low, c.back.invariant.high) in less) in
    let room = part_room e l ps start c.back.n n c.back.place c.back.until x k p c.back.invariant c.requires.fits one here c.index-parts-n.is in
    let stands = (let same : c.start_of-place.result + size_of (part_code p) ≡ c.back.place = omega (arith, room, c.start_of-place.ensures) in same) in
    closed_before e l ps start c.back.n n c.back.place c.start_of-place.result c.back.until x k p one here c.index-parts-n.is (sym c.if-cuts.ensures) stands c.back.invariant

pub parted-passage-requires-clause-place : goal.parted-passage-requires-clause-place
parted-passage-requires-clause-place t c =
    let start = c.args.at + size_of (pieces_of c.args.before.now.pieces.now) in
    first_place (scene_in c.args.scene.now) (edge_of c.args.last.now) c.args.parts.now start c.back.n c.back.place c.back.until (edge_of c.back.edge) (count_in c.back.count) c.back.invariant
    (let none : c.back.n ≡ 0 = omega (arith, c.back-test.false) in none) c.args.at (edge_of c.args.before.now) refl c.requires.fits c.requires.place

pub parted-passage-requires-clause-fits : goal.parted-passage-requires-clause-fits
parted-passage-requires-clause-fits t c =
    let start = c.args.at + size_of (pieces_of c.args.before.now.pieces.now) in
    first_fits (scene_in c.args.scene.now) (edge_of c.args.last.now) c.args.parts.now start c.back.n c.back.place c.back.until (edge_of c.back.edge) (count_in c.back.count) c.back.invariant
    (let none : c.back.n ≡ 0 = omega (arith, c.back-test.false) in none) c.requires.fits

pub parted-returns : goal.parted-returns
parted-returns t c =
    closed_all (scene_in c.args.scene.now) c.args.at c.back.place c.back.n c.back.until c.in_ok-first.first (edge_of c.args.before.now) (edge_of c.args.last.now) (edge_of c.back.edge) c.args.parts.now
    (parts_of (take c.back.until c.args.parts.now)) (count_in c.quiet-start.result) (count_in c.back.count) (count_in c.then_count.result)
    (let none : c.back.n ≡ 0 = omega (arith, c.back-test.false) in none) refl
    c.in_ok-first.ensures c.quiet-start.ensures c.then_count.ensures c.back.invariant
