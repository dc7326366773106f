use Rattle.std.proofs.Common.{◌+◌, ap, ◌∙◌, sym, subst, arith, drop}
use Rattle.prem_asm.specs.Pieces.{size_of}
use Rattle.prem_asm.specs.PiecesOf.{pieces_of}
use Rattle.prem_bounds.specs.Scale.{clipped}
use Rattle.prem_wcet_laws.specs.Least.{own}
use Rattle.prem_wcet.specs.Fitting.{FitsAt, divided_in}
use Rattle.prem_wcet.specs.Outlines.{first_place, inner_place, least_in, second_place}
use Rattle.prem_wcet.specs.PartsOf.{part_code, parts_of}
use Rattle.prem_wcet.specs.SceneOf.{scene_in}
use Rattle.prem_wcet.proofs.LeastSums.{apart_step, body_told, choice_told, first_fits, fits_all, fits_behind, fits_one, turns_told}
use Rattle.prem_wcet.proofs.Outcomes.{if_more}
use Rattle.prem_wcet.proofs.PartRows.{count, count_item, drop_part, is_choice, is_turning}
use Rattle.prem_wcet.proofs.least.+least.Goals as goal

pub apart-charge_one-requires-clause-place : goal.apart-charge_one-requires-clause-place
apart-charge_one-requires-clause-place t c = first_fits c.args.parts.now c.loop-n.n c.loop-n.place (omega (arith, c.loop-n-test.true)) c.loop-n.invariant.fits

pub apart-by_parts-requires : goal.apart-by_parts-requires
apart-by_parts-requires t c =
    let ps = c.args.parts.now in
    let n = c.loop-n.n in
    let p = c.index-parts-n.result in
    let d = drop_part ps n p (omega (arith, c.loop-n-test.true)) c.index-parts-n.is in (
      omega (arith, c.decreases, count_item ps n p (omega (arith, c.loop-n-test.true)) c.index-parts-n.is),
      (c.requires.scene, fits_one c.loop-n.place p (parts_of (drop (n + 1) ps)) (subst (FitsAt c.loop-n.place) d c.loop-n.invariant.fits)),
    )

pub apart-next_statement_place-place-requires : goal.apart-next_statement_place-place-requires
apart-next_statement_place-place-requires t c =
    let ps = c.args.parts.now in
    let n = c.loop-n.n in
    let p = c.index-parts-n-in-loop-n.result in
    let rest = parts_of (drop (n + 1) ps) in
    let d = drop_part ps n p (omega (arith, c.loop-n-test.true)) c.index-parts-n-in-loop-n.is in
    let all = fits_all (c.loop-n.place + size_of (part_code p)) rest (fits_behind c.loop-n.place p rest (subst (FitsAt c.loop-n.place) d c.loop-n.invariant.fits)) in
    omega (arith, all)

pub apart-loop-n-preserved : goal.apart-loop-n-preserved
apart-loop-n-preserved t c =
    let ps = c.args.parts.now in
    let n = c.loop-n.n in
    let q = c.index-parts-n-in-loop-n.result in
    let rest = parts_of (drop (n + 1) ps) in
    let d = drop_part ps n q (omega (arith, c.loop-n-test.true)) c.index-parts-n-in-loop-n.is in
    record {
      rest =
          apart_step (scene_in c.args.scene.now)
          c.loop-n.place c.loop-n.sum c.in_ok-whole.whole c.in_ok-divided.divided c.min.result c.plus-sum.result c.next_statement_place-place.result ps n
          c.index-parts-n.result q
          (omega (arith, c.loop-n-test.true)) c.index-parts-n.is c.index-parts-n-in-loop-n.is c.in_ok-whole.ensures c.in_ok-divided.ensures c.min.ensures c.plus-sum.ensures c.next_statement_place-place.ensures
          ∙ c.loop-n.invariant.rest;
      small = omega (arith, c.plus-sum.ensures);
      fits = subst (λ k. FitsAt k rest) (sym c.next_statement_place-place.ensures) (fits_behind c.loop-n.place q rest (subst (FitsAt c.loop-n.place) d c.loop-n.invariant.fits));
    }

pub by_choice-first_place-requires : goal.by_choice-first_place-requires
by_choice-first_place-requires t c = let all = fits_all (first_place c.args.at (pieces_of c.args.condition.now)) (parts_of c.args.taken.now) c.requires.taken in omega (arith, all)

pub by_choice-second_place-requires : goal.by_choice-second_place-requires
by_choice-second_place-requires t c =
    let all = fits_all (second_place c.args.at (pieces_of c.args.condition.now) (parts_of c.args.taken.now) c.args.skips) (parts_of c.args.other.now) c.requires.other in omega (arith, all)

pub by_choice-returns : goal.by_choice-returns
by_choice-returns t c =
    let e = scene_in c.args.scene.now in
    let one = first_place c.args.at (pieces_of c.args.condition.now) in
    let two = second_place c.args.at (pieces_of c.args.condition.now) (parts_of c.args.taken.now) c.args.skips in
    choice_told e c.args.skips c.in_ok-first.first c.in_ok-second.second (least_in e one (parts_of c.args.taken.now))
    (least_in e two (parts_of c.args.other.now)) (own e (pieces_of c.args.condition.now)) c.own.result c.plus.result c.own_choice.result
    (c.in_ok-first.ensures ∙ ap (λ k. clipped (least_in e k (parts_of c.args.taken.now))) c.first_place.ensures)
    (c.in_ok-second.ensures ∙ ap (λ k. clipped (least_in e k (parts_of c.args.other.now))) c.second_place.ensures) c.plus.ensures c.own.ensures c.own_choice.ensures

pub by_parts-by_choice-requires : goal.by_parts-by_choice-requires
by_parts-by_choice-requires t c =
    let is = is_choice c.args.part.now c.in-Choice.code c.in-Choice.names c.in-Choice.condition c.in-Choice.skips c.in-Choice.taken c.in-Choice.other
    c.items.result.now c.items-in-Choice.result.now c.in-Choice.is c.items.ensures c.items-in-Choice.ensures in
    let fits = subst (FitsAt c.args.at) is c.requires.fits in
    (omega (arith, c.decreases, ap count is), (c.requires.scene, (fits.0, fits.1.0)))

pub by_parts-by_turns-requires : goal.by_parts-by_turns-requires
by_parts-by_turns-requires t c =
    let is = is_turning c.args.part.now c.in-Turning.code c.in-Turning.names c.in-Turning.first c.in-Turning.turns c.in-Turning.head
    c.in-Turning.before c.in-Turning.body c.in-Turning.behind c.items-in-Turning.result.now c.in-Turning.is c.items-in-Turning.ensures in
    let fits = subst (FitsAt c.args.at) is c.requires.fits in
    (omega (arith, c.decreases, ap count is), (c.requires.scene, fits.0))

pub by_parts-returns-in-Choice : goal.by_parts-returns-in-Choice
by_parts-returns-in-Choice t c =
    let is = is_choice c.args.part.now c.in-Choice.code c.in-Choice.names c.in-Choice.condition c.in-Choice.skips c.in-Choice.taken c.in-Choice.other
    c.items.result.now c.items-in-Choice.result.now c.in-Choice.is c.items.ensures c.items-in-Choice.ensures in
    if_more c.by_choice.result (λ n told. told ∙ ap clipped (sym (ap (divided_in (scene_in c.args.scene.now) c.args.at) is))) c.by_choice.ensures

pub by_parts-returns-in-Turning : goal.by_parts-returns-in-Turning
by_parts-returns-in-Turning t c =
    let is = is_turning c.args.part.now c.in-Turning.code c.in-Turning.names c.in-Turning.first c.in-Turning.turns c.in-Turning.head
    c.in-Turning.before c.in-Turning.body c.in-Turning.behind c.items-in-Turning.result.now c.in-Turning.is c.items-in-Turning.ensures in
    if_more c.by_turns.result (λ n told. told ∙ ap clipped (sym (ap (divided_in (scene_in c.args.scene.now) c.args.at) is))) c.by_turns.ensures

pub by_turns-inner_place-requires : goal.by_turns-inner_place-requires
by_turns-inner_place-requires t c =
    let all = fits_all (inner_place c.args.at (pieces_of c.args.first.now) (pieces_of c.args.head.now) (pieces_of c.args.before.now)) (parts_of c.args.body.now) c.requires.body in omega (arith, all)

pub by_turns-returns : goal.by_turns-returns
by_turns-returns t c =
    let e = scene_in c.args.scene.now in
    let place = inner_place c.args.at (pieces_of c.args.first.now) (pieces_of c.args.head.now) (pieces_of c.args.before.now) in
    let body = parts_of c.args.body.now in
    let start = own e (pieces_of c.args.before.now) in
    let last = own e (pieces_of c.args.behind.now) in
    turns_told e c.args.turns c.own-top.result c.plus-turn.result (own e (pieces_of c.args.head.now)) (start + least_in e place body + last)
    (own e (pieces_of c.args.first.now)) c.own-entry.result c.own_turns-all.result c.plus.result
    c.own-top.ensures
    (body_told c.own-start.result c.in_ok-inside.inside c.own-last.result c.plus-most.result c.plus-turn.result start (least_in e place body) last
    c.own-start.ensures (c.in_ok-inside.ensures ∙ ap (λ k. clipped (least_in e k body)) c.inner_place.ensures) c.own-last.ensures c.plus-most.ensures c.plus-turn.ensures)
    c.own_turns-all.ensures c.own-entry.ensures c.plus.ensures

pub least-charge-requires-clause-place : goal.least-charge-requires-clause-place
least-charge-requires-clause-place t c = fits_all c.args.at (parts_of c.args.parts.now) c.requires.fits
