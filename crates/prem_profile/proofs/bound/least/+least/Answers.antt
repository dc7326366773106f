use Rattle.std.specs.Prelude.{◌-◌}
use Rattle.std.proofs.Common.{◌≡◌, ◌+◌, ◌++◌, ap, ◌∙◌, sym, subst, arith, drop}
use Rattle.prem_asm.specs.Pieces.{size_of}
use Rattle.prem_asm.specs.PiecesOf.{pieces_of}
use Rattle.prem_wcet.specs.Fitting.{FitsAt}
use Rattle.prem_wcet.specs.Outlines.{first_place, second_place}
use Rattle.prem_wcet.specs.PartsOf.{part_code, part_of, parts_of}
use Rattle.prem_wcet.specs.SceneOf.{scene_in}
use Rattle.prem_wcet.proofs.LeastSums.{first_fits, fits_all, fits_behind, fits_one}
use Rattle.prem_wcet.proofs.Outcomes.{if_more}
use Rattle.prem_wcet.proofs.PartRows.{count, count_item, drop_part, is_choice, is_turning}
use Rattle.prem_profile.specs.Bound.Scopes.{own_bill}
use Rattle.prem_profile.specs.Bound.Statements.{choice_bill, inner_end, least_bill, over_place, turns_bill}
use Rattle.prem_profile.specs.Bound.Memory.{EndsAt, calls_of, divided_bill}
use Rattle.prem_profile.proofs.BillLemmas.Places.{ends_behind, ends_one}
use Rattle.prem_profile.proofs.BillLemmas.Statements.{apart_step, divided_is}
use Rattle.prem_profile.proofs.bound.least.+least.Goals as goal

pub apart-one_or-requires-clause-place : goal.apart-one_or-requires-clause-place
apart-one_or-requires-clause-place t c = first_fits c.args.parts.now c.loop-n.n c.loop-n.place (omega (arith, c.loop-n-test.true)) c.loop-n.invariant.fits

pub apart-by_parts-requires : goal.apart-by_parts-requires
apart-by_parts-requires t c =
    let ps = c.args.parts.now in
    let n = c.loop-n.n in
    let p = c.index-parts-n.result in
    let d = drop_part ps n p (omega (arith, c.loop-n-test.true)) c.index-parts-n.is in (
      omega (arith, c.decreases, count_item ps n p (omega (arith, c.loop-n-test.true)) c.index-parts-n.is),
      (
        c.requires.scene,
        (
          fits_one c.loop-n.place p (parts_of (drop (n + 1) ps)) (subst (FitsAt c.loop-n.place) d c.loop-n.invariant.fits),
          ends_one c.loop-n.place p (parts_of (drop (n + 1) ps)) (subst (EndsAt c.loop-n.place) d c.loop-n.invariant.ends),
        ),
      ),
    )

pub apart-next_statement_place-place-requires : goal.apart-next_statement_place-place-requires
apart-next_statement_place-place-requires t c =
    let ps = c.args.parts.now in
    let n = c.loop-n.n in
    let p = c.index-parts-n-in-loop-n.result in
    let rest = parts_of (drop (n + 1) ps) in
    let d = drop_part ps n p (omega (arith, c.loop-n-test.true)) c.index-parts-n-in-loop-n.is in
    let all = fits_all (c.loop-n.place + size_of (part_code p)) rest (fits_behind c.loop-n.place p rest (subst (FitsAt c.loop-n.place) d c.loop-n.invariant.fits)) in
    omega (arith, all)

pub apart-loop-n-preserved : goal.apart-loop-n-preserved
apart-loop-n-preserved t c =
    let e = scene_in c.args.scene.now in
    let known = calls_of c.args.known.now in
    let ps = c.args.parts.now in
    let n = c.loop-n.n in
    let q = c.index-parts-n-in-loop-n.result in
    let rest = parts_of (drop (n + 1) ps) in
    let d = drop_part ps n q (omega (arith, c.loop-n-test.true)) c.index-parts-n-in-loop-n.is in
    record {
      rest =
          apart_step e known c.loop-n.place c.next_statement_place-place.result c.loop-n.bill.items c.in_ok-one.one.items c.in_ok-divided.divided.items c.append.new.bill.items ps n
          c.index-parts-n.result q
          (omega (arith, c.loop-n-test.true)) c.index-parts-n.is c.index-parts-n-in-loop-n.is c.in_ok-one.ensures c.in_ok-divided.ensures
          (c.in_ok-append.ensures ∙ ap (λ x. c.loop-n.bill.items ++ x) c.deref.ensures.value) c.next_statement_place-place.ensures
          ∙ c.loop-n.invariant.rest;
      fits = subst (λ k. FitsAt k rest) (sym c.next_statement_place-place.ensures) (fits_behind c.loop-n.place q rest (subst (FitsAt c.loop-n.place) d c.loop-n.invariant.fits));
      ends = subst (λ k. EndsAt k rest) (sym c.next_statement_place-place.ensures) (ends_behind c.loop-n.place q rest (subst (EndsAt c.loop-n.place) d c.loop-n.invariant.ends));
    }

pub by_choice-first_place-one-requires : goal.by_choice-first_place-one-requires
by_choice-first_place-one-requires t c = let all = fits_all (first_place c.args.at (pieces_of c.args.condition.now)) (parts_of c.args.taken.now) c.requires.taken in omega (arith, all)

pub by_choice-second_place-requires : goal.by_choice-second_place-requires
by_choice-second_place-requires t c =
    let all = fits_all (second_place c.args.at (pieces_of c.args.condition.now) (parts_of c.args.taken.now) c.args.skips) (parts_of c.args.other.now) c.requires.other in omega (arith, all)

pub by_choice-returns : goal.by_choice-returns
by_choice-returns t c =
    let e = scene_in c.args.scene.now in
    let known = calls_of c.args.known.now in
    let at = c.args.at in
    let condition = pieces_of c.args.condition.now in
    let taken = parts_of c.args.taken.now in
    let test = (let same : c.first_place-one.result - 8 ≡ at + size_of condition = omega (arith, c.first_place-one.ensures) in same) in
    let over = (let same : c.first_place-one.result + c.parts_size.result ≡ over_place at condition taken = omega (arith, c.first_place-one.ensures, c.parts_size.ensures) in same) in
    let one = c.in_ok-first.ensures ∙ ap (λ k. least_bill e known k taken) c.first_place-one.ensures in
    let two = c.deref.ensures.value ∙ c.in_ok-second.ensures ∙ ap (λ k. least_bill e known k (parts_of c.args.other.now)) c.second_place.ensures in
    c.in_ok-push_choice.ensures ∙ (λ i. c.in_ok-bill.ensures i ++ choice_bill e (test i) (over i) c.args.skips (one i) (two i))

pub by_parts-by_choice-requires : goal.by_parts-by_choice-requires
by_parts-by_choice-requires t c =
    let is = is_choice c.args.part.now c.in-Choice.code c.in-Choice.names c.in-Choice.condition c.in-Choice.skips c.in-Choice.taken c.in-Choice.other
    c.items.result.now c.items-in-Choice.result.now c.in-Choice.is c.items.ensures c.items-in-Choice.ensures in
    let fits = subst (FitsAt c.args.at) is c.requires.fits in
    let ends = subst (EndsAt c.args.at) is c.requires.ends in
    (omega (arith, c.decreases, ap count is), (c.requires.scene, (fits.0, (fits.1.0, (ends.0, ends.1.0)))))

pub by_parts-by_turns-requires : goal.by_parts-by_turns-requires
by_parts-by_turns-requires t c =
    let is = is_turning c.args.part.now c.in-Turning.code c.in-Turning.names c.in-Turning.first c.in-Turning.turns c.in-Turning.head
    c.in-Turning.before c.in-Turning.body c.in-Turning.behind c.items-in-Turning.result.now c.in-Turning.is c.items-in-Turning.ensures in
    let fits = subst (FitsAt c.args.at) is c.requires.fits in
    let ends = subst (EndsAt c.args.at) is c.requires.ends in
    (omega (arith, c.decreases, ap count is), (c.requires.scene, (fits.0, (ends.1.0, ends.0))))

pub by_parts-returns-in-Choice : goal.by_parts-returns-in-Choice
by_parts-returns-in-Choice t c =
    let is = is_choice c.args.part.now c.in-Choice.code c.in-Choice.names c.in-Choice.condition c.in-Choice.skips c.in-Choice.taken c.in-Choice.other
    c.items.result.now c.items-in-Choice.result.now c.in-Choice.is c.items.ensures c.items-in-Choice.ensures in
    if_more {Q = λ bill. bill.items ≡ divided_bill (scene_in c.args.scene.now) (calls_of c.args.known.now) c.args.at (part_of c.args.part.now)} c.by_choice.result
    (λ bill told. divided_is (scene_in c.args.scene.now) (calls_of c.args.known.now) c.args.at _ _ bill.items is told) c.by_choice.ensures

pub by_parts-returns-in-Turning : goal.by_parts-returns-in-Turning
by_parts-returns-in-Turning t c =
    let is = is_turning c.args.part.now c.in-Turning.code c.in-Turning.names c.in-Turning.first c.in-Turning.turns c.in-Turning.head
    c.in-Turning.before c.in-Turning.body c.in-Turning.behind c.items-in-Turning.result.now c.in-Turning.is c.items-in-Turning.ensures in
    if_more {Q = λ bill. bill.items ≡ divided_bill (scene_in c.args.scene.now) (calls_of c.args.known.now) c.args.at (part_of c.args.part.now)} c.by_turns.result
    (λ bill told. divided_is (scene_in c.args.scene.now) (calls_of c.args.known.now) c.args.at _ _ bill.items is told) c.by_turns.ensures

pub by_turns-returns : goal.by_turns-returns
by_turns-returns t c =
    let e = scene_in c.args.scene.now in
    let known = calls_of c.args.known.now in
    let at = c.args.at in
    let first = pieces_of c.args.first.now in
    let head = pieces_of c.args.head.now in
    let before = pieces_of c.args.before.now in
    let body = parts_of c.args.body.now in
    let behind = pieces_of c.args.behind.now in
    let test = c.behind_code-test.ensures ∙ ap (λ k. k + size_of head) c.behind_code.ensures in
    let end = (let same : c.inner_place-inner.result + c.parts_size.result ≡ inner_end at first head before body = omega (arith, c.inner_place-inner.ensures, c.parts_size.ensures) in same) in
    let back = c.behind_code-3.ensures ∙ ap (λ k. k + size_of behind) end in
    let top = c.deref-2.ensures.value ∙ c.in_ok-top.ensures ∙ ap (λ k. own_bill e k head) c.behind_code-2.ensures in
    let inside = c.deref.ensures.value ∙ c.in_ok-inside.ensures ∙ ap (λ k. least_bill e known k body) c.inner_place-inner.ensures in
    let turn = c.deref-3.ensures.value ∙ c.in_ok-turn.ensures ∙ (λ i. own_bill e (test i + 8) before ++ (inside i ++ own_bill e (end i) behind)) in
    c.in_ok-push_turns.ensures ∙ (λ i. c.in_ok-bill.ensures i ++ turns_bill e (test i) (back i) c.args.turns (top i) (turn i))

pub least-parts_or-requires-clause-place : goal.least-parts_or-requires-clause-place
least-parts_or-requires-clause-place t c = fits_all c.args.at (parts_of c.args.parts.now) c.requires.fits
