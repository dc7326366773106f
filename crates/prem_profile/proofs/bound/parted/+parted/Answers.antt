use Rattle.std.specs.Prelude.{◌-◌}
use Rattle.std.proofs.Common.{◌≡◌, ◌+◌, ◌<◌, ◌++◌, refl, ap, ◌∙◌, sym, subst, arith, drop, take, length}
use Rattle.prem_asm.specs.Pieces.{no_pieces, size_of}
use Rattle.prem_asm.specs.PiecesOf.{pieces_of}
use Rattle.prem_wcet_laws.specs.Parted.{Edge, no_edge}
use Rattle.prem_wcet.specs.EdgesOf.{BelowFits, edge_of, landing_edge, landing_place}
use Rattle.prem_wcet.specs.Fitting.{FitsAt}
use Rattle.prem_wcet.specs.Outlines.{first_place as first_side, inner_place, second_place}
use Rattle.prem_wcet.specs.PartsOf.{part_code, part_of, parts_of}
use Rattle.prem_wcet.specs.SceneOf.{scene_in}
use Rattle.prem_wcet.proofs.LeastSums.{fits_all}
use Rattle.prem_wcet.proofs.Outcomes.{if_more}
use Rattle.prem_wcet.proofs.PartRows.{count, count_item, is_choice, is_turning}
use Rattle.prem_wcet.proofs.PartedSums.{alone_fits, alone_place, first_fits, first_place}
use Rattle.prem_wcet.proofs.PartedSums.{front_place, front_stands, part_below, part_fits, part_room}
use Rattle.prem_wcet.proofs.Passages.{between_size}
use Rattle.prem_profile.specs.Bound.Scopes.{own_bill}
use Rattle.prem_profile.specs.Bound.Statements.{choice_bill, inner_end, over_place, turns_bill}
use Rattle.prem_profile.specs.Bound.Passages.{closed_bill, first_passage, parted_bill, passage_bill}
use Rattle.prem_profile.specs.Bound.Memory.{EndsAt, alone_bill, calls_of, cut_part_bill, from_last, stubs_in}
use Rattle.prem_profile.specs.Bound.Priced.{bills_in}
use Rattle.prem_profile.proofs.BillLemmas.Back.{block_more}
use Rattle.prem_profile.proofs.BillLemmas.Cut.{closed_all, closed_at, closed_before, closed_none}
use Rattle.prem_profile.proofs.BillLemmas.Statements.{cut_is}
use Rattle.prem_profile.proofs.BillLemmas.Places.{first_ends, front_stands_ends, part_ends}
use Rattle.prem_profile.proofs.bound.parted.+parted.Goals as goal

pub cut_choice-first_place-one-requires : goal.cut_choice-first_place-one-requires
cut_choice-first_place-one-requires t c = let all = fits_all (first_side c.args.at (pieces_of c.args.condition.now)) (parts_of c.args.taken.now) c.requires.taken in omega (arith, all)

pub cut_choice-second_place-two-requires : goal.cut_choice-second_place-two-requires
cut_choice-second_place-two-requires t c =
    let all = fits_all (second_place c.args.at (pieces_of c.args.condition.now) (parts_of c.args.taken.now) c.args.skips) (parts_of c.args.other.now) c.requires.other in omega (arith, all)

pub cut_choice-returns : goal.cut_choice-returns
cut_choice-returns t c =
    let e = scene_in c.args.scene.now in
    let s = stubs_in c.args.scene.now c.args.task in
    let known = calls_of c.args.known.now in
    let at = c.args.at in
    let condition = pieces_of c.args.condition.now in
    let taken = parts_of c.args.taken.now in
    let test = (let same : c.first_place-one.result - 8 ≡ at + size_of condition = omega (arith, c.first_place-one.ensures) in same) in
    let over = (let same : c.first_place-one.result + c.parts_size.result ≡ over_place at condition taken = omega (arith, c.first_place-one.ensures, c.parts_size.ensures) in same) in
    let one = c.in_ok-first.ensures ∙ ap (λ k. alone_bill e s known k taken) c.first_place-one.ensures in
    let two = c.deref.ensures.value ∙ c.in_ok-second.ensures ∙ ap (λ k. alone_bill e s known k (parts_of c.args.other.now)) c.second_place-two.ensures in
    c.in_ok-push_choice.ensures ∙ (λ i. c.in_ok-bill.ensures i ++ choice_bill e (test i) (over i) c.args.skips (one i) (two i))

pub cut_turns-inner_place-inner-requires : goal.cut_turns-inner_place-inner-requires
cut_turns-inner_place-inner-requires t c =
    let all = fits_all (inner_place c.args.at (pieces_of c.args.first.now) (pieces_of c.args.head.now) (pieces_of c.args.before.now)) (parts_of c.args.body.now) c.requires.body in omega (arith, all)

pub cut_turns-returns : goal.cut_turns-returns
cut_turns-returns t c =
    let e = scene_in c.args.scene.now in
    let s = stubs_in c.args.scene.now c.args.task in
    let known = calls_of c.args.known.now in
    let at = c.args.at in
    let first = pieces_of c.args.first.now in
    let head = pieces_of c.args.head.now in
    let before = pieces_of c.args.before.now in
    let body = parts_of c.args.body.now in
    let behind = pieces_of c.args.behind.now in
    let test = c.behind_code-test.ensures ∙ ap (λ k. k + size_of head) c.behind_code.ensures in
    let end = (let same : c.inner_place-inner.result + c.parts_size.result ≡ inner_end at first head before body = omega (arith, c.inner_place-inner.ensures, c.parts_size.ensures) in same) in
    let back = c.behind_code-3.ensures ∙ ap (λ k. k + size_of behind) end in
    let top = c.deref-2.ensures.value ∙ c.in_ok-top.ensures ∙ ap (λ k. own_bill e k head) c.behind_code-2.ensures in
    let inside = c.deref.ensures.value ∙ c.in_ok-inside.ensures ∙ ap (λ k. alone_bill e s known k body) c.inner_place-inner.ensures in
    let turn = c.deref-3.ensures.value ∙ c.in_ok-turn.ensures ∙ (λ i. own_bill e (test i + 8) before ++ (inside i ++ own_bill e (end i) behind)) in
    c.in_ok-push_turns.ensures ∙ (λ i. c.in_ok-bill.ensures i ++ turns_bill e (test i) (back i) c.args.turns (top i) (turn i))

pub cut_part-cut_choice-requires : goal.cut_part-cut_choice-requires
cut_part-cut_choice-requires t c =
    let is = is_choice c.args.part.now c.in-Choice.code c.in-Choice.names c.in-Choice.condition c.in-Choice.skips c.in-Choice.taken c.in-Choice.other
    c.items.result.now c.items-in-Choice.result.now c.in-Choice.is c.items.ensures c.items-in-Choice.ensures in
    let fits = subst (FitsAt c.args.at) is c.requires.fits in
    let ends = subst (EndsAt c.args.at) is c.requires.ends in
    let below = subst (BelowFits (scene_in c.args.scene.now)) is c.requires.below in
    (omega (arith, c.decreases, ap count is), (c.requires.scene, (fits.0, (fits.1.0, (ends.0, (ends.1.0, (below.0, below.1.0)))))))

pub cut_part-cut_turns-requires : goal.cut_part-cut_turns-requires
cut_part-cut_turns-requires t c =
    let is = is_turning c.args.part.now c.in-Turning.code c.in-Turning.names c.in-Turning.first c.in-Turning.turns c.in-Turning.head
    c.in-Turning.before c.in-Turning.body c.in-Turning.behind c.items-in-Turning.result.now c.in-Turning.is c.items-in-Turning.ensures in
    let fits = subst (FitsAt c.args.at) is c.requires.fits in
    let ends = subst (EndsAt c.args.at) is c.requires.ends in
    let below = subst (BelowFits (scene_in c.args.scene.now)) is c.requires.below in
    (omega (arith, c.decreases, ap count is), (c.requires.scene, (fits.0, (ends.1.0, (ends.0, below.0)))))

pub cut_part-returns-in-Choice : goal.cut_part-returns-in-Choice
cut_part-returns-in-Choice t c =
    let is = is_choice c.args.part.now c.in-Choice.code c.in-Choice.names c.in-Choice.condition c.in-Choice.skips c.in-Choice.taken c.in-Choice.other
    c.items.result.now c.items-in-Choice.result.now c.in-Choice.is c.items.ensures c.items-in-Choice.ensures in
    if_more {Q = λ bill. bill.items ≡ cut_part_bill (scene_in c.args.scene.now) (stubs_in c.args.scene.now c.args.task) (calls_of c.args.known.now) c.args.at (part_of c.args.part.now)} c.cut_choice.result
    (λ bill told. cut_is (scene_in c.args.scene.now) (calls_of c.args.known.now) (stubs_in c.args.scene.now c.args.task) c.args.at _ _ bill.items is told) c.cut_choice.ensures

pub cut_part-returns-in-Turning : goal.cut_part-returns-in-Turning
cut_part-returns-in-Turning t c =
    let is = is_turning c.args.part.now c.in-Turning.code c.in-Turning.names c.in-Turning.first c.in-Turning.turns c.in-Turning.head
    c.in-Turning.before c.in-Turning.body c.in-Turning.behind c.items-in-Turning.result.now c.in-Turning.is c.items-in-Turning.ensures in
    if_more {Q = λ bill. bill.items ≡ cut_part_bill (scene_in c.args.scene.now) (stubs_in c.args.scene.now c.args.task) (calls_of c.args.known.now) c.args.at (part_of c.args.part.now)} c.cut_turns.result
    (λ bill told. cut_is (scene_in c.args.scene.now) (calls_of c.args.known.now) (stubs_in c.args.scene.now c.args.task) c.args.at _ _ bill.items is told) c.cut_turns.ensures

pub alone-parted-requires : goal.alone-parted-requires
alone-parted-requires t c =
    let b = edge_of c.no_edge-edge.result in
    let o = parts_of c.args.parts.now in
    let size : c.args.at ≡ c.args.at + size_of b.pieces = (let none = ap (λ (x : Edge). size_of x.pieces) c.no_edge-edge.ensures in omega (arith, none)) in (
      omega (arith, c.decreases),
      (
        c.requires.scene,
        (
          alone_place c.args.at b o c.no_edge-edge.ensures c.requires.fits,
          (alone_fits c.args.at b o c.no_edge-edge.ensures c.requires.fits, (subst (λ k. EndsAt k o) size c.requires.ends, c.requires.below)),
        ),
      ),
    )

pub alone-returns : goal.alone-returns
alone-returns t c =
    let e = scene_in c.args.scene.now in
    let s = stubs_in c.args.scene.now c.args.task in
    let known = calls_of c.args.known.now in
    let o = parts_of c.args.parts.now in
    let none : c.args.at + size_of no_pieces ≡ c.args.at = omega arith in
    if_more {Q = λ bill. bill.items ≡ alone_bill e s known c.args.at o} c.parted.result
    (λ n told. told ∙ (λ i. parted_bill e s known c.args.at (c.no_edge-edge.ensures i) (c.no_edge-edge.ensures i) o)
    ∙ ap (λ k. first_passage e known c.args.at no_edge no_edge o ++ closed_bill e s known no_edge k o) none) c.parted.ensures

pub parted-end_of-place-requires : goal.parted-end_of-place-requires
parted-end_of-place-requires t c = let size = between_size (edge_of c.args.before.now) (edge_of c.args.last.now) (parts_of c.args.parts.now) in omega (arith, c.requires.place, size)

pub parted-start_of-place-requires : goal.parted-start_of-place-requires
parted-start_of-place-requires t c =
    part_room (scene_in c.args.scene.now) (edge_of c.args.last.now) c.args.parts.now (c.args.at + size_of (pieces_of c.args.before.now.pieces.now))
    c.back.n (c.back.n - 1) c.back.place c.back.until (edge_of c.back.edge)
    c.back.invariant.count c.index-parts-n.result c.back.invariant.counted c.requires.fits (omega (arith, c.back-test.true))
    (omega (arith, c.back-test.true, c.back.invariant.counted.low, c.back.invariant.counted.high)) c.index-parts-n.is

pub parted-cut_part-requires : goal.parted-cut_part-requires
parted-cut_part-requires t c =
    let e = scene_in c.args.scene.now in
    let l = edge_of c.args.last.now in
    let ps = c.args.parts.now in
    let start = c.args.at + size_of (pieces_of c.args.before.now.pieces.now) in
    let n = c.back.n - 1 in
    let p = c.index-parts-n.result in
    let x = edge_of c.back.edge in
    let k = c.back.invariant.count in
    let one = (let same : c.back.n ≡ n + 1 = omega (arith, c.back-test.true) in same) in
    let here = (let less : n < length ps = omega (arith, c.back-test.true, c.back.invariant.counted.low, c.back.invariant.counted.high) in less) in
    let room = part_room e l ps start c.back.n n c.back.place c.back.until x k p c.back.invariant.counted c.requires.fits one here c.index-parts-n.is in
    let stands = (let same : c.start_of-place.result + size_of (part_code p) ≡ c.back.place = omega (arith, room, c.start_of-place.ensures) in same) in (
      omega (arith, c.decreases, count_item ps n p here c.index-parts-n.is),
      (
        c.requires.scene,
        (
          part_fits e l ps start c.back.n n c.back.place c.back.until x k p c.back.invariant.counted c.requires.fits c.start_of-place.result one here c.index-parts-n.is stands,
          (
            part_ends e l ps start c.back.n n c.back.place c.back.until x k p c.back.invariant.counted c.requires.ends c.start_of-place.result one here c.index-parts-n.is stands,
            part_below e l ps start c.back.n n c.back.place c.back.until x k p c.back.invariant.counted c.requires.fits here c.index-parts-n.is c.requires.below,
          ),
        ),
      ),
    )

pub parted-behind_cut-requires-clause-place : goal.parted-behind_cut-requires-clause-place
parted-behind_cut-requires-clause-place t c =
    let e = scene_in c.args.scene.now in
    let l = edge_of c.args.last.now in
    let ps = c.args.parts.now in
    let start = c.args.at + size_of (pieces_of c.args.before.now.pieces.now) in
    let n = c.back.n - 1 in
    let p = c.index-parts-n.result in
    let x = edge_of c.back.edge in
    let k = c.back.invariant.count in
    let one = (let same : c.back.n ≡ n + 1 = omega (arith, c.back-test.true) in same) in
    let here = (let less : n < length ps = omega (arith, c.back-test.true, c.back.invariant.counted.low, c.back.invariant.counted.high) in less) in
    let room = part_room e l ps start c.back.n n c.back.place c.back.until x k p c.back.invariant.counted c.requires.fits one here c.index-parts-n.is in
    let stands = (let same : c.start_of-place.result + size_of (part_code p) ≡ c.back.place = omega (arith, room, c.start_of-place.ensures) in same) in
    let whole = between_size (edge_of c.args.before.now) l (parts_of ps) in
    front_place e l ps start c.back.n n c.back.place c.back.until x k p c.back.invariant.counted c.requires.fits c.start_of-place.result (parts_of (take (c.back.until - (n + 1)) (drop (n + 1) ps)))
    (part_fits e l ps start c.back.n n c.back.place c.back.until x k p c.back.invariant.counted c.requires.fits c.start_of-place.result one here c.index-parts-n.is stands) stands
    (ap (λ j. parts_of (take (c.back.until - j) (drop j ps))) (sym one)) (omega (arith, c.requires.place, whole))

pub parted-behind_cut-requires-clause-fits : goal.parted-behind_cut-requires-clause-fits
parted-behind_cut-requires-clause-fits t c =
    let e = scene_in c.args.scene.now in
    let l = edge_of c.args.last.now in
    let ps = c.args.parts.now in
    let start = c.args.at + size_of (pieces_of c.args.before.now.pieces.now) in
    let n = c.back.n - 1 in
    let p = c.index-parts-n.result in
    let x = edge_of c.back.edge in
    let k = c.back.invariant.count in
    let one = (let same : c.back.n ≡ n + 1 = omega (arith, c.back-test.true) in same) in
    let here = (let less : n < length ps = omega (arith, c.back-test.true, c.back.invariant.counted.low, c.back.invariant.counted.high) in less) in
    let room = part_room e l ps start c.back.n n c.back.place c.back.until x k p c.back.invariant.counted c.requires.fits one here c.index-parts-n.is in
    let stands = (let same : c.start_of-place.result + size_of (part_code p) ≡ c.back.place = omega (arith, room, c.start_of-place.ensures) in same) in
    front_stands e l ps start c.back.n n c.back.place c.back.until x k p c.back.invariant.counted c.requires.fits c.start_of-place.result (parts_of (take (c.back.until - (n + 1)) (drop (n + 1) ps)))
    (part_fits e l ps start c.back.n n c.back.place c.back.until x k p c.back.invariant.counted c.requires.fits c.start_of-place.result one here c.index-parts-n.is stands) stands
    (ap (λ j. parts_of (take (c.back.until - j) (drop j ps))) (sym one))

pub parted-behind_cut-requires-clause-ends : goal.parted-behind_cut-requires-clause-ends
parted-behind_cut-requires-clause-ends t c =
    let e = scene_in c.args.scene.now in
    let l = edge_of c.args.last.now in
    let ps = c.args.parts.now in
    let start = c.args.at + size_of (pieces_of c.args.before.now.pieces.now) in
    let n = c.back.n - 1 in
    let p = c.index-parts-n.result in
    let x = edge_of c.back.edge in
    let k = c.back.invariant.count in
    let one = (let same : c.back.n ≡ n + 1 = omega (arith, c.back-test.true) in same) in
    let here = (let less : n < length ps = omega (arith, c.back-test.true, c.back.invariant.counted.low, c.back.invariant.counted.high) in less) in
    let room = part_room e l ps start c.back.n n c.back.place c.back.until x k p c.back.invariant.counted c.requires.fits one here c.index-parts-n.is in
    let stands = (let same : c.start_of-place.result + size_of (part_code p) ≡ c.back.place = omega (arith, room, c.start_of-place.ensures) in same) in
    front_stands_ends e l ps start c.back.n n c.back.place c.back.until x k p c.back.invariant.counted c.requires.ends c.start_of-place.result (parts_of (take (c.back.until - (n + 1)) (drop (n + 1) ps)))
    (part_fits e l ps start c.back.n n c.back.place c.back.until x k p c.back.invariant.counted c.requires.fits c.start_of-place.result one here c.index-parts-n.is stands) stands
    (ap (λ j. parts_of (take (c.back.until - j) (drop j ps))) (sym one))

pub parted-passing-edge-requires : goal.parted-passing-edge-requires
parted-passing-edge-requires t c =
    part_below (scene_in c.args.scene.now) (edge_of c.args.last.now) c.args.parts.now (c.args.at + size_of (pieces_of c.args.before.now.pieces.now))
    c.back.n (c.back.n - 1) c.back.place c.back.until (edge_of c.back.edge)
    c.back.invariant.count c.index-parts-n.result c.back.invariant.counted c.requires.fits (omega (arith, c.back-test.true, c.back.invariant.counted.low, c.back.invariant.counted.high)) c.index-parts-n.is c.requires.below

pub parted-back-init : goal.parted-back-init
parted-back-init t c =
    let e = scene_in c.args.scene.now in
    let start = c.args.at + size_of (pieces_of c.args.before.now.pieces.now) in
    closed_none e (stubs_in c.args.scene.now c.args.task) (calls_of c.args.known.now) (edge_of c.args.last.now) c.args.parts.now start _ _ _ _ _ refl refl c.end_of-place.ensures refl (ap (λ bs. from_last (bills_in bs)) c.new-behind.ensures.items)

pub parted-back-preserved-then-cuts : goal.parted-back-preserved-then-cuts
parted-back-preserved-then-cuts t c =
    let e = scene_in c.args.scene.now in
    let s = stubs_in c.args.scene.now c.args.task in
    let known = calls_of c.args.known.now in
    let l = edge_of c.args.last.now in
    let ps = c.args.parts.now in
    let start = c.args.at + size_of (pieces_of c.args.before.now.pieces.now) in
    let n = c.back.n - 1 in
    let p = c.index-parts-n.result in
    let x = edge_of c.back.edge in
    let k = c.back.invariant.count in
    let one = (let same : c.back.n ≡ n + 1 = omega (arith, c.back-test.true) in same) in
    let here = (let less : n < length ps = omega (arith, c.back-test.true, c.back.invariant.counted.low, c.back.invariant.counted.high) in less) in
    let room = part_room e l ps start c.back.n n c.back.place c.back.until x k p c.back.invariant.counted c.requires.fits one here c.index-parts-n.is in
    let stands = (let same : c.start_of-place.result + size_of (part_code p) ≡ c.back.place = omega (arith, room, c.start_of-place.ensures) in same) in
    let from = landing_place c.start_of-place.result (part_of p) in
    let most = passage_bill e known from (landing_edge (part_of p)) (parts_of (take (c.back.until - (n + 1)) (drop (n + 1) ps))) x in
    let made = block_more c.back.behind.items c.push.new.self.items c.in_ok-bill.bill c.in_ok-cut.cut.items most c.in_ok-push.ensures.items c.in_ok-bill.ensures in
    closed_at e s known l ps start c.back.n n c.back.place c.start_of-place.result c.back.until x (edge_of c.passing-edge.result) (from_last (bills_in c.back.behind.items)) c.in_ok-cut.cut.items (from_last (bills_in c.push.new.self.items))
    (parts_of (take (c.back.until - (n + 1)) (drop (n + 1) ps))) p one here c.index-parts-n.is (sym c.if-cuts.ensures) stands c.passing-edge.ensures c.in_ok-cut.ensures
    (ap (λ j. parts_of (take (c.back.until - j) (drop j ps))) (sym one)) made c.back.invariant

pub parted-back-preserved : goal.parted-back-preserved
parted-back-preserved t c =
    let e = scene_in c.args.scene.now in
    let s = stubs_in c.args.scene.now c.args.task in
    let known = calls_of c.args.known.now in
    let l = edge_of c.args.last.now in
    let ps = c.args.parts.now in
    let start = c.args.at + size_of (pieces_of c.args.before.now.pieces.now) in
    let n = c.back.n - 1 in
    let p = c.index-parts-n.result in
    let x = edge_of c.back.edge in
    let k = c.back.invariant.count in
    let one = (let same : c.back.n ≡ n + 1 = omega (arith, c.back-test.true) in same) in
    let here = (let less : n < length ps = omega (arith, c.back-test.true, c.back.invariant.counted.low, c.back.invariant.counted.high) in less) in
    let room = part_room e l ps start c.back.n n c.back.place c.back.until x k p c.back.invariant.counted c.requires.fits one here c.index-parts-n.is in
    let stands = (let same : c.start_of-place.result + size_of (part_code p) ≡ c.back.place = omega (arith, room, c.start_of-place.ensures) in same) in
    closed_before e s known l ps start c.back.n n c.back.place c.start_of-place.result c.back.until x (from_last (bills_in c.back.behind.items)) p one here c.index-parts-n.is (sym c.if-cuts.ensures) stands c.back.invariant

pub parted-passage-requires-clause-place : goal.parted-passage-requires-clause-place
parted-passage-requires-clause-place t c =
    let start = c.args.at + size_of (pieces_of c.args.before.now.pieces.now) in
    first_place (scene_in c.args.scene.now) (edge_of c.args.last.now) c.args.parts.now start c.back.n c.back.place c.back.until (edge_of c.back.edge) c.back.invariant.count c.back.invariant.counted
    (let none : c.back.n ≡ 0 = omega (arith, c.back-test.false) in none) c.args.at (edge_of c.args.before.now) refl c.requires.fits c.requires.place

pub parted-passage-requires-clause-fits : goal.parted-passage-requires-clause-fits
parted-passage-requires-clause-fits t c =
    let start = c.args.at + size_of (pieces_of c.args.before.now.pieces.now) in
    first_fits (scene_in c.args.scene.now) (edge_of c.args.last.now) c.args.parts.now start c.back.n c.back.place c.back.until (edge_of c.back.edge) c.back.invariant.count c.back.invariant.counted
    (let none : c.back.n ≡ 0 = omega (arith, c.back-test.false) in none) c.requires.fits

pub parted-passage-requires-clause-ends : goal.parted-passage-requires-clause-ends
parted-passage-requires-clause-ends t c =
    let start = c.args.at + size_of (pieces_of c.args.before.now.pieces.now) in
    first_ends (scene_in c.args.scene.now) (edge_of c.args.last.now) c.args.parts.now start c.back.n c.back.place c.back.until (edge_of c.back.edge) c.back.invariant.count c.back.invariant.counted
    (let none : c.back.n ≡ 0 = omega (arith, c.back-test.false) in none) c.requires.ends

pub parted-returns : goal.parted-returns
parted-returns t c =
    closed_all (scene_in c.args.scene.now) (stubs_in c.args.scene.now c.args.task) (calls_of c.args.known.now) c.args.at c.back.place c.back.n c.back.until (edge_of c.args.before.now)
    (edge_of c.args.last.now) (edge_of c.back.edge) c.args.parts.now (parts_of (take c.back.until c.args.parts.now)) c.in_ok-all.all.items (from_last (bills_in c.back.behind.items)) _
    (let none : c.back.n ≡ 0 = omega (arith, c.back-test.false) in none) refl c.in_ok-all.ensures
    (c.in_ok-append_back.ensures ∙ ap (λ bs. c.in_ok-all.all.items ++ from_last (bills_in bs)) c.deref.ensures.value) c.back.invariant
