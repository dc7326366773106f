use Rattle.std.proofs.Common.{refl, ap, ◌∙◌, sym, ◌||◌, ◌+◌, arith, drop}
use Rattle.prem_list.specs.Sequence.{items_of}
use Rattle.prem_wcet.specs.Outlines.{cut_in}
use Rattle.prem_wcet.specs.PartsOf.{parts_of}
use Rattle.prem_wcet.specs.SceneOf.{scene_in}
use Rattle.prem_wcet.proofs.PartRows.{count, is_choice, is_turning, drop_part, count_item, cut_before, choice_cut, turn_cut}
use Rattle.prem_wcet.proofs.scene.+cuts.Goals as goal

pub any_cuts-cuts-requires : goal.any_cuts-cuts-requires
any_cuts-cuts-requires t c = (omega (arith, c.decreases, count_item c.args.parts.now c.loop-part.part-index c.part-item.result c.loop-part-test.true c.part-item.is), c.requires)

pub any_cuts-returns-then-cuts : goal.any_cuts-returns-then-cuts
any_cuts-returns-then-cuts t c =
    let e = scene_in c.args.scene.now in
    let rest = parts_of (drop (c.loop-part.part-index + 1) c.args.parts.now) in
    let d = drop_part c.args.parts.now c.loop-part.part-index c.part-item.result c.loop-part-test.true c.part-item.is in
    ap (λ b. b || cut_in e rest) c.if-cuts.ensures ∙ sym (ap (cut_in e) d ∙ cut_before e c.part-item.result rest) ∙ c.loop-part.invariant

pub any_cuts-loop-part-preserved : goal.any_cuts-loop-part-preserved
any_cuts-loop-part-preserved t c =
    let e = scene_in c.args.scene.now in
    let rest = parts_of (drop (c.loop-part.part-index + 1) c.args.parts.now) in
    let d = drop_part c.args.parts.now c.loop-part.part-index c.part-item.result c.loop-part-test.true c.part-item.is in
    ap (λ b. b || cut_in e rest) c.if-cuts.ensures ∙ sym (ap (cut_in e) d ∙ cut_before e c.part-item.result rest) ∙ c.loop-part.invariant

pub cuts-any_cuts-requires : goal.cuts-any_cuts-requires
cuts-any_cuts-requires t c =
    let is = is_choice c.args.part.now c.in-Choice.code c.in-Choice.names c.in-Choice.condition c.in-Choice.skips c.in-Choice.taken c.in-Choice.other
    c.items.result.now (items_of c.in-Choice.other) c.in-Choice.is c.items.ensures refl in
    (omega (arith, c.decreases, ap count is), c.requires)

pub cuts-any_cuts-requires-else-any_cuts : goal.cuts-any_cuts-requires-else-any_cuts
cuts-any_cuts-requires-else-any_cuts t c =
    let is = is_choice c.args.part.now c.in-Choice.code c.in-Choice.names c.in-Choice.condition c.in-Choice.skips c.in-Choice.taken c.in-Choice.other
    c.items.result.now c.items-else-any_cuts.result.now c.in-Choice.is c.items.ensures c.items-else-any_cuts.ensures in
    (omega (arith, c.decreases, ap count is), c.requires)

pub cuts-any_cuts-requires-in-Turning : goal.cuts-any_cuts-requires-in-Turning
cuts-any_cuts-requires-in-Turning t c =
    let is = is_turning c.args.part.now c.in-Turning.code c.in-Turning.names c.in-Turning.first c.in-Turning.turns c.in-Turning.head
    c.in-Turning.before c.in-Turning.body c.in-Turning.behind c.items-in-Turning.result.now c.in-Turning.is c.items-in-Turning.ensures in
    (omega (arith, c.decreases, ap count is), c.requires)

pub cuts-returns-then-any_cuts : goal.cuts-returns-then-any_cuts
cuts-returns-then-any_cuts t c =
    let e = scene_in c.args.scene.now in
    let is = is_choice c.args.part.now c.in-Choice.code c.in-Choice.names c.in-Choice.condition c.in-Choice.skips c.in-Choice.taken c.in-Choice.other
    c.items.result.now (items_of c.in-Choice.other) c.in-Choice.is c.items.ensures refl in
    c.if-any_cuts.true ∙ ap (λ b. b || cut_in e (parts_of (items_of c.in-Choice.other))) c.if-any_cuts.ensures
    ∙ sym (ap (cut_in e) is ∙ choice_cut e (parts_of c.items.result.now) (parts_of (items_of c.in-Choice.other)))

pub cuts-returns-else-any_cuts : goal.cuts-returns-else-any_cuts
cuts-returns-else-any_cuts t c =
    let e = scene_in c.args.scene.now in
    let is = is_choice c.args.part.now c.in-Choice.code c.in-Choice.names c.in-Choice.condition c.in-Choice.skips c.in-Choice.taken c.in-Choice.other
    c.items.result.now c.items-else-any_cuts.result.now c.in-Choice.is c.items.ensures c.items-else-any_cuts.ensures in
    c.any_cuts-else-any_cuts.ensures ∙ ap (λ b. b || cut_in e (parts_of c.items-else-any_cuts.result.now)) c.if-any_cuts.ensures
    ∙ sym (ap (cut_in e) is ∙ choice_cut e (parts_of c.items.result.now) (parts_of c.items-else-any_cuts.result.now))

pub cuts-returns-in-Turning : goal.cuts-returns-in-Turning
cuts-returns-in-Turning t c =
    let e = scene_in c.args.scene.now in
    let is = is_turning c.args.part.now c.in-Turning.code c.in-Turning.names c.in-Turning.first c.in-Turning.turns c.in-Turning.head
    c.in-Turning.before c.in-Turning.body c.in-Turning.behind c.items-in-Turning.result.now c.in-Turning.is c.items-in-Turning.ensures in
    c.any_cuts-in-Turning.ensures ∙ sym (ap (cut_in e) is ∙ turn_cut e (parts_of c.items-in-Turning.result.now))
