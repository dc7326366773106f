use Rattle.std.proofs.Common.{refl, ap, ◌∙◌, sym, arith, drop, ◌+◌}
use Rattle.prem_list.specs.Sequence.{items_of}
use Rattle.prem_wcet.specs.Once.{with_names, with_code, with_touched}
use Rattle.prem_wcet.specs.PartsOf.{parts_of}
use Rattle.prem_wcet.specs.SceneOf.{scene_in}
use Rattle.prem_wcet.proofs.PartRows.{count, is_choice, is_turning, drop_part, count_item, code_before, touched_before}
use Rattle.prem_wcet.proofs.Outcomes.{on_more}
use Rattle.prem_wcet.proofs.scene.+ranges.Goals as goal

pub add_part-add_parts-requires : goal.add_part-add_parts-requires
add_part-add_parts-requires t c =
    let is = is_choice c.args.part.now c.in-Choice.code c.in-Choice.names c.in-Choice.condition c.in-Choice.skips c.in-Choice.taken c.in-Choice.other
    c.items-in-Choice-2.result.now (items_of c.in-Choice.other) c.in-Choice.is c.items-in-Choice-2.ensures refl in
    (omega (arith, c.decreases, ap count is), c.requires)

pub add_part-add_parts-requires-in-Choice : goal.add_part-add_parts-requires-in-Choice
add_part-add_parts-requires-in-Choice t c =
    let is = is_choice c.args.part.now c.in-Choice.code c.in-Choice.names c.in-Choice.condition c.in-Choice.skips c.in-Choice.taken c.in-Choice.other
    c.items-in-Choice-2.result.now c.items-in-Choice-3.result.now c.in-Choice.is c.items-in-Choice-2.ensures c.items-in-Choice-3.ensures in
    (omega (arith, c.decreases, ap count is), c.requires)

pub add_part-add_parts-requires-in-Turning : goal.add_part-add_parts-requires-in-Turning
add_part-add_parts-requires-in-Turning t c =
    let is = is_turning c.args.part.now c.in-Turning.code c.in-Turning.names c.in-Turning.first c.in-Turning.turns c.in-Turning.head
    c.in-Turning.before c.in-Turning.body c.in-Turning.behind c.items-in-Turning-2.result.now c.in-Turning.is c.items-in-Turning-2.ensures in
    (omega (arith, c.decreases, ap count is), c.requires)

pub add_parts-add_part-requires : goal.add_parts-add_part-requires
add_parts-add_part-requires t c = (omega (arith, c.decreases, count_item c.args.parts.now c.loop-part.part-index c.part-item.result c.loop-part-test.true c.part-item.is), c.requires)

pub add_parts-loop-part-preserved : goal.add_parts-loop-part-preserved
add_parts-loop-part-preserved t c =
    let e = scene_in c.args.scene.now in
    let i = c.loop-part.part-index in
    let d = drop_part c.args.parts.now i c.part-item.result c.loop-part-test.true c.part-item.is in
    let rest = parts_of (drop (i + 1) c.args.parts.now) in
    record {
      code =
          ap (λ rs. with_code e rs rest) c.in_ok-add_part.ensures.code
          ∙ sym (ap (with_code e c.loop-part.ranges.code.items) d ∙ code_before e c.loop-part.ranges.code.items c.part-item.result rest)
          ∙ c.loop-part.invariant.code;
      touched =
          ap (λ rs. with_touched e rs rest) c.in_ok-add_part.ensures.touched
          ∙ sym (ap (with_touched e c.loop-part.ranges.touched.items) d ∙ touched_before e c.loop-part.ranges.touched.items c.part-item.result rest)
          ∙ c.loop-part.invariant.touched;
    }

pub add_part-returns-in_ok-add_parts-in-Choice-clause-code : goal.add_part-returns-in_ok-add_parts-in-Choice-clause-code
add_part-returns-in_ok-add_parts-in-Choice-clause-code t c =
    let e = scene_in c.args.scene.now in
    let is = is_choice c.args.part.now c.in-Choice.code c.in-Choice.names c.in-Choice.condition c.in-Choice.skips c.in-Choice.taken c.in-Choice.other
    c.items-in-Choice-2.result.now c.items-in-Choice-3.result.now c.in-Choice.is c.items-in-Choice-2.ensures c.items-in-Choice-3.ensures in
    on_more c.add_parts-in-Choice.result
    (λ x. x ∙ ap (λ rs. with_code e rs (parts_of c.items-in-Choice-3.result.now)) c.in_ok-add_parts-in-Choice.ensures.code ∙ sym (ap (with_code e c.args.ranges.now.code.items) is))
    c.add_parts-in-Choice.ensures.code

pub add_part-returns-in_ok-add_parts-in-Choice-clause-touched : goal.add_part-returns-in_ok-add_parts-in-Choice-clause-touched
add_part-returns-in_ok-add_parts-in-Choice-clause-touched t c =
    let e = scene_in c.args.scene.now in
    let is = is_choice c.args.part.now c.in-Choice.code c.in-Choice.names c.in-Choice.condition c.in-Choice.skips c.in-Choice.taken c.in-Choice.other
    c.items-in-Choice-2.result.now c.items-in-Choice-3.result.now c.in-Choice.is c.items-in-Choice-2.ensures c.items-in-Choice-3.ensures in
    on_more c.add_parts-in-Choice.result
    (λ x. x
    ∙ ap (λ rs. with_touched e rs (parts_of c.items-in-Choice-3.result.now))
    (c.in_ok-add_parts-in-Choice.ensures.touched
    ∙ ap (λ rs. with_touched e rs (parts_of c.items-in-Choice-2.result.now)) (c.in_ok-add_names-in-Choice.ensures ∙ ap (with_names e c.args.ranges.now.touched.items) c.items-in-Choice.ensures))
    ∙ sym (ap (with_touched e c.args.ranges.now.touched.items) is))
    c.add_parts-in-Choice.ensures.touched

pub add_part-returns-in_ok-add_names-in-Turning-clause-code : goal.add_part-returns-in_ok-add_names-in-Turning-clause-code
add_part-returns-in_ok-add_names-in-Turning-clause-code t c =
    let e = scene_in c.args.scene.now in
    let is = is_turning c.args.part.now c.in-Turning.code c.in-Turning.names c.in-Turning.first c.in-Turning.turns c.in-Turning.head
    c.in-Turning.before c.in-Turning.body c.in-Turning.behind c.items-in-Turning-2.result.now c.in-Turning.is c.items-in-Turning-2.ensures in
    on_more c.add_parts-in-Turning.result (λ x. x ∙ sym (ap (with_code e c.args.ranges.now.code.items) is)) c.add_parts-in-Turning.ensures.code

pub add_part-returns-in_ok-add_names-in-Turning-clause-touched : goal.add_part-returns-in_ok-add_names-in-Turning-clause-touched
add_part-returns-in_ok-add_names-in-Turning-clause-touched t c =
    let e = scene_in c.args.scene.now in
    let is = is_turning c.args.part.now c.in-Turning.code c.in-Turning.names c.in-Turning.first c.in-Turning.turns c.in-Turning.head
    c.in-Turning.before c.in-Turning.body c.in-Turning.behind c.items-in-Turning-2.result.now c.in-Turning.is c.items-in-Turning-2.ensures in
    on_more c.add_parts-in-Turning.result
    (λ x. x ∙ ap (λ rs. with_touched e rs (parts_of c.items-in-Turning-2.result.now))
    (c.in_ok-add_names-in-Turning.ensures ∙ ap (with_names e c.args.ranges.now.touched.items) c.items-in-Turning.ensures)
    ∙ sym (ap (with_touched e c.args.ranges.now.touched.items) is))
    c.add_parts-in-Turning.ensures.touched
