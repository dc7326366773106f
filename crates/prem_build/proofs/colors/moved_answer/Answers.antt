use Rattle.std.specs.Prelude.{Result, Ok, map}
use Rattle.std.proofs.Common.{◌≡◌, ap, subst}
use Rattle.prem_color.specs.Offsets.{moved_places}
use Rattle.prem_color.specs.Told.{TellsColor}
use Rattle.prem_color.specs.WantOf.{ranges_in}
use Rattle.prem_color.specs.declared.fail.ColorFail.{ColorFail}
use Rattle.prem_tasks.specs.SetOf.{set_of, task_of}
use Rattle.prem_answer.specs.Stages.{Reply, reply_of}
use Rattle.prem_exec.proofs.SourcesLemmas.Passing.{comes_as}
use Rattle.prem_build.specs.Colors.{found_places, moved_reply, placed_reply}
use Rattle.prem_build.proofs.Moving.{ranges_lie, places_lawful, placed_is, stuck_is, full_is}
use Rattle.prem_build.proofs.colors.moved_answer.Goals as goal

abbrev answered : Reply → Result Reply Reply
answered reply = Ok reply

pub color-requires-clause-lie : goal.color-requires-clause-lie
color-requires-clause-lie c =
    ranges_lie (set_of c.args.set.now) c.args.parts.now c.requires c.items.result.now c.items-2.result.now c.plant.result.now c.items.ensures c.items-2.ensures c.plant.ensures.plant

pub placed_answer-requires : goal.placed_answer-requires
placed_answer-requires c =
    places_lawful (set_of c.args.set.now) c.args.parts.now c.requires c.items.result.now c.items-2.result.now c.plant.result.now c.items.ensures c.items-2.ensures c.plant.ensures.plant
    c.in-Ok.layout c.plant.ensures.ranges c.in-Ok.ensures.places

pub returns-in-Ok-clause-answer : goal.returns-in-Ok-clause-answer
returns-in-Ok-clause-answer c =
    let set = set_of c.args.set.now in
    comes_as reply_of (λ given. given ≡ Ok (placed_reply set c.in-Ok.layout)) (λ given. given ≡ Ok (moved_reply set (found_places set))) c.placed_answer.result
    (λ given is. placed_is set c.args.parts.now c.requires c.items.result.now c.items-2.result.now c.plant.result.now c.items.ensures
    c.items-2.ensures c.plant.ensures.plant c.in-Ok.layout given c.plant.ensures.ranges c.in-Ok.ensures.places is)
    c.placed_answer.ensures.answer

pub returns-in_ok-stuck-in-Err-NoOffset-clause-answer : goal.returns-in_ok-stuck-in-Err-NoOffset-clause-answer
returns-in_ok-stuck-in-Err-NoOffset-clause-answer c =
    let found = moved_places c.plant.result.now (ranges_in c.items-2.result.now) c.items.result.now in
    let fails = subst (λ (f : ColorFail). TellsColor c.plant.result.now.memory found f) c.in-Err-NoOffset.field-0-is c.in-Err-NoOffset.ensures.fails in
    ap answered
    (stuck_is (set_of c.args.set.now) c.args.parts.now c.requires c.items.result.now c.items-2.result.now c.plant.result.now c.items.ensures c.items-2.ensures c.plant.ensures.plant
    c.in-Err-NoOffset.part (map task_of c.tasks-tasks.result.now) (reply_of c.in_ok-stuck-in-Err-NoOffset.field-0) fails c.tasks-tasks.ensures.tasks c.in_ok-stuck-in-Err-NoOffset.ensures)

pub returns-in_ok-full-in-Err-MemoryFull-clause-answer : goal.returns-in_ok-full-in-Err-MemoryFull-clause-answer
returns-in_ok-full-in-Err-MemoryFull-clause-answer c =
    let found = moved_places c.plant.result.now (ranges_in c.items-2.result.now) c.items.result.now in
    let fails = subst (λ (f : ColorFail). TellsColor c.plant.result.now.memory found f) c.in-Err-MemoryFull.field-0-is c.in-Err-MemoryFull.ensures.fails in
    ap answered
    (full_is (set_of c.args.set.now) c.args.parts.now c.requires c.items.result.now c.items-2.result.now c.plant.result.now c.items.ensures c.items-2.ensures c.plant.ensures.plant
    c.in-Err-MemoryFull.need c.in-Err-MemoryFull.have (map task_of c.tasks-tasks.result.now) (reply_of c.in_ok-full-in-Err-MemoryFull.field-0) fails c.tasks-tasks.ensures.tasks
    c.in_ok-full-in-Err-MemoryFull.ensures)
