use Rattle.std.specs.Prelude.{Ok}
use Rattle.std.proofs.Common.{ap, ◌∙◌}
use Rattle.prem_tasks.specs.SetOf.{set_of}
use Rattle.prem_answer.specs.Stages.{reply_of}
use Rattle.prem_time.specs.Asked.{distances_in}
use Rattle.prem_time.proofs.DevicesAre.{are_named}
use Rattle.prem_time.proofs.Stages.{told_devices, told_loads, told_reply}
use Rattle.prem_time.proofs.answer.set_answer.Goals as goal

pub tops_of-requires : goal.tops_of-requires
tops_of-requires c = are_named (distances_in c.args.distances.now) c.devices-devices.result.now c.in_ok-bus.bus c.requires c.devices-devices.ensures.ranges c.in_ok-bus.ensures

pub named_answer-requires-clause-loads : goal.named_answer-requires-clause-loads
named_answer-requires-clause-loads c =
    told_loads (set_of c.args.set.now) (distances_in c.args.distances.now)
    c.devices-devices.result.now c.in_ok-bus.bus c.deref.result.now c.in-Ok.timed c.devices-devices.ensures.devices c.in_ok-bus.ensures
    (c.deref.ensures.value ∙ c.in_ok-tops.ensures) c.in-Ok.ensures

pub named_answer-requires-clause-devices : goal.named_answer-requires-clause-devices
named_answer-requires-clause-devices c =
    told_devices (set_of c.args.set.now) (distances_in c.args.distances.now)
    c.devices-devices.result.now c.in_ok-bus.bus c.deref.result.now c.in-Ok.timed c.devices-devices.ensures.devices c.in_ok-bus.ensures
    (c.deref.ensures.value ∙ c.in_ok-tops.ensures) c.in-Ok.ensures c.requires c.devices-devices.ensures.ranges

pub returns-in-Ok-clause-answer : goal.returns-in-Ok-clause-answer
returns-in-Ok-clause-answer c =
    ap Ok (told_reply (set_of c.args.set.now) (distances_in c.args.distances.now)
    c.devices-devices.result.now c.in_ok-bus.bus c.deref.result.now c.in-Ok.timed c.devices-devices.ensures.devices c.in_ok-bus.ensures
    (c.deref.ensures.value ∙ c.in_ok-tops.ensures) c.in-Ok.ensures (reply_of c.in_ok-named_answer-in-Ok.field-0) c.in_ok-named_answer-in-Ok.ensures)
