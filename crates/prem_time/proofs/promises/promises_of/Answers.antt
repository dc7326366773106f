use Rattle.std.proofs.Common.{◌∙◌}
use Rattle.prem_tasks.specs.SetOf.{set_of}
use Rattle.prem_time.specs.Asked.{distances_in}
use Rattle.prem_time.proofs.DevicesAre.{are_named}
use Rattle.prem_time.proofs.PromisesAre.{promises_few, promises_lent}
use Rattle.prem_time.proofs.Stages.{told_devices, told_loads}
use Rattle.prem_time.proofs.promises.promises_of.Goals as goal

pub tops_of-requires : goal.tops_of-requires
tops_of-requires c = are_named (distances_in c.args.distances.now) c.devices-devices.result.now c.in_ok-bus.bus c.requires.distances c.devices-devices.ensures.ranges c.in_ok-bus.ensures

pub promises_by-requires-clause-loads : goal.promises_by-requires-clause-loads
promises_by-requires-clause-loads c =
    told_loads (set_of c.args.set.now) (distances_in c.args.distances.now)
    c.devices-devices.result.now c.in_ok-bus.bus c.deref.result.now c.in-Ok.timed c.devices-devices.ensures.devices c.in_ok-bus.ensures
    (c.deref.ensures.value ∙ c.in_ok-tops.ensures) c.in-Ok.ensures

pub promises_by-requires-clause-devices : goal.promises_by-requires-clause-devices
promises_by-requires-clause-devices c =
    told_devices (set_of c.args.set.now) (distances_in c.args.distances.now)
    c.devices-devices.result.now c.in_ok-bus.bus c.deref.result.now c.in-Ok.timed c.devices-devices.ensures.devices c.in_ok-bus.ensures
    (c.deref.ensures.value ∙ c.in_ok-tops.ensures) c.in-Ok.ensures c.requires.distances c.devices-devices.ensures.ranges

pub returns-in-Ok-clause-promises : goal.returns-in-Ok-clause-promises
returns-in-Ok-clause-promises c =
    promises_lent (set_of c.args.set.now) (distances_in c.args.distances.now) c.devices-devices.result.now c.in_ok-bus.bus c.deref.result.now c.in-Ok.timed c.in_ok-all-in-Ok.all.items
    c.devices-devices.ensures.devices c.in_ok-bus.ensures (c.deref.ensures.value ∙ c.in_ok-tops.ensures) c.in-Ok.ensures c.in_ok-all-in-Ok.ensures

pub returns-in-Ok-clause-few : goal.returns-in-Ok-clause-few
returns-in-Ok-clause-few c =
    promises_few (set_of c.args.set.now) (distances_in c.args.distances.now) c.devices-devices.result.now c.in_ok-all-in-Ok.all.items c.devices-devices.ensures.devices c.devices-devices.ensures.ranges
    (promises_lent (set_of c.args.set.now) (distances_in c.args.distances.now) c.devices-devices.result.now c.in_ok-bus.bus c.deref.result.now c.in-Ok.timed c.in_ok-all-in-Ok.all.items
    c.devices-devices.ensures.devices c.in_ok-bus.ensures (c.deref.ensures.value ∙ c.in_ok-tops.ensures) c.in-Ok.ensures c.in_ok-all-in-Ok.ensures)
