use Rattle.std.proofs.Common.{◌∙◌, map, sym, subst}
use Rattle.prem_list.specs.Sequence.{items_of}
use Rattle.prem_tasks.specs.Lawful.{AreDevices}
use Rattle.prem_tasks.specs.SetOf.{task_of}
use Rattle.prem_annotate_answer.proofs.noted.set_with.Goals as goal

pub joined-requires : goal.joined-requires
joined-requires c = record {
  plant_is = c.plant-plant.ensures.ranges;
  devices_are = subst AreDevices (sym c.in_ok-copies.ensures) c.devices-devices.ensures.ranges;
  tasks_are = c.requires;
}

pub returns : goal.returns
returns c =
    let plants = c.plant-plant.ensures.plant in
    let devices = c.in_ok-copies.ensures ∙ c.devices-devices.ensures.devices in
    c.joined.ensures ∙ (λ i. record { plant = plants i; devices = devices i; tasks = map task_of (items_of c.args.tasks) })
