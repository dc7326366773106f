use Rattle.prem_list.specs.Sequence.{items_of}
use Rattle.prem_running.proofs.SampleLemmas.Lawful.{set_is_lawful}
use Rattle.prem_running.proofs.sample.trace.draw_sample.Goals as goal

pub unwrap-set-requires : goal.unwrap-set-requires
unwrap-set-requires c =
    c.new.ensures.lawful.1
    (set_is_lawful c.default_plant.result (items_of c.in_ok-devices.devices) (items_of c.in_ok-drawn.drawn.tasks) c.args.seed c.default_plant.ensures.ranges
    c.in_ok-devices.ensures c.in_ok-drawn.ensures.tasks)
