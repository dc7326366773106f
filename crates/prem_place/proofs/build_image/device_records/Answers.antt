use Rattle.std.proofs.Common.{drop}
use Rattle.prem_list.specs.Sequence.{items_of}
use Rattle.prem_layout.specs.Image.{device_records}
use Rattle.prem_place.proofs.BuildImageLemmas.Turns.{area_turn}
use Rattle.prem_place.proofs.build_image.device_records.Goals as goal

pub loop-n-preserved : goal.loop-n-preserved
loop-n-preserved c =
    area_turn c.args.devices.now c.args.layout.now c.args.first c.loop-n.n c.index-devices-n.result c.part.result c.unwrap_or-area.result (items_of c.loop-n.records) (items_of c.push.new.self)
    (device_records c.args.devices.now (drop c.args.first c.args.layout.now))
    c.in_ok-device_record.field-0 c.requires.long c.loop-n-test.true c.index-devices-n.is c.part.ensures.place c.unwrap_or-area.ensures
    c.in_ok-device_record.ensures c.in_ok-push.ensures.ok
    c.loop-n.invariant
