use Rattle.std.proofs.Common.{◌+◌, length, map, ap, sym, ◌∙◌}
use Rattle.prem_list.specs.Sequence.{items_of}
use Rattle.prem_place.proofs.BuildImageLemmas.Whole.{total_few, places_long, set_fits, is_lawful, image_is}
use Rattle.prem_place.proofs.build_image.image_of.Goals as goal

pub part_total-first-requires : goal.part_total-first-requires
part_total-first-requires c = total_few c.args.plant.now c.args.tasks.now (map (λ bs. bs.items) c.args.blocks.now) c.args.devices.now c.args.layout.now c.requires

pub task_bytes-requires : goal.task_bytes-requires
task_bytes-requires c =
    set_fits c.args.plant.now c.args.tasks.now (map (λ bs. bs.items) c.args.blocks.now)
    c.args.devices.now c.args.layout.now c.part_total-first.result c.greatest_end-end.result c.requires c.part_total-first.ensures
    c.greatest_end-end.ensures

pub device_records-requires-clause-long : goal.device_records-requires-clause-long
device_records-requires-clause-long c =
    places_long c.args.plant.now c.args.tasks.now (map (λ bs. bs.items) c.args.blocks.now) c.args.devices.now c.args.layout.now c.requires
    ∙ ap (λ n. n + length c.args.devices.now) (sym c.part_total-first.ensures)

pub invariant_of-result : goal.invariant_of-result
invariant_of-result c =
    record {
      lawful = is_lawful c.args.plant.now c.args.tasks.now (map (λ bs. bs.items) c.args.blocks.now)
          c.args.devices.now c.args.layout.now c.part_total-first.result c.greatest_end-end.result (items_of c.in_ok-records.records)
          (items_of c.in_ok-areas.areas)
          (items_of c.in_ok-content.content) c.requires c.part_total-first.ensures c.greatest_end-end.ensures c.in_ok-records.ensures c.in_ok-areas.ensures c.in_ok-content.ensures.long;
    }

pub returns : goal.returns
returns c =
    image_is c.args.plant.now c.args.tasks.now (map (λ bs. bs.items) c.args.blocks.now)
    c.args.devices.now c.args.layout.now c.part_total-first.result c.greatest_end-end.result (items_of c.in_ok-records.records)
    (items_of c.in_ok-areas.areas)
    (items_of c.in_ok-content.content) c.requires c.part_total-first.ensures c.greatest_end-end.ensures c.in_ok-records.ensures c.in_ok-areas.ensures c.in_ok-content.ensures.content
