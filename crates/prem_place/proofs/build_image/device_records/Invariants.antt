use Rattle.std.proofs.Common.{◌≡◌, ◌+◌, ◌++◌, drop}
use Rattle.prem_list.specs.Sequence.{items_of}
use Rattle.prem_layout.specs.Image.{device_records}
use Rattle.prem_place.proofs.build_image.device_records.Given as goal

abbrev pub invariant-loop-n : goal.invariant-loop-n
invariant-loop-n l = items_of l.records ++ device_records (drop l.n l.devices) (drop (l.first + l.n) l.layout) ≡ device_records l.devices (drop l.first l.layout)
