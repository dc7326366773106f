use Rattle.std.specs.List.{flat_map}
use Rattle.std.proofs.Common.{◌≡◌, ◌++◌, drop}
use Rattle.prem_chart.specs.Shapes.{transfer_shapes}
use Rattle.prem_chart.specs.Bars.{shape_text}
use Rattle.prem_chart.proofs.shapes.push_transfers.Given as goal

-- what is written and the rest give what all give
abbrev pub invariant-transfers : goal.invariant-transfers
invariant-transfers l =
    l.text.items ++ flat_map shape_text (transfer_shapes l.sheet l.devices (drop l.transfer-index l.transfers))
    ≡ l.initial.text.items ++ flat_map shape_text (transfer_shapes l.sheet l.devices l.transfers)
