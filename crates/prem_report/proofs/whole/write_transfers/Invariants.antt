use Rattle.std.specs.Prelude.{string_bytes}
use Rattle.std.specs.List.{flat_map}
use Rattle.std.proofs.Common.{◌≡◌, ◌++◌, take}
use Rattle.prem_report.specs.Report.{transfer_line}
use Rattle.prem_report.proofs.whole.write_transfers.Given as goal

abbrev pub invariant-transfers : goal.invariant-transfers
invariant-transfers l = string_bytes l.text ≡ string_bytes l.initial.text ++ flat_map (transfer_line l.devices) (take l.transfer-index l.transfers)
