use Rattle.std.proofs.Common.{◌≡◌, take}
use Rattle.prem_report.specs.Fitting.Named.{devices_in}
use Rattle.prem_report.proofs.fitting.names.devices_of.Given as goal

abbrev pub invariant-records : goal.invariant-records
invariant-records l = l.devices.items ≡ devices_in (take l.record-index l.records)
