use Rattle.std.specs.Prelude.{slice_get}
use Rattle.std.specs.Option.{option_map_or}
use Rattle.std.proofs.Common.{◌≡◌, ◌++◌, []}
use Rattle.prem_report.specs.Report.{in_turn}
use Rattle.prem_chart.specs.Head.{device_key}
use Rattle.prem_chart.proofs.rows.push_device_keys.Given as goal

abbrev pub invariant-devices : goal.invariant-devices
invariant-devices l = l.text.items ≡ l.initial.text.items ++ in_turn (λ k. option_map_or (λ d. device_key k d.device.name) (slice_get l.devices k) []) l.k
