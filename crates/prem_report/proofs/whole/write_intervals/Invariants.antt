use Rattle.std.specs.Prelude.{string_bytes}
use Rattle.std.specs.List.{flat_map}
use Rattle.std.proofs.Common.{◌≡◌, ◌++◌, take}
use Rattle.prem_report.specs.Report.{interval_line}
use Rattle.prem_report.proofs.whole.write_intervals.Given as goal

abbrev pub invariant-intervals : goal.invariant-intervals
invariant-intervals l = string_bytes l.text ≡ string_bytes l.initial.text ++ flat_map (interval_line l.tasks) (take l.interval-index l.intervals)
