use Rattle.std.proofs.Common.{◌≡◌, ◌++◌, map, drop}
use Rattle.prem_line.specs.Spelled.{ended}
use Rattle.prem_wcet.specs.TimedOf.{interval_of}
use Rattle.prem_time.specs.Lines.{interval_line}
use Rattle.prem_time.proofs.lines.push_intervals.Given as goal

abbrev pub invariant-loop-interval : goal.invariant-loop-interval
invariant-loop-interval l =
    l.text.items ++ ended (map interval_line (map interval_of (drop l.interval-index l.intervals))) ≡ l.initial.text.items ++ ended (map interval_line (map interval_of l.intervals))
