use Rattle.std.proofs.Common.{◌≡◌, drop}
use Rattle.prem_wave.specs.Calls.{all_counted}
use Rattle.prem_wave.proofs.calls.count_intervals.Given as goal

-- what is left gives what all give
abbrev pub invariant-intervals : goal.invariant-intervals
invariant-intervals l = all_counted (drop l.interval-index l.intervals) l.calls.items ≡ all_counted l.intervals l.initial.calls.items
