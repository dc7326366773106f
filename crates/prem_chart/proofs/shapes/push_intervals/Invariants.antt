use Rattle.std.specs.List.{flat_map}
use Rattle.std.proofs.Common.{◌≡◌, ◌++◌, drop}
use Rattle.prem_chart.specs.Shapes.{interval_shapes}
use Rattle.prem_chart.specs.Bars.{shape_text}
use Rattle.prem_chart.proofs.shapes.push_intervals.Given as goal

-- what is written and the rest give what all give
abbrev pub invariant-intervals : goal.invariant-intervals
invariant-intervals l =
    l.text.items ++ flat_map shape_text (interval_shapes l.sheet l.tasks (drop l.interval-index l.intervals))
    ≡ l.initial.text.items ++ flat_map shape_text (interval_shapes l.sheet l.tasks l.intervals)
