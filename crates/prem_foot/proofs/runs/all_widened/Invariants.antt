use Rattle.std.proofs.Common.{◌≡◌, ◌<◌, ◌^◌, take}
use Rattle.prem_layout.specs.Footprint.{last_line_end}
use Rattle.prem_foot.proofs.runs.all_widened.Given as goal

abbrev pub invariant-loop-range : goal.invariant-loop-range
invariant-loop-range l =
    record {
      same : l.wide.items ≡ take l.range-index l.ranges;
      low : last_line_end l.line l.wide.items < 2 ^ 32;
    }
