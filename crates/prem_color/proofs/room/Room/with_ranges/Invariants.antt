use Rattle.std.proofs.Common.{◌≡◌, ◌-◌}
use Rattle.prem_layout.specs.Footprint.{last_line_end}
use Rattle.prem_color.specs.Rooms.{with_lines, lines_behind}
use Rattle.prem_color.proofs.room.Room.with_ranges.Given as goal

-- the lines that are left lead where all lead
abbrev pub invariant-loop-first : goal.invariant-loop-first
invariant-loop-first l =
    with_lines l.cache.sets l.cache.«ways» (lines_behind l.cache.line l.ranges l.at) l.counts ≡ with_lines l.cache.sets l.cache.«ways» (lines_behind l.cache.line l.ranges l.self.at) l.self.counts

abbrev pub decreases-loop-first : goal.decreases-loop-first
decreases-loop-first l = last_line_end l.cache.line l.ranges - l.at
