-- Walks in memory.
use Rattle.prem_tiling.specs.Copies.Walk.{Walk}
use Rattle.prem_tiling.specs.declared.copies.stale.Stale.{Stale}

abbrev pub walk_of : Stale → Walk
walk_of s = record { flags = s.flags.items; trail = s.trail.items; line = s.line }
