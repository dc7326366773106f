use Rattle.std.proofs.Common.{◌≡◌, drop, []}
use Rattle.prem_bounds.specs.Counts.Count.{counts_behind}
use Rattle.prem_bounds.proofs.counts.table.counts.Given as goal

abbrev pub invariant-loop-f : goal.invariant-loop-f
invariant-loop-f l = counts_behind l.output l.mark l.known.items l.rest (drop l.f-index l.fs) ≡ counts_behind l.output l.mark [] l.turns l.fs
