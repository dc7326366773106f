use Rattle.std.proofs.Common.{◌≡◌, length}
use Rattle.prem_color.proofs.claims.counts_by_part.Given as goal

abbrev pub invariant-loop-want : goal.invariant-loop-want
invariant-loop-want l = length l.counts.items ≡ l.parts
