use Rattle.std.specs.Prelude.{replicate}
use Rattle.std.proofs.Common.{◌≡◌, [], map}
use Rattle.prem_color.proofs.claims.no_claims.Given as goal

abbrev pub invariant-loop-count : goal.invariant-loop-count
invariant-loop-count l = map (λ own. own.items) l.index.items ≡ replicate l.count-index []
