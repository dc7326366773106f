use Rattle.std.proofs.Common.{◌≡◌, ◌++◌, drop}
use Rattle.prem_color.specs.Claims.{leading}
use Rattle.prem_color.proofs.claims.leading.Given as goal

abbrev pub invariant-loop-claim : goal.invariant-loop-claim
invariant-loop-claim l = l.own.items ++ leading l.want (drop l.claim-index l.claims) ≡ leading l.want l.claims
