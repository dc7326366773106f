use Rattle.std.proofs.Common.{◌≡◌, drop, map}
use Rattle.prem_color.specs.Claims.{with_claims}
use Rattle.prem_color.proofs.claims.push_claims.Given as goal

-- the ranges that are left lead where all lead
abbrev pub invariant-loop-range : goal.invariant-loop-range
invariant-loop-range l =
    with_claims l.want (drop l.range-index l.ranges) (map (λ own. own.items) l.index.items) ≡ with_claims l.want l.ranges (map (λ own. own.items) l.initial.index.items)
