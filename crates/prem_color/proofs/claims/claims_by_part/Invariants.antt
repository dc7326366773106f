use Rattle.std.proofs.Common.{◌≡◌, drop, map}
use Rattle.prem_color.specs.Claims.{with_wants}
use Rattle.prem_color.specs.WantOf.{ranges_in}
use Rattle.prem_color.proofs.claims.claims_by_part.Given as goal

-- the wants that are left lead where all lead
abbrev pub invariant-loop-k : goal.invariant-loop-k
invariant-loop-k l =
    with_wants l.k (ranges_in (drop l.k l.wants)) (map (λ own. own.items) l.index.items) ≡ with_wants 0 (ranges_in l.wants) (map (λ own. own.items) l.initial.index.items)
