use Rattle.std.proofs.Common.{◌∙◌, Vec, Global, ap, arith, length}
use Rattle.prem_color.specs.declared.claims.Claim.{Claim}
use Rattle.prem_color.specs.Claims.{claims_from}
use Rattle.prem_color.specs.WantOf.{ranges_in}
use Rattle.prem_color.proofs.ByParts.{claims_at}
use Rattle.prem_color.proofs.moving.place_all.Goals as goal

pub loop-n-init : goal.loop-n-init
loop-n-init c =
    record {
      placing = c.in_ok-s.ensures.placing c.args.p.now c.args.sizes.now c.requires.plant;
      long = c.in_ok-s.ensures.rooms;
      low = let at = c.in_ok-s.ensures.at in omega (arith, at);
    }

pub place_next-requires-clause-claims : goal.place_next-requires-clause-claims
place_next-requires-clause-claims c =
    c.deref.ensures.value
    ∙ ap (λ (own : Vec Claim Global). own.items) c.index.ensures
    ∙ claims_at c.in_ok-index.index.items (length c.args.sizes.now) c.loop-n.n (claims_from 0 (ranges_in c.args.wants.now)) c.index.result.now c.in_ok-index.ensures.each c.loop-n-test.true
