use Rattle.std.proofs.Common.{◌≡◌, Option, Some, None, IfSome, IsNone, map, subst}
use Rattle.prem_profile.specs.Strips.{Strip, strip_of}
use Rattle.prem_profile.proofs.Callees.{callee_is}
use Rattle.prem_profile.proofs.callgrind.callee_of.Goals as goal

pub returns-clause-some : goal.returns-clause-some
returns-clause-some c =
    subst (λ (o : Option Strip). IfSome c.strip_at.result (λ s. o ≡ Some (strip_of s.now))) (callee_is (map strip_of c.args.strips.now) c.args.number c.if-number-eq0.false) c.strip_at.ensures.some

pub returns-clause-none : goal.returns-clause-none
returns-clause-none c =
    subst (λ (o : Option Strip). IsNone c.strip_at.result → o ≡ None) (callee_is (map strip_of c.args.strips.now) c.args.number c.if-number-eq0.false) c.strip_at.ensures.none
