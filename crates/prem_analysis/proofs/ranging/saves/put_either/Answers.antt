use Rattle.prem_analysis.proofs.Prelude.{known_of, with_range, join}
use Rattle.prem_analysis.proofs.RangingLemmas.Locals.{at_local_within, at_local_past}
use Rattle.prem_ranges.specs.Environment.{Known}
use Rattle.prem_analysis.proofs.ranging.saves.put_either.Goals as goal

pub returns-then-s-env : goal.returns-then-s-env
returns-then-s-env c =
    let s = c.args.s in
    at_local_within c.args.env.now s.number (λ (l : Known). with_range (join (known_of s.known).range l.range) (known_of s.known))
    c.index-env-s.result c.either.result c.if-s-env.true c.index-env-s.is c.either.ensures

pub returns-else-s-env : goal.returns-else-s-env
returns-else-s-env c = let s = c.args.s in at_local_past c.args.env.now s.number (λ (l : Known). with_range (join (known_of s.known).range l.range) (known_of s.known)) c.if-s-env.false
