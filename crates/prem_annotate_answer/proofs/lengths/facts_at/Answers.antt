use Rattle.std.proofs.Common.{◌∙◌, ap, List, map}
use Rattle.prem_bounds.specs.declared.facts.facts.IntervalFact.{IntervalFact}
use Rattle.prem_place.specs.Verdict.Told.{numbered}
use Rattle.prem_annotate_answer.proofs.Lengthening.{facts_there, facts_past}
use Rattle.prem_annotate_answer.proofs.lengths.facts_at.Goals as goal

pub returns-in-Some : goal.returns-in-Some
returns-in-Some c =
    let l = c.in-Some.ensures.lookup in
    ap (λ (facts : List IntervalFact). map numbered facts) c.deref.ensures.value ∙ facts_there c.args.bounds.now c.args.n c.in-Some.found.now l.3.0 l.1

pub returns-in-None : goal.returns-in-None
returns-in-None c = facts_past c.args.bounds.now c.args.n c.in-None.ensures.lookup.3
