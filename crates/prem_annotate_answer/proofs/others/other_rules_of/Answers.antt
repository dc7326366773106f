use Rattle.std.proofs.Common.{Option, ap, sym, ◌∙◌, subst}
use Rattle.prem_analysis.specs.declared.ranging.found.Broken.{Broken}
use Rattle.prem_analysis.specs.Ranging.View.{breach_of, found_of}
use Rattle.prem_tasks.specs.Told.{told_of}
use Rattle.prem_stages.specs.Stages.{checked_text}
use Rattle.prem_annotate.specs.Rules.First.{TellableIf}
use Rattle.prem_annotate_answer.proofs.Nameless.{other_stops, none_refused}
use Rattle.prem_annotate_answer.proofs.others.other_rules_of.Goals as goal

pub rule_of-requires : goal.rule_of-requires
rule_of-requires c = subst (λ (o : Option Broken). TellableIf (found_of o)) c.in-Some.is c.in_ok-found.ensures.tellable

pub returns-in-Some : goal.returns-in-Some
returns-in-Some c =
    let there = ap found_of (sym c.in-Some.is) ∙ c.in_ok-found.ensures.found in
    let tellable = subst (λ (o : Option Broken). TellableIf (found_of o)) c.in-Some.is c.in_ok-found.ensures.tellable in
    other_stops (checked_text c.args.program.now) (breach_of c.in-Some.broken) (told_of c.rule_of.result) c.refused.result c.args.task there tellable c.rule_of.ensures c.refused.ensures

pub returns-in-None : goal.returns-in-None
returns-in-None c = none_refused (checked_text c.args.program.now) c.args.task (ap found_of (sym c.in-None.is) ∙ c.in_ok-found.ensures.found)
