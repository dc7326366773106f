use Rattle.prem_annotate.proofs.Prelude.{all_ranged, TellableIf, first_other, program_of, ap, ◌∙◌, sym, subst}
use Rattle.prem_annotate.proofs.RulesLemmas.Found.{first_other_is}
use Rattle.prem_annotate.proofs.RulesLemmas.Tellable.{first_other_tellable}
use Rattle.prem_annotate.proofs.rules.finding.first_other.Goals as goal

pub first_in-requires : goal.first_in-requires
first_in-requires c = all_ranged c.in_ok-resolved.resolved (program_of c.program-program.result.now) c.in_ok-resolved.ensures c.program-program.ensures.well_formed c.have_words.ensures

pub returns-clause-found : goal.returns-clause-found
returns-clause-found c =
    let p = program_of c.program-program.result.now in
    c.in_ok-found.ensures ∙ first_other_is c.in_ok-resolved.resolved p c.in_ok-resolved.ensures c.program-program.ensures.well_formed c.have_words.ensures
    ∙ ap (λ q. first_other (program_of q)) c.program-program.ensures.program

pub returns-clause-tellable : goal.returns-clause-tellable
returns-clause-tellable c =
    let p = program_of c.program-program.result.now in
    let is = c.in_ok-found.ensures ∙ first_other_is c.in_ok-resolved.resolved p c.in_ok-resolved.ensures c.program-program.ensures.well_formed c.have_words.ensures in
    subst TellableIf (sym is) (first_other_tellable p c.program-program.ensures.well_formed c.have_words.ensures)
