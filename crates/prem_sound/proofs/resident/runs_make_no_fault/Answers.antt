use Rattle.prem_sound.proofs.Prelude.{rule_of, order_rule_of, passes_of}
use Rattle.prem_sound.proofs.ResidentLemmas.KeptRuns.{no_faults}
use Rattle.prem_sound.proofs.ResidentLemmas.Policies.{kind_policy}
use Rattle.prem_sound.proofs.resident.runs_make_no_fault.Goals as goal

pub returns-clause-rule : goal.returns-clause-rule
returns-clause-rule c = no_faults

pub returns-clause-plant : goal.returns-clause-plant
returns-clause-plant c = λ p content inputs requests own runs scripts n runnable owned each.
    let kind = p.plant.policy in
    no_faults (rule_of kind) (order_rule_of kind) (passes_of kind) p content inputs requests own runs scripts n (kind_policy kind) runnable owned each
