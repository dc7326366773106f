use Rattle.prem_analysis.proofs.Prelude.{env_of, sym, ◌∙◌}
use Rattle.prem_analysis.proofs.RangingLemmas.Sequences.{loosened-one, loosened-none}
use Rattle.prem_analysis.proofs.ranging.assigned.loosen_target.Goals as goal

pub returns-in-Some : goal.returns-in-Some
returns-in-Some c = rw c.in-Some.is (c.loosen.ensures ∙ sym (loosened-one c.in-Some.k (env_of c.args.env.now)))

pub returns-in_default : goal.returns-in_default
returns-in_default c = rw c.in_default.is (sym (loosened-none (env_of c.args.env.now)))
