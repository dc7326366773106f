use Rattle.std.proofs.Common.{◌≡◌, drop}
use Rattle.prem_analysis.proofs.Prelude.{plain_list, env_of, assigns, loosened}
use Rattle.prem_analysis.proofs.ranging.assigned.+loosening.Given as goal

abbrev pub invariant-loosen_all-loop-s : goal.invariant-loosen_all-loop-s
invariant-loosen_all-loop-s l = loosened (λ j. assigns j (plain_list (drop l.s-index l.steps))) (env_of l.env) ≡ loosened (λ j. assigns j (plain_list l.steps)) (env_of l.fn.env)
