use Rattle.prem_analysis.proofs.Prelude.{ends, arith, ints, clamps}
use Rattle.prem_analysis.proofs.ranging.environment.cut_ends.Goals as goal

pub returns-in-Lt : goal.returns-in-Lt
returns-in-Lt c = rw c.in-Lt.is (ends _ _ _ _ (omega (arith, ints)) (let v = c.min.ensures.value in omega (arith, ints, clamps, v)))
