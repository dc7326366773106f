use Rattle.std.proofs.Common.{◌≡◌, ◌++◌, drop}
use Rattle.prem_analysis.proofs.Prelude.{env_of, saves_of, saved}
use Rattle.prem_analysis.proofs.ranging.saves.save.Given as goal

abbrev pub invariant-loop-k : goal.invariant-loop-k
invariant-loop-k l = saves_of l.saves.items ++ saved (env_of l.env) (drop l.k-index l.locals) ≡ saved (env_of l.env) l.locals
