use Rattle.std.proofs.Common.{◌≡◌, drop}
use Rattle.prem_analysis.proofs.Prelude.{env_of, saves_of, merged}
use Rattle.prem_analysis.proofs.ranging.saves.merge.Given as goal

abbrev pub invariant-loop-s : goal.invariant-loop-s
invariant-loop-s l = merged (saves_of (drop l.s-index l.saves)) (env_of l.env) ≡ merged (saves_of l.saves) (env_of l.fn.env)
