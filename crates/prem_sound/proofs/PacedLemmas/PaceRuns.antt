-- What is due for the job and the stretch in which a task's run on its own stands.
use Rattle.std.proofs.Common.{◌≡◌, ℕ, suc, ◌+◌, ap, arith}
use Rattle.prem_sound.proofs.Prelude.{TaskRun, plain_did, plain_run, Plant, job_by, stretch_by, begun_by, Script}
use Rattle.prem_sound.specs.Paced.Paced.{job_with, stretch_with}

pub job_by-next : (plant : Plant) (s : Script) (run : TaskRun) (n : ℕ) → job_by plant s run (n + 1) ≡ job_with plant s (begun_by run n) (plain_did run (plain_run run n)) (job_by plant s run n)
unfolding job_by
job_by-next plant s run n = let e : n + 1 ≡ suc n = omega arith in ap (job_by plant s run) e

pub stretch_by-next : (plant : Plant) (run : TaskRun) (n : ℕ) → stretch_by plant run (n + 1) ≡ stretch_with plant (plain_did run (plain_run run n)) (stretch_by plant run n)
unfolding stretch_by
stretch_by-next plant run n = let e : n + 1 ≡ suc n = omega arith in ap (stretch_by plant run) e
