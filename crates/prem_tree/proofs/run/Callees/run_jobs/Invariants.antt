use Rattle.std.proofs.Common.{◌≡◌, []}
use Rattle.prem_tree.specs.State.Interpreter.{state_of}
use Rattle.prem_tree.specs.StepMeaning.{noted_jobs}
use Rattle.prem_tree.proofs.run.Callees.run_jobs.Given as goal

abbrev pub invariant-jobs : goal.invariant-jobs
invariant-jobs l = noted_jobs l.self.routines.now l.job l.left (state_of l.interpreter []) ≡ noted_jobs l.self.routines.now l.job l.jobs (state_of l.fn.interpreter [])

abbrev pub decreases-jobs : goal.decreases-jobs
decreases-jobs l = l.left
