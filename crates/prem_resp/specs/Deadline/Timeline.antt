-- The schedule of a run: for which task the core works in each cycle, and how many jobs have ended.
use Rattle.std.specs.Prelude.{ℕ, Option, Some, None, List}
use Rattle.prem_sched.specs.declared.sched.TaskJobs.{TaskJobs}
use Rattle.prem_sched.specs.declared.sched.Choice.{Choice}
use Rattle.prem_sched.specs.declared.sched.Choice.TheVariants.{Run, Idle as Rest, Finished}
use Rattle.prem_sched.specs.Schedule.{choice, task_at}
use Rattle.prem_lru.specs.Entries.{ReplacementRule}
use Rattle.prem_gate.specs.declared.request.Request.{Request}
use Rattle.prem_cycle.specs.declared.state.Mode.{Mode}
use Rattle.prem_cycle.specs.declared.state.Mode.TheVariants.{Point, Switching, Running, Idle}
use Rattle.prem_cycle.specs.State.{Setup}
use Rattle.prem_cycle.specs.Run.{run_of}
use Rattle.prem_resp.specs.Busy.Schedule.{Schedule}

abbrev pub chosen_task : Choice → Option ℕ
chosen_task (Run k) = Some k
chosen_task (Rest until) = None
chosen_task Finished = None

-- the task for which the core works in the coming cycle, with its switches and waits
abbrev pub serves_in : ℕ → List TaskJobs → Mode → Option ℕ
serves_in now sched Point = chosen_task (choice now sched)
serves_in now sched (Switching k left) = Some k
serves_in now sched (Running k) = Some k
serves_in now sched (Idle until) = None

abbrev pub timeline_of : ReplacementRule → Setup → (content : List ℕ) (inputs : List (List ℕ)) (requests : List Request) → Schedule
timeline_of rule p content inputs requests = record {
  serves = λ t. serves_in (run_of rule p content inputs requests t).now (run_of rule p content inputs requests t).sched (run_of rule p content inputs requests t).core.mode;
  ended = λ k t. (task_at (run_of rule p content inputs requests t).sched k).ended;
}
