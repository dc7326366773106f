-- The task whose instruction the coming cycle issues, if one does.
use Rattle.std.specs.Prelude.{ℕ, List, Option, Some, None}
use Rattle.prem_sched.specs.declared.sched.TaskJobs.{TaskJobs}
use Rattle.prem_sched.specs.declared.sched.Choice.{Choice}
use Rattle.prem_sched.specs.declared.sched.Choice.TheVariants.{Run, Idle as Idles, Finished}
use Rattle.prem_sched.specs.Schedule.{choice}
use Rattle.prem_cycle.specs.declared.state.Mode.{Mode}
use Rattle.prem_cycle.specs.declared.state.Mode.TheVariants.{Point, Switching, Running, Idle}
use Rattle.prem_cycle.specs.State.{MachineState, task_in}

abbrev pub chosen_task : Choice → Option ℕ
chosen_task (Run k) = Some k
chosen_task (Idles until) = None
chosen_task Finished = None

abbrev pub issuer_in : (now : ℕ) → List TaskJobs → Mode → Option ℕ
issuer_in now sched Point = chosen_task (choice now sched)
issuer_in now sched (Switching k left) = Some k
issuer_in now sched (Running k) = Some k
issuer_in now sched (Idle until) = None

-- the address of its next instruction; 0 where there is none
abbrev pub pc_at : MachineState → Option ℕ → ℕ
pc_at s None = 0
pc_at s (Some k) = (task_in s.work k).pc

abbrev pub coming_pc : MachineState → ℕ
coming_pc s = pc_at s (issuer_in s.now s.sched s.core.mode)
