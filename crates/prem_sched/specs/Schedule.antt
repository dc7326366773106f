-- Which task of a set runs next. Tasks stand in order of priority, and time is in cycles.
use Rattle.std.specs.Prelude.{◌≡◌, ℕ, ◌+◌, ◌*◌, ◌/◌, ◌<◌, ◌≤◌, nat_lt, min, Bool, true, List, [], ◌∷◌, Option, Some, None, length, map, slice_index_or, slice_set, All, if◌then◌else◌}
use Rattle.prem_sched.specs.declared.sched.TaskJobs.{TaskJobs}
use Rattle.prem_sched.specs.declared.sched.Choice.{Choice}
use Rattle.prem_sched.specs.declared.sched.Choice.TheVariants.{Run, Idle, Finished}

-- ---- one task: its period, its number of jobs, and how many of them have ended

-- job number k, from 0, is released at k periods; so many are released at cycle t, those of this cycle counted
abbrev pub released : TaskJobs → ℕ → ℕ
released task t = min task.jobs (t / task.period + 1)

-- fewer jobs have ended than are released
abbrev pub is_ready : ℕ → TaskJobs → Bool
is_ready t task = nat_lt task.ended (released task t)

abbrev pub has_jobs_left : TaskJobs → Bool
has_jobs_left task = nat_lt task.ended task.jobs

-- the first release after cycle t, where the task has jobs left
abbrev pub next_release : ℕ → TaskJobs → Option ℕ
next_release t task = if has_jobs_left task then Some ((t / task.period + 1) * task.period) else None

-- ---- the set

-- the earlier of two times
abbrev pub earlier : Option ℕ → Option ℕ → Option ℕ
earlier None v = v
earlier (Some u) None = Some u
earlier (Some u) (Some v) = Some (min u v)

-- the least release to come after cycle t
abbrev pub least_release : ℕ → List TaskJobs → Option ℕ
least_release t [] = None
least_release t (task ∷ tasks) = earlier (next_release t task) (least_release t tasks)

-- idle until then, or finished where no release is to come
abbrev pub rest : Option ℕ → Choice
rest (Some until) = Idle until
rest None = Finished

-- the number of the first ready task, where the first one of the list has number k
abbrev pub first_ready : ℕ → ℕ → List TaskJobs → Option ℕ
first_ready t k [] = None
first_ready t k (task ∷ tasks) = if is_ready t task then Some k else first_ready t (k + 1) tasks

-- the ready task, if there is one, or else what the core does with the time
abbrev pub run_or : Option ℕ → Choice → Choice
run_or (Some k) other = Run k
run_or None other = other

-- the choice at cycle t: the first ready task, else to idle until the least release to come, else to finish
abbrev pub choice : ℕ → List TaskJobs → Choice
choice t tasks = run_or (first_ready t 0 tasks) (rest (least_release t tasks))

-- the first cycle behind t in which a task becomes ready that isn't, while no job ends
abbrev pub becomes_ready : ℕ → TaskJobs → Option ℕ
becomes_ready t task = if is_ready t task then None else next_release t task

abbrev pub next_ready : ℕ → List TaskJobs → Option ℕ
next_ready t [] = None
next_ready t (task ∷ tasks) = earlier (becomes_ready t task) (next_ready t tasks)

-- the time is before this one, if there is one
abbrev pub Before : ℕ → Option ℕ → Type 0
Before v None = Unit {0}
Before v (Some u) = v < u

-- ---- the start, and the end of a job

-- no job has ended
abbrev pub start_of : ℕ × ℕ → TaskJobs
start_of task = record { period = task.0; jobs = task.1; ended = 0 }

abbrev pub starts_of : List (ℕ × ℕ) → List TaskJobs
starts_of tasks = map start_of tasks

abbrev pub no_task : TaskJobs
no_task = record { period = 1; jobs = 0; ended = 0 }

abbrev pub task_at : List TaskJobs → ℕ → TaskJobs
task_at tasks k = slice_index_or tasks k no_task

-- one more job of a task has ended
abbrev pub with_job : TaskJobs → TaskJobs
with_job task = record task { ended = task.ended + 1 }

-- one more job of the task number k has ended
abbrev pub job_ended : ℕ → List TaskJobs → List TaskJobs
job_ended k tasks = slice_set tasks k (with_job (task_at tasks k))

-- ---- what holds of them

-- a period and a number of jobs that a task may have
abbrev pub IsTask : ℕ × ℕ → Type 0
IsTask task = (1 ≤ task.0) × (1 ≤ task.1)

-- the task number k is in the set, and is ready at cycle t
abbrev pub IsReady : ℕ → List TaskJobs → ℕ → Type 0
IsReady t tasks k = (k < length tasks) × (is_ready t (task_at tasks k) ≡ true)

-- all its jobs have ended
abbrev pub IsDone : TaskJobs → Type 0
IsDone task = task.jobs ≤ task.ended

-- no task of the set is ready at cycle t
abbrev pub NoneReady : ℕ → List TaskJobs → Type 0
NoneReady t tasks = (k : ℕ) → IsReady t tasks k → ⊥

-- what a choice at cycle t means: a task that runs is the first ready one; a core that idles does so for some time,
-- in which no task becomes ready; a core that has finished leaves no job
abbrev pub IsChoice : ℕ → List TaskJobs → Choice → Type 0
IsChoice t tasks (Run k) = IsReady t tasks k × ((j : ℕ) → j < k → IsReady t tasks j → ⊥)
IsChoice t tasks (Idle until) = (t < until) × ((v : ℕ) → t ≤ v → v < until → NoneReady v tasks)
IsChoice t tasks Finished = All IsDone tasks

-- each task has some period, and as many tasks fit a set as it may have
pub record IsSet (tasks : List TaskJobs) : Type 0 where
  pub count : length tasks ≤ 16
  pub periods : All (λ task. 1 ≤ task.period) tasks
