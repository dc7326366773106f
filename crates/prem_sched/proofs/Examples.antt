-- The definitions on small sets, computed.
use Rattle.std.proofs.Common.{◌≡◌, List, [], ◌∷◌, refl}
use Rattle.prem_sched.specs.declared.sched.TaskJobs.{TaskJobs}
use Rattle.prem_sched.specs.declared.sched.Choice.TheVariants.{Run, Idle, Finished}
use Rattle.prem_sched.specs.Schedule.{released, starts_of, choice, job_ended}

-- two tasks: every 10 cycles, 3 jobs, and every 4 cycles, 2 jobs
two : List TaskJobs
two = starts_of ((10, 3) ∷ (4, 2) ∷ [])

-- a job is released at the start of its period, and no more than there are
row_released_at_0 : released (record { period = 10; jobs = 3; ended = 0 }) 0 ≡ 1
row_released_at_0 = refl

row_released_at_9 : released (record { period = 10; jobs = 3; ended = 0 }) 9 ≡ 1
row_released_at_9 = refl

row_released_at_10 : released (record { period = 10; jobs = 3; ended = 0 }) 10 ≡ 2
row_released_at_10 = refl

row_released_at_30 : released (record { period = 10; jobs = 3; ended = 0 }) 30 ≡ 3
row_released_at_30 = refl

-- the first ready task runs, then the second one, then the core idles up to the least release
row_first : choice 0 two ≡ Run 0
unfolding two
row_first = refl

row_second : choice 2 (job_ended 0 two) ≡ Run 1
unfolding two
row_second = refl

row_idle : choice 3 (job_ended 1 (job_ended 0 two)) ≡ Idle 4
unfolding two
row_idle = refl

row_last : choice 29 (job_ended 1 (job_ended 1 (job_ended 0 (job_ended 0 two)))) ≡ Run 0
unfolding two
row_last = refl

-- a release to come of a task that has no job left does not count
row_left : choice 5 (job_ended 1 (job_ended 1 (job_ended 0 two))) ≡ Idle 10
unfolding two
row_left = refl

row_finished : choice 35 (job_ended 1 (job_ended 1 (job_ended 0 (job_ended 0 (job_ended 0 two))))) ≡ Finished
unfolding two
row_finished = refl

row_none : choice 0 [] ≡ Finished
row_none = refl
