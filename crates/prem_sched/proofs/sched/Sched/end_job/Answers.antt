use Rattle.std.proofs.Common.{◌≡◌, ◌<◌, arith, ap}
use Rattle.std.proofs.lemmas.Grind.{common_steps}
use Rattle.prem_sched.specs.declared.sched.TaskJobs.{TaskJobs}
use Rattle.prem_sched.specs.Schedule.{task_at}
use Rattle.prem_sched.proofs.Choices.{ready_left}
use Rattle.prem_sched.proofs.sched.Sched.end_job.Goals as goal

-- a ready task has jobs left, so the number of its ended jobs isn't the last one
pub end_job-requires : goal.end_job-requires
end_job-requires c =
    let task = task_at c.args.self.now c.args.t in
    let here : c.index_mut.result.now ≡ task_at c.args.self.now c.args.t = grind (arith, common_steps) in
    let left : task.ended < task.jobs = ready_left c.args.now task c.requires.1 in
    let ended = ap (λ (x : TaskJobs). x.ended) here in
    let jobs = ap (λ (x : TaskJobs). x.jobs) here in
    omega (arith, left, ended, jobs)
