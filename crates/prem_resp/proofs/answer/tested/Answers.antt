use Rattle.std.proofs.Common.{◌≡◌, ap, ◌∙◌, arith, length}
use Rattle.prem_resp.proofs.Fits.{found_long}
use Rattle.prem_resp.proofs.LoadsAre.{lent_long}
use Rattle.prem_resp.proofs.answer.tested.Goals as goal

pub busy_periods-requires-clause-count : goal.busy_periods-requires-clause-count
busy_periods-requires-clause-count c =
    let long : length c.deref.result.now ≡ length c.items-tasks.result.now =
    lent_long c.args.compiled.now c.items-tasks.result.now c.items-jobs.result.now c.items-longest.result.now c.deref.result.now c.requires
    c.items-tasks.ensures c.items-jobs.ensures c.items-longest.ensures
    (c.deref.ensures.value ∙ c.in_ok-loads.ensures) in
    let tasks = ap length c.items-tasks.ensures in
    omega (arith, long, tasks, c.requires.count)

pub fit_text-requires-clause-tasks : goal.fit_text-requires-clause-tasks
fit_text-requires-clause-tasks c =
    lent_long c.args.compiled.now c.items-tasks.result.now c.items-jobs.result.now c.items-longest.result.now c.deref-2.result.now c.requires
    c.items-tasks.ensures c.items-jobs.ensures c.items-longest.ensures
    (c.deref-2.ensures.value ∙ c.in_ok-loads.ensures)

pub fit_text-requires-clause-found : goal.fit_text-requires-clause-found
fit_text-requires-clause-found c =
    ap length (c.deref-3.ensures.value ∙ c.in_ok-found.ensures)
    ∙ found_long c.deref.result.now 0 (length c.deref.result.now)
    ∙ lent_long c.args.compiled.now c.items-tasks.result.now c.items-jobs.result.now c.items-longest.result.now c.deref.result.now c.requires
    c.items-tasks.ensures c.items-jobs.ensures c.items-longest.ensures
    (c.deref.ensures.value ∙ c.in_ok-loads.ensures)
