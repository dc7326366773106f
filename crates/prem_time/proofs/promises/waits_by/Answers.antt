use Rattle.std.proofs.Common.{◌≡◌, ap, ◌∙◌, sym, arith, length}
use Rattle.prem_resp.specs.Fits.{found_in}
use Rattle.prem_time.proofs.LoadsAre.{lent_found, lent_long}
use Rattle.prem_time.proofs.promises.waits_by.Goals as goal

pub busy_periods-requires-clause-count : goal.busy_periods-requires-clause-count
busy_periods-requires-clause-count c =
    let long : length c.deref.result.now ≡ length c.items-tasks.result.now =
    lent_long c.args.timed.now c.items-tasks.result.now c.items-times.result.now c.deref.result.now c.requires.loads c.items-tasks.ensures
    c.items-times.ensures (c.deref.ensures.value ∙ c.in_ok-loads.ensures) in
    let tasks = ap length c.items-tasks.ensures in
    omega (arith, long, tasks, c.requires.loads.count)

pub waits_of-requires-clause-found : goal.waits_of-requires-clause-found
waits_of-requires-clause-found c =
    lent_found c.args.timed.now c.items-tasks.result.now c.items-times.result.now c.deref-2.result.now c.deref-3.result.now c.requires.loads c.items-tasks.ensures c.items-times.ensures
    (c.deref-2.ensures.value ∙ c.in_ok-loads.ensures) (c.deref-3.ensures.value ∙ c.in_ok-found.ensures ∙ ap found_in (c.deref.ensures.value ∙ sym c.deref-2.ensures.value))
