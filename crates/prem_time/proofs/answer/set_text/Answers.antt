use Rattle.std.proofs.Common.{◌≡◌, ap, ◌∙◌, sym, arith, length, map}
use Rattle.prem_resp.specs.Fits.{found_in}
use Rattle.prem_resp.proofs.Fits.{found_long}
use Rattle.prem_wcet.specs.TimedOf.{times_in}
use Rattle.prem_time.proofs.LoadsAre.{lent_found, lent_long, lent_told}
use Rattle.prem_time.proofs.answer.set_text.Goals as goal

pub busy_periods-requires-clause-count : goal.busy_periods-requires-clause-count
busy_periods-requires-clause-count c =
    let long : length c.deref.result.now ≡ length c.items-tasks.result.now =
    lent_long c.args.timed.now c.items-tasks.result.now c.items-times.result.now c.deref.result.now c.requires.loads c.items-tasks.ensures
    c.items-times.ensures (c.deref.ensures.value ∙ c.in_ok-loads.ensures) in
    let tasks = ap length c.items-tasks.ensures in
    omega (arith, long, tasks, c.requires.loads.count)

pub waits_of-requires-clause-found : goal.waits_of-requires-clause-found
waits_of-requires-clause-found c =
    lent_found c.args.timed.now c.items-tasks.result.now c.items-times.result.now c.deref-2.result.now c.deref-3.result.now c.requires.loads c.items-tasks.ensures c.items-times.ensures
    (c.deref-2.ensures.value ∙ c.in_ok-loads.ensures) (c.deref-3.ensures.value ∙ c.in_ok-found.ensures ∙ ap found_in (c.deref.ensures.value ∙ sym c.deref-2.ensures.value))

pub all_held-fits-requires : goal.all_held-fits-requires
all_held-fits-requires c =
    lent_told c.args.devices.now c.args.bus.now c.args.timed.now c.deref-2.result.now c.deref-3.result.now (map times_in c.items-times.result.now)
    c.deref-then-all_within.result.now c.deref-then-all_within-2.result.now
    c.requires.devices c.deref-then-all_within.ensures.value (c.deref-then-all_within-2.ensures.value ∙ c.in_ok-waits.ensures)

pub tasks_text-requires-clause-loads : goal.tasks_text-requires-clause-loads
tasks_text-requires-clause-loads c =
    lent_long c.args.timed.now c.items-tasks.result.now c.items-times.result.now c.deref-5.result.now c.requires.loads c.items-tasks.ensures
    c.items-times.ensures (c.deref-5.ensures.value ∙ c.in_ok-loads.ensures)

pub tasks_text-requires-clause-found : goal.tasks_text-requires-clause-found
tasks_text-requires-clause-found c =
    ap length (c.deref-6.ensures.value ∙ c.in_ok-found.ensures)
    ∙ found_long c.deref.result.now 0 (length c.deref.result.now)
    ∙ lent_long c.args.timed.now c.items-tasks.result.now c.items-times.result.now c.deref.result.now c.requires.loads c.items-tasks.ensures
    c.items-times.ensures (c.deref.ensures.value ∙ c.in_ok-loads.ensures)

pub push_devices-requires : goal.push_devices-requires
push_devices-requires c =
    lent_told c.args.devices.now c.args.bus.now c.args.timed.now c.deref-2.result.now c.deref-3.result.now (map times_in c.items-times.result.now) c.deref-7.result.now c.deref-8.result.now
    c.requires.devices c.deref-7.ensures.value (c.deref-8.ensures.value ∙ c.in_ok-waits.ensures)

pub limit_of-requires-clause-long : goal.limit_of-requires-clause-long
limit_of-requires-clause-long c =
    lent_long c.args.timed.now c.items-tasks.result.now c.items-times.result.now c.deref-9.result.now c.requires.loads c.items-tasks.ensures
    c.items-times.ensures (c.deref-9.ensures.value ∙ c.in_ok-loads.ensures)
