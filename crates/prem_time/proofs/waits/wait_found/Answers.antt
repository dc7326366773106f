use Rattle.std.proofs.Common.{ℕ, map, ◌∙◌, ap}
use Rattle.prem_wcet.specs.TimedOf.{times_in}
use Rattle.prem_time.specs.Devices.{closings_of}
use Rattle.prem_time.specs.Told.{closed_told}
use Rattle.prem_time.proofs.ClosingsFit.{as_many_found, closings_count, closings_fit, wait_as_told}
use Rattle.prem_time.proofs.waits.wait_found.Goals as goal

pub closings_of-requires-clause-found : goal.closings_of-requires-clause-found
closings_of-requires-clause-found c = as_many_found c.args.loads.now c.args.found.now (map times_in c.args.times.now) c.requires.found

pub wait_length-requires-clause-tasks : goal.wait_length-requires-clause-tasks
wait_length-requires-clause-tasks c =
    closings_fit c.args.loads.now c.args.found.now (map times_in c.args.times.now) c.requires.found c.deref.result.now c.args.i c.top.result
    (c.deref.ensures.value ∙ c.in_ok-tasks.ensures) c.requires.closed c.top.ensures.small

pub wait_length-requires-clause-task_count : goal.wait_length-requires-clause-task_count
wait_length-requires-clause-task_count c =
    closings_count c.args.loads.now c.args.found.now (map times_in c.args.times.now) c.requires.found c.deref.result.now c.args.i c.top.result (c.deref.ensures.value ∙ c.in_ok-tasks.ensures)

pub returns : goal.returns
returns c =
    wait_as_told c.args.askings.now c.args.loads.now c.args.found.now (closed_told (map times_in c.args.times.now) c.args.i) c.args.number c.deref.result.now c.wait_length.result c.requires.all
    (c.deref.ensures.value ∙ c.in_ok-tasks.ensures
    ∙ ap (λ (n : ℕ). closings_of c.args.loads.now c.args.found.now (closed_told (map times_in c.args.times.now) c.args.i) n) c.top.ensures.top)
    c.wait_length.ensures
