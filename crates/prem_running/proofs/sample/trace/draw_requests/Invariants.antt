use Rattle.std.proofs.Common.{◌≡◌, ◌++◌, ◌-◌, ◌*◌, ◌≤◌}
use Rattle.prem_list.specs.Sequence.{items_of}
use Rattle.prem_running.specs.Sample.Trace.{requests_from}
use Rattle.prem_running.proofs.sample.trace.draw_requests.Given as goal

-- the requests so far and those that are left give the whole
abbrev pub invariant-requests : goal.invariant-requests
invariant-requests l =
    (items_of l.all ++ requests_from (l.count - l.counter) l.last l.draws.state ≡ requests_from l.count 0 l.initial.draws.state)
    × (l.last ≤ l.counter * 4000)
