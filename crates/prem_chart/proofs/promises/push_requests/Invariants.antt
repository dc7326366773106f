use Rattle.std.proofs.Common.{◌≡◌, ◌++◌, drop}
use Rattle.prem_chart.specs.Promises.{requests_from}
use Rattle.prem_chart.proofs.promises.push_requests.Given as goal

-- what is written and the rest give what all give
abbrev pub invariant-requests : goal.invariant-requests
invariant-requests l =
    l.text.items ++ requests_from l.sheet l.devices l.cycles l.row l.device l.wait l.behind l.level (drop l.request-index l.requests)
    ≡ l.initial.text.items ++ requests_from l.sheet l.devices l.cycles l.row l.device l.wait 0 0 l.requests
