use Rattle.std.proofs.Common.{◌≡◌, None, drop}
use Rattle.prem_chart.specs.Keeping.{are_far}
use Rattle.prem_chart.proofs.keeping.are_far.Given as goal

-- the rest keeps its distance behind the last one as all do
abbrev pub invariant-loop-request : goal.invariant-loop-request
invariant-loop-request l = are_far l.every l.j l.last (drop l.request-index l.requests) ≡ are_far l.every l.j None l.requests
