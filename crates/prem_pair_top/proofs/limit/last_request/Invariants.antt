use Rattle.std.proofs.Common.{◌≡◌, max, drop}
use Rattle.prem_pair.specs.Laws.PairSound.{last_request}
use Rattle.prem_pair_top.proofs.limit.last_request.Given as goal

-- the greatest so far, with that of the rest
abbrev pub invariant-requests : goal.invariant-requests
invariant-requests l = max l.last (last_request (drop l.request-index l.requests)) ≡ last_request l.requests
