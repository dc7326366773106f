use Rattle.std.proofs.Common.{◌≡◌, ◌+◌, ◌*◌, ◌^◌, ◌≤◌, drop}
use Rattle.prem_pair.specs.Laws.PairSound.{all_costs}
use Rattle.prem_pair_top.proofs.limit.all_costs.Given as goal

-- those so far and those of the rest are all
abbrev pub invariant-requests : goal.invariant-requests
invariant-requests l = record {
  sum : l.costs + all_costs l.devices (drop l.request-index l.requests) ≡ all_costs l.devices l.requests;
  few : l.costs ≤ l.request-index * 2 ^ 32;
}
