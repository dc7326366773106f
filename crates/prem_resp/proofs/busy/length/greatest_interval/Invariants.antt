use Rattle.std.proofs.Common.{◌≡◌, ◌≤◌, ◌^◌, max, drop}
use Rattle.prem_resp.specs.Busy.Busy.{greatest_interval}
use Rattle.prem_resp.proofs.busy.length.greatest_interval.Given as goal

-- the greatest so far and that of the rest are that of all
abbrev pub invariant-loop-load : goal.invariant-loop-load
invariant-loop-load l = record {
  rest : max l.greatest (greatest_interval (drop l.load-index l.loads)) ≡ greatest_interval l.loads;
  small : l.greatest ≤ 2 ^ 41;
}
