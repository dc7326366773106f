use Rattle.std.proofs.Common.{◌≡◌, map, replicate}
use Rattle.prem_profile.specs.Spent.{no_cost}
use Rattle.prem_profile.specs.Calls.{narrow}
use Rattle.prem_profile.proofs.calls.no_wide_costs.Given as goal

abbrev pub invariant-rows : goal.invariant-rows
invariant-rows l = map narrow l.costs.items ≡ replicate l.counter no_cost
