use Rattle.std.proofs.Common.{◌≡◌, replicate}
use Rattle.prem_profile.specs.Spent.{no_cost}
use Rattle.prem_profile.proofs.strip.no_costs.Given as goal

abbrev pub invariant-rows : goal.invariant-rows
invariant-rows l = l.costs.items ≡ replicate l.counter no_cost
