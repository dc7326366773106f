use Rattle.std.proofs.Common.{◌≡◌, map, drop}
use Rattle.prem_bounds.specs.Facts.FactOf.{fact_of, first_short}
use Rattle.prem_bounds.proofs.facts.facts.first_short.Given as goal

abbrev pub invariant-loop-fact : goal.invariant-loop-fact
invariant-loop-fact l = first_short (map fact_of (drop l.fact-index l.facts)) ≡ first_short (map fact_of l.facts)
