-- What is told of marked functions.
use Rattle.std.specs.Prelude.{ℕ, nat_lt, if◌then◌else◌, List, [], ◌∷◌, length, Option, None, Some}
use Rattle.prem_plant.specs.declared.plant.Plant.{Plant}
use Rattle.prem_layout.specs.Plans.{Plan}
use Rattle.prem_layout.specs.Footprint.{most_of}
use Rattle.prem_layout.specs.Bounds.{CodeTable, bound_of}
use Rattle.prem_layout.specs.Facts.{IntervalFact}
use Rattle.prem_bounds.specs.declared.facts.facts.IntervalFact.{IntervalFact as FactFound}

abbrev pub fact_of : FactFound → IntervalFact
fact_of f = record { function = f.function; lines = f.lines; most = f.most; bound = f.bound; stated = f.stated }

abbrev pub fact_with : Plant → CodeTable → ℕ → Plan → List ℕ → IntervalFact
fact_with p t k plan lines = record {
  function = plan.function;
  lines = length lines;
  most = most_of p.sets lines;
  bound = bound_of p t k (length lines);
  stated = plan.stated;
}

abbrev pub first_short : List IntervalFact → Option IntervalFact
first_short [] = None
first_short (f ∷ fs) = if nat_lt f.stated f.bound then Some f else first_short fs
