use Rattle.prem_bounds.specs.TableOf.{listed}
use Rattle.prem_wcet.specs.Crowds.{place_weight}
use Rattle.prem_wcet.specs.Known.{TellsKnown}
use Rattle.prem_wcet.proofs.scope.weights_of.Given as goal

-- the first n functions are told
abbrev pub invariant-loop-n : goal.invariant-loop-n
invariant-loop-n l = TellsKnown l.functions (place_weight l.crowd) l.places (listed l.code) l.n
