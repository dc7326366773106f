-- The weights of pieces where functions in memory have such weights.
use Rattle.std.specs.Prelude.{ℕ}
use Rattle.prem_layout.specs.Bounds.{part_weight, weight_at}
use Rattle.prem_wcet_laws.specs.Weights.{PlaceWeight}
use Rattle.prem_wcet.specs.Crowds.{place_weight}
use Rattle.prem_wcet.specs.declared.walk.PlaceScale.{PlaceScale}

abbrev pub weight_by : PlaceScale → PlaceWeight
weight_by s = place_weight s.crowd.now

-- no stub is called
abbrev pub calls_by : PlaceScale → ℕ → ℕ
calls_by s = part_weight s.count (weight_at s.functions) (λ k. 0)
