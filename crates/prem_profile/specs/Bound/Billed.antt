-- A compiled set in memory with its bill.
use Rattle.std.specs.Prelude.{◌≡◌, ◌≤◌, List, length, Result, MatchResult}
use Rattle.prem_plant.specs.Places.{Extent}
use Rattle.prem_plant.specs.Ranges.{IsPlant}
use Rattle.prem_tasks.specs.Broken.{TaskSet, broken}
use Rattle.prem_tasks.specs.Compiled.{placed_in}
use Rattle.prem_tasks.specs.At.{broken_at, placed_by}
use Rattle.prem_tasks.specs.Stops.{Stop, Stops}
use Rattle.prem_tasks.specs.declared.fail.CompileFail.{CompileFail}
use Rattle.prem_compile.specs.CompiledOf.{IsCompiled, IsRefused}
use Rattle.prem_compile.specs.Joined.{IsMade, IsMadeAt}
use Rattle.prem_profile.specs.declared.bound.set.BilledSet.{BilledSet}
use Rattle.prem_profile.specs.Bound.Profile.{AreShort, set_bill}

-- a set that breaks no rule is compiled as it is meant, and has its bill, whose numbers are told
pub record IsBilled (set : TaskSet) (b : BilledSet) : Type 0 where
  pub compiled : IsCompiled set b.compiled
  pub bill : b.bill.items ≡ set_bill set.plant (placed_in set)
  pub plant : IsPlant set.plant
  pub short : AreShort set.plant (placed_in set)
  pub few : length (placed_in set) ≤ 16

abbrev pub IsBilledAnswer : TaskSet → Result BilledSet CompileFail → Type 0
IsBilledAnswer set result = MatchResult result (IsBilled set) (IsRefused set)

-- ---- what the stages give to each other

-- at places
pub record IsBilledAt (set : TaskSet) (places : List Extent) (b : BilledSet) : Type 0 where
  pub made : IsMadeAt set places b.compiled
  pub bill : b.bill.items ≡ set_bill set.plant (placed_by set places)
  pub plant : IsPlant set.plant
  pub short : AreShort set.plant (placed_by set places)
  pub few : length (placed_by set places) ≤ 16

abbrev pub EndsBilledAt : TaskSet → List Extent → Result BilledSet Stop → Type 0
EndsBilledAt set places result = MatchResult result (IsBilledAt set places) (λ stop. Stops stop (broken_at set places))

-- at the default places
pub record IsBilledMade (set : TaskSet) (b : BilledSet) : Type 0 where
  pub made : IsMade set b.compiled
  pub bill : b.bill.items ≡ set_bill set.plant (placed_in set)
  pub plant : IsPlant set.plant
  pub short : AreShort set.plant (placed_in set)
  pub few : length (placed_in set) ≤ 16

abbrev pub EndsBilled : TaskSet → Result BilledSet Stop → Type 0
EndsBilled set result = MatchResult result (IsBilledMade set) (λ stop. Stops stop (broken set))
