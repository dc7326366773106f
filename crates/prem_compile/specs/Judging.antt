-- The first rule that a set breaks, beside its bounds.
use Rattle.std.specs.Prelude.{◌≡◌, List, Option, Result, MatchResult}
use Rattle.prem_plant.specs.Places.{Extent}
use Rattle.prem_layout.specs.Rules.{Refusal}
use Rattle.prem_tasks.specs.Broken.{TaskSet, late_refusal, broken}
use Rattle.prem_tasks.specs.Compiled.{coded_in}
use Rattle.prem_tasks.specs.At.{placed_by}
use Rattle.prem_tasks.specs.Told.{Told}
use Rattle.prem_tasks.specs.Stops.{Stop, Stops}
use Rattle.prem_compile.specs.PlacedStages.Late.{broken_last, found_of}
use Rattle.prem_compile.specs.Bounding.{unbounded_at, unbounded, AreBoundsAt, AreBounds}
use Rattle.prem_compile.specs.declared.bounding.Judged.{Judged}

-- ---- at given places

-- the rules behind bounds
abbrev pub broken_behind_bounds : TaskSet → List Extent → Option (Refusal Told)
broken_behind_bounds set places = late_refusal (broken_last set.plant (coded_in set) (placed_by set places))

pub record AreJudgedAt (set : TaskSet) (places : List Extent) (j : Judged) : Type 0 where
  pub bounds : AreBoundsAt set places j.bounds.items
  pub last : found_of j.refusal ≡ broken_behind_bounds set places

abbrev pub EndsJudgedAt : TaskSet → List Extent → Result Judged Stop → Type 0
EndsJudgedAt set places result = MatchResult result (AreJudgedAt set places) (λ stop. Stops stop (unbounded_at set places))

-- ---- at the default places

pub record AreJudged (set : TaskSet) (j : Judged) : Type 0 where
  pub bounds : AreBounds set j.bounds.items
  pub first : found_of j.refusal ≡ broken set

-- a rule that is broken up to bounds is the first of all
pub record StopsFirst (set : TaskSet) (stop : Stop) : Type 0 where
  pub unbounded : Stops stop (unbounded set)
  pub first : Stops stop (broken set)

abbrev pub EndsJudged : TaskSet → Result Judged Stop → Type 0
EndsJudged set result = MatchResult result (AreJudged set) (StopsFirst set)
