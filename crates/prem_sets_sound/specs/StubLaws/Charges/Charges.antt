-- Images whose tasks join, each along a weave that is parted into scopes: their runs go by what the scopes are charged.
use Rattle.std.specs.Prelude.{◌≡◌, ℕ, ◌<◌, nat_le, Bool, List, length}
use Rattle.prem_sets_sound.specs.Prelude.{run_in, Setup, TaskRun, count_in, ReplacementRule, OrderRule, Plant, IsPolicy, Call, Script, Promise, AreInputs, Sound}
use Rattle.prem_sets_sound.specs.TaskRuns.Joins.{TaskPaces}
use Rattle.prem_sets_sound.specs.StubLaws.JoinedRuns.Joined.{JobLimits, TaskJoins, IsJoined}
use Rattle.prem_sets_sound.specs.Weave.Pace.Pace.{AreStated}
use Rattle.prem_sets_sound.specs.Weave.Weave.{dids_of, calls_of}
use Rattle.prem_sound.specs.Limits.{jobs_limit}
use Rattle.prem_sound.specs.Scopes.Lines.{is_roomy}
use Rattle.prem_sound.specs.Scopes.Strands.{Strand, dids_along, IsStrand, ChargedFrom}

-- a script of these calls
abbrev pub script_of : List Call → Script
script_of calls = record { count = 0; calls = calls; due = 0 }

-- a task joins along a weave whose instructions are those of a strand: each of its jobs is charged at most so many cycles, and its
-- stretches and calls last no longer than so many
pub record TaskCharges (p : Setup) (passes : ℕ → ℕ) (own : ℕ → Bool) (run : TaskRun) (most : JobLimits) (cycles longest : ℕ) (q : Promise) : Type 0 where
  pub joins : TaskJoins p passes own run most q
  pub strand : Strand
  pub dids_are : dids_along strand ≡ dids_of joins.weave
  pub scopes : IsStrand p.plant strand
  pub charged : ChargedFrom p.plant (script_of (calls_of joins.weave)) cycles longest 0 0 0 strand
  pub stated : AreStated longest joins.weave

-- such an image is sound up to the limit of the charges, whatever the limit of its joins is
abbrev pub JoinedImagesAreSoundByCharges : Type 0
JoinedImagesAreSoundByCharges =
    (rule : ReplacementRule) (order : OrderRule) (passes : ℕ → ℕ) (p : Setup) (content : List ℕ) (own : ℕ → ℕ → Bool) (most : ℕ → JobLimits)
    (cycles longest : ℕ → ℕ) (promises : List (List ℕ) → ℕ → Promise) (limit : ℕ) →
    IsPolicy rule order passes → IsJoined passes p content own most promises limit →
    ((inputs : List (List ℕ)) → AreInputs p inputs → (k : ℕ) → k < length p.tasks → TaskCharges p passes (own k) (run_in p content inputs k) (most k) (cycles k) (longest k) (promises inputs k)) →
    Sound rule p content promises (jobs_limit p cycles)

-- a task that joins at its pace is such a task, where each of its instructions is a scope by itself
abbrev pub PacedTasksAreCharged : Type 0
PacedTasksAreCharged =
    (p : Setup) (passes : ℕ → ℕ) (own : ℕ → Bool) (run : TaskRun) (most : JobLimits) (longest : ℕ) (q : Promise) →
    TaskPaces p passes own run most longest q → TaskCharges p passes own run most most.cycles longest q

-- roomy sets by the count of lines that the rules take
abbrev pub RoomIsCounted : Type 0
RoomIsCounted = (plant : Plant) (lines : List ℕ) (set : ℕ) → is_roomy plant lines set ≡ nat_le (count_in plant.sets lines set) plant.«ways»
