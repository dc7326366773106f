-- Placed tasks go by what their jobs take at most.
use Rattle.std.specs.Prelude.{◌≡◌, ◌<◌, ◌≤◌, ◌^◌, ℕ, max, Bool, All, List, [], map, slice_index_or}
use Rattle.prem_plant.specs.declared.plant.Plant.{Plant}
use Rattle.prem_plant.specs.declared.plant.Device.{Device}
use Rattle.prem_plant.specs.Places.{Extent}
use Rattle.prem_isa.specs.Plain.{TaskRun}
use Rattle.prem_cycle.specs.Alone.{run_in}
use Rattle.prem_cycle.specs.State.{Setup}
use Rattle.prem_sound.specs.Script.Script.{Script}
use Rattle.prem_sound.specs.Script.Scripts.{Promise}
use Rattle.prem_sound.specs.Scopes.Strands.{Strand, dids_along, IsStrand, ChargedFrom}
use Rattle.prem_syntax.specs.Syntax.{ProgramText}
use Rattle.prem_layout.specs.Parts.{pass_count, stub_passes}
use Rattle.prem_layout.specs.Placed.{Coded, Placed}
use Rattle.prem_layout.specs.Stretch.Paths.{greatest_stated}
use Rattle.prem_sets_sound.specs.StubLaws.Own.Owned.{own_of, setup_of}
use Rattle.prem_sets_sound.specs.StubLaws.Initial.Initial.{content_of}
use Rattle.prem_sets_sound.specs.TaskLaws.TaskFrame.Kept.{KeepsTaskRules}
use Rattle.prem_sets_sound.specs.TaskLaws.TaskFrame.Limits.{task_limits}
use Rattle.prem_sets_sound.specs.TaskLaws.TaskBytes.Parts.{IsPlacedTask}
use Rattle.prem_sets_sound.specs.TaskRuns.Joins.{promise_for}
use Rattle.prem_sets_sound.specs.StubLaws.Charges.Charges.{script_of, TaskCharges}
use Rattle.prem_sets_sound.specs.StubLaws.JoinedRuns.Joined.{JobLimits}
use Rattle.prem_sets_sound.specs.Weave.Weave.{dids_of}
use Rattle.prem_wcet_laws.specs.Wcet.{known_scene, wcet_of, stretch_within}
use Rattle.prem_wcet_laws.specs.Opens.{shortened}
use Rattle.prem_latency.specs.Wcet.Openings.{counts_of, shut_of, AreTrimmed}

-- what a job of a placed task takes at most, and how long its stretches and intervals last without the switch before them
abbrev pub task_wcet : Plant → Placed → ℕ
task_wcet p t = wcet_of p t.plans t.task.program t.at

abbrev pub task_stretch : Plant → Placed → ℕ
task_stretch p t = max (stretch_within (known_scene p t.plans t.task.program t.at) t.task.program) (greatest_stated t.plans)

-- what a job keeps closed at most to transfers of such a cost, without the idle time that its release ends
abbrev pub task_closed : Plant → (top : ℕ) → Placed → ℕ
task_closed p top t = wcet_of p (map (shortened p t.at top) t.plans) t.task.program t.at

-- at any lawful places, and for all input words
abbrev pub TasksGoByWcet : Type 0
TasksGoByWcet =
    (passes : ℕ → ℕ) (p : Plant) (devices : List Device) (tasks : List Coded) (places : List Extent) (k : ℕ) (t : Placed) →
    IsPlacedTask p devices tasks places k t → passes p.«ways» ≡ pass_count (stub_passes p) →
    (x : ProgramText) → KeepsTaskRules p x t → 1 ≤ t.task.jobs → (inputs : List (List ℕ)) → All (λ word. word < 2 ^ 32) (slice_index_or inputs k []) →
    TaskCharges (setup_of p devices places tasks) passes (own_of tasks places k)
    (run_in (setup_of p devices places tasks) (content_of p places tasks) inputs k) (task_limits p t) (task_wcet p t) (task_stretch p t)
    (promise_for x t (slice_index_or inputs k []))

-- ---- what they keep closed

-- a script of calls that state these lengths
abbrev pub script_by : List ℕ → Script
script_by lengths = script_of (map (λ (n : ℕ). record { members = []; stated = n }) lengths)

-- A task that is charged along its weave, each call of which names just the lines that it touches; and a strand of the same instructions by which
-- each of its jobs is charged at most so much, where its calls state for how long they keep the bus closed to transfers of such a cost.
pub record TaskShuts (p : Setup) (passes : ℕ → ℕ) (own : ℕ → Bool) (run : TaskRun) (most : JobLimits) (cycles longest top closed : ℕ) (q : Promise) : Type 0 where
  pub charges : TaskCharges p passes own run most cycles longest q
  pub names : AreTrimmed p.plant charges.joins.weave
  pub strand : Strand
  pub dids_are : dids_along strand ≡ dids_of charges.joins.weave
  pub scopes : IsStrand p.plant strand
  pub stretch : ℕ
  pub closes : ChargedFrom p.plant (script_by (counts_of (shut_of p.plant top) charges.joins.weave)) closed stretch 0 0 0 strand

abbrev pub TasksShutByWcet : Type 0
TasksShutByWcet =
    (passes : ℕ → ℕ) (p : Plant) (devices : List Device) (tasks : List Coded) (places : List Extent) (k : ℕ) (t : Placed) →
    IsPlacedTask p devices tasks places k t → passes p.«ways» ≡ pass_count (stub_passes p) →
    (x : ProgramText) → KeepsTaskRules p x t → 1 ≤ t.task.jobs → (top : ℕ) (inputs : List (List ℕ)) → All (λ word. word < 2 ^ 32) (slice_index_or inputs k []) →
    TaskShuts (setup_of p devices places tasks) passes (own_of tasks places k)
    (run_in (setup_of p devices places tasks) (content_of p places tasks) inputs k) (task_limits p t) (task_wcet p t) (task_stretch p t) top
    (task_closed p top t)
    (promise_for x t (slice_index_or inputs k []))
