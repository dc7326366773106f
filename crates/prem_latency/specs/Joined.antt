-- Images whose tasks join, each along a weave that is parted into scopes: how long the requests of their devices wait.
use Rattle.std.specs.Prelude.{◌≡◌, ℕ, suc, ◌+◌, ◌<◌, ◌≤◌, min, Bool, List, [], ◌∷◌, length}
use Rattle.prem_plant.specs.Order.Order.{OrderRule}
use Rattle.prem_isa.specs.Plain.{TaskRun}
use Rattle.prem_lru.specs.Entries.{ReplacementRule}
use Rattle.prem_gate.specs.declared.request.Request.{Request}
use Rattle.prem_cycle.specs.Alone.{run_in}
use Rattle.prem_cycle.specs.State.{Setup}
use Rattle.prem_cycle.specs.Runs.Position.Own.{device_of}
use Rattle.prem_sound.specs.Script.Script.{none_begun, Call}
use Rattle.prem_sound.specs.Script.Scripts.{Promise}
use Rattle.prem_sound.specs.Resident.Faultless.{IsPolicy}
use Rattle.prem_sound.specs.Sound.{AreInputs}
use Rattle.prem_sets_sound.specs.Weave.Weave.{dids_of, calls_of}
use Rattle.prem_sets_sound.specs.StubLaws.JoinedRuns.Joined.{JobLimits, IsJoined}
use Rattle.prem_sets_sound.specs.TaskRuns.Joins.{TaskPaces}
use Rattle.prem_sound.specs.Scopes.Strands.{Strand, dids_along, IsStrand, ChargedFrom}
use Rattle.prem_resp.specs.declared.busy.load.Load.{Load}
use Rattle.prem_resp.specs.Busy.Busy.{load_at, IsBalanced}
use Rattle.prem_sets_sound.specs.StubLaws.Charges.Charges.{script_of, TaskCharges}
use Rattle.prem_resp.specs.Timed.Timed.{TellsCharges}
use Rattle.prem_latency.specs.declared.wait.Asking.{Asking}
use Rattle.prem_latency.specs.declared.wait.Closing.{Closing}
use Rattle.prem_latency.specs.Wait.{requests_in, top, IsRoom}
use Rattle.prem_latency.specs.Timeline.{asking_at, closing_at}
use Rattle.prem_latency.specs.Images.{IsGiven, ServesFound, ServesDevice}
use Rattle.prem_latency.specs.Opened.{OpensAlong}

-- calls that state no more than they keep closed for so long a transfer
abbrev pub shortened : (opens : ℕ → ℕ) (longest : ℕ) → List Call → List Call
shortened opens longest [] = []
shortened opens longest (c ∷ cs) = record c { stated = min c.stated (opens 0 + longest) } ∷ shortened (λ i. opens (suc i)) longest cs

-- a task is charged along its weave; the calls of the weave open by some numbers; and by some strand of the same instructions, which may be parted
-- into other scopes, each of its jobs is charged at most so many cycles with calls so shortened
pub record TaskWaits (p : Setup) (passes : ℕ → ℕ) (own : ℕ → Bool) (run : TaskRun) (most : JobLimits) (cycles longest top closed : ℕ) (q : Promise) : Type 0 where
  pub charges : TaskCharges p passes own run most cycles longest q
  pub opens : ℕ → ℕ
  pub opened : OpensAlong p.plant (script_of (calls_of charges.joins.weave)) opens none_begun (dids_of charges.joins.weave)
  pub strand : Strand
  pub dids_are : dids_along strand ≡ dids_of charges.joins.weave
  pub scopes : IsStrand p.plant strand
  pub stretch : ℕ
  pub closes : ChargedFrom p.plant (script_of (shortened opens top (calls_of charges.joins.weave))) closed stretch 0 0 0 strand

-- of each task its period, a busy period of its level that is no longer, and what its jobs keep closed, with a transfer
pub record TellsTask (loads : List Load) (closed : ℕ → ℕ) (top k : ℕ) (t : Closing) : Type 0 where
  pub period : t.period ≡ (load_at loads k).period
  pub balanced : IsBalanced loads k t.length
  pub soon : t.length ≤ t.period
  pub closed_is : closed k + top ≤ t.closed

pub record TellsWaits (p : Setup) (loads : List Load) (closed : ℕ → ℕ) (top : ℕ) (tasks : List Closing) : Type 0 where
  pub count : length tasks ≡ length p.tasks
  pub each : (k : ℕ) → k < length p.tasks → TellsTask loads closed top k (closing_at tasks k)

-- in every run of such an image, for all input words and all requests that keep their distances: where so many cycles are enough, each request of the
-- device that has found room has been transferred so many cycles behind its own, unless the run has finished before; and each that comes has been, and
-- none is dropped, where the queue holds as many as come in so many cycles
abbrev pub JoinedImagesServeDevices : Type 0
JoinedImagesServeDevices =
    (rule : ReplacementRule) (order : OrderRule) (passes : ℕ → ℕ) (p : Setup) (content : List ℕ) (own : ℕ → ℕ → Bool) (most : ℕ → JobLimits)
    (cycles longest closed : ℕ → ℕ) (promises : List (List ℕ) → ℕ → Promise) (limit : ℕ) (loads : List Load) (devices : List Asking)
    (tasks : List Closing) (d wait : ℕ) →
    IsPolicy rule order passes → IsJoined passes p content own most promises limit →
    ((inputs : List (List ℕ)) → AreInputs p inputs → (k : ℕ) → k < length p.tasks →
    TaskWaits p passes (own k) (run_in p content inputs k) (most k) (cycles k) (longest k) (top devices d) (closed k) (promises inputs k)) →
    TellsCharges p cycles longest loads → TellsWaits p loads closed (top devices d) tasks →
    d < length p.devices → 1 ≤ (asking_at devices d).cost → IsRoom devices tasks d wait →
    (inputs : List (List ℕ)) (requests : List Request) → IsGiven p devices inputs requests →
    ServesFound rule p content inputs requests d wait × (requests_in (asking_at devices d).every wait ≤ (device_of p d).device.queue → ServesDevice rule p content inputs requests d wait)

-- ---- what meets this

-- each task that is charged along its weave is such a task, whatever the transfer: its calls open within what they state, and its jobs keep closed no
-- more than they are charged
abbrev pub ChargedTasksWait : Type 0
ChargedTasksWait =
    (p : Setup) (passes : ℕ → ℕ) (own : ℕ → Bool) (run : TaskRun) (most : JobLimits) (cycles longest top : ℕ) (q : Promise) →
    TaskCharges p passes own run most cycles longest q → TaskWaits p passes own run most cycles longest top cycles q

-- so is each that joins at its pace, with the bounds of the rules
abbrev pub PacedTasksWait : Type 0
PacedTasksWait =
    (p : Setup) (passes : ℕ → ℕ) (own : ℕ → Bool) (run : TaskRun) (most : JobLimits) (longest top : ℕ) (q : Promise) →
    TaskPaces p passes own run most longest q → TaskWaits p passes own run most most.cycles longest top most.cycles q
