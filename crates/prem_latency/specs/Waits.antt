-- How long the requests of a device wait where all tasks keep to their scripts, by what their scopes are charged: nothing but numbers is said of
-- the tasks.
use Rattle.std.specs.Prelude.{◌≡◌, ℕ, suc, ◌+◌, ◌<◌, ◌≤◌, Bool, false, List, length, slice_index}
use Rattle.prem_plant.specs.Order.Order.{OrderRule}
use Rattle.prem_isa.specs.Plain.{TaskRun}
use Rattle.prem_lru.specs.Entries.{ReplacementRule}
use Rattle.prem_gate.specs.declared.request.Request.{Request}
use Rattle.prem_cycle.specs.State.{Setup}
use Rattle.prem_cycle.specs.Cycle.{is_finished}
use Rattle.prem_cycle.specs.Runs.Position.Own.{device_of}
use Rattle.prem_sound.specs.Script.Script.{Script}
use Rattle.prem_sound.specs.Script.Scripts.{AreScripts}
use Rattle.prem_sound.specs.Serve.Requests.{asked_before, asked_of, transferred_of}
use Rattle.prem_sound.specs.Resident.Faultless.{IsPolicy}
use Rattle.prem_sound.specs.Sound.{IsRun}
use Rattle.prem_sound.specs.Scopes.Charged.{Scoping, IsScoped, charges_by}
use Rattle.prem_resp.specs.declared.busy.load.Load.{Load}
use Rattle.prem_resp.specs.Busy.Busy.{load_at, IsBalanced}
use Rattle.prem_resp.specs.Deadline.Deadlines.{AreLoads}
use Rattle.prem_latency.specs.declared.wait.Asking.{Asking}
use Rattle.prem_latency.specs.declared.wait.Closing.{Closing}
use Rattle.prem_latency.specs.Wait.{requests_in, top, IsRoom}
use Rattle.prem_latency.specs.Timeline.{asking_at, closing_at}
use Rattle.prem_latency.specs.Requests.{AreAskings, states_of, found_of, AreTransferred}
use Rattle.prem_latency.specs.Closed.{IsOpened, short_of, IsClosedBy}

-- of a task with a script and a load: its jobs end within the busy period of its level, which lasts no longer than its period; and what a job keeps
-- closed, by what the scopes of a parting of its own are charged, with the idle time that its release ends
pub record IsClosingBy (p : Setup) (run : TaskRun) (s : Script) (loads : List Load) (longest k : ℕ) (t : Closing) : Type 0 where
  pub period : t.period ≡ (load_at loads k).period
  pub balanced : IsBalanced loads k t.length
  pub soon : t.length ≤ t.period
  pub opens : ℕ → ℕ
  pub opened : IsOpened p.plant run s opens
  pub parting : Scoping
  pub parted : IsScoped p.plant run parting
  pub most : ℕ
  pub jobs : IsClosedBy p.plant run (short_of s opens longest) (charges_by p.plant run parting) most
  pub closed : most + longest ≤ t.closed

pub record AreClosingsBy (p : Setup) (runs : ℕ → TaskRun) (scripts : ℕ → Script) (loads : List Load) (longest : ℕ) (tasks : List Closing) : Type 0 where
  pub count : length tasks ≡ length p.tasks
  pub each : (k : ℕ) → k < length p.tasks → IsClosingBy p (runs k) (scripts k) loads longest k (closing_at tasks k)

-- a run of tasks that keep to their scripts, with devices, loads and tasks of which this is said
pub record ServesBy (rule : ReplacementRule) (order : OrderRule) (passes : ℕ → ℕ) (p : Setup) (content : List ℕ) (inputs : List (List ℕ))
    (requests : List Request) (own : ℕ → ℕ → Bool) (runs : ℕ → TaskRun) (scripts : ℕ → Script) (scopings : ℕ → Scoping) (loads : List Load)
    (devices : List Asking) (tasks : List Closing) (d : ℕ) : Type 0 where
  pub policy : IsPolicy rule order passes
  pub run : IsRun p content requests
  pub are_scripts : AreScripts p passes content inputs own runs scripts
  pub are_loads : AreLoads p runs scripts scopings loads
  pub askings : AreAskings p requests devices
  pub closings : AreClosingsBy p runs scripts loads (top devices d) tasks
  pub there : d < length p.devices
  pub asks : 1 ≤ (asking_at devices d).cost

-- then each request of the device that has found room has been transferred so many cycles behind its cycle, unless the run has finished before
abbrev pub ChargesServeInTime : Type 0
ChargesServeInTime =
    (rule : ReplacementRule) (order : OrderRule) (passes : ℕ → ℕ) (p : Setup) (content : List ℕ) (inputs : List (List ℕ)) (requests : List Request)
    (own : ℕ → ℕ → Bool) (runs : ℕ → TaskRun) (scripts : ℕ → Script) (scopings : ℕ → Scoping) (loads : List Load) (devices : List Asking)
    (tasks : List Closing) (d wait t n : ℕ) →
    ServesBy rule order passes p content inputs requests own runs scripts scopings loads devices tasks d → IsRoom devices tasks d wait →
    ((m : ℕ) → m < n → is_finished (states_of rule p content inputs requests m) ≡ false) → t + wait ≤ n →
    AreTransferred (found_of rule p content inputs requests d (suc t)) (transferred_of d (states_of rule p content inputs requests n).log.transfers)

-- and none is dropped where the queue of the device holds as many as come in so many cycles
abbrev pub ChargesDropNone : Type 0
ChargesDropNone =
    (rule : ReplacementRule) (order : OrderRule) (passes : ℕ → ℕ) (p : Setup) (content : List ℕ) (inputs : List (List ℕ)) (requests : List Request)
    (own : ℕ → ℕ → Bool) (runs : ℕ → TaskRun) (scripts : ℕ → Script) (scopings : ℕ → Scoping) (loads : List Load) (devices : List Asking)
    (tasks : List Closing) (d wait n : ℕ) →
    ServesBy rule order passes p content inputs requests own runs scripts scopings loads devices tasks d → IsRoom devices tasks d wait →
    requests_in (asking_at devices d).every wait ≤ (device_of p d).device.queue →
    slice_index (states_of rule p content inputs requests n).log.dropped d ≡ 0

-- then each request of the device that comes has been transferred so many cycles behind its cycle, in order, unless the run has finished before
abbrev pub ChargesServeEach : Type 0
ChargesServeEach =
    (rule : ReplacementRule) (order : OrderRule) (passes : ℕ → ℕ) (p : Setup) (content : List ℕ) (inputs : List (List ℕ)) (requests : List Request)
    (own : ℕ → ℕ → Bool) (runs : ℕ → TaskRun) (scripts : ℕ → Script) (scopings : ℕ → Scoping) (loads : List Load) (devices : List Asking)
    (tasks : List Closing) (d wait t n : ℕ) →
    ServesBy rule order passes p content inputs requests own runs scripts scopings loads devices tasks d → IsRoom devices tasks d wait →
    requests_in (asking_at devices d).every wait ≤ (device_of p d).device.queue →
    ((m : ℕ) → m < n → is_finished (states_of rule p content inputs requests m) ≡ false) → t + wait ≤ n →
    AreTransferred (asked_of d (asked_before (suc t) requests)) (transferred_of d (states_of rule p content inputs requests n).log.transfers)
