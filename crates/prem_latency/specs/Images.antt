-- How long the requests of a device of an image wait, by what the scopes of its tasks are charged, whatever the input words are and whenever the
-- devices ask.
use Rattle.std.specs.Prelude.{◌≡◌, ℕ, suc, ◌+◌, ◌<◌, ◌≤◌, false, List, length, slice_index}
use Rattle.prem_plant.specs.Order.Order.{OrderRule}
use Rattle.prem_lru.specs.Entries.{ReplacementRule}
use Rattle.prem_gate.specs.declared.request.Request.{Request}
use Rattle.prem_cycle.specs.State.{Setup}
use Rattle.prem_cycle.specs.Inputs.{IsTrace}
use Rattle.prem_cycle.specs.Cycle.{is_finished}
use Rattle.prem_cycle.specs.Runs.Position.Own.{device_of}
use Rattle.prem_sound.specs.Script.Scripts.{Promise}
use Rattle.prem_sound.specs.Serve.Requests.{PutWords, asked_before, asked_of, transferred_of}
use Rattle.prem_sound.specs.Resident.Faultless.{IsPolicy}
use Rattle.prem_sound.specs.Sound.{AreInputs, HasScripts}
use Rattle.prem_latency.specs.Wait.{requests_in, top, IsRoom}
use Rattle.prem_latency.specs.Timeline.{asking_at}
use Rattle.prem_latency.specs.Requests.{AreAskings, states_of, found_of, AreTransferred}
use Rattle.prem_sound.specs.Scopes.Charged.{Scoping}
use Rattle.prem_resp.specs.declared.busy.load.Load.{Load}
use Rattle.prem_resp.specs.Deadline.Deadlines.{AreLoads}
use Rattle.prem_latency.specs.declared.wait.Asking.{Asking}
use Rattle.prem_latency.specs.declared.wait.Closing.{Closing}
use Rattle.prem_latency.specs.Waits.{AreClosingsBy}

-- input words for each task, and requests in order of cycle, those of each device as far apart as is said of it
pub record IsGiven (p : Setup) (devices : List Asking) (inputs : List (List ℕ)) (requests : List Request) : Type 0 where
  pub inputs_are : AreInputs p inputs
  pub trace : IsTrace p.devices requests
  pub words : PutWords requests
  pub askings : AreAskings p requests devices

-- each request of the device that has found room has been transferred so many cycles behind its cycle, unless the run has finished before
abbrev pub ServesFound : ReplacementRule → Setup → (content : List ℕ) (inputs : List (List ℕ)) (requests : List Request) (d wait : ℕ) → Type 0
ServesFound rule p content inputs requests d wait =
    (t n : ℕ) → ((m : ℕ) → m < n → is_finished (states_of rule p content inputs requests m) ≡ false) → t + wait ≤ n →
    AreTransferred (found_of rule p content inputs requests d (suc t)) (transferred_of d (states_of rule p content inputs requests n).log.transfers)

-- each that comes has been, and none is dropped
pub record ServesDevice (rule : ReplacementRule) (p : Setup) (content : List ℕ) (inputs : List (List ℕ)) (requests : List Request) (d wait : ℕ) : Type 0 where
  pub served : (t n : ℕ) → ((m : ℕ) → m < n → is_finished (states_of rule p content inputs requests m) ≡ false) → t + wait ≤ n →
      AreTransferred (asked_of d (asked_before (suc t) requests)) (transferred_of d (states_of rule p content inputs requests n).log.transfers)
  pub kept : (n : ℕ) → slice_index (states_of rule p content inputs requests n).log.dropped d ≡ 0

-- in every run of an image that has scripts, whose tasks are charged, and keep the bus closed, as loads and tasks tell, for all input words: where
-- so many cycles are enough, each request of the device that has found room has been transferred so many cycles behind its own, unless the run has
-- finished before; and each that comes has been, and none is dropped, where the queue holds as many as come in so many cycles
abbrev pub ChargedImagesServeDevices : Type 0
ChargedImagesServeDevices =
    (rule : ReplacementRule) (order : OrderRule) (passes : ℕ → ℕ) (p : Setup) (content : List ℕ) (promises : List (List ℕ) → ℕ → Promise) (limit : ℕ)
    (scopings : List (List ℕ) → ℕ → Scoping) (loads : List Load) (devices : List Asking) (tasks : List Closing) (d wait : ℕ) →
    IsPolicy rule order passes → (h : HasScripts passes p content promises limit) →
    ((inputs : List (List ℕ)) → AreInputs p inputs → AreLoads p (h.runs inputs) (h.scripts inputs) (scopings inputs) loads) →
    ((inputs : List (List ℕ)) → AreInputs p inputs → AreClosingsBy p (h.runs inputs) (h.scripts inputs) loads (top devices d) tasks) →
    d < length p.devices → 1 ≤ (asking_at devices d).cost → IsRoom devices tasks d wait →
    (inputs : List (List ℕ)) (requests : List Request) → IsGiven p devices inputs requests →
    ServesFound rule p content inputs requests d wait × (requests_in (asking_at devices d).every wait ≤ (device_of p d).device.queue → ServesDevice rule p content inputs requests d wait)
