-- How long the requests of a set's devices wait.
use Rattle.std.specs.Prelude.{◌≡◌, ℕ, ◌≤◌, List, [], ◌∷◌, drop, slice_get, slice_index_or, Option, None, Some}
use Rattle.prem_plant.specs.declared.plant.Device.{Device}
use Rattle.prem_plant.specs.Places.{Extent}
use Rattle.prem_lru.specs.Rules.{rule_of}
use Rattle.prem_gate.specs.declared.request.Request.{Request}
use Rattle.prem_cycle.specs.State.{Setup}
use Rattle.prem_cycle.specs.Inputs.{image_setup, IsTrace}
use Rattle.prem_sound.specs.Serve.Requests.{PutWords, asked_of}
use Rattle.prem_sound.specs.Sound.{AreInputs}
use Rattle.prem_tasks.specs.Broken.{TaskSet}
use Rattle.prem_tasks.specs.At.{placed_by, broken_at, compiled_at, AreLawfulFor}
use Rattle.prem_sets_sound.specs.ImagePremises.Accepted.{HasValues}
use Rattle.prem_resp.specs.declared.busy.load.Load.{Load}
use Rattle.prem_resp.specs.Timed.Timed.{TellsCharges}
use Rattle.prem_latency.specs.Wcet.Sets.{wcet_at, stretch_at, closed_at}
use Rattle.prem_latency.specs.declared.wait.Asking.{Asking}
use Rattle.prem_latency.specs.declared.wait.Closing.{Closing}
use Rattle.prem_latency.specs.Wait.{requests_in, top, IsRoom}
use Rattle.prem_latency.specs.Requests.{AreDistant}
use Rattle.prem_latency.specs.Images.{ServesFound, ServesDevice}
use Rattle.prem_latency.specs.Joined.{TellsWaits}

-- ---- devices that are named

-- of each device that is named the least distance of two requests, in the order of the set's devices
abbrev pub distance_at : List (Option ℕ) → ℕ → Option ℕ
distance_at distances j = slice_index_or distances j None

-- what they ask of the bus: a device that isn't named asks nothing
abbrev pub asking_of : Option ℕ → Device → Asking
asking_of None device = record { cost = 0; every = 1 }
asking_of (Some every) device = record { cost = device.cost; every = every }

abbrev pub askings_of : List (Option ℕ) → List Device → List Asking
askings_of distances [] = []
askings_of distances (device ∷ devices) = asking_of (distance_at distances 0) device ∷ askings_of (drop 1 distances) devices

abbrev pub AreDistances : List (Option ℕ) → Type 0
AreDistances distances = (j every : ℕ) → distance_at distances j ≡ Some every → 1 ≤ every

-- a device that is named keeps its distance, and one that isn't makes no request
abbrev pub KeepsDistance : Option ℕ → List Request → Type 0
KeepsDistance None requests = requests ≡ []
KeepsDistance (Some every) requests = AreDistant every requests

-- requests in order of cycle, those of each device so
pub record KeepDistances (p : Setup) (distances : List (Option ℕ)) (requests : List Request) : Type 0 where
  pub trace : IsTrace p.devices requests
  pub words : PutWords requests
  pub each : (j : ℕ) → KeepsDistance (distance_at distances j) (asked_of j requests)

-- ---- the law

-- For a set that breaks no rule, at any lawful places, all of whose tasks have busy periods within their periods by what their jobs take at most,
-- for all input words, and all requests that keep their distances: a request of a device that is named, and has found room, has been transferred so
-- many cycles behind its cycle as its busy period of the bus lasts, unless the run has finished before. Where its queue holds as many as come in so
-- many cycles, none is dropped, and so each that comes has been transferred by then.
abbrev pub SetsServeDevices : Type 0
SetsServeDevices =
    (set : TaskSet) (places : List Extent) → HasValues set → AreLawfulFor set places → broken_at set places ≡ None →
    (loads : List Load) → TellsCharges (image_setup (compiled_at set places).image) (wcet_at set.plant (placed_by set places)) (stretch_at set.plant (placed_by set places)) loads →
    (distances : List (Option ℕ)) → AreDistances distances → (d every wait : ℕ) (device : Device) → slice_get set.devices d ≡ Some device → distance_at distances d ≡ Some every →
    (tasks : List Closing) → TellsWaits (image_setup (compiled_at set places).image) loads
    (closed_at set.plant (top (askings_of distances set.devices) d) (placed_by set places)) (top (askings_of distances set.devices) d) tasks →
    IsRoom (askings_of distances set.devices) tasks d wait →
    (inputs : List (List ℕ)) (requests : List Request) → AreInputs (image_setup (compiled_at set places).image) inputs → KeepDistances (image_setup (compiled_at set places).image) distances requests →
    ServesFound (rule_of set.plant.policy) (image_setup (compiled_at set places).image) (compiled_at set places).image.content inputs requests d wait
    × (requests_in every wait ≤ device.queue → ServesDevice (rule_of set.plant.policy) (image_setup (compiled_at set places).image) (compiled_at set places).image.content inputs requests d wait)
