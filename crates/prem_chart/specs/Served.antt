-- What the last moments of a picture promise.
use Rattle.std.specs.Prelude.{◌≡◌, ℕ, List, slice_get, None, Some}
use Rattle.prem_lru.specs.Rules.{rule_of}
use Rattle.prem_gate.specs.declared.request.Request.{Request}
use Rattle.prem_cycle.specs.Inputs.{IsTrace}
use Rattle.prem_sound.specs.Serve.Requests.{PutWords}
use Rattle.prem_sound.specs.Sound.{AreInputs}
use Rattle.prem_tasks.specs.Broken.{TaskSet, broken}
use Rattle.prem_tasks.specs.Compiled.{compiled}
use Rattle.prem_sets_sound.specs.ImagePremises.Accepted.{HasValues, setup_in}
use Rattle.prem_latency.specs.Images.{ServesDevice}
use Rattle.prem_time.specs.declared.promises.Promise.{Promise}
use Rattle.prem_time.specs.Words.{AreDistances, Distance}
use Rattle.prem_chart.specs.Keeping.{stray_in}
use Rattle.prem_chart.specs.Answer.{promised}

-- Of a set that breaks no rule, with distances of some of its devices: for all input words, and all requests that keep these distances, where the other
-- devices make none, each request of a device to which a wait is promised has been transferred so many cycles behind its own, unless the run has finished
-- before, and none of the device is dropped.
abbrev pub PromisesAreKept : Type 0
PromisesAreKept =
    (set : TaskSet) (ds : List Distance) → HasValues set → broken set ≡ None → AreDistances ds → (i : ℕ) (p : Promise) → slice_get (promised set ds) i ≡ Some p →
    (wait : ℕ) → p.wait ≡ Some wait → (inputs : List (List ℕ)) (requests : List Request) → AreInputs (setup_in set) inputs → IsTrace (setup_in set).devices requests → PutWords requests →
    stray_in ds set.devices requests ≡ None →
    ServesDevice (rule_of set.plant.policy) (setup_in set) (compiled set).image.content inputs requests p.device wait
