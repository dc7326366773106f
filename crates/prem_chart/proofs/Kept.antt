-- The last moments of a picture hold.
use Rattle.std.specs.Prelude.{drop}
use Rattle.std.specs.List.{AllByRecursion}
use Rattle.std.proofs.Common.{◌≡◌, ℕ, zero, suc, ◌<◌, ◌≤◌, refl, ap, ◌∙◌, subst, arith, cond, leb, Bool, true, false, List, [], ◌∷◌, length, map, Option, None, Some, slice_get}
use Rattle.std.proofs.lemmas.Bool.{leb-true}
use Rattle.std.proofs.lemmas.List.Elements.{recursion_from_All}
use Rattle.prem_plant.specs.declared.plant.Device.{Device}
use Rattle.prem_plant.specs.Places.{Extent}
use Rattle.prem_lru.specs.Rules.{rule_of}
use Rattle.prem_gate.specs.declared.request.Request.{Request}
use Rattle.prem_image.specs.declared.image.DeviceRecord.{DeviceRecord}
use Rattle.prem_cycle.specs.Inputs.{IsRequest, IsTrace}
use Rattle.prem_sound.specs.Serve.Requests.{PutWords}
use Rattle.prem_layout.specs.Image.{device_records}
use Rattle.prem_layout.specs.Placed.{part_total}
use Rattle.prem_tasks.specs.Broken.{TaskSet}
use Rattle.prem_tasks.specs.Compiled.{coded_in, compiled, places_in}
use Rattle.prem_sets_sound.specs.ImagePremises.Accepted.{setup_in}
use Rattle.prem_latency.specs.Images.{ServesDevice}
use Rattle.prem_latency.specs.Sets.{KeepDistances}
use Rattle.prem_latency.specs.Wait.{requests_in}
use Rattle.prem_time.specs.declared.promises.Promise.{Promise}
use Rattle.prem_time.specs.Words.{Distance}
use Rattle.prem_time.specs.Devices.{device_at, distances_of, named_in, wait_in}
use Rattle.prem_time.specs.Promises.{promise_in, wait_held}
use Rattle.prem_time.proofs.Serving.{sets_serve_named}
use Rattle.prem_chart.specs.Keeping.{stray_in}
use Rattle.prem_chart.specs.Served.{PromisesAreKept}
use Rattle.prem_chart.proofs.Far.{each_keeps}

-- ---- the devices of an image

no_more : (devices : List Device) (places : List Extent) → length (device_records devices places) ≤ length devices
no_more [] places = omega arith
no_more (x ∷ xs) [] = omega arith
no_more (x ∷ xs) (q ∷ qs) = let h : length (device_records xs qs) ≤ length xs = no_more xs qs in omega (arith, h)

set_devices : (set : TaskSet) → length (setup_in set).devices ≤ length set.devices
set_devices set = no_more set.devices (drop (part_total (coded_in set)) (places_in set))

of_devices : (devices : List DeviceRecord) (rs : List Request) → AllByRecursion (IsRequest devices) rs → AllByRecursion (λ (r : Request). r.device < length devices) rs
of_devices devices [] h = tt
of_devices devices (r ∷ rs) h = (h.0.device, of_devices devices rs h.1)

keep : (set : TaskSet) (d : Distance) (ds : List Distance) (rs : List Request) → IsTrace (setup_in set).devices rs → PutWords rs → stray_in (d ∷ ds) set.devices rs ≡ None →
    KeepDistances (setup_in set) (distances_of (d ∷ ds) set.devices) rs
keep set d ds rs trace words strays =
    let all : List Distance = d ∷ ds in
    record {
      trace = trace;
      words = words;
      each = each_keeps all set.devices (length (setup_in set).devices) rs strays
          (of_devices (setup_in set).devices rs (recursion_from_All (IsRequest (setup_in set).devices) rs trace.each)) (set_devices set);
    }

-- ---- a promise

record IsMapped {A B : Type 0} (f : A → B) (xs : List A) (i : ℕ) (y : B) : Type 0 where
  item : A
  there : slice_get xs i ≡ Some item
  is : f item ≡ y

mapped : {A B : Type 0} (f : A → B) (xs : List A) (i : ℕ) (y : B) → slice_get (map f xs) i ≡ Some y → IsMapped f xs i y
mapped f [] i y e = absurd cc
mapped f (x ∷ xs) zero y e = let same : f x ≡ y = cc in record { item = x; there = refl; is = same }
mapped f (x ∷ xs) (suc i) y e = let h = mapped f xs i y e in record { item = h.item; there = h.there; is = h.is }

held : (every queue : ℕ) (o : Option ℕ) (wait : ℕ) → wait_held every queue o ≡ Some wait → (o ≡ Some wait) × (requests_in every wait ≤ queue)
held every queue None wait e = absurd cc
held every queue (Some w) wait e = by (leb (requests_in every w) queue) refl e where
  by : (b : Bool) → leb (requests_in every w) queue ≡ b → cond b (Some w) None ≡ Some wait → (Some w ≡ Some wait) × (requests_in every wait ≤ queue)
  by true le h = let same : w ≡ wait = cc in (h, subst (λ n. requests_in every n ≤ queue) same (leb-true (requests_in every w) queue le))
  by false le h = absurd cc

pub promises_are_kept : PromisesAreKept
promises_are_kept set [] values none are i p at wait is inputs rs inputs_are trace words strays = absurd cc
promises_are_kept set (d ∷ ds) values none are i p at wait is inputs rs inputs_are trace words strays =
    let all : List Distance = d ∷ ds in
    let m = mapped (promise_in set all) (named_in all set.devices) i p at in
    let n = m.item in
    let h = held n.every (device_at set.devices n.number).queue (wait_in set all n.number) wait (ap (λ (x : Promise). x.wait) m.is ∙ is) in
    let serves = sets_serve_named set all values none are i n m.there wait h.0 in
    subst (λ (x : Promise). ServesDevice (rule_of set.plant.policy) (setup_in set) (compiled set).image.content inputs rs x.device wait) m.is
    (serves.served h.1 inputs rs inputs_are (keep set d ds rs trace words strays))
