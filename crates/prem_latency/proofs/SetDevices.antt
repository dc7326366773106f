-- The devices of a set in its image, and what those ask that are named.
use Rattle.std.specs.Prelude.{drop, slice_get, slice_index_or}
use Rattle.std.specs.Option.{option_map_or}
use Rattle.std.proofs.Common.{◌≡◌, ℕ, zero, suc, ◌<◌, ◌≤◌, refl, ap, ◌∙◌, sym, subst, arith, Some, None, Option, List, [], ◌∷◌, length, inl, inr}
use Rattle.std.proofs.lemmas.Option.{get_or_from_slice_get}
use Rattle.prem_plant.specs.declared.plant.Device.{Device}
use Rattle.prem_plant.specs.Places.{Extent}
use Rattle.prem_gate.specs.declared.request.Request.{Request}
use Rattle.prem_image.specs.declared.image.DeviceRecord.{DeviceRecord}
use Rattle.prem_cycle.specs.State.{Setup}
use Rattle.prem_cycle.specs.Inputs.{no_device}
use Rattle.prem_cycle.specs.Runs.Transfer.Lengths.{device_cost}
use Rattle.prem_sound.specs.Serve.Requests.{asked_of}
use Rattle.prem_layout.specs.Image.{device_records}
use Rattle.prem_latency.specs.Timeline.{asking_at}
use Rattle.prem_latency.specs.Requests.{AreDistant, IsAskingOf, AreAskings}
use Rattle.prem_latency.specs.Sets.{distance_at, asking_of, askings_of, AreDistances, KeepsDistance}

-- ---- what is asked

later_distance : (distances : List (Option ℕ)) (j : ℕ) → distance_at (drop 1 distances) j ≡ distance_at distances (suc j)
later_distance [] j = refl
later_distance (x ∷ xs) j = refl

pub asking_is : (distances : List (Option ℕ)) (devices : List Device) (j : ℕ) (device : Device) → slice_get devices j ≡ Some device →
    asking_at (askings_of distances devices) j ≡ asking_of (distance_at distances j) device
asking_is distances [] j device e = cc
asking_is distances (x ∷ devices) zero device e = let same : x ≡ device = cc in ap (asking_of (distance_at distances 0)) same
asking_is distances (x ∷ devices) (suc j) device e = asking_is (drop 1 distances) devices j device e ∙ ap (λ o. asking_of o device) (later_distance distances j)

askings_long : (distances : List (Option ℕ)) (devices : List Device) → length (askings_of distances devices) ≡ length devices
askings_long distances [] = refl
askings_long distances (x ∷ devices) = ap suc (askings_long (drop 1 distances) devices)

device_there : (devices : List Device) (j : ℕ) → j < length devices → (device : Device) × (slice_get devices j ≡ Some device)
device_there [] j lt = absurd (omega (arith, lt))
device_there (x ∷ devices) zero lt = (x, refl)
device_there (x ∷ devices) (suc j) lt = device_there devices j (omega (arith, lt))

-- ---- records

-- the record of a device in an image that has one for each
record_there : (devices : List Device) (places : List Extent) → length (device_records devices places) ≡ length devices → (j : ℕ) (device : Device) → slice_get devices j ≡ Some device →
    (r : DeviceRecord) × ((slice_get (device_records devices places) j ≡ Some r) × (r.device ≡ device))
record_there [] places long j device e = cc
record_there (x ∷ devices) [] long j device e = absurd (omega (arith, long))
record_there (x ∷ devices) (q ∷ places) long zero device e = (record { device = x; area = q.0 }, (refl, cc))
record_there (x ∷ devices) (q ∷ places) long (suc j) device e = record_there devices places (omega (arith, long)) j device e

pub cost_there : (devices : List Device) (places : List Extent) → length (device_records devices places) ≡ length devices →
    (j : ℕ) (device : Device) → slice_get devices j ≡ Some device → device_cost (device_records devices places) j ≡ device.cost
cost_there devices places long j device e =
    let r = record_there devices places long j device e in
    ap (λ (o : Option DeviceRecord). option_map_or (λ (d : DeviceRecord). d.device.cost) o 0) r.1.0 ∙ ap (λ (d : Device). d.cost) r.1.1

pub device_is : (devices : List Device) (places : List Extent) → length (device_records devices places) ≡ length devices → (j : ℕ) (device : Device) → slice_get devices j ≡ Some device →
    (slice_index_or (device_records devices places) j no_device).device ≡ device
device_is devices places long j device e =
    let r = record_there devices places long j device e in
    ap (λ (d : DeviceRecord). d.device) (get_or_from_slice_get (device_records devices places) j r.0 no_device r.1.0) ∙ r.1.1

-- ---- requests that keep their distances

module _ (p : Setup) (requests : List Request) (j : ℕ) (device : Device) (cost : device_cost p.devices j ≡ device.cost) where
  keeps_one : (o : Option ℕ) → ((every : ℕ) → o ≡ Some every → 1 ≤ every) → KeepsDistance o (asked_of j requests) → IsAskingOf p requests j (asking_of o device)
  keeps_one None some keeps = record { cost = inr (refl, keeps); every = omega arith; distant = subst (AreDistant 1) (sym keeps) tt }
  keeps_one (Some every) some keeps = record { cost = inl (sym cost); every = some every refl; distant = keeps }

pub keep_askings : (p : Setup) (requests : List Request) (distances : List (Option ℕ)) (devices : List Device) (places : List Extent) →
    p.devices ≡ device_records devices places → length (device_records devices places) ≡ length devices → AreDistances distances →
    ((j : ℕ) → KeepsDistance (distance_at distances j) (asked_of j requests)) → AreAskings p requests (askings_of distances devices)
keep_askings p requests distances devices places same long some keeps =
    let count : length p.devices ≡ length devices = ap (λ (rs : List DeviceRecord). length rs) same ∙ long in
    record {
      count = askings_long distances devices ∙ sym count;
      each = λ j lt.
          let d = device_there devices j (omega (arith, lt, count)) in
          let cost : device_cost p.devices j ≡ d.0.cost = ap (λ (rs : List DeviceRecord). device_cost rs j) same ∙ cost_there devices places long j d.0 d.1 in
          subst (IsAskingOf p requests j) (sym (asking_is distances devices j d.0 d.1)) (keeps_one p requests j d.0 cost (distance_at distances j) (some j) (keeps j));
    }
