-- What is promised by the times of a set in memory is what is promised to the devices of the set.
use Rattle.std.proofs.Common.{◌≡◌, ℕ, ◌+◌, ◌≤◌, refl, ap, ◌∙◌, sym, subst, arith, List, [], ◌∷◌, length, map, Option, None, Some}
use Rattle.std.proofs.lemmas.List.{length-map}
use Rattle.prem_plant.specs.declared.plant.Device.{Device}
use Rattle.prem_tasks.specs.Lawful.{AreDevices}
use Rattle.prem_tasks.specs.Broken.{TaskSet}
use Rattle.prem_wcet.specs.Times.{TimesText}
use Rattle.prem_wcet.specs.TimedOf.{IsTimed}
use Rattle.prem_wcet.specs.declared.timed.Timed.{Timed}
use Rattle.prem_resp.specs.declared.busy.load.Load.{Load}
use Rattle.prem_resp.specs.declared.busy.length.Busy.{Busy}
use Rattle.prem_resp.specs.Fits.{found_in}
use Rattle.prem_latency.specs.declared.wait.Asking.{Asking}
use Rattle.prem_time.specs.declared.devices.Bus.{Bus}
use Rattle.prem_time.specs.declared.devices.Named.{Named}
use Rattle.prem_time.specs.declared.promises.Promise.{Promise}
use Rattle.prem_time.specs.Words.{Distance}
use Rattle.prem_time.specs.Devices.{DeviceTold, device_at, device_in, every_of, named_before, named_from, named_in, wait_by, wait_in}
use Rattle.prem_time.specs.Told.{IsBus, closed_told, devices_told, loads_by, times_by, tops_of, waits_by, waits_told}
use Rattle.prem_time.specs.Promises.{promise_in, promise_told, promises_by, promises_in, promises_told}
use Rattle.prem_time.proofs.LoadsAre.{devices_same}

-- ---- waits

waits_back : (devices : List Device) (askings : List Asking) (loads : List Load) (found : List Busy) (times : List TimesText) (i : ℕ) (ns : List Named) →
    map (λ (d : DeviceTold). d.wait) (devices_told devices ns (waits_told askings loads found times i ns)) ≡ waits_told askings loads found times i ns
waits_back devices askings loads found times i [] = refl
waits_back devices askings loads found times i (n ∷ ns) =
    ap (λ ws. wait_by askings loads found (closed_told times i) n.number ∷ ws) (waits_back devices askings loads found times (i + 1) ns)

waits_there : (set : TaskSet) (ds : List Distance) (ns : List Named) → map (λ (d : DeviceTold). d.wait) (map (device_in set ds) ns) ≡ map (λ (n : Named). wait_in set ds n.number) ns
waits_there set ds [] = refl
waits_there set ds (n ∷ ns) = ap (λ ws. wait_in set ds n.number ∷ ws) (waits_there set ds ns)

-- ---- promises

told_by : (f : Named → Option ℕ) (devices : List Device) (ns : List Named) →
    promises_told devices ns (map f ns) ≡ map (λ (n : Named). promise_told (device_at devices n.number) n (f n)) ns
told_by f devices [] = refl
told_by f devices (n ∷ ns) = ap (λ ps. promise_told (device_at devices n.number) n (f n) ∷ ps) (told_by f devices ns)

promises_are : (set : TaskSet) (ds : List Distance) (b : Bus) (t : Timed) → IsBus ds set.devices b → IsTimed set (tops_of b.askings.items b.named.items) t →
    promises_by set.devices b t ≡ promises_in set ds
promises_are set ds b t bus is =
    let waits : waits_by b t ≡ map (λ (n : Named). wait_in set ds n.number) (named_in ds set.devices) =
    sym (waits_back set.devices b.askings.items (loads_by t) (found_in (loads_by t)) (times_by t) 0 b.named.items)
    ∙ ap (λ (xs : List DeviceTold). map (λ (d : DeviceTold). d.wait) xs) (devices_same set ds b t bus is)
    ∙ waits_there set ds (named_in ds set.devices) in
    ap (λ ns. promises_told set.devices ns (waits_by b t)) bus.named
    ∙ ap (λ ws. promises_told set.devices (named_in ds set.devices) ws) waits
    ∙ told_by (λ (n : Named). wait_in set ds n.number) set.devices (named_in ds set.devices)

-- so it is with the set's devices as they are lent, and what they ask
pub promises_lent : (set : TaskSet) (ds : List Distance) (devices : List Device) (b : Bus) (tops : List ℕ) (t : Timed) (all : List Promise) → devices ≡ set.devices → IsBus ds devices b →
    tops ≡ tops_of b.askings.items b.named.items → IsTimed set tops t → all ≡ promises_by devices b t → all ≡ promises_in set ds
promises_lent set ds devices b tops t all lent bus are is told =
    told
    ∙ ap (λ xs. promises_by xs b t) lent
    ∙ promises_are set ds b t (subst (λ (xs : List Device). IsBus ds xs b) lent bus) (subst (λ (xs : List ℕ). IsTimed set xs t) are is)

-- ---- how many

no_more : (ds : List Distance) (d : ℕ) (xs : List Device) → length (named_from ds d xs) ≤ length xs
no_more ds d [] = omega arith
no_more ds d (x ∷ xs) = by (every_of ds x.name) (no_more ds (d + 1) xs) where
  by : (o : Option ℕ) → length (named_from ds (d + 1) xs) ≤ length xs → length (named_before d o (named_from ds (d + 1) xs)) ≤ length (x ∷ xs)
  by None le = omega (arith, le)
  by (Some every) le = omega (arith, le)

pub promises_few : (set : TaskSet) (ds : List Distance) (devices : List Device) (all : List Promise) → devices ≡ set.devices → AreDevices devices → all ≡ promises_in set ds → length all ≤ 8
promises_few set ds devices all lent lawful is =
    let long : length all ≡ length (named_in ds set.devices) = ap length is ∙ length-map (named_in ds set.devices) (promise_in set ds) in
    let less : length (named_in ds set.devices) ≤ length set.devices = no_more ds 0 set.devices in
    let same : length devices ≡ length set.devices = ap length lent in
    let few : length devices ≤ 8 = lawful.count in
    omega (arith, long, less, same, few)
