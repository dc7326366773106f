-- The waits that are told of a set hold of its runs.
use Rattle.std.specs.Prelude.{slice_index_or}
use Rattle.std.proofs.Common.{◌≡◌, ℕ, zero, suc, ◌<◌, ◌≤◌, refl, ap, ◌∙◌, sym, subst, arith, cond, leb, Bool, true, false, List, [], ◌∷◌, length, Option, None, Some, slice_get}
use Rattle.std.proofs.lemmas.Bool.{leb-false}
use Rattle.std.proofs.lemmas.List.{length-map}
use Rattle.prem_plant.specs.declared.plant.Device.{Device}
use Rattle.prem_tasks.specs.Broken.{TaskSet}
use Rattle.prem_tasks.specs.Compiled.{placed_in, places_in}
use Rattle.prem_sets_sound.specs.ImagePremises.Accepted.{setup_in}
use Rattle.prem_sets_sound.proofs.ImagePremisesLemmas.Whole.{default_places_are_lawful}
use Rattle.prem_sets_sound.proofs.PlacesSoundLemmas.At.{default_is_at}
use Rattle.prem_latency.specs.Wcet.Sets.{closed_at}
use Rattle.prem_resp.specs.declared.busy.load.Load.{Load}
use Rattle.prem_resp.specs.declared.busy.length.Busy.{Busy}
use Rattle.prem_resp.specs.declared.busy.length.Busy.TheVariants.{Within}
use Rattle.prem_resp.specs.Busy.Busy.{load_at}
use Rattle.prem_resp.specs.Busy.Found.{IsFound}
use Rattle.prem_resp.specs.Lines.{all_within}
use Rattle.prem_resp.specs.Fits.{found_in}
use Rattle.prem_resp.proofs.Fits.{all_found, one_within}
use Rattle.prem_latency.specs.declared.wait.Asking.{Asking}
use Rattle.prem_latency.specs.declared.wait.Closing.{Closing}
use Rattle.prem_latency.specs.Wait.{IsFound as IsWaitFound, requests_in, top, wait_of}
use Rattle.prem_latency.specs.Timeline.{closing_at}
use Rattle.prem_latency.specs.Joined.{TellsTask, TellsWaits}
use Rattle.prem_latency.proofs.Found.{wait_found}
use Rattle.prem_latency.proofs.SetWaits.{sets_serve_devices}
use Rattle.prem_time.specs.Words.{Distance, most_cycles}
use Rattle.prem_time.specs.Times.{load_of, loads_in}
use Rattle.prem_time.specs.Devices.{askings_in, closed_to, closing_of, closings_of, device_at, distances_of, is_held, wait_by, wait_in}
use Rattle.prem_time.specs.Fits.{LateDevicesHaveCause, SetsServeNamed, WhyLate, closings_in, none_is_enough, queue_is_full}
use Rattle.prem_time.proofs.Fits.{one_found, tells_charges}
use Rattle.prem_time.proofs.NamedDevices.{are_distances, device_is, device_of_named, distance_is}

-- ---- what tasks keep from a device

closings_long : (loads : List Load) (found : List Busy) (closed : List ℕ) (cost : ℕ) → length found ≡ length loads → length closed ≡ length loads →
    length (closings_of loads found closed cost) ≡ length loads
closings_long [] found closed cost e f = refl
closings_long (x ∷ xs) [] closed cost e f = absurd (omega (arith, e))
closings_long (x ∷ xs) (b ∷ bs) [] cost e f = absurd (omega (arith, f))
closings_long (x ∷ xs) (b ∷ bs) (c ∷ cs) cost e f = ap suc (closings_long xs bs cs cost (omega (arith, e)) (omega (arith, f)))

closing_there : (loads : List Load) (found : List Busy) (closed : List ℕ) (cost k : ℕ) (busy : Busy) → slice_get found k ≡ Some busy → k < length loads → length closed ≡ length loads →
    closing_at (closings_of loads found closed cost) k ≡ closing_of (load_at loads k) busy (slice_index_or closed k 0) cost
closing_there [] found closed cost k busy e lt f = absurd (omega (arith, lt))
closing_there (x ∷ xs) [] closed cost k busy e lt f = absurd cc
closing_there (x ∷ xs) (b ∷ bs) [] cost k busy e lt f = absurd (omega (arith, f))
closing_there (x ∷ xs) (b ∷ bs) (c ∷ cs) cost zero busy e lt f = let same : b ≡ busy = cc in ap (λ y. closing_of x y c cost) same
closing_there (x ∷ xs) (b ∷ bs) (c ∷ cs) cost (suc k) busy e lt f = closing_there xs bs cs cost k busy e (omega (arith, lt)) (omega (arith, f))

-- ---- a wait that is told

record IsTold (askings : List Asking) (loads : List Load) (found : List Busy) (closed : List ℕ) (d wait : ℕ) : Type 0 where
  all : all_within found ≡ true
  is : IsWaitFound askings (closings_of loads found closed (top askings d)) d most_cycles (Some wait)

told_wait : (askings : List Asking) (loads : List Load) (found : List Busy) (closed : List ℕ) (d wait : ℕ) → wait_by askings loads found closed d ≡ Some wait → IsTold askings loads found closed d wait
told_wait askings loads found closed d wait e = by (all_within found) refl e where
  by : (b : Bool) → all_within found ≡ b → cond b (wait_of askings (closings_of loads found closed (top askings d)) d most_cycles) None ≡ Some wait → IsTold askings loads found closed d wait
  by true all h = record {
    all = all;
    is = subst (λ o. IsWaitFound askings (closings_of loads found closed (top askings d)) d most_cycles o) h (wait_found askings (closings_of loads found closed (top askings d)) d most_cycles);
  }
  by false all h = absurd cc

-- ---- the law

module _ (set : TaskSet) (ds : List Distance) (d : ℕ) (all : all_within (found_in (loads_in set)) ≡ true) where
  abbrev cost : ℕ
  cost = top (askings_in ds set.devices) d

  abbrev closed : List ℕ
  closed = closed_to set.plant cost (placed_in set)

  same_long : length closed ≡ length (loads_in set)
  same_long = length-map (placed_in set) _ ∙ sym (length-map (placed_in set) (load_of set.plant))

  task_told : (k : ℕ) → k < length (setup_in set).tasks → TellsTask (loads_in set) (closed_at set.plant cost (placed_in set)) cost k (closing_at (closings_in set ds d) k)
  task_told k lt =
      let b = one_found set k lt in
      let w = one_within (found_in (loads_in set)) k b.0 all b.1 in
      let is : IsFound (loads_in set) k (Within w.0) = subst (IsFound (loads_in set) k) w.1 ((all_found (loads_in set)).each k b.0 b.1) in
      let there : k < length (loads_in set) = less k _ _ lt (tells_charges set).count in
      let told : closing_at (closings_in set ds d) k ≡ closing_of (load_at (loads_in set) k) (Within w.0) (slice_index_or closed k 0) cost =
      closing_there (loads_in set) (found_in (loads_in set)) closed cost k (Within w.0) (b.1 ∙ ap (λ (x : Busy). Some x) w.1) there same_long in
      let same : closed_at set.plant cost (placed_in set) k ≡ slice_index_or closed k 0 = refl in
      subst (λ (t : Closing). TellsTask (loads_in set) (closed_at set.plant cost (placed_in set)) cost k t) (sym told)
      (record { period = refl; balanced = is.0.balanced; soon = is.1; closed_is = omega (arith, same) })
    where
      less : (k n m : ℕ) → k < n → m ≡ n → k < m
      less k n m lt e = omega (arith, lt, e)

  all_told : TellsWaits (setup_in set) (loads_in set) (closed_at set.plant cost (placed_in set)) cost (closings_in set ds d)
  all_told = record {
    count = closings_long (loads_in set) (found_in (loads_in set)) closed cost (all_found (loads_in set)).count same_long ∙ (tells_charges set).count;
    each = task_told;
  }

pub sets_serve_named : SetsServeNamed
sets_serve_named set ds values none are i n at wait is =
    let told = told_wait (askings_in ds set.devices) (loads_in set) (found_in (loads_in set)) (closed_to set.plant (top (askings_in ds set.devices) n.number) (placed_in set)) n.number wait is in
    let of = device_of_named ds set.devices i n at in
    let serves = sets_serve_devices set (places_in set) values (default_places_are_lawful set values none) (default_is_at set none) (loads_in set) (tells_charges set)
    (distances_of ds set.devices) (are_distances ds set.devices are) n.number n.every wait of.device of.there (distance_is ds set.devices n.number n.every of)
    (closings_in set ds n.number) (all_told set ds n.number told.all) told.is.0.room in
    let queue = ap (λ (x : Device). x.queue) (device_is ds set.devices n.number n.every of) in
    record {
      wait_is = told.is.0;
      found = λ inputs requests inputs_are keeps. (serves inputs requests inputs_are keeps).0;
      served = λ holds inputs requests inputs_are keeps. (serves inputs requests inputs_are keeps).1 (subst (λ q. requests_in n.every wait ≤ q) queue holds);
    }

-- ---- devices that are late

pub late_devices_have_cause : LateDevicesHaveCause
late_devices_have_cause set ds all n late =
    by (wait_of (askings_in ds set.devices) (closings_in set ds n.number) n.number most_cycles)
    (wait_found (askings_in ds set.devices) (closings_in set ds n.number) n.number most_cycles)
    (ap (λ b. cond b (wait_of (askings_in ds set.devices) (closings_in set ds n.number) n.number most_cycles) None) all)
  where
    by : (o : Option ℕ) → IsWaitFound (askings_in ds set.devices) (closings_in set ds n.number) n.number most_cycles o → wait_in set ds n.number ≡ o → WhyLate set ds n (wait_in set ds n.number)
    by None h e = subst (WhyLate set ds n) (sym e) (none_is_enough h)
    by (Some wait) h e =
        let full : leb (requests_in n.every wait) (device_at set.devices n.number).queue ≡ false = ap (λ o. is_held n.every (device_at set.devices n.number).queue o) (sym e) ∙ late in
        subst (WhyLate set ds n) (sym e) (queue_is_full wait (leb-false _ _ full))
