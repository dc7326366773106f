-- Sets that break no rule serve their devices in time.
use Rattle.std.specs.Prelude.{drop, map}
use Rattle.std.proofs.Common.{◌≡◌, ℕ, ◌<◌, ◌≤◌, refl, ap, ◌∙◌, sym, subst, arith, Some, List, length}
use Rattle.std.proofs.lemmas.Option.{slice_get_within}
use Rattle.prem_plant.specs.declared.plant.Plant.{Plant}
use Rattle.prem_plant.specs.declared.plant.Device.{Device}
use Rattle.prem_plant.specs.Places.{Extent}
use Rattle.prem_plant.specs.Order.Rules.{order_rule_of, passes_of}
use Rattle.prem_plant.specs.Ranges.{IsDevice}
use Rattle.prem_lru.specs.Rules.{rule_of}
use Rattle.prem_sound.proofs.ResidentLemmas.Policies.{kind_policy}
use Rattle.prem_layout.specs.Parts.{stub_passes, parts_from}
use Rattle.prem_layout.specs.Image.{device_records}
use Rattle.prem_layout.specs.Placed.{Coded, part_total, sized_of}
use Rattle.prem_layout.proofs.Areas.{areas_stand, records_long}
use Rattle.prem_tasks.specs.Compiled.{coded_in}
use Rattle.prem_tasks.specs.At.{placed_by}
use Rattle.prem_sets_sound.specs.ImagePremises.Accepted.{IsLaidOut}
use Rattle.prem_sets_sound.specs.PlacesSound.At.{promises_at}
use Rattle.prem_sets_sound.proofs.Sound.{as_stubs_make, meant_tasks_join}
use Rattle.prem_sets_sound.proofs.PlacesSoundLemmas.At.{groups, laid_out, tasks_are_meant}
use Rattle.prem_sets_sound.proofs.ImagePremisesLemmas.Whole.{laid_out_images_join}
use Rattle.prem_sets_sound.proofs.ImagePremisesLemmas.Records.{are_laid}
use Rattle.prem_sets_sound.proofs.StubLawsLemmas.OwnLemmas.Owned.{parts_long}
use Rattle.prem_sets_sound.proofs.TaskRunsLemmas.Words.{all_there}
use Rattle.prem_latency.specs.Wcet.Sets.{wcet_at, stretch_at, closed_at}
use Rattle.prem_latency.proofs.WcetLemmas.Sets.{meant_tasks_shut_by_wcet}
use Rattle.prem_latency.specs.declared.wait.Asking.{Asking}
use Rattle.prem_latency.specs.Wait.{top, requests_in}
use Rattle.prem_latency.specs.Timeline.{asking_at}
use Rattle.prem_latency.specs.Sets.{asking_of, askings_of, SetsServeDevices}
use Rattle.prem_latency.proofs.JoinedRuns.{joined_images_serve_devices}
use Rattle.prem_latency.proofs.WeaveOpens.{shutting_tasks_wait}
use Rattle.prem_latency.proofs.SetDevices.{asking_is, device_is, keep_askings}

-- an image that is laid out has a record for each device
pub records_all : (p : Plant) (devices : List Device) (tasks : List Coded) (places : List Extent) → IsLaidOut p devices tasks places →
    length (device_records devices (drop (part_total tasks) places)) ≡ length devices
records_all p devices tasks places h =
    let laid = are_laid p devices tasks places h in
    records_long p.memory p.line 0 devices (drop (part_total tasks) places)
    (areas_stand p.memory p.line (part_total tasks) (parts_from (stub_passes p) 0 (map sized_of tasks)) devices places (parts_long (stub_passes p) 0 tasks laid.coded) laid.placed)

pub sets_serve_devices : SetsServeDevices
sets_serve_devices set places values lawful none loads told distances some d every wait device there named tasks waits room inputs requests are keeps =
    let g = groups set places none in
    let laid = laid_out set places values lawful g in
    let passes : ℕ → ℕ = passes_of set.plant.policy in
    let same = as_stubs_make set.plant.policy set.plant.ways in
    let meant = tasks_are_meant set places g in
    let joined = laid_out_images_join passes set.plant set.devices (coded_in set) places (promises_at set places) laid
    (meant_tasks_join passes set.plant set.devices (coded_in set) places (promises_at set places) laid same meant) in
    let long = records_all set.plant set.devices (coded_in set) places laid in
    let asks : asking_at (askings_of distances set.devices) d ≡ asking_of (Some every) device = asking_is distances set.devices d device there ∙ ap (λ o. asking_of o device) named in
    let less = slice_get_within set.devices d device there in
    let cost : 1 ≤ device.cost = (all_there IsDevice set.devices d device values.devices_are.each there).cost.0 in
    let serves = joined_images_serve_devices (rule_of set.plant.policy) (order_rule_of set.plant.policy) passes _ _ _ _
    (wcet_at set.plant (placed_by set places)) (stretch_at set.plant (placed_by set places))
    (closed_at set.plant (top (askings_of distances set.devices) d) (placed_by set places)) (promises_at set places) _ loads
    (askings_of distances set.devices) tasks d wait (kind_policy set.plant.policy) joined
    (λ inputs are k lt. shutting_tasks_wait _ passes _ _ _ _ _ (top (askings_of distances set.devices) d) _ _
    (meant_tasks_shut_by_wcet passes set.plant set.devices (coded_in set) places (promises_at set places) laid same meant
    (top (askings_of distances set.devices) d) inputs are k lt)) told waits (below _ _ less long)
    (subst (λ (a : Asking). 1 ≤ a.cost) (sym asks) cost) room inputs requests
    (record {
      inputs_are = are;
      trace = keeps.trace;
      words = keeps.words;
      askings =
          keep_askings _ requests distances set.devices (drop (part_total (coded_in set)) places) refl long some keeps.each;
    }) in
    let queue = ap (λ (e : Device). e.queue) (device_is set.devices (drop (part_total (coded_in set)) places) long d device there) in
    let period : (asking_at (askings_of distances set.devices) d).every ≡ every = ap (λ (a : Asking). a.every) asks in
    (serves.0, λ holds. serves.1 (fits _ _ _ _ (ap (λ e. requests_in e wait) period) queue holds))
  where
    below : (a b : ℕ) → d < b → a ≡ b → d < a
    below a b lt e = omega (arith, lt, e)

    fits : (a b q r : ℕ) → a ≡ b → r ≡ q → b ≤ q → a ≤ r
    fits a b q r e f le = omega (arith, e, f, le)
