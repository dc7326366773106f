-- Sets that break no rule go by what their jobs take at most.
use Rattle.std.specs.Prelude.{slice_index_or, option_map}
use Rattle.std.proofs.Common.{◌≡◌, ℕ, ◌<◌, ap, ◌∙◌, sym, subst, arith, List, [], length, map, Some, slice_get}
use Rattle.std.proofs.lemmas.Option.{slice_get-map, get_or_from_slice_get}
use Rattle.prem_plant.specs.declared.plant.Plant.{Plant}
use Rattle.prem_plant.specs.declared.plant.Device.{Device}
use Rattle.prem_plant.specs.Places.{Extent}
use Rattle.prem_plant.specs.Order.Rules.{order_rule_of, passes_of}
use Rattle.prem_lru.specs.Rules.{rule_of}
use Rattle.prem_cycle.specs.Alone.{run_in}
use Rattle.prem_sound.specs.Script.Scripts.{Promise}
use Rattle.prem_sound.specs.Sound.{AreInputs}
use Rattle.prem_sound.proofs.ResidentLemmas.Policies.{kind_policy}
use Rattle.prem_layout.specs.Parts.{pass_count, stub_passes}
use Rattle.prem_layout.specs.Placed.{Coded, Placed, placed_from}
use Rattle.prem_tasks.specs.Compiled.{coded_in}
use Rattle.prem_tasks.specs.At.{placed_by}
use Rattle.prem_sets_sound.specs.StubLaws.Own.Owned.{own_of, setup_of}
use Rattle.prem_sets_sound.specs.StubLaws.Initial.Initial.{content_of}
use Rattle.prem_sets_sound.specs.StubLaws.JoinedRuns.Joined.{JobLimits}
use Rattle.prem_sets_sound.specs.TaskLaws.TaskFrame.Limits.{task_limits}
use Rattle.prem_sets_sound.specs.TaskLaws.TaskBytes.Parts.{IsPlacedTask}
use Rattle.prem_sets_sound.specs.ImagePremises.Accepted.{HasCodedValues, IsLaidOut, limits_at, no_limits}
use Rattle.prem_sets_sound.specs.Meant.{AreMeant}
use Rattle.prem_sets_sound.specs.PlacesSound.At.{promises_at}
use Rattle.prem_sets_sound.proofs.Sound.{as_stubs_make, meant_tasks_join, task_there, there}
use Rattle.prem_sets_sound.proofs.PlacesSoundLemmas.At.{groups, laid_out, tasks_are_meant}
use Rattle.prem_sets_sound.proofs.ImagePremisesLemmas.Whole.{laid_out_images_join}
use Rattle.prem_sets_sound.specs.StubLaws.Charges.Charges.{TaskCharges}
use Rattle.prem_sets_sound.proofs.StubLawsLemmas.ChargesLemmas.Images.{joined_images_are_sound_by_charges}
use Rattle.prem_sets_sound.specs.TaskRuns.Joins.{promise_for}
use Rattle.prem_latency.specs.Wcet.Tasks.{task_wcet, task_stretch, task_closed, TaskShuts}
use Rattle.prem_latency.specs.Wcet.Sets.{wcet_at, stretch_at, closed_at, MeantTasksGoByWcet, MeantTasksShutByWcet, SetsGoByWcet}
use Rattle.prem_latency.proofs.WcetLemmas.Tasks.{tasks_go_by_wcet, tasks_shut_by_wcet}
use Rattle.std.proofs.lemmas.List.{length-map}
use Rattle.prem_layout.specs.Image.{task_record}
use Rattle.prem_sets_sound.proofs.ImagePremisesLemmas.Records.{have_code}
use Rattle.prem_sets_sound.proofs.TaskRunsLemmas.Words.{all_there}

module _ (passes : ℕ → ℕ) (p : Plant) (devices : List Device) (tasks : List Coded) (places : List Extent) (promises : List (List ℕ) → ℕ → Promise)
    (laid : IsLaidOut p devices tasks places) (same : passes p.ways ≡ pass_count (stub_passes p))
    (meant : AreMeant p (placed_from p places tasks) promises) (inputs : List (List ℕ)) (are : AreInputs (setup_of p devices places tasks) inputs) where
  listed : {A : Type 0} (f : Placed → A) (none : A) (k : ℕ) (t : Placed) → slice_get (placed_from p places tasks) k ≡ Some t → slice_index_or (map f (placed_from p places tasks)) k none ≡ f t
  listed f none k t e = get_or_from_slice_get (map f (placed_from p places tasks)) k (f t) none (slice_get-map f (placed_from p places tasks) k ∙ ap (option_map f) e)

  -- task k as it stands among all
  abbrev stands_as : (One : JobLimits → (cycles longest : ℕ) → Promise → Type 0) → (k : ℕ) → Type 0
  stands_as One k = One (limits_at p (placed_from p places tasks) k) (wcet_at p (placed_from p places tasks) k) (stretch_at p (placed_from p places tasks) k) (promises inputs k)

  listed_so : (One : JobLimits → (cycles longest : ℕ) → Promise → Type 0) (k : ℕ) (t : Placed) → slice_get (placed_from p places tasks) k ≡ Some t → (q : Promise) → promises inputs k ≡ q →
      One (task_limits p t) (task_wcet p t) (task_stretch p t) q → stands_as One k
  listed_so One k t e q is h =
      let limits : limits_at p (placed_from p places tasks) k ≡ task_limits p t = listed (task_limits p) no_limits k t e in
      let cost : wcet_at p (placed_from p places tasks) k ≡ task_wcet p t = listed (task_wcet p) 0 k t e in
      let stretch : stretch_at p (placed_from p places tasks) k ≡ task_stretch p t = listed (task_stretch p) 0 k t e in
      subst (λ (l : JobLimits). One l (wcet_at p (placed_from p places tasks) k) (stretch_at p (placed_from p places tasks) k) (promises inputs k)) (sym limits)
      (subst (λ n. One (task_limits p t) n (stretch_at p (placed_from p places tasks) k) (promises inputs k)) (sym cost)
      (subst (λ n. One (task_limits p t) (task_wcet p t) n (promises inputs k)) (sym stretch)
      (subst (λ (q : Promise). One (task_limits p t) (task_wcet p t) (task_stretch p t) q) (sym is) h)))

  placed_so : (k : ℕ) (t : Placed) → slice_get (placed_from p places tasks) k ≡ Some t → IsPlacedTask p devices tasks places k t
  placed_so k t e = record { plant_is = laid.plant_is; coded = have_code tasks laid.each; lawful = laid.lawful; there = e }

  one_goes : (k : ℕ) (t : Placed) → slice_get (placed_from p places tasks) k ≡ Some t → k < length inputs →
      stands_as (TaskCharges (setup_of p devices places tasks) passes (own_of tasks places k) (run_in (setup_of p devices places tasks) (content_of p places tasks) inputs k)) k
  one_goes k t e lt =
      let m = meant k t e in
      let values = all_there HasCodedValues tasks k t.task laid.each (task_there p places tasks k t e) in
      listed_so (TaskCharges (setup_of p devices places tasks) passes (own_of tasks places k)
      (run_in (setup_of p devices places tasks) (content_of p places tasks) inputs k)) k t e (promise_for m.text t (slice_index_or inputs k []))
      (m.promise_is inputs)
      (tasks_go_by_wcet passes p devices tasks places k t (placed_so k t e) same m.text m.keeps values.jobs.0 inputs (are.words k [] lt))

  one_shuts : (top k : ℕ) (t : Placed) → slice_get (placed_from p places tasks) k ≡ Some t → k < length inputs →
      stands_as (λ limits cycles longest q. TaskShuts (setup_of p devices places tasks) passes (own_of tasks places k)
      (run_in (setup_of p devices places tasks) (content_of p places tasks) inputs k) limits cycles longest top
      (closed_at p top (placed_from p places tasks) k) q) k
  one_shuts top k t e lt =
      let m = meant k t e in
      let values = all_there HasCodedValues tasks k t.task laid.each (task_there p places tasks k t e) in
      let closed : closed_at p top (placed_from p places tasks) k ≡ task_closed p top t = listed (task_closed p top) 0 k t e in
      subst (λ n. stands_as (λ limits cycles longest q. TaskShuts (setup_of p devices places tasks) passes (own_of tasks places k)
      (run_in (setup_of p devices places tasks) (content_of p places tasks) inputs k) limits cycles longest top n q) k) (sym closed)
      (listed_so (λ limits cycles longest q. TaskShuts (setup_of p devices places tasks) passes (own_of tasks places k)
      (run_in (setup_of p devices places tasks) (content_of p places tasks) inputs k) limits cycles longest top (task_closed p top t) q) k t e
      (promise_for m.text t (slice_index_or inputs k [])) (m.promise_is inputs)
      (tasks_shut_by_wcet passes p devices tasks places k t (placed_so k t e) same m.text m.keeps values.jobs.0 top inputs (are.words k [] lt)))

  -- one that is there
  there_so : (k : ℕ) → k < length (setup_of p devices places tasks).tasks → ((t : Placed) × (slice_get (placed_from p places tasks) k ≡ Some t)) × (k < length inputs)
  there_so k lt =
      let long : length (map task_record (placed_from p places tasks)) ≡ length (placed_from p places tasks) = length-map (placed_from p places tasks) task_record in
      let count = are.count in
      (there (placed_from p places tasks) k (less lt long), fewer lt count)
    where
      less : {n m : ℕ} → k < n → n ≡ m → k < m
      less {n} {m} a b = omega (arith, a, b)

      fewer : {n m : ℕ} → k < n → m ≡ n → k < m
      fewer {n} {m} a b = omega (arith, a, b)

pub meant_tasks_go_by_wcet : MeantTasksGoByWcet
meant_tasks_go_by_wcet passes p devices tasks places promises laid same meant inputs are k lt =
    let t = there_so passes p devices tasks places promises laid same meant inputs are k lt in
    one_goes passes p devices tasks places promises laid same meant inputs are k t.0.0 t.0.1 t.1

pub meant_tasks_shut_by_wcet : MeantTasksShutByWcet
meant_tasks_shut_by_wcet passes p devices tasks places promises laid same meant top inputs are k lt =
    let t = there_so passes p devices tasks places promises laid same meant inputs are k lt in
    one_shuts passes p devices tasks places promises laid same meant inputs are top k t.0.0 t.0.1 t.1

pub sets_go_by_wcet : SetsGoByWcet
sets_go_by_wcet set places values lawful none =
    let g = groups set places none in
    let laid = laid_out set places values lawful g in
    let passes : ℕ → ℕ = passes_of set.plant.policy in
    let rule = rule_of set.plant.policy in
    let order = order_rule_of set.plant.policy in
    let same = as_stubs_make set.plant.policy set.plant.ways in
    let meant = tasks_are_meant set places g in
    let policy = kind_policy set.plant.policy in
    let joined = laid_out_images_join passes set.plant set.devices (coded_in set) places (promises_at set places) laid
    (meant_tasks_join passes set.plant set.devices (coded_in set) places (promises_at set places) laid same meant) in
    let each = meant_tasks_go_by_wcet passes set.plant set.devices (coded_in set) places (promises_at set places) laid same meant in
    joined_images_are_sound_by_charges rule order passes _ _ _ _ (wcet_at set.plant (placed_by set places)) (stretch_at set.plant (placed_by set places)) (promises_at set places) _ policy joined each
