-- Sets that break no rule meet their deadlines.
use Rattle.std.specs.Prelude.{option_map}
use Rattle.std.proofs.Common.{◌≡◌, ℕ, ◌<◌, ap, ◌∙◌, sym, subst, arith, List, [], length, map, Some, slice_get}
use Rattle.std.proofs.lemmas.List.{length-map}
use Rattle.std.proofs.lemmas.Option.{slice_get-map, get_or_from_slice_get}
use Rattle.prem_plant.specs.declared.plant.Plant.{Plant}
use Rattle.prem_plant.specs.declared.plant.Device.{Device}
use Rattle.prem_plant.specs.Places.{Extent}
use Rattle.prem_plant.specs.Order.Rules.{order_rule_of, passes_of}
use Rattle.prem_lru.specs.Rules.{rule_of}
use Rattle.prem_cycle.specs.Alone.{run_in}
use Rattle.prem_sound.specs.Script.Scripts.{Promise}
use Rattle.prem_sound.specs.Sound.{AreInputs}
use Rattle.prem_sound.proofs.ResidentLemmas.Policies.{kind_policy}
use Rattle.prem_layout.specs.Parts.{pass_count, stub_passes}
use Rattle.prem_layout.specs.Placed.{Coded, Placed, placed_from}
use Rattle.prem_layout.specs.Image.{task_record}
use Rattle.prem_tasks.specs.Compiled.{coded_in, places_in}
use Rattle.prem_sets_sound.specs.StubLaws.Own.Owned.{own_of, setup_of}
use Rattle.prem_sets_sound.specs.StubLaws.Initial.Initial.{content_of}
use Rattle.prem_sets_sound.specs.StubLaws.JoinedRuns.Joined.{JobLimits}
use Rattle.prem_sets_sound.specs.TaskLaws.TaskFrame.Limits.{task_limits}
use Rattle.prem_sets_sound.specs.TaskLaws.TaskBytes.Parts.{IsPlacedTask}
use Rattle.prem_sets_sound.specs.TaskRuns.Joins.{TaskPaces, task_longest}
use Rattle.prem_sets_sound.specs.ImagePremises.Accepted.{HasCodedValues, IsLaidOut, limits_at, no_limits}
use Rattle.prem_sets_sound.specs.Meant.{promises_in, AreMeant}
use Rattle.prem_sets_sound.proofs.TaskRunsLemmas.Each.{tasks_pace}
use Rattle.prem_sets_sound.proofs.TaskRunsLemmas.Words.{all_there}
use Rattle.prem_sets_sound.proofs.ImagePremisesLemmas.Records.{have_code}
use Rattle.prem_sets_sound.proofs.ImagePremisesLemmas.Whole.{accepted_sets_are_laid_out, default_places_are_lawful}
use Rattle.prem_sets_sound.proofs.Sound.{task_there, there, accepted_tasks_are_meant, as_stubs_make}
use Rattle.prem_resp.specs.Timely.Timely.{EachPaces, longest_at, SetsMeetDeadlines}
use Rattle.prem_resp.proofs.TimelyLemmas.Images.{laid_out_sets_meet_deadlines}

module _ (passes : ℕ → ℕ) (p : Plant) (devices : List Device) (tasks : List Coded) (places : List Extent) (promises : List (List ℕ) → ℕ → Promise)
    (laid : IsLaidOut p devices tasks places) (same : passes p.ways ≡ pass_count (stub_passes p))
    (meant : AreMeant p (placed_from p places tasks) promises) (inputs : List (List ℕ)) (are : AreInputs (setup_of p devices places tasks) inputs) where
  one_paces : (k : ℕ) (t : Placed) → slice_get (placed_from p places tasks) k ≡ Some t → k < length inputs →
      TaskPaces (setup_of p devices places tasks) passes (own_of tasks places k)
      (run_in (setup_of p devices places tasks) (content_of p places tasks) inputs k) (limits_at p (placed_from p places tasks) k)
      (longest_at p (placed_from p places tasks) k) (promises inputs k)
  one_paces k t e lt =
      let m = meant k t e in
      let values = all_there HasCodedValues tasks k t.task laid.each (task_there p places tasks k t e) in
      let placed : IsPlacedTask p devices tasks places k t = record { plant_is = laid.plant_is; coded = have_code tasks laid.each; lawful = laid.lawful; there = e } in
      let paces = tasks_pace passes p devices tasks places k t placed same m.text m.keeps values.jobs.0 inputs (are.words k [] lt) in
      let listed : slice_get (map (task_limits p) (placed_from p places tasks)) k ≡ Some (task_limits p t) =
      slice_get-map (task_limits p) (placed_from p places tasks) k ∙ ap (option_map (task_limits p)) e in
      let limits : limits_at p (placed_from p places tasks) k ≡ task_limits p t = get_or_from_slice_get (map (task_limits p) (placed_from p places tasks)) k (task_limits p t) no_limits listed in
      let long : slice_get (map (task_longest p) (placed_from p places tasks)) k ≡ Some (task_longest p t) =
      slice_get-map (task_longest p) (placed_from p places tasks) k ∙ ap (option_map (task_longest p)) e in
      let longest : longest_at p (placed_from p places tasks) k ≡ task_longest p t = get_or_from_slice_get (map (task_longest p) (placed_from p places tasks)) k (task_longest p t) 0 long in
      subst (λ (n : ℕ). TaskPaces (setup_of p devices places tasks) passes (own_of tasks places k)
      (run_in (setup_of p devices places tasks) (content_of p places tasks) inputs k) (limits_at p (placed_from p places tasks) k) n
      (promises inputs k)) (sym longest)
      (subst (λ (q : JobLimits). TaskPaces (setup_of p devices places tasks) passes (own_of tasks places k)
      (run_in (setup_of p devices places tasks) (content_of p places tasks) inputs k) q (task_longest p t) (promises inputs k)) (sym limits)
      (subst (λ (q : Promise). TaskPaces (setup_of p devices places tasks) passes (own_of tasks places k)
      (run_in (setup_of p devices places tasks) (content_of p places tasks) inputs k) (task_limits p t) (task_longest p t) q)
      (sym (m.promise_is inputs)) paces))

-- at any lawful places
meant_tasks_pace : (passes : ℕ → ℕ) (p : Plant) (devices : List Device) (tasks : List Coded) (places : List Extent)
    (promises : List (List ℕ) → ℕ → Promise) → IsLaidOut p devices tasks places → passes p.ways ≡ pass_count (stub_passes p) →
    AreMeant p (placed_from p places tasks) promises → EachPaces passes p devices tasks places promises
meant_tasks_pace passes p devices tasks places promises laid same meant inputs are k lt =
    let long : length (map task_record (placed_from p places tasks)) ≡ length (placed_from p places tasks) = length-map (placed_from p places tasks) task_record in
    let count = are.count in
    let t = there (placed_from p places tasks) k (less lt long) in
    one_paces passes p devices tasks places promises laid same meant inputs are k t.0 t.1 (fewer lt count)
  where
    less : {n m : ℕ} → k < n → n ≡ m → k < m
    less {n} {m} a b = omega (arith, a, b)

    fewer : {n m : ℕ} → k < n → m ≡ n → k < m
    fewer {n} {m} a b = omega (arith, a, b)

pub sets_meet_deadlines : SetsMeetDeadlines
sets_meet_deadlines set values kept =
    let kind = set.plant.policy in
    let laid = accepted_sets_are_laid_out set (places_in set) values kept (default_places_are_lawful set values kept) in
    laid_out_sets_meet_deadlines (rule_of kind) (order_rule_of kind) (passes_of kind) set.plant set.devices (coded_in set) (places_in set) (promises_in set) (kind_policy kind) laid
    (meant_tasks_pace (passes_of kind) set.plant set.devices (coded_in set) (places_in set) (promises_in set) laid (as_stubs_make kind set.plant.ways) (accepted_tasks_are_meant set kept))
