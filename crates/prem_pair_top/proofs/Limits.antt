-- By cycle 2 ^ 61 two sets that break no rule have finished together.
use Rattle.std.specs.Prelude.{if◌then◌else◌}
use Rattle.std.specs.List.{AllByRecursion}
use Rattle.std.proofs.Common.{◌≡◌, ◌+◌, ◌-◌, ◌*◌, ◌^◌, ◌≤◌, ℕ, suc, nat_lt, max, Bool, true, false, List, [], ◌∷◌, length, map, drop, None, Some, refl, subst, arith, All}
use Rattle.std.proofs.lemmas.Bool.Decides.{nat_tests}
use Rattle.std.proofs.lemmas.List.Elements.{All-head, All-tail}
use Rattle.std.proofs.lemmas.List.Sums.{sum_by-cons}
use Rattle.std.proofs.lemmas.Nat.{mul-le}
use Rattle.prem_plant.specs.declared.plant.Plant.{Plant}
use Rattle.prem_plant.specs.Places.{Extent}
use Rattle.prem_gate.specs.declared.request.Request.{Request}
use Rattle.prem_image.specs.declared.image.DeviceRecord.{DeviceRecord}
use Rattle.prem_cycle.specs.Inputs.{IsRequest, no_device}
use Rattle.prem_sound.specs.Script.Scripts.{last_release}
use Rattle.prem_pair.specs.Laws.PairSound.{all_costs, cost_of_request, last_request}
use Rattle.prem_layout.specs.Bounds.{job_bound_of, work_of}
use Rattle.prem_layout.specs.Counts.{intervals_of, outputs_of}
use Rattle.prem_layout.specs.Facts.{job_fact}
use Rattle.prem_layout.specs.Image.{task_record}
use Rattle.prem_layout.specs.Parts.{part_count}
use Rattle.prem_layout.specs.Placed.{Coded, Placed, placed_at, placed_from, task_places}
use Rattle.prem_layout.specs.Rules.{Intervals, Outputs, log_room, total_of}
use Rattle.prem_tasks.specs.Broken.{TaskText, TaskSet, broken, programs_of}
use Rattle.prem_tasks.specs.Compiled.{coded_in, compiled, job_bounds, places_in, placed_in}
use Rattle.prem_sets_sound.specs.ImagePremises.Accepted.{HasTextValues, HasValues, setup_in}
use Rattle.prem_sets_sound.proofs.ImagePremisesLemmas.Follow.{keeps}
use Rattle.prem_running.proofs.SetLawsLemmas.Limits.{InRange, IsSmall, bounds_are_small, eight_kept, two_kept}
use Rattle.prem_pair_top.specs.Running.{due_in}
use Rattle.prem_pair_top.specs.Sound.{PairLimitsAreSmall}
use Rattle.prem_pair_top.proofs.Sets.{joined, work_is_due}

-- ---- the jobs of a set

few : (outputs intervals : ℕ) → (if nat_lt log_room outputs then Some Outputs else if nat_lt log_room intervals then Some Intervals else None) ≡ None → intervals ≤ 262143
few outputs intervals h = by (nat_lt log_room outputs) (nat_lt log_room intervals) refl h where
  by : (a b : Bool) → nat_lt log_room intervals ≡ b → (if a then Some Outputs else if b then Some Intervals else None) ≡ None → intervals ≤ 262143
  by true b e h = absurd cc
  by false true e h = absurd cc
  by false false e h = grind (arith, nat_tests)

ranges_in : (ts : List TaskText) → All HasTextValues ts → AllByRecursion InRange ts
ranges_in [] h = tt
ranges_in (t ∷ ts) h =
    let one : HasTextValues t = All-head HasTextValues t ts h in
    ((one.period.1, one.jobs.1), ranges_in ts (All-tail HasTextValues t ts h))

-- each job makes an interval at least, so there are no more jobs than a log has room for
work_few : (p : Plant) (places : List Extent) (cs : List Coded) → AllByRecursion IsSmall (job_bounds p (placed_from p places cs)) →
    work_of (job_bounds p (placed_from p places cs)) ≤ total_of intervals_of cs * 1099511627776
work_few p places [] h = omega arith
work_few p places (c ∷ cs) h =
    let t = placed_at p c (task_places c.program places) in
    let bound = job_bound_of p t.plans t.table in
    let rest = drop (part_count c.program) places in
    added c.jobs (c.jobs * bound) (c.jobs * intervals_of c.program) (work_of (job_bounds p (placed_from p rest cs))) (total_of intervals_of cs)
    (mul-le c.jobs bound c.jobs 1099511627776 (omega arith) h.0.1) (mul-le c.jobs 1 c.jobs (intervals_of c.program) (omega arith) (omega arith)) (work_few p rest cs h.1)
  where
    added : (j x y w n : ℕ) → x ≤ j * 1099511627776 → j * 1 ≤ y → w ≤ n * 1099511627776 → x + w ≤ (y + n) * 1099511627776
    added j x y w n a b rest = omega (arith, a, b, rest)

releases_small : (p : Plant) (ts : List Placed) → AllByRecursion IsSmall (map (job_fact p) ts) → last_release (map task_record ts) ≤ 281466386710530
releases_small p [] h = omega arith
releases_small p (t ∷ ts) h =
    greater ((t.task.jobs - 1) * t.task.period) (last_release (map task_record ts))
    (mul-le (t.task.jobs - 1) t.task.period 65534 4294967295 (less t.task.jobs h.0.0.1) h.0.0.0) (releases_small p ts h.1)
  where
    less : (n : ℕ) → n ≤ 65535 → n - 1 ≤ 65534
    less n few = omega (arith, few)

    greater : (a b : ℕ) → a ≤ 281466386710530 → b ≤ 281466386710530 → max a b ≤ 281466386710530
    greater a b low high = omega (arith, low, high)

record SmallSet (set : TaskSet) : Type 0 where
  released : last_release (setup_in set).tasks ≤ 281466386710530
  due : due_in (compiled set) ≤ 288229276640083968

small_set : (set : TaskSet) → HasValues set → broken set ≡ None → SmallSet set
small_set set values e =
    let p = set.plant in
    let js = job_bounds p (placed_in set) in
    let small : AllByRecursion IsSmall js = bounds_are_small p 0 0 (places_in set) set.tasks (programs_of set.tasks) (ranges_in set.tasks values.each) (two_kept set e) (eight_kept set e) in
    let total : total_of intervals_of (coded_in set) ≤ 262143 = few (total_of outputs_of (coded_in set)) (total_of intervals_of (coded_in set)) (keeps set e).logs in
    let work : work_of js ≤ total_of intervals_of (coded_in set) * 1099511627776 = work_few p (places_in set) (coded_in set) small in
    record {
      released = releases_small p (placed_in set) small;
      due =
          subst (λ n. n ≤ 288229276640083968) (work_is_due p (placed_in set)) (most (work_of js) (total_of intervals_of (coded_in set)) total work);
    }
  where
    most : (w n : ℕ) → n ≤ 262143 → w ≤ n * 1099511627776 → w ≤ 288229276640083968
    most w n few h = omega (arith, few, h)

-- ---- requests

cycles_small : (requests : List Request) → All (λ (r : Request). r.cycle ≤ 2 ^ 50) requests → last_request requests ≤ 1125899906842624
cycles_small [] h = omega arith
cycles_small (r ∷ requests) h =
    greater r.cycle (last_request requests) (All-head (λ (r : Request). r.cycle ≤ 2 ^ 50) r requests h) (cycles_small requests (All-tail (λ (r : Request). r.cycle ≤ 2 ^ 50) r requests h))
  where
    greater : (a b : ℕ) → a ≤ 2 ^ 50 → b ≤ 1125899906842624 → max a b ≤ 1125899906842624
    greater a b low high = omega (arith, low, high)

costs_small : (devices : List DeviceRecord) (requests : List Request) → ((r : Request) → IsRequest devices r → cost_of_request devices r ≤ 100000) → All (IsRequest devices) requests →
    all_costs devices requests ≤ length requests * 100000
costs_small devices [] each all = omega arith
costs_small devices (r ∷ requests) each all =
    added (cost_of_request devices r) (all_costs devices requests) (all_costs devices (r ∷ requests)) (length requests) (each r (All-head (IsRequest devices) r requests all))
    (costs_small devices requests each (All-tail (IsRequest devices) r requests all)) (sum_by-cons (cost_of_request devices) r requests)
  where
    added : (a b c n : ℕ) → a ≤ 100000 → b ≤ n * 100000 → c ≡ a + b → c ≤ suc n * 100000
    added a b c n one rest is = omega (arith, one, rest, is)

-- ---- the limit

pub pair_limits_are_small : PairLimitsAreSmall
pair_limits_are_small one two values other_values none other_none input fits =
    let p = setup_in one in
    let q = setup_in two in
    let a = small_set one values none in
    let b = small_set two other_values other_none in
    let image = (joined one values none).image in
    let costs : all_costs p.devices input.requests ≤ length input.requests * 100000 =
    costs_small p.devices input.requests (λ r is. (image.each_device r.device no_device is.device).device.cost.1) fits.short.trace.each in
    within (last_release p.tasks) (last_release q.tasks) (due_in (compiled one)) (due_in (compiled two)) (last_request input.requests) (all_costs p.devices input.requests) (length input.requests)
    a.released b.released a.due b.due (cycles_small input.requests fits.short.early) costs fits.short.count
  where
    within : (r s c d m n k : ℕ) → r ≤ 281466386710530 → s ≤ 281466386710530 → c ≤ 288229276640083968 → d ≤ 288229276640083968 → m ≤ 1125899906842624 → n ≤ k * 100000 → k ≤ 100000 →
        max r s + (c + d) + (m + n) ≤ 2 ^ 61
    within r s c d m n k a b e f g h i = omega (arith, a, b, e, f, g, h, i)
