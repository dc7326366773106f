-- The numbers that are told of a set hold of its runs.
use Rattle.std.proofs.Common.{◌≡◌, ℕ, suc, ◌+◌, ◌*◌, ◌<◌, ◌≤◌, ap, ◌∙◌, sym, subst, refl, arith, false, List, [], ◌∷◌, length, map, Some, slice_get}
use Rattle.std.proofs.lemmas.List.{length-map}
use Rattle.prem_image.specs.declared.image.TaskRecord.{TaskRecord}
use Rattle.prem_cycle.specs.State.{no_record, record_of}
use Rattle.prem_sound.specs.Script.Scripts.{last_release, sum_below}
use Rattle.prem_sound.specs.Limits.{jobs_limit}
use Rattle.prem_layout.specs.Image.{task_record}
use Rattle.prem_layout.specs.Placed.{Placed}
use Rattle.prem_tasks.specs.Broken.{TaskSet}
use Rattle.prem_tasks.specs.Compiled.{placed_in, places_in}
use Rattle.prem_sets_sound.specs.ImagePremises.Accepted.{setup_in}
use Rattle.prem_sets_sound.proofs.Sound.{there}
use Rattle.prem_sets_sound.proofs.ImagePremisesLemmas.Whole.{default_places_are_lawful}
use Rattle.prem_sets_sound.proofs.PlacesSoundLemmas.At.{default_is_at}
use Rattle.prem_latency.specs.Wcet.Tasks.{task_stretch, task_wcet}
use Rattle.prem_latency.specs.Wcet.Sets.{stretch_at, wcet_at}
use Rattle.prem_latency.proofs.WcetLemmas.Sets.{sets_go_by_wcet}
use Rattle.prem_resp.specs.declared.busy.load.Load.{Load}
use Rattle.prem_resp.specs.declared.busy.length.Busy.{Busy}
use Rattle.prem_resp.specs.declared.busy.length.Busy.TheVariants.{Within, Past}
use Rattle.prem_resp.specs.Busy.Busy.{load_at, no_load}
use Rattle.prem_resp.specs.Busy.Found.{IsFound}
use Rattle.prem_resp.specs.Timed.Timed.{TellsCharges}
use Rattle.prem_resp.specs.Lines.{all_within}
use Rattle.prem_resp.specs.Fits.{found_in}
use Rattle.prem_resp.proofs.BusyLemmas.Totals.{sum_le}
use Rattle.prem_resp.proofs.Fits.{all_found, one_within}
use Rattle.prem_resp.proofs.TimelyLemmas.Images.{get_mapped, one_of}
use Rattle.prem_time.specs.Times.{limit_in, load_of, loads_in}
use Rattle.prem_time.specs.Fits.{FittingSetsEndInTime, LateSetsHavePast, SetsKeepTimes}
use Rattle.prem_time.proofs.DeadlinesLemmas.Deadlines.{sets_meet_deadlines_by_wcet}

-- ---- the loads of a set

less : (k n m : ℕ) → k < n → n ≡ m → k < m
less k n m lt e = omega (arith, lt, e)

pub tells_charges : (set : TaskSet) → TellsCharges (setup_in set) (wcet_at set.plant (placed_in set)) (stretch_at set.plant (placed_in set)) (loads_in set)
tells_charges set =
    let p = set.plant in
    let long : length (map task_record (placed_in set)) ≡ length (placed_in set) = length-map (placed_in set) task_record in
    let same : length (map (load_of p) (placed_in set)) ≡ length (placed_in set) = length-map (placed_in set) (load_of p) in
    record {
      count = same ∙ sym long;
      period = λ k lt.
          let lk : k < length (placed_in set) = less k _ _ lt long in
          let t : Placed = one_of (placed_in set) k lk in
          ap (λ (x : Load). x.period) (get_mapped (load_of p) (placed_in set) k t no_load lk) ∙ sym (ap (λ (x : TaskRecord). x.period) (get_mapped task_record (placed_in set) k t no_record lk));
      cost = λ k lt.
          let lk : k < length (placed_in set) = less k _ _ lt long in
          let t : Placed = one_of (placed_in set) k lk in
          ap (λ (x : Load). x.cost) (get_mapped (load_of p) (placed_in set) k t no_load lk) ∙ sym (get_mapped (task_wcet p) (placed_in set) k t 0 lk);
      longest_is = λ k lt.
          let lk : k < length (placed_in set) = less k _ _ lt long in
          let t : Placed = one_of (placed_in set) k lk in
          ap (λ (x : Load). x.longest) (get_mapped (load_of p) (placed_in set) k t no_load lk) ∙ ap (λ n. p.switch + n) (sym (get_mapped (task_stretch p) (placed_in set) k t 0 lk));
    }

-- ---- each set that breaks no rule

same_work : (jobs a b : ℕ) → b ≡ a → jobs * a ≤ jobs * b
same_work jobs a b e = subst (λ x. jobs * a ≤ jobs * x) (sym e) (omega arith)

behind_release : (release a b : ℕ) → a ≤ b → release + a ≤ release + b
behind_release release a b le = omega (arith, le)

-- the limit is that of what jobs take at most
limit_reaches : (set : TaskSet) → jobs_limit (setup_in set) (wcet_at set.plant (placed_in set)) ≤ limit_in set
limit_reaches set =
    let p = setup_in set in
    let cost : ℕ → ℕ = wcet_at set.plant (placed_in set) in
    let told : ℕ → ℕ = λ k. (load_at (loads_in set) k).cost in
    behind_release (last_release p.tasks) (sum_below (length p.tasks) (λ k. (record_of p k).jobs * cost k)) (sum_below (length p.tasks) (λ k. (record_of p k).jobs * told k))
    (sum_le (length p.tasks) (λ k. (record_of p k).jobs * cost k) (λ k. (record_of p k).jobs * told k) (λ k lt. same_work (record_of p k).jobs (cost k) (told k) ((tells_charges set).cost k lt)))

both_reach : (a b n : ℕ) → a ≤ b → b ≤ n → a ≤ n
both_reach a b n le lt = omega (arith, le, lt)

pub sets_keep_times : SetsKeepTimes
sets_keep_times set values none =
    let lawful = default_places_are_lawful set values none in
    let at = default_is_at set none in
    let met = sets_meet_deadlines_by_wcet set (places_in set) values lawful at (loads_in set) (tells_charges set) in
    let sound = sets_go_by_wcet set (places_in set) values lawful at in
    record {
      intervals = met.1.0;
      costs = met.1.1;
      finishes = λ inputs requests are trace words n le. sound.finished inputs requests n are trace words (both_reach _ _ n (limit_reaches set) le);
    }

-- ---- busy periods

-- as many are found as there are tasks
found_there : (set : TaskSet) (found : List Busy) → length found ≡ length (loads_in set) → (i : ℕ) → i < length (setup_in set).tasks → i < length found
found_there set found count i lt = more i _ _ _ lt count (tells_charges set).count where
  more : (i f l n : ℕ) → i < n → f ≡ l → l ≡ n → i < f
  more i f l n lt a b = omega (arith, lt, a, b)

pub one_found : (set : TaskSet) (i : ℕ) → i < length (setup_in set).tasks → (busy : Busy) × (slice_get (found_in (loads_in set)) i ≡ Some busy)
one_found set i lt = there (found_in (loads_in set)) i (found_there set (found_in (loads_in set)) (all_found (loads_in set)).count i lt)

pub fitting_sets_end_in_time : FittingSetsEndInTime
fitting_sets_end_in_time set values none all i lt =
    let b = one_found set i lt in
    let w = one_within (found_in (loads_in set)) i b.0 all b.1 in
    let is : IsFound (loads_in set) i (Within w.0) = subst (IsFound (loads_in set) i) w.1 ((all_found (loads_in set)).each i b.0 b.1) in
    let within : w.0 ≤ (record_of (setup_in set) i).period = subst (λ n. w.0 ≤ n) ((tells_charges set).period i lt) is.1 in
    let met = sets_meet_deadlines_by_wcet set (places_in set) values (default_places_are_lawful set values none) (default_is_at set none) (loads_in set) (tells_charges set) in
    record {
      cycles = w.0;
      found = b.1 ∙ ap (λ (x : Busy). Some x) w.1;
      ends = record {
        length = is.0;
        within = within;
        ended = λ inputs requests are trace words job n left late. met.0 inputs requests are trace words i w.0 lt is.0.balanced within job n left late;
      };
    }

-- ---- sets that are late

one_past : (found : List Busy) → all_within found ≡ false → (i : ℕ) × ((i < length found) × (slice_get found i ≡ Some Past))
one_past [] e = absurd cc
one_past (Within n ∷ found) e = let h = one_past found e in (suc h.0, (omega (arith, h.1.0), h.1.1))
one_past (Past ∷ found) e = (0, (omega arith, refl))

pub late_sets_have_past : LateSetsHavePast
late_sets_have_past set late =
    let h = one_past (found_in (loads_in set)) late in
    let lt : h.0 < length (setup_in set).tasks = fewer h.0 _ _ _ h.1.0 (all_found (loads_in set)).count (tells_charges set).count in
    record {
      task = h.0;
      there = lt;
      found = h.1.1;
      past = λ cycles balanced within. (all_found (loads_in set)).each h.0 Past h.1.1 cycles balanced (subst (λ n. cycles ≤ n) (sym ((tells_charges set).period h.0 lt)) within);
    }
  where
    fewer : (i f l n : ℕ) → i < f → f ≡ l → l ≡ n → i < n
    fewer i f l n lt a b = omega (arith, lt, a, b)
