-- The tasks of a set that passes the test end in time.
use Rattle.std.specs.Prelude.{unwrap_or}
use Rattle.std.proofs.Common.{◌≡◌, ℕ, zero, suc, ◌+◌, ◌<◌, ◌≤◌, refl, ap, ◌∙◌, sym, subst, arith, true, List, [], ◌∷◌, length, map, Option, Some, slice_get}
use Rattle.std.proofs.lemmas.List.{length-map}
use Rattle.prem_cycle.specs.State.{record_of}
use Rattle.prem_layout.specs.Image.{task_record}
use Rattle.prem_layout.specs.Placed.{Placed}
use Rattle.prem_tasks.specs.Broken.{TaskSet}
use Rattle.prem_tasks.specs.Compiled.{placed_in}
use Rattle.prem_sets_sound.specs.ImagePremises.Accepted.{setup_in}
use Rattle.prem_sets_sound.proofs.Sound.{there}
use Rattle.prem_resp.specs.declared.busy.load.Load.{Load}
use Rattle.prem_resp.specs.declared.busy.length.Busy.{Busy}
use Rattle.prem_resp.specs.declared.busy.length.Busy.TheVariants.{Within, Past}
use Rattle.prem_resp.specs.Busy.Busy.{load_at, no_load}
use Rattle.prem_resp.specs.Busy.Found.{IsFound, busy_of}
use Rattle.prem_resp.proofs.BusyLemmas.First.{busy_found}
use Rattle.prem_resp.specs.Timely.Timely.{load_of}
use Rattle.prem_resp.specs.Lines.{all_within}
use Rattle.prem_resp.specs.Fits.{loads_in, found_from, found_in, FittingSetsEndInTime}
use Rattle.prem_resp.proofs.TimelyLemmas.Images.{get_mapped, one_of}
use Rattle.prem_resp.proofs.TimelyLemmas.Sets.{sets_meet_deadlines}

-- one of several that are all within
pub one_within : (found : List Busy) (i : ℕ) (busy : Busy) → all_within found ≡ true → slice_get found i ≡ Some busy → (n : ℕ) × (busy ≡ Within n)
one_within [] i busy all e = cc
one_within (Within n ∷ found) zero busy all e = (n, sym (ap (λ (o : Option Busy). unwrap_or o (Within n)) e))
one_within (Within n ∷ found) (suc i) busy all e = one_within found i busy all e
one_within (Past ∷ found) i busy all e = cc

-- the period of a load is that of its task
period_is : (set : TaskSet) (i : ℕ) → i < length (setup_in set).tasks → (load_at (loads_in set) i).period ≡ (record_of (setup_in set) i).period
period_is set i lt =
    let long : length (map task_record (placed_in set)) ≡ length (placed_in set) = length-map (placed_in set) task_record in
    let less : i < length (placed_in set) = below lt long in
    let t : Placed = one_of (placed_in set) i less in
    ap (λ (x : Load). x.period) (get_mapped (load_of set.plant) (placed_in set) i t no_load less) ∙ sym (ap (λ x. x.period) (get_mapped task_record (placed_in set) i t _ less)) where
      below : {n m : ℕ} → i < n → n ≡ m → i < m
      below {n} {m} a b = omega (arith, a, b)

-- as many are found as there are tasks
found_there : (set : TaskSet) (found : List Busy) → length found ≡ length (loads_in set) → (i : ℕ) → i < length (setup_in set).tasks → i < length found
found_there set found count i lt =
    let long : length (map task_record (placed_in set)) ≡ length (placed_in set) = length-map (placed_in set) task_record in
    let loads : length (loads_in set) ≡ length (placed_in set) = length-map (placed_in set) (load_of set.plant) in
    below lt long loads count where
      below : {n m l f : ℕ} → i < n → n ≡ m → l ≡ m → f ≡ l → i < f
      below {n} {m} {l} {f} a b c d = omega (arith, a, b, c, d)

-- ---- what is found

-- the busy periods of some loads, one each
pub record AreFound (loads : List Load) (found : List Busy) : Type 0 where
  pub count : length found ≡ length loads
  pub each : (i : ℕ) (busy : Busy) → slice_get found i ≡ Some busy → IsFound loads i busy

pub found_long : (loads : List Load) (i count : ℕ) → length (found_from loads i count) ≡ count
found_long loads i zero = refl
found_long loads i (suc count) = ap suc (found_long loads (i + 1) count)

found_each : (loads : List Load) (i count j : ℕ) (busy : Busy) → slice_get (found_from loads i count) j ≡ Some busy → busy ≡ busy_of loads (i + j)
found_each loads i zero j busy e = cc
found_each loads i (suc count) zero busy e = let same : i ≡ i + 0 = omega arith in sym (ap (λ (o : Option Busy). unwrap_or o busy) e) ∙ ap (busy_of loads) same
found_each loads i (suc count) (suc j) busy e = let same : i + 1 + j ≡ i + suc j = omega arith in found_each loads (i + 1) count j busy e ∙ ap (busy_of loads) same

pub all_found : (loads : List Load) → AreFound loads (found_in loads)
all_found loads = record {
  count = found_long loads 0 (length loads);
  each = λ i busy e.
      let same : 0 + i ≡ i = omega arith in
      subst (IsFound loads i) (sym (found_each loads 0 (length loads) i busy e ∙ ap (busy_of loads) same)) (busy_found loads i);
}

pub fitting_sets_end_in_time : FittingSetsEndInTime
fitting_sets_end_in_time set values kept all i lt =
    let are : AreFound (loads_in set) (found_in (loads_in set)) = all_found (loads_in set) in
    let b = there (found_in (loads_in set)) i (found_there set (found_in (loads_in set)) are.count i lt) in
    let w = one_within (found_in (loads_in set)) i b.0 all b.1 in
    let is : IsFound (loads_in set) i (Within w.0) = subst (IsFound (loads_in set) i) w.1 (are.each i b.0 b.1) in
    let within : w.0 ≤ (record_of (setup_in set) i).period = subst (λ n. w.0 ≤ n) (period_is set i lt) is.1 in
    record {
      cycles = w.0;
      found = b.1 ∙ ap (λ (x : Busy). Some x) w.1;
      ends = record {
        length = is.0;
        within = within;
        ended = λ inputs requests i' t put job n left late. sets_meet_deadlines set values kept inputs requests i' t put i w.0 lt is.0.balanced within job n left late;
      };
    }
