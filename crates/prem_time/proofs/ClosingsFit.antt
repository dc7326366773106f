-- What tasks keep from a device fits the search for its wait, and what the search finds is the wait that is told.
use Rattle.std.specs.Prelude.{All, drop, slice_index_or}
use Rattle.std.specs.List.{AllByRecursion}
use Rattle.std.proofs.Common.{◌≡◌, ℕ, zero, suc, ◌+◌, ◌<◌, ◌≤◌, ◌^◌, refl, ap, ◌∙◌, sym, subst, arith, cond, true, List, [], ◌∷◌, length, map, Option, None, Some, slice_get}
use Rattle.std.proofs.lemmas.List.Elements.{All-from_recursion, recursion_from_All}
use Rattle.prem_resp.specs.declared.busy.load.Load.{Load}
use Rattle.prem_resp.specs.declared.busy.length.Busy.{Busy}
use Rattle.prem_resp.specs.declared.busy.length.Busy.TheVariants.{Within, Past}
use Rattle.prem_resp.specs.Busy.Busy.{IsLoad, load_at}
use Rattle.prem_resp.specs.Busy.Found.{IsFound as IsBusyFound}
use Rattle.prem_resp.specs.Lines.{all_within}
use Rattle.prem_resp.proofs.Fits.{all_found, found_long}
use Rattle.prem_list.specs.Sequence.{items_of}
use Rattle.prem_wcet.specs.Times.{TimesText}
use Rattle.prem_wcet.specs.TimedOf.{times_in}
use Rattle.prem_wcet.specs.declared.timed.TaskTimes.{TaskTimes}
use Rattle.prem_latency.specs.declared.wait.Asking.{Asking}
use Rattle.prem_latency.specs.declared.wait.Closing.{Closing}
use Rattle.prem_latency.specs.Wait.{IsClosing, IsFound, top, wait_of}
use Rattle.prem_latency.proofs.Found.{found_once, wait_found}
use Rattle.prem_time.specs.Words.{most_cycles}
use Rattle.prem_time.specs.Devices.{closing_of, closings_of, wait_by}
use Rattle.prem_time.specs.Told.{HasFound, IsClosedAt, IsShort, closed_told}

-- ---- busy periods within the periods

abbrev BusyFits : Load → Busy → Type 0
BusyFits x (Within n) = n ≤ x.period
BusyFits x Past = Unit {0}

abbrev AllFit : List Load → List Busy → Type 0
AllFit [] found = Unit {0}
AllFit (x ∷ xs) [] = Unit {0}
AllFit (x ∷ xs) (b ∷ bs) = BusyFits x b × AllFit xs bs

fit_of : (loads : List Load) (k : ℕ) (b : Busy) → IsBusyFound loads k b → BusyFits (load_at loads k) b
fit_of loads k (Within n) h = h.1
fit_of loads k Past h = tt

all_fit : (loads : List Load) (found : List Busy) → ((k : ℕ) (b : Busy) → slice_get found k ≡ Some b → BusyFits (load_at loads k) b) → AllFit loads found
all_fit [] found h = tt
all_fit (x ∷ xs) [] h = tt
all_fit (x ∷ xs) (b ∷ bs) h = (h 0 b refl, all_fit xs bs (λ k c e. h (suc k) c e))

-- ---- what tasks keep from a device

closing_fits : (x : Load) (b : Busy) (closed cost : ℕ) → IsLoad x → IsShort x → BusyFits x b → closed ≤ 2 ^ 40 → cost ≤ 100000 → IsClosing (closing_of x b closed cost)
closing_fits x (Within n) closed cost is short fits small few = record { period = is.period; length = omega (arith, short, fits); closed = omega (arith, small, few) }
closing_fits x Past closed cost is short fits small few = record { period = is.period; length = omega (arith, short); closed = omega (arith, small, few) }

all_closings : (loads : List Load) (found : List Busy) (times : List TimesText) (i cost : ℕ) → AllByRecursion IsLoad loads →
    AllByRecursion IsShort loads → AllFit loads found → AllByRecursion (IsClosedAt i) times → cost ≤ 100000 →
    AllByRecursion IsClosing (closings_of loads found (closed_told times i) cost)
all_closings [] found times i cost is short fits closed few = tt
all_closings (x ∷ xs) [] times i cost is short fits closed few = tt
all_closings (x ∷ xs) (b ∷ bs) [] i cost is short fits closed few = tt
all_closings (x ∷ xs) (b ∷ bs) (t ∷ ts) i cost is short fits closed few =
    (closing_fits x b (slice_index_or t.closed i 0) cost is.0 short.0 fits.0 closed.0.small few, all_closings xs bs ts i cost is.1 short.1 fits.1 closed.1 few)

few_closings : (loads : List Load) (found : List Busy) (closed : List ℕ) (cost : ℕ) → length (closings_of loads found closed cost) ≤ length loads
few_closings [] found closed cost = omega arith
few_closings (x ∷ xs) [] closed cost = omega arith
few_closings (x ∷ xs) (b ∷ bs) [] cost = omega arith
few_closings (x ∷ xs) (b ∷ bs) (c ∷ cs) cost = let h : length (closings_of xs bs cs cost) ≤ length xs = few_closings xs bs cs cost in omega (arith, h)

-- ---- one by one

next_of : {A : Type 0} (xs : List A) (k : ℕ) (z : A) → k < length xs → drop k xs ≡ slice_index_or xs k z ∷ drop (k + 1) xs
next_of [] k z lt = absurd (omega (arith, lt))
next_of (x ∷ xs) zero z lt = refl
next_of (x ∷ xs) (suc k) z lt = let same : suc (k + 1) ≡ suc k + 1 = omega arith in next_of xs k z (omega (arith, lt)) ∙ ap (λ n. slice_index_or xs k z ∷ drop n (x ∷ xs)) same

abbrev pub closings_from : List Load → List Busy → List TaskTimes → (i cost k : ℕ) → List Closing
closings_from loads found times i cost k = closings_of (drop k loads) (drop k found) (closed_told (map times_in (drop k times)) i) cost

pub closings_step : (loads : List Load) (found : List Busy) (times : List TaskTimes) (i cost k : ℕ) (x : Load) (b : Busy) (t : TaskTimes) →
    k < length loads → length found ≡ length loads → length times ≡ length loads →
    t ≡ slice_index_or times k t →
    closings_from loads found times i cost k
    ≡ closing_of (slice_index_or loads k x) (slice_index_or found k b) (slice_index_or (items_of t.closed) i 0)
    cost ∷ closings_from loads found times i cost (k + 1)
closings_step loads found times i cost k x b t lt ef et e =
    ap (λ (xs : List Load). closings_of xs (drop k found) (closed_told (map times_in (drop k times)) i) cost) (next_of loads k x lt)
    ∙ ap (λ (bs : List Busy). closings_of (slice_index_or loads k x ∷ drop (k + 1) loads) bs (closed_told (map times_in (drop k times)) i) cost) (next_of found k b (omega (arith, lt, ef)))
    ∙ ap (λ (ts : List TaskTimes). closings_of (slice_index_or loads k x ∷ drop (k + 1) loads) (slice_index_or found k b ∷ drop (k + 1) found) (closed_told (map times_in ts) i) cost)
    (next_of times k t (omega (arith, lt, et)) ∙ ap (λ (y : TaskTimes). y ∷ drop (k + 1) times) (sym e))

pub closed_behind : (times : List TaskTimes) (i k : ℕ) (t : TaskTimes) → k < length times →
    AllByRecursion (IsClosedAt i) (map times_in (drop k times)) → AllByRecursion (IsClosedAt i) (map times_in (drop (k + 1) times))
closed_behind times i k t lt h = (subst (λ (ts : List TaskTimes). AllByRecursion (IsClosedAt i) (map times_in ts)) (next_of times k t lt) h).1

-- ---- as it is found in memory

module _ (loads : List Load) (found : List Busy) (times : List TimesText) (h : HasFound loads found times) where
  pub as_many_found : length found ≡ length loads
  as_many_found = ap (λ (bs : List Busy). length bs) h.found_is ∙ found_long loads 0 (length loads)

  fits_all : AllFit loads found
  fits_all = all_fit loads found (λ k b e. fit_of loads k b ((all_found loads).each k b (sym (ap (λ (bs : List Busy). slice_get bs k) h.found_is) ∙ e)))

  pub closings_fit : (tasks : List Closing) (i cost : ℕ) → tasks ≡ closings_of loads found (closed_told times i) cost → AllByRecursion (IsClosedAt i) times → cost ≤ 100000 → All IsClosing tasks
  closings_fit tasks i cost e closed few =
      subst (λ (ts : List Closing). All IsClosing ts) (sym e)
      (All-from_recursion IsClosing (closings_of loads found (closed_told times i) cost)
      (all_closings loads found times i cost (recursion_from_All IsLoad loads h.checked) h.short fits_all closed few))

  pub closings_count : (tasks : List Closing) (i cost : ℕ) → tasks ≡ closings_of loads found (closed_told times i) cost → length tasks ≤ 16
  closings_count tasks i cost e =
      let same : length tasks ≡ length (closings_of loads found (closed_told times i) cost) = ap (λ (ts : List Closing). length ts) e in
      let few : length (closings_of loads found (closed_told times i) cost) ≤ length loads = few_closings loads found (closed_told times i) cost in
      let most : length loads ≤ 16 = h.count in
      omega (arith, same, few, most)

-- ---- what is found

pub wait_as_told : (askings : List Asking) (loads : List Load) (found : List Busy) (closed : List ℕ) (d : ℕ) (tasks : List Closing) (wait : Option ℕ) → all_within found ≡ true →
    tasks ≡ closings_of loads found closed (top askings d) → IsFound askings tasks d most_cycles wait → wait ≡ wait_by askings loads found closed d
wait_as_told askings loads found closed d tasks wait all e is =
    let meant : List Closing = closings_of loads found closed (top askings d) in
    found_once askings meant d most_cycles wait (wait_of askings meant d most_cycles)
    (subst (λ (ts : List Closing). IsFound askings ts d most_cycles wait) e is) (wait_found askings meant d most_cycles)
    ∙ ap (λ b. cond b (wait_of askings meant d most_cycles) None) (sym all)
