-- What is told in memory of the devices that words name is what is told of those of the set.
use Rattle.std.specs.Prelude.{All, IfSome, slice_index_or}
use Rattle.std.specs.List.{AllByRecursion}
use Rattle.std.proofs.Common.{◌≡◌, ℕ, zero, suc, ◌+◌, ◌<◌, ◌≤◌, ◌^◌, refl, ap, ◌∙◌, sym, subst, arith, cond, Bool, true, false, List, [], ◌∷◌, length, map, Option, None, Some, slice_get}
use Rattle.std.proofs.lemmas.List.{length-map}
use Rattle.std.proofs.lemmas.List.Elements.{All-from_recursion, recursion_from_All}
use Rattle.prem_plant.specs.declared.plant.Plant.{Plant}
use Rattle.prem_plant.specs.declared.plant.Device.{Device}
use Rattle.prem_plant.specs.Ranges.{IsDevice}
use Rattle.prem_layout.specs.Placed.{Placed}
use Rattle.prem_tasks.specs.Lawful.{AreDevices}
use Rattle.prem_wcet.specs.Times.{TimesText, closed_by, times_of}
use Rattle.prem_wcet.specs.TimedOf.{AreSmall}
use Rattle.prem_resp.specs.declared.busy.load.Load.{Load}
use Rattle.prem_resp.specs.declared.busy.length.Busy.{Busy}
use Rattle.prem_resp.specs.Lines.{all_within}
use Rattle.prem_latency.specs.declared.wait.Asking.{Asking}
use Rattle.prem_latency.specs.declared.wait.Closing.{Closing}
use Rattle.prem_latency.specs.Wait.{IsAsking, IsFound, top, wait_of}
use Rattle.prem_latency.specs.Sets.{asking_of}
use Rattle.prem_latency.proofs.Found.{wait_found}
use Rattle.prem_time.specs.declared.devices.Bus.{Bus}
use Rattle.prem_time.specs.declared.devices.Named.{Named}
use Rattle.prem_time.specs.Words.{AreDistances, Distance, most_cycles}
use Rattle.prem_time.specs.Devices.{askings_in, closed_to, closings_of, device_told, every_of, named_before, named_from, named_in, wait_by}
use Rattle.prem_time.specs.Told.{AreNamed, AreTold, HasClosed, IsBus, IsNamed, closed_told, devices_told, tops_of, waits_told}
use Rattle.prem_time.proofs.NamedDevices.{every_is}

-- ---- what devices ask

-- one for each
pub askings_each : (ds : List Distance) (devices : List Device) → askings_in ds devices ≡ map (λ (x : Device). asking_of (every_of ds x.name) x) devices
askings_each ds [] = refl
askings_each ds (x ∷ xs) = ap (λ more. asking_of (every_of ds x.name) x ∷ more) (askings_each ds xs)

pub askings_long : (ds : List Distance) (devices : List Device) → length (askings_in ds devices) ≡ length devices
askings_long ds devices = ap length (askings_each ds devices) ∙ length-map devices (λ (x : Device). asking_of (every_of ds x.name) x)

is_asking : (o : Option ℕ) (x : Device) → IsDevice x → ((every : ℕ) → o ≡ Some every → (1 ≤ every) × (every ≤ 2 ^ 40)) → IsAsking (asking_of o x)
is_asking None x is some = record { every = omega arith; apart = omega arith; cost = omega arith }
is_asking (Some every) x is some = record { every = (some every refl).0; apart = (some every refl).1; cost = is.cost.1 }

all_ask : (ds : List Distance) (devices : List Device) → AreDistances ds → AllByRecursion IsDevice devices → AllByRecursion IsAsking (askings_in ds devices)
all_ask ds [] are is = tt
all_ask ds (x ∷ xs) are is = (is_asking (every_of ds x.name) x is.0 (λ every e. every_is ds x.name every are e), all_ask ds xs are is.1)

-- ---- those that are named

all_named : (ds : List Distance) (d total : ℕ) (devices : List Device) → AreDistances ds → d + length devices ≤ total →
    AllByRecursion (λ (n : Named). (n.number < total) × ((1 ≤ n.every) × (n.every ≤ 2 ^ 40))) (named_from ds d devices)
all_named ds d total [] are le = tt
all_named ds d total (x ∷ xs) are le = by (every_of ds x.name) refl (all_named ds (d + 1) total xs are (omega (arith, le))) where
  by : (o : Option ℕ) → every_of ds x.name ≡ o → AllByRecursion (λ (n : Named). (n.number < total) × ((1 ≤ n.every) × (n.every ≤ 2 ^ 40))) (named_from ds (d + 1) xs) →
      AllByRecursion (λ (n : Named). (n.number < total) × ((1 ≤ n.every) × (n.every ≤ 2 ^ 40))) (named_before d o (named_from ds (d + 1) xs))
  by None e more = more
  by (Some every) e more = ((omega (arith, le), every_is ds x.name every are e), more)

are_there : (askings : List Asking) (total : ℕ) (ns : List Named) → length askings ≡ total →
    AllByRecursion (λ (n : Named). (n.number < total) × ((1 ≤ n.every) × (n.every ≤ 2 ^ 40))) ns → AllByRecursion (IsNamed askings) ns
are_there askings total [] e h = tt
are_there askings total (n ∷ ns) e h = (record { there = (let x : n.number < total = h.0.0 in omega (arith, e, x)); some = h.0.1.0; most = h.0.1.1 }, are_there askings total ns e h.1)

pub are_named : (ds : List Distance) (devices : List Device) (b : Bus) → AreDistances ds → AreDevices devices → IsBus ds devices b → AreNamed b
are_named ds devices b are lawful is =
    let long : length b.askings.items ≡ length devices = ap length is.askings ∙ askings_long ds devices in
    record {
      askings = subst (λ (xs : List Asking). All IsAsking xs) (sym is.askings)
          (All-from_recursion IsAsking (askings_in ds devices) (all_ask ds devices are (recursion_from_All IsDevice devices lawful.each)));
      few = (let few : length devices ≤ 8 = lawful.count in omega (arith, long, few));
      named = subst (λ (ns : List Named). AllByRecursion (IsNamed b.askings.items) ns) (sym is.named)
          (are_there b.askings.items (length devices) (named_in ds devices) long (all_named ds 0 (length devices) devices are (omega arith)));
    }

-- ---- what jobs keep closed to them

-- one column of the times of all tasks
column : (p : Plant) (askings : List Asking) (named : List Named) (placed : List Placed) (i : ℕ) (n : Named) → slice_get named i ≡ Some n →
    closed_told (map (times_of p (tops_of askings named)) placed) i ≡ closed_to p (top askings n.number) placed
column p askings named [] i n e = refl
column p askings named (t ∷ ts) i n e =
    ap (λ c. c ∷ closed_told (map (times_of p (tops_of askings named)) ts) i) (first named i e)
    ∙ ap (λ cs. closed_by p t (top askings n.number) ∷ cs) (column p askings named ts i n e)
  where
    first : (ns : List Named) (i : ℕ) → slice_get ns i ≡ Some n → slice_index_or (map (closed_by p t) (map (λ (m : Named). top askings m.number) ns)) i 0 ≡ closed_by p t (top askings n.number)
    first [] i h = absurd cc
    first (m ∷ ms) zero h = let same : m ≡ n = cc in ap (λ (x : Named). closed_by p t (top askings x.number)) same
    first (m ∷ ms) (suc i) h = first ms i h

abbrev columns_are : Plant → List Asking → List TimesText → List Placed → ℕ → List Named → Type 0
columns_are p askings times placed i ns = (j : ℕ) (n : Named) → slice_get ns j ≡ Some n → closed_told times (i + j) ≡ closed_to p (top askings n.number) placed

told_from : (p : Plant) (devices : List Device) (askings : List Asking) (loads : List Load) (found : List Busy) (times : List TimesText)
    (placed : List Placed) (i : ℕ) (ns : List Named) → columns_are p askings times placed i ns →
    devices_told devices ns (waits_told askings loads found times i ns)
    ≡ map (λ (n : Named). device_told devices n (wait_by askings loads found (closed_to p (top askings n.number) placed) n.number)) ns
told_from p devices askings loads found times placed i [] h = refl
told_from p devices askings loads found times placed i (n ∷ ns) h =
    let here : closed_told times i ≡ closed_to p (top askings n.number) placed =
    subst (λ k. closed_told times k ≡ closed_to p (top askings n.number) placed) (let e : i + 0 ≡ i = omega arith in e) (h 0 n refl) in
    let more = told_from p devices askings loads found times placed (i + 1) ns
    (λ j m e. subst (λ k. closed_told times k ≡ closed_to p (top askings m.number) placed) (let s : i + suc j ≡ i + 1 + j = omega arith in s)
    (h (suc j) m e)) in
    ap (λ closed. device_told devices n (wait_by askings loads found closed n.number) ∷ devices_told devices ns (waits_told askings loads found times (i + 1) ns)) here
    ∙ ap (λ xs. device_told devices n (wait_by askings loads found (closed_to p (top askings n.number) placed) n.number) ∷ xs) more

pub devices_are : (p : Plant) (devices : List Device) (askings : List Asking) (named : List Named) (loads : List Load) (found : List Busy) (placed : List Placed) →
    devices_told devices named (waits_told askings loads found (map (times_of p (tops_of askings named)) placed) 0 named)
    ≡ map (λ (n : Named). device_told devices n (wait_by askings loads found (closed_to p (top askings n.number) placed) n.number)) named
devices_are p devices askings named loads found placed =
    told_from p devices askings loads found (map (times_of p (tops_of askings named)) placed) placed 0 named
    (λ j n e. subst (λ k. closed_told (map (times_of p (tops_of askings named)) placed) k ≡ closed_to p (top askings n.number) placed)
    (let s : j ≡ 0 + j = omega arith in s) (column p askings named placed j n e))

-- ---- numbers for each of them

pub has_closed : (p : Plant) (tops : List ℕ) (n : ℕ) (placed : List Placed) → length tops ≡ n →
    AllByRecursion AreSmall (map (times_of p tops) placed) → AllByRecursion (HasClosed n) (map (times_of p tops) placed)
has_closed p tops n [] e small = tt
has_closed p tops n (t ∷ ts) e small = (record { count = length-map tops (closed_by p t) ∙ e; small = small.0.closed }, has_closed p tops n ts e small.1)

-- ---- what is written of them

short_found : (askings : List Asking) (tasks : List Closing) (d : ℕ) (o : Option ℕ) → IsFound askings tasks d most_cycles o → IfSome o (λ n. n ≤ 2 ^ 40)
short_found askings tasks d None h = tt
short_found askings tasks d (Some wait) h = h.1

short_wait : (askings : List Asking) (loads : List Load) (found : List Busy) (closed : List ℕ) (d : ℕ) → IfSome (wait_by askings loads found closed d) (λ n. n ≤ 2 ^ 40)
short_wait askings loads found closed d = by (all_within found) where
  by : (b : Bool) → IfSome (cond b (wait_of askings (closings_of loads found closed (top askings d)) d most_cycles) None) (λ n. n ≤ 2 ^ 40)
  by true =
      short_found askings (closings_of loads found closed (top askings d)) d (wait_of askings (closings_of loads found closed (top askings d)) d most_cycles)
      (wait_found askings (closings_of loads found closed (top askings d)) d most_cycles)
  by false = tt

pub are_told : (devices : List Device) (askings : List Asking) (loads : List Load) (found : List Busy) (times : List TimesText) (i : ℕ)
    (ns : List Named) → length askings ≡ length devices → AllByRecursion (IsNamed askings) ns →
    AreTold devices ns (waits_told askings loads found times i ns)
are_told devices askings loads found times i [] e h = tt
are_told devices askings loads found times i (n ∷ ns) e h = (
  (let there : n.number < length askings = h.0.there in omega (arith, e, there)),
  (
    record { some = h.0.some; most = h.0.most; short = short_wait askings loads found (closed_told times i) n.number },
    are_told devices askings loads found times (i + 1) ns e h.1,
  ),
)
