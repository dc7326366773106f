-- The set of two tasks, computed: its device may ask each 5000 cycles, and each request is transferred within 1198 cycles.
use Rattle.std.specs.Prelude.{IfSome, drop, map, slice_index_or}
use Rattle.std.specs.List.Sorted.{IsNonDecreasingBy}
use Rattle.std.proofs.Common.{◌≡◌, ℕ, zero, suc, ◌+◌, ◌^◌, ◌<◌, ◌≤◌, refl, ap, ◌∙◌, sym, subst, arith, cond, Bool, Some, Option, List, [], ◌∷◌, length}
use Rattle.std.proofs.lemmas.Bool.{leb-true, ne_eqb}
use Rattle.std.proofs.lemmas.List.{length-map}
use Rattle.std.proofs.lemmas.List.Elements.{All-nil, All-cons}
use Rattle.prem_plant.specs.declared.plant.Device.{Device}
use Rattle.prem_plant.specs.Ranges.{default_plant}
use Rattle.prem_lru.specs.Rules.{rule_of}
use Rattle.prem_gate.specs.declared.request.Request.{Request}
use Rattle.prem_image.specs.declared.image.TaskRecord.{TaskRecord}
use Rattle.prem_cycle.specs.State.{Setup, record_of, no_record}
use Rattle.prem_cycle.specs.Inputs.{image_setup, no_device, IsRequest}
use Rattle.prem_cycle.proofs.Images.{put}
use Rattle.prem_sound.specs.Serve.Requests.{asked_of}
use Rattle.prem_sound.specs.Sound.{AreInputs}
use Rattle.prem_layout.specs.Image.{task_record}
use Rattle.prem_layout.specs.Placed.{Placed, part_total}
use Rattle.prem_tasks.specs.Compiled.{coded_in, places_in}
use Rattle.prem_tasks.specs.At.{placed_by, compiled_at}
use Rattle.prem_sets_sound.proofs.ImagePremisesLemmas.Sample.{net, sample, sample_values, sample_breaks_nothing}
use Rattle.prem_sets_sound.proofs.ImagePremisesLemmas.Whole.{default_places_are_lawful, accepted_sets_are_laid_out}
use Rattle.prem_sets_sound.proofs.PlacesSoundLemmas.At.{default_is_at}
use Rattle.prem_latency.specs.Wcet.Tasks.{task_wcet}
use Rattle.prem_latency.specs.Wcet.Sets.{wcet_at, stretch_at, closed_at}
use Rattle.prem_latency.proofs.WcetLemmas.Sample.{sample_periods, sample_wcets, sample_stretches, sample_closed}
use Rattle.prem_resp.specs.declared.busy.load.Load.{Load}
use Rattle.prem_resp.specs.Busy.Busy.{load_at}
use Rattle.prem_resp.specs.Timed.Timed.{TellsCharges}
use Rattle.prem_latency.specs.declared.wait.Closing.{Closing}
use Rattle.prem_latency.specs.Wait.{IsRoom}
use Rattle.prem_latency.specs.Images.{ServesFound, ServesDevice}
use Rattle.prem_latency.specs.Timeline.{closing_at}
use Rattle.prem_latency.specs.Joined.{TellsTask, TellsWaits}
use Rattle.prem_latency.specs.Sets.{distance_at, askings_of, AreDistances, KeepsDistance, KeepDistances}
use Rattle.prem_latency.proofs.SetDevices.{device_is}
use Rattle.prem_latency.proofs.SetWaits.{records_all, sets_serve_devices}

abbrev pub setup : Setup
setup = image_setup (compiled_at sample (places_in sample)).image

abbrev placed : List Placed
placed = placed_by sample (places_in sample)

abbrev distances : List (Option ℕ)
distances = Some 5000 ∷ []

abbrev loads : List Load
loads = record { period = 20000; cost = 2370; longest = 2020 } ∷ record { period = 50000; cost = 115; longest = 115 } ∷ []

abbrev tasks : List Closing
tasks = record { period = 20000; length = 2485; closed = 963 } ∷ record { period = 50000; length = 2485; closed = 175 } ∷ []

pub two_tasks : length setup.tasks ≡ 2
two_tasks = length-map placed task_record ∙ sym (length-map placed (task_wcet default_plant)) ∙ ap length sample_wcets

-- ---- what is told of them

-- of the two numbers of tasks
each_task : (P : ℕ → Type 0) → P 0 → P 1 → (k : ℕ) → k < length setup.tasks → P k
each_task P a b zero lt = a
each_task P a b (suc zero) lt = b
each_task P a b (suc (suc k)) lt = let two = two_tasks in absurd (omega (arith, lt, two))

wcet_is : (k n : ℕ) → slice_index_or (2370 ∷ 115 ∷ []) k 0 ≡ n → wcet_at sample.plant placed k ≡ n
wcet_is k n e = ap (λ ns. slice_index_or ns k 0) sample_wcets ∙ e

period_is : (k n : ℕ) → slice_index_or (20000 ∷ 50000 ∷ []) k 0 ≡ n → k < 2 → (record_of setup k).period ≡ n
period_is k n e lt = sym (at_period setup.tasks k (let two = two_tasks in omega (arith, two, lt))) ∙ ap (λ ns. slice_index_or ns k 0) sample_periods ∙ e where
  at_period : (ts : List TaskRecord) (k : ℕ) → k < length ts → slice_index_or (map (λ (t : TaskRecord). t.period) ts) k 0 ≡ (slice_index_or ts k no_record).period
  at_period [] k lt = absurd (omega (arith, lt))
  at_period (t ∷ ts) zero lt = refl
  at_period (t ∷ ts) (suc k) lt = at_period ts k (omega (arith, lt))

loads_tell : TellsCharges setup (wcet_at sample.plant placed) (stretch_at sample.plant placed) loads
loads_tell = record {
  count = sym two_tasks;
  period = each_task (λ k. (load_at loads k).period ≡ (record_of setup k).period) (sym (period_is 0 20000 refl (omega arith))) (sym (period_is 1 50000 refl (omega arith)));
  cost = each_task (λ k. (load_at loads k).cost ≡ wcet_at sample.plant placed k) (sym (wcet_is 0 2370 refl)) (sym (wcet_is 1 115 refl));
  longest_is = each_task (λ k. (load_at loads k).longest ≡ setup.plant.switch + stretch_at sample.plant placed k)
      (ap (λ ns. 20 + slice_index_or ns 0 0) (sym sample_stretches)) (ap (λ ns. 20 + slice_index_or ns 1 0) (sym sample_stretches));
}

waits_tell : TellsWaits setup loads (closed_at sample.plant 60 placed) 60 tasks
waits_tell = record {
  count = sym two_tasks;
  each = each_task (λ k. TellsTask loads (closed_at sample.plant 60 placed) 60 k (closing_at tasks k))
      (record { period = refl; balanced = (omega arith, refl); soon = omega arith; closed_is = most _ _ (ap (λ ns. slice_index_or ns 0 0) sample_closed) (omega arith) })
      (record { period = refl; balanced = (omega arith, refl); soon = omega arith; closed_is = most _ _ (ap (λ ns. slice_index_or ns 1 0) sample_closed) (omega arith) });
} where
  most : (n m : ℕ) {top : ℕ} → n ≡ m → m + 60 ≤ top → n + 60 ≤ top
  most n m e le = omega (arith, e, le)

some : AreDistances distances
some zero every e = let same : Some 5000 ≡ Some every = e in let is : 5000 ≡ every = cc in omega (arith, is)
some (suc j) every e = cc

room : IsRoom (askings_of distances sample.devices) tasks 0 1198
room = (omega arith, leb-true _ 1198 refl)

-- ---- what the law gives

sample_serves : (inputs : List (List ℕ)) (requests : List Request) → AreInputs setup inputs → KeepDistances setup distances requests →
    ServesFound (rule_of sample.plant.policy) setup (compiled_at sample (places_in sample)).image.content inputs requests 0 1198
    × ServesDevice (rule_of sample.plant.policy) setup (compiled_at sample (places_in sample)).image.content inputs requests 0 1198
sample_serves inputs requests are keeps =
    let s = sets_serve_devices sample (places_in sample) sample_values (default_places_are_lawful sample sample_values sample_breaks_nothing)
    (default_is_at sample sample_breaks_nothing) loads loads_tell distances some 0 5000 1198 net refl refl
    tasks waits_tell room inputs requests are keeps in
    (s.0, s.1 (leb-true _ 8 refl))

-- such requests
abbrev pub asked : List Request
asked = put 0 0 0 5 ∷ put 5000 0 1 6 ∷ []

one_device : length setup.devices ≡ 1
one_device = records_all sample.plant sample.devices (coded_in sample) (places_in sample)
    (accepted_sets_are_laid_out sample (places_in sample) sample_values sample_breaks_nothing
    (default_places_are_lawful sample sample_values sample_breaks_nothing))

its_device : (slice_index_or setup.devices 0 no_device).device ≡ net
its_device = device_is sample.devices (drop (part_total (coded_in sample)) (places_in sample)) one_device 0 net refl

one_request : (r : Request) → r.device ≡ 0 → r.line < 4 → IsRequest setup.devices r
one_request r e lt = record {
  device = (let one = one_device in omega (arith, e, one));
  line = subst (λ i. r.line < (slice_index_or setup.devices i no_device).device.lines) (sym e) (subst (λ (d : Device). r.line < d.lines) (sym its_device) lt);
}

in_order : IsNonDecreasingBy (λ (r : Request). r.cycle) asked
in_order zero j d le below = omega arith
in_order (suc i) zero d le below = absurd (omega (arith, le))
in_order (suc zero) (suc zero) d le below = omega arith
in_order (suc (suc i)) (suc zero) d le below = absurd (omega (arith, le))
in_order (suc i) (suc (suc j)) d le below = absurd (omega (arith, below))

pub sample_asks : KeepDistances setup distances asked
sample_asks = record {
  trace = record {
    each = All-cons (IsRequest setup.devices) (put 0 0 0 5) (put 5000 0 1 6 ∷ []) (one_request (put 0 0 0 5) refl (omega arith))
        (All-cons (IsRequest setup.devices) (put 5000 0 1 6) [] (one_request (put 5000 0 1 6) refl (omega arith)) (All-nil (IsRequest setup.devices)));
    ordered = in_order;
  };
  words = All-cons (λ (r : Request). IfSome r.put (λ value. value < 2 ^ 32)) (put 0 0 0 5) (put 5000 0 1 6 ∷ []) (omega arith)
      (All-cons (λ (r : Request). IfSome r.put (λ value. value < 2 ^ 32)) (put 5000 0 1 6) [] (omega arith)
      (All-nil (λ (r : Request). IfSome r.put (λ value. value < 2 ^ 32))));
  each = keeps;
} where
  keeps : (j : ℕ) → KeepsDistance (distance_at distances j) (asked_of j asked)
  keeps zero = (
    All-cons (λ (q : Request). 0 + 5000 ≤ q.cycle) (put 5000 0 1 6) [] (omega arith) (All-nil (λ (q : Request). 0 + 5000 ≤ q.cycle)),
    (All-nil (λ (q : Request). 5000 + 5000 ≤ q.cycle), tt),
  )
  keeps (suc j) = ap (λ (b : Bool). cond b (put 0 0 0 5 ∷ cond b (put 5000 0 1 6 ∷ []) []) (cond b (put 5000 0 1 6 ∷ []) [])) (ne_eqb 0 (suc j) (λ e. omega (arith, e)))
