-- The set of a sample is lawful, and so is what comes to its run.
use Rattle.std.specs.Prelude.{codes}
use Rattle.std.specs.List.{AllByRecursion}
use Rattle.std.specs.List.Sorted.{IsNonDecreasingBy}
use Rattle.std.proofs.Common.{◌≡◌, ℕ, zero, suc, ◌+◌, ◌*◌, ◌/◌, ◌<◌, ◌≤◌, List, [], ◌∷◌, length, map, get_or, refl, ap, sym, ◌∙◌, subst, arith, lit≤, All}
use Rattle.std.proofs.lemmas.Nat.{mod_below}
use Rattle.std.proofs.lemmas.List.{length-map}
use Rattle.std.proofs.lemmas.List.Elements.{All-nil, All-cons}
use Rattle.prem_plant.specs.declared.plant.Plant.{Plant}
use Rattle.prem_plant.specs.declared.plant.Device.{Device}
use Rattle.prem_plant.specs.Label.{IsName}
use Rattle.prem_plant.specs.Ranges.{IsPlant, IsDevice}
use Rattle.prem_gate.specs.declared.request.Request.{Request}
use Rattle.prem_gate.specs.declared.request.RunInput.{RunInput}
use Rattle.prem_syntax.specs.Syntax.{Text}
use Rattle.prem_tasks.specs.declared.set.TaskText.{TaskText as TaskTree}
use Rattle.prem_tasks.specs.Lawful.{IsTaskText, AreDevices, AreTasks, IsSet, device_names, task_names as tree_names, are_new}
use Rattle.prem_tasks.specs.Broken.{TaskText, TaskSet}
use Rattle.prem_tasks.specs.SetOf.{task_of}
use Rattle.prem_tasks.proofs.Distinct.{devices_are, tasks_are}
use Rattle.prem_set.specs.Run.Names.{KnownNames}
use Rattle.prem_set.specs.Run.Lawful.{IsKnown, IsLawful, IsLawfulRun}
use Rattle.prem_exec.specs.Forms.{RunText}
use Rattle.prem_exec.specs.Exec.{input_of}
use Rattle.prem_exec.specs.Sources.Sources.{names_of}
use Rattle.prem_running.specs.Sample.Draws.{next, drawn, after, numbers}
use Rattle.prem_running.specs.Sample.Trace.{task_names, behind_task, behind_tasks, tasks_from, words_from, request_at, requests_from, device_named, sample_devices, sample_set, sample_run}
use Rattle.prem_running.proofs.SampleLemmas.Numbers.{numbers_counted}

-- ---- the set

abbrev InRange : TaskText → Type 0
InRange t = IsName t.name × ((1 ≤ t.period) × (t.period ≤ 4294967295)) × ((1 ≤ t.jobs) × (t.jobs ≤ 65535))

-- a task with such a name
named_in_range : (name : Text) → IsName name → IsName name × ((1 ≤ 2100000) × (2100000 ≤ 4294967295)) × ((1 ≤ 2) × (2 ≤ 65535))
named_in_range name is = (is, (lit≤ tt, lit≤ tt), (lit≤ tt, lit≤ tt))

all_in_range : (names : List Text) (x : ℕ) → AllByRecursion IsName names → AllByRecursion InRange (tasks_from names x)
all_in_range [] x is = tt
all_in_range (name ∷ names) x is = (named_in_range name is.0, all_in_range names (after 160 (after 16 x)) is.1)

names_are : AllByRecursion IsName task_names
names_are = (
  record { some = lit≤ tt; short = lit≤ tt; each = refl },
  (
    record { some = lit≤ tt; short = lit≤ tt; each = refl },
    (
      record { some = lit≤ tt; short = lit≤ tt; each = refl },
      (record { some = lit≤ tt; short = lit≤ tt; each = refl }, tt),
    ),
  ),
)

each_is : (trees : List TaskTree) (ts : List TaskText) → map task_of trees ≡ ts → AllByRecursion InRange ts → All IsTaskText trees
each_is [] ts is ranges = All-nil IsTaskText
each_is (t ∷ trees) [] is ranges = absurd cc
each_is (t ∷ trees) (s ∷ ts) is ranges =
    let same : task_of t ≡ s = cc in
    let rest : map task_of trees ≡ ts = cc in
    let r : InRange (task_of t) = subst InRange (sym same) ranges.0 in
    All-cons IsTaskText t trees (record { name = r.0; period = r.1; jobs = r.2 }) (each_is trees ts rest ranges.1)

named_trees : (trees : List TaskTree) → tree_names trees ≡ map (λ (t : TaskText). t.name) (map task_of trees)
named_trees [] = refl
named_trees (t ∷ trees) = ap (λ (xs : List Text). t.name ∷ xs) (named_trees trees)

tasks_are_lawful : (trees : List TaskTree) (seed : ℕ) → map task_of trees ≡ tasks_from task_names seed → AreTasks trees
tasks_are_lawful trees seed is =
    let size : length trees ≡ 4 = sym (length-map trees task_of) ∙ ap length is in
    let names : tree_names trees ≡ task_names = named_trees trees ∙ ap (map (λ (t : TaskText). t.name)) is in
    (tasks_are trees (are_new (tree_names trees)) (omega (arith, size)) (omega (arith, size))
    (each_is trees (tasks_from task_names seed) is (all_in_range task_names seed names_are)) refl).0 (ap are_new names)

devices_are_lawful : AreDevices sample_devices
devices_are_lawful = (devices_are sample_devices (are_new (device_names sample_devices)) (lit≤ tt) each refl).0 refl
  where
    is_device : (name : Text) (cost : ℕ) → IsName name → 1 ≤ cost → cost ≤ 100000 → IsDevice (device_named name cost)
    is_device name cost is low high = record { name = is; queue = (lit≤ tt, lit≤ tt); cost = (low, high); lines = (lit≤ tt, lit≤ tt) }

    each : All IsDevice sample_devices
    each =
        All-cons IsDevice (device_named (codes "dma") 40) (device_named (codes "nic") 60 ∷ [])
        (is_device (codes "dma") 40 (record { some = lit≤ tt; short = lit≤ tt; each = refl }) (lit≤ tt) (lit≤ tt))
        (All-cons IsDevice (device_named (codes "nic") 60) []
        (is_device (codes "nic") 60 (record { some = lit≤ tt; short = lit≤ tt; each = refl }) (lit≤ tt) (lit≤ tt))
        (All-nil IsDevice))

pub set_is_lawful : (p : Plant) (devices : List Device) (trees : List TaskTree) (seed : ℕ) → IsPlant p → devices ≡ sample_devices → map task_of trees ≡ tasks_from task_names seed →
    IsSet p devices trees
set_is_lawful p devices trees seed plant are is = record {
  plant_is = plant;
  devices_are = subst AreDevices (sym are) devices_are_lawful;
  tasks_are = tasks_are_lawful trees seed is;
}

-- ---- what comes to its run

abbrev names : ℕ → KnownNames
names seed = names_of (sample_set seed)

-- each of the two devices has four lines
four_lines : (seed k line : ℕ) → k < 2 → line < 4 → line < (get_or (names seed).devices k ([], 0)).1
four_lines seed zero line below few = few
four_lines seed (suc zero) line below few = few
four_lines seed (suc (suc k)) line below few = absurd (omega arith)

request_known : (seed before x : ℕ) → before ≤ 4000000 → IsKnown (names seed) (request_at before x)
request_known seed before x early =
    let device : drawn 2 (next (next x)) < 2 = mod_below (next (next x) / 65536) 2 (lit≤ tt) in
    let line : drawn 4 (next (next (next x))) < 4 = mod_below (next (next (next x)) / 65536) 4 (lit≤ tt) in
    let gap : drawn 4000 (next x) < 4000 = mod_below (next x / 65536) 4000 (lit≤ tt) in
    record {
      device = device;
      line = four_lines seed (drawn 2 (next (next x))) (drawn 4 (next (next (next x)))) device line;
      cycle = soon before (drawn 4000 (next x)) early gap;
    }
  where
    soon : (a b : ℕ) → a ≤ 4000000 → b < 4000 → a + b ≤ 1125899906842624
    soon a b low high = omega (arith, low, high)

all_known : (seed n before x : ℕ) → before + n * 4000 ≤ 4000000 → All (IsKnown (names seed)) (requests_from n before x)
unfolding requests_from
all_known seed zero before x early = All-nil (IsKnown (names seed))
all_known seed (suc n) before x early =
    let gap : drawn 4000 (next x) < 4000 = mod_below (next x / 65536) 4000 (lit≤ tt) in
    All-cons (IsKnown (names seed)) (request_at before x) (requests_from n (request_at before x).cycle (next (next (next (next x)))))
    (request_known seed before x (first before n early))
    (all_known seed n (before + drawn 4000 (next x)) (next (next (next (next x)))) (further before n (drawn 4000 (next x)) early gap))
  where
    first : (a n : ℕ) → a + suc n * 4000 ≤ 4000000 → a ≤ 4000000
    first a n early = omega (arith, early)

    further : (a n b : ℕ) → a + suc n * 4000 ≤ 4000000 → b < 4000 → (a + b) + n * 4000 ≤ 4000000
    further a n b early gap = omega (arith, early, gap)

requests_counted : (n before x : ℕ) → length (requests_from n before x) ≡ n
unfolding requests_from
requests_counted zero before x = refl
requests_counted (suc n) before x = ap suc (requests_counted n (request_at before x).cycle (next (next (next (next x)))))

-- none comes before the cycle behind which all come
all_behind : (n before x k : ℕ) (d : Request) → k < length (requests_from n before x) → before ≤ (get_or (requests_from n before x) k d).cycle
unfolding requests_from
all_behind zero before x k d below = absurd (omega (arith, below))
all_behind (suc n) before x zero d below = omega arith
all_behind (suc n) before x (suc k) d below =
    let rest : before + drawn 4000 (next x) ≤ (get_or (requests_from n (before + drawn 4000 (next x)) (next (next (next (next x))))) k d).cycle =
    all_behind n (before + drawn 4000 (next x)) (next (next (next (next x)))) k d (omega (arith, below)) in
    omega (arith, rest)

ordered : (n before x : ℕ) → IsNonDecreasingBy (λ (r : Request). r.cycle) (requests_from n before x)
unfolding requests_from
ordered zero before x i j d le below = absurd (omega (arith, below))
ordered (suc n) before x zero zero d le below = omega arith
ordered (suc n) before x zero (suc j) d le below =
    all_behind n (request_at before x).cycle (next (next (next (next x)))) j d (omega (arith, below))
ordered (suc n) before x (suc i) zero d le below = absurd (omega (arith, le))
ordered (suc n) before x (suc i) (suc j) d le below =
    ordered n (request_at before x).cycle (next (next (next (next x)))) i j d (omega (arith, le)) (omega (arith, below))

words_short : (names : List Text) (x : ℕ) → All (λ (words : List ℕ). length words ≤ 100000) (words_from names x)
words_short [] x = All-nil (λ (words : List ℕ). length words ≤ 100000)
words_short (name ∷ names) x =
    All-cons (λ (words : List ℕ). length words ≤ 100000) (numbers 200 160 (after 16 x)) (words_from names (behind_task x))
    (short (length (numbers 200 160 (after 16 x))) (numbers_counted 200 160 (after 16 x)))
    (words_short names (behind_task x))
  where
    short : (n : ℕ) → n ≡ 160 → n ≤ 100000
    short n is = omega (arith, is)

run_is_lawful : (seed : ℕ) → IsLawful (names seed) (sample_run seed).words (sample_run seed).requests
run_is_lawful seed =
    let x = behind_tasks task_names seed in
    record {
      tasks = refl;
      each = words_short task_names seed;
      count = few (length (requests_from 1000 0 x)) (requests_counted 1000 0 x);
      known = all_known seed 1000 0 x (lit≤ tt);
      ordered = ordered 1000 0 x;
    }
  where
    few : (n : ℕ) → n ≡ 1000 → n ≤ 100000
    few n is = omega (arith, is)

abbrev IsLawfulText : TaskSet → RunText → Type 0
IsLawfulText set run = IsLawful (names_of set) run.words run.requests

pub sample_is_lawful : (set : TaskSet) (input : RunInput) (seed : ℕ) → set ≡ sample_set seed → input_of input ≡ sample_run seed → IsLawfulRun (names_of set) input
sample_is_lawful set input seed is same =
    let drawn_set : IsLawfulText set (sample_run seed) = subst (λ (s : TaskSet). IsLawfulText s (sample_run seed)) (sym is) (run_is_lawful seed) in
    let whole : IsLawfulText set (input_of input) = subst (IsLawfulText set) (sym same) drawn_set in
    whole
