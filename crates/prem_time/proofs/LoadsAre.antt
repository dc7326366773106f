-- What is told of a compiled set in memory is what is told of its placed tasks, and a busy period can be found of each.
use Rattle.std.specs.List.{AllByRecursion}
use Rattle.std.specs.Prelude.{◌&&◌, All, Option}
use Rattle.std.proofs.Common.{◌≡◌, ℕ, suc, ◌+◌, ◌*◌, ◌≤◌, ◌^◌, refl, ap, ◌∙◌, sym, subst, arith, List, [], ◌∷◌, length, map, get_or}
use Rattle.std.proofs.lemmas.List.{length-map}
use Rattle.std.proofs.lemmas.List.Elements.{All-from_recursion, recursion_from_All}
use Rattle.prem_list.specs.Sequence.{items_of}
use Rattle.prem_plant.specs.declared.plant.Plant.{Plant}
use Rattle.prem_image.specs.declared.image.TaskRecord.{TaskRecord}
use Rattle.prem_image.specs.Records.{IsTask, IsImage}
use Rattle.prem_cycle.specs.State.{no_record}
use Rattle.prem_sound.specs.Script.Scripts.{last_release, sum_below}
use Rattle.prem_layout.specs.Bounds.{JobBound}
use Rattle.prem_layout.specs.Facts.{job_fact}
use Rattle.prem_layout.specs.Image.{task_record}
use Rattle.prem_layout.specs.Placed.{Placed}
use Rattle.prem_tasks.specs.Broken.{TaskSet}
use Rattle.prem_tasks.specs.Compiled.{CompiledText, placed_in}
use Rattle.prem_wcet.specs.Times.{TimesText, times_of}
use Rattle.prem_wcet.specs.TimedOf.{AreSmall, IsTimed, times_in}
use Rattle.prem_wcet.specs.declared.timed.TaskTimes.{TaskTimes}
use Rattle.prem_wcet.specs.declared.timed.Timed.{Timed}
use Rattle.prem_plant.specs.declared.plant.Device.{Device}
use Rattle.prem_resp.specs.declared.busy.load.Load.{Load}
use Rattle.prem_resp.specs.declared.busy.length.Busy.{Busy}
use Rattle.prem_resp.specs.Busy.Busy.{IsLoad, load_at}
use Rattle.prem_resp.specs.Lines.{all_within}
use Rattle.prem_resp.specs.Fits.{found_in}
use Rattle.prem_resp.proofs.BusyLemmas.Enough.{sum_front}
use Rattle.prem_time.specs.Times.{limit_in, load_of, loads_in, told_of, tolds_in}
use Rattle.prem_time.specs.Lines.{time_text}
use Rattle.prem_latency.specs.Wait.{top}
use Rattle.prem_time.specs.declared.devices.Bus.{Bus}
use Rattle.prem_time.specs.declared.devices.Named.{Named}
use Rattle.prem_time.specs.Words.{Distance}
use Rattle.prem_time.specs.Devices.{all_held, closed_to, device_in, device_told, devices_in, wait_by}
use Rattle.prem_time.specs.Told.{AreNamed, AreTold, HasClosed, HasDevices, HasFound, HasJobs, HasLoads, IsBus, IsShort, devices_by, devices_told, limit_told, loads_by, loads_told}
use Rattle.prem_time.specs.Told.{text_by, times_by, tolds_by, tolds_told, tops_of, waits_told, work_told}
use Rattle.prem_time.specs.Stages.{set_text}
use Rattle.prem_time.proofs.DevicesAre.{are_told, askings_long, devices_are, has_closed}

-- ---- placed tasks

abbrev bounds : Plant → List Placed → List ℕ
bounds p placed = map (λ (j : JobBound). j.bound) (map (job_fact p) placed)

placed_loads : (p : Plant) (tops : List ℕ) (placed : List Placed) → loads_told (map task_record placed) (map (times_of p tops) placed) ≡ map (load_of p) placed
placed_loads p tops [] = refl
placed_loads p tops (t ∷ ts) = ap (λ ls. load_of p t ∷ ls) (placed_loads p tops ts)

placed_tolds : (p : Plant) (tops : List ℕ) (placed : List Placed) → tolds_told (map task_record placed) (bounds p placed) (map (times_of p tops) placed) ≡ map (told_of p) placed
placed_tolds p tops [] = refl
placed_tolds p tops (t ∷ ts) = ap (λ ls. told_of p t ∷ ls) (placed_tolds p tops ts)

-- ---- loads

-- as many as tasks
pub loads_long : (tasks : List TaskRecord) (times : List TimesText) → length times ≡ length tasks → length (loads_told tasks times) ≡ length tasks
loads_long [] times e = refl
loads_long (t ∷ ts) [] e = absurd (omega (arith, e))
loads_long (t ∷ ts) (x ∷ xs) e = ap suc (loads_long ts xs (omega (arith, e)))

pub lent_long : (t : Timed) (tasks : List TaskRecord) (times : List TaskTimes) (loads : List Load) → HasLoads t → tasks ≡ items_of t.compiled.image.tasks → times ≡ items_of t.tasks →
    loads ≡ loads_told tasks (map times_in times) → length loads ≡ length tasks
lent_long t tasks times loads h et en el = ap length el ∙ loads_long tasks (map times_in times) (length-map times times_in ∙ ap length en ∙ h.times ∙ sym (ap length et))

-- what waits are found by
pub lent_found : (t : Timed) (tasks : List TaskRecord) (times : List TaskTimes) (loads : List Load) (found : List Busy) → HasLoads t →
    tasks ≡ items_of t.compiled.image.tasks → times ≡ items_of t.tasks →
    loads ≡ loads_told tasks (map times_in times) → found ≡ found_in loads → HasFound loads found (map times_in times)
lent_found t tasks times loads found h et en el ef =
    let same : loads_by t ≡ loads = ap (λ ts. loads_told ts (times_by t)) (sym et) ∙ ap (λ (xs : List TaskTimes). loads_told tasks (map times_in xs)) (sym en) ∙ sym el in
    let few_loads : length loads ≡ length tasks = lent_long t tasks times loads h et en el in
    let mapped : length (map times_in times) ≡ length times = length-map times times_in in
    let several : length times ≡ length tasks = ap length en ∙ h.times ∙ sym (ap length et) in
    record {
      checked = subst (λ (xs : List Load). All IsLoad xs) same h.loads;
      short = subst (λ (xs : List Load). AllByRecursion IsShort xs) same h.short;
      count = (let few : length (items_of t.compiled.image.tasks) ≤ 16 = h.count in let is : length tasks ≡ length (items_of t.compiled.image.tasks) =
          ap length et in omega (arith, few, is, few_loads));
      found_is = ef;
      long = mapped ∙ several ∙ sym few_loads;
    }

pub lent_told : (devices : List Device) (b : Bus) (t : Timed) (loads : List Load) (found : List Busy) (times : List TimesText) (named : List Named)
    (waits : List (Option ℕ)) → HasDevices devices b t → named ≡ b.named.items →
    waits ≡ waits_told b.askings.items loads found times 0 b.named.items → AreTold devices named waits
lent_told devices b t loads found times named waits h en ew =
    subst (λ ws. AreTold devices named ws) (sym ew)
    (subst (λ (ns : List Named). AreTold devices ns (waits_told b.askings.items loads found times 0 b.named.items)) (sym en)
    (are_told devices b.askings.items loads found times 0 b.named.items h.count h.named.named))

good_loads : (memory : ℕ) (tasks : List TaskRecord) (times : List TimesText) → AllByRecursion (IsTask memory) tasks → AllByRecursion AreSmall times → AllByRecursion IsLoad (loads_told tasks times)
good_loads memory [] times h small = tt
good_loads memory (t ∷ ts) [] h small = tt
good_loads memory (t ∷ ts) (x ∷ xs) h small = (
  record {
    period = h.0.period.0;
    cost = small.0.some;
    small = small.0.wcet;
    longest = (let le : x.longest ≤ 2 ^ 40 = small.0.longest in omega (arith, le));
  },
  good_loads memory ts xs h.1 small.1,
)

short_loads : (memory : ℕ) (tasks : List TaskRecord) (times : List TimesText) → AllByRecursion (IsTask memory) tasks → AllByRecursion IsShort (loads_told tasks times)
short_loads memory [] times h = tt
short_loads memory (t ∷ ts) [] h = tt
short_loads memory (t ∷ ts) (x ∷ xs) h = ((let le = h.0.period.1 in omega (arith, le)), short_loads memory ts xs h.1)

few_jobs : (memory : ℕ) (tasks : List TaskRecord) → AllByRecursion (IsTask memory) tasks → AllByRecursion HasJobs tasks
few_jobs memory [] h = tt
few_jobs memory (t ∷ ts) h = (h.0.jobs.1, few_jobs memory ts h.1)

-- ---- the limit

work_is : (tasks : List TaskRecord) (loads : List Load) → length loads ≡ length tasks → work_told tasks loads ≡ sum_below (length tasks) (λ k. (get_or tasks k no_record).jobs * (load_at loads k).cost)
work_is [] loads e = refl
work_is (t ∷ ts) [] e = absurd (omega (arith, e))
work_is (t ∷ ts) (x ∷ xs) e =
    ap (λ n. t.jobs * x.cost + n) (work_is ts xs (omega (arith, e)))
    ∙ sym (sum_front (length ts) (λ k. (get_or (t ∷ ts) k no_record).jobs * (load_at (x ∷ xs) k).cost))

-- ---- a set

module _ (set : TaskSet) (ds : List Distance) (b : Bus) (t : Timed) (bus : IsBus ds set.devices b) (is : IsTimed set (tops_of b.askings.items b.named.items) t) where
  abbrev tops : List ℕ
  tops = tops_of b.askings.items b.named.items

  abbrev placed : List Placed
  placed = placed_in set

  tasks_are : items_of t.compiled.image.tasks ≡ map task_record placed
  tasks_are = ap (λ (x : CompiledText). x.image.tasks) is.compiled.compiled

  bounds_are : items_of t.compiled.jobs ≡ bounds set.plant placed
  bounds_are = ap (λ (x : CompiledText). x.jobs) is.compiled.compiled

  loads_are : loads_by t ≡ loads_in set
  loads_are =
      ap (λ ts. loads_told ts (times_by t)) tasks_are
      ∙ ap (λ xs. loads_told (map task_record placed) xs) is.times
      ∙ placed_loads set.plant tops placed

  tolds_are : tolds_by t ≡ tolds_in set
  tolds_are =
      ap (λ ts. tolds_told ts (items_of t.compiled.jobs) (times_by t)) tasks_are
      ∙ ap (λ bs. tolds_told (map task_record placed) bs (times_by t)) bounds_are
      ∙ ap (λ xs. tolds_told (map task_record placed) (bounds set.plant placed) xs) is.times
      ∙ placed_tolds set.plant tops placed

  limit_is : limit_told (items_of t.compiled.image.tasks) (loads_by t) ≡ limit_in set
  limit_is =
      let long : length (map task_record placed) ≡ length placed = length-map placed task_record in
      let same : length (loads_in set) ≡ length placed = length-map placed (load_of set.plant) in
      ap (λ ts. limit_told ts (loads_by t)) tasks_are
      ∙ ap (λ ls. limit_told (map task_record placed) ls) loads_are
      ∙ ap (λ n. last_release (map task_record placed) + n) (work_is (map task_record placed) (loads_in set) (same ∙ sym long))

  -- those that are named
  pub devices_same : devices_by set.devices b t ≡ devices_in set ds
  devices_same =
      ap (λ loads. devices_told set.devices b.named.items (waits_told b.askings.items loads (found_in loads) (times_by t) 0 b.named.items)) loads_are
      ∙ ap (λ xs. devices_told set.devices b.named.items (waits_told b.askings.items (loads_in set) (found_in (loads_in set)) xs 0 b.named.items)) is.times
      ∙ devices_are set.plant set.devices b.askings.items b.named.items (loads_in set) (found_in (loads_in set)) placed
      ∙ ap (λ askings. map (λ (n : Named). device_told set.devices n
      (wait_by askings (loads_in set) (found_in (loads_in set)) (closed_to set.plant (top askings n.number) placed) n.number)) b.named.items) bus.askings
      ∙ ap (λ named. map (device_in set ds) named) bus.named

  pub text_is : text_by set.devices b t ≡ set_text ds set
  text_is =
      ap (λ ts. time_text ts (loads_by t) (found_in (loads_by t)) (devices_by set.devices b t)
      (limit_told (items_of t.compiled.image.tasks) (loads_by t)) (all_within (found_in (loads_by t)) && all_held (devices_by set.devices b t))) tolds_are
      ∙ ap (λ n. time_text (tolds_in set) (loads_by t) (found_in (loads_by t)) (devices_by set.devices b t) n (all_within (found_in (loads_by t)) && all_held (devices_by set.devices b t))) limit_is
      ∙ ap (λ xs. time_text (tolds_in set) (loads_by t) (found_in (loads_by t)) xs (limit_in set) (all_within (found_in (loads_by t)) && all_held xs)) devices_same
      ∙ ap (λ ls. time_text (tolds_in set) ls (found_in ls) (devices_in set ds) (limit_in set) (all_within (found_in ls) && all_held (devices_in set ds))) loads_are

  pub has_devices : AreNamed b → HasDevices set.devices b t
  has_devices named = record {
    named = named;
    count = ap length bus.askings ∙ askings_long ds set.devices;
    closed = subst (λ xs. AllByRecursion (HasClosed (length b.named.items)) xs) (sym is.times)
        (has_closed set.plant tops (length b.named.items) placed (length-map b.named.items (λ (n : Named). top b.askings.items n.number)) (subst (λ xs. AllByRecursion AreSmall xs) is.times is.small));
  }

  pub has_loads : HasLoads t
  has_loads =
      let image : IsImage t.compiled.image.plant (items_of t.compiled.image.tasks) (items_of t.compiled.image.devices) (items_of t.compiled.image.content) = t.compiled.image.lawful in
      let each : AllByRecursion (IsTask t.compiled.image.plant.memory) (items_of t.compiled.image.tasks) =
      recursion_from_All (IsTask t.compiled.image.plant.memory) (items_of t.compiled.image.tasks) image.each_task in
      let records : length (items_of t.compiled.image.tasks) ≡ length placed = ap length tasks_are ∙ length-map placed task_record in
      let facts : length (bounds set.plant placed) ≡ length placed = length-map (map (job_fact set.plant) placed) (λ (j : JobBound). j.bound) ∙ length-map placed (job_fact set.plant) in
      let mapped : length (times_by t) ≡ length (items_of t.tasks) = length-map (items_of t.tasks) times_in in
      record {
        bounds = ap length bounds_are ∙ facts ∙ sym records;
        times = sym mapped ∙ ap length is.times ∙ length-map placed (times_of set.plant tops) ∙ sym records;
        loads = All-from_recursion IsLoad (loads_by t) (good_loads t.compiled.image.plant.memory (items_of t.compiled.image.tasks) (times_by t) each is.small);
        short = short_loads t.compiled.image.plant.memory (items_of t.compiled.image.tasks) (times_by t) each;
        count = image.task_count.1;
        jobs = All-from_recursion HasJobs (items_of t.compiled.image.tasks) (few_jobs t.compiled.image.plant.memory (items_of t.compiled.image.tasks) each);
      }
