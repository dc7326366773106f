-- At the start each task is where its run on its own starts.
use Rattle.std.proofs.Common.{◌≡◌, ℕ, zero, suc, ◌+◌, ◌-◌, ◌/◌, ◌%◌, ◌<◌, ◌≤◌, refl, ap, ◌∙◌, sym, subst, arith, Some, None, true, false, Bool, List, [], ◌∷◌, ◌++◌, length, get_or}
use Rattle.std.proofs.Common.{replicate}
use Rattle.prem_cycle.proofs.Prelude.{plain_of, no_device, memory_of, IsRunOf, AreOwn, IsRunnable, device_of, Setup, no_record, record_of, first_task, first_tasks, Task, start_of, gate_of}
use Rattle.prem_cycle.proofs.Prelude.{gates_of, gate_at, Request, DeviceRecord, TaskRecord, first_registers, TaskRun, PlainState, plain_start, plain_steps, plain_run, Compatible}
use Rattle.prem_cycle.proofs.Prelude.{empty_cache, entry_of, view_of, byte_in, IsSet, IsCache, Entry, find_line, IsPlant, Device, Plant, starts_of, no_task, task_at, TaskJobs, get_or-map}
use Rattle.prem_cycle.proofs.Prelude.{length-map, length-append, length-replicate, All-nil, slice_index, is_some}
use Rattle.prem_cycle.proofs.RunsLemmas.PositionLemmas.Gated.{IsGateOf, AreGates}
use Rattle.prem_cycle.proofs.RunsLemmas.PositionLemmas.Runs.{AllAt}
use Rattle.prem_cycle.proofs.RunsLemmas.PositionLemmas.Stands.{IsAt}
use Rattle.prem_cycle.proofs.RunsLemmas.PositionLemmas.Works.{IsKept}
use Rattle.prem_cycle.proofs.SamePlain.{first_list_reads}
use Rattle.prem_sched.specs.Schedule.{start_of as jobs_of}
use Rattle.std.specs.Prelude.{map}

-- ---- an empty cache

abbrev none : List Entry
none = []

none_there : (n i : ℕ) → get_or (replicate n none) i none ≡ none
none_there zero i = refl
none_there (suc n) zero = refl
none_there (suc n) (suc i) = none_there n i

no_entry_of : (p : Plant) (line : ℕ) → entry_of (empty_cache p) line ≡ None
no_entry_of p line = ap (find_line line) (none_there p.sets (line % length (replicate p.sets none)))

empty_set : (p : Plant) (i : ℕ) → IsSet p i none
empty_set p i = record { room = omega arith; distinct = tt; each = tt }

empty_is : (p : Plant) → IsPlant p → IsCache (empty_cache p)
empty_is p h = record {
  plant = h;
  count = length-replicate p.sets none;
  sets = λ i lt. subst (IsSet p i) (sym (none_there p.sets i)) (empty_set p i);
}

pub empty_view : (p : Plant) (memory : List ℕ) (a : ℕ) → view_of (empty_cache p) memory a ≡ slice_index memory a
empty_view p memory a = ap (λ o. byte_in o (a % p.line) (slice_index memory a)) (no_entry_of p (a / p.line))

pub empty_kept : (p : Setup) (memory : List ℕ) → IsPlant p.plant → length memory ≡ p.plant.memory → IsKept p (empty_cache p.plant) memory
empty_kept p memory h len = record {
  cache = empty_is p.plant h;
  plant = refl;
  size = len;
  clean = λ line e f d. absurd (let x : None ≡ Some e = sym (no_entry_of p.plant line) ∙ f in cc);
  free = λ line r. absurd (let x : false ≡ true = sym (ap is_some (no_entry_of p.plant line)) ∙ r in cc);
}

length-memory_of : (p : Setup) (content : List ℕ) → length content ≤ p.plant.memory → length (memory_of p content) ≡ p.plant.memory
length-memory_of p content le =
    let zeros_behind : List ℕ = replicate (p.plant.memory - length content) 0 in
    let n : length zeros_behind ≡ p.plant.memory - length content = length-replicate (p.plant.memory - length content) 0 in
    let all : length (content ++ zeros_behind) ≡ length content + length zeros_behind = length-append content zeros_behind in
    all ∙ ap (λ x. length content + x) n ∙ omega arith

-- ---- the tasks

pub length-first_tasks : (rs : List TaskRecord) (inputs : List (List ℕ)) → length (first_tasks rs inputs) ≡ length rs
length-first_tasks [] inputs = refl
length-first_tasks (r ∷ rs) [] = ap suc (length-first_tasks rs [])
length-first_tasks (r ∷ rs) (words ∷ inputs) = ap suc (length-first_tasks rs inputs)

first_at : (rs : List TaskRecord) (inputs : List (List ℕ)) (k : ℕ) (d : Task) → k < length rs → get_or (first_tasks rs inputs) k d ≡ first_task (get_or rs k no_record) (get_or inputs k [])
first_at [] inputs k d lt = absurd (omega arith)
first_at (r ∷ rs) [] zero d lt = refl
first_at (r ∷ rs) (words ∷ inputs) zero d lt = refl
first_at (r ∷ rs) [] (suc k) d lt = first_at rs [] k d (omega arith)
first_at (r ∷ rs) (words ∷ inputs) (suc k) d lt = first_at rs inputs k d (omega arith)

started : (ℕ → ℕ) → (ℕ → ℕ) → List ℕ → ℕ → PlainState
started registers view left pc =
    record {
      task = record { registers = registers; view = view; phase = Compatible; left = left; used = 0; outputs = [] };
      pc = pc;
      ended = 0;
      trapped = None;
    }

first_same : (run : TaskRun) (r : TaskRecord) (words : List ℕ) → run.entry ≡ r.entry → run.stack ≡ r.stack → run.inputs ≡ words → plain_of (first_task r words) run.bytes 0 ≡ plain_start run
unfolding started
first_same run r words e s i =
    ap (λ f. started f run.bytes words r.entry) (first_list_reads r.stack ∙ ap first_registers (sym s))
    ∙ ap (λ left. started (first_registers run.stack) run.bytes left r.entry) (sym i)
    ∙ ap (started (first_registers run.stack) run.bytes run.inputs) (sym e)

first_is : (run : TaskRun) (r : TaskRecord) (words : List ℕ) → run.entry ≡ r.entry → run.stack ≡ r.stack → run.inputs ≡ words → IsAt run 0 (first_task r words)
unfolding plain_steps
first_is run r words e s i = record { same = first_same run r words e s i; registers = refl }

-- ---- the schedule

abbrev jobs_in : TaskRecord → ℕ × ℕ
jobs_in r = (r.period, r.jobs)

start_jobs : (rs : List TaskRecord) (k : ℕ) → k < length rs → task_at (starts_of (map jobs_in rs)) k ≡ jobs_of (jobs_in (get_or rs k no_record))
start_jobs rs k lt =
    get_or-map jobs_of (map jobs_in rs) k (1, 0) no_task (omega (arith, length-map rs jobs_in))
    ∙ ap jobs_of (get_or-map jobs_in rs k no_record (1, 0) lt)

length-start_jobs : (rs : List TaskRecord) → length (starts_of (map jobs_in rs)) ≡ length rs
length-start_jobs rs = length-map (map jobs_in rs) jobs_of ∙ length-map rs jobs_in

-- ---- the gates

abbrev device_in : DeviceRecord → Device
device_in d = d.device

abbrev area_in : DeviceRecord → ℕ
area_in d = d.area

length-gates : (ds : List DeviceRecord) → length (gates_of (map device_in ds) (map area_in ds)) ≡ length ds
length-gates [] = refl
length-gates (d ∷ ds) = ap suc (length-gates ds)

gates_at : (ds : List DeviceRecord) (d : ℕ) → d < length ds → gate_at (gates_of (map device_in ds) (map area_in ds)) d ≡ gate_of (get_or ds d no_device).device (get_or ds d no_device).area
gates_at [] d lt = absurd (omega arith)
gates_at (x ∷ ds) zero lt = refl
gates_at (x ∷ ds) (suc d) lt = gates_at ds d (omega arith)

start_gates : (p : Setup) (inputs : List (List ℕ)) (memory : List ℕ) → AreGates p (start_of p inputs memory).gates
start_gates p inputs memory = record {
  line = refl;
  count = length-gates p.devices;
  each = λ d lt. subst (IsGateOf p d) (sym (gates_at p.devices d lt)) (record {
    area = refl;
    queue = All-nil (λ (r : Request). r.line < (device_of p d).device.lines);
  });
  carried = tt;
}

-- ---- the start

module _ (p : Setup) (content : List ℕ) (inputs : List (List ℕ)) (requests : List Request) (own : ℕ → ℕ → Bool) (runs : ℕ → TaskRun)
    (q : IsRunnable p content requests) (o : AreOwn p content inputs own runs) where
  first_view : (k a : ℕ) → k < length p.tasks → own k a ≡ true → view_of (empty_cache p.plant) (memory_of p content) a ≡ (plain_run (runs k) 0).task.view a
  unfolding plain_steps
  first_view k a lt h = empty_view p.plant (memory_of p content) a ∙ (o.runs_are k lt).bytes a h

  first_ended : (k : ℕ) → 0 + 0 ≡ (plain_run (runs k) 0).ended
  unfolding plain_steps
  first_ended k = refl

  pub start_all : AllAt p own runs (λ k. 0) (start_of p inputs (memory_of p content))
  start_all = record {
    position = record {
      stands = record {
        count = length-first_tasks p.tasks inputs;
        each = λ k lt.
            let x : IsRunOf p (memory_of p content) inputs (own k) k (runs k) = o.runs_are k lt in
            subst (IsAt (runs k) 0) (sym (first_at p.tasks inputs k (first_task no_record []) lt)) (first_is (runs k) (record_of p k) (get_or inputs k []) x.entry x.stack x.words);
        view = first_view;
        kept = empty_kept p (memory_of p content) q.plant (length-memory_of p content q.room);
      };
      schedules = record {
        count = length-start_jobs p.tasks;
        jobs = λ k lt. ap (λ (t : TaskJobs). t.jobs) (start_jobs p.tasks k lt) ∙ sym (o.runs_are k lt).jobs;
        periods = λ k lt. ap (λ (t : TaskJobs). t.period) (start_jobs p.tasks k lt);
        ended = λ k lt. ap (λ (t : TaskJobs). t.ended + 0) (start_jobs p.tasks k lt) ∙ first_ended k;
        going = tt;
      };
      untrapped = refl;
    };
    gates = start_gates p inputs (memory_of p content);
  }
