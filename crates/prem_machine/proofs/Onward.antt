-- What instructions that hit make of the machine's parts.
use Rattle.std.proofs.Common.{◌≡◌, ℕ, zero, suc, ◌+◌, ◌*◌, ◌≤◌, ◌<◌, List, [], ◌∷◌, None, All, length, map, get_or, refl, ap, sym, ◌∙◌, subst, arith}
use Rattle.prem_machine.proofs.Prelude.{log_size, output_count, cycles_of, Task, first_task, no_record, rule_in, task_in, TaskFacts, LiesIn, Request, items_of, room_of, Sequence, LeadsTo}
use Rattle.prem_machine.proofs.Prelude.{spot_at, state_at, ended_in, put_out, HasRooms, Runs, Stands, state_of, AreSilent, IsLone, setup_in, tasks_in, work_in, Parts, Setting, Works}
use Rattle.prem_machine.proofs.Prelude.{sum_by-cons}
use Rattle.prem_machine.proofs.Advancing.{rooms_kept, same_state}
use Rattle.prem_machine.proofs.Arriving.{all_unmap}
use Rattle.prem_machine.proofs.Hitting.{hits_are_cycles, leads_far, leads_silent, put_there}
use Rattle.prem_machine.proofs.OneByOne.{hits_take, leads_told}
use Rattle.prem_machine.proofs.Resting.{arrived_after, mode_after}
use Rattle.prem_machine.specs.Hits.{spot_in}
use Rattle.prem_machine.specs.Execution.{LeadsToTold, ToldBehind, hits_on}
use Rattle.prem_machine.specs.declared.execution.Execution.{Execution}
use Rattle.prem_machine.proofs.Telling.{cores_told, outputs_told}

-- the parts with another work, at a later time, with other facts of the tasks and more hits and stores counted
abbrev pub onward : {P : Type 0} → Parts P → Works P → Sequence TaskFacts → (time hits stores : ℕ) → Parts P
onward x w ts time hits stores =
    record x {
      now = x.now + time;
      work = w;
      facts = record x.facts { tasks = ts; hits = x.facts.hits + hits; memory_stores = x.facts.memory_stores + stores };
    }

-- what instructions of a task that hit leave
pub record Leaves {P : Type 0} (p : Setting) (task : ℕ) (x : Parts P) (w : Works P) (ts : Sequence TaskFacts) (time hits stores : ℕ) : Type 0 where
  pub leads : LeadsTo p.plant task (work_in x.work (items_of x.facts.tasks)) (work_in w (items_of ts)) time hits stores
  pub plant : w.cache.plant ≡ x.work.cache.plant
  pub cores : length w.cores.items ≡ length x.work.cores.items
  pub count : length (items_of ts) ≡ length (items_of x.facts.tasks)
  pub ended : ended_in (items_of ts) ≡ ended_in (items_of x.facts.tasks)
  pub rooms : map (λ t. room_of t.outputs) (items_of ts) ≡ map (λ t. room_of t.outputs) (items_of x.facts.tasks)
  pub found : hits ≤ 2 * time
  pub stored : stores ≤ time

tasks_count : (cores : List Task) (facts : List TaskFacts) → length cores ≡ length facts → length (tasks_in cores facts) ≡ length cores
tasks_count [] facts same = refl
tasks_count (c ∷ cores) [] same = absurd (omega arith)
tasks_count (c ∷ cores) (f ∷ facts) same = ap suc (tasks_count cores facts (omega arith))

-- the words put out, by the tasks
put_as : {P : Type 0} (p : Setting) (requests : List Request) (x : Parts P) → Stands p requests x →
    output_count (tasks_in x.work.cores.items (items_of x.facts.tasks)) ≡ put_out (items_of x.facts.tasks)
put_as p requests x s = outputs_told x.work.cores.items (items_of x.facts.tasks) (cores_told p requests x s)

steps_few : {P : Type 0} (p : Setting) (task : ℕ) (x : Parts P) (w : Works P) (ts : Sequence TaskFacts) (time hits stores : ℕ) → (l : Leaves p task x w ts time hits stores) →
    (l.leads.reaches.steps ≤ time) × (length l.leads.task.outputs ≤ length (task_in (work_in x.work (items_of x.facts.tasks)) task).outputs + l.leads.reaches.steps)
steps_few p task x w ts time hits stores l =
    let work = work_in x.work (items_of x.facts.tasks) in
    let far = leads_far p.plant x.work.memory (spot_at (task_in work task) x.work.cache 0 0 0) (spot_at l.leads.task w.cache time hits stores) l.leads.reaches.steps l.leads.reaches.leads in
    (omega (arith, far.0), far.1)

-- each cycle puts at most one out
pub onward_put : {P : Type 0} (p : Setting) (requests : List Request) (task : ℕ) (x : Parts P) (w : Works P) (ts : Sequence TaskFacts)
    (time hits stores : ℕ) → Stands p requests x → task < length x.work.cores.items →
    Leaves p task x w ts time hits stores → put_out (items_of ts) ≤ put_out (items_of x.facts.tasks) + time
onward_put p requests task x w ts time hits stores s lt l =
    let work = work_in x.work (items_of x.facts.tasks) in
    let told = cores_told p requests x s in
    let here = put_as p requests x s in
    let same : length w.cores.items ≡ length (items_of ts) = omega (arith, l.cores, l.count, told) in
    let there = outputs_told w.cores.items (items_of ts) same in
    let set = ap output_count l.leads.tasks in
    let few = steps_few p task x w ts time hits stores l in
    let at = tasks_count x.work.cores.items (items_of x.facts.tasks) told in
    let put = put_there work.tasks task l.leads.task (first_task no_record []) l.leads.reaches.steps (omega (arith, at, lt)) few.1 in
    omega (arith, here, there, set, put, few.0)

pub onward_state : {P : Type 0} (p : Setting) (requests : List Request) (task until : ℕ) (x : Parts P) (w : Works P) (ts : Sequence TaskFacts) (time hits stores : ℕ) →
    IsLone task until requests (state_of x) → Stands p requests x → x.trapped ≡ None → task < length x.work.cores.items → Leaves p task x w ts time hits stores → x.now + time ≤ until →
    put_out (items_of x.facts.tasks) + time < log_size → length (items_of x.facts.intervals) < log_size →
    state_of (onward x w ts time hits stores) ≡ cycles_of (rule_in (setup_in p)) (setup_in p) requests time (state_of x)
onward_state p requests task until x w ts time hits stores h s none lt l le room less =
    let st = state_of x in
    let b = spot_at l.leads.task w.cache time hits stores in
    let told = cores_told p requests x s in
    let at = tasks_count x.work.cores.items (items_of x.facts.tasks) told in
    let here = put_as p requests x s in
    let few = steps_few p task x w ts time hits stores l in
    let cycles = hits_are_cycles (setup_in p) requests task until l.leads.reaches.steps st b h none (omega (arith, at, lt)) l.leads.reaches.leads le (omega (arith, here, few.0, room)) less in
    same_state (state_of (onward x w ts time hits stores)) (state_at task st b) refl (λ i. record { tasks = l.leads.tasks i; cache = w.cache; memory = l.leads.kept i }) refl refl refl refl refl
    ∙ sym cycles

pub onward_silent : {P : Type 0} (p : Setting) (requests : List Request) (task until : ℕ) (x : Parts P) (w : Works P) (ts : Sequence TaskFacts) (time hits stores : ℕ) →
    IsLone task until requests (state_of x) → Stands p requests x → x.trapped ≡ None → task < length x.work.cores.items → Leaves p task x w ts time hits stores → x.now + time ≤ until →
    put_out (items_of x.facts.tasks) + time < log_size → length (items_of x.facts.intervals) < log_size →
    AreSilent (rule_in (setup_in p)) (setup_in p) requests time (state_of x)
onward_silent p requests task until x w ts time hits stores h s none lt l le room less =
    let b = spot_at l.leads.task w.cache time hits stores in
    let told = cores_told p requests x s in
    let at = tasks_count x.work.cores.items (items_of x.facts.tasks) told in
    let here = put_as p requests x s in
    let few = steps_few p task x w ts time hits stores l in
    leads_silent (setup_in p) requests task until l.leads.reaches.steps (state_of x) b h none (omega (arith, at, lt)) l.leads.reaches.leads le (omega (arith, here, few.0, room)) less

pub onward_told : {P : Type 0} (p : Setting) (requests : List Request) (task until : ℕ) (x : Parts P) (w : Works P) (ts : Sequence TaskFacts) (time hits stores : ℕ) (before told : List Execution) →
    IsLone task until requests (state_of x) → Stands p requests x → x.trapped ≡ None → task < length x.work.cores.items → Leaves p task x w ts time hits stores →
    LeadsToTold p.plant task (work_in x.work (items_of x.facts.tasks)) (work_in w (items_of ts)) time hits stores before told → x.now + time ≤ until →
    put_out (items_of x.facts.tasks) + time < log_size → length (items_of x.facts.intervals) < log_size →
    ToldBehind (rule_in (setup_in p)) (setup_in p) requests time (state_of x) before told
onward_told p requests task until x w ts time hits stores before told h s none lt l r le room less =
    let b = spot_at r.leads.task w.cache time hits stores in
    let count = cores_told p requests x s in
    let at = tasks_count x.work.cores.items (items_of x.facts.tasks) count in
    let here = put_as p requests x s in
    let few = steps_few p task x w ts time hits stores (record l { leads = r.leads }) in
    let take = hits_take p.plant x.work.memory (spot_in task (state_of x)) b r.leads.reaches.steps r.leads.reaches.leads in
    record {
      executions = hits_on r.leads.reaches.leads;
      added = r.added;
      take = omega (arith, take);
      are = leads_told (setup_in p) requests task until r.leads.reaches.steps (state_of x) b h none (omega (arith, at, lt)) r.leads.reaches.leads le (omega (arith, here, few.0, room)) less;
    }

pub onward_stands : {P : Type 0} (p : Setting) (requests : List Request) (task : ℕ) (x : Parts P) (w : Works P) (ts : Sequence TaskFacts) (time hits stores : ℕ) → Stands p requests x →
    Leaves p task x w ts time hits stores → Stands p requests (onward x w ts time hits stores)
onward_stands p requests task x w ts time hits stores s l =
    let size : length w.memory ≡ length x.work.memory = ap length l.leads.kept in
    let A : ℕ → Type 0 = λ n. All (LiesIn x.gates.line n) x.gates.gates in
    record {
      memory = size ∙ s.memory;
      cache = l.plant ∙ s.cache;
      cores = l.cores ∙ s.cores;
      target = s.target;
      tasks = s.tasks;
      told = l.ended ∙ s.told;
      jobs = s.jobs;
      periods = s.periods;
      lines = s.lines;
      areas = subst A (sym size) s.areas;
      devices = s.devices;
      eight = s.eight;
      waiting = s.waiting;
      rooms = rooms_kept requests x.facts (onward x w ts time hits stores).facts (record { outputs = l.rooms; intervals = refl; transfers = refl }) s.rooms;
    }

pub onward_runs : {P : Type 0} (p : Setting) (requests : List Request) (task until : ℕ) (x : Parts P) (w : Works P) (ts : Sequence TaskFacts)
    (time hits stores : ℕ) → IsLone task until requests (state_of x) →
    Stands p requests x → Runs x.now (4 * x.now) requests x → Leaves p task x w ts time hits stores → x.now + time ≤ until →
    Runs (x.now + time) (4 * (x.now + time)) requests (onward x w ts time hits stores)
onward_runs p requests task until x w ts time hits stores h s r l le =
    record {
      arrived = arrived_after x.now (x.now + time) x.arrived requests r.arrived (omega arith)
          (λ at d lt m less is. h.none (x.now + m) (omega arith) (omega (arith, less, le)) at d lt is);
      few = r.few;
      pending = r.pending;
      free = r.free;
      ready = mode_after x.now (x.now + time) x.sched x.moment.mode s.periods (omega arith) r.ready;
      first = omega (arith, r.first);
      counts = record {
        hits = omega (arith, r.counts.hits, l.found);
        misses = omega (arith, r.counts.misses);
        writebacks = omega (arith, r.counts.writebacks);
        exec_misses = omega (arith, r.counts.exec_misses);
        memory_stores = omega (arith, r.counts.memory_stores, l.stored);
        clashes = omega (arith, r.counts.clashes);
        overruns = omega (arith, r.counts.overruns);
      };
    }

pub onward_lone : {P : Type 0} (requests : List Request) (task until : ℕ) (x : Parts P) (w : Works P) (ts : Sequence TaskFacts) (time hits stores : ℕ) → IsLone task until requests (state_of x) →
    IsLone task until requests (state_of (onward x w ts time hits stores))
onward_lone requests task until x w ts time hits stores h =
    record {
      mode = h.mode;
      debt = h.debt;
      mark = h.mark;
      none = λ t from lt. h.none t (omega (arith, from)) lt;
      idle = λ t from lt memory. h.idle t (omega (arith, from)) lt memory;
    }

-- ---- the room that they need

put_of_one : (facts : List TaskFacts) (k : ℕ) (d : TaskFacts) → k < length facts → length (items_of (get_or facts k d).outputs) ≤ put_out facts
put_of_one [] k d lt = absurd (omega arith)
put_of_one (f ∷ facts) zero d lt = let n = sum_by-cons (λ (t : TaskFacts). length (items_of t.outputs)) f facts in omega (arith, n)
put_of_one (f ∷ facts) (suc k) d lt =
    let n = sum_by-cons (λ (t : TaskFacts). length (items_of t.outputs)) f facts in
    omega (arith, n, put_of_one facts k d (omega arith))

pub room_for : {P : Type 0} (requests : List Request) (x : Parts P) (most left : ℕ) → HasRooms requests x.facts → put_out (items_of x.facts.tasks) + left ≤ log_size → most < left →
    All (λ t. length (items_of t.outputs) + most < room_of t.outputs) (items_of x.facts.tasks)
room_for requests x most left h room lt =
    let rooms = all_unmap (λ (t : TaskFacts). room_of t.outputs) (λ n. log_size ≤ n) (items_of x.facts.tasks) h.outputs in
    λ k d less. omega (arith, room, lt, put_of_one (items_of x.facts.tasks) k d less, rooms k d less)
