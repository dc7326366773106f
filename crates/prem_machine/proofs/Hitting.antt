-- Instructions that hit, one behind the other, are cycles of the machine.
use Rattle.std.proofs.Common.{◌≡◌, ℕ, zero, suc, ◌+◌, ◌≤◌, ◌<◌, Bool, false, List, [], ◌∷◌, None, Some, Option, length, map, get_or, refl, ap, sym, ◌∙◌, subst, arith}
use Rattle.prem_machine.proofs.Prelude.{Transaction, cycles_of-add, CoreTurn, Issues, core_issue, core_issued, core_turn, is_full, log_size, output_count, Attempt, Executes, Issued, attempt_behind}
use Rattle.prem_machine.proofs.Prelude.{attempt_in, attempt_of, attempt_seen, issued_with, owed_by, task_after, task_changed, task_moved, view_touched, with_store, with_touch, with_touches}
use Rattle.prem_machine.proofs.Prelude.{cycles_of, lacks_word, CoreState, Counts, MachineState, Setup, Task, first_task, no_record, record_of, rule_in, task_in, Request, TaskRecord, cost_of}
use Rattle.prem_machine.proofs.Prelude.{Change, Stay, Effect, Phase, Stored, Instr, Lui, Auipc, Jal, Jalr, Branch, Load, Store, OpImm, Op, MulDiv, Fence, Ecall, Ebreak, PmMem, PmExec, PmEnd}
use Rattle.prem_machine.proofs.Prelude.{PmDone, PmIn, PmOut, touch_of, view_of, rule_of, HitsAreCycles, IsNext, Leads, here, then_hits, Spot, counts_at, hit_of, spot_in, stores_in, work_at}
use Rattle.prem_machine.proofs.Prelude.{bus_cycles, AreSilent, IsLone, Plant, get_or-set_same, set-get_or, set-set, sum_by-set, slice_set}
use Rattle.prem_isa.specs.declared.instr.MulDivOp.{MulDivOp}
use Rattle.prem_machine.proofs.Lonely.{as_lone, lone_cycles, lone_state}
use Rattle.prem_machine.proofs.Plainly.{put_more}
use Rattle.prem_machine.proofs.Silence.{lone_silent, seen_lacks, silent_none, silent_then}
use Rattle.prem_machine.proofs.Stretching.{not_full}
use Rattle.std.specs.Prelude.{◌/◌}
use Rattle.prem_isa.specs.declared.instr.MulDivOp.TheVariants as ops

-- ---- one of them

muldiv_some : (op : MulDivOp) (rd rs1 rs2 : ℕ) → 1 ≤ cost_of (MulDiv op rd rs1 rs2)
muldiv_some ops.Mul rd rs1 rs2 = omega arith
muldiv_some ops.Div rd rs1 rs2 = omega arith
muldiv_some ops.Divu rd rs1 rs2 = omega arith
muldiv_some ops.Rem rd rs1 rs2 = omega arith
muldiv_some ops.Remu rd rs1 rs2 = omega arith

-- each instruction costs a cycle at least
pub costs_some : (i : Instr) → 1 ≤ cost_of i
costs_some (Lui rd imm) = omega arith
costs_some (Auipc rd imm) = omega arith
costs_some (Jal rd offset) = omega arith
costs_some (Jalr rd rs1 offset) = omega arith
costs_some (Branch op rs1 rs2 offset) = omega arith
costs_some (Load op rd rs1 offset) = omega arith
costs_some (Store op rs1 rs2 offset) = omega arith
costs_some (OpImm op rd rs1 imm) = omega arith
costs_some (Op op rd rs1 rs2) = omega arith
costs_some (MulDiv op rd rs1 rs2) = muldiv_some op rd rs1 rs2
costs_some (Fence high rd) = omega arith
costs_some Ecall = omega arith
costs_some Ebreak = omega arith
costs_some PmMem = omega arith
costs_some (PmExec rs1) = omega arith
costs_some PmEnd = omega arith
costs_some PmDone = omega arith
costs_some (PmIn rd) = omega arith
costs_some (PmOut rs1) = omega arith

-- an instruction that goes on begins no job
pub stays_moved : (r : TaskRecord) (e : Effect) (t : Task) → e.change ≡ Stay → task_after r e t ≡ task_moved e t
stays_moved r e t is = ap (λ c. task_changed r c (task_moved e t)) is

-- at most one word more
put_one : (p : Plant) (memory : List ℕ) (a b : Spot) → IsNext p memory a b → length b.task.outputs ≤ length a.task.outputs + 1
put_one p memory a b h =
    let hit = h.hit in
    let same = ap (λ (t : Task). length t.outputs) (hit.moved ∙ sym (stays_moved no_record hit.effect a.task hit.stays)) in
    omega (arith, same, put_more no_record hit.effect a.task)

-- a cycle at least
pub takes_some : (p : Plant) (memory : List ℕ) (a b : Spot) (h : IsNext p memory a b) → 1 ≤ h.cost
takes_some p memory a b h = let some = costs_some h.hit.instr in omega (arith, some, h.hit.costs)

-- nothing is owed
owes_none : (p : Plant) (lines : List ℕ) → owed_by p (map hit_of lines) ≡ []
owes_none p [] = refl
owes_none p (line ∷ lines) = owes_none p lines

-- and hits are counted
counts_hits : (phase : Phase) (lines : List ℕ) (n : Counts) → with_touches phase (map hit_of lines) n ≡ record n { hits = n.hits + length lines }
counts_hits phase [] n = let z : n.hits ≡ n.hits + 0 = omega arith in ap (λ h. record n { hits = h }) z
counts_hits phase (line ∷ lines) n =
    let m : n.misses + 0 ≡ n.misses = omega arith in
    let w : n.writebacks + 0 ≡ n.writebacks = omega arith in
    let x : n.exec_misses + 0 ≡ n.exec_misses = omega arith in
    let h : n.hits + 1 + length lines ≡ n.hits + length (line ∷ lines) = omega arith in
    counts_hits phase lines (with_touch phase (hit_of line) n)
    ∙ (λ i. record n { hits = h i; misses = m i; writebacks = w i; exec_misses = x i })

counts_store : (phase : Phase) (stored : Option Stored) (n : Counts) → with_store phase stored n ≡ record n { memory_stores = n.memory_stores + stores_in phase stored }
counts_store phase None n = let z : n.memory_stores ≡ n.memory_stores + 0 = omega arith in ap (λ h. record n { memory_stores = h }) z
counts_store phase (Some s) n = refl

counted_at : (p : Plant) (memory : List ℕ) (a b : Spot) (n : Counts) → (h : IsNext p memory a b) →
    with_store a.task.phase h.hit.effect.stored (with_touches a.task.phase (map hit_of h.hit.lines) (counts_at n a)) ≡ counts_at n b
counted_at p memory a b n h =
    let hit = h.hit in
    let phase = a.task.phase in
    let hits : n.hits + a.hits + length hit.lines ≡ n.hits + b.hits = omega (arith, h.hits, hit.finds) in
    let stores : n.memory_stores + a.stores + stores_in phase hit.effect.stored ≡ n.memory_stores + b.stores = omega (arith, h.stores, hit.counts) in
    ap (with_store phase hit.effect.stored) (counts_hits phase hit.lines (counts_at n a))
    ∙ counts_store phase hit.effect.stored (record (counts_at n a) { hits = n.hits + a.hits + length hit.lines })
    ∙ (λ i. record n { hits = hits i; memory_stores = stores i })

-- the turn of the core, of a task that stands there
pub turn_at : (p : Setup) (k now : ℕ) (s : MachineState) (core : CoreState) (a b : Spot) (n : Counts) → k < length s.work.tasks → (h : IsNext p.plant s.work.memory a b) →
    core_turn (rule_in p) p now (Issues k core.interval) (work_at k s.work a) core (counts_at n a)
    ≡ record { work = work_at k s.work b; core = core_issued now k core.interval Stay h.cost [] core; counts = counts_at n b; trapped = None }
turn_at p k now s core a b n lt next =
    let h = next.hit in
    let rule = rule_in p in
    let w = work_at k s.work a in
    let m = s.work.memory in
    let plant = p.plant in
    let e = h.effect in
    let i = core.interval in
    let r = record_of p k in
    let there : task_in w k ≡ a.task = get_or-set_same s.work.tasks k a.task (first_task no_record []) lt in
    let A : Task → Attempt = λ t. attempt_seen plant.target plant.memory (view_touched rule plant.line a.cache m t.pc) t (attempt_in plant.target plant.memory (view_of a.cache m) t) in
    let does : attempt_behind rule p k w ≡ Executes h.instr e = ap A there ∙ h.does in
    let turn : Change → Phase → ℕ → List Transaction → Issued → CoreTurn = λ change phase cost owed x.
    record { work = x.work; core = core_issued now k i change cost owed core; counts = with_store phase e.stored (with_touches phase x.touches (counts_at n a)); trapped = None } in
    let I : Task → Issued = λ t. issued_with rule plant.line (slice_set w.tasks k (task_after r e t)) e.stored (t.pc / plant.line) (touch_of rule a.cache (t.pc / plant.line) m) e.access in
    let F : Task → CoreTurn = λ t. turn e.change t.phase (cost_of h.instr) (owed_by plant (I t).touches) (I t) in
    let T : List Task → Issued = λ ts. record { work = record { tasks = ts; cache = b.cache; memory = m }; touches = map hit_of h.lines } in
    let tasks : slice_set w.tasks k (task_after r e a.task) ≡ slice_set s.work.tasks k b.task =
    ap (slice_set w.tasks k) (stays_moved r e a.task h.stays ∙ sym h.moved) ∙ set-set s.work.tasks k a.task b.task in
    let issued : I a.task ≡ T (slice_set s.work.tasks k b.task) = h.issued (slice_set w.tasks k (task_after r e a.task)) ∙ ap T tasks in
    let end : Counts → CoreTurn = λ c. record { work = work_at k s.work b; core = core_issued now k i Stay next.cost [] core; counts = c; trapped = None } in
    ap (λ x. core_issue rule p now k i x w core (counts_at n a)) does
    ∙ ap F there
    ∙ ap (λ (x : Issued). turn e.change a.task.phase (cost_of h.instr) (owed_by plant x.touches) x) issued
    ∙ ap (λ o. turn e.change a.task.phase (cost_of h.instr) o (T (slice_set s.work.tasks k b.task))) (owes_none plant h.lines)
    ∙ ap (λ c. turn c a.task.phase (cost_of h.instr) [] (T (slice_set s.work.tasks k b.task))) h.stays
    ∙ ap (λ c. turn Stay a.task.phase c [] (T (slice_set s.work.tasks k b.task))) h.costs
    ∙ ap end (counted_at plant m a b n next)

-- ---- so many of them

-- each takes a cycle, and puts at most one word out
pub leads_far : (p : Plant) (memory : List ℕ) (a b : Spot) (n : ℕ) → Leads p memory a n b →
    (a.time + n ≤ b.time) × (length b.task.outputs ≤ length a.task.outputs + n)
leads_far p memory a b zero here = (omega arith, omega arith)
leads_far p memory a c (suc n) (then_hits b f h) =
    let before = leads_far p memory a b n f in
    (omega (arith, before.0, h.time, takes_some p memory b c h), omega (arith, before.1, put_one p memory b c h))

-- the words that all tasks have put out then
pub put_there : (tasks : List Task) (k : ℕ) (t d : Task) (n : ℕ) → k < length tasks → length t.outputs ≤ length (get_or tasks k d).outputs + n →
    output_count (slice_set tasks k t) ≤ output_count tasks + n
put_there tasks k t d n lt le = omega (arith, le, sum_by-set (λ (x : Task). length x.outputs) tasks k t d lt)

-- the state in which a task stands there
abbrev pub lone_at : ℕ → MachineState → Spot → MachineState
lone_at k s b = lone_state k s (work_at k s.work b) (counts_at s.log.counts b) (s.now + b.time) 0

pub room_at : (p : Setup) (k n : ℕ) (s : MachineState) (b : Spot) → k < length s.work.tasks → Leads p.plant s.work.memory (spot_in k s) n b →
    output_count s.work.tasks + n < log_size → length s.log.intervals < log_size → is_full (lone_at k s b) ≡ false
room_at p k n s b lt f room less =
    let put = put_there s.work.tasks k b.task (first_task no_record []) n lt ((leads_far p.plant s.work.memory (spot_in k s) b n f).1) in
    not_full (output_count (slice_set s.work.tasks k b.task)) (length s.log.intervals) (omega (arith, put, room)) less

pub lone_there : (requests : List Request) (task until : ℕ) (s : MachineState) (b : Spot) → IsLone task until requests s → IsLone task until requests (lone_at task s b)
lone_there requests task until s b h =
    record {
      mode = refl;
      debt = refl;
      mark = refl;
      none = λ t from lt. h.none t (omega (arith, from)) lt;
      idle = λ t from lt memory. h.idle t (omega (arith, from)) lt memory;
    }

pub leads_lone : (p : Setup) (requests : List Request) (task until n : ℕ) (s : MachineState) (b : Spot) → IsLone task until requests s → s.trapped ≡ None → task < length s.work.tasks →
    Leads p.plant s.work.memory (spot_in task s) n b → s.now + b.time ≤ until → output_count s.work.tasks + n < log_size → length s.log.intervals < log_size →
    cycles_of (rule_in p) p requests b.time s ≡ lone_at task s b
unfolding cycles_of
leads_lone p requests task until zero s b h none lt here le room less =
    let z : s.now ≡ s.now + 0 = omega arith in
    let n = s.log.counts in
    let a : n.hits ≡ n.hits + 0 = omega arith in
    let c : n.memory_stores ≡ n.memory_stores + 0 = omega arith in
    let counts : n ≡ counts_at n (spot_in task s) = λ i. record n { hits = a i; memory_stores = c i } in
    let W : List Task → MachineState = λ ts. lone_state task s (record { tasks = ts; cache = s.work.cache; memory = s.work.memory }) (counts_at n (spot_in task s)) (s.now + 0) 0 in
    as_lone task until requests s h none ∙ ap (λ t. lone_state task s s.work n t 0) z ∙ ap (λ m. lone_state task s s.work m (s.now + 0) 0) counts
    ∙ ap W (sym (set-get_or s.work.tasks task (first_task no_record [])))
leads_lone p requests task until (suc n) s c h none lt (then_hits b f hit) le room less =
    let rule = rule_in p in
    let t = lone_at task s b in
    let cost = hit.cost in
    let some = takes_some p.plant s.work.memory b c hit in
    let before = leads_lone p requests task until n s b h none lt f (omega (arith, le, hit.time)) (omega (arith, room)) less in
    let full = room_at p task n s b lt f (omega (arith, room)) less in
    let after = room_at p task (suc n) s c lt (then_hits b f hit) room less in
    let all : cost ≡ bus_cycles [] + cost = omega arith in
    let one = lone_cycles rule p requests task until t (work_at task s.work c) (counts_at s.log.counts c) cost [] cost (lone_there requests task until s b h) refl some all
    (omega (arith, le, hit.time)) full after (turn_at p task t.now s t.core b c s.log.counts lt hit) in
    let sum : s.now + b.time + cost ≡ s.now + c.time = omega (arith, hit.time) in
    ap (λ m. cycles_of rule p requests m s) hit.time
    ∙ cycles_of-add rule p requests b.time cost s
    ∙ ap (cycles_of rule p requests cost) before
    ∙ one
    ∙ ap (λ m. lone_state task s (work_at task s.work c) (counts_at s.log.counts c) m 0) sum

-- the law
pub hits_are_cycles : HitsAreCycles
hits_are_cycles p requests task until n s b h none lt f le room less =
    let F : MachineState → MachineState = λ x. record x { now = s.now + b.time; work = work_at task s.work b; log = record s.log { counts = counts_at s.log.counts b } } in
    leads_lone p requests task until n s b h none lt f le room less ∙ ap F (sym (as_lone task until requests s h none))

-- ---- none of them takes an input word

hit_lacks : (p : Setup) (task : ℕ) (s : MachineState) (b c : Spot) → task < length s.work.tasks → IsNext p.plant s.work.memory b c →
    lacks_word (task_in (work_at task s.work b) task) (attempt_of p task (work_at task s.work b)) ≡ false
hit_lacks p task s b c lt next =
    let plant = p.plant in
    let m = s.work.memory in
    let there : task_in (work_at task s.work b) task ≡ b.task = get_or-set_same s.work.tasks task b.task (first_task no_record []) lt in
    let L : Task → Bool = λ t. lacks_word t (attempt_in plant.target plant.memory (view_of b.cache m) t) in
    ap L there
    ∙ seen_lacks plant.target plant.memory (view_touched (rule_of plant.policy) plant.line b.cache m b.task.pc) b.task (attempt_in plant.target plant.memory (view_of b.cache m) b.task)
    next.hit.instr next.hit.effect next.hit.does next.hit.takes_none

-- so nothing comes to a task in their cycles
pub leads_silent : (p : Setup) (requests : List Request) (task until n : ℕ) (s : MachineState) (b : Spot) → IsLone task until requests s → s.trapped ≡ None → task < length s.work.tasks →
    Leads p.plant s.work.memory (spot_in task s) n b → s.now + b.time ≤ until → output_count s.work.tasks + n < log_size → length s.log.intervals < log_size →
    AreSilent (rule_in p) p requests b.time s
leads_silent p requests task until zero s b h none lt here le room less = silent_none (rule_in p) p requests s
leads_silent p requests task until (suc n) s c h none lt (then_hits b f hit) le room less =
    let rule = rule_in p in
    let t = lone_at task s b in
    let cost = hit.cost in
    let some = takes_some p.plant s.work.memory b c hit in
    let before = leads_silent p requests task until n s b h none lt f (omega (arith, le, hit.time)) (omega (arith, room)) less in
    let there = leads_lone p requests task until n s b h none lt f (omega (arith, le, hit.time)) (omega (arith, room)) less in
    let full = room_at p task n s b lt f (omega (arith, room)) less in
    let after = room_at p task (suc n) s c lt (then_hits b f hit) room less in
    let all : cost ≡ bus_cycles [] + cost = omega arith in
    let one = lone_silent rule p requests task until t (work_at task s.work c) (counts_at s.log.counts c) cost [] cost (lone_there requests task until s b h) refl some all
    (omega (arith, le, hit.time)) full after (turn_at p task t.now s t.core b c s.log.counts lt hit) (hit_lacks p task s b c lt hit) in
    let S : MachineState → Type 0 = λ u. AreSilent rule p requests cost u in
    let N : ℕ → Type 0 = λ k. AreSilent rule p requests k s in
    subst N (sym hit.time) (silent_then rule p requests b.time cost s before (subst S (sym there) one))
