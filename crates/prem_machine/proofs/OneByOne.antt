-- Instructions that are executed one behind the other, each with its cycles, as they are told.
use Rattle.std.proofs.Common.{◌≡◌, cond, ◌*◌, ℕ, zero, suc, ◌+◌, ◌-◌, ◌≤◌, ◌<◌, Bool, true, false, List, [], ◌∷◌, ◌++◌, None, Some, Option, length, map, get_or, refl, ap, sym, ◌∙◌, subst, arith, ⊎_elim}
use Rattle.std.specs.Prelude.{not}
use Rattle.std.proofs.lemmas.List.{append-nil, append_assoc}
use Rattle.prem_machine.proofs.Prelude.{cycles_of-add, CoreTurn, Issues, core_issue, core_issued, core_turn, is_full, is_over, log_size, output_count, Attempt, Traps, Executes, attempt_behind}
use Rattle.prem_machine.proofs.Prelude.{step_of-goes, step_of, LineTouch, issued_by, issued_with, one_if, with_store, with_touch, with_touches, cycles_of, CoreState, Debt, Counts, MachineState, Setup, Task, Transaction, Work}
use Rattle.prem_machine.proofs.Prelude.{first_task, no_record, rule_in, task_in, Request, Change, Stay, Effect, Phase, Stored, Instr, Access, IsNext, Leads, here, then_hits, Spot, counts_at, spot_in, work_at}
use Rattle.prem_machine.proofs.Prelude.{bus_cycles, cycles_owed, IsLone, Interval, Plant, get_or-set_same, cases_lt, ReplacementRule}
use Rattle.prem_lru.specs.CacheState.{Touched}
use Rattle.prem_machine.proofs.Lonely.{issues, lone_cycles, lone_state, owed_state}
use Rattle.prem_machine.proofs.Silence.{cycles_behind, one_is, owes}
use Rattle.prem_machine.proofs.Hitting.{leads_lone, lone_at, lone_there, room_at, takes_some, turn_at}
use Rattle.prem_machine.proofs.Stretching.{as_state, behind, goes_lone, has_room, kept_stands, turn_of}
use Rattle.prem_machine.proofs.Telling.{cores_told}
use Rattle.prem_machine.proofs.Prelude.{settle, close_interval, at_point, next_cycle, with_now, owed_by, Facts, Mode, Point, Switching, Idle, TaskFacts, Log, CoreParts, counts_in, put_out, items_of, ModeReady, Runs, Stands}
use Rattle.prem_machine.proofs.Prelude.{state_of, GoesOn, IsKept, core_in, setup_in, tasks_in, work_in, Moment, Parts, Setting, Works}
use Rattle.prem_cycle.specs.declared.state.Mode.TheVariants.{Running}
use Rattle.prem_machine.specs.declared.execution.Execution.{Execution}
use Rattle.prem_machine.specs.declared.execution.ExecutionView.{ExecutionView}
use Rattle.prem_machine.specs.Execution.{touched, SameTouches, IsOneExecution, IsExecution, AreExecutions, ToldBehind, cycles_in, execution_since, hits_on, seen_of}

-- ---- one that issues touches a line

pub record Touches (n n' : Counts) : Type 0 where
  pub some : n.hits + n.misses < n'.hits + n'.misses
  pub misses : n.misses ≤ n'.misses
  pub backs : n.writebacks ≤ n'.writebacks

one_each : (b : Bool) → one_if b + one_if (not b) ≡ 1
one_each true = refl
one_each false = refl

record TouchesMany (count : ℕ) (n n' : Counts) : Type 0 where
  all : n'.hits + n'.misses ≡ n.hits + n.misses + count
  misses : n.misses ≤ n'.misses
  backs : n.writebacks ≤ n'.writebacks

many : (phase : Phase) (touches : List LineTouch) (n : Counts) → TouchesMany (length touches) n (with_touches phase touches n)
many phase [] n = record { all = omega arith; misses = omega arith; backs = omega arith }
many phase (t ∷ touches) n =
    let rest = many phase touches (with_touch phase t n) in
    record { all = omega (arith, rest.all, one_each t.hit); misses = omega (arith, rest.misses); backs = omega (arith, rest.backs) }

touches_some : (rule : ReplacementRule) (size : ℕ) (tasks : List Task) (stored : Option Stored) (line : ℕ) (fetched : Touched) (access : Option Access) →
    1 ≤ length (issued_with rule size tasks stored line fetched access).touches
touches_some rule size tasks stored line fetched None = omega arith
touches_some rule size tasks stored line fetched (Some a) = omega arith

store_touches : (phase : Phase) (stored : Option Stored) (count : ℕ) (n m : Counts) → 1 ≤ count → TouchesMany count n m → Touches n (with_store phase stored m)
store_touches phase None count n m some h = record { some = omega (arith, some, h.all); misses = h.misses; backs = h.backs }
store_touches phase (Some s) count n m some h = record { some = omega (arith, some, h.all); misses = h.misses; backs = h.backs }

issue_touches : (rule : ReplacementRule) (p : Setup) (now k : ℕ) (i : Interval) (a : Attempt) (w : Work) (c : CoreState) (n : Counts) → (core_issue rule p now k i a w c n).trapped ≡ None →
    Touches n (core_issue rule p now k i a w c n).counts
issue_touches rule p now k i (Traps cause) w c n none = absurd (cc)
issue_touches rule p now k i (Executes instr e) w c n none =
    let phase : Phase = (task_in w k).phase in
    let touches : List LineTouch = (issued_by rule p k e w).touches in
    store_touches phase e.stored (length touches) n (with_touches phase touches n) (touches_some rule p.plant.line _ e.stored _ _ e.access) (many phase touches n)

pub turn_touches : (rule : ReplacementRule) (p : Setup) (now k : ℕ) (i : Interval) (w : Work) (c : CoreState) (n : Counts) (t : CoreTurn) →
    core_turn rule p now (Issues k i) w c n ≡ t → t.trapped ≡ None → Touches n t.counts
turn_touches rule p now k i w c n t is none =
    subst (λ (u : CoreTurn). Touches n u.counts) is (issue_touches rule p now k i (attempt_behind rule p k w) w c n (ap (λ (u : CoreTurn). u.trapped) is ∙ none))

-- ---- all that it comes to owe is paid at once

-- what is owed in a cycle behind it
record OwesAt (rule : ReplacementRule) (p : Setup) (requests : List Request) (task : ℕ) (s : MachineState) (w : Work) (n : Counts) (m : ℕ) : Type 0 where
  debt : Debt
  is : cycles_of rule p requests m s ≡ owed_state task s w n (s.now + m) debt

owes_at : (rule : ReplacementRule) (p : Setup) (requests : List Request) (task until : ℕ) (s : MachineState) (w : Work) (n : Counts) (cost : ℕ) (owed : List Transaction) (all : ℕ) →
    IsLone task until requests s → s.trapped ≡ None → 1 ≤ cost → all ≡ bus_cycles owed + cost → s.now + all ≤ until → is_over s ≡ false → is_full (lone_state task s w n 0 0) ≡ false →
    core_turn rule p s.now (Issues task s.core.interval) s.work s.core s.log.counts
    ≡ record { work = w; core = core_issued s.now task s.core.interval Stay cost owed s.core; counts = n; trapped = None } →
    (m : ℕ) → 1 ≤ m → m ≤ all → OwesAt rule p requests task s w n m
owes_at rule p requests task until s w n cost owed all h none some is le over full turn m from to =
    let d : Debt = record { transactions = owed; begun = false; cost = cost - 1 } in
    let step : step_of rule p requests s ≡ owed_state task s w n (s.now + 1) d =
    step_of-goes rule p requests s over ∙ issues rule p requests task until s w n cost owed h none (omega (arith, some, is, le)) turn in
    let o = owes rule p requests task until s w n (s.now + 1) d (m - 1) h (omega arith) (omega (arith, some, is, le)) full (λ x. refl) (omega (arith, is, some, from, to)) in
    let at : s.now + 1 + (m - 1) ≡ s.now + m = omega (arith, from) in
    record {
      debt = o.debt;
      is = cycles_behind rule p requests 1 m s from ∙ ap (cycles_of rule p requests (m - 1)) (one_is rule p requests s ∙ step) ∙ o.is ∙ ap (λ k. owed_state task s w n k o.debt) at;
    }

pub none_is : (rule : ReplacementRule) (p : Setup) (requests : List Request) (s : MachineState) (m : ℕ) → m < 1 → cycles_of rule p requests m s ≡ s
unfolding cycles_of
none_is rule p requests s m lt = let z : m ≡ 0 = omega (arith, lt) in ap (λ k. cycles_of rule p requests k s) z

pub lone_one : (rule : ReplacementRule) (p : Setup) (requests : List Request) (task until : ℕ) (s : MachineState) (w : Work) (n : Counts) (cost : ℕ) (owed : List Transaction) (all : ℕ) →
    IsLone task until requests s → s.trapped ≡ None → 1 ≤ cost → all ≡ bus_cycles owed + cost → s.now + all ≤ until → is_over s ≡ false → is_full (lone_state task s w n 0 0) ≡ false →
    core_turn rule p s.now (Issues task s.core.interval) s.work s.core s.log.counts
    ≡ record { work = w; core = core_issued s.now task s.core.interval Stay cost owed s.core; counts = n; trapped = None } → IsOneExecution rule p requests task all s
lone_one rule p requests task until s w n cost owed all h none some is le over full turn =
    let more = turn_touches rule p s.now task s.core.interval s.work s.core s.log.counts
    (record { work = w; core = core_issued s.now task s.core.interval Stay cost owed s.core; counts = n; trapped = None }) turn refl in
    let there = owes_at rule p requests task until s w n cost owed all h none some is le over full turn in
    let one = (there 1 (omega arith) (omega (arith, some, is))).is in
    let hits = ap (λ (u : MachineState). u.log.counts.hits) one in
    let misses = ap (λ (u : MachineState). u.log.counts.misses) one in
    let backs = ap (λ (u : MachineState). u.log.counts.writebacks) one in
    record {
      some = omega (arith, some, is);
      runs = λ m lt.
          ⊎_elim (λ (z : m < 1). ap (λ (u : MachineState). u.core.mode) (none_is rule p requests s m z) ∙ h.mode)
          (λ (from : 1 ≤ m). ap (λ (u : MachineState). u.core.mode) ((there m from (omega (arith, lt))).is)) (cases_lt m 1);
      passes = λ m to.
          ⊎_elim (λ (z : m < 1). let e : s.now ≡ s.now + m = omega (arith, z) in ap (λ (u : MachineState). u.now) (none_is rule p requests s m z) ∙ e)
          (λ (from : 1 ≤ m). ap (λ (u : MachineState). u.now) ((there m from to).is)) (cases_lt m 1);
      touches = omega (arith, more.some, hits, misses);
      misses = omega (arith, more.misses, misses);
      backs = omega (arith, more.backs, backs);
      waits = λ m from to.
          let at = (there m from to).is in
          record {
            hits = ap (λ (u : MachineState). u.log.counts.hits) at ∙ sym hits;
            misses = ap (λ (u : MachineState). u.log.counts.misses) at ∙ sym misses;
            backs = ap (λ (u : MachineState). u.log.counts.writebacks) at ∙ sym backs;
          };
    }

-- ---- its first cycle alone

pub first_one : (rule : ReplacementRule) (p : Setup) (requests : List Request) (task until : ℕ) (s t : MachineState) (w : Work) (n : Counts) (cost : ℕ) (owed : List Transaction) →
    IsLone task until requests s → t ≡ cycles_of rule p requests 1 s → t.now ≡ s.now + 1 →
    core_turn rule p s.now (Issues task s.core.interval) s.work s.core s.log.counts
    ≡ record { work = w; core = core_issued s.now task s.core.interval Stay cost owed s.core; counts = n; trapped = None } →
    SameTouches (record t { log = record t.log { counts = n } }) t → IsOneExecution rule p requests task 1 s
first_one rule p requests task until s t w n cost owed h is now turn same =
    let more = turn_touches rule p s.now task s.core.interval s.work s.core s.log.counts
    (record { work = w; core = core_issued s.now task s.core.interval Stay cost owed s.core; counts = n; trapped = None }) turn refl in
    let hits = ap (λ (u : MachineState). u.log.counts.hits) is in
    let misses = ap (λ (u : MachineState). u.log.counts.misses) is in
    let backs = ap (λ (u : MachineState). u.log.counts.writebacks) is in
    record {
      some = omega arith;
      runs = λ m lt. ap (λ (u : MachineState). u.core.mode) (none_is rule p requests s m lt) ∙ h.mode;
      passes = λ m to.
          ⊎_elim (λ (z : m < 1). let e : s.now ≡ s.now + m = omega (arith, z) in ap (λ (u : MachineState). u.now) (none_is rule p requests s m z) ∙ e)
          (λ (from : 1 ≤ m). let e : m ≡ 1 = omega (arith, from, to) in let f : s.now + 1 ≡ s.now + m = omega (arith, e) in
          ap (λ k. (cycles_of rule p requests k s).now) e ∙ ap (λ (u : MachineState). u.now) (sym is) ∙ now ∙ f) (cases_lt m 1);
      touches = omega (arith, more.some, hits, misses, same.hits, same.misses);
      misses = omega (arith, more.misses, misses, same.misses);
      backs = omega (arith, more.backs, backs, same.backs);
      waits = λ m from to.
          let e : m ≡ 1 = omega (arith, from, to) in
          record {
            hits = ap (λ k. (cycles_of rule p requests k s).log.counts.hits) e;
            misses = ap (λ k. (cycles_of rule p requests k s).log.counts.misses) e;
            backs = ap (λ k. (cycles_of rule p requests k s).log.counts.writebacks) e;
          };
    }

-- ---- some behind others

pub are_then : (rule : ReplacementRule) (p : Setup) (requests : List Request) (xs ys : List Execution) (s : MachineState) → AreExecutions rule p requests xs s →
    AreExecutions rule p requests ys (cycles_of rule p requests (cycles_in xs) s) → AreExecutions rule p requests (xs ++ ys) s
are_then rule p requests [] ys s first then_ = subst (AreExecutions rule p requests ys) (none_is rule p requests s 0 (omega arith)) then_
are_then rule p requests (x ∷ xs) ys s first then_ =
    (first.0, are_then rule p requests xs ys (cycles_of rule p requests x.cycles s) first.1 (subst (AreExecutions rule p requests ys) (cycles_of-add rule p requests x.cycles (cycles_in xs) s) then_))

pub cycles_then : (xs ys : List Execution) → cycles_in (xs ++ ys) ≡ cycles_in xs + cycles_in ys
cycles_then [] ys = omega arith
cycles_then (x ∷ xs) ys = omega (arith, cycles_then xs ys)

-- none
pub tells_none : (rule : ReplacementRule) (p : Setup) (requests : List Request) (s : MachineState) (n : ℕ) (told : List Execution) → ToldBehind rule p requests (n - n) s told told
tells_none rule p requests s n told = record { executions = []; added = sym (append-nil told); take = omega arith; are = tt }

pub tells_then : (rule : ReplacementRule) (p : Setup) (requests : List Request) (n k : ℕ) (s : MachineState) (a b c : List Execution) → ToldBehind rule p requests n s a b →
    ToldBehind rule p requests k (cycles_of rule p requests n s) b c → ToldBehind rule p requests (n + k) s a c
tells_then rule p requests n k s a b c x y =
    let xs = x.executions in
    let ys = y.executions in
    record {
      executions = xs ++ ys;
      added = y.added ∙ ap (λ z. z ++ ys) x.added ∙ append_assoc a xs ys;
      take = omega (arith, cycles_then xs ys, x.take, y.take);
      are = are_then rule p requests xs ys s x.are (subst (λ m. AreExecutions rule p requests ys (cycles_of rule p requests m s)) (sym x.take) y.are);
    }

pub tells_on : (rule : ReplacementRule) (p : Setup) (requests : List Request) (s t : MachineState) (i j k : ℕ) (a b c : List Execution) → i ≤ j → j ≤ k →
    t ≡ cycles_of rule p requests (j - i) s → ToldBehind rule p requests (j - i) s a b → ToldBehind rule p requests (k - j) t b c → ToldBehind rule p requests (k - i) s a c
tells_on rule p requests s t i j k a b c le more is first then_ =
    let e : j - i + (k - j) ≡ k - i = omega (arith, le, more) in
    subst (λ n. ToldBehind rule p requests n s a c) e
    (tells_then rule p requests (j - i) (k - j) s a b c first (subst (λ (u : MachineState). ToldBehind rule p requests (k - j) u b c) is then_))

pub tells_one : (rule : ReplacementRule) (p : Setup) (requests : List Request) (x : Execution) (s : MachineState) (a b : List Execution) → b ≡ a ++ x ∷ [] → IsExecution rule p requests x s →
    ToldBehind rule p requests x.cycles s a b
tells_one rule p requests x s a b added is = record { executions = x ∷ []; added = added; take = omega arith; are = (is, tt) }

-- ---- those that hit

hit_told : (p : Setup) (requests : List Request) (task until n : ℕ) (s : MachineState) (b c : Spot) → IsLone task until requests s → task < length s.work.tasks →
    (f : Leads p.plant s.work.memory (spot_in task s) n b) → (hit : IsNext p.plant s.work.memory b c) →
    s.now + c.time ≤ until → output_count s.work.tasks + suc n < log_size → length s.log.intervals < log_size →
    IsExecution (rule_in p) p requests (record { pc = b.task.pc; cycles = hit.cost; misses = 0; backs = 0 }) (lone_at task s b)
hit_told p requests task until n s b c h lt f hit le room less =
    let rule = rule_in p in
    let t = lone_at task s b in
    let cost = hit.cost in
    let some = takes_some p.plant s.work.memory b c hit in
    let full = room_at p task n s b lt f (omega (arith, room)) less in
    let after = room_at p task (suc n) s c lt (then_hits b f hit) room less in
    let all : cost ≡ bus_cycles [] + cost = omega arith in
    let lone = lone_there requests task until s b h in
    let within : t.now + cost ≤ until = omega (arith, le, hit.time) in
    let turn = turn_at p task t.now s t.core b c s.log.counts lt hit in
    let end = lone_cycles rule p requests task until t (work_at task s.work c) (counts_at s.log.counts c) cost [] cost lone refl some all within full after turn in
    record {
      task = task;
      one = lone_one rule p requests task until t (work_at task s.work c) (counts_at s.log.counts c) cost [] cost lone refl some all within full after turn;
      stands = sym (ap (λ (k : Task). k.pc) (get_or-set_same s.work.tasks task b.task (first_task no_record []) lt));
      misses = omega (arith, ap (λ (u : MachineState). u.log.counts.misses) end);
      backs = omega (arith, ap (λ (u : MachineState). u.log.counts.writebacks) end);
    }

-- their cycles
pub hits_take : (p : Plant) (memory : List ℕ) (a b : Spot) (n : ℕ) (f : Leads p memory a n b) → a.time + cycles_in (hits_on f) ≡ b.time
hits_take p memory a b zero here = omega arith
hits_take p memory a c (suc n) (then_hits b f h) =
    omega (arith, cycles_then (hits_on f) (record { pc = b.task.pc; cycles = h.cost; misses = 0; backs = 0 } ∷ []), hits_take p memory a b n f, h.time)

pub leads_told : (p : Setup) (requests : List Request) (task until n : ℕ) (s : MachineState) (b : Spot) → IsLone task until requests s → s.trapped ≡ None → task < length s.work.tasks →
    (f : Leads p.plant s.work.memory (spot_in task s) n b) → s.now + b.time ≤ until → output_count s.work.tasks + n < log_size → length s.log.intervals < log_size →
    AreExecutions (rule_in p) p requests (hits_on f) s
leads_told p requests task until zero s b h none lt here le room less = tt
leads_told p requests task until (suc n) s c h none lt (then_hits b f hit) le room less =
    let rule = rule_in p in
    let x : Execution = record { pc = b.task.pc; cycles = hit.cost; misses = 0; backs = 0 } in
    let before = leads_told p requests task until n s b h none lt f (omega (arith, le, hit.time)) (omega (arith, room)) less in
    let there = leads_lone p requests task until n s b h none lt f (omega (arith, le, hit.time)) (omega (arith, room)) less in
    let time : b.time ≡ cycles_in (hits_on f) = omega (arith, hits_take p.plant s.work.memory (spot_in task s) b n f) in
    let told = hit_told p requests task until n s b c h lt f hit le room less in
    are_then rule p requests (hits_on f) (x ∷ []) s before
    (subst (λ m. IsExecution rule p requests x (cycles_of rule p requests m s)) time (subst (λ (u : MachineState). IsExecution rule p requests x u) (sym there) told), tt)

-- ---- one of the machine's parts

pub went_one : {P : Type 0} (p : Setting) (requests : List Request) (x : Parts P) (w : Works P) (f : Facts) (task until cost all : ℕ) (touches : List LineTouch) (owed : List Transaction) →
    IsLone task until requests (state_of x) → Stands p requests x → x.trapped ≡ None → GoesOn p task x.work x.facts w f touches cost → owed_by p.plant touches ≡ owed → IsKept x.work x.facts w f →
    1 ≤ cost → all ≡ bus_cycles owed + cost → x.now + all ≤ until → put_out (items_of x.facts.tasks) + 2 ≤ log_size → length (items_of x.facts.intervals) < log_size →
    IsOneExecution (rule_in (setup_in p)) (setup_in p) requests task all (state_of x)
went_one p requests x w f task until cost all touches owed h stands none goes owes k some is le room less =
    let s = state_of x in
    let y = behind x w f (x.now + all) x.moment x.core in
    let same = as_state task until requests s (state_of y) h none refl refl refl k.log refl in
    let intervals = ap (λ (l : Log). length l.intervals) k.log in
    let full : is_full s ≡ false = has_room p requests x stands (omega (arith, room)) less in
    let after : is_full (state_of y) ≡ false = has_room p requests y (kept_stands p requests x w f (x.now + all) stands k) (omega (arith, room, k.put)) (omega (arith, less, intervals)) in
    lone_one (rule_in (setup_in p)) (setup_in p) requests task until s (work_in w (items_of f.tasks)) (counts_in f) cost owed all h none some is le
    (goes_lone requests x task until h none full) (sym (ap is_full same) ∙ after) (turn_of p x w f task cost touches owed goes owes)

settled_touches : (mode : Mode) (s : MachineState) → SameTouches s (settle mode s)
settled_touches mode s = same mode
  where
    either : (b : Bool) (t u : MachineState) → SameTouches s t → SameTouches s u → SameTouches s (cond b t u)
    either true t u h k = h
    either false t u h k = k

    same : (m : Mode) → SameTouches s (settle m s)
    same Point = record { hits = refl; misses = refl; backs = refl }
    same (Switching k left) = record { hits = refl; misses = refl; backs = refl }
    same (Running k) = either _ (close_interval k s) s (record { hits = refl; misses = refl; backs = refl }) (record { hits = refl; misses = refl; backs = refl })
    same (Idle until) = either _ s (record s { core = at_point s.core }) (record { hits = refl; misses = refl; backs = refl }) (record { hits = refl; misses = refl; backs = refl })

pub missed_one : {P : Type 0} (p : Setting) (requests : List Request) (x : Parts P) (w : Works P) (f : Facts) (m : Moment) (c : CoreParts) (t : MachineState) (task until cost : ℕ)
    (touches : List LineTouch) → IsLone task until requests (state_of x) → GoesOn p task x.work x.facts w f touches cost → IsKept x.work x.facts w f →
    t ≡ next_cycle (state_of (behind x w f x.now m c)) → t ≡ cycles_of (rule_in (setup_in p)) (setup_in p) requests 1 (state_of x) → t.now ≡ x.now + 1 →
    IsOneExecution (rule_in (setup_in p)) (setup_in p) requests task 1 (state_of x)
missed_one p requests x w f m c t task until cost touches h goes k next is now =
    let s = state_of x in
    let q = setup_in p in
    let mid = state_of (behind x w f x.now m c) in
    let settled = settled_touches mid.core.mode (with_now mid (mid.now + 1)) in
    let same : SameTouches (record t { log = record t.log { counts = counts_in f } }) t =
    record {
      hits = ap (λ (u : MachineState). u.log.counts.hits) next ∙ settled.hits;
      misses = ap (λ (u : MachineState). u.log.counts.misses) next ∙ settled.misses;
      backs = ap (λ (u : MachineState). u.log.counts.writebacks) next ∙ settled.backs;
    } in
    first_one (rule_in q) q requests task until s t (work_in w (items_of f.tasks)) (counts_in f) cost (owed_by p.plant touches) h is now
    (turn_of p x w f task cost touches (owed_by p.plant touches) goes refl) same

-- ---- what is told of one

-- the task of an interval is one of the machine's
pub task_there : {P : Type 0} (p : Setting) (requests : List Request) (x : Parts P) (task until : ℕ) → IsLone task until requests (state_of x) → Stands p requests x →
    Runs x.now (4 * x.now) requests x → task < length p.tasks.items
task_there p requests x task until h s r =
    let M : Mode → Type 0 = λ d. ModeReady x.now x.sched d in
    let ready = (subst M h.mode r.ready).0 in
    omega (arith, ready, s.tasks)

tasks_pc : (cores : List Task) (facts : List TaskFacts) (k : ℕ) (z : Task) → k < length cores → length cores ≡ length facts → (get_or (tasks_in cores facts) k z).pc ≡ (get_or cores k z).pc
tasks_pc [] facts k z lt same = absurd (omega (arith, lt))
tasks_pc (c ∷ cores) [] k z lt same = absurd (omega (arith, same))
tasks_pc (c ∷ cores) (f ∷ facts) zero z lt same = refl
tasks_pc (c ∷ cores) (f ∷ facts) (suc k) z lt same = tasks_pc cores facts k z (omega (arith, lt)) (omega (arith, same))

pc_there : {P : Type 0} (p : Setting) (requests : List Request) (x : Parts P) (task : ℕ) → Stands p requests x → task < length p.tasks.items → (core_in x.work task).pc ≡ (task_in (state_of x).work task).pc
pc_there p requests x task s lt =
    sym (tasks_pc x.work.cores.items (items_of x.facts.tasks) task (first_task no_record []) (omega (arith, lt, s.cores)) (cores_told p requests x s))

-- no less is counted behind it
pub record Grows (a b : MachineState) : Type 0 where
  pub misses : a.log.counts.misses ≤ b.log.counts.misses
  pub backs : a.log.counts.writebacks ≤ b.log.counts.writebacks

pub one_grows : (rule : ReplacementRule) (p : Setup) (requests : List Request) (task n : ℕ) (s t : MachineState) → IsOneExecution rule p requests task n s → t ≡ cycles_of rule p requests n s → Grows s t
one_grows rule p requests task n s t one is =
    let same = one.waits n one.some (omega arith) in
    record {
      misses = omega (arith, one.misses, same.misses, ap (λ (u : MachineState). u.log.counts.misses) is);
      backs = omega (arith, one.backs, same.backs, ap (λ (u : MachineState). u.log.counts.writebacks) is);
    }

pub tells_step : {P : Type 0} (p : Setting) (requests : List Request) (x y : Parts P) (task : ℕ) (before : ExecutionView) (a b : List Execution) → Stands p requests x → task < length p.tasks.items →
    before ≡ seen_of task x → x.now < y.now → state_of y ≡ cycles_of (rule_in (setup_in p)) (setup_in p) requests (y.now - x.now) (state_of x) →
    IsOneExecution (rule_in (setup_in p)) (setup_in p) requests task (y.now - x.now) (state_of x) → b ≡ a ++ execution_since before (seen_of task y) ∷ [] →
    ToldBehind (rule_in (setup_in p)) (setup_in p) requests (y.now - x.now) (state_of x) a b
tells_step p requests x y task before a b stands lt seen went state one added =
    let rule = rule_in (setup_in p) in
    let q = setup_in p in
    let e = execution_since (seen_of task x) (seen_of task y) in
    let grows = one_grows rule q requests task (y.now - x.now) (state_of x) (state_of y) one state in
    tells_one rule q requests e (state_of x) a b (added ∙ ap (λ v. a ++ execution_since v (seen_of task y) ∷ []) seen)
    (record {
      task = task;
      one = one;
      stands = pc_there p requests x task stands lt;
      misses = omega (arith, grows.misses, ap (λ (u : MachineState). u.log.counts.misses) state);
      backs = omega (arith, grows.backs, ap (λ (u : MachineState). u.log.counts.writebacks) state);
    })

-- a turn of a stretch: instructions that hit, and then one more or none
pub tells_turn : {P : Type 0} (p : Setting) (requests : List Request) (from x y z : Parts P) (task : ℕ) (before : ExecutionView) (a b c d : List Execution) → from.now ≤ x.now → x.now ≤ y.now → y.now ≤ z.now →
    state_of x ≡ cycles_of (rule_in (setup_in p)) (setup_in p) requests (x.now - from.now) (state_of from) →
    state_of y ≡ cycles_of (rule_in (setup_in p)) (setup_in p) requests (y.now - from.now) (state_of from) →
    state_of z ≡ cycles_of (rule_in (setup_in p)) (setup_in p) requests (z.now - y.now) (state_of y) →
    ToldBehind (rule_in (setup_in p)) (setup_in p) requests (x.now - from.now) (state_of from) a b → ToldBehind (rule_in (setup_in p)) (setup_in p) requests (y.now - x.now) (state_of x) b c →
    (y.now < z.now → IsOneExecution (rule_in (setup_in p)) (setup_in p) requests task (z.now - y.now) (state_of y)) → Stands p requests y → task < length p.tasks.items → before ≡ seen_of task y →
    (y.now < z.now → d ≡ c ++ execution_since before (seen_of task z) ∷ []) → (z.now ≤ y.now → d ≡ c) →
    ToldBehind (rule_in (setup_in p)) (setup_in p) requests (z.now - from.now) (state_of from) a d
tells_turn p requests from x y z task before a b c d le more last first then_ end told hits one stands lt seen some none =
    let rule = rule_in (setup_in p) in
    let q = setup_in p in
    let so_far = tells_on rule q requests (state_of from) (state_of x) from.now x.now y.now a b c le more first told hits in
    ⊎_elim
    (λ (went : y.now < z.now). tells_on rule q requests (state_of from) (state_of y) from.now y.now z.now a c d (omega (arith, le, more)) last then_ so_far
    (tells_step p requests y z task before c d stands lt seen went end (one went) (some went)))
    (λ (stays : z.now ≤ y.now).
    let same : y.now - from.now ≡ z.now - from.now = omega (arith, last, stays) in
    subst (λ n. ToldBehind rule q requests n (state_of from) a d) same (subst (ToldBehind rule q requests (y.now - from.now) (state_of from) a) (sym (none stays)) so_far)) (cases_lt y.now z.now)
