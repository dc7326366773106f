-- What one instruction that issues alone makes of the machine's parts.
use Rattle.std.proofs.Common.{◌≡◌, ℕ, ◌+◌, ◌*◌, ◌-◌, ◌≤◌, ◌<◌, Bool, true, false, List, [], ◌∷◌, None, All, length, refl, ap, sym, ◌∙◌, subst, arith}
use Rattle.std.specs.Prelude.{nat_le, is_some, ◌||◌}
use Rattle.prem_machine.proofs.Prelude.{cycles_of-add, step_of-goes, issues_alone, goes_untrapped, CoreTurn, Issues, core_issued, core_turn, is_paid, want_of, is_finished, is_full, is_over}
use Rattle.prem_machine.proofs.Prelude.{log_size, next_cycle, ticked, devices_reported, LineTouch, owed_by, cycles_of, IssuesAlone, continues, issue_joined, Counts, Log, MachineState, Setup, Transaction}
use Rattle.prem_machine.proofs.Prelude.{rule_in, DeviceFacts, Facts, Mode, LiesIn, Held, Request, Stay, items_of, room_of, ReplacementRule, CoreParts, counts_in, dropped_in, log_in, put_out}
use Rattle.prem_machine.proofs.Prelude.{ModeReady, core_with, bus_cycles, Runs, Stands, state_of, GoesOn, IsKept, AreSilent, IsLone, setup_in, with_counts, work_in, Moment, Parts, Setting}
use Rattle.prem_machine.proofs.Prelude.{Works, nat_tests}
use Rattle.prem_machine.proofs.Advancing.{few_kept, rooms_kept, rooms_left, same_state, ticked_went}
use Rattle.prem_machine.proofs.Lonely.{as_lone, lone_cycles, lone_state}
use Rattle.prem_machine.proofs.Resting.{arrived_after, counts_more, mode_after, unclashed}
use Rattle.prem_machine.proofs.Silence.{silent_none, silent_then}
use Rattle.prem_machine.proofs.Telling.{cores_told, full_told}

-- the parts with other work and facts, at another time, in another moment, where another core owes
abbrev pub behind : {P : Type 0} → Parts P → Works P → Facts → ℕ → Moment → CoreParts → Parts P
behind x w f now m c = record x { work = w; facts = f; now = now; moment = m; core = c }

pub kept_stands : {P : Type 0} (p : Setting) (requests : List Request) (x : Parts P) (w : Works P) (f : Facts) (now : ℕ) →
    Stands p requests x → IsKept x.work x.facts w f → Stands p requests (behind x w f now x.moment x.core)
kept_stands p requests x w f now s k =
    let A : ℕ → Type 0 = λ n. All (LiesIn x.gates.line n) x.gates.gates in
    record {
      memory = k.memory ∙ s.memory;
      cache = k.cache ∙ s.cache;
      cores = k.cores ∙ s.cores;
      target = s.target;
      tasks = s.tasks;
      told = k.ended ∙ s.told;
      jobs = s.jobs;
      periods = s.periods;
      lines = s.lines;
      areas = subst A (sym k.memory) s.areas;
      devices = ap length k.devices ∙ s.devices;
      eight = s.eight;
      waiting = k.devices ∙ s.waiting ∙ ap (λ (ds : List DeviceFacts). devices_reported x.gates 0 (dropped_in ds)) (sym k.devices);
      rooms = rooms_kept requests x.facts f k.room s.rooms;
    }

-- ---- where all that is owed is paid at once

pub kept_runs : {P : Type 0} (requests : List Request) (x : Parts P) (w : Works P) (f : Facts) (task until cost : ℕ) → IsLone task until requests (state_of x) →
    All (λ j. 1 ≤ j.period) x.sched → Runs x.now (4 * x.now) requests x → IsKept x.work x.facts w f → 1 ≤ cost → x.now + cost ≤ until →
    Runs (x.now + cost) (4 * (x.now + cost)) requests (behind x w f (x.now + cost) x.moment x.core)
kept_runs requests x w f task until cost h periods r k some le =
    let log = ap (λ (l : Log). length l.transfers) k.log in
    record {
      arrived = arrived_after x.now (x.now + cost) x.arrived requests r.arrived (omega arith)
          (λ at d lt m less is. h.none (x.now + m) (omega arith) (omega (arith, less, le)) at d lt is);
      few = few_kept x.arrived (items_of x.facts.devices) (items_of f.devices) (ap dropped_in k.devices) r.few;
      pending = omega (arith, r.pending, log);
      free = r.free;
      ready = mode_after x.now (x.now + cost) x.sched x.moment.mode periods (omega arith) r.ready;
      first = omega (arith, r.first);
      counts = counts_more (4 * x.now + 2) (4 * (x.now + cost)) (counts_in f) (k.counts (4 * x.now) r.counts) (omega (arith, some));
    }

pub not_full : (a b : ℕ) → a < log_size → b < log_size → (nat_le log_size a || nat_le log_size b) ≡ false
not_full a b p q =
    let u : nat_le log_size a ≡ false = grind (arith, nat_tests) in
    let v : nat_le log_size b ≡ false = grind (arith, nat_tests) in
    rw u v

pub has_room : {P : Type 0} (p : Setting) (requests : List Request) (x : Parts P) → Stands p requests x → put_out (items_of x.facts.tasks) < log_size →
    length (items_of x.facts.intervals) < log_size → is_full (state_of x) ≡ false
has_room p requests x s few less = sym (full_told p requests x s) ∙ not_full (put_out (items_of x.facts.tasks)) (length (items_of x.facts.intervals)) few less

pub goes_lone : {P : Type 0} (requests : List Request) (x : Parts P) (task until : ℕ) → IsLone task until requests (state_of x) → x.trapped ≡ None → is_full (state_of x) ≡ false →
    is_over (state_of x) ≡ false
goes_lone requests x task until h none full = ap is_over (as_lone task until requests (state_of x) h none) ∙ full

pub as_state : (task until : ℕ) (requests : List Request) (s t : MachineState) → IsLone task until requests s → s.trapped ≡ None → t.sched ≡ s.sched → t.core ≡ s.core → t.gates ≡ s.gates →
    t.log ≡ record s.log { counts = t.log.counts } → t.trapped ≡ s.trapped → t ≡ lone_state task s t.work t.log.counts t.now 0
as_state task until requests s t h none sched core gates log trapped =
    same_state t (lone_state task s t.work t.log.counts t.now 0) refl refl sched
    (core ∙ ap (λ (u : MachineState). u.core) (as_lone task until requests s h none)) gates log (trapped ∙ none)

-- the turn of the core
pub turn_of : {P : Type 0} (p : Setting) (x : Parts P) (w : Works P) (f : Facts) (task cost : ℕ) (touches : List LineTouch) (owed : List Transaction) →
    GoesOn p task x.work x.facts w f touches cost → owed_by p.plant touches ≡ owed →
    core_turn (rule_in (setup_in p)) (setup_in p) x.now (Issues task x.moment.interval) (state_of x).work (core_with x.core.debt x.moment) (counts_in x.facts)
    ≡ record {
      work = work_in w (items_of f.tasks);
      core = core_issued x.now task x.moment.interval Stay cost owed (core_with x.core.debt x.moment);
      counts = counts_in f;
      trapped = None;
    }
turn_of p x w f task cost touches owed goes is =
    let F : List Transaction → CoreTurn = λ o.
    record {
      work = work_in w (items_of f.tasks);
      core = core_issued x.now task x.moment.interval Stay cost o (core_with x.core.debt x.moment);
      counts = counts_in f;
      trapped = None;
    } in
    goes x.now x.moment.interval (core_with x.core.debt x.moment) ∙ ap F is

pub went_state : {P : Type 0} (p : Setting) (requests : List Request) (x : Parts P) (w : Works P) (f : Facts) (task until cost all : ℕ) (touches : List LineTouch) (owed : List Transaction) →
    IsLone task until requests (state_of x) → Stands p requests x → x.trapped ≡ None → GoesOn p task x.work x.facts w f touches cost → owed_by p.plant touches ≡ owed →
    IsKept x.work x.facts w f → 1 ≤ cost → all ≡ bus_cycles owed + cost → x.now + all ≤ until → put_out (items_of x.facts.tasks) + 2 ≤ log_size → length (items_of x.facts.intervals) < log_size →
    state_of (behind x w f (x.now + all) x.moment x.core) ≡ cycles_of (rule_in (setup_in p)) (setup_in p) requests all (state_of x)
went_state p requests x w f task until cost all touches owed h stands none goes owes k some is le room less =
    let s = state_of x in
    let y = behind x w f (x.now + all) x.moment x.core in
    let same = as_state task until requests s (state_of y) h none refl refl refl k.log refl in
    let intervals = ap (λ (l : Log). length l.intervals) k.log in
    let full : is_full s ≡ false = has_room p requests x stands (omega (arith, room)) less in
    let after : is_full (state_of y) ≡ false = has_room p requests y (kept_stands p requests x w f (x.now + all) stands k) (omega (arith, room, k.put)) (omega (arith, less, intervals)) in
    same
    ∙ sym (lone_cycles (rule_in (setup_in p)) (setup_in p) requests task until s (work_in w (items_of f.tasks)) (counts_in f) cost owed all h none some is le
    (goes_lone requests x task until h none full) (sym (ap is_full same) ∙ after) (turn_of p x w f task cost touches owed goes owes))

pub went_lone : {P : Type 0} (requests : List Request) (x : Parts P) (w : Works P) (f : Facts) (task until cost : ℕ) → IsLone task until requests (state_of x) →
    IsLone task until requests (state_of (behind x w f (x.now + cost) x.moment x.core))
went_lone requests x w f task until cost h =
    record {
      mode = h.mode;
      debt = h.debt;
      mark = h.mark;
      none = λ t from lt. h.none t (omega (arith, from)) lt;
      idle = λ t from lt memory. h.idle t (omega (arith, from)) lt memory;
    }

-- ---- where something else comes first

alone : (task until : ℕ) (requests : List Request) (s : MachineState) → IsLone task until requests s → s.now < until → IssuesAlone task requests s
alone task until requests s h lt =
    record {
      mode = h.mode;
      paid = ap is_paid h.debt;
      mark = ap continues h.mark;
      none = h.none s.now (omega arith) lt;
      idle = h.idle s.now (omega arith) lt;
    }

pub not_held : (ns : List Transaction) (begun : Bool) (cost : ℕ) → begun ≡ false → want_of (record { transactions = ns; begun = begun; cost = cost }) ≡ Held → ⊥
not_held [] begun cost is held = absurd (cc)
not_held (n ∷ ns) true cost is held = absurd (cc)
not_held (n ∷ ns) false cost is held = absurd (cc)

pub missed_state : {P : Type 0} (p : Setting) (requests : List Request) (x : Parts P) (w : Works P) (f : Facts) (m : Moment) (c : CoreParts)
    (t : MachineState) (task until cost : ℕ) (touches : List LineTouch) →
    IsLone task until requests (state_of x) → Stands p requests x → x.trapped ≡ None → GoesOn p task x.work x.facts w f touches cost → IsKept x.work x.facts w f → x.now < until →
    core_with c.debt m ≡ core_issued x.now task x.moment.interval Stay cost (owed_by p.plant touches) (core_with x.core.debt x.moment) →
    t ≡ next_cycle (state_of (behind x w f x.now m c)) → put_out (items_of x.facts.tasks) + 2 ≤ log_size → length (items_of x.facts.intervals) < log_size →
    t ≡ cycles_of (rule_in (setup_in p)) (setup_in p) requests 1 (state_of x)
unfolding cycles_of
missed_state p requests x w f m c t task until cost touches h stands none goes k lt core next room less =
    let s = state_of x in
    let q = setup_in p in
    let rule = rule_in q in
    let mid = state_of (behind x w f x.now m c) in
    let turn = turn_of p x w f task cost touches (owed_by p.plant touches) goes refl in
    let T : Counts → CoreTurn = λ n. core_turn rule q x.now (Issues task x.moment.interval) s.work s.core n in
    let clash = ap T (sym (unclashed (counts_in x.facts))) ∙ turn in
    let joint : mid ≡ issue_joined rule q task s =
    same_state mid (issue_joined rule q task s) refl (sym (ap (λ (u : CoreTurn). u.work) clash)) refl (core ∙ sym (ap (λ (u : CoreTurn). u.core) clash)) refl
    (k.log ∙ ap (λ n. with_counts n (log_in x.facts)) (sym (ap (λ (u : CoreTurn). u.counts) clash))) (none ∙ sym (ap (λ (u : CoreTurn). u.trapped) clash)) in
    let full : is_full s ≡ false = has_room p requests x stands (omega (arith, room)) less in
    next
    ∙ sym (ticked_went mid (ap is_some none))
    ∙ ap ticked joint
    ∙ sym (issues_alone rule q requests task s (alone task until requests s h lt))
    ∙ sym (step_of-goes rule q requests s (goes_lone requests x task until h none full))

pub missed_runs : {P : Type 0} (requests : List Request) (x : Parts P) (w : Works P) (f : Facts) (m : Moment) (c : CoreParts) (task until : ℕ) → IsLone task until requests (state_of x) →
    Runs x.now (4 * x.now) requests x → IsKept x.work x.facts w f → x.now < until → m.mode ≡ x.moment.mode → c.debt.begun ≡ false → m.interval.first ≡ x.moment.interval.first →
    Runs (x.now + 1) (4 * x.now + 3) requests (behind x w f x.now m c)
missed_runs requests x w f m c task until h r k lt mode begun first =
    let log = ap (λ (l : Log). length l.transfers) k.log in
    let M : Mode → Type 0 = λ d. ModeReady x.now x.sched d in
    record {
      arrived = arrived_after x.now (x.now + 1) x.arrived requests r.arrived (omega arith)
          (λ at d below j less is. h.none (x.now + j) (omega arith) (omega (arith, less, lt)) at d below is);
      few = few_kept x.arrived (items_of x.facts.devices) (items_of f.devices) (ap dropped_in k.devices) r.few;
      pending = omega (arith, r.pending, log);
      free = λ held. absurd (not_held c.debt.transactions c.debt.begun c.debt.cost begun held);
      ready = subst M (sym mode) r.ready;
      first = omega (arith, first, r.first);
      counts = counts_more (4 * x.now + 2) (4 * x.now + 3) (counts_in f) (k.counts (4 * x.now) r.counts) (omega arith);
    }

-- ---- what an instruction needs

pub rooms_there : {P : Type 0} (p : Setting) (requests : List Request) (x : Parts P) → Stands p requests x → put_out (items_of x.facts.tasks) < log_size →
    length (items_of x.facts.intervals) < log_size →
    All (λ t. length (items_of t.outputs) < room_of t.outputs) (items_of x.facts.tasks) × (length (items_of x.facts.intervals) < room_of x.facts.intervals)
rooms_there p requests x s few less = rooms_left requests x.work.cores.items x.facts (cores_told p requests x s) s.rooms (has_room p requests x s few less)

-- ---- the parts behind it

pub unmoved : {P : Type 0} (x : Parts P) (w : Works P) (f : Facts) → w ≡ x.work → f ≡ x.facts → behind x w f x.now x.moment x.core ≡ x
unmoved x w f work facts = λ i. record x { work = work i; facts = facts i }

-- ---- a stretch of them

-- so far, with room for so many words more
pub record Follows {P : Type 0} (p : Setting) (requests : List Request) (task until : ℕ) (from x : Parts P) (left : ℕ) : Type 0 where
  pub state : state_of x ≡ cycles_of (rule_in (setup_in p)) (setup_in p) requests (x.now - from.now) (state_of from)
  pub silent : AreSilent (rule_in (setup_in p)) (setup_in p) requests (x.now - from.now) (state_of from)
  pub stands : Stands p requests x
  pub runs : Runs x.now (4 * x.now) requests x
  pub begun : from.now ≤ x.now
  pub within : x.now ≤ until
  pub trapped : x.trapped ≡ None
  pub lone : IsLone task until requests (state_of x)
  pub room : put_out (items_of x.facts.tasks) + left ≤ log_size
  pub intervals : length (items_of x.facts.intervals) < log_size

pub follows_on : (rule : ReplacementRule) (p : Setup) (requests : List Request) (s t u : MachineState) (a b c : ℕ) → a ≤ b → b ≤ c →
    t ≡ cycles_of rule p requests (b - a) s → u ≡ cycles_of rule p requests (c - b) t → u ≡ cycles_of rule p requests (c - a) s
follows_on rule p requests s t u a b c le more first then_ =
    let e : b - a + (c - b) ≡ c - a = omega (arith, le, more) in
    then_ ∙ ap (cycles_of rule p requests (c - b)) first ∙ sym (cycles_of-add rule p requests (b - a) (c - b) s) ∙ ap (λ k. cycles_of rule p requests k s) e

-- no cycle
pub stays : (rule : ReplacementRule) (p : Setup) (requests : List Request) (s : MachineState) (n : ℕ) → s ≡ cycles_of rule p requests (n - n) s
unfolding cycles_of
stays rule p requests s n = let z : 0 ≡ n - n = omega arith in ap (λ k. cycles_of rule p requests k s) z

pub silent_on : (rule : ReplacementRule) (p : Setup) (requests : List Request) (s t : MachineState) (a b c : ℕ) → a ≤ b → b ≤ c →
    t ≡ cycles_of rule p requests (b - a) s → AreSilent rule p requests (b - a) s → AreSilent rule p requests (c - b) t → AreSilent rule p requests (c - a) s
silent_on rule p requests s t a b c le more is first then_ =
    let e : b - a + (c - b) ≡ c - a = omega (arith, le, more) in
    let N : ℕ → Type 0 = λ k. AreSilent rule p requests k s in
    let S : MachineState → Type 0 = λ u. AreSilent rule p requests (c - b) u in
    subst N e (silent_then rule p requests (b - a) (c - b) s first (subst S is then_))

pub silent_stays : (rule : ReplacementRule) (p : Setup) (requests : List Request) (s : MachineState) (n : ℕ) → AreSilent rule p requests (n - n) s
silent_stays rule p requests s n =
    let z : 0 ≡ n - n = omega arith in
    let N : ℕ → Type 0 = λ k. AreSilent rule p requests k s in
    subst N z (silent_none rule p requests s)

full_by : (finished trapped full : Bool) → (finished || trapped || full) ≡ false → full ≡ false
full_by true trapped full h = absurd (cc)
full_by false true full h = absurd (cc)
full_by false false full h = h

few_by : (a b : ℕ) → (nat_le log_size a || nat_le log_size b) ≡ false → (a < log_size) × (b < log_size)
few_by a b h = by (nat_le log_size a) refl (nat_le log_size b) refl h
  where
    by : (x : Bool) → nat_le log_size a ≡ x → (y : Bool) → nat_le log_size b ≡ y → (x || y) ≡ false → (a < log_size) × (b < log_size)
    by true is y other e = absurd (cc)
    by false is true other e = absurd (cc)
    by false is false other e = (grind (arith, nat_tests), grind (arith, nat_tests))

-- the logs of a run that goes on have room
pub rooms_going : {P : Type 0} (p : Setting) (requests : List Request) (x : Parts P) → Stands p requests x → is_over (state_of x) ≡ false →
    (put_out (items_of x.facts.tasks) < log_size) × (length (items_of x.facts.intervals) < log_size)
rooms_going p requests x s going =
    let full : is_full (state_of x) ≡ false = full_by (is_finished (state_of x)) (is_some x.trapped) (is_full (state_of x)) going in
    few_by (put_out (items_of x.facts.tasks)) (length (items_of x.facts.intervals)) (full_told p requests x s ∙ full)

-- before the first of them
pub follows_none : {P : Type 0} (p : Setting) (requests : List Request) (task until : ℕ) (x : Parts P) (left : ℕ) → Stands p requests x → Runs x.now (4 * x.now) requests x →
    is_over (state_of x) ≡ false → x.now ≤ until → IsLone task until requests (state_of x) → put_out (items_of x.facts.tasks) + left ≤ log_size → Follows p requests task until x x left
follows_none p requests task until x left stands runs going le h room =
    record {
      state = stays (rule_in (setup_in p)) (setup_in p) requests (state_of x) x.now;
      silent = silent_stays (rule_in (setup_in p)) (setup_in p) requests (state_of x) x.now;
      stands = stands;
      runs = runs;
      begun = omega arith;
      within = le;
      trapped = goes_untrapped (state_of x) going;
      lone = h;
      room = room;
      intervals = (rooms_going p requests x stands going).1;
    }

-- one more
pub follows_one : {P : Type 0} (p : Setting) (requests : List Request) (task until : ℕ) (from x y : Parts P) (left : ℕ) → Follows p requests task until from x left → 1 ≤ left →
    state_of y ≡ cycles_of (rule_in (setup_in p)) (setup_in p) requests (y.now - x.now) (state_of x) →
    AreSilent (rule_in (setup_in p)) (setup_in p) requests (y.now - x.now) (state_of x) → Stands p requests y → Runs y.now (4 * y.now) requests y →
    x.now ≤ y.now → y.now ≤ until → y.trapped ≡ None → IsLone task until requests (state_of y) → put_out (items_of y.facts.tasks) ≤ put_out (items_of x.facts.tasks) + 1 →
    items_of y.facts.intervals ≡ items_of x.facts.intervals → Follows p requests task until from y (left - 1)
follows_one p requests task until from x y left f some state silent stands runs later within trapped h put intervals =
    let same = ap length intervals in
    record {
      state = follows_on (rule_in (setup_in p)) (setup_in p) requests (state_of from) (state_of x) (state_of y) from.now x.now y.now f.begun later f.state state;
      silent = silent_on (rule_in (setup_in p)) (setup_in p) requests (state_of from) (state_of x) from.now x.now y.now f.begun later f.state f.silent silent;
      stands = stands;
      runs = runs;
      begun = omega (arith, f.begun, later);
      within = within;
      trapped = trapped;
      lone = h;
      room = omega (arith, some, put, f.room);
      intervals = omega (arith, same, f.intervals);
    }

-- some more, which leave room for so many words
pub follows_far : {P : Type 0} (p : Setting) (requests : List Request) (task until : ℕ) (from x y : Parts P) (left rest : ℕ) → Follows p requests task until from x left →
    state_of y ≡ cycles_of (rule_in (setup_in p)) (setup_in p) requests (y.now - x.now) (state_of x) →
    AreSilent (rule_in (setup_in p)) (setup_in p) requests (y.now - x.now) (state_of x) → Stands p requests y → Runs y.now (4 * y.now) requests y →
    x.now ≤ y.now → y.now ≤ until → y.trapped ≡ None → IsLone task until requests (state_of y) → put_out (items_of y.facts.tasks) + rest ≤ log_size →
    items_of y.facts.intervals ≡ items_of x.facts.intervals → Follows p requests task until from y rest
follows_far p requests task until from x y left rest f state silent stands runs later within trapped h room intervals =
    let same = ap length intervals in
    record {
      state = follows_on (rule_in (setup_in p)) (setup_in p) requests (state_of from) (state_of x) (state_of y) from.now x.now y.now f.begun later f.state state;
      silent = silent_on (rule_in (setup_in p)) (setup_in p) requests (state_of from) (state_of x) from.now x.now y.now f.begun later f.state f.silent silent;
      stands = stands;
      runs = runs;
      begun = omega (arith, f.begun, later);
      within = within;
      trapped = trapped;
      lone = h;
      room = room;
      intervals = omega (arith, same, f.intervals);
    }
