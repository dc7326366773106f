-- In dull cycles up to where a task becomes ready or a window opens or closes, no signal changes.
use Rattle.std.specs.Prelude.{nat_lt, nat_le, ◌&&◌, ◌==◌, max, min, unwrap_or, slice_get}
use Rattle.std.proofs.Common.{◌≡◌, ℕ, zero, suc, ◌+◌, ◌-◌, ◌<◌, ◌≤◌, Bool, true, false, cond, List, [], ◌∷◌, ◌++◌, Option, Some, None, length, refl, ap, ap₂, sym, ◌∙◌, subst, arith}
use Rattle.std.proofs.lemmas.Bool.Decides.{nat_tests}
use Rattle.prem_sched.specs.declared.sched.TaskJobs.{TaskJobs}
use Rattle.prem_sched.specs.Schedule.{Before as Earlier, choice, first_ready, is_ready, least_release, rest, run_or, task_at}
use Rattle.prem_isa.specs.declared.effect.Change.{Change}
use Rattle.prem_lru.specs.Entries.{ReplacementRule}
use Rattle.prem_gate.specs.declared.bus.Carried.{Carried}
use Rattle.prem_gate.specs.declared.bus.Transfer.{Transfer}
use Rattle.prem_gate.specs.declared.bus.Window.{Window}
use Rattle.prem_gate.specs.declared.request.Request.{Request}
use Rattle.prem_gate.specs.Gates.{wants}
use Rattle.prem_gate.specs.Stretch.{lesser, with_transfer}
use Rattle.prem_cycle.specs.declared.state.Interval.{Interval}
use Rattle.prem_cycle.specs.declared.state.Mode.{Mode}
use Rattle.prem_cycle.specs.declared.state.Mode.TheVariants.{Point, Switching, Running, Idle}
use Rattle.prem_cycle.specs.State.{CoreState, MachineState, Setup, Transaction}
use Rattle.prem_cycle.specs.Core.{is_empty, is_paid, phase_in, want_of, with_debt}
use Rattle.prem_cycle.specs.Cycle.{cycle_of, is_over, step_of}
use Rattle.prem_cycle.specs.Run.{cycles_of}
use Rattle.prem_cycle.specs.Runs.Dull.Dull.{AreDull, OnlyCounts, left_in}
use Rattle.prem_cycle.specs.Runs.Dull.Rest.{IsSteady, Within, bus_rest, core_passed, core_rest, debt_passed, idle_rest, mode_passed, mode_rest, running_rest, transactions_passed}
use Rattle.prem_cycle.proofs.RunLaws.{step_of-goes, step_of-stays}
use Rattle.prem_cycle.proofs.RunsLemmas.DullLemmas.Dull.{dull_rest}
use Rattle.prem_machine.specs.Owed.{first_kind}
use Rattle.prem_cycle.proofs.RunsLemmas.DullLemmas.Stretch.{fewer_rest, one_step}
use Rattle.prem_wave.specs.declared.bus.Before.{Before}
use Rattle.prem_wave.specs.declared.doing.Doing.{Doing}
use Rattle.prem_wave.specs.declared.doing.Doing.TheVariants.{Rests as Resting, Switches, Begins, Goes}
use Rattle.prem_wave.specs.Signals.{before_of, bit, bus_after, bus_word, calls_of, chosen, core_task, device_values, doing_in, doing_of, each, is_open, on_bus, switching, task_values}
use Rattle.prem_wave.specs.Signals.{values_after, values_before, values_with}
use Rattle.prem_wave.specs.Waves.{AllSame, window_change}

-- ---- the core

-- what it does, but at a scheduling point
abbrev shown : Mode → Option Doing
shown Point = None
shown (Switching k left) = Some (switching k left)
shown (Running k) = Some (Goes k)
shown (Idle until) = Some Resting

doing_shown : (switch now : ℕ) (sched : List TaskJobs) (mode : Mode) → doing_in switch now sched mode ≡ unwrap_or (shown mode) (chosen switch (choice now sched))
doing_shown switch now sched Point = refl
doing_shown switch now sched (Switching k left) = refl
doing_shown switch now sched (Running k) = refl
doing_shown switch now sched (Idle until) = refl

record SameCore (c d : CoreState) : Type 0 where
  interval : d.interval ≡ c.interval
  mark : d.mark ≡ c.mark
  window : d.window ≡ c.window
  paid : is_paid d.debt ≡ is_paid c.debt
  kind : first_kind d.debt.transactions ≡ first_kind c.debt.transactions
  mode : shown d.mode ≡ shown c.mode

same_core : (c : CoreState) → SameCore c c
same_core c = record { interval = refl; mark = refl; window = refl; paid = refl; kind = refl; mode = refl }

kind_passed : (m : ℕ) (begun : Bool) (ns : List Transaction) → first_kind (transactions_passed m begun ns) ≡ first_kind ns
kind_passed m begun [] = refl
kind_passed m false (n ∷ ns) = refl
kind_passed m true (n ∷ ns) = refl

empty_passed : (m : ℕ) (begun : Bool) (ns : List Transaction) → is_empty (transactions_passed m begun ns) ≡ is_empty ns
empty_passed m begun [] = refl
empty_passed m false (n ∷ ns) = refl
empty_passed m true (n ∷ ns) = refl

some_left : (m n left : ℕ) → m ≤ n → n ≤ left - 1 → ((left - m) == 0) ≡ (left == 0)
some_left m n zero h k = let e : zero - m ≡ 0 = omega arith in ap (λ x. x == 0) e
some_left m n (suc left) h k =
    let a : ((suc left - m) == 0) ≡ false = grind (arith, nat_tests) in
    let b : (suc left == 0) ≡ false = grind (arith, nat_tests) in
    a ∙ sym b

cost_left : (now m n : ℕ) (i : Interval) (cost : ℕ) (mark : Change) → m ≤ n → n ≤ running_rest now i cost mark → ((cost - m) == 0) ≡ (cost == 0)
cost_left now m n i zero mark h k = let e : zero - m ≡ 0 = omega arith in ap (λ x. x == 0) e
cost_left now m n i (suc cost) mark h k =
    let a : ((suc cost - m) == 0) ≡ false = grind (arith, nat_tests) in
    let b : (suc cost == 0) ≡ false = grind (arith, nat_tests) in
    a ∙ sym b

by_mode : (now m n : ℕ) (c : CoreState) (mode : Mode) → c.mode ≡ mode → m ≤ n → Within n (mode_rest now c mode) → SameCore c (mode_passed m c mode)
by_mode now m n c Point is le h = same_core c
by_mode now m n c (Switching k left) is le h =
    record {
      interval = refl;
      mark = refl;
      window = refl;
      paid = refl;
      kind = refl;
      mode = ap (λ b. Some (cond b (Begins k) (Switches k))) (some_left m n left le h) ∙ sym (ap shown is);
    }
by_mode now m n c (Running k) is le h =
    record {
      interval = refl;
      mark = refl;
      window = refl;
      paid = ap (λ b. is_empty c.debt.transactions && b) (cost_left now m n c.interval c.debt.cost c.mark le h);
      kind = refl;
      mode = refl;
    }
by_mode now m n c (Idle until) is le h = same_core c

by_wants : (now m n : ℕ) (c : CoreState) (b : Bool) → m ≤ n → Within n (cond b (lesser (bus_rest c.debt.begun c.debt.transactions) (idle_rest now c.mode)) (mode_rest now c c.mode)) →
    SameCore c (cond b (with_debt c (debt_passed m c.debt)) (mode_passed m c c.mode))
by_wants now m n c true le h =
    record {
      interval = refl;
      mark = refl;
      window = refl;
      paid = ap (λ b. b && (c.debt.cost == 0)) (empty_passed m c.debt.begun c.debt.transactions);
      kind = kind_passed m c.debt.begun c.debt.transactions;
      mode = refl;
    }
by_wants now m n c false le h = by_mode now m n c c.mode refl le h

core_same : (now m n : ℕ) (c : CoreState) → m ≤ n → Within n (core_rest now c) → SameCore c (core_passed m c)
core_same now m n c le h = by_wants now m n c (wants (want_of c.debt)) le h

-- ---- the gates

record SameGates (s u : MachineState) : Type 0 where
  gates : u.gates.gates ≡ s.gates.gates
  on : (ended : Option Transfer) → on_bus u.gates.carried ended ≡ on_bus s.gates.carried ended

same_gates : (s : MachineState) → SameGates s s
same_gates s = record { gates = refl; on = λ ended. refl }

gates_then : (s t u : MachineState) → SameGates s t → SameGates t u → SameGates s u
gates_then s t u h k = record { gates = k.gates ∙ h.gates; on = λ ended. k.on ended ∙ h.on ended }

on_kept : (left : ℕ) (c : Option Carried) (ended : Option Transfer) → on_bus (with_transfer left c) ended ≡ on_bus c ended
on_kept left None ended = refl
on_kept left (Some c) ended = refl

counts_gates : (s t : MachineState) → OnlyCounts s t → SameGates s t
counts_gates s t d =
    record {
      gates = ap (λ (x : MachineState). x.gates.gates) d.same;
      on = λ ended. ap (λ (x : MachineState). on_bus x.gates.carried ended) d.same ∙ on_kept (left_in t).transfer s.gates.carried ended;
    }

step_gates : (rule : ReplacementRule) (p : Setup) (requests : List Request) (s : MachineState) (b : Bool) → is_over s ≡ b → OnlyCounts s (cycle_of rule p requests s) →
    SameGates s (step_of rule p requests s)
step_gates rule p requests s true over d = subst (SameGates s) (sym (step_of-stays rule p requests s over)) (same_gates s)
step_gates rule p requests s false going d = subst (SameGates s) (sym (step_of-goes rule p requests s going)) (counts_gates s (cycle_of rule p requests s) d)

gates_kept : (rule : ReplacementRule) (p : Setup) (requests : List Request) (n m : ℕ) (s : MachineState) → m ≤ n → AreDull rule p requests n s → SameGates s (cycles_of rule p requests m s)
unfolding cycles_of
gates_kept rule p requests n zero s le dull = same_gates s
gates_kept rule p requests n (suc m) s le dull =
    let u = cycles_of rule p requests m s in
    gates_then s u (step_of rule p requests u) (gates_kept rule p requests n m s (omega (arith, le)) dull)
    (step_gates rule p requests u (is_over u) refl (dull m (omega (arith, le))))

-- ---- a state behind dull cycles

record Same (m : ℕ) (s u : MachineState) : Type 0 where
  now : u.now ≡ s.now + m
  work : u.work ≡ s.work
  sched : u.sched ≡ s.sched
  core : SameCore s.core u.core
  gates : SameGates s u
  transfers : u.log.transfers ≡ s.log.transfers
  intervals : u.log.intervals ≡ s.log.intervals
  misses : u.log.counts.misses ≡ s.log.counts.misses
  backs : u.log.counts.writebacks ≡ s.log.counts.writebacks

pub record IsStill (rule : ReplacementRule) (p : Setup) (requests : List Request) (n : ℕ) (s : MachineState) : Type 0 where
  pub dull : AreDull rule p requests n s
  pub steady : IsSteady requests s

same : (rule : ReplacementRule) (p : Setup) (requests : List Request) (n m : ℕ) (s : MachineState) → m ≤ n → IsStill rule p requests n s → Same m s (cycles_of rule p requests m s)
same rule p requests n m s le h =
    let rests = dull_rest rule p requests n s h.steady h.dull in
    let is = one_step rule p requests m s h.steady (fewer_rest m n requests s le rests) in
    record {
      now = ap (λ (x : MachineState). x.now) is;
      work = ap (λ (x : MachineState). x.work) is;
      sched = ap (λ (x : MachineState). x.sched) is;
      core = subst (λ (x : MachineState). SameCore s.core x.core) (sym is) (core_same s.now m n s.core le rests.core);
      gates = gates_kept rule p requests n m s le h.dull;
      transfers = ap (λ (x : MachineState). x.log.transfers) is;
      intervals = ap (λ (x : MachineState). x.log.intervals) is;
      misses = ap (λ (x : MachineState). x.log.counts.misses) is;
      backs = ap (λ (x : MachineState). x.log.counts.writebacks) is;
    }

-- ---- what depends on the time

-- each task is ready or not, and the window is open or not, as it was
record SameTime (s : MachineState) (v : ℕ) : Type 0 where
  ready : (k : ℕ) → is_ready v (task_at s.sched k) ≡ is_ready s.now (task_at s.sched k)
  window : is_open v s.core.window ≡ is_open s.now s.core.window

first_same : (t v k : ℕ) (tasks : List TaskJobs) → ((j : ℕ) → is_ready v (task_at tasks j) ≡ is_ready t (task_at tasks j)) → first_ready v k tasks ≡ first_ready t k tasks
first_same t v k [] h = refl
first_same t v k (task ∷ tasks) h = ap₂ (λ b o. cond b (Some k) o) (h 0) (first_same t v (k + 1) tasks (λ j. h (suc j)))

rest_rests : (switch : ℕ) (o : Option ℕ) → chosen switch (rest o) ≡ Resting
rest_rests switch None = refl
rest_rests switch (Some until) = refl

chosen_by : (switch : ℕ) (o a b : Option ℕ) → chosen switch (run_or o (rest a)) ≡ chosen switch (run_or o (rest b))
chosen_by switch None a b = rest_rests switch a ∙ sym (rest_rests switch b)
chosen_by switch (Some k) a b = refl

chosen_same : (switch t v : ℕ) (tasks : List TaskJobs) → ((j : ℕ) → is_ready v (task_at tasks j) ≡ is_ready t (task_at tasks j)) →
    chosen switch (choice v tasks) ≡ chosen switch (choice t tasks)
chosen_same switch t v tasks h =
    ap (λ o. chosen switch (run_or o (rest (least_release v tasks)))) (first_same t v 0 tasks h)
    ∙ chosen_by switch (first_ready t 0 tasks) (least_release v tasks) (least_release t tasks)

-- ---- the values

each_same : {A : Type 0} (f g : ℕ → List A) (n : ℕ) → ((k : ℕ) → f k ≡ g k) → each f n ≡ each g n
each_same f g zero h = refl
each_same f g (suc n) h = ap₂ (λ a b. a ++ b) (each_same f g n h) (h n)

doing_same : (switch m : ℕ) (s u : MachineState) → Same m s u → SameTime s u.now → doing_of switch u ≡ doing_of switch s
doing_same switch m s u h t =
    doing_shown switch u.now u.sched u.core.mode
    ∙ ap₂ (λ o d. unwrap_or o d) h.core.mode (ap (λ x. chosen switch (choice u.now x)) h.sched ∙ chosen_same switch s.now u.now s.sched t.ready)
    ∙ sym (doing_shown switch s.now s.sched s.core.mode)

task_same : (switch m : ℕ) (s u : MachineState) (k : ℕ) → Same m s u → SameTime s u.now → task_values switch u k ≡ task_values switch s k
task_same switch m s u k h t =
    let doing = doing_same switch m s u h t in
    let interval = h.core.interval in
    let mark = h.core.mark in
    let paid = h.core.paid in
    let phase = ap (λ w. phase_in w k) h.work in
    let ready = ap (λ x. is_ready u.now (task_at x k)) h.sched ∙ t.ready k in
    let ended = ap (λ x. (task_at x k).ended) h.sched in
    let call = ap (calls_of k) h.intervals in
    cc

before_same : (switch tasks m : ℕ) (s u : MachineState) → Same m s u → SameTime s u.now → values_before switch tasks u ≡ values_before switch tasks s
before_same switch tasks m s u h t =
    let doing = ap core_task (doing_same switch m s u h t) in
    let window = ap (λ w. Some (bit (is_open u.now w))) h.core.window ∙ ap (λ b. Some (bit b)) t.window in
    let tasks' = each_same (task_values switch u) (task_values switch s) tasks (λ k. task_same switch m s u k h t) in
    ap₂ (λ a b. (a ∷ b ∷ []) ++ each (task_values switch u) tasks) doing window
    ∙ ap (λ x. (core_task (doing_of switch s) ∷ Some (bit (is_open s.now s.core.window)) ∷ []) ++ x) tasks'

seen_same : (m : ℕ) (s u : MachineState) → Same m s u → before_of u ≡ before_of s
seen_same m s u h =
    let misses = h.misses in
    let backs = h.backs in
    let transfers = ap length h.transfers in
    let want = h.core.kind in
    λ i. record { misses = misses i; backs = backs i; transfers = transfers i; wants = want i }

bus_same : (b : Before) (m : ℕ) (s u : MachineState) → Same m s u → bus_after b u ≡ bus_after b s
bus_same b m s u h = ap (λ x. on_bus u.gates.carried (slice_get x b.transfers)) h.transfers ∙ h.gates.on (slice_get s.log.transfers b.transfers)

device_same : (b : Before) (m : ℕ) (s u : MachineState) (d : ℕ) → Same m s u → device_values (bus_after b u) u d ≡ device_values (bus_after b s) s d
device_same b m s u d h =
    let on = bus_same b m s u h in
    let gates = h.gates.gates in
    cc

after_same : (devices m : ℕ) (b : Before) (s u : MachineState) → Same m s u → values_after devices b u ≡ values_after devices b s
after_same devices m b s u h =
    let bus = ap (λ o. Some (bus_word o b.wants)) (bus_same b m s u h) in
    let miss = ap (λ n. Some (bit (nat_lt b.misses n))) h.misses in
    let back = ap (λ n. Some (bit (nat_lt b.backs n))) h.backs in
    let line = Some (bit (nat_lt b.backs u.log.counts.writebacks)) in
    let each' = each_same (device_values (bus_after b u) u) (device_values (bus_after b s) s) devices (λ d. device_same b m s u d h) in
    ap₂ (λ x y. (x ∷ y ∷ line ∷ []) ++ each (device_values (bus_after b u) u) devices) bus miss
    ∙ ap₂ (λ z x. (Some (bus_word (bus_after b s) b.wants) ∷ Some (bit (nat_lt b.misses s.log.counts.misses)) ∷ z ∷ []) ++ x) back each'

-- the values in a cycle among still ones are those of all of them together
cycle_same : (rule : ReplacementRule) (p : Setup) (requests : List Request) (switch tasks devices n m : ℕ) (s : MachineState) → m < n → IsStill rule p requests n s →
    SameTime s (s.now + m) →
    values_with switch tasks devices (cycles_of rule p requests m s) (cycles_of rule p requests (suc m) s) ≡ values_with switch tasks devices s (cycles_of rule p requests n s)
cycle_same rule p requests switch tasks devices n m s lt h t =
    let u = cycles_of rule p requests m s in
    let u' = cycles_of rule p requests (suc m) s in
    let w = cycles_of rule p requests n s in
    let su = same rule p requests n m s (omega (arith, lt)) h in
    let su' = same rule p requests n (suc m) s (omega (arith, lt)) h in
    let sw = same rule p requests n n s (omega arith) h in
    let t' = subst (SameTime s) (sym su.now) t in
    ap₂ (λ a b. a ++ values_after devices b u') (before_same switch tasks m s u su t') (seen_same m s u su)
    ∙ ap (λ x. values_before switch tasks s ++ x) (after_same devices (suc m) (before_of s) s u' su' ∙ sym (after_same devices n (before_of s) s w sw))

-- ---- a turn

one_same : (rule : ReplacementRule) (p : Setup) (requests : List Request) (s : MachineState) → AllSame rule p requests 1 s
unfolding cycles_of
one_same rule p requests s switch tasks devices zero lt = refl
one_same rule p requests s switch tasks devices (suc m) lt = absurd (omega (arith, lt))

open_by : (now v : ℕ) (w : Window) (a b : Bool) → nat_lt now w.start ≡ a → nat_lt now w.close ≡ b → now ≤ v → Earlier v (cond a (Some w.start) (cond b (Some w.close) None)) →
    is_open v w ≡ is_open now w
open_by now v w true b e f le before = shut (nat_lt v w.close) (nat_lt now w.close) (nat_le w.start v) (nat_le w.start now) (grind (arith, nat_tests)) (grind (arith, nat_tests))
  where
    shut : (x y c d : Bool) → c ≡ false → d ≡ false → (c && x) ≡ (d && y)
    shut x y true d h k = absurd (cc)
    shut x y false true h k = absurd (cc)
    shut x y false false h k = refl
open_by now v w false true e f le before =
    both (nat_le w.start v) (nat_lt v w.close) (nat_le w.start now) (nat_lt now w.close) (grind (arith, nat_tests)) (grind (arith, nat_tests))
    (grind (arith, nat_tests)) f
  where
    both : (a b c d : Bool) → a ≡ true → b ≡ true → c ≡ true → d ≡ true → (a && b) ≡ (c && d)
    both a b c d h j k l = ap₂ (λ x y. x && y) (h ∙ sym k) (j ∙ sym l)
open_by now v w false false e f le before =
    both (nat_le w.start v) (nat_lt v w.close) (nat_le w.start now) (nat_lt now w.close) (grind (arith, nat_tests)) (grind (arith, nat_tests))
    (grind (arith, nat_tests)) f
  where
    both : (a b c d : Bool) → a ≡ true → b ≡ false → c ≡ true → d ≡ false → (a && b) ≡ (c && d)
    both a b c d h j k l = ap₂ (λ x y. x && y) (h ∙ sym k) (j ∙ sym l)

open_kept : (now v : ℕ) (w : Window) → now ≤ v → Earlier v (window_change now w) → is_open v w ≡ is_open now w
open_kept now v w le before = open_by now v w (nat_lt now w.start) (nat_lt now w.close) refl refl le before

pub earlier_than : (v at limit : ℕ) (o : Option ℕ) → at ≡ unwrap_or o limit → v < at → Earlier v o
earlier_than v at limit None is lt = tt
earlier_than v at limit (Some u) is lt = omega (arith, is, lt)

pub later_than : (now at limit : ℕ) (o : Option ℕ) → at ≡ unwrap_or o limit → Earlier now o → now < limit → now < at
later_than now at limit None is lt h = omega (arith, is, h)
later_than now at limit (Some u) is lt h = omega (arith, is, lt)

fewer_dull : (rule : ReplacementRule) (p : Setup) (requests : List Request) (m n : ℕ) (s : MachineState) → m ≤ n → AreDull rule p requests n s → AreDull rule p requests m s
fewer_dull rule p requests m n s le dull = λ k lt. dull k (omega (arith, le, lt))

turn_by : (rule : ReplacementRule) (p : Setup) (requests : List Request) (s : MachineState) (at event ready window limit to : ℕ) (b : Bool) →
    nat_le (min (min event ready) window) (at + 1) ≡ b → s.now ≡ at → IsSteady requests s → AreDull rule p requests (event - s.now) s →
    ((k v : ℕ) → at ≤ v → v < ready → is_ready v (task_at s.sched k) ≡ is_ready at (task_at s.sched k)) →
    window ≡ unwrap_or (window_change at s.core.window) limit → to ≡ max (min (min event ready) window) (at + 1) → AllSame rule p requests (to - at) s
turn_by rule p requests s at event ready window limit to true le now steady dull readies is end =
    let short : min (min event ready) window ≤ at + 1 = grind (arith, nat_tests) in
    let one : 1 ≡ to - at = omega (arith, short, end) in
    subst (λ n. AllSame rule p requests n s) one (one_same rule p requests s)
turn_by rule p requests s at event ready window limit to false le now steady dull readies is end =
    let long : at + 1 < min (min event ready) window = grind (arith, nat_tests) in
    let first : to ≤ event = omega (arith, long, end) in
    let second : to ≤ ready = omega (arith, long, end) in
    let third : to ≤ window = omega (arith, long, end) in
    let less : to - at ≤ event - s.now = omega (arith, first, now) in
    let still : IsStill rule p requests (to - at) s = record { dull = fewer_dull rule p requests (to - at) (event - s.now) s less dull; steady = steady } in
    λ switch tasks devices m lt.
    let from : at ≤ s.now + m = omega (arith, now) in
    let up : s.now + m < to = omega (arith, now, lt) in
    let time : SameTime s (s.now + m) = record {
      ready = λ k. subst (λ n. is_ready (s.now + m) (task_at s.sched k) ≡ is_ready n (task_at s.sched k)) (sym now) (readies k (s.now + m) from (omega (arith, up, second)));
      window = open_kept s.now (s.now + m) s.core.window (omega arith)
          (earlier_than (s.now + m) window limit (window_change s.now s.core.window) (is ∙ ap (λ n. unwrap_or (window_change n s.core.window) limit) (sym now)) (omega (arith, up, third)));
    } in
    cycle_same rule p requests switch tasks devices (to - at) m s lt still time

pub turn_is : (rule : ReplacementRule) (p : Setup) (requests : List Request) (s : MachineState) (at event ready window limit to : ℕ) → s.now ≡ at → IsSteady requests s →
    AreDull rule p requests (event - s.now) s → ((k v : ℕ) → at ≤ v → v < ready → is_ready v (task_at s.sched k) ≡ is_ready at (task_at s.sched k)) →
    window ≡ unwrap_or (window_change at s.core.window) limit → to ≡ max (min (min event ready) window) (at + 1) → AllSame rule p requests (to - at) s
turn_is rule p requests s at event ready window limit to now steady dull readies is end =
    turn_by rule p requests s at event ready window limit to (nat_le (min (min event ready) window) (at + 1)) refl now steady dull readies is end

-- where another state is told of that is this one
pub turn_told : (rule : ReplacementRule) (p : Setup) (requests : List Request) (s t : MachineState) (at event ready window limit to : ℕ) → t ≡ s → s.now ≡ at → IsSteady requests s →
    AreDull rule p requests (event - s.now) s → ((k v : ℕ) → t.now ≤ v → v < ready → is_ready v (task_at t.sched k) ≡ is_ready t.now (task_at t.sched k)) →
    window ≡ unwrap_or (window_change at s.core.window) limit → to ≡ max (min (min event ready) window) (at + 1) → AllSame rule p requests (to - at) s
turn_told rule p requests s t at event ready window limit to same now steady dull readies is end =
    let told : (k v : ℕ) → s.now ≤ v → v < ready → is_ready v (task_at s.sched k) ≡ is_ready s.now (task_at s.sched k) =
    subst (λ (x : MachineState). (k v : ℕ) → x.now ≤ v → v < ready → is_ready v (task_at x.sched k) ≡ is_ready x.now (task_at x.sched k)) same readies in
    let there : (k v : ℕ) → at ≤ v → v < ready → is_ready v (task_at s.sched k) ≡ is_ready at (task_at s.sched k) =
    subst (λ n. (k v : ℕ) → n ≤ v → v < ready → is_ready v (task_at s.sched k) ≡ is_ready n (task_at s.sched k)) now told in
    turn_is rule p requests s at event ready window limit to now steady dull there is end
