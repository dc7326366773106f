-- A dull cycle rests: what else a cycle may do changes more than the numbers that count.
use Rattle.std.proofs.Common.{◌≡◌, ◌≢◌, ℕ, zero, suc, ◌+◌, ◌-◌, ◌<◌, ◌≤◌, Bool, true, false, cond, List, [], ◌∷◌, Option, Some, None, refl, ap, sym, ◌∙◌, subst, arith, length}
use Rattle.std.specs.Prelude.{◌/◌, is_some, nat_le, nat_lt, slice_set, not, ◌||◌, ◌&&◌, ◌==◌}
use Rattle.prem_cycle.proofs.Prelude.{is_empty, is_paid, want_of, with_cost, paid_on_bus, core_pay, CoreMove, Passes, Issues, begin_switch, begin_idle, move_chosen, move_running, move_in}
use Rattle.prem_cycle.proofs.Prelude.{phase_in, core_issue, core_turn, Arrivals, with_memory, with_clash, move_at, core_at, joined, settle, with_now, next_cycle, ticked, cycle_with}
use Rattle.prem_cycle.proofs.Prelude.{close_interval, at_point, ends_before, is_finish, is_finished, is_finished_in, is_full, Attempt, Traps, Executes, attempt_behind, LineTouch, one_if}
use Rattle.prem_cycle.proofs.Prelude.{with_touch, with_touches, with_store, issued_with, issued_by, task_after, transaction_left, switch_left, with_transaction, with_switch, OnlyCounts}
use Rattle.prem_cycle.proofs.Prelude.{bus_rest, idle_rest, running_rest, mode_rest, core_rest, Within, IsSteady, Setup, Work, Task, Transaction, Debt, CoreState, Counts, MachineState, record_of, task_in}
use Rattle.prem_cycle.proofs.Prelude.{Interval, Mode, Point, Switching, Running, Idle, Turned, wants, with_carried, transfer_left, with_transfer, StaysAbove, lesser, New, Held, Window}
use Rattle.prem_cycle.proofs.Prelude.{Request, with_last, Access, Change, Stay, Memory, Execute, End, Job, Phase, Stored, Touched, touch_of, ReplacementRule, least_later, Before, choice}
use Rattle.prem_cycle.proofs.Prelude.{first_ready, least_release, rest, run_or, Choice, Run, Finished, nat_tests}
use Rattle.prem_cycle.proofs.CycleParts.{cycle_trapped}
use Rattle.prem_cycle.proofs.RunsLemmas.DullLemmas.Steps.{want_by, both_within}
use Rattle.prem_cycle.proofs.Time.{goes_untrapped}
use Rattle.prem_sched.specs.declared.sched.Choice.TheVariants.{Idle as Rest}

-- ---- what settling leaves

record Keeps (s s' : MachineState) : Type 0 where
  debt : s'.core.debt ≡ s.core.debt
  window : s'.core.window ≡ s.core.window
  hits : s'.log.counts.hits ≡ s.log.counts.hits
  misses : s'.log.counts.misses ≡ s.log.counts.misses

either_keeps : (b : Bool) (x y s : MachineState) → Keeps s x → Keeps s y → Keeps s (cond b x y)
either_keeps true x y s h k = h
either_keeps false x y s h k = k

keeps : (m : Mode) (s : MachineState) → Keeps s (settle m s)
keeps Point s = record { debt = refl; window = refl; hits = refl; misses = refl }
keeps (Switching k left) s = record { debt = refl; window = refl; hits = refl; misses = refl }
keeps (Running k) s =
    either_keeps _ (close_interval k s) s s (record { debt = refl; window = refl; hits = refl; misses = refl }) (record { debt = refl; window = refl; hits = refl; misses = refl })
keeps (Idle until) s =
    either_keeps _ s (record s { core = at_point s.core }) s (record { debt = refl; window = refl; hits = refl; misses = refl }) (record { debt = refl; window = refl; hits = refl; misses = refl })

-- ---- the parts of a cycle by the core's move

abbrev pub turn_by : ReplacementRule → Setup → Arrivals → Turned → CoreMove → MachineState → MachineState
turn_by rule p a b m s = joined a b (core_turn rule p s.now m (with_memory b.memory s.work) s.core (with_clash b.turn.clash s.log.counts)) s

-- what only counts
pub record Counted (s t : MachineState) : Type 0 where
  pub mode : t.core.mode ≡ with_switch (switch_left t.core.mode) s.core.mode
  pub transactions : t.core.debt.transactions ≡ with_transaction (transaction_left t.core.debt.begun t.core.debt.transactions) s.core.debt.begun s.core.debt.transactions
  pub begun : t.core.debt.begun ≡ s.core.debt.begun
  pub window : t.core.window ≡ s.core.window
  pub gates : t.gates ≡ with_carried s.gates (with_transfer (transfer_left t.gates.carried) s.gates.carried)
  pub transfers : t.log.transfers ≡ s.log.transfers
  pub dropped : t.log.dropped ≡ s.log.dropped
  pub hits : t.log.counts.hits ≡ s.log.counts.hits
  pub misses : t.log.counts.misses ≡ s.log.counts.misses
  pub trapped : t.trapped ≡ s.trapped

counted : (s t : MachineState) → OnlyCounts s t → Counted s t
counted s t d =
    record {
      mode = ap (λ (x : MachineState). x.core.mode) d.same;
      transactions = ap (λ (x : MachineState). x.core.debt.transactions) d.same;
      begun = ap (λ (x : MachineState). x.core.debt.begun) d.same;
      window = ap (λ (x : MachineState). x.core.window) d.same;
      gates = ap (λ (x : MachineState). x.gates) d.same;
      transfers = ap (λ (x : MachineState). x.log.transfers) d.same;
      dropped = ap (λ (x : MachineState). x.log.dropped) d.same;
      hits = ap (λ (x : MachineState). x.log.counts.hits) d.same;
      misses = ap (λ (x : MachineState). x.log.counts.misses) d.same;
      trapped = ap (λ (x : MachineState). x.trapped) d.same;
    }

-- ---- an instruction that issues counts its touches

touched_once : (phase : Phase) (t : LineTouch) (n : Counts) → (with_touch phase t n).hits + (with_touch phase t n).misses ≡ n.hits + n.misses + 1
touched_once phase t n = by_hit t.hit where
  by_hit : (b : Bool) → n.hits + one_if b + (n.misses + one_if (not b)) ≡ n.hits + n.misses + 1
  by_hit true = omega arith
  by_hit false = omega arith

touches_counted : (phase : Phase) (ts : List LineTouch) (n : Counts) → (with_touches phase ts n).hits + (with_touches phase ts n).misses ≡ n.hits + n.misses + length ts
touches_counted phase [] n = omega arith
touches_counted phase (t ∷ ts) n =
    let one = touched_once phase t n in
    let more = touches_counted phase ts (with_touch phase t n) in
    omega (arith, one, more)

store_same : (phase : Phase) (o : Option Stored) (n : Counts) → ((with_store phase o n).hits ≡ n.hits) × ((with_store phase o n).misses ≡ n.misses)
store_same phase None n = (refl, refl)
store_same phase (Some s) n = (refl, refl)

some_touched : (rule : ReplacementRule) (size : ℕ) (tasks : List Task) (stored : Option Stored) (line : ℕ) (fetched : Touched) (o : Option Access) →
    1 ≤ length (issued_with rule size tasks stored line fetched o).touches
some_touched rule size tasks stored line fetched None = omega arith
some_touched rule size tasks stored line fetched (Some a) = omega arith

-- it traps, or is counted
issue_shows : (rule : ReplacementRule) (p : Setup) (now k : ℕ) (i : Interval) (a : Attempt) (w : Work) (c : CoreState) (n : Counts) →
    (core_issue rule p now k i a w c n).trapped ≡ None →
    n.hits + n.misses + 1 ≤ (core_issue rule p now k i a w c n).counts.hits + (core_issue rule p now k i a w c n).counts.misses
issue_shows rule p now k i (Traps cause) w c n none = absurd (cc)
issue_shows rule p now k i (Executes instr e) w c n none =
    let issued = issued_by rule p k e w in
    let line = (task_in w k).pc / p.plant.line in
    let some : 1 ≤ length issued.touches =
    some_touched rule p.plant.line (slice_set w.tasks k (task_after (record_of p k) e (task_in w k))) e.stored line
    (touch_of rule w.cache line w.memory) e.access in
    let touches = touches_counted (phase_in w k) issued.touches n in
    let store = store_same (phase_in w k) e.stored (with_touches (phase_in w k) issued.touches n) in
    omega (arith, some, touches, store.0, store.1)

-- ---- a cycle that only counts

went : (j : MachineState) → j.trapped ≡ None → ticked j ≡ next_cycle j
went j none = ap (λ o. cond (is_some o) j (next_cycle j)) none

-- what is known of a dull cycle whose move is this
pub record Moved (rule : ReplacementRule) (p : Setup) (a : Arrivals) (b : Turned) (m : CoreMove) (s t : MachineState) : Type 0 where
  pub untrapped : (turn_by rule p a b m s).trapped ≡ None
  pub behind : t ≡ settle (turn_by rule p a b m s).core.mode (with_now (turn_by rule p a b m s) (s.now + 1))
  pub counted : Counted s t

pub moved_is : (rule : ReplacementRule) (p : Setup) (a : Arrivals) (b : Turned) (s : MachineState) → s.trapped ≡ None → OnlyCounts s (cycle_with rule p a b s) →
    Moved rule p a b (move_at p b s) s (cycle_with rule p a b s)
moved_is rule p a b s none d =
    let k = counted s (cycle_with rule p a b s) d in
    let trap : (core_at rule p b s).trapped ≡ None = sym (cycle_trapped rule p a b s) ∙ k.trapped ∙ none in
    record { untrapped = trap; behind = went (turn_by rule p a b (move_at p b s) s) trap; counted = k }

-- no instruction issues
not_issued : (rule : ReplacementRule) (p : Setup) (a : Arrivals) (b : Turned) (k : ℕ) (i : Interval) (s t : MachineState) → Moved rule p a b (Issues k i) s t → ⊥
not_issued rule p a b k i s t m =
    let j = turn_by rule p a b (Issues k i) s in
    let shows = issue_shows rule p s.now k i (attempt_behind rule p k (with_memory b.memory s.work)) (with_memory b.memory s.work) s.core (with_clash b.turn.clash s.log.counts) m.untrapped in
    let kept = keeps j.core.mode (with_now j (s.now + 1)) in
    let hits = ap (λ (x : MachineState). x.log.counts.hits) m.behind ∙ kept.hits in
    let misses = ap (λ (x : MachineState). x.log.counts.misses) m.behind ∙ kept.misses in
    absurd (omega (arith, shows, hits, misses, m.counted.hits, m.counted.misses))

-- where the core's own state passes on
abbrev joint_of : Arrivals → Turned → CoreState → MachineState → MachineState
joint_of a b c s = record {
  now = s.now + 1;
  work = with_memory b.memory s.work;
  sched = s.sched;
  core = c;
  gates = b.gates;
  log = record {
    intervals = s.log.intervals;
    transfers = with_last b.turn.ended s.log.transfers;
    dropped = a.dropped;
    counts = with_clash b.turn.clash s.log.counts;
  };
  trapped = None;
}

pub passes_debt : (rule : ReplacementRule) (p : Setup) (a : Arrivals) (b : Turned) (c : CoreState) (s t : MachineState) → Moved rule p a b (Passes c) s t → t.core.debt ≡ c.debt
passes_debt rule p a b c s t m = ap (λ (x : MachineState). x.core.debt) m.behind ∙ (keeps c.mode (joint_of a b c s)).debt

passes_window : (rule : ReplacementRule) (p : Setup) (a : Arrivals) (b : Turned) (c : CoreState) (s t : MachineState) → Moved rule p a b (Passes c) s t → t.core.window ≡ c.window
passes_window rule p a b c s t m = ap (λ (x : MachineState). x.core.window) m.behind ∙ (keeps c.mode (joint_of a b c s)).window

-- to a scheduling point only a core comes that stood there
not_point : (s t : MachineState) → Counted s t → t.core.mode ≡ Point → s.core.mode ≡ Point
not_point s t k e = by_mode s.core.mode (sym e ∙ k.mode ∙ ap (λ m. with_switch (switch_left m) s.core.mode) e) where
  by_mode : (m : Mode) → Point ≡ with_switch 0 m → m ≡ Point
  by_mode Point e = refl
  by_mode (Switching k left) e = absurd (cc)
  by_mode (Running k) e = absurd (cc)
  by_mode (Idle until) e = absurd (cc)

-- idle time isn't over
idle_goes_on : (rule : ReplacementRule) (p : Setup) (a : Arrivals) (b : Turned) (c : CoreState) (s t : MachineState) (until : ℕ) → Moved rule p a b (Passes c) s t → c.mode ≡ Idle until →
    s.core.mode ≡ Idle until → 1 ≤ until - (s.now + 1)
idle_goes_on rule p a b c s t until m is here = by_time (nat_lt (s.now + 1) until) refl where
  over : nat_lt (s.now + 1) until ≡ false → s.core.mode ≡ Point
  over e =
      let j = joint_of a b c s in
      let point : t.core.mode ≡ Point =
      ap (λ (x : MachineState). x.core.mode) m.behind ∙ ap (λ k. (settle k j).core.mode) is ∙ ap (λ x. (cond x j (record j { core = at_point j.core })).core.mode) e in
      not_point s t m.counted point

  by_time : (x : Bool) → nat_lt (s.now + 1) until ≡ x → 1 ≤ until - (s.now + 1)
  by_time true e = grind (arith, nat_tests)
  by_time false e = let f = over e in absurd (cc)

-- nor is an interval that is paid
interval_goes_on : (rule : ReplacementRule) (p : Setup) (a : Arrivals) (b : Turned) (c : CoreState) (s t : MachineState) (k : ℕ) → Moved rule p a b (Passes c) s t → c.mode ≡ Running k →
    s.core.mode ≡ Running k → is_paid c.debt ≡ true → ends_before (s.now + 1) c.interval c.mark ≡ true → ⊥
interval_goes_on rule p a b c s t k m is here paid ends =
    let j = joint_of a b c s in
    let both : (is_paid c.debt && ends_before (s.now + 1) c.interval c.mark) ≡ true = rw paid ends in
    let point : t.core.mode ≡ Point =
    ap (λ (x : MachineState). x.core.mode) m.behind ∙ ap (λ x. (settle x j).core.mode) is ∙ ap (λ x. (cond x (close_interval k j) j).core.mode) both in
    let f = not_point s t m.counted point in
    absurd (cc)

-- ---- the core's part rests: it wants the bus

-- a transaction isn't paid, and none begins
paid_shows : (m : Transaction) (ns : List Transaction) (begun : Bool) (cost : ℕ) (q : Debt) → q ≡ paid_on_bus (m ∷ ns) (record { transactions = m ∷ ns; begun = begun; cost = cost }) → q.begun ≡ begun →
    q.transactions ≡ with_transaction (transaction_left q.begun q.transactions) begun (m ∷ ns) → (begun ≡ true) × (1 ≤ m.cycles - 1)
paid_shows m ns begun cost q is same left = by_last begun (nat_le m.cycles 1) refl is same left where
  by_last : (begun x : Bool) → nat_le m.cycles 1 ≡ x → q ≡ paid_on_bus (m ∷ ns) (record { transactions = m ∷ ns; begun = begun; cost = cost }) → q.begun ≡ begun →
      q.transactions ≡ with_transaction (transaction_left q.begun q.transactions) begun (m ∷ ns) → (begun ≡ true) × (1 ≤ m.cycles - 1)
  by_last true true last is same left =
      let e : q.begun ≡ false = ap (λ (x : Debt). x.begun) is ∙ rw last refl in absurd (cc)
  by_last true false last is same left = (refl, grind (arith, nat_tests))
  by_last false true last is same left =
      let e : q.transactions ≡ ns = ap (λ (x : Debt). x.transactions) is ∙ rw last refl in
      let n = ap length (sym e ∙ left) in absurd (omega (arith, n))
  by_last false false last is same left =
      let e : q.begun ≡ true = ap (λ (x : Debt). x.begun) is ∙ rw last refl in absurd (cc)

pub move_wanting : (p : Setup) (b : Turned) (s : MachineState) → wants (want_of s.core.debt) ≡ true → move_at p b s ≡ Passes (core_pay b.turn.core s.core)
move_wanting p b s is = rw is refl

move_free : (p : Setup) (b : Turned) (s : MachineState) → wants (want_of s.core.debt) ≡ false →
    move_at p b s ≡ move_in p s.now s.sched (with_memory b.memory s.work) s.core s.core.mode
move_free p b s is = rw is refl

pub moved_as : (rule : ReplacementRule) (p : Setup) (a : Arrivals) (b : Turned) (m m' : CoreMove) (s t : MachineState) → m ≡ m' → Moved rule p a b m s t → Moved rule p a b m' s t
moved_as rule p a b m m' s t e h = let P : CoreMove → Type 0 = λ x. Moved rule p a b x s t in subst P e h

pay_mode : (had : Bool) (c : CoreState) → (core_pay had c).mode ≡ c.mode
pay_mode true c = refl
pay_mode false c = refl

-- a core that wants to begin a transaction and has the bus does begin it
pub new_shows : (begun : Bool) (ns : List Transaction) (c : CoreState) (q : Debt) → want_by begun ns ≡ New → q ≡ paid_on_bus ns (record { transactions = ns; begun = begun; cost = c.debt.cost }) →
    q.begun ≡ begun → q.transactions ≡ with_transaction (transaction_left q.begun q.transactions) begun ns → ⊥
new_shows begun [] c q new is same left = cc
new_shows true (m ∷ ns) c q new is same left = cc
new_shows false (m ∷ ns) c q new is same left = let e = (paid_shows m ns false c.debt.cost q is same left).0 in cc

-- one that has begun goes on
held_shows : (begun : Bool) (ns : List Transaction) (c : CoreState) (q : Debt) → (want_by begun ns ≡ Held → q ≡ paid_on_bus ns (record { transactions = ns; begun = begun; cost = c.debt.cost })) →
    q.begun ≡ begun → q.transactions ≡ with_transaction (transaction_left q.begun q.transactions) begun ns → Within 1 (bus_rest begun ns)
held_shows begun [] c q is same left = tt
held_shows false (m ∷ ns) c q is same left = tt
held_shows true (m ∷ ns) c q is same left = (paid_shows m ns true c.debt.cost q (is refl) same left).1

idle_shows : (mode : Mode) (now : ℕ) → ((until : ℕ) → mode ≡ Idle until → 1 ≤ until - (now + 1)) → Within 1 (idle_rest now mode)
idle_shows Point now h = tt
idle_shows (Switching k left) now h = tt
idle_shows (Running k) now h = tt
idle_shows (Idle until) now h = h until refl

wanting_rests : (rule : ReplacementRule) (p : Setup) (a : Arrivals) (b : Turned) (s t : MachineState) → Moved rule p a b (Passes (core_pay b.turn.core s.core)) s t →
    (want_of s.core.debt ≡ Held → b.turn.core ≡ true) → Within 1 (lesser (bus_rest s.core.debt.begun s.core.debt.transactions) (idle_rest s.now s.core.mode))
wanting_rests rule p a b s t m has =
    let c = core_pay b.turn.core s.core in
    let debt = passes_debt rule p a b c s t m in
    both_within 1 (bus_rest s.core.debt.begun s.core.debt.transactions) (idle_rest s.now s.core.mode)
    (held_shows s.core.debt.begun s.core.debt.transactions s.core t.core.debt (λ held. debt ∙ ap (λ had. (core_pay had s.core).debt) (has held)) m.counted.begun m.counted.transactions)
    (idle_shows s.core.mode s.now (λ until here. idle_goes_on rule p a b c s t until m (pay_mode b.turn.core s.core ∙ here) here))

-- ---- the core's part rests: it doesn't

paid_at : (c : CoreState) → is_empty c.debt.transactions ≡ true → c.debt.cost ≡ 0 → is_paid c.debt ≡ true
paid_at c none is = let z : (c.debt.cost == 0) ≡ true = grind (arith, nat_tests) in rw none z

by_end : (rule : ReplacementRule) (p : Setup) (a : Arrivals) (b : Turned) (s t : MachineState) (k : ℕ) → s.core.mode ≡ Running k → is_paid s.core.debt ≡ true → s.core.mark ≡ End →
    Moved rule p a b (Passes s.core) s t → (x : Bool) → nat_le (s.core.interval.first + s.core.interval.stated) (s.now + 1) ≡ x → 1 ≤ s.core.interval.first + s.core.interval.stated - (s.now + 1)
by_end rule p a b s t k here paid e m true is = absurd (interval_goes_on rule p a b s.core s t k m here here paid (ap (ends_before (s.now + 1) s.core.interval) e ∙ is))
by_end rule p a b s t k here paid e m false is = grind (arith, nat_tests)

running_rests : (rule : ReplacementRule) (p : Setup) (a : Arrivals) (b : Turned) (s t : MachineState) (k cost : ℕ) (mark : Change) → s.core.mode ≡ Running k → s.core.debt.cost ≡ cost →
    s.core.mark ≡ mark → is_empty s.core.debt.transactions ≡ true → StaysAbove s.core.debt.cost t.core.debt.cost → Moved rule p a b (move_running s.core k cost mark) s t →
    1 ≤ running_rest s.now s.core.interval cost mark
running_rests rule p a b s t k (suc cost) mark here is e none above m =
    let c = with_cost s.core cost in
    let left : t.core.debt.cost ≡ cost = ap (λ (d : Debt). d.cost) (passes_debt rule p a b c s t m) in
    let differs : t.core.debt.cost ≢ s.core.debt.cost = λ same. absurd (omega (arith, left, is, same)) in
    omega (arith, above differs, left)
running_rests rule p a b s t k zero Stay here is e none above m = absurd (not_issued rule p a b k s.core.interval s t m)
running_rests rule p a b s t k zero (Execute stated) here is e none above m = absurd (not_issued rule p a b k s.core.interval s t m)
running_rests rule p a b s t k zero Memory here is e none above m =
    absurd (interval_goes_on rule p a b s.core s t k m here here (paid_at s.core none is) (ap (ends_before (s.now + 1) s.core.interval) e))
running_rests rule p a b s t k zero Job here is e none above m =
    absurd (interval_goes_on rule p a b s.core s t k m here here (paid_at s.core none is) (ap (ends_before (s.now + 1) s.core.interval) e))
running_rests rule p a b s t k zero End here is e none above m =
    by_end rule p a b s t k here (paid_at s.core none is) e m (nat_le (s.core.interval.first + s.core.interval.stated) (s.now + 1)) refl

switch_rests : (rule : ReplacementRule) (p : Setup) (a : Arrivals) (b : Turned) (s t : MachineState) (k left : ℕ) → s.core.mode ≡ Switching k left →
    StaysAbove (switch_left s.core.mode) (switch_left t.core.mode) → Moved rule p a b (begin_switch s.now (with_memory b.memory s.work) s.core k left) s t → 1 ≤ left - 1
switch_rests rule p a b s t k zero here above m = absurd (not_issued rule p a b k _ s t m)
switch_rests rule p a b s t k (suc left) here above m =
    let mode : t.core.mode ≡ Switching k left = ap (λ (x : MachineState). x.core.mode) m.behind in
    let more : switch_left t.core.mode ≡ left = ap switch_left mode in
    let was : switch_left s.core.mode ≡ suc left = ap switch_left here in
    let differs : switch_left t.core.mode ≢ switch_left s.core.mode = λ same. absurd (omega (arith, more, was, same)) in
    omega (arith, above differs, more)

chosen_switch : (rule : ReplacementRule) (p : Setup) (a : Arrivals) (b : Turned) (s t : MachineState) (k switch : ℕ) → s.core.mode ≡ Point →
    Moved rule p a b (begin_switch s.now (with_memory b.memory s.work) s.core k switch) s t → ⊥
chosen_switch rule p a b s t k zero here m = not_issued rule p a b k _ s t m
chosen_switch rule p a b s t k (suc left) here m =
    let mode : t.core.mode ≡ Switching k left = ap (λ (x : MachineState). x.core.mode) m.behind in
    let e : Switching k left ≡ Point = sym mode ∙ m.counted.mode ∙ ap (with_switch (switch_left t.core.mode)) here in
    cc

rest_until : (o l : Option ℕ) (until : ℕ) → run_or o (rest l) ≡ Rest until → l ≡ Some until
rest_until (Some k) l until e = absurd (cc)
rest_until None None until e = absurd (cc)
rest_until None (Some u) until e = ap Some (until_in e) where
  until_of : Choice → ℕ
  until_of (Run k) = 0
  until_of (Rest v) = v
  until_of Finished = 0

  until_in : Rest u ≡ Rest until → u ≡ until
  until_in e = ap until_of e

point_moves : (rule : ReplacementRule) (p : Setup) (requests : List Request) (a : Arrivals) (b : Turned) (s t : MachineState) (ch : Choice) → IsSteady requests s → s.core.mode ≡ Point →
    choice s.now s.sched ≡ ch → Moved rule p a b (move_chosen p.plant.switch s.now (with_memory b.memory s.work) s.core ch) s t → ⊥
point_moves rule p requests a b s t (Run k) h here is m = chosen_switch rule p a b s t k p.plant.switch here m
point_moves rule p requests a b s t (Rest until) h here is m =
    let window : t.core.window ≡ record { start = s.now + 1; close = until } = passes_window rule p a b (begin_idle s.now until s.core) s t m in
    let close : until ≡ s.core.window.close = ap (λ (w : Window). w.close) (sym window ∙ m.counted.window) in
    let least = rest_until (first_ready s.now 0 s.sched) (least_release s.now s.sched) until is in
    let later : s.now < until = ap_before least (least_later s.now s.sched h.periods) in
    absurd (omega (arith, close, later, h.closed here)) where
      ap_before : least_release s.now s.sched ≡ Some until → Before s.now (least_release s.now s.sched) → s.now < until
      ap_before e before = subst (Before s.now) e before
point_moves rule p requests a b s t Finished h here is m =
    let done : is_finished s ≡ true = ap (is_finished_in s.now s.sched) here ∙ ap is_finish is in
    over_not (is_finished s) (is_some s.trapped) (is_full s) done h.going where
      over_not : (x y z : Bool) → x ≡ true → ((x || y) || z) ≡ false → ⊥
      over_not true y z e f = cc
      over_not false y z e f = cc

mode_rests : (rule : ReplacementRule) (p : Setup) (requests : List Request) (a : Arrivals) (b : Turned) (s t : MachineState) (mode : Mode) → IsSteady requests s → s.core.mode ≡ mode →
    is_empty s.core.debt.transactions ≡ true → OnlyCounts s t → Moved rule p a b (move_in p s.now s.sched (with_memory b.memory s.work) s.core mode) s t → Within 1 (mode_rest s.now s.core mode)
mode_rests rule p requests a b s t Point h here none d m = absurd (point_moves rule p requests a b s t (choice s.now s.sched) h here refl m)
mode_rests rule p requests a b s t (Switching k left) h here none d m = switch_rests rule p a b s t k left here d.switch m
mode_rests rule p requests a b s t (Running k) h here none d m = running_rests rule p a b s t k s.core.debt.cost s.core.mark here refl refl none d.cost m
mode_rests rule p requests a b s t (Idle until) h here none d m = idle_goes_on rule p a b s.core s t until m here here

nothing_owed : (begun : Bool) (ns : List Transaction) → wants (want_by begun ns) ≡ false → is_empty ns ≡ true
nothing_owed begun [] e = refl
nothing_owed false (n ∷ ns) e = absurd (cc)
nothing_owed true (n ∷ ns) e = absurd (cc)

pub core_rests_by : (rule : ReplacementRule) (p : Setup) (requests : List Request) (a : Arrivals) (b : Turned) (s : MachineState) (x : Bool) → wants (want_of s.core.debt) ≡ x → IsSteady requests s →
    (want_of s.core.debt ≡ Held → b.turn.core ≡ true) → OnlyCounts s (cycle_with rule p a b s) → Within 1 (core_rest s.now s.core)
core_rests_by rule p requests a b s true is h has d =
    let t = cycle_with rule p a b s in
    let m = moved_as rule p a b (move_at p b s) (Passes (core_pay b.turn.core s.core)) s t (move_wanting p b s is) (moved_is rule p a b s (goes_untrapped s h.going) d) in
    rw is (wanting_rests rule p a b s t m has)
core_rests_by rule p requests a b s false is h has d =
    let t = cycle_with rule p a b s in
    let m = moved_as rule p a b (move_at p b s) (move_in p s.now s.sched (with_memory b.memory s.work) s.core s.core.mode) s t (move_free p b s is)
    (moved_is rule p a b s (goes_untrapped s h.going) d) in
    rw is (mode_rests rule p requests a b s t s.core.mode h refl (nothing_owed s.core.debt.begun s.core.debt.transactions is) d m)
