-- A cycle behind so many cycles of rest, and what all of them come to.
use Rattle.std.proofs.Common.{All, ◌≡◌, ◌≢◌, ℕ, zero, suc, ◌+◌, ◌-◌, ◌≤◌, Bool, true, false, List, [], ◌∷◌, Option, Some, None, refl, ap, sym, ◌∙◌, subst, arith, length}
use Rattle.std.specs.Prelude.{is_some, ◌||◌, ◌==◌, if◌then◌else◌}
use Rattle.prem_cycle.proofs.Prelude.{want_of, with_cost, with_debt, CoreMove, Passes, core_turn, Arrivals, arrivals, arrivals_at, bus_at, with_memory, with_clash, move_at, joined, ticked}
use Rattle.prem_cycle.proofs.Prelude.{cycle_of, is_over, is_finish, is_finished, is_finished_in, is_full, step_of, one_if, cycles_of, transaction_left, switch_left, with_transaction}
use Rattle.prem_cycle.proofs.Prelude.{with_switch, OnlyCounts, AreDull, bus_rest, idle_rest, running_rest, mode_rest, core_rest, Within, transactions_passed, mode_passed, core_passed}
use Rattle.prem_cycle.proofs.Prelude.{bus_passed, passed, Rests, IsSteady, Setup, Transaction, Work, CoreState, Log, MachineState, Mode, Point, Switching, Running, Idle, quiet_turn, quiet_memory}
use Rattle.prem_cycle.proofs.Prelude.{quiet_gates, quiet_free, GatesState, Turned, bus_turn, wants, AreQuiet, OnlyGoesOn, StaysAbove, lesser, bus_run, changes, CoreWant, Transfer, Window}
use Rattle.prem_cycle.proofs.Prelude.{Request, with_last, Change, ReplacementRule, least_none, choice_done, choice, first_ready, least_release, rest, run_or, TaskJobs, nat_tests}
use Rattle.prem_cycle.proofs.RunLaws.{step_of-goes}
use Rattle.prem_cycle.proofs.RunsLemmas.DullLemmas.Steps.{within_less, within_both, passed_by, passed_is, want_passed, window_passed, move_next, settle_stays}
use Rattle.prem_cycle.proofs.Time.{goes_untrapped}
use Rattle.prem_cycle.specs.declared.state.Trap.{Trap}

-- ---- arrivals

pub none_arrives : (now : ℕ) (requests : List Request) (a : Arrivals) → All (λ r. r.cycle ≢ now) requests → arrivals now requests a ≡ a
none_arrives now [] a h = refl
none_arrives now (r ∷ rs) a h =
    let here : r.cycle ≢ now = h 0 r (omega arith) in
    let test : (r.cycle == now) ≡ false = grind (arith, nat_tests) in
    rw test (none_arrives now rs a (λ k d lt. h (suc k) d (omega (arith, lt))))

-- ---- states by their parts

abbrev pub state_with : ℕ → Work → List TaskJobs → CoreState → GatesState → Log → Option Trap → MachineState
state_with n w j c g l t = record { now = n; work = w; sched = j; core = c; gates = g; log = l; trapped = t }

same_state : (n n' : ℕ) (w w' : Work) (j : List TaskJobs) (c : CoreState) (g : GatesState) (l l' : Log) (t t' : Option Trap) →
    n ≡ n' → w ≡ w' → l ≡ l' → t ≡ t' → state_with n w j c g l t ≡ state_with n' w' j c g l' t'
same_state n n' w w' j c g l l' t t' p0 p1 p2 p3 =
    ap (λ x. state_with x w j c g l t) p0 ∙ ap (λ x. state_with n' x j c g l t) p1 ∙ ap (λ x. state_with n' w' j c g x t) p2
    ∙ ap (λ x. state_with n' w' j c g l' x) p3

-- the log behind a cycle of the bus that ended this, with so many clashes
abbrev log_with : Log → Option Transfer → ℕ → Log
log_with log ended clashes =
    record {
      intervals = log.intervals;
      transfers = with_last ended log.transfers;
      dropped = log.dropped;
      counts = record log.counts { clashes = clashes };
    }

abbrev pub made : ReplacementRule → Setup → MachineState → Arrivals → Turned → CoreMove → MachineState
made rule p t a b m =
    ticked (joined a b (core_turn rule p t.now m (with_memory b.memory t.work) t.core (with_clash b.turn.clash t.log.counts)) t)

clash_added : (clash : Bool) (k m : ℕ) → k + m + one_if clash ≡ k + (m + (if clash then 1 else 0))
clash_added true k m = omega arith
clash_added false k m = omega arith

-- ---- one more cycle

quiet_behind : (n : ℕ) (requests : List Request) (s : MachineState) → Rests (suc n) requests s →
    changes (s.now + n) s.core.window (want_of s.core.debt) (bus_passed n s).gates (bus_passed n s).memory ≡ false
quiet_behind n requests s rest = rest.gates n s.work.memory (omega arith)

less_quiet : (m n now : ℕ) (w : Window) (core : CoreWant) (g : GatesState) → m ≤ n → AreQuiet n now w core g → AreQuiet m now w core g
less_quiet m n now w core g le quiet = λ k memory lt. quiet k memory (omega (arith, le, lt))

pub fewer_rest : (m n : ℕ) (requests : List Request) (s : MachineState) → m ≤ n → Rests n requests s → Rests m requests s
fewer_rest m n requests s le h =
    record {
      arrivals = λ k d lt j less. h.arrivals k d lt j (omega (arith, le, less));
      gates = less_quiet m n s.now s.core.window (want_of s.core.debt) s.gates le h.gates;
      core = within_less m n (core_rest s.now s.core) le h.core;
    }

turn_behind : (n : ℕ) (requests : List Request) (s : MachineState) → IsSteady requests s → Rests (suc n) requests s →
    OnlyGoesOn (want_of s.core.debt) (bus_passed n s).gates (bus_passed n s).memory
    (bus_turn (s.now + n) s.core.window (want_of s.core.debt) (bus_passed n s).gates (bus_passed n s).memory)
turn_behind n requests s steady rest =
    let before = fewer_rest n (suc n) requests s (omega arith) rest in
    quiet_turn (s.now + n) s.core.window (want_of s.core.debt) (bus_passed n s).gates (bus_passed n s).memory
    (λ held. quiet_free n s.now s.core.window (want_of s.core.debt) s.gates s.work.memory before.gates (steady.free held))
    (quiet_behind n requests s rest)

cycle_next : (rule : ReplacementRule) (p : Setup) (requests : List Request) (n : ℕ) (s : MachineState) → IsSteady requests s → Rests (suc n) requests s →
    cycle_of rule p requests (passed n s) ≡ passed (suc n) s
unfolding bus_run
cycle_next rule p requests n s steady rest =
    let t = passed n s in
    let r = bus_passed n s in
    let want = want_of s.core.debt in
    let a : Arrivals = record { gates = r.gates; dropped = s.log.dropped } in
    let b : Turned = bus_turn (s.now + n) s.core.window want r.gates r.memory in
    let before = fewer_rest n (suc n) requests s (omega arith) rest in
    let goes : OnlyGoesOn want r.gates r.memory b = turn_behind n requests s steady rest in
    let arrive : arrivals_at requests t ≡ a = none_arrives (s.now + n) requests a (λ k d lt. rest.arrivals k d lt n (omega arith)) in
    let memory : r.memory ≡ s.work.memory = quiet_memory n s.now s.core.window want s.gates s.work.memory steady.free before.gates in
    let bus : bus_at r.gates t ≡ b =
    ap (λ w. bus_turn (s.now + n) w (want_of t.core.debt) r.gates s.work.memory) (window_passed n s.core)
    ∙ ap (λ k. bus_turn (s.now + n) s.core.window k r.gates s.work.memory) (want_passed n s.core)
    ∙ ap (bus_turn (s.now + n) s.core.window want r.gates) (sym memory) in
    let move : move_at p b t ≡ Passes (core_passed (suc n) s.core) =
    move_next p s.now n b.turn.core s.sched (with_memory b.memory s.work) s.core goes.core_has rest.core in
    let joint : MachineState = state_with (s.now + n + 1) (with_memory b.memory s.work) s.sched (core_passed (suc n) s.core) b.gates
    (log_with s.log b.turn.ended (s.log.counts.clashes + r.clashes + one_if b.turn.clash)) None in
    let e : s.now + n + 1 ≡ s.now + suc n = omega arith in
    ap (λ (x : Arrivals). made rule p t x (bus_at x.gates t) (move_at p (bus_at x.gates t) t)) arrive
    ∙ ap (λ (x : Turned). made rule p t a x (move_at p x t)) bus
    ∙ ap (made rule p t a b) move
    ∙ settle_stays s.now n s.core joint rest.core refl e
    ∙ same_state (s.now + n + 1) (s.now + suc n) (with_memory b.memory s.work) s.work s.sched (core_passed (suc n) s.core) b.gates
    (log_with s.log b.turn.ended (s.log.counts.clashes + r.clashes + one_if b.turn.clash)) (passed (suc n) s).log None s.trapped
    e (ap (λ m. with_memory m s.work) (goes.memory_same ∙ memory))
    (ap (λ o. log_with s.log o (s.log.counts.clashes + r.clashes + one_if b.turn.clash)) goes.ended
    ∙ ap (log_with s.log None) (clash_added b.turn.clash s.log.counts.clashes r.clashes))
    (sym (goes_untrapped s steady.going))

-- ---- it isn't over

pub finished_none : (o l : Option ℕ) → is_finish (run_or o (rest l)) ≡ true → l ≡ None
finished_none (Some k) l e = absurd (cc)
finished_none None None e = refl
finished_none None (Some u) e = absurd (cc)

-- whether all jobs have ended doesn't depend on time
finish_later : (t u : ℕ) (sched : List TaskJobs) (b : Bool) → is_finish (choice t sched) ≡ false → is_finish (choice u sched) ≡ b → is_finish (choice u sched) ≡ false
finish_later t u sched false h e = e
finish_later t u sched true h e =
    let none = finished_none (first_ready u 0 sched) (least_release u sched) e in
    let done = choice_done t sched (least_none u sched none) in
    let f : is_finish (choice t sched) ≡ true = ap is_finish done in
    absurd (cc)

finished_later : (t u : ℕ) (sched : List TaskJobs) (mode : Mode) → is_finished_in t sched mode ≡ false → is_finished_in u sched mode ≡ false
finished_later t u sched Point h = finish_later t u sched (is_finish (choice u sched)) h refl
finished_later t u sched (Switching k left) h = refl
finished_later t u sched (Running k) h = refl
finished_later t u sched (Idle until) h = refl

-- nor on how much is left of a switch
finished_mode : (u : ℕ) (sched : List TaskJobs) (n : ℕ) (c : CoreState) (mode : Mode) → c.mode ≡ mode → is_finished_in u sched (mode_passed n c mode).mode ≡ is_finished_in u sched mode
finished_mode u sched n c Point is = ap (is_finished_in u sched) is
finished_mode u sched n c (Switching k left) is = refl
finished_mode u sched n c (Running k) is = ap (is_finished_in u sched) is
finished_mode u sched n c (Idle until) is = ap (is_finished_in u sched) is

finished_by : (u : ℕ) (sched : List TaskJobs) (n : ℕ) (c : CoreState) (b : Bool) → is_finished_in u sched (passed_by b n c).mode ≡ is_finished_in u sched c.mode
finished_by u sched n c true = refl
finished_by u sched n c false = finished_mode u sched n c c.mode refl

first_false : (a b d : Bool) → ((a || b) || d) ≡ false → a ≡ false
first_false true b d e = absurd (cc)
first_false false b d e = refl

other_first : (a a' b d : Bool) → a' ≡ false → ((a || b) || d) ≡ false → ((a' || b) || d) ≡ false
other_first true false b d e h = absurd (cc)
other_first false false b d e h = h
other_first a true b d e h = absurd (cc)

going_later : (n : ℕ) (s : MachineState) → is_over s ≡ false → is_over (passed n s) ≡ false
going_later n s h =
    let b = wants (want_of s.core.debt) in
    let not : is_finished (passed n s) ≡ false =
    ap (λ (x : CoreState). is_finished_in (s.now + n) s.sched x.mode) (passed_is b n s.core refl) ∙ finished_by (s.now + n) s.sched n s.core b
    ∙ finished_later s.now (s.now + n) s.sched s.core.mode (first_false (is_finished s) (is_some s.trapped) (is_full s) h) in
    other_first (is_finished s) (is_finished (passed n s)) (is_some s.trapped) (is_full s) not h

point_mode : (n : ℕ) (c : CoreState) (mode : Mode) → c.mode ≡ mode → (mode_passed n c mode).mode ≡ Point → c.mode ≡ Point
point_mode n c Point is e = is
point_mode n c (Switching k left) is e = absurd (cc)
point_mode n c (Running k) is e = e
point_mode n c (Idle until) is e = e

point_by : (n : ℕ) (c : CoreState) (b : Bool) → (passed_by b n c).mode ≡ Point → c.mode ≡ Point
point_by n c true e = e
point_by n c false e = point_mode n c c.mode refl e

pub steady_later : (n : ℕ) (requests : List Request) (s : MachineState) → IsSteady requests s → Rests n requests s → IsSteady requests (passed n s)
steady_later n requests s h rest =
    let b = wants (want_of s.core.debt) in
    let want = want_of s.core.debt in
    let same : (bus_passed n s).gates.gates ≡ s.gates.gates = quiet_gates n s.now s.core.window want s.gates s.work.memory rest.gates in
    record {
      going = going_later n s h.going;
      free = λ held. quiet_free n s.now s.core.window want s.gates s.work.memory rest.gates (h.free (sym (want_passed n s.core) ∙ held));
      closed = λ point.
          let here : s.core.mode ≡ Point = point_by n s.core b (ap (λ (x : CoreState). x.mode) (sym (passed_is b n s.core refl)) ∙ point) in
          omega (arith, h.closed here, ap (λ (w : Window). w.close) (window_passed n s.core));
      periods = h.periods;
      devices = λ k d lt. omega (arith, h.devices k d lt, ap length same);
      dropped = omega (arith, h.dropped, ap length same);
    }

-- ---- one step

pub zero_transactions : (begun : Bool) (ns : List Transaction) → transactions_passed 0 begun ns ≡ ns
zero_transactions begun [] = refl
zero_transactions false (m ∷ ns) = refl
zero_transactions true (m ∷ ns) = let e : m.cycles - 0 ≡ m.cycles = omega arith in ap (λ k. record m { cycles = k } ∷ ns) e

pub zero_mode : (c : CoreState) (mode : Mode) → c.mode ≡ mode → mode_passed 0 c mode ≡ c
zero_mode c Point is = refl
zero_mode c (Switching k left) is =
    let e : left - 0 ≡ left = omega arith in
    ap (λ x. record c { mode = Switching k x }) e ∙ ap (λ x. record c { mode = x }) (sym is)
zero_mode c (Running k) is = let e : c.debt.cost - 0 ≡ c.debt.cost = omega arith in ap (with_cost c) e
zero_mode c (Idle until) is = refl

pub zero_by : (c : CoreState) (b : Bool) → passed_by b 0 c ≡ c
zero_by c true = ap (λ ns. with_debt c (record c.debt { transactions = ns })) (zero_transactions c.debt.begun c.debt.transactions)
zero_by c false = zero_mode c c.mode refl

zero_passed : (s : MachineState) → passed 0 s ≡ s
unfolding bus_run
zero_passed s =
    let b = wants (want_of s.core.debt) in
    let n : s.now + 0 ≡ s.now = omega arith in
    let k : s.log.counts.clashes + 0 ≡ s.log.counts.clashes = omega arith in
    ap (λ c. state_with (s.now + 0) s.work s.sched c s.gates (record s.log { counts = record s.log.counts { clashes = s.log.counts.clashes + 0 } }) s.trapped)
    (passed_is b 0 s.core refl ∙ zero_by s.core b)
    ∙ same_state (s.now + 0) s.now s.work s.work s.sched s.core s.gates (record s.log { counts = record s.log.counts { clashes = s.log.counts.clashes + 0 } }) s.log s.trapped s.trapped
    n refl (ap (λ x. record s.log { counts = record s.log.counts { clashes = x } }) k) refl

pub one_step : (rule : ReplacementRule) (p : Setup) (requests : List Request) (n : ℕ) (s : MachineState) → IsSteady requests s → Rests n requests s →
    cycles_of rule p requests n s ≡ passed n s
unfolding cycles_of
one_step rule p requests zero s h rest = sym (zero_passed s)
one_step rule p requests (suc n) s h rest =
    let before = fewer_rest n (suc n) requests s (omega arith) rest in
    ap (step_of rule p requests) (one_step rule p requests n s h before)
    ∙ step_of-goes rule p requests (passed n s) (going_later n s h.going) ∙ cycle_next rule p requests n s h rest

-- ---- each of them is dull

same_transaction : (begun : Bool) (ns : List Transaction) → with_transaction (transaction_left begun ns) begun ns ≡ ns
same_transaction begun [] = refl
same_transaction false (m ∷ ns) = refl
same_transaction true (m ∷ ns) = refl

same_switch : (mode : Mode) → with_switch (switch_left mode) mode ≡ mode
same_switch Point = refl
same_switch (Switching k left) = refl
same_switch (Running k) = refl
same_switch (Idle until) = refl

more_transaction : (n : ℕ) (begun : Bool) (ns : List Transaction) →
    with_transaction (transaction_left begun (transactions_passed (suc n) begun ns)) begun (transactions_passed n begun ns) ≡ transactions_passed (suc n) begun ns
more_transaction n begun [] = refl
more_transaction n false (m ∷ ns) = refl
more_transaction n true (m ∷ ns) = refl

-- a core with other numbers
abbrev core_with : (transaction cost switch : ℕ) → CoreState → CoreState
core_with transaction cost switch c =
    record c {
      mode = with_switch switch c.mode;
      debt = record c.debt { transactions = with_transaction transaction c.debt.begun c.debt.transactions; cost = cost };
    }

abbrev core_counted : CoreState → CoreState → CoreState
core_counted old new = core_with (transaction_left new.debt.begun new.debt.transactions) new.debt.cost (switch_left new.mode) old

same_core : (c : CoreState) → c ≡ core_counted c c
same_core c =
    ap (λ m. record c { mode = m }) (sym (same_switch c.mode))
    ∙ ap (λ ns. record c { mode = with_switch (switch_left c.mode) c.mode; debt = record c.debt { transactions = ns } }) (sym (same_transaction c.debt.begun c.debt.transactions))

counted_mode : (n : ℕ) (c : CoreState) (mode : Mode) → c.mode ≡ mode → mode_passed (suc n) c mode ≡ core_counted (mode_passed n c mode) (mode_passed (suc n) c mode)
counted_mode n c Point is = same_core c
counted_mode n c (Switching k left) is =
    ap (λ ns. record c { mode = Switching k (left - suc n); debt = record c.debt { transactions = ns } }) (sym (same_transaction c.debt.begun c.debt.transactions))
counted_mode n c (Running k) is = same_core (with_cost c (c.debt.cost - suc n))
counted_mode n c (Idle until) is = same_core c

counted_by : (n : ℕ) (c : CoreState) (b : Bool) → passed_by b (suc n) c ≡ core_counted (passed_by b n c) (passed_by b (suc n) c)
counted_by n c true =
    ap (λ ns. with_debt c (record c.debt { transactions = ns })) (sym (more_transaction n c.debt.begun c.debt.transactions))
    ∙ ap (λ m. record c {
      mode = m;
      debt =
          record c.debt {
            transactions =
                with_transaction (transaction_left c.debt.begun (transactions_passed (suc n) c.debt.begun c.debt.transactions)) c.debt.begun
                (transactions_passed n c.debt.begun c.debt.transactions);
          };
    }) (sym (same_switch c.mode))
counted_by n c false = counted_mode n c c.mode refl

-- what is left stays above 0
transaction_above : (n : ℕ) (begun : Bool) (ns : List Transaction) → Within (suc n) (bus_rest begun ns) →
    StaysAbove (transaction_left begun (transactions_passed n begun ns)) (transaction_left begun (transactions_passed (suc n) begun ns))
transaction_above n begun [] h differs = absurd (differs refl)
transaction_above n false (m ∷ ns) h differs = absurd (differs refl)
transaction_above n true (m ∷ ns) h differs = omega (arith, h)

record CoreAbove (old new : CoreState) : Type 0 where
  transaction : StaysAbove (transaction_left old.debt.begun old.debt.transactions) (transaction_left new.debt.begun new.debt.transactions)
  cost : StaysAbove old.debt.cost new.debt.cost
  switch : StaysAbove (switch_left old.mode) (switch_left new.mode)

cost_above : (now n : ℕ) (c : CoreState) (cost : ℕ) (mark : Change) → c.debt.cost ≡ cost → suc n ≤ running_rest now c.interval cost mark → StaysAbove (c.debt.cost - n) (c.debt.cost - suc n)
cost_above now n c (suc cost) mark is h differs = omega (arith, is, h)
cost_above now n c zero mark is h differs = absurd (differs (omega (arith, is)))

mode_above : (now n : ℕ) (c : CoreState) (mode : Mode) → c.mode ≡ mode → Within (suc n) (mode_rest now c mode) → CoreAbove (mode_passed n c mode) (mode_passed (suc n) c mode)
mode_above now n c Point is h = absurd (omega (arith, h))
mode_above now n c (Switching k left) is h = record { transaction = λ differs. absurd (differs refl); cost = λ differs. absurd (differs refl); switch = λ differs. omega (arith, h) }
mode_above now n c (Running k) is h =
    record { transaction = λ differs. absurd (differs refl); cost = cost_above now n c c.debt.cost c.mark refl h; switch = λ differs. absurd (differs refl) }
mode_above now n c (Idle until) is h = record { transaction = λ differs. absurd (differs refl); cost = λ differs. absurd (differs refl); switch = λ differs. absurd (differs refl) }

above_by : (now n : ℕ) (c : CoreState) (b : Bool) → wants (want_of c.debt) ≡ b → Within (suc n) (core_rest now c) → CoreAbove (passed_by b n c) (passed_by b (suc n) c)
above_by now n c true is h =
    let both : Within (suc n) (lesser (bus_rest c.debt.begun c.debt.transactions) (idle_rest now c.mode)) = rw is at h in
    record {
      transaction = transaction_above n c.debt.begun c.debt.transactions (within_both (suc n) (bus_rest c.debt.begun c.debt.transactions) (idle_rest now c.mode) both).0;
      cost = λ differs. absurd (differs refl);
      switch = λ differs. absurd (differs refl);
    }
above_by now n c false is h =
    let alone : Within (suc n) (mode_rest now c c.mode) = rw is at h in
    mode_above now n c c.mode refl alone

dull_next : (requests : List Request) (n : ℕ) (s : MachineState) → IsSteady requests s → Rests (suc n) requests s → OnlyCounts (passed n s) (passed (suc n) s)
unfolding bus_run
dull_next requests n s h rest =
    let b = wants (want_of s.core.debt) in
    let goes = turn_behind n requests s h rest in
    let t = passed (suc n) s in
    let now = passed_is b n s.core refl in
    let next = passed_is b (suc n) s.core refl in
    let P : CoreState → Type 0 = λ x. CoreAbove x (passed_by b (suc n) s.core) in
    let Q : CoreState → Type 0 = λ x. CoreAbove (core_passed n s.core) x in
    let above : CoreAbove (core_passed n s.core) (core_passed (suc n) s.core) = subst Q (sym next) (subst P (sym now) (above_by s.now n s.core b refl rest.core)) in
    let core : core_passed (suc n) s.core ≡ core_counted (core_passed n s.core) (core_passed (suc n) s.core) =
    next ∙ counted_by n s.core b ∙ ap (λ x. core_counted x (passed_by b (suc n) s.core)) (sym now) ∙ ap (core_counted (core_passed n s.core)) (sym next) in
    record {
      same = ap (λ c. state_with t.now s.work s.sched c t.gates t.log s.trapped) core
          ∙ ap (λ g. state_with t.now s.work s.sched (core_counted (core_passed n s.core) (core_passed (suc n) s.core)) g t.log s.trapped) goes.gates;
      transfer = goes.above;
      transaction = above.transaction;
      cost = above.cost;
      switch = above.switch;
    }

pub rests_dull : (rule : ReplacementRule) (p : Setup) (requests : List Request) (n : ℕ) (s : MachineState) → IsSteady requests s → Rests n requests s → AreDull rule p requests n s
rests_dull rule p requests n s h rest m lt =
    let more = fewer_rest (suc m) n requests s (omega (arith, lt)) rest in
    let before = fewer_rest m n requests s (omega (arith, lt)) rest in
    let here = one_step rule p requests m s h before in
    let P : MachineState → Type 0 = λ x. OnlyCounts x (cycle_of rule p requests x) in
    let Q : MachineState → Type 0 = λ x. OnlyCounts (passed m s) x in
    subst P (sym here) (subst Q (sym (cycle_next rule p requests m s h more)) (dull_next requests m s h more))
