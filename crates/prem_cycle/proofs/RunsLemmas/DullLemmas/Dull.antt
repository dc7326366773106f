-- Dull cycles rest.
use Rattle.std.proofs.Common.{◌≡◌, ℕ, zero, suc, ◌+◌, ◌-◌, ◌<◌, ◌≤◌, Bool, true, false, List, [], ◌∷◌, Option, Some, None, refl, ap, sym, ◌∙◌, subst, arith, length, ⊎_elim, ◌⊎◌, inl, inr}
use Rattle.std.specs.Prelude.{is_some, nat_lt, ◌||◌, ◌&&◌}
use Rattle.prem_cycle.proofs.Prelude.{want_of, with_cost, core_pay, Passes, Arrivals, arrivals_at, bus_at, with_now, move_at, cycle_with, OnlyCounts, IsDull, AreDull, bus_rest, idle_rest}
use Rattle.prem_cycle.proofs.Prelude.{running_rest, mode_rest, core_rest, Within, transactions_passed, mode_passed, core_passed, passed, Rests, IsSteady, Setup, Transaction, CoreState, MachineState}
use Rattle.prem_cycle.proofs.Prelude.{Interval, Mode, Point, Switching, Running, Idle, carried_run, quiet_carried, held_passed, free_passed, changes_same, held_has, GatesState, Turned}
use Rattle.prem_cycle.proofs.Prelude.{bus_turn, wants, is_held, with_carried, AreQuiet, BusRun, lesser, takes_up, is_new, has_changed, transfer_left, with_transfer, bus_run, changes}
use Rattle.prem_cycle.proofs.Prelude.{changes_behind, Carried, CoreWant, No, New, Held, Transfer, Window, Request, with_last, Change, Stay, Memory, Execute, End, Job, ReplacementRule}
use Rattle.prem_cycle.proofs.Prelude.{nat_tests, length_push}
use Rattle.prem_cycle.proofs.CycleParts.{settle_keeps, cycle_gates}
use Rattle.prem_cycle.proofs.RunsLemmas.DullLemmas.Breaks.{moved_is, moved_as, move_wanting, turn_by, passes_debt, new_shows, core_rests_by}
use Rattle.prem_cycle.proofs.RunsLemmas.DullLemmas.Pending.{one_carried, none_came}
use Rattle.prem_cycle.proofs.RunsLemmas.DullLemmas.Steps.{within_both, both_within, same_want, passed_by, passed_is, mode_want, want_passed, window_passed}
use Rattle.prem_cycle.proofs.RunsLemmas.DullLemmas.Stretch.{none_arrives, one_step, steady_later}
use Rattle.prem_cycle.proofs.Time.{goes_untrapped}

none_ended : (o : Option Transfer) (ts : List Transfer) → with_last o ts ≡ ts → o ≡ None
none_ended None ts e = refl
none_ended (Some t) ts e = let n = ap length e in absurd (omega (arith, n, length_push ts t))

same_count : (left : ℕ) (o : Option Carried) → one_carried (with_transfer left o) ≡ one_carried o
same_count left None = refl
same_count left (Some c) = refl

not_taken : (left : ℕ) (o : Option Carried) → takes_up o (with_transfer left o) ≡ false
not_taken left None = refl
not_taken left (Some c) = refl

neither : (x y z : Bool) → x ≡ false → y ≡ false → z ≡ false → (x || y || z) ≡ false
neither x y z p q r = rw p (rw q r)

not_both : (x y : Bool) → (x ≡ true → y ≡ true → ⊥) → (x && y) ≡ false
not_both true true f = absurd (f refl refl)
not_both true false f = refl
not_both false y f = refl

new_want : (k : CoreWant) → is_new k ≡ true → k ≡ New
new_want No e = absurd (cc)
new_want New e = refl
new_want Held e = absurd (cc)

-- what a dull cycle leaves of the bus
record BusLeft (s : MachineState) (a : Arrivals) (b : Turned) : Type 0 where
  gates : b.gates ≡ with_carried s.gates (with_transfer (transfer_left b.gates.carried) s.gates.carried)
  ended : b.turn.ended ≡ None
  dropped : a.dropped ≡ s.log.dropped
  begins_none : want_of s.core.debt ≡ New → b.turn.core ≡ true → ⊥

bus_left : (rule : ReplacementRule) (p : Setup) (a : Arrivals) (b : Turned) (s : MachineState) → s.trapped ≡ None → OnlyCounts s (cycle_with rule p a b s) → BusLeft s a b
bus_left rule p a b s none d =
    let t = cycle_with rule p a b s in
    let m = moved_is rule p a b s none d in
    let j = turn_by rule p a b (move_at p b s) s in
    let kept = settle_keeps j.core.mode (with_now j (s.now + 1)) in
    let gates : t.gates ≡ b.gates = cycle_gates rule p a b s in
    let transfers : t.log.transfers ≡ with_last b.turn.ended s.log.transfers = ap (λ (x : MachineState). x.log.transfers) m.behind ∙ kept.transfers in
    record {
      gates = sym gates ∙ m.counted.gates ∙ ap (λ (g : GatesState). with_carried s.gates (with_transfer (transfer_left g.carried) s.gates.carried)) gates;
      ended = none_ended b.turn.ended s.log.transfers (sym transfers ∙ m.counted.transfers);
      dropped = sym (ap (λ (x : MachineState). x.log.dropped) m.behind ∙ kept.dropped) ∙ m.counted.dropped;
      begins_none = λ new has.
          let wanting : wants (want_of s.core.debt) ≡ true = ap wants new in
          let move : move_at p b s ≡ Passes (core_pay true s.core) = move_wanting p b s wanting ∙ ap (λ had. Passes (core_pay had s.core)) has in
          let paid = moved_as rule p a b (move_at p b s) (Passes (core_pay true s.core)) s t move m in
          new_shows s.core.debt.begun s.core.debt.transactions s.core t.core.debt new (passes_debt rule p a b (core_pay true s.core) s t paid) m.counted.begun m.counted.transactions;
    }

-- one dull cycle rests
dull_rests_one : (rule : ReplacementRule) (p : Setup) (requests : List Request) (s : MachineState) → IsSteady requests s → IsDull rule p requests s → Rests 1 requests s
unfolding bus_run
dull_rests_one rule p requests s h d =
    let a : Arrivals = arrivals_at requests s in
    let b : Turned = bus_at a.gates s in
    let want = want_of s.core.debt in
    let start : Arrivals = record { gates = s.gates; dropped = s.log.dropped } in
    let left = bus_left rule p a b s (goes_untrapped s h.going) d in
    let queues : b.gates.gates ≡ s.gates.gates = ap (λ (g : GatesState). g.gates) left.gates in
    let carried : b.gates.carried ≡ with_transfer (transfer_left b.gates.carried) s.gates.carried = ap (λ (g : GatesState). g.carried) left.gates in
    let none = none_came s.now s.core.window want requests start s.work.memory h.devices h.dropped queues
    (ap one_carried carried ∙ same_count (transfer_left b.gates.carried) s.gates.carried) left.ended left.dropped in
    let same : a ≡ start = none_arrives s.now requests start none in
    let turn : b ≡ bus_turn s.now s.core.window want s.gates s.work.memory = ap (λ (x : Arrivals). bus_turn s.now s.core.window want x.gates s.work.memory) same in
    let taken : takes_up s.gates.carried b.gates.carried ≡ false = ap (takes_up s.gates.carried) carried ∙ not_taken (transfer_left b.gates.carried) s.gates.carried in
    let ended : is_some b.turn.ended ≡ false = ap is_some left.ended in
    let begins : (is_new want && b.turn.core) ≡ false = not_both (is_new want) b.turn.core (λ new. left.begins_none (new_want want new)) in
    let quiet : changes s.now s.core.window want s.gates s.work.memory ≡ false =
    ap (has_changed want s.gates.carried) (sym turn) ∙ neither (takes_up s.gates.carried b.gates.carried) (is_some b.turn.ended) (is_new want && b.turn.core) taken ended begins in
    let has : want ≡ Held → b.turn.core ≡ true = λ held.
    ap (λ (x : Turned). x.turn.core) turn ∙ ap (λ k. (bus_turn s.now s.core.window k s.gates s.work.memory).turn.core) held
    ∙ held_has s.now s.core.window s.gates s.work.memory (h.free held) in
    let zero_more : s.now + 0 ≡ s.now = omega arith in
    record {
      arrivals = λ k r lt m less is. none k r lt (omega (arith, less, is));
      gates = λ m memory less.
          let z : m ≡ 0 = omega (arith, less) in
          ap (λ k. changes_behind k s.now s.core.window want s.gates memory) z ∙ ap (λ k. changes k s.core.window want s.gates memory) zero_more
          ∙ changes_same s.now s.core.window want s.gates memory s.work.memory ∙ quiet;
      core = core_rests_by rule p requests a b s (wants want) refl h has d;
    }

-- ---- so many

within_none : (o : Option ℕ) → Within 0 o
within_none None = tt
within_none (Some k) = omega arith

bus_later : (n : ℕ) (begun : Bool) (ns : List Transaction) → Within 1 (bus_rest begun (transactions_passed n begun ns)) → Within n (bus_rest begun ns) → Within (suc n) (bus_rest begun ns)
bus_later n begun [] h k = tt
bus_later n false (m ∷ ns) h k = tt
bus_later n true (m ∷ ns) h k = omega (arith, h, k)

idle_later : (now n : ℕ) (mode : Mode) → Within 1 (idle_rest (now + n) mode) → Within (suc n) (idle_rest now mode)
idle_later now n Point h = tt
idle_later now n (Switching k left) h = tt
idle_later now n (Running k) h = tt
idle_later now n (Idle until) h = omega (arith, h)

cost_rest : (now : ℕ) (i : Interval) (l : ℕ) (mark : Change) → 1 ≤ l → running_rest now i l mark ≡ l - 1
cost_rest now i zero mark h = absurd (omega (arith, h))
cost_rest now i (suc l) mark h = omega arith

running_later : (now n : ℕ) (i : Interval) (cost l : ℕ) (mark : Change) → l ≡ cost - n → 1 ≤ running_rest (now + n) i l mark → n ≤ running_rest now i cost mark → suc n ≤ running_rest now i cost mark
running_later now n i (suc cost) l mark e h k =
    let r = cost_rest (now + n) i l mark (omega (arith, e, k)) in
    omega (arith, e, h, k, r)
running_later now n i zero zero Stay e h k = absurd (omega (arith, h))
running_later now n i zero zero (Execute stated) e h k = absurd (omega (arith, h))
running_later now n i zero zero Memory e h k = absurd (omega (arith, h))
running_later now n i zero zero Job e h k = absurd (omega (arith, h))
running_later now n i zero zero End e h k = omega (arith, h)
running_later now n i zero (suc l) mark e h k = absurd (omega (arith, e))

mode_later : (now n : ℕ) (c : CoreState) (mode : Mode) → c.mode ≡ mode → Within 1 (mode_rest (now + n) (mode_passed n c mode) (mode_passed n c mode).mode) → Within n (mode_rest now c mode) →
    Within (suc n) (mode_rest now c mode)
mode_later now n c Point is h k = let P : Mode → Type 0 = λ m. Within 1 (mode_rest (now + n) c m) in let none : 1 ≤ 0 = subst P is h in absurd (omega (arith, none))
mode_later now n c (Switching j left) is h k = omega (arith, h, k)
mode_later now n c (Running j) is h k =
    let P : Mode → Type 0 = λ m. Within 1 (mode_rest (now + n) (with_cost c (c.debt.cost - n)) m) in
    let r : 1 ≤ running_rest (now + n) c.interval (c.debt.cost - n) c.mark = subst P is h in
    running_later now n c.interval c.debt.cost (c.debt.cost - n) c.mark refl r k
mode_later now n c (Idle until) is h k =
    let P : Mode → Type 0 = λ m. Within 1 (mode_rest (now + n) c m) in
    let r : 1 ≤ until - (now + n + 1) = subst P is h in
    omega (arith, r)

core_later_by : (now n : ℕ) (c : CoreState) (b : Bool) → wants (want_of c.debt) ≡ b → Within 1 (core_rest (now + n) (passed_by b n c)) → Within n (core_rest now c) → Within (suc n) (core_rest now c)
core_later_by now n c true is h k =
    let same : wants (want_of (passed_by true n c).debt) ≡ true = ap wants (same_want n c.debt.begun c.debt.transactions) ∙ is in
    let one : Within 1 (lesser (bus_rest c.debt.begun (transactions_passed n c.debt.begun c.debt.transactions)) (idle_rest (now + n) c.mode)) = rw same at h in
    let few : Within n (lesser (bus_rest c.debt.begun c.debt.transactions) (idle_rest now c.mode)) = rw is at k in
    let both = within_both 1 (bus_rest c.debt.begun (transactions_passed n c.debt.begun c.debt.transactions)) (idle_rest (now + n) c.mode) one in
    let before = within_both n (bus_rest c.debt.begun c.debt.transactions) (idle_rest now c.mode) few in
    rw is (both_within (suc n) (bus_rest c.debt.begun c.debt.transactions) (idle_rest now c.mode)
    (bus_later n c.debt.begun c.debt.transactions both.0 before.0) (idle_later now n c.mode both.1))
core_later_by now n c false is h k =
    let same : wants (want_of (passed_by false n c).debt) ≡ false = ap wants (mode_want n c c.mode) ∙ is in
    let one : Within 1 (mode_rest (now + n) (mode_passed n c c.mode) (mode_passed n c c.mode).mode) = rw same at h in
    let few : Within n (mode_rest now c c.mode) = rw is at k in
    rw is (mode_later now n c c.mode refl one few)

core_later : (now n : ℕ) (c : CoreState) → Within 1 (core_rest (now + n) (core_passed n c)) → Within n (core_rest now c) → Within (suc n) (core_rest now c)
core_later now n c h k =
    let b = wants (want_of c.debt) in
    let P : CoreState → Type 0 = λ x. Within 1 (core_rest (now + n) x) in
    core_later_by now n c b refl (subst P (passed_is b n c refl) h) k

gates_by : (n now : ℕ) (w : Window) (core : CoreWant) (s : GatesState) (memory other : List ℕ) → AreQuiet n now w core s → (o : Option Carried) → s.carried ≡ o →
    (held : Bool) → is_held core ≡ held → (bus_run n now w core s memory).gates ≡ (bus_run n now w core s other).gates
gates_by n now w core s memory other quiet (Some c) is held e =
    let le = quiet_carried n now w core s c is quiet in
    ap (λ (r : BusRun). r.gates) (carried_run n now w core s c memory is le) ∙ sym (ap (λ (r : BusRun). r.gates) (carried_run n now w core s c other is le))
gates_by n now w core s memory other quiet None is true e =
    ap (λ (r : BusRun). r.gates) (held_passed n now w core s memory is e) ∙ sym (ap (λ (r : BusRun). r.gates) (held_passed n now w core s other is e))
gates_by n now w core s memory other quiet None is false e =
    ap (λ (r : BusRun). r.gates) (free_passed n now w core s memory is e quiet) ∙ sym (ap (λ (r : BusRun). r.gates) (free_passed n now w core s other is e quiet))

-- the gates behind quiet cycles don't depend on the bytes of memory
gates_same : (n now : ℕ) (w : Window) (core : CoreWant) (s : GatesState) (memory other : List ℕ) → AreQuiet n now w core s →
    (bus_run n now w core s memory).gates ≡ (bus_run n now w core s other).gates
gates_same n now w core s memory other quiet = gates_by n now w core s memory other quiet s.carried refl (is_held core) refl

quiet_at : (n : ℕ) (requests : List Request) (s : MachineState) → Rests n requests s → Rests 1 requests (passed n s) → (memory : List ℕ) →
    changes_behind n s.now s.core.window (want_of s.core.debt) s.gates memory ≡ false
unfolding bus_run
quiet_at n requests s h one memory =
    let want = want_of s.core.debt in
    let r = bus_run n s.now s.core.window want s.gates memory in
    let t = passed n s in
    let zero_more : s.now + n + 0 ≡ s.now + n = omega arith in
    ap (λ g. changes (s.now + n) s.core.window want g r.memory) (gates_same n s.now s.core.window want s.gates memory s.work.memory h.gates)
    ∙ ap (λ k. changes k s.core.window want t.gates r.memory) (sym zero_more)
    ∙ ap (λ w. changes (s.now + n + 0) w want t.gates r.memory) (sym (window_passed n s.core))
    ∙ ap (λ k. changes (s.now + n + 0) t.core.window k t.gates r.memory) (sym (want_passed n s.core))
    ∙ one.gates 0 r.memory (omega arith)

either_less : (n m : ℕ) → m < suc n → (m < n) ⊎ (m ≡ n)
either_less n m lt = by_test (nat_lt m n) refl where
  by_test : (b : Bool) → nat_lt m n ≡ b → (m < n) ⊎ (m ≡ n)
  by_test true is = inl (grind (arith, nat_tests))
  by_test false is = inr (grind (arith, nat_tests))

later_rest : (n : ℕ) (requests : List Request) (s : MachineState) → Rests n requests s → Rests 1 requests (passed n s) → Rests (suc n) requests s
later_rest n requests s h one =
    record {
      arrivals = λ k r lt m less is.
          ⊎_elim (λ (few : m < n). h.arrivals k r lt m few is) (λ (last : m ≡ n). one.arrivals k r lt 0 (omega arith) (omega (arith, is, last))) (either_less n m less);
      gates = λ m memory less.
          ⊎_elim (λ (few : m < n). h.gates m memory few)
          (λ (last : m ≡ n). ap (λ j. changes_behind j s.now s.core.window (want_of s.core.debt) s.gates memory) last ∙ quiet_at n requests s h one memory) (either_less n m less);
      core = core_later s.now n s.core one.core h.core;
    }

pub dull_rest : (rule : ReplacementRule) (p : Setup) (requests : List Request) (n : ℕ) (s : MachineState) → IsSteady requests s → AreDull rule p requests n s → Rests n requests s
dull_rest rule p requests zero s h dull =
    record { arrivals = λ k r lt m less. absurd (omega (arith, less)); gates = λ m memory less. absurd (omega (arith, less)); core = within_none (core_rest s.now s.core) }
dull_rest rule p requests (suc n) s h dull =
    let before = dull_rest rule p requests n s h (λ m lt. dull m (omega (arith, lt))) in
    let P : MachineState → Type 0 = λ x. IsDull rule p requests x in
    let last : IsDull rule p requests (passed n s) = subst P (one_step rule p requests n s h before) (dull n (omega arith)) in
    later_rest n requests s before (dull_rests_one rule p requests (passed n s) (steady_later n requests s h before) last)
