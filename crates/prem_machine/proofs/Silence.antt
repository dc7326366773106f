-- In which cycles nothing comes to a task.
use Rattle.std.proofs.Common.{◌≡◌, ℕ, zero, suc, ◌+◌, ◌-◌, ◌≤◌, ◌<◌, Bool, true, false, cond, List, [], ◌∷◌, None, Some, Option, length, refl, ap, sym, ◌∙◌, subst, arith, ⊎_elim}
use Rattle.std.specs.Prelude.{nat_le, ◌&&◌}
use Rattle.prem_machine.proofs.Prelude.{cycles_of-add, step_of-goes, dull_rest, fewer_rest, none_arrives, one_step, steady_later, CoreMove, Passes, Issues, begin_switch, core_issued}
use Rattle.prem_machine.proofs.Prelude.{core_turn, move_in, move_running, paid_on_bus, want_of, Arrivals, arrivals_at, bus_at, cycle_of, is_full, is_over, move_at, step_of, with_memory}
use Rattle.prem_machine.proofs.Prelude.{Attempt, Traps, Executes, attempt_of, attempt_seen, behind_touches, CycleStep, cycles_of, step_by, step_in, step_with, wants_input_of, wants_word}
use Rattle.prem_machine.proofs.Prelude.{AreDull, IsDull, idle_turn, IsSteady, Within, core_rest, mode_rest, passed, running_rest, lacks_word, Setup, Task, Transaction, Work, Debt, CoreState, Counts}
use Rattle.prem_machine.proofs.Prelude.{MachineState, task_in, Interval, Mode, Point, Switching, Idle, Turned, bus_turn, wants, Request, Access, Change, Stay, Memory, Execute, End, Job}
use Rattle.prem_machine.proofs.Prelude.{Effect, Instr, ReplacementRule, bus_cycles, cycles_owed, AreSilent, ended_so_far, IsLone, Target, TaskJobs, cases_lt, nat_tests}
use Rattle.prem_cycle.specs.declared.state.Mode.TheVariants.{Running}
use Rattle.prem_machine.proofs.Lonely.{as_lone, issues, lone_state, not_over, owed_state, pays, pays_on_bus}

-- ---- silent cycles one behind the other

pub silent_none : (rule : ReplacementRule) (p : Setup) (requests : List Request) (s : MachineState) → AreSilent rule p requests 0 s
unfolding cycles_of
silent_none rule p requests s =
    record {
      wanted = λ m lt. absurd (omega (arith, lt));
      ended = λ m le. let z : m ≡ 0 = omega (arith, le) in ap (λ k. ended_so_far (cycles_of rule p requests k s)) z;
    }

pub cycles_behind : (rule : ReplacementRule) (p : Setup) (requests : List Request) (n m : ℕ) (s : MachineState) → n ≤ m →
    cycles_of rule p requests m s ≡ cycles_of rule p requests (m - n) (cycles_of rule p requests n s)
cycles_behind rule p requests n m s later =
    let e : m ≡ n + (m - n) = omega (arith, later) in
    ap (λ i. cycles_of rule p requests i s) e ∙ cycles_of-add rule p requests n (m - n) s

pub silent_then : (rule : ReplacementRule) (p : Setup) (requests : List Request) (n k : ℕ) (s : MachineState) → AreSilent rule p requests n s →
    AreSilent rule p requests k (cycles_of rule p requests n s) →
    AreSilent rule p requests (n + k) s
silent_then rule p requests n k s a b =
    record {
      wanted = λ m lt.
          ⊎_elim (λ (first : m < n). a.wanted m first)
          (λ (later : n ≤ m). ap (wants_input_of rule p requests) (cycles_behind rule p requests n m s later) ∙ b.wanted (m - n) (omega (arith, lt, later))) (cases_lt m n);
      ended = λ m le.
          ⊎_elim (λ (first : m < n). a.ended m (omega (arith, first)))
          (λ (later : n ≤ m). ap ended_so_far (cycles_behind rule p requests n m s later) ∙ b.ended (m - n) (omega (arith, le, later)) ∙ a.ended n (omega arith)) (cases_lt m n);
    }

-- one cycle
silent_one : (rule : ReplacementRule) (p : Setup) (requests : List Request) (s : MachineState) → wants_input_of rule p requests s ≡ None →
    ended_so_far (step_of rule p requests s) ≡ ended_so_far s → AreSilent rule p requests 1 s
unfolding cycles_of
silent_one rule p requests s wanted ended =
    record {
      wanted = λ m lt. let z : m ≡ 0 = omega (arith, lt) in ap (λ k. wants_input_of rule p requests (cycles_of rule p requests k s)) z ∙ wanted;
      ended = λ m le. ⊎_elim (λ (first : m < 1). let z : m ≡ 0 = omega (arith, first) in ap (λ k. ended_so_far (cycles_of rule p requests k s)) z)
          (λ (last : 1 ≤ m). let z : m ≡ 1 = omega (arith, le, last) in ap (λ k. ended_so_far (cycles_of rule p requests k s)) z ∙ ended) (cases_lt m 1);
    }

-- ---- a core that passes on issues nothing

abbrev Passing : CoreMove → Type 0
Passing (Passes c) = Unit {0}
Passing (Issues k i) = ⊥

passing_wants : (rule : ReplacementRule) (p : Setup) (now : ℕ) (w : Work) (over : Bool) (m : CoreMove) → Passing m → wants_word (cond over None (step_in rule p now w m)) ≡ None
passing_wants rule p now w true m h = refl
passing_wants rule p now w false (Passes c) h = refl
passing_wants rule p now w false (Issues k i) h = absurd h

none_wanted : (rule : ReplacementRule) (p : Setup) (requests : List Request) (s : MachineState) → ((b : Turned) → Passing (move_at p b s)) → wants_input_of rule p requests s ≡ None
none_wanted rule p requests s h =
    let b : Turned = bus_at (arrivals_at requests s).gates s in
    passing_wants rule p s.now (with_memory b.memory s.work) (is_over s) (move_at p b s) (h b)

-- ---- dull cycles

running_passes : (now : ℕ) (i : Interval) (c : CoreState) (k cost : ℕ) (mark : Change) → 1 ≤ running_rest now i cost mark → Passing (move_running c k cost mark)
running_passes now i c k (suc cost) mark h = tt
running_passes now i c k zero Stay h = absurd (omega (arith, h))
running_passes now i c k zero (Execute stated) h = absurd (omega (arith, h))
running_passes now i c k zero Memory h = tt
running_passes now i c k zero End h = tt
running_passes now i c k zero Job h = tt

switch_passes : (now : ℕ) (w : Work) (c : CoreState) (k left : ℕ) → 1 ≤ left - 1 → Passing (begin_switch now w c k left)
switch_passes now w c k zero h = absurd (omega (arith, h))
switch_passes now w c k (suc left) h = tt

mode_passes : (p : Setup) (now : ℕ) (sched : List TaskJobs) (w : Work) (c : CoreState) (mode : Mode) → Within 1 (mode_rest now c mode) → Passing (move_in p now sched w c mode)
mode_passes p now sched w c Point h = absurd (omega (arith, h))
mode_passes p now sched w c (Switching k left) h = switch_passes now w c k left h
mode_passes p now sched w c (Running k) h = running_passes now c.interval c k c.debt.cost c.mark h
mode_passes p now sched w c (Idle until) h = tt

rest_passes : (p : Setup) (b : Turned) (s : MachineState) → Within 1 (core_rest s.now s.core) → Passing (move_at p b s)
rest_passes p b s h = by (wants (want_of s.core.debt)) refl
  where
    by : (x : Bool) → wants (want_of s.core.debt) ≡ x → Passing (move_at p b s)
    by true is = rw is tt
    by false is = let few : Within 1 (mode_rest s.now s.core s.core.mode) = rw is at h in rw is (mode_passes p s.now s.sched (with_memory b.memory s.work) s.core s.core.mode few)

pub dull_silent : (rule : ReplacementRule) (p : Setup) (requests : List Request) (n : ℕ) (s : MachineState) → IsSteady requests s → AreDull rule p requests n s → AreSilent rule p requests n s
dull_silent rule p requests n s h dull =
    let rests = dull_rest rule p requests n s h dull in
    let there : (m : ℕ) → m ≤ n → cycles_of rule p requests m s ≡ passed m s = λ m le. one_step rule p requests m s h (fewer_rest m n requests s le rests) in
    record {
      wanted = λ m lt.
          let before = fewer_rest m n requests s (omega (arith, lt)) rests in
          let D : MachineState → Type 0 = λ u. AreDull rule p requests 1 u in
          let I : MachineState → Type 0 = λ u. IsDull rule p requests u in
          let one : AreDull rule p requests 1 (cycles_of rule p requests m s) = λ k less. subst I (cycles_of-add rule p requests m k s) (dull (m + k) (omega (arith, lt, less))) in
          let rest = dull_rest rule p requests 1 (passed m s) (steady_later m requests s h before) (subst D (there m (omega (arith, lt))) one) in
          ap (wants_input_of rule p requests) (there m (omega (arith, lt))) ∙ none_wanted rule p requests (passed m s) (λ b. rest_passes p b (passed m s) rest.core);
      ended = λ m le. ap ended_so_far (there m le);
    }

-- ---- cycles in which a task that runs alone pays what it owes

owed_passes : (p : Setup) (b : Turned) (task : ℕ) (s : MachineState) (w : Work) (n : Counts) (t : ℕ) (ns : List Transaction) (begun : Bool) (cost : ℕ) → 1 ≤ bus_cycles ns + cost →
    Passing (move_at p b (owed_state task s w n t (record { transactions = ns; begun = begun; cost = cost })))
owed_passes p b task s w n t [] begun zero h = absurd (omega (arith, h))
owed_passes p b task s w n t [] begun (suc cost) h = tt
owed_passes p b task s w n t (m ∷ ns) true cost h = tt
owed_passes p b task s w n t (m ∷ ns) false cost h = tt

-- behind one of them it owes a cycle less
record OwesLess (rule : ReplacementRule) (p : Setup) (requests : List Request) (task : ℕ) (s : MachineState) (w : Work) (n : Counts) (t : ℕ) (d : Debt) : Type 0 where
  next : Debt
  is : step_of rule p requests (owed_state task s w n t d) ≡ owed_state task s w n (t + 1) next
  less : cycles_owed next + 1 ≡ cycles_owed d
  none : next.transactions ≡ [] → next.begun ≡ false

paid_less : (m : Transaction) (ns : List Transaction) (begun : Bool) (cost : ℕ) (x : Bool) → nat_le m.cycles 1 ≡ x →
    let d : Debt = record { transactions = m ∷ ns; begun = begun; cost = cost } in
    (cycles_owed (paid_on_bus (m ∷ ns) d) + 1 ≡ cycles_owed d) × ((paid_on_bus (m ∷ ns) d).transactions ≡ [] → (paid_on_bus (m ∷ ns) d).begun ≡ false)
paid_less m ns begun cost true is =
    let le : m.cycles ≤ 1 = grind (arith, nat_tests) in
    (rw is (omega (arith, le)), rw is (λ none. refl))
paid_less m ns begun cost false is =
    let more : 1 < m.cycles = grind (arith, nat_tests) in
    (rw is (omega (arith, more)), rw is (λ none. absurd (cc)))

owes_less : (rule : ReplacementRule) (p : Setup) (requests : List Request) (task until : ℕ) (s : MachineState) (w : Work) (n : Counts) (t : ℕ) (ns : List Transaction) (begun : Bool) (cost : ℕ) →
    IsLone task until requests s → s.now ≤ t → t < until → is_full (lone_state task s w n 0 0) ≡ false → (ns ≡ [] → begun ≡ false) → 1 ≤ bus_cycles ns + cost →
    OwesLess rule p requests task s w n t (record { transactions = ns; begun = begun; cost = cost })
owes_less rule p requests task until s w n t [] begun zero h from lt full none some = absurd (omega (arith, some))
owes_less rule p requests task until s w n t [] begun (suc cost) h from lt full none some =
    let owing : Bool → Debt = λ b. record { transactions = []; begun = b; cost = suc cost } in
    record {
      next = record { transactions = []; begun = false; cost = cost };
      is = not_over rule p requests task s w n t (owing begun) full
          ∙ subst (λ b. step_is b) (sym (none refl)) (pays rule p requests task until s w n t cost h from lt);
      less = omega arith;
      none = λ none. refl;
    }
  where
    step_is : Bool → Type 0
    step_is b = cycle_of rule p requests (owed_state task s w n t (record { transactions = []; begun = b; cost = suc cost })) ≡ lone_state task s w n (t + 1) cost
owes_less rule p requests task until s w n t (m ∷ ns) begun cost h from lt full none some =
    let d : Debt = record { transactions = m ∷ ns; begun = begun; cost = cost } in
    let paid = paid_less m ns begun cost (nat_le m.cycles 1) refl in
    record {
      next = paid_on_bus (m ∷ ns) d;
      is = not_over rule p requests task s w n t d full ∙ pays_on_bus rule p requests task until s w n t d h from lt (want begun);
      less = paid.0;
      none = paid.1;
    }
  where
    want : (b : Bool) → wants (want_of (record { transactions = m ∷ ns; begun = b; cost = cost })) ≡ true
    want true = refl
    want false = refl

-- behind m of them
pub record Owes (rule : ReplacementRule) (p : Setup) (requests : List Request) (task : ℕ) (s : MachineState) (w : Work) (n : Counts) (t m all : ℕ) (u : MachineState) : Type 0 where
  pub debt : Debt
  pub is : u ≡ owed_state task s w n (t + m) debt
  pub left : cycles_owed debt + m ≡ all
  pub none : debt.transactions ≡ [] → debt.begun ≡ false

pub owes : (rule : ReplacementRule) (p : Setup) (requests : List Request) (task until : ℕ) (s : MachineState) (w : Work) (n : Counts) (t : ℕ) (d : Debt) (m : ℕ) →
    IsLone task until requests s → s.now ≤ t → t + cycles_owed d ≤ until → is_full (lone_state task s w n 0 0) ≡ false → (d.transactions ≡ [] → d.begun ≡ false) → m ≤ cycles_owed d →
    Owes rule p requests task s w n t m (cycles_owed d) (cycles_of rule p requests m (owed_state task s w n t d))
unfolding cycles_of
owes rule p requests task until s w n t d zero h from within full none le =
    let e : t ≡ t + 0 = omega arith in
    record { debt = d; is = ap (λ k. owed_state task s w n k d) e; left = omega arith; none = none }
owes rule p requests task until s w n t d (suc m) h from within full none le =
    let before = owes rule p requests task until s w n t d m h from within full none (omega (arith, le)) in
    let q = before.debt in
    let one = owes_less rule p requests task until s w n (t + m) q.transactions q.begun q.cost h (omega (arith, from)) (omega (arith, within, le)) full before.none (omega (arith, before.left, le)) in
    let e : t + m + 1 ≡ t + suc m = omega arith in
    record {
      debt = one.next;
      is = ap (step_of rule p requests) before.is ∙ one.is ∙ ap (λ k. owed_state task s w n k one.next) e;
      left = omega (arith, one.less, before.left);
      none = one.none;
    }

owed_silent : (rule : ReplacementRule) (p : Setup) (requests : List Request) (task until : ℕ) (s : MachineState) (w : Work) (n : Counts) (t : ℕ) (d : Debt) →
    IsLone task until requests s → s.now ≤ t → t + cycles_owed d ≤ until → is_full (lone_state task s w n 0 0) ≡ false → (d.transactions ≡ [] → d.begun ≡ false) →
    AreSilent rule p requests (cycles_owed d) (owed_state task s w n t d)
owed_silent rule p requests task until s w n t d h from within full none =
    record {
      wanted = λ m lt.
          let o = owes rule p requests task until s w n t d m h from within full none (omega (arith, lt)) in
          ap (wants_input_of rule p requests) o.is
          ∙ none_wanted rule p requests (owed_state task s w n (t + m) o.debt) (λ b. owed_passes p b task s w n (t + m) o.debt.transactions o.debt.begun o.debt.cost (omega (arith, lt, o.left)));
      ended = λ m le. let o = owes rule p requests task until s w n t d m h from within full none le in ap ended_so_far o.is;
    }

-- ---- a task's instruction that takes no input word

no_word : (rule : ReplacementRule) (p : Setup) (now k : ℕ) (i : Interval) (w : Work) (a : Attempt) → lacks_word (task_in w k) a ≡ false →
    wants_word (step_by rule p now k i w (behind_touches rule p k w a)) ≡ None
no_word rule p now k i w (Traps cause) h = refl
no_word rule p now k i w (Executes instr e) h = ap (λ b. cond b (Some k) None) h

over_or_none : (over : Bool) (o : Option CycleStep) → wants_word o ≡ None → wants_word (cond over None o) ≡ None
over_or_none true o h = refl
over_or_none false o h = h

-- nothing is wanted where it issues
issue_wants : (rule : ReplacementRule) (p : Setup) (requests : List Request) (task until : ℕ) (s : MachineState) → IsLone task until requests s → s.trapped ≡ None → s.now < until →
    lacks_word (task_in s.work task) (attempt_of p task s.work) ≡ false → wants_input_of rule p requests s ≡ None
issue_wants rule p requests task until s h none lt lacks =
    let a : Arrivals = record { gates = s.gates; dropped = s.log.dropped } in
    let b = idle_turn s.gates s.work.memory in
    let W : Turned → Option ℕ = λ x. wants_word (cond (is_over s) None (step_with rule p x s)) in
    let arrive : arrivals_at requests s ≡ a = none_arrives s.now requests a (h.none s.now (omega arith) lt) in
    let bus : bus_at s.gates s ≡ b =
    ap (λ (d : Debt). bus_turn s.now s.core.window (want_of d) s.gates s.work.memory) h.debt ∙ h.idle s.now (omega arith) lt s.work.memory in
    let move : move_at p b s ≡ Issues task s.core.interval = ap (move_at p b) (as_lone task until requests s h none) in
    ap (λ (x : Arrivals). W (bus_at x.gates s)) arrive
    ∙ ap W bus
    ∙ ap (λ m. wants_word (cond (is_over s) None (step_in rule p s.now s.work m))) move
    ∙ over_or_none (is_over s) (step_in rule p s.now s.work (Issues task s.core.interval)) (no_word rule p s.now task s.core.interval s.work (attempt_of p task s.work) lacks)

-- the cycle in which it issues
pub issue_silent : (rule : ReplacementRule) (p : Setup) (requests : List Request) (task until : ℕ) (s : MachineState) → IsLone task until requests s → s.trapped ≡ None → s.now < until →
    lacks_word (task_in s.work task) (attempt_of p task s.work) ≡ false → ended_so_far (step_of rule p requests s) ≡ ended_so_far s → AreSilent rule p requests 1 s
issue_silent rule p requests task until s h none lt lacks ended = silent_one rule p requests s (issue_wants rule p requests task until s h none lt lacks) ended

pub one_is : (rule : ReplacementRule) (p : Setup) (requests : List Request) (s : MachineState) → cycles_of rule p requests 1 s ≡ step_of rule p requests s
unfolding cycles_of
one_is rule p requests s = refl

-- and all cycles of what it comes to owe
pub lone_silent : (rule : ReplacementRule) (p : Setup) (requests : List Request) (task until : ℕ) (s : MachineState) (w : Work) (n : Counts) (cost : ℕ) (owed : List Transaction) (all : ℕ) →
    IsLone task until requests s → s.trapped ≡ None → 1 ≤ cost → all ≡ bus_cycles owed + cost → s.now + all ≤ until → is_over s ≡ false → is_full (lone_state task s w n 0 0) ≡ false →
    core_turn rule p s.now (Issues task s.core.interval) s.work s.core s.log.counts
    ≡ record { work = w; core = core_issued s.now task s.core.interval Stay cost owed s.core; counts = n; trapped = None } →
    lacks_word (task_in s.work task) (attempt_of p task s.work) ≡ false → AreSilent rule p requests all s
lone_silent rule p requests task until s w n cost owed all h none some is le over full turn lacks =
    let d : Debt = record { transactions = owed; begun = false; cost = cost - 1 } in
    let e : 1 + cycles_owed d ≡ all = omega (arith, some, is) in
    let step : step_of rule p requests s ≡ owed_state task s w n (s.now + 1) d =
    step_of-goes rule p requests s over ∙ issues rule p requests task until s w n cost owed h none (omega (arith, some, is, le)) turn in
    let first = issue_silent rule p requests task until s h none (omega (arith, some, is, le)) lacks (ap ended_so_far step) in
    let rest = owed_silent rule p requests task until s w n (s.now + 1) d h (omega arith) (omega (arith, e, le)) full (λ x. refl) in
    let S : MachineState → Type 0 = λ u. AreSilent rule p requests (cycles_owed d) u in
    let A : ℕ → Type 0 = λ k. AreSilent rule p requests k s in
    subst A e (silent_then rule p requests 1 (cycles_owed d) s first (subst S (sym (one_is rule p requests s ∙ step)) rest))

-- ---- what is attempted

-- an instruction that is done behind its touches takes a word where it took one before
pub seen_lacks : (target : Target) (size : ℕ) (seen : Option Access → ℕ → ℕ) (t : Task) (a : Attempt) (i : Instr) (e : Effect) → attempt_seen target size seen t a ≡ Executes i e → e.input ≡ false →
    lacks_word t a ≡ false
seen_lacks target size seen t (Traps cause) i e is none = refl
seen_lacks target size seen t (Executes j f) i e is none =
    let same : f.input ≡ e.input = ap takes is in
    ap (λ b. b && nat_le (length t.left) 0) (same ∙ none)
  where
    takes : Attempt → Bool
    takes (Traps cause) = false
    takes (Executes instr effect) = effect.input
