-- Two cores whose cycles are their own: the cycles of one may be done before those of the other.
use Rattle.std.proofs.Common.{◌≡◌, ◌≢◌, ℕ, zero, suc, ◌+◌, ◌-◌, ◌≤◌, Bool, true, false, cond, List, [], Option, Some, None, refl, ap, sym, ◌∙◌, subst, arith, All}
use Rattle.std.specs.Prelude.{◌&&◌, ◌||◌, not, is_some}
use Rattle.prem_pair.proofs.Prelude.{CoreTurn, Issues, core_issued, core_turn, is_paid, want_of, is_finished, is_full, joined, next_cycle, with_clash, Within, Setup, Work, Counts}
use Rattle.prem_pair.proofs.Prelude.{MachineState, Transaction, Mode, Running, Trap, no_core, is_held, wants, CoreWant, No, Request, Change, Stay, ReplacementRule, unclashed, AreApart, own_cycle}
use Rattle.prem_pair.proofs.Prelude.{own_part, IsGoing, MayRunApart, OwnCycle, OwnRun, no_cycle, one_more, PairState, both_finished, is_pair_over, no_arrivals, pair_cycles, pair_step}
use Rattle.prem_pair.proofs.Prelude.{rest_with, side_passed, stays_with, wanted, asks, frees, holder_after, is_first, is_second, some_wait, want_with, Holder, Nobody, First, Second, Gates}
use Rattle.prem_cycle.specs.Runs.Dull.Issuing.{idle_turn}
use Rattle.prem_pair.proofs.CyclesLemmas.Apart.{own_cycles}
use Rattle.prem_pair.proofs.CyclesLemmas.OneCycle.{SideGoes, paired}
use Rattle.prem_pair.proofs.CyclesLemmas.PairRuns.{pair_step-goes}
use Rattle.prem_pair.proofs.CyclesLemmas.Rests.{side_goes, unnot, waited, zero_side}
use Rattle.prem_pair.proofs.CyclesLemmas.Waiting.{asks_kept, finished_kept, frees_kept, want_kept}

-- ---- what such cycles keep

pub record OwnKept (holds : Bool) (n : ℕ) (s x : MachineState) : Type 0 where
  pub keeps : holds ≡ true → frees s.core ≡ false → frees x.core ≡ false
  pub asks_same : holds ≡ false → asks x ≡ asks s
  pub finished : is_finished x ≡ is_finished s
  pub time : x.now ≡ s.now + n
  pub gates : x.gates ≡ s.gates

pub own_kept : (rule : ReplacementRule) (p : Setup) (holds : Bool) (want : CoreWant) (s : MachineState) (n : ℕ) (x : MachineState) → OwnRun rule p holds want s n x → OwnKept holds n s x
own_kept rule p holds want s zero _ no_cycle =
    record { keeps = λ h f. f; asks_same = λ h. refl; finished = refl; time = omega arith; gates = refl }
own_kept rule p holds want s (suc n) x (one_more _ t _ run c) =
    let k = own_kept rule p holds want s n t run in
    record {
      keeps = λ h f. c.keeps h;
      asks_same = λ h. c.asks_same h ∙ k.asks_same h;
      finished = c.finished ∙ k.finished;
      time = omega (arith, c.time, k.time);
      gates = c.gates ∙ k.gates;
    }

pub own_one : (rule : ReplacementRule) (p : Setup) (holds : Bool) (want : CoreWant) (s x : MachineState) → OwnCycle rule p holds want s x → OwnRun rule p holds want s 1 x
own_one rule p holds want s x c = one_more 0 s x no_cycle c

-- ---- two cores

pub fewer_apart : (m n : ℕ) (requests : List Request) (v w : CoreWant) (s : PairState) → m ≤ n → MayRunApart n requests v w s → MayRunApart m requests v w s
fewer_apart m n requests v w s le h =
    record {
      arrivals = λ k d lt j less. h.arrivals k d lt j (omega (arith, le, less));
      token = h.token;
      gates = h.gates;
      free = h.free;
      begins = h.begins;
      one = h.one;
      unfinished = h.unfinished;
    }

renot : (b : Bool) → b ≡ false → not b ≡ true
renot b e = ap not e

pub stays_later : (h : Holder) (n : ℕ) (s : PairState) (x y : MachineState) → OwnKept (is_first h) n s.first x → OwnKept (is_second h) n s.second y →
    stays_with h s ≡ true → stays_with h (paired x y h) ≡ true
stays_later Nobody n s x y k l e =
    ap (λ v. not (v || asks y || some_wait x.gates.gates)) (k.asks_same refl)
    ∙ ap (λ v. not (asks s.first || v || some_wait x.gates.gates)) (l.asks_same refl)
    ∙ ap (λ v. not (asks s.first || asks s.second || some_wait v.gates)) k.gates ∙ e
stays_later First n s x y k l e = renot (frees x.core) (k.keeps refl (unnot (frees s.first.core) e))
stays_later Second n s x y k l e = renot (frees y.core) (l.keeps refl (unnot (frees s.second.core) e))
stays_later Gates n s x y k l e = refl

pub holder_same : (h : Holder) (x y : MachineState) → (is_first h ≡ true → frees x.core ≡ false) → (is_second h ≡ true → frees y.core ≡ false) → h ≢ Gates → holder_after h x.core y.core false ≡ h
holder_same Nobody x y f g ne = refl
holder_same First x y f g ne = ap (λ b. cond b Nobody First) (f refl)
holder_same Second x y f g ne = ap (λ b. cond b Nobody Second) (g refl)
holder_same Gates x y f g ne = refl

goes_by : (fin full full' : Bool) (t u : Option Trap) → fin ≡ false → t ≡ None → u ≡ None → full ≡ false → full' ≡ false → (fin || (is_some t || is_some u) || (full || full')) ≡ false
goes_by fin full full' t u a b c d e =
    ap (λ v. v || (is_some t || is_some u) || (full || full')) a ∙ ap (λ v. false || (is_some v || is_some u) || (full || full')) b
    ∙ ap (λ v. false || (false || is_some v) || (full || full')) c ∙ ap (λ v. false || (false || false) || (v || full')) d ∙ e

pub still_apart : (n : ℕ) (requests : List Request) (v w : CoreWant) (s : PairState) (t u : MachineState) → MayRunApart (suc n) requests v w s →
    OwnKept (is_first s.holder) n s.first t → OwnKept (is_second s.holder) n s.second u →
    want_of t.core.debt ≡ v → want_of u.core.debt ≡ w → AreApart requests (paired t u s.holder)
still_apart n requests v w s t u may k l first second =
    let h = s.holder in
    let want : wanted (paired t u h) ≡ want_with h v w = ap (λ z. want_with h z (want_of u.core.debt)) first ∙ ap (want_with h v) second in
    record {
      arrivals = λ i r lt is. may.arrivals i r lt n (omega arith) (is ∙ k.time);
      token = stays_later h n s t u k l may.token;
      gates = may.gates;
      free = ap (λ g. g.carried) k.gates ∙ may.free;
      begins = λ is. may.begins (sym want ∙ is);
      one = ap (λ z. wants z && wants (want_of u.core.debt)) first ∙ ap (λ z. wants v && wants z) second ∙ may.one;
    }

pub own_runs : (rule other : ReplacementRule) (p q : Setup) (requests : List Request) (n : ℕ) (s : PairState) (v w : CoreWant) (x y : MachineState) → MayRunApart n requests v w s →
    OwnRun rule p (is_first s.holder) v s.first n x → OwnRun other q (is_second s.holder) w s.second n y → pair_cycles rule other p q requests n s ≡ paired x y s.holder
unfolding pair_cycles
own_runs rule other p q requests zero s v w _ _ may no_cycle no_cycle = refl
own_runs rule other p q requests (suc n) s v w x y may (one_more _ t _ run c) (one_more _ u _ other_run d) =
    let h = s.holder in
    let k = own_kept rule p (is_first h) v s.first n t run in
    let l = own_kept other q (is_second h) w s.second n u other_run in
    let here : PairState = paired t u h in
    let before = own_runs rule other p q requests n s v w t u (fewer_apart n (suc n) requests v w s (omega arith) may) run other_run in
    let fin : both_finished here ≡ false = ap (λ z. z && is_finished u) k.finished ∙ ap (λ z. is_finished s.first && z) l.finished ∙ may.unfinished in
    let on : is_pair_over here ≡ false = goes_by (both_finished here) (is_full t) (is_full u) t.trapped u.trapped fin c.going d.going c.room d.room in
    let apart = still_apart n requests v w s t u may k l c.wants_it d.wants_it in
    let stays : holder_after h (own_cycle rule p (is_first h) t).core (own_cycle other q (is_second h) u).core false ≡ h =
    ap (λ (z : MachineState). holder_after h z.core (own_cycle other q (is_second h) u).core false) c.next ∙ ap (λ (z : MachineState). holder_after h x.core z.core false) d.next
    ∙ holder_same h x y c.keeps d.keeps may.gates in
    ap (pair_step rule other p q requests) before
    ∙ pair_step-goes rule other p q requests here on
    ∙ own_cycles rule other p q requests here apart c.part d.part stays
    ∙ ap (λ z. paired z (own_cycle other q (is_second h) u) h) c.next ∙ ap (λ z. paired x z h) d.next

-- ---- a core that rests

module _ (rule : ReplacementRule) (p : Setup) (holds : Bool) (s : MachineState) (periods : All (λ j. 1 ≤ j.period) s.sched) (none : s.trapped ≡ None) (room : is_full s ≡ false)
    (keeps : holds ≡ true → frees s.core ≡ false) where
  rest_cycle : (n : ℕ) → Within (suc n) (rest_with holds s) → OwnCycle rule p holds (want_of s.core.debt) (side_passed holds n s) (side_passed holds (suc n) s)
  rest_cycle n rests =
      let had = holds && is_held (want_of s.core.debt) in
      let t = side_passed holds n s in
      let e : s.log.counts.clashes + 0 ≡ s.log.counts.clashes = omega arith in
      let G : Bool → MachineState → Type 0 = λ b x. SideGoes rule p holds b false s.gates t x in
      let one = side_goes rule p holds had false n s.log.counts.clashes s.gates s.gates s none periods refl rests in
      let two = subst (λ k. G had (waited holds (suc n) s.gates k s)) e one in
      let goes : G (holds && is_held (want_of t.core.debt)) (side_passed holds (suc n) s) =
      subst (λ b. G b (side_passed holds (suc n) s)) (sym (ap (λ k. holds && is_held k) (want_kept holds n s.core))) two in
      record {
        wants_it = want_kept holds n s.core;
        part = goes.goes;
        next = goes.next;
        keeps = λ h. frees_kept holds (suc n) s.core ∙ keeps h;
        asks_same = λ h. asks_kept holds n (suc n) s periods h rests ∙ sym (asks_kept holds n n s periods h rests);
        finished = finished_kept holds (suc n) s ∙ sym (finished_kept holds n s);
        going = none;
        room = room;
        time = omega arith;
        gates = refl;
      }

  pub rest_own : (n : ℕ) → Within n (rest_with holds s) → OwnRun rule p holds (want_of s.core.debt) s n (side_passed holds n s)
  rest_own zero rests = subst (λ x. OwnRun rule p holds (want_of s.core.debt) s zero x) (sym (zero_side holds s.log.counts.clashes s refl)) no_cycle
  rest_own (suc n) rests =
      one_more n (side_passed holds n s) (side_passed holds (suc n) s) (rest_own n (fewer_within n (rest_with holds s) rests)) (rest_cycle n rests) where
        fewer_within : (n : ℕ) (o : Option ℕ) → Within (suc n) o → Within n o
        fewer_within n None h = tt
        fewer_within n (Some k) h = omega (arith, h)

-- ---- a core that runs

-- with this work and these counts, at this time, where the task owes these cycles and transactions
abbrev pub going_state : MachineState → (task : ℕ) → Work → Counts → (t : ℕ) → List Transaction → (cost : ℕ) → MachineState
going_state s task w n t owed cost =
    record {
      now = t;
      work = w;
      sched = s.sched;
      core = record {
        mode = Running task;
        debt = record { transactions = owed; begun = false; cost = cost };
        mark = Stay;
        interval = s.core.interval;
        window = s.core.window;
      };
      gates = s.gates;
      log = record s.log { counts = n };
      trapped = None;
    }

abbrev with_core : MachineState → Mode → List Transaction → Bool → Change → Option Trap → MachineState
with_core s mode owed begun mark trapped =
    record s { core = record s.core { mode = mode; debt = record { transactions = owed; begun = begun; cost = s.core.debt.cost }; mark = mark }; trapped = trapped }

pub as_going : (task : ℕ) (s : MachineState) → IsGoing task s → s.trapped ≡ None → s ≡ going_state s task s.work s.log.counts s.now [] s.core.debt.cost
as_going task s h none =
    ap (λ m. with_core s m s.core.debt.transactions s.core.debt.begun s.core.mark s.trapped) h.mode
    ∙ ap (λ o. with_core s (Running task) o s.core.debt.begun s.core.mark s.trapped) h.transactions
    ∙ ap (λ b. with_core s (Running task) [] b s.core.mark s.trapped) h.begun
    ∙ ap (λ m. with_core s (Running task) [] false m s.trapped) h.mark
    ∙ ap (λ o. with_core s (Running task) [] false Stay o) none

-- nothing is over with its cycle
ends_none : (s : MachineState) (task : ℕ) (w : Work) (n : Counts) (t : ℕ) (owed : List Transaction) (cost : ℕ) → next_cycle (going_state s task w n t owed cost) ≡ going_state s task w n (t + 1) owed cost
ends_none s task w n t owed cost = rw (no_core (is_paid (record { transactions = owed; begun = false; cost = cost }))) refl

pays_part : (rule : ReplacementRule) (p : Setup) (holds : Bool) (s : MachineState) (task : ℕ) (w : Work) (n : Counts) (t cost : ℕ) →
    own_part rule p holds (going_state s task w n t [] (suc cost)) ≡ going_state s task w (with_clash false n) t [] cost
pays_part rule p true s task w n t cost = refl
pays_part rule p false s task w n t cost = refl

going_cycle : (rule : ReplacementRule) (p : Setup) (holds : Bool) (s : MachineState) (task : ℕ) (w w' : Work) (n n' : Counts) (t cost cost' : ℕ)
    (owed : List Transaction) → is_full (going_state s task w n t [] cost) ≡ false →
    own_part rule p holds (going_state s task w n t [] cost) ≡ going_state s task w' n' t owed cost' →
    OwnCycle rule p holds No (going_state s task w n t [] cost) (going_state s task w' n' (t + 1) owed cost')
going_cycle rule p holds s task w w' n n' t cost cost' owed room part =
    record {
      wants_it = refl;
      part = ap (λ (x : MachineState). is_some x.trapped) part;
      next = ap next_cycle part ∙ ends_none s task w' n' t owed cost';
      keeps = λ h. refl;
      asks_same = λ h. refl;
      finished = refl;
      going = refl;
      room = room;
      time = refl;
      gates = refl;
    }

-- it pays one cycle of its cost
pub pay_own : (rule : ReplacementRule) (p : Setup) (holds : Bool) (s : MachineState) (task : ℕ) (w : Work) (n : Counts) (t cost : ℕ) → is_full (going_state s task w n t [] (suc cost)) ≡ false →
    OwnCycle rule p holds No (going_state s task w n t [] (suc cost)) (going_state s task w n (t + 1) [] cost)
pay_own rule p holds s task w n t cost room =
    going_cycle rule p holds s task w w n n t (suc cost) cost [] room (pays_part rule p holds s task w n t cost ∙ ap (λ k. going_state s task w k t [] cost) (sym (unclashed n)))

abbrev issued_to : MachineState → CoreTurn → MachineState
issued_to s t = joined (no_arrivals s) (idle_turn s.gates s.work.memory) t s

-- its next instruction goes on in its interval, and makes it owe this
issue_part : (rule : ReplacementRule) (p : Setup) (holds : Bool) (s : MachineState) (task : ℕ) (w w' : Work) (n n' : Counts) (t cost : ℕ) (owed : List Transaction) →
    core_turn rule p t (Issues task s.core.interval) w (going_state s task w n t [] 0).core n
    ≡ record { work = w'; core = core_issued t task s.core.interval Stay cost owed (going_state s task w n t [] 0).core; counts = n'; trapped = None } →
    own_part rule p holds (going_state s task w n t [] 0) ≡ going_state s task w' n' t owed (cost - 1)
issue_part rule p true s task w w' n n' t cost owed turn =
    let x = going_state s task w n t [] 0 in
    ap (λ k. issued_to x (core_turn rule p t (Issues task s.core.interval) w x.core k)) (sym (unclashed n)) ∙ ap (issued_to x) turn
issue_part rule p false s task w w' n n' t cost owed turn =
    let x = going_state s task w n t [] 0 in
    ap (λ k. issued_to x (core_turn rule p t (Issues task s.core.interval) w x.core k)) (sym (unclashed n)) ∙ ap (issued_to x) turn

pub issue_own : (rule : ReplacementRule) (p : Setup) (holds : Bool) (s : MachineState) (task : ℕ) (w w' : Work) (n n' : Counts) (t cost : ℕ)
    (owed : List Transaction) → is_full (going_state s task w n t [] 0) ≡ false →
    core_turn rule p t (Issues task s.core.interval) w (going_state s task w n t [] 0).core n
    ≡ record { work = w'; core = core_issued t task s.core.interval Stay cost owed (going_state s task w n t [] 0).core; counts = n'; trapped = None } →
    OwnCycle rule p holds No (going_state s task w n t [] 0) (going_state s task w' n' (t + 1) owed (cost - 1))
issue_own rule p holds s task w w' n n' t cost owed room turn =
    going_cycle rule p holds s task w w' n n' t 0 (cost - 1) owed room (issue_part rule p holds s task w w' n n' t cost owed turn)
