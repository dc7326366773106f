-- Two cores that run side by side.
use Rattle.std.proofs.Common.{◌≡◌, ◌≢◌, ℕ, suc, ◌+◌, ◌-◌, ◌≤◌, ◌<◌, Bool, true, false, List, [], None, refl, ap, sym, ◌∙◌, arith, length}
use Rattle.std.specs.Prelude.{◌&&◌, ◌||◌, if◌then◌else◌}
use Rattle.prem_pair.proofs.Prelude.{want_of, is_finished, is_full, log_size, Counts, Setup, MachineState, rule_in, is_held, wants, No, New, Request, items_of, ReplacementRule, unclashed}
use Rattle.prem_pair.proofs.Prelude.{has_room, put_out, state_of, setup_in, Parts, Setting, AreBoth, GoOn, pair_of, AreApart, own_cycle, own_part, IsGoing, OwnCycle, PairState}
use Rattle.prem_pair.proofs.Prelude.{both_finished, is_pair_over, one_trapped, pair_cycle, pair_cycles, wanted, holder_after, is_first, is_second, want_with, MayStretch, cycles_taken}
use Rattle.prem_pair.proofs.Prelude.{Arrives, core_done, move_had, Both, Holder, Nobody, First, Second, Gates}
use Rattle.prem_pair.proofs.CyclesLemmas.Apart.{own_cycles}
use Rattle.prem_pair.proofs.CyclesLemmas.OneCycle.{paired}
use Rattle.prem_pair.proofs.CyclesLemmas.Own.{holder_same, own_kept, own_one, stays_later}
use Rattle.prem_pair.proofs.CyclesLemmas.PairRuns.{pair_cycles-add, pair_step-goes}
use Rattle.prem_pair.proofs.Going.{one_rests}
use Rattle.prem_pair.proofs.Passes.{arrives_later}
use Rattle.prem_pair.proofs.Stretched.{going_unfinished, going_wants, none_taken}

-- ---- how many cycles are taken

taken_by : (t : Bool) (n : ℕ) → t ≡ false → n + (if t then 1 else 0) ≡ n
taken_by true n e = absurd (cc)
taken_by false n e = omega arith

pub taken_goes : (s t : PairState) → one_trapped t ≡ false → cycles_taken s t ≡ t.first.now - s.first.now
taken_goes s t e = taken_by (one_trapped t) (t.first.now - s.first.now) e

taken_one_by : (t : Bool) (n m : ℕ) → (t ≡ false → m ≡ n + 1) → (t ≡ true → m ≡ n) → m - n + (if t then 1 else 0) ≡ 1
taken_one_by true n m f g = omega (arith, g refl)
taken_one_by false n m f g = omega (arith, f refl)

-- one cycle, that of a trap too
pub taken_one : (s t : PairState) → (one_trapped t ≡ false → t.first.now ≡ s.first.now + 1) → (one_trapped t ≡ true → t.first.now ≡ s.first.now) → cycles_taken s t ≡ 1
taken_one s t f g = taken_one_by (one_trapped t) s.first.now t.first.now f g

pub one_taken : (rule other : ReplacementRule) (p q : Setup) (requests : List Request) (s t : PairState) → is_pair_over s ≡ false → t ≡ pair_cycle rule other p q requests s → cycles_taken s t ≡ 1 →
    t ≡ pair_cycles rule other p q requests (cycles_taken s t) s
unfolding pair_cycles
one_taken rule other p q requests s t on is one = is ∙ sym (pair_step-goes rule other p q requests s on) ∙ ap (λ k. pair_cycles rule other p q requests k s) (sym one)

pub none_were_taken : (rule other : ReplacementRule) (p q : Setup) (requests : List Request) (s : PairState) → one_trapped s ≡ false → s ≡ pair_cycles rule other p q requests (cycles_taken s s) s
none_were_taken rule other p q requests s e =
    none_taken rule other p q requests s.first.now s ∙ ap (λ k. pair_cycles rule other p q requests k s) (sym (taken_goes s s e))

-- ---- a cycle of both

want_none : (h : Holder) → want_with h No No ≢ New
want_none Nobody e = cc
want_none First e = cc
want_none Second e = cc
want_none Gates e = cc

pub apart_now : (until : ℕ) (requests : List Request) (s : PairState) → MayStretch until requests s → s.first.gates.carried ≡ None → s.first.now < until → AreApart requests s
apart_now until requests s may free lt =
    record {
      arrivals = λ k d below is. may.arrivals k d below 0 (omega (arith, lt)) (let e : s.first.now + 0 ≡ s.first.now = omega arith in is ∙ sym e);
      token = may.token;
      gates = may.gates;
      free = free;
      begins = may.begins;
      one = may.one;
    }

pub both_cycle : (rule other : ReplacementRule) (p q : Setup) (requests : List Request) (s : PairState) (x y : MachineState) → AreApart requests s → OwnCycle rule p (is_first s.holder) No s.first x →
    OwnCycle other q (is_second s.holder) No s.second y → paired x y s.holder ≡ pair_cycle rule other p q requests s
both_cycle rule other p q requests s x y apart c d =
    let h = s.holder in
    let stays : holder_after h (own_cycle rule p (is_first h) s.first).core (own_cycle other q (is_second h) s.second).core false ≡ h =
    ap (λ (z : MachineState). holder_after h z.core (own_cycle other q (is_second h) s.second).core false) c.next ∙ ap (λ (z : MachineState). holder_after h x.core z.core false) d.next
    ∙ holder_same h x y c.keeps d.keeps apart.gates in
    sym (own_cycles rule other p q requests s apart c.part d.part stays
    ∙ ap (λ z. paired z (own_cycle other q (is_second h) s.second) h) c.next ∙ ap (λ z. paired x z h) d.next)

-- behind a cycle of both they still don't touch each other
pub may_still : (rule other : ReplacementRule) (p q : Setup) (until task other_task : ℕ) (requests : List Request) (s : PairState)
    (x y : MachineState) → MayStretch until requests s → s.first.now < until →
    OwnCycle rule p (is_first s.holder) No s.first x → OwnCycle other q (is_second s.holder) No s.second y → IsGoing task x → IsGoing other_task y → MayStretch until requests (paired x y s.holder)
may_still rule other p q until task other_task requests s x y may lt c d going going2 =
    let h = s.holder in
    let k = own_kept rule p (is_first h) No s.first 1 x (own_one rule p (is_first h) No s.first x c) in
    let l = own_kept other q (is_second h) No s.second 1 y (own_one other q (is_second h) No s.second y d) in
    let want : wanted (paired x y h) ≡ want_with h No No = ap (λ z. want_with h z (want_of y.core.debt)) (going_wants task x going) ∙ ap (want_with h No) (going_wants other_task y going2) in
    record {
      from = omega (arith, lt, c.time);
      arrivals = λ i r below m less is. may.arrivals i r below (suc m) (omega (arith, less, c.time, lt)) (let e : x.now + m ≡ s.first.now + suc m = omega (arith, c.time) in is ∙ e);
      token = stays_later h 1 s x y k l may.token;
      gates = may.gates;
      begins = λ is. want_none h (sym want ∙ is);
      one = ap (λ z. wants z && wants (want_of y.core.debt)) (going_wants task x going);
    }

over_by : (fin trapped f g : Bool) → fin ≡ false → trapped ≡ false → f ≡ false → g ≡ false → (fin || trapped || (f || g)) ≡ false
over_by true t f g a b c d = absurd (cc)
over_by false true f g a b c d = absurd (cc)
over_by false false true g a b c d = absurd (cc)
over_by false false false true a b c d = absurd (cc)
over_by false false false false a b c d = refl

pub goes_both : (task : ℕ) (s : PairState) → IsGoing task s.first → one_trapped s ≡ false → is_full s.first ≡ false → is_full s.second ≡ false → is_pair_over s ≡ false
goes_both task s going t f g =
    over_by (both_finished s) (one_trapped s) (is_full s.first) (is_full s.second) (one_rests (is_finished s.first) (is_finished s.second) (going_unfinished task s.first going)) t f g

-- ---- core 1 does the cycle that core 0 has done

and_no : (a b : Bool) → b ≡ false → false ≡ (a && b)
and_no true b e = sym e
and_no false b e = refl

pub own_done : (q : Setup) (holds : Bool) (s : MachineState) → want_of s.core.debt ≡ No → core_done q (move_had holds false q s.now s.sched s.work s.core) s ≡ own_part (rule_in q) q holds s
own_done q holds s none =
    let had : false ≡ (holds && is_held (want_of s.core.debt)) = and_no holds (is_held (want_of s.core.debt)) (ap is_held none) in
    ap (λ v. core_done q (move_had holds v q s.now s.sched s.work s.core) s) had
    ∙ ap (λ (n : Counts). core_done q (move_had holds (holds && is_held (want_of s.core.debt)) q s.now s.sched s.work s.core) (record s { log = record s.log { counts = n } })) (unclashed s.log.counts)

-- ---- their parts

pub arrives_next : {P : Type 0} (until : ℕ) (requests : List Request) (s : PairState) (x : Parts P) → Arrives x.now requests x →
    MayStretch until requests s → s.first.now ≡ x.now → x.now < until → Arrives (x.now + 1) requests x
arrives_next until requests s x r may same lt =
    arrives_later requests x (x.now + 1) r (omega arith)
    (λ k d below m less is. may.arrivals k d below m (omega (arith, less, lt, same)) (let e : x.now + m ≡ s.first.now + m = omega (arith, same) in is ∙ e))

-- ---- cycles of both that follow each other

-- so far, with room for so many words more
pub record BothSoFar {P Q : Type 0} (p q : Setting) (requests : List Request) (task other until : ℕ) (from x : Both P Q) (left : ℕ) : Type 0 where
  pub state : pair_of x ≡ pair_cycles (rule_in (setup_in p)) (rule_in (setup_in q)) (setup_in p) (setup_in q) requests (x.first.now - from.first.now) (pair_of from)
  pub stands : AreBoth p q requests x
  pub goes : GoOn requests x
  pub trapped : one_trapped (pair_of x) ≡ false
  pub may : MayStretch until requests (pair_of x)
  pub going : IsGoing task (state_of x.first)
  pub other_going : IsGoing other (state_of x.second)
  pub begun : from.first.now ≤ x.first.now
  pub room : put_out (items_of x.first.facts.tasks) + left ≤ log_size
  pub other_room : put_out (items_of x.second.facts.tasks) + left ≤ log_size
  pub intervals : length (items_of x.first.facts.intervals) < log_size
  pub other_intervals : length (items_of x.second.facts.intervals) < log_size

pub so_far_goes : {P Q : Type 0} (p q : Setting) (requests : List Request) (task other until : ℕ) (from x : Both P Q) (left : ℕ) →
    BothSoFar p q requests task other until from x left → 1 ≤ left → is_pair_over (pair_of x) ≡ false
so_far_goes p q requests task other until from x left f some =
    goes_both task (pair_of x) f.going f.trapped (has_room p requests x.first f.stands.first (omega (arith, f.room, some)) f.intervals)
    (has_room q [] x.second f.stands.second (omega (arith, f.other_room, some)) f.other_intervals)

-- behind more cycles
pub taken_then : (rule other : ReplacementRule) (p q : Setup) (requests : List Request) (s t u : PairState) →
    t ≡ pair_cycles rule other p q requests (t.first.now - s.first.now) s → u ≡ pair_cycles rule other p q requests (cycles_taken t u) t →
    s.first.now ≤ t.first.now → t.first.now ≤ u.first.now → u ≡ pair_cycles rule other p q requests (cycles_taken s u) s
taken_then rule other p q requests s t u first then_ le more =
    let e : t.first.now - s.first.now + cycles_taken t u ≡ cycles_taken s u = sums (one_trapped u) in
    then_ ∙ ap (pair_cycles rule other p q requests (cycles_taken t u)) first ∙ sym (pair_cycles-add rule other p q requests (t.first.now - s.first.now) (cycles_taken t u) s)
    ∙ ap (λ k. pair_cycles rule other p q requests k s) e
  where
    sums : (b : Bool) → t.first.now - s.first.now + (u.first.now - t.first.now + (if b then 1 else 0)) ≡ u.first.now - s.first.now + (if b then 1 else 0)
    sums true = omega (arith, le, more)
    sums false = omega (arith, le, more)
