-- One core that runs while the other rests.
use Rattle.std.proofs.Common.{◌≡◌, ℕ, zero, ◌-◌, ◌≤◌, Bool, true, false, List, refl, ap, sym, ◌∙◌, arith}
use Rattle.std.specs.Prelude.{◌&&◌, ◌||◌}
use Rattle.prem_pair.proofs.Prelude.{not_ended, want_of, is_finished, is_finished_in, is_full, Within, Debt, Setup, Transaction, MachineState, wants, No, Request, ReplacementRule, less_arrive, IsGoing}
use Rattle.prem_pair.proofs.Prelude.{MayRunApart, OwnRun, PairState, both_finished, is_pair_over, one_trapped, pair_cycles, IsSteadyPair, rest_with, side_passed, stays_with, frees, is_first}
use Rattle.prem_pair.proofs.Prelude.{is_second, want_with, MayStretch, Holder, Nobody, First, Second, Gates}
use Rattle.prem_pair.proofs.CyclesLemmas.OneCycle.{paired}
use Rattle.prem_pair.proofs.CyclesLemmas.Own.{own_runs, rest_own}
use Rattle.prem_pair.proofs.CyclesLemmas.Rests.{unnot, untrapped}
use Rattle.prem_pair.proofs.Going.{one_rests}

pub none_taken : (rule other : ReplacementRule) (p q : Setup) (requests : List Request) (n : ℕ) (s : PairState) → s ≡ pair_cycles rule other p q requests (n - n) s
unfolding pair_cycles
none_taken rule other p q requests n s = let z : zero ≡ n - n = omega arith in ap (λ k. pair_cycles rule other p q requests k s) z

-- ---- what holds at the start

abbrev with_transactions : Debt → List Transaction → Debt
with_transactions d ns = record d { transactions = ns }

pub going_wants : (task : ℕ) (s : MachineState) → IsGoing task s → want_of s.core.debt ≡ No
going_wants task s h = ap (λ ns. want_of (with_transactions s.core.debt ns)) h.transactions

pub going_unfinished : (task : ℕ) (s : MachineState) → IsGoing task s → is_finished s ≡ false
going_unfinished task s h = ap (is_finished_in s.now s.sched) h.mode

full_by : (fin trapped f g : Bool) → (fin || trapped || (f || g)) ≡ false → (f ≡ false) × (g ≡ false)
full_by true trapped f g e = absurd (cc)
full_by false true f g e = absurd (cc)
full_by false false true g e = absurd (cc)
full_by false false false true e = absurd (cc)
full_by false false false false e = (refl, refl)

-- both logs have room
pub none_full : (s : PairState) → is_pair_over s ≡ false → (is_full s.first ≡ false) × (is_full s.second ≡ false)
none_full s e = full_by (both_finished s) (one_trapped s) (is_full s.first) (is_full s.second) e

first_keeps : (h : Holder) (s : PairState) → stays_with h s ≡ true → is_first h ≡ true → frees s.first.core ≡ false
first_keeps Nobody s e f = absurd (cc)
first_keeps First s e f = unnot (frees s.first.core) e
first_keeps Second s e f = absurd (cc)
first_keeps Gates s e f = absurd (cc)

second_keeps : (h : Holder) (s : PairState) → stays_with h s ≡ true → is_second h ≡ true → frees s.second.core ≡ false
second_keeps Nobody s e f = absurd (cc)
second_keeps First s e f = absurd (cc)
second_keeps Second s e f = unnot (frees s.second.core) e
second_keeps Gates s e f = absurd (cc)

-- ---- the cycles of both

pub apart_first : (rule other : ReplacementRule) (p q : Setup) (requests : List Request) (n until task : ℕ) (s : PairState) (x : MachineState) →
    IsSteadyPair s → MayStretch until requests s → IsGoing task s.first →
    n ≤ until - s.first.now → Within n (rest_with (is_second s.holder) s.second) → OwnRun rule p (is_first s.holder) No s.first n x →
    paired x (side_passed (is_second s.holder) n s.second) s.holder ≡ pair_cycles rule other p q requests n s
apart_first rule other p q requests n until task s x steady may going le rests own =
    let w = want_of s.second.core.debt in
    let want = going_wants task s.first going in
    let free : MayRunApart n requests No w s =
    record {
      arrivals = less_arrive n (until - s.first.now) s.first.now requests le may.arrivals;
      token = may.token;
      gates = may.gates;
      free = steady.free may.gates;
      begins = λ is. may.begins (ap (λ v. want_with s.holder v w) want ∙ is);
      one = ap (λ v. wants v && wants w) (sym want) ∙ may.one;
      unfinished = one_rests (is_finished s.first) (is_finished s.second) (going_unfinished task s.first going);
    } in
    let rest = rest_own other q (is_second s.holder) s.second steady.other_periods (untrapped s steady.going).1 (none_full s steady.going).1 (second_keeps s.holder s may.token) n rests in
    sym (own_runs rule other p q requests n s No w x (side_passed (is_second s.holder) n s.second) free own rest)

pub apart_second : (rule other : ReplacementRule) (p q : Setup) (requests : List Request) (n until task : ℕ) (s : PairState) (x : MachineState) →
    IsSteadyPair s → MayStretch until requests s → IsGoing task s.second →
    n ≤ until - s.first.now → Within n (rest_with (is_first s.holder) s.first) → OwnRun other q (is_second s.holder) No s.second n x →
    paired (side_passed (is_first s.holder) n s.first) x s.holder ≡ pair_cycles rule other p q requests n s
apart_second rule other p q requests n until task s x steady may going le rests own =
    let v = want_of s.first.core.debt in
    let want = going_wants task s.second going in
    let free : MayRunApart n requests v No s =
    record {
      arrivals = less_arrive n (until - s.first.now) s.first.now requests le may.arrivals;
      token = may.token;
      gates = may.gates;
      free = steady.free may.gates;
      begins = λ is. may.begins (ap (want_with s.holder v) want ∙ is);
      one = ap (λ w. wants v && wants w) (sym want) ∙ may.one;
      unfinished = not_ended (is_finished s.first) (is_finished s.second) (going_unfinished task s.second going);
    } in
    let rest = rest_own rule p (is_first s.holder) s.first steady.periods (untrapped s steady.going).0 (none_full s steady.going).0 (first_keeps s.holder s may.token) n rests in
    sym (own_runs rule other p q requests n s v No (side_passed (is_first s.holder) n s.first) x free rest own)
