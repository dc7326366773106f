-- So many cycles of rest of two cores come to one step.
use Rattle.std.proofs.Common.{◌≡◌, ◌≢◌, ℕ, zero, suc, ◌+◌, ◌≤◌, Bool, true, false, cond, List, Option, Some, None, refl, ap, sym, ◌∙◌, subst, arith, All}
use Rattle.std.specs.Prelude.{◌||◌, ◌&&◌, not, is_some, if◌then◌else◌}
use Rattle.prem_pair.proofs.Prelude.{within_less, state_with, CoreMove, core_turn, want_of, is_finished, joined, next_cycle, with_clash, with_memory, one_if, Within, Setup, CoreState, Log}
use Rattle.prem_pair.proofs.Prelude.{MachineState, Trap, quiet_free, quiet_gates, quiet_memory, quiet_turn, GatesState, Turned, bus_turn, is_held, wants, OnlyGoesOn, bus_run, changes}
use Rattle.prem_pair.proofs.Prelude.{CoreWant, Held, Request, ReplacementRule, PairState, clashes, is_pair_over, no_arrivals, one_full, one_trapped, pair_cycle, pair_cycles, pair_step}
use Rattle.prem_pair.proofs.Prelude.{IsSteadyPair, PairRests, core_passed_with, pair_passed, rest_with, stays_with, turns_passed, wanted, asks, empty_window, frees, holder_after, is_first}
use Rattle.prem_pair.proofs.Prelude.{is_gates, is_second, some_wait, two_want, want_with, Holder, Nobody, First, Second, Gates}
use Rattle.prem_pair.proofs.CyclesLemmas.OneCycle.{IsCalm, SideGoes, calm_goes, paired, side, turn_in, turned}
use Rattle.prem_pair.proofs.CyclesLemmas.PairRuns.{pair_step-goes}
use Rattle.prem_pair.proofs.CyclesLemmas.Waiting.{asks_kept, finished_kept, frees_kept, rest_move, rest_stays, want_kept, zero_with}

-- ---- truth values

pub unnot : (b : Bool) → not b ≡ true → b ≡ false
unnot true e = absurd (cc)
unnot false e = refl

pub none_of : (a b c : Bool) → not (a || b || c) ≡ true → (a ≡ false) × ((b ≡ false) × (c ≡ false))
none_of true b c e = absurd (cc)
none_of false true c e = absurd (cc)
none_of false false true e = absurd (cc)
none_of false false false e = (refl, (refl, refl))

-- ---- a core's state by its parts

abbrev pub with_clashes : ℕ → Log → Log
with_clashes n log = record log { counts = record log.counts { clashes = n } }

-- behind so many cycles, with other gates and another count of clashes
abbrev pub waited : (holds : Bool) → ℕ → GatesState → ℕ → MachineState → MachineState
waited holds n gates clashes s =
    state_with (s.now + n) s.work s.sched (core_passed_with holds n s.core) gates (with_clashes clashes s.log) s.trapped

-- ---- a core's part of one more cycle

-- what the move makes of it
abbrev moved_to : ReplacementRule → Setup → (had clash : Bool) → GatesState → MachineState → CoreMove → MachineState
moved_to rule p had clash gates t m =
    let b = turned gates t.work.memory had clash None in
    joined (no_arrivals t) b (core_turn rule p t.now m (with_memory b.memory t.work) t.core (with_clash b.turn.clash t.log.counts)) t

abbrev acted_to : (holds clash : Bool) → ℕ → GatesState → ℕ → MachineState → MachineState
acted_to holds clash n gates count s =
    state_with (s.now + n) s.work s.sched (core_passed_with holds (suc n) s.core) gates (with_clashes (count + one_if clash) s.log) None

pub side_goes : (rule : ReplacementRule) (p : Setup) (holds had clash : Bool) (n count : ℕ) (before after : GatesState) (s : MachineState) → s.trapped ≡ None → All (λ j. 1 ≤ j.period) s.sched →
    had ≡ (holds && is_held (want_of s.core.debt)) → Within (suc n) (rest_with holds s) →
    SideGoes rule p holds had clash after (waited holds n before count s) (waited holds (suc n) after (count + one_if clash) s)
side_goes rule p holds had clash n count before after s none periods has rests =
    let e : s.now + n + 1 ≡ s.now + suc n = omega arith in
    let core = core_passed_with holds (suc n) s.core in
    let log = with_clashes (count + one_if clash) s.log in
    let acts : side rule p holds had clash after (waited holds n before count s) ≡ acted_to holds clash n after count s =
    ap (moved_to rule p had clash after (waited holds n before count s)) (rest_move p holds had n s.work s periods has rests) in
    record {
      goes = ap (λ (x : MachineState). is_some x.trapped) acts;
      next = ap next_cycle acts
          ∙ rest_stays holds n s (state_with (s.now + n + 1) s.work s.sched core after log None) rests refl e
          ∙ ap (λ t. state_with t s.work s.sched core after log None) e
          ∙ ap (state_with (s.now + suc n) s.work s.sched core after log) (sym none);
    }

pub zero_side : (holds : Bool) (count : ℕ) (s : MachineState) → count ≡ s.log.counts.clashes → waited holds 0 s.gates count s ≡ s
zero_side holds count s e =
    let t : s.now + 0 ≡ s.now = omega arith in
    ap (λ n. state_with n s.work s.sched (core_passed_with holds 0 s.core) s.gates (with_clashes count s.log) s.trapped) t
    ∙ ap (λ c. state_with s.now s.work s.sched c s.gates (with_clashes count s.log) s.trapped) (zero_with holds s.core)
    ∙ ap (λ n. state_with s.now s.work s.sched s.core s.gates (with_clashes n s.log) s.trapped) e

-- ---- the token

-- the gates want nothing of the bus as a core does
pub core_holds : (h : Holder) (v w : CoreWant) → want_with h v w ≡ Held → h ≢ Gates
core_holds Gates v w e g = cc
core_holds Nobody v w e g = cc
core_holds First v w e g = cc
core_holds Second v w e g = cc

holder_stays : (h : Holder) (s : PairState) (c d : CoreState) → frees c ≡ frees s.first.core → frees d ≡ frees s.second.core → stays_with h s ≡ true → holder_after h c d false ≡ h
holder_stays Nobody s c d ec ed e = refl
holder_stays First s c d ec ed e = ap (λ b. cond b Nobody First) (ec ∙ unnot (frees s.first.core) e)
holder_stays Second s c d ec ed e = ap (λ b. cond b Nobody Second) (ed ∙ unnot (frees s.second.core) e)
holder_stays Gates s c d ec ed e = refl

-- ---- fewer cycles

fewer : (m n : ℕ) (requests : List Request) (s : PairState) → m ≤ n → PairRests n requests s → PairRests m requests s
fewer m n requests s le h =
    record {
      arrivals = λ k d lt j less. h.arrivals k d lt j (omega (arith, le, less));
      token = h.token;
      gates = λ k memory lt. h.gates k memory (omega (arith, le, lt));
      first = within_less m n (rest_with (is_first s.holder) s.first) le h.first;
      second = within_less m n (rest_with (is_second s.holder) s.second) le h.second;
    }

-- ---- it goes on

abbrev over_by : Bool → Bool → PairState → Bool
over_by f g s = (f && g) || one_trapped s || one_full s

pub passed_goes : (n : ℕ) (s : PairState) → is_pair_over (pair_passed n s) ≡ is_pair_over s
passed_goes n s =
    ap (λ f. over_by f (is_finished (pair_passed n s).second) s) (finished_kept (is_first s.holder) n s.first)
    ∙ ap (λ g. over_by (is_finished s.first) g s) (finished_kept (is_second s.holder) n s.second)

none_trapped : (fin : Bool) (t u : Option Trap) (full : Bool) → (fin || (is_some t || is_some u) || full) ≡ false → (t ≡ None) × (u ≡ None)
none_trapped true t u full e = absurd (cc)
none_trapped false (Some t) u full e = absurd (cc)
none_trapped false None (Some u) full e = absurd (cc)
none_trapped false None None full e = (refl, refl)

pub untrapped : (s : PairState) → is_pair_over s ≡ false → (s.first.trapped ≡ None) × (s.second.trapped ≡ None)
untrapped s e = none_trapped (is_finished s.first && is_finished s.second) s.first.trapped s.second.trapped (one_full s) e

-- ---- one more cycle

clash_more : (b : Bool) (m n : ℕ) → m + (if b then n else 0) + one_if b ≡ m + (if b then suc n else 0)
clash_more true m n = omega arith
clash_more false m n = omega arith

module _ (rule other : ReplacementRule) (p q : Setup) (requests : List Request) (n : ℕ) (s : PairState) (steady : IsSteadyPair s) (rests : PairRests (suc n) requests s) where
  abbrev h : Holder
  h = s.holder

  abbrev t : PairState
  t = pair_passed n s

  abbrev gates : GatesState
  gates = (turns_passed n s).gates

  before : PairRests n requests s
  before = fewer n (suc n) requests s (omega arith) rests

  none : (s.first.trapped ≡ None) × (s.second.trapped ≡ None)
  none = untrapped s steady.going

  free : wanted s ≡ Held → s.first.gates.carried ≡ None
  free held = steady.free (core_holds h (want_of s.first.core.debt) (want_of s.second.core.debt) held)

  memory : (turns_passed n s).memory ≡ s.first.work.memory
  memory = quiet_memory n s.first.now empty_window (wanted s) s.first.gates s.first.work.memory free before.gates

  -- nobody comes to ask for a free token
  quiet_token : h ≡ Nobody → (asks t.first ≡ false) × ((asks t.second ≡ false) × (some_wait gates.gates ≡ false))
  quiet_token is =
      let stays : stays_with Nobody s ≡ true = subst (λ v. stays_with v s ≡ true) is rests.token in
      let e = none_of (asks s.first) (asks s.second) (some_wait s.first.gates.gates) stays in
      let same = quiet_gates n s.first.now empty_window (wanted s) s.first.gates s.first.work.memory before.gates in (
        asks_kept (is_first h) n n s.first steady.periods (ap is_first is) rests.first ∙ e.0,
        (asks_kept (is_second h) n n s.second steady.other_periods (ap is_second is) rests.second ∙ e.1.0, ap some_wait same ∙ e.1.1),
      )

  first_want : want_of t.first.core.debt ≡ want_of s.first.core.debt
  first_want = want_kept (is_first h) n s.first.core

  second_want : want_of t.second.core.debt ≡ want_of s.second.core.debt
  second_want = want_kept (is_second h) n s.second.core

  same_wanted : wanted t ≡ wanted s
  same_wanted = ap (λ v. want_with h v (want_of t.second.core.debt)) first_want ∙ ap (want_with h (want_of s.first.core.debt)) second_want

  same_clashes : clashes h t ≡ clashes h s
  same_clashes =
      ap (λ v. two_want (wants v) (wants (want_of t.second.core.debt)) (is_gates h)) first_want
      ∙ ap (λ v. two_want (wants (want_of s.first.core.debt)) (wants v) (is_gates h)) second_want

  -- the bus of the cycle
  abbrev b : Turned
  b = bus_turn (s.first.now + n) empty_window (wanted s) gates (turns_passed n s).memory

  same_turn : b ≡ turn_in t
  same_turn =
      ap (λ v. bus_turn (s.first.now + n) empty_window v gates (turns_passed n s).memory) (sym same_wanted)
      ∙ ap (bus_turn (s.first.now + n) empty_window (wanted t) gates) memory

  quiet : changes (s.first.now + n) empty_window (wanted s) gates (turns_passed n s).memory ≡ false
  quiet = rests.gates n s.first.work.memory (omega arith)

  goes : OnlyGoesOn (wanted s) gates (turns_passed n s).memory b
  goes =
      quiet_turn (s.first.now + n) empty_window (wanted s) gates (turns_passed n s).memory
      (λ held. quiet_free n s.first.now empty_window (wanted s) s.first.gates s.first.work.memory before.gates (free held)) quiet

  calm : IsCalm requests t
  calm =
      let P : CoreWant → Type 0 = λ w. OnlyGoesOn w gates s.first.work.memory (turn_in t) in
      let Q : List ℕ → Type 0 = λ m. OnlyGoesOn (wanted s) gates m (turn_in t) in
      let R : Turned → Type 0 = λ v. OnlyGoesOn (wanted s) gates (turns_passed n s).memory v in
      record {
        none = λ k d lt. rests.arrivals k d lt n (omega arith);
        token = quiet_token;
        turn = subst P (sym same_wanted) (subst Q memory (subst R same_turn goes));
      }

  abbrev so_far : ℕ
  so_far = s.first.log.counts.clashes + (if clashes h s then n else 0)

  abbrev first_after : MachineState
  first_after = waited (is_first h) (suc n) b.gates (s.first.log.counts.clashes + (if clashes h s then suc n else 0)) s.first

  abbrev second_after : MachineState
  second_after = waited (is_second h) (suc n) s.second.gates s.second.log.counts.clashes s.second

  first_goes : SideGoes rule p (is_first h) (is_first h && is_held (want_of t.first.core.debt)) (clashes h t) (turn_in t).gates t.first first_after
  first_goes =
      let G : Bool → Bool → GatesState → MachineState → Type 0 = λ had clash g x. SideGoes rule p (is_first h) had clash g t.first x in
      let had = ap (λ v. is_first h && is_held v) first_want in
      let one = side_goes rule p (is_first h) (is_first h && is_held (want_of s.first.core.debt)) (clashes h s) n so_far gates b.gates s.first none.0 steady.periods refl rests.first in
      let two = subst (λ k. G (is_first h && is_held (want_of s.first.core.debt)) (clashes h s) b.gates
      (waited (is_first h) (suc n) b.gates k s.first)) (clash_more (clashes h s) s.first.log.counts.clashes n) one in
      let three = subst (λ v. G v (clashes h s) b.gates first_after) (sym had) two in
      let four = subst (λ v. G (is_first h && is_held (want_of t.first.core.debt)) v b.gates first_after) (sym same_clashes) three in
      subst (λ (v : Turned). G (is_first h && is_held (want_of t.first.core.debt)) (clashes h t) v.gates first_after) same_turn four

  second_goes : SideGoes other q (is_second h) (is_second h && is_held (want_of t.second.core.debt)) false t.second.gates t.second second_after
  second_goes =
      let G : Bool → MachineState → Type 0 = λ had x. SideGoes other q (is_second h) had false s.second.gates t.second x in
      let had = ap (λ v. is_second h && is_held v) second_want in
      let e : s.second.log.counts.clashes + 0 ≡ s.second.log.counts.clashes = omega arith in
      let one = side_goes other q (is_second h) (is_second h && is_held (want_of s.second.core.debt))
      false n s.second.log.counts.clashes s.second.gates s.second.gates s.second none.1 steady.other_periods refl rests.second in
      let two = subst (λ k. G (is_second h && is_held (want_of s.second.core.debt)) (waited (is_second h) (suc n) s.second.gates k s.second)) e one in
      subst (λ v. G v second_after) (sym had) two

  cycle_next : pair_cycle rule other p q requests t ≡ pair_passed (suc n) s
  unfolding bus_run
  cycle_next =
      calm_goes rule other p q requests t first_after second_after calm first_goes second_goes
      (holder_stays h s first_after.core second_after.core (frees_kept (is_first h) (suc n) s.first.core) (frees_kept (is_second h) (suc n) s.second.core) rests.token)

-- ---- so many

zero_pair : (s : PairState) → pair_passed 0 s ≡ s
unfolding bus_run
zero_pair s =
    let e : (b : Bool) → s.first.log.counts.clashes + (if b then 0 else 0) ≡ s.first.log.counts.clashes = zero_clashes s.first.log.counts.clashes in
    ap (λ x. paired x (pair_passed 0 s).second s.holder) (zero_side (is_first s.holder) (s.first.log.counts.clashes + (if clashes s.holder s then 0 else 0)) s.first (e (clashes s.holder s)))
    ∙ ap (λ x. paired s.first x s.holder) (zero_side (is_second s.holder) s.second.log.counts.clashes s.second refl) where
      zero_clashes : (m : ℕ) (b : Bool) → m + (if b then 0 else 0) ≡ m
      zero_clashes m true = omega arith
      zero_clashes m false = omega arith

pub pair_one_step : (rule other : ReplacementRule) (p q : Setup) (requests : List Request) (n : ℕ) (s : PairState) → IsSteadyPair s → PairRests n requests s →
    pair_cycles rule other p q requests n s ≡ pair_passed n s
unfolding pair_cycles
pair_one_step rule other p q requests zero s steady rests = sym (zero_pair s)
pair_one_step rule other p q requests (suc n) s steady rests =
    ap (pair_step rule other p q requests) (pair_one_step rule other p q requests n s steady (fewer n (suc n) requests s (omega arith) rests))
    ∙ pair_step-goes rule other p q requests (pair_passed n s) (passed_goes n s ∙ steady.going) ∙ cycle_next rule other p q requests n s steady rests
