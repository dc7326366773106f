-- Cycles in which two cores don't touch each other.
use Rattle.std.proofs.Common.{◌≡◌, ◌≢◌, ℕ, ◌+◌, ◌-◌, ◌≤◌, Bool, true, false, cond, List, Option, Some, None, refl, ap, sym, ◌∙◌, subst, arith}
use Rattle.std.specs.Prelude.{max, ◌&&◌, is_some}
use Rattle.prem_pair.proofs.Prelude.{want_of, with_now, Setup, MachineState, next_held, next_none, quiet_turn, GatesState, is_held, wants, with_carried, AreQuiet, OnlyGoesOn, bus_run}
use Rattle.prem_pair.proofs.Prelude.{changes, fits_any, least_cost, transfer_left, with_transfer, CoreWant, No, New, Held, Request, ReplacementRule, AreApart, own_cycle, own_part, OwnCycle}
use Rattle.prem_pair.proofs.Prelude.{PairState, both_ticked, clashes, ended_in_place, pair_cycle, second_done, stays_with, wanted, asks, empty_window, holder_after, is_first, is_gates}
use Rattle.prem_pair.proofs.Prelude.{is_second, some_wait, two_want, Holder, Nobody, First, Second, Gates, nat_tests}
use Rattle.prem_pair.proofs.CyclesLemmas.OneCycle.{IsCalm, SideGoes, calm_cycle, calm_goes, first_side, paired, side, turn_in}
use Rattle.prem_pair.proofs.CyclesLemmas.Rests.{none_of}

-- ---- the bus

never_fits : (u : ℕ) (cost : Option ℕ) → 1 ≤ u → fits_any u empty_window cost ≡ false
never_fits u None some = refl
never_fits u (Some cost) some = grind (arith, nat_tests)

quiet_here : (now : ℕ) (core : CoreWant) (g : GatesState) (memory : List ℕ) → AreQuiet (now + 1 - now) now empty_window core g → changes now empty_window core g memory ≡ false
unfolding bus_run
quiet_here now core g memory quiet =
    let e : now + 0 ≡ now = omega arith in
    ap (λ k. changes k empty_window core g memory) (sym e) ∙ quiet 0 memory (omega arith)

-- without the gates' token the bus starts and ends nothing, but where a transaction begins
quiet_bus : (now : ℕ) (core : CoreWant) (g : GatesState) (memory : List ℕ) → g.carried ≡ None → core ≢ New → changes now empty_window core g memory ≡ false
quiet_bus now No g memory free ne =
    quiet_here now No g memory (next_none now empty_window g (now + 1) free (omega arith) (never_fits (max now 1) (least_cost g.gates) (omega arith))).quiet
quiet_bus now New g memory free ne = absurd (ne refl)
quiet_bus now Held g memory free ne = quiet_here now Held g memory (next_held now empty_window g (now + 1) free (omega arith)).quiet

same_gates : (n : ℕ) (g : GatesState) → g.carried ≡ None → with_carried g (with_transfer n g.carried) ≡ g
same_gates n g none = ap (λ o. with_carried g (with_transfer n o)) none ∙ ap (with_carried g) (sym none)

-- ---- a cycle

no_gates : (h : Holder) → h ≢ Gates → is_gates h ≡ false
no_gates Nobody ne = refl
no_gates First ne = refl
no_gates Second ne = refl
no_gates Gates ne = absurd (ne refl)

not_two : (x y z : Bool) → z ≡ false → (x && y) ≡ false → two_want x y z ≡ false
not_two true true z e f = absurd (cc)
not_two true false true e f = absurd (cc)
not_two true false false e f = refl
not_two false true true e f = absurd (cc)
not_two false true false e f = refl
not_two false false z e f = refl

abbrev quiet_token : PairState → Type 0
quiet_token s = s.holder ≡ Nobody → (asks s.first ≡ false) × ((asks s.second ≡ false) × (some_wait s.first.gates.gates ≡ false))

token_is : (s : PairState) → stays_with s.holder s ≡ true → quiet_token s
token_is s stays is = none_of (asks s.first) (asks s.second) (some_wait s.first.gates.gates) (subst (λ v. stays_with v s ≡ true) is stays)

module _ (requests : List Request) (s : PairState) (apart : AreApart requests s) where
  goes : OnlyGoesOn (wanted s) s.first.gates s.first.work.memory (turn_in s)
  goes =
      quiet_turn s.first.now empty_window (wanted s) s.first.gates s.first.work.memory (λ held. apart.free)
      (quiet_bus s.first.now (wanted s) s.first.gates s.first.work.memory apart.free apart.begins)

  pub apart_calm : IsCalm requests s
  apart_calm = record { none = apart.arrivals; token = token_is s apart.token; turn = goes }

  gates_stay : (turn_in s).gates ≡ s.first.gates
  gates_stay = goes.gates ∙ same_gates (transfer_left (turn_in s).gates.carried) s.first.gates apart.free

  no_clash : clashes s.holder s ≡ false
  no_clash = not_two (wants (want_of s.first.core.debt)) (wants (want_of s.second.core.debt)) (is_gates s.holder) (no_gates s.holder apart.gates) apart.one

-- the cycle by its parts
pub apart_cycle : (rule other : ReplacementRule) (p q : Setup) (requests : List Request) (s : PairState) → AreApart requests s → pair_cycle rule other p q requests s
    ≡ cond (is_some (own_part rule p (is_first s.holder) s.first).trapped) (paired (own_part rule p (is_first s.holder) s.first) s.second s.holder)
    (second_done s.holder (turn_in s) (own_part rule p (is_first s.holder) s.first) (own_part other q (is_second s.holder) s.second))
apart_cycle rule other p q requests s apart =
    let h = s.holder in
    let had = is_first h && is_held (want_of s.first.core.debt) in
    let g = own_part other q (is_second h) s.second in
    let first : first_side rule p s ≡ own_part rule p (is_first h) s.first =
    ap (λ c. side rule p (is_first h) had c (turn_in s).gates s.first) (no_clash requests s apart) ∙ ap (λ k. side rule p (is_first h) had false k s.first) (gates_stay requests s apart) in
    calm_cycle rule other p q requests s (apart_calm requests s apart)
    ∙ ap (λ (x : MachineState). cond (is_some x.trapped) (paired x s.second h) (second_done h (turn_in s) x g)) first

-- where core 0 has done its cycle and core 1 does its own, core 1 traps or both go on
pub catch_stops : (rule other : ReplacementRule) (p q : Setup) (requests : List Request) (s : PairState) (x : MachineState) → AreApart requests s → OwnCycle rule p (is_first s.holder) No s.first x →
    is_some (own_part other q (is_second s.holder) s.second).trapped ≡ true →
    pair_cycle rule other p q requests s ≡ paired (with_now x s.first.now) (own_part other q (is_second s.holder) s.second) s.holder
catch_stops rule other p q requests s x apart own traps =
    let h = s.holder in
    let f = own_part rule p (is_first h) s.first in
    let g = own_part other q (is_second h) s.second in
    let all : PairState = both_ticked h (turn_in s) f g in
    apart_cycle rule other p q requests s apart
    ∙ ap (λ v. cond v (paired f s.second h) (second_done h (turn_in s) f g)) own.part
    ∙ ap (λ v. cond v (paired (ended_in_place f) g h) all) traps
    ∙ ap (λ (z : MachineState). paired (with_now z s.first.now) g h) own.next

pub catch_goes : (rule other : ReplacementRule) (p q : Setup) (requests : List Request) (s : PairState) (x : MachineState) → AreApart requests s → OwnCycle rule p (is_first s.holder) No s.first x →
    is_some (own_part other q (is_second s.holder) s.second).trapped ≡ false →
    pair_cycle rule other p q requests s
    ≡ paired x (own_cycle other q (is_second s.holder) s.second) (holder_after s.holder x.core (own_cycle other q (is_second s.holder) s.second).core false)
catch_goes rule other p q requests s x apart own goes_on =
    let h = s.holder in
    let f = own_part rule p (is_first h) s.first in
    let g = own_part other q (is_second h) s.second in
    let y = own_cycle other q (is_second h) s.second in
    let all : PairState = both_ticked h (turn_in s) f g in
    let calm = apart_calm requests s apart in
    apart_cycle rule other p q requests s apart
    ∙ ap (λ v. cond v (paired f s.second h) (second_done h (turn_in s) f g)) own.part
    ∙ ap (λ v. cond v (paired (ended_in_place f) g h) all) goes_on
    ∙ ap (λ (z : MachineState). paired z y (holder_after h z.core y.core (is_some (turn_in s).turn.ended))) own.next
    ∙ ap (λ o. paired x y (holder_after h x.core y.core (is_some o))) calm.turn.ended

pub own_cycles : (rule other : ReplacementRule) (p q : Setup) (requests : List Request) (s : PairState) → AreApart requests s →
    is_some (own_part rule p (is_first s.holder) s.first).trapped ≡ false → is_some (own_part other q (is_second s.holder) s.second).trapped ≡ false →
    holder_after s.holder (own_cycle rule p (is_first s.holder) s.first).core (own_cycle other q (is_second s.holder) s.second).core false ≡ s.holder →
    pair_cycle rule other p q requests s
    ≡ record { first = own_cycle rule p (is_first s.holder) s.first; second = own_cycle other q (is_second s.holder) s.second; holder = s.holder }
own_cycles rule other p q requests s apart one two stays =
    let h = s.holder in
    let x = own_cycle rule p (is_first h) s.first in
    let y = own_cycle other q (is_second h) s.second in
    let first : SideGoes rule p (is_first h) (is_first h && is_held (want_of s.first.core.debt)) false s.first.gates s.first x = record { goes = one; next = refl } in
    let second : SideGoes other q (is_second h) (is_second h && is_held (want_of s.second.core.debt)) false s.second.gates s.second y = record { goes = two; next = refl } in
    let G : Bool → GatesState → Type 0 = λ clash g. SideGoes rule p (is_first h) (is_first h && is_held (want_of s.first.core.debt)) clash g s.first x in
    calm_goes rule other p q requests s x y (apart_calm requests s apart)
    (subst (λ c. G c (turn_in s).gates) (sym (no_clash requests s apart)) (subst (G false) (sym (gates_stay requests s apart)) first))
    second stays
