-- A cycle of two cores in which no request arrives, the token stays, and the bus starts and ends nothing.
use Rattle.std.proofs.Common.{◌≡◌, ◌≢◌, ℕ, Bool, false, cond, List, Option, None, refl, ap, ◌∙◌, All}
use Rattle.std.specs.Prelude.{◌&&◌, is_some}
use Rattle.prem_pair.proofs.Prelude.{none_arrives, want_of, Arrivals, next_cycle, Setup, MachineState, GatesState, Turned, bus_turn, is_held, OnlyGoesOn, CoreWant, No, New, Held, Transfer}
use Rattle.prem_pair.proofs.Prelude.{Request, ReplacementRule, PairState, acted, both_ticked, bus_first, bus_for, clashes, ended_in_place, first_acted, first_done, holder_at, no_arrivals}
use Rattle.prem_pair.proofs.Prelude.{pair_cycle, pair_cycle_with, second_acted, second_done, wanted, asks, empty_window, given, holder_after, holder_with, is_first, is_second, some_wait}
use Rattle.prem_pair.proofs.Prelude.{want_with, window_given, Holder, Nobody, First, Second, Gates}

-- ---- the token

same_window : (now : ℕ) (h : Holder) → window_given now h h ≡ empty_window
same_window now Nobody = refl
same_window now First = refl
same_window now Second = refl
same_window now Gates = refl

first_has : (h : Holder) (v w : CoreWant) → (is_held (want_with h v w) && is_first h) ≡ (is_first h && is_held v)
first_has Nobody v w = refl
first_has Second v No = refl
first_has Second v New = refl
first_has Second v Held = refl
first_has Gates v w = refl
first_has First No w = refl
first_has First New w = refl
first_has First Held w = refl

second_has : (h : Holder) (v w : CoreWant) → (is_held (want_with h v w) && is_second h) ≡ (is_second h && is_held w)
second_has Nobody v w = refl
second_has First No w = refl
second_has First New w = refl
second_has First Held w = refl
second_has Gates v w = refl
second_has Second v No = refl
second_has Second v New = refl
second_has Second v Held = refl

holder_kept : (h : Holder) (x y z : Bool) → (h ≡ Nobody → (x ≡ false) × ((y ≡ false) × (z ≡ false))) → holder_with h x y z ≡ h
holder_kept Nobody x y z none =
    let e = none refl in
    ap (λ a. given a y z) e.0 ∙ ap (λ a. given false a z) e.1.0 ∙ ap (given false false) e.1.1
holder_kept First x y z none = refl
holder_kept Second x y z none = refl
holder_kept Gates x y z none = refl

-- ---- the parts of a cycle

-- the bus of a cycle in which no transfer ends
abbrev pub turned : GatesState → List ℕ → (core clash : Bool) → Option Transfer → Turned
turned gates memory core clash ended = record { gates = gates; memory = memory; turn = record { core = core; clash = clash; ended = ended } }

-- a core's part of it, with these gates
abbrev pub side : ReplacementRule → Setup → (holds had clash : Bool) → GatesState → MachineState → MachineState
side rule p holds had clash gates s = acted rule p holds (no_arrivals s) (turned gates s.work.memory had clash None) s

-- a core goes on to this state
pub record SideGoes (rule : ReplacementRule) (p : Setup) (holds had clash : Bool) (gates : GatesState) (s x : MachineState) : Type 0 where
  pub goes : is_some (side rule p holds had clash gates s).trapped ≡ false
  pub next : next_cycle (side rule p holds had clash gates s) ≡ x

abbrev pub paired : MachineState → MachineState → Holder → PairState
paired x y h = record { first = x; second = y; holder = h }

-- what the bus does
abbrev pub turn_in : PairState → Turned
turn_in t = bus_turn t.first.now empty_window (wanted t) t.first.gates t.first.work.memory

-- core 0's part, and core 1's
abbrev pub first_side : ReplacementRule → Setup → PairState → MachineState
first_side rule p t =
    side rule p (is_first t.holder) (is_first t.holder && is_held (want_of t.first.core.debt)) (clashes t.holder t) (turn_in t).gates t.first

abbrev pub second_side : ReplacementRule → Setup → PairState → MachineState
second_side rule p t =
    side rule p (is_second t.holder) (is_second t.holder && is_held (want_of t.second.core.debt)) false t.second.gates t.second

-- both may go on so
pub record IsCalm (requests : List Request) (t : PairState) : Type 0 where
  pub none : All (λ r. r.cycle ≢ t.first.now) requests
  pub token : t.holder ≡ Nobody → (asks t.first ≡ false) × ((asks t.second ≡ false) × (some_wait t.first.gates.gates ≡ false))
  pub turn : OnlyGoesOn (wanted t) t.first.gates t.first.work.memory (turn_in t)

module _ (rule other : ReplacementRule) (p q : Setup) (requests : List Request) (t : PairState) (calm : IsCalm requests t) where
  abbrev h : Holder
  h = t.holder

  abbrev b : Turned
  b = turn_in t

  abbrev a : Arrivals
  a = no_arrivals t.first

  bus : bus_for h t.first.gates t ≡ b
  bus = ap (λ w. bus_turn t.first.now w (wanted t) t.first.gates t.first.work.memory) (same_window t.first.now h)

  first_bus : bus_first h b t ≡ turned b.gates t.first.work.memory (is_first h && is_held (want_of t.first.core.debt)) (clashes h t) None
  first_bus =
      ap (λ m. turned b.gates m (b.turn.core && is_first h) (clashes h t) b.turn.ended) calm.turn.memory_same
      ∙ ap (λ v. turned b.gates t.first.work.memory (v && is_first h) (clashes h t) b.turn.ended) calm.turn.core_has
      ∙ ap (λ v. turned b.gates t.first.work.memory v (clashes h t) b.turn.ended) (first_has h (want_of t.first.core.debt) (want_of t.second.core.debt))
      ∙ ap (turned b.gates t.first.work.memory (is_first h && is_held (want_of t.first.core.debt)) (clashes h t)) calm.turn.ended

  second_had : (b.turn.core && is_second h) ≡ (is_second h && is_held (want_of t.second.core.debt))
  second_had = ap (λ v. v && is_second h) calm.turn.core_has ∙ second_has h (want_of t.first.core.debt) (want_of t.second.core.debt)

  first_is : first_acted rule p h a b t ≡ first_side rule p t
  first_is = ap (λ v. acted rule p (is_first h) a v t.first) first_bus

  second_is : second_acted other q h b t ≡ second_side other q t
  second_is = ap (λ v. side other q (is_second h) v false t.second.gates t.second) second_had

  -- the cycle by its parts
  pub calm_cycle : pair_cycle rule other p q requests t
      ≡ cond (is_some (first_side rule p t).trapped) (paired (first_side rule p t) t.second h) (second_done h b (first_side rule p t) (second_side other q t))
  calm_cycle =
      ap (λ (x : Arrivals). pair_cycle_with rule other p q (holder_at x.gates t) x (bus_for (holder_at x.gates t) x.gates t) t) (none_arrives t.first.now requests a calm.none)
      ∙ ap (λ v. pair_cycle_with rule other p q v a (bus_for v t.first.gates t) t) (holder_kept h (asks t.first) (asks t.second) (some_wait t.first.gates.gates) calm.token)
      ∙ ap (λ v. pair_cycle_with rule other p q h a v t) bus
      ∙ ap (λ x. first_done other q h b x t) first_is
      ∙ ap (λ y. cond (is_some (first_side rule p t).trapped) (paired (first_side rule p t) t.second h) (second_done h b (first_side rule p t) y)) second_is

both_are : (h : Holder) (b : Turned) (f g x y : MachineState) → next_cycle f ≡ x → next_cycle g ≡ y → b.turn.ended ≡ None → holder_after h x.core y.core false ≡ h →
    both_ticked h b f g ≡ paired x y h
both_are h b f g x y ex ey none stays =
    ap (λ (v : MachineState). paired v (next_cycle g) (holder_after h v.core (next_cycle g).core (is_some b.turn.ended))) ex
    ∙ ap (λ (v : MachineState). paired x v (holder_after h x.core v.core (is_some b.turn.ended))) ey
    ∙ ap (λ o. paired x y (holder_after h x.core y.core (is_some o))) none
    ∙ ap (paired x y) stays

-- both go on
pub calm_goes : (rule other : ReplacementRule) (p q : Setup) (requests : List Request) (t : PairState) (x y : MachineState) → IsCalm requests t →
    SideGoes rule p (is_first t.holder) (is_first t.holder && is_held (want_of t.first.core.debt)) (clashes t.holder t) (turn_in t).gates t.first x →
    SideGoes other q (is_second t.holder) (is_second t.holder && is_held (want_of t.second.core.debt)) false t.second.gates t.second y →
    holder_after t.holder x.core y.core false ≡ t.holder → pair_cycle rule other p q requests t ≡ paired x y t.holder
calm_goes rule other p q requests t x y calm first second stays =
    let h = t.holder in
    let f = first_side rule p t in
    let g = second_side other q t in
    let all : PairState = both_ticked h (turn_in t) f g in
    calm_cycle rule other p q requests t calm
    ∙ ap (λ v. cond v (paired f t.second h) (second_done h (turn_in t) f g)) first.goes
    ∙ ap (λ v. cond v (paired (ended_in_place f) g h) all) second.goes
    ∙ both_are h (turn_in t) f g x y first.next second.next calm.turn.ended stays
