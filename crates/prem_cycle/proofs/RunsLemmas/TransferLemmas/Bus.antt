-- A cycle of the bus brings the transfer that it carries one cycle nearer to its end.
use Rattle.std.proofs.Common.{◌≡◌, ℕ, zero, suc, ◌+◌, ◌<◌, ◌≤◌, refl, ap, sym, subst, ◌∙◌, arith, eqb, leb, Some, None, Option, true, false, Bool, List, [], ◌∷◌, length, drop, map, IfSome}
use Rattle.prem_cycle.proofs.Prelude.{Arrivals, arrived, arrivals, device_cost, IsOnItsWay, HaveCosts, startable_is, GateState, GatesState, Turned, gate_at, with_queue, with_gates, queued}
use Rattle.prem_cycle.proofs.Prelude.{after_arrival, startable, taken, ends, goes_on, carries, wants, starts, bus_free, bus_with, bus_turn, IsStart, Carried, CoreWant, No, New, Held, Window}
use Rattle.prem_cycle.proofs.Prelude.{Request, DeviceRecord, cond_both, leb-true, leb-false, slice_set, slice_get}
use Rattle.prem_cycle.specs.Runs.Transfer.Lengths.{EndsIn}
use Rattle.prem_gate.specs.Gates.{is_full}
use Rattle.std.specs.Option.{option_map_or}

-- ---- costs

abbrev pub costs_of : List GateState → List ℕ
costs_of gates = map (λ g. g.cost) gates

abbrev pub costs_in : List DeviceRecord → List ℕ
costs_in devices = map (λ d. d.device.cost) devices

-- another queue of a gate
set_costs : (gates : List GateState) (d : ℕ) (q : List Request) → costs_of (slice_set gates d (with_queue (gate_at gates d) q)) ≡ costs_of gates
set_costs [] d q = refl
set_costs (g ∷ gates) zero q = refl
set_costs (g ∷ gates) (suc d) q = ap (λ t. g.cost ∷ t) (set_costs gates d q)

-- the gate of a device has the device's cost, which isn't 0
gate_cost : (gates : List GateState) (devices : List DeviceRecord) (d : ℕ) → costs_of gates ≡ costs_in devices → d < length gates → (gate_at gates d).cost ≡ device_cost devices d
gate_cost [] devices d same within = absurd (omega (arith, within))
gate_cost (g ∷ gates) [] d same within = absurd (let x : ◌≡◌ {A = List ℕ} (g.cost ∷ costs_of gates) [] = same in cc)
gate_cost (g ∷ gates) (e ∷ devices) zero same within = ap (λ cs. option_map_or (λ c. c) (slice_get cs 0) 0) same
gate_cost (g ∷ gates) (e ∷ devices) (suc d) same within = gate_cost gates devices d (ap (drop 1) same) (omega (arith, within))

some_cost : (devices : List DeviceRecord) (d : ℕ) → HaveCosts devices → d < length devices → 1 ≤ device_cost devices d
some_cost [] d all within = absurd (omega (arith, within))
some_cost (e ∷ devices) zero all within = all 0 e within
some_cost (e ∷ devices) (suc d) all within = some_cost devices d (λ k x lt. all (suc k) x (omega (arith, lt))) (omega (arith, within))

same_count : (gates : List GateState) (devices : List DeviceRecord) → costs_of gates ≡ costs_in devices → length gates ≡ length devices
same_count [] [] same = refl
same_count [] (e ∷ devices) same = absurd (let x : ◌≡◌ {A = List ℕ} [] (e.device.cost ∷ costs_in devices) = same in cc)
same_count (g ∷ gates) [] same = absurd (let x : ◌≡◌ {A = List ℕ} (g.cost ∷ costs_of gates) [] = same in cc)
same_count (g ∷ gates) (e ∷ devices) same = ap suc (same_count gates devices (ap (drop 1) same))

-- ---- the gates

-- where the coming cycle is `now`
pub record GatesKeep (devices : List DeviceRecord) (now : ℕ) (s : GatesState) : Type 0 where
  pub costs : costs_of s.gates ≡ costs_in devices
  pub carried : IfSome s.carried (IsOnItsWay devices now)

-- behind a cycle of the bus
pub record TurnKeeps (devices : List DeviceRecord) (now : ℕ) (t : Turned) : Type 0 where
  pub gates : GatesKeep devices (now + 1) t.gates
  pub ended : IfSome t.turn.ended (EndsIn devices now)

-- ---- arrivals

module _ (devices : List DeviceRecord) where
  arrival_keeps : (now : ℕ) (r : Request) (s : GatesState) → GatesKeep devices now s → GatesKeep devices now (after_arrival r s)
  arrival_keeps now r s h =
      cond_both (is_full (gate_at s.gates r.device)) s (with_gates s (slice_set s.gates r.device (queued r (gate_at s.gates r.device)))) (GatesKeep devices now)
      (λ _. h)
      (λ _. record { costs = set_costs s.gates r.device _ ∙ h.costs; carried = h.carried })

  pub arrivals_keep : (now t : ℕ) (requests : List Request) (a : Arrivals) → GatesKeep devices now a.gates → GatesKeep devices now (arrivals t requests a).gates
  arrivals_keep now t [] a h = h
  arrivals_keep now t (r ∷ requests) a h =
      cond_both (eqb r.cycle t) (arrivals t requests (arrived r a)) (arrivals t requests a) (λ (x : Arrivals). GatesKeep devices now x.gates)
      (λ _. arrivals_keep now t requests (arrived r a) (arrival_keeps now r a.gates h))
      (λ _. arrivals_keep now t requests a h)

  -- ---- the bus

  carries_keep : (now : ℕ) (clash : Bool) (c : Carried) (s : GatesState) (memory : List ℕ) → IsOnItsWay devices now c →
      costs_of s.gates ≡ costs_in devices → TurnKeeps devices now (carries clash c s memory)
  carries_keep now clash c s memory l costs =
      cond_both (leb c.left 1) (ends clash c s memory) (goes_on clash c s memory) (TurnKeeps devices now)
      (λ last. record {
        gates = record { costs = costs; carried = tt };
        ended = omega (arith, l.some, l.on_time, leb-true c.left 1 last);
      })
      (λ more. record {
        gates = record { costs = costs; carried = record { some = omega (arith, leb-false c.left 1 more); on_time = omega (arith, l.on_time, leb-false c.left 1 more) } };
        ended = tt;
      })

  stays : (now : ℕ) (core clash : Bool) (s : GatesState) (memory : List ℕ) → s.carried ≡ None → costs_of s.gates ≡ costs_in devices →
      TurnKeeps devices now (record { gates = s; memory = memory; turn = record { core = core; clash = clash; ended = None } })
  stays now core clash s memory none costs =
      record { gates = record { costs = costs; carried = subst (λ (o : Option Carried). IfSome o (IsOnItsWay devices (now + 1))) (sym none) tt }; ended = tt }

  starts_keep : (now : ℕ) (w : Window) (core : Bool) (start : Option Carried) (s : GatesState) (memory : List ℕ) → HaveCosts devices → startable now w s ≡ start → s.carried ≡ None →
      costs_of s.gates ≡ costs_in devices → TurnKeeps devices now (starts core start s memory)
  starts_keep now w core None s memory all is none costs = stays now core false s memory none costs
  starts_keep now w core (Some c) s memory all is none costs =
      let h : IsStart now w s.gates c = startable_is now w s c is in
      let cost : c.left ≡ device_cost devices c.device = h.cost ∙ gate_cost s.gates devices c.device costs h.there in
      let some : 1 ≤ device_cost devices c.device = some_cost devices c.device all (omega (arith, h.there, same_count s.gates devices costs)) in
      carries_keep now core c (taken c.device s) memory
      (record { some = omega (arith, cost, some); on_time = omega (arith, cost, h.now_first) })
      (set_costs s.gates c.device _ ∙ costs)

  free_keeps : (now : ℕ) (w : Window) (core : CoreWant) (start : Option Carried) (s : GatesState) (memory : List ℕ) → HaveCosts devices → startable now w s ≡ start → s.carried ≡ None →
      costs_of s.gates ≡ costs_in devices → TurnKeeps devices now (bus_free core start s memory)
  free_keeps now w No start s memory all is none costs = starts_keep now w false start s memory all is none costs
  free_keeps now w New start s memory all is none costs = starts_keep now w true start s memory all is none costs
  free_keeps now w Held start s memory all is none costs = stays now true _ s memory none costs

  with_keeps : (now : ℕ) (w : Window) (core : CoreWant) (carried : Option Carried) (s : GatesState) (memory : List ℕ) → HaveCosts devices →
      s.carried ≡ carried → IfSome carried (IsOnItsWay devices now) →
      costs_of s.gates ≡ costs_in devices → TurnKeeps devices now (bus_with core carried (startable now w s) s memory)
  with_keeps now w core (Some c) s memory all is l costs = carries_keep now (wants core) c s memory l costs
  with_keeps now w core None s memory all is l costs = free_keeps now w core (startable now w s) s memory all refl is costs

  pub turn_keeps : (now : ℕ) (w : Window) (core : CoreWant) (s : GatesState) (memory : List ℕ) → HaveCosts devices → GatesKeep devices now s → TurnKeeps devices now (bus_turn now w core s memory)
  turn_keeps now w core s memory all h = with_keeps now w core s.carried s memory all refl h.carried h.costs
