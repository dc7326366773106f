-- No request of a device is dropped where its queue holds as many as come in so many cycles.
use Rattle.std.specs.Prelude.{All, filter, is_some, map, slice_index, slice_index_or, slice_set}
use Rattle.std.proofs.Common.{◌≡◌, ◌≢◌, ℕ, zero, suc, ◌+◌, ◌*◌, ◌<◌, ◌≤◌, refl, ap, ◌∙◌, sym, subst, arith, eqb, leb, ltb, cond, true, false, Bool, Some, None, Option, List, []}
use Rattle.std.proofs.Common.{◌∷◌, ◌++◌, length, drop, ◌⊎◌, inl, inr, ⊎_elim}
use Rattle.std.proofs.lemmas.Bool.{cases_lt, cases_eq, cases_Bool, lt-leb, lt-ltb, le-ltb, eq-eqb, ne_eqb, cond_both}
use Rattle.std.proofs.lemmas.List.{length-append, get_or-set_same, get_or-set_other, get_or_past}
use Rattle.prem_lru.specs.Entries.{ReplacementRule}
use Rattle.prem_gate.specs.declared.request.Request.{Request}
use Rattle.prem_gate.specs.declared.gates.Arrived.{Arrived}
use Rattle.prem_gate.specs.declared.gates.Arrived.TheVariants.{Queued, Dropped}
use Rattle.prem_gate.specs.declared.bus.Window.{Window}
use Rattle.prem_gate.specs.declared.bus.Carried.{Carried}
use Rattle.prem_gate.specs.declared.bus.CoreWant.{CoreWant}
use Rattle.prem_gate.specs.declared.bus.CoreWant.TheVariants.{No, New, Held}
use Rattle.prem_gate.specs.Gates.{GateState, GatesState, Turned, gate_at, no_gate, with_queue, with_gates, is_full, arrival_of, queued, after_arrival, gates_of, startable, taken}
use Rattle.prem_gate.specs.Gates.{ends, goes_on, carries, wants, starts, bus_free, bus_with, bus_turn}
use Rattle.prem_image.specs.declared.image.DeviceRecord.{DeviceRecord}
use Rattle.prem_cycle.specs.State.{Setup, MachineState}
use Rattle.prem_cycle.specs.Inputs.{no_device}
use Rattle.prem_cycle.specs.Core.{want_of}
use Rattle.prem_cycle.specs.Cycle.{Arrivals, arrived, dropped_after, arrivals, arrivals_at, core_at, joined, with_now, next_cycle, ticked, is_over}
use Rattle.prem_cycle.specs.Run.{cycles_of}
use Rattle.prem_cycle.proofs.CycleParts.{settle_keeps}
use Rattle.prem_cycle.proofs.Time.{run_of-now}
use Rattle.prem_cycle.specs.Runs.Position.Own.{device_of}
use Rattle.prem_sound.specs.Serve.Requests.{found_room, coming_requests, asked_of}
use Rattle.prem_sound.proofs.ServeLemmas.Queues.{queue_at}
use Rattle.prem_latency.specs.Wait.{Asking, Closing, requests_in, IsRoom}
use Rattle.prem_latency.specs.Timeline.{asking_at}
use Rattle.prem_resp.specs.Busy.Schedule.{one_if}
use Rattle.prem_latency.specs.Requests.{AreDistant, IsAskingOf, Serves, AllFindRoom, NoneIsDropped}
use Rattle.prem_latency.proofs.Divides.{least_distances}
use Rattle.prem_latency.proofs.Steps.{state, goes_is, stays_is, asked_gates, bus_in, gates_are, on_before}
use Rattle.prem_latency.proofs.Traces.{before, come_before, few_come, at_cycle, next_before}
use Rattle.prem_latency.proofs.Counts.{found, asked_are, found_next, none_found}
use Rattle.prem_latency.proofs.Serving.{has_room_in}

-- ---- what queues hold

abbrev caps_of : List GateState → List ℕ
caps_of gates = map (λ (g : GateState). g.capacity) gates

abbrev caps_in : List DeviceRecord → List ℕ
caps_in devices = map (λ (d : DeviceRecord). d.device.queue) devices

set_caps : (gates : List GateState) (d : ℕ) (q : List Request) → caps_of (slice_set gates d (with_queue (gate_at gates d) q)) ≡ caps_of gates
set_caps [] d q = refl
set_caps (g ∷ gates) zero q = refl
set_caps (g ∷ gates) (suc d) q = ap (λ cs. g.capacity ∷ cs) (set_caps gates d q)

cap_is : (gates : List GateState) (devices : List DeviceRecord) (d : ℕ) → caps_of gates ≡ caps_in devices → d < length devices →
    (gate_at gates d).capacity ≡ (slice_index_or devices d no_device).device.queue
cap_is [] [] d same within = absurd (omega (arith, within))
cap_is [] (e ∷ devices) d same within = absurd (let x : ◌≡◌ {A = List ℕ} [] (e.device.queue ∷ caps_in devices) = same in cc)
cap_is (g ∷ gates) [] d same within = absurd (omega (arith, within))
cap_is (g ∷ gates) (e ∷ devices) zero same within = let x : ◌≡◌ {A = List ℕ} (g.capacity ∷ caps_of gates) (e.device.queue ∷ caps_in devices) = same in let y : g.capacity ≡ e.device.queue = cc in y
cap_is (g ∷ gates) (e ∷ devices) (suc d) same within = cap_is gates devices d (ap (drop 1) same) (omega (arith, within))

-- ---- they stay

abbrev Caps : GatesState → List ℕ
Caps s = caps_of s.gates

arrival_caps : (r : Request) (s : GatesState) → Caps (after_arrival r s) ≡ Caps s
arrival_caps r s =
    cond_both (is_full (gate_at s.gates r.device)) s (with_gates s (slice_set s.gates r.device (queued r (gate_at s.gates r.device)))) (λ (t : GatesState). Caps t ≡ Caps s)
    (λ _. refl) (λ _. set_caps s.gates r.device _)

arrivals_caps : (now : ℕ) (rs : List Request) (a : Arrivals) → Caps (arrivals now rs a).gates ≡ Caps a.gates
arrivals_caps now [] a = refl
arrivals_caps now (r ∷ rs) a =
    cond_both (eqb r.cycle now) (arrivals now rs (arrived r a)) (arrivals now rs a) (λ (x : Arrivals). Caps x.gates ≡ Caps a.gates)
    (λ _. arrivals_caps now rs (arrived r a) ∙ arrival_caps r a.gates) (λ _. arrivals_caps now rs a)

carries_caps : (clash : Bool) (c : Carried) (s : GatesState) (memory : List ℕ) → Caps (carries clash c s memory).gates ≡ Caps s
carries_caps clash c s memory = cond_both (leb c.left 1) (ends clash c s memory) (goes_on clash c s memory) (λ (t : Turned). Caps t.gates ≡ Caps s) (λ _. refl) (λ _. refl)

starts_caps : (core : Bool) (o : Option Carried) (s : GatesState) (memory : List ℕ) → Caps (starts core o s memory).gates ≡ Caps s
starts_caps core None s memory = refl
starts_caps core (Some c) s memory = carries_caps core c (taken c.device s) memory ∙ set_caps s.gates c.device _

free_caps : (core : CoreWant) (o : Option Carried) (s : GatesState) (memory : List ℕ) → Caps (bus_free core o s memory).gates ≡ Caps s
free_caps No o s memory = starts_caps false o s memory
free_caps New o s memory = starts_caps true o s memory
free_caps Held o s memory = refl

turn_caps : (now : ℕ) (w : Window) (core : CoreWant) (s : GatesState) (memory : List ℕ) → Caps (bus_turn now w core s memory).gates ≡ Caps s
turn_caps now w core s memory = by s.carried where
  by : (o : Option Carried) → Caps (bus_with core o (startable now w s) s memory).gates ≡ Caps s
  by (Some c) = carries_caps (wants core) c s memory
  by None = free_caps core (startable now w s) s memory

-- ---- arrivals of a cycle

-- none of a device is left to come, or there is room for all
abbrev HasRoom : (device now : ℕ) → List Request → GatesState → Type 0
HasRoom d now rs s = (at_cycle now (asked_of d rs) ≡ 0) ⊎ (length (queue_at s d) + at_cycle now (asked_of d rs) ≤ (gate_at s.gates d).capacity)

other_gate : (r : Request) (s : GatesState) (d : ℕ) → d ≢ r.device → gate_at (after_arrival r s).gates d ≡ gate_at s.gates d
other_gate r s d ne =
    cond_both (is_full (gate_at s.gates r.device)) s (with_gates s (slice_set s.gates r.device (queued r (gate_at s.gates r.device)))) (λ (t : GatesState). gate_at t.gates d ≡ gate_at s.gates d)
    (λ _. refl) (λ _. get_or-set_other s.gates r.device d (queued r (gate_at s.gates r.device)) no_gate ne)

own_gate : (r : Request) (s : GatesState) → is_full (gate_at s.gates r.device) ≡ false → r.device < length s.gates → gate_at (after_arrival r s).gates r.device ≡ queued r (gate_at s.gates r.device)
own_gate r s e lt =
    ap (λ b. gate_at (cond b s (with_gates s (slice_set s.gates r.device (queued r (gate_at s.gates r.device))))).gates r.device) e
    ∙ get_or-set_same s.gates r.device (queued r (gate_at s.gates r.device)) no_gate lt

-- a dropped request counts for its device alone
other_dropped : (x : Arrived) (device d : ℕ) (dropped : List ℕ) → d ≢ device → slice_index (dropped_after x device dropped) d ≡ slice_index dropped d
other_dropped Queued device d dropped ne = refl
other_dropped Dropped device d dropped ne = get_or-set_other dropped device d (slice_index dropped device + 1) 0 ne

there_or_none : (s : GatesState) (d n : ℕ) → length (queue_at s d) + suc n ≤ (gate_at s.gates d).capacity → d < length s.gates
there_or_none s d n le =
    ⊎_elim (λ (lt : d < length s.gates). lt)
    (λ (past : length s.gates ≤ d). let e : (gate_at s.gates d).capacity ≡ 0 = ap (λ (g : GateState). g.capacity) (get_or_past s.gates d no_gate past) in absurd (omega (arith, e, le)))
    (cases_lt d (length s.gates))

module _ (d now : ℕ) where
  abbrev NoneDropped : Arrivals → Type 0
  NoneDropped a = slice_index a.dropped d ≡ 0

  -- one of the device arrives
  own_arrives : (r : Request) (rs : List Request) (a : Arrivals) → d ≡ r.device → eqb r.cycle now ≡ true → HasRoom d now (r ∷ rs) a.gates →
      NoneDropped a → HasRoom d now rs (arrived r a).gates × NoneDropped (arrived r a)
  own_arrives r rs a same cycle room none =
      let mine : asked_of d (r ∷ rs) ≡ r ∷ asked_of d rs = ap (λ b. cond b (r ∷ asked_of d rs) (asked_of d rs)) (eq-eqb r.device d (sym same)) in
      let one : one_if (eqb r.cycle now) ≡ 1 = ap one_if cycle in
      let count : at_cycle now (asked_of d (r ∷ rs)) ≡ suc (at_cycle now (asked_of d rs)) = (ap (at_cycle now) mine ∙ omega (arith, one)) in
      let le : length (queue_at a.gates d) + suc (at_cycle now (asked_of d rs)) ≤ (gate_at a.gates.gates d).capacity =
      ⊎_elim (λ (z : at_cycle now (asked_of d (r ∷ rs)) ≡ 0). absurd (omega (arith, z, count)))
      (λ (l : length (queue_at a.gates d) + at_cycle now (asked_of d (r ∷ rs)) ≤ (gate_at a.gates.gates d).capacity). omega (arith, l, count)) room in
      let there : d < length a.gates.gates = there_or_none a.gates d (at_cycle now (asked_of d rs)) le in
      let not_full : is_full (gate_at a.gates.gates d) ≡ false = lt-leb (gate_at a.gates.gates d).capacity (length (queue_at a.gates d)) (omega (arith, le)) in
      let full_r : is_full (gate_at a.gates.gates r.device) ≡ false = ap (λ i. is_full (gate_at a.gates.gates i)) (sym same) ∙ not_full in
      let g : gate_at (arrived r a).gates.gates d ≡ queued r (gate_at a.gates.gates d) =
      ap (λ i. gate_at (arrived r a).gates.gates i) same ∙ own_gate r a.gates full_r (omega (arith, there, same)) ∙ ap (λ i. queued r (gate_at a.gates.gates i)) (sym same) in
      let queue : length (queue_at (arrived r a).gates d) ≡ length (queue_at a.gates d) + 1 = ap (λ (x : GateState). length x.queue) g ∙ length-append (queue_at a.gates d) (r ∷ []) in
      let cap : (gate_at (arrived r a).gates.gates d).capacity ≡ (gate_at a.gates.gates d).capacity = ap (λ (x : GateState). x.capacity) g in
      (inr (omega (arith, queue, cap, le)), ap (λ b. slice_index (dropped_after (cond b Dropped Queued) r.device a.dropped) d) full_r ∙ none)

  other_arrives : (r : Request) (rs : List Request) (a : Arrivals) → d ≢ r.device → HasRoom d now (r ∷ rs) a.gates → NoneDropped a → HasRoom d now rs (arrived r a).gates × NoneDropped (arrived r a)
  other_arrives r rs a ne room none =
      let mine : asked_of d (r ∷ rs) ≡ asked_of d rs = ap (λ b. cond b (r ∷ asked_of d rs) (asked_of d rs)) (ne_eqb r.device d (λ e. ne (sym e))) in
      let g : gate_at (arrived r a).gates.gates d ≡ gate_at a.gates.gates d = other_gate r a.gates d ne in (
        subst (λ (x : GateState). (at_cycle now (asked_of d rs) ≡ 0) ⊎ (length x.queue + at_cycle now (asked_of d rs) ≤ x.capacity)) (sym g)
            (subst (λ xs. (at_cycle now xs ≡ 0) ⊎ (length (queue_at a.gates d) + at_cycle now xs ≤ (gate_at a.gates.gates d).capacity)) mine room),
        other_dropped (arrival_of r a.gates) r.device d a.dropped ne ∙ none,
      )

  -- one of another cycle doesn't count
  passes : (r : Request) (rs : List Request) (a : Arrivals) → eqb r.cycle now ≡ false → HasRoom d now (r ∷ rs) a.gates → HasRoom d now rs a.gates
  passes r rs a cycle room = subst (λ n. (n ≡ 0) ⊎ (length (queue_at a.gates d) + n ≤ (gate_at a.gates.gates d).capacity)) (by (eqb r.device d)) room where
    by : (b : Bool) → at_cycle now (cond b (r ∷ asked_of d rs) (asked_of d rs)) ≡ at_cycle now (asked_of d rs)
    by true = let z : one_if (eqb r.cycle now) ≡ 0 = ap one_if cycle in omega (arith, z)
    by false = refl

  arrivals_drop_none : (rs : List Request) (a : Arrivals) → HasRoom d now rs a.gates → NoneDropped a → NoneDropped (arrivals now rs a)
  arrivals_drop_none [] a room none = none
  arrivals_drop_none (r ∷ rs) a room none =
      cond_both (eqb r.cycle now) (arrivals now rs (arrived r a)) (arrivals now rs a) NoneDropped
      (λ yes.
      let h : HasRoom d now rs (arrived r a).gates × NoneDropped (arrived r a) =
      ⊎_elim (λ (same : d ≡ r.device). own_arrives r rs a same yes room none) (λ (ne : d ≡ r.device → ⊥). other_arrives r rs a ne room none) (cases_eq d r.device) in
      arrivals_drop_none rs (arrived r a) h.0 h.1)
      (λ no_one. arrivals_drop_none rs a (passes r rs a no_one room) none)

-- ---- those that find room

-- those of a cycle, and those before it
abbrev at_only : ℕ → List Request → List Request
at_only now rs = filter (λ (r : Request). eqb r.cycle now) rs

abbrev before_only : ℕ → List Request → List Request
before_only now rs = filter (λ (r : Request). ltb r.cycle now) rs

module _ (d now : ℕ) where
  own_room : (r : Request) (rs : List Request) (s : GatesState) → d ≡ r.device → eqb r.cycle now ≡ true → HasRoom d now (r ∷ rs) s → is_full (gate_at s.gates r.device) ≡ false
  own_room r rs s same cycle room =
      let mine : asked_of d (r ∷ rs) ≡ r ∷ asked_of d rs = ap (λ b. cond b (r ∷ asked_of d rs) (asked_of d rs)) (eq-eqb r.device d (sym same)) in
      let one : one_if (eqb r.cycle now) ≡ 1 = ap one_if cycle in
      let count : at_cycle now (asked_of d (r ∷ rs)) ≡ suc (at_cycle now (asked_of d rs)) = (ap (at_cycle now) mine ∙ omega (arith, one)) in
      let le : length (queue_at s d) < (gate_at s.gates d).capacity =
      ⊎_elim (λ (z : at_cycle now (asked_of d (r ∷ rs)) ≡ 0). absurd (omega (arith, z, count)))
      (λ (l : length (queue_at s d) + at_cycle now (asked_of d (r ∷ rs)) ≤ (gate_at s.gates d).capacity). omega (arith, l, count)) room in
      ap (λ i. is_full (gate_at s.gates i)) (sym same) ∙ lt-leb (gate_at s.gates d).capacity (length (queue_at s d)) le

  -- all of the device that come in the cycle
  found_all : (rs : List Request) (s : GatesState) → HasRoom d now rs s → asked_of d (found_room now rs s) ≡ at_only now (asked_of d rs)
  found_all [] s room = refl
  found_all (r ∷ rs) s room = by (eqb r.cycle now) refl (λ t h. found_all rs t h) where
    all : Arrivals
    all = record { gates = s; dropped = [] }

    skips : (b : Bool) → eqb r.cycle now ≡ false → at_only now (cond b (r ∷ asked_of d rs) (asked_of d rs)) ≡ at_only now (asked_of d rs)
    skips true e = ap (λ c. cond c (r ∷ at_only now (asked_of d rs)) (at_only now (asked_of d rs))) e
    skips false e = refl

    mine : eqb r.cycle now ≡ true → d ≡ r.device → (HasRoom d now rs (after_arrival r s) → asked_of d (found_room now rs (after_arrival r s)) ≡ at_only now (asked_of d rs)) →
        asked_of d (cond (is_full (gate_at s.gates r.device)) (found_room now rs (after_arrival r s)) (r ∷ found_room now rs (after_arrival r s))) ≡ at_only now (asked_of d (r ∷ rs))
    mine e same more =
        let h : HasRoom d now rs (after_arrival r s) = (own_arrives d now r rs (record { gates = s; dropped = [] }) same e room refl).0 in
        let of_d : (xs : List Request) → asked_of d (r ∷ xs) ≡ r ∷ asked_of d xs = λ xs. ap (λ b. cond b (r ∷ asked_of d xs) (asked_of d xs)) (eq-eqb r.device d (sym same)) in
        ap (λ b. asked_of d (cond b (found_room now rs (after_arrival r s)) (r ∷ found_room now rs (after_arrival r s)))) (own_room r rs s same e room)
        ∙ of_d (found_room now rs (after_arrival r s)) ∙ ap (λ xs. r ∷ xs) (more h)
        ∙ sym (ap (at_only now) (of_d rs) ∙ ap (λ c. cond c (r ∷ at_only now (asked_of d rs)) (at_only now (asked_of d rs))) e)

    others : d ≢ r.device → (HasRoom d now rs (after_arrival r s) → asked_of d (found_room now rs (after_arrival r s)) ≡ at_only now (asked_of d rs)) →
        asked_of d (cond (is_full (gate_at s.gates r.device)) (found_room now rs (after_arrival r s)) (r ∷ found_room now rs (after_arrival r s))) ≡ at_only now (asked_of d (r ∷ rs))
    others ne more =
        let h : HasRoom d now rs (after_arrival r s) = (other_arrives d now r rs (record { gates = s; dropped = [] }) ne room refl).0 in
        let not_d : (xs : List Request) → asked_of d (r ∷ xs) ≡ asked_of d xs = λ xs. ap (λ b. cond b (r ∷ asked_of d xs) (asked_of d xs)) (ne_eqb r.device d (λ e. ne (sym e))) in
        cond_both (is_full (gate_at s.gates r.device)) (found_room now rs (after_arrival r s)) (r ∷ found_room now rs (after_arrival r s))
        (λ xs. asked_of d xs ≡ asked_of d (found_room now rs (after_arrival r s))) (λ _. refl) (λ _. not_d (found_room now rs (after_arrival r s)))
        ∙ more h ∙ sym (ap (at_only now) (not_d rs))

    by : (c : Bool) → eqb r.cycle now ≡ c → ((t : GatesState) → HasRoom d now rs t → asked_of d (found_room now rs t) ≡ at_only now (asked_of d rs)) →
        asked_of d (cond c (cond (is_full (gate_at s.gates r.device)) (found_room now rs (after_arrival r s))
        (r ∷ found_room now rs (after_arrival r s))) (found_room now rs s)) ≡ at_only now (asked_of d (r ∷ rs))
    by true e more =
        ⊎_elim (λ (same : d ≡ r.device). mine e same (more (after_arrival r s))) (λ (ne : d ≡ r.device → ⊥). others ne (more (after_arrival r s))) (cases_eq d r.device)
    by false e more = more s (passes d now r rs (record { gates = s; dropped = [] }) e room) ∙ sym (skips (eqb r.device d) e)

-- in order of cycle those of a cycle come behind those before it
none_left : (P : Request → Bool) (from : ℕ) (rs : List Request) → ((r : Request) → from ≤ r.cycle → P r ≡ false) → All (λ (q : Request). from ≤ q.cycle) rs → filter P rs ≡ []
none_left P from [] out all = refl
none_left P from (r ∷ rs) out all =
    ap (λ b. cond b (r ∷ filter P rs) (filter P rs)) (out r (all 0 r (omega arith))) ∙ none_left P from rs out (λ k x lt. all (suc k) x (omega (arith, lt)))

split_at : (every n : ℕ) (rs : List Request) → 1 ≤ every → AreDistant every rs → before_only n rs ++ at_only n rs ≡ before_only (suc n) rs
split_at every n [] some h = refl
split_at every n (r ∷ rs) some h =
    ⊎_elim (λ (lt : r.cycle < n).
    let a : before_only n (r ∷ rs) ≡ r ∷ before_only n rs = ap (λ b. cond b (r ∷ before_only n rs) (before_only n rs)) (lt-ltb r.cycle n lt) in
    let b : at_only n (r ∷ rs) ≡ at_only n rs = ap (λ b. cond b (r ∷ at_only n rs) (at_only n rs)) (ne_eqb r.cycle n (λ e. omega (arith, e, lt))) in
    let c : before_only (suc n) (r ∷ rs) ≡ r ∷ before_only (suc n) rs = ap (λ b. cond b (r ∷ before_only (suc n) rs) (before_only (suc n) rs)) (lt-ltb r.cycle (suc n) (omega (arith, lt))) in
    ap (λ xs. xs ++ at_only n (r ∷ rs)) a ∙ ap (λ xs. (r ∷ before_only n rs) ++ xs) b ∙ ap (λ xs. r ∷ xs) (split_at every n rs some h.1) ∙ sym c)
    (λ (ge : n ≤ r.cycle).
    let from : ℕ = r.cycle + every in
    let x : before_only n rs ≡ [] = none_left (λ (q : Request). ltb q.cycle n) from rs (λ q le. le-ltb q.cycle n (omega (arith, le, ge))) h.0 in
    let y : at_only n rs ≡ [] = none_left (λ (q : Request). eqb q.cycle n) from rs (λ q le. ne_eqb q.cycle n (λ e. omega (arith, e, le, ge, some))) h.0 in
    let z : before_only (suc n) rs ≡ [] = none_left (λ (q : Request). ltb q.cycle (suc n)) from rs (λ q le. le-ltb q.cycle (suc n) (omega (arith, le, ge, some))) h.0 in
    let a : before_only n (r ∷ rs) ≡ [] = ap (λ b. cond b (r ∷ before_only n rs) (before_only n rs)) (le-ltb r.cycle n ge) ∙ x in
    ⊎_elim (λ (same : r.cycle ≡ n).
    let b : at_only n (r ∷ rs) ≡ r ∷ [] = ap (λ b. cond b (r ∷ at_only n rs) (at_only n rs)) (eq-eqb r.cycle n same) ∙ ap (λ xs. r ∷ xs) y in
    let c : before_only (suc n) (r ∷ rs) ≡ r ∷ [] = ap (λ b. cond b (r ∷ before_only (suc n) rs) (before_only (suc n) rs)) (lt-ltb r.cycle (suc n) (omega (arith, same))) ∙ ap (λ xs. r ∷ xs) z in
    ap (λ xs. xs ++ at_only n (r ∷ rs)) a ∙ b ∙ sym c)
    (λ (ne : r.cycle ≡ n → ⊥).
    let past : suc n ≤ r.cycle = ⊎_elim (λ (less : r.cycle < suc n). let e : r.cycle ≡ n = omega (arith, less, ge) in absurd (ne e)) (λ (le : suc n ≤ r.cycle). le) (cases_lt r.cycle (suc n)) in
    let b : at_only n (r ∷ rs) ≡ [] = ap (λ b. cond b (r ∷ at_only n rs) (at_only n rs)) (ne_eqb r.cycle n ne) ∙ y in
    let c : before_only (suc n) (r ∷ rs) ≡ [] = ap (λ b. cond b (r ∷ before_only (suc n) rs) (before_only (suc n) rs)) (le-ltb r.cycle (suc n) past) ∙ z in
    ap (λ xs. xs ++ at_only n (r ∷ rs)) a ∙ b ∙ sym c)
    (cases_eq r.cycle n))
    (cases_lt r.cycle n)

none_before_zero : (rs : List Request) → before_only 0 rs ≡ []
none_before_zero [] = refl
none_before_zero (r ∷ rs) = ap (λ b. cond b (r ∷ before_only 0 rs) (before_only 0 rs)) (le-ltb r.cycle 0 (omega arith)) ∙ none_before_zero rs

-- those of a device before a cycle, in either order
swapped : (d n : ℕ) (rs : List Request) → asked_of d (before_only n rs) ≡ before_only n (asked_of d rs)
swapped d n [] = refl
swapped d n (r ∷ rs) = by (eqb r.device d) (ltb r.cycle n) refl refl (swapped d n rs) where
  by : (a b : Bool) → eqb r.device d ≡ a → ltb r.cycle n ≡ b → asked_of d (before_only n rs) ≡ before_only n (asked_of d rs) →
      asked_of d (cond b (r ∷ before_only n rs) (before_only n rs)) ≡ before_only n (cond a (r ∷ asked_of d rs) (asked_of d rs))
  by true true e f h = ap (λ c. cond c (r ∷ asked_of d (before_only n rs)) (asked_of d (before_only n rs))) e ∙ ap (λ xs. r ∷ xs) h
      ∙ sym (ap (λ c. cond c (r ∷ before_only n (asked_of d rs)) (before_only n (asked_of d rs))) f)
  by true false e f h = h ∙ sym (ap (λ c. cond c (r ∷ before_only n (asked_of d rs)) (before_only n (asked_of d rs))) f)
  by false true e f h = ap (λ c. cond c (r ∷ asked_of d (before_only n rs)) (asked_of d (before_only n rs))) e ∙ h
  by false false e f h = h

-- ---- runs

ticked_dropped : (s : MachineState) → (ticked s).log.dropped ≡ s.log.dropped
ticked_dropped s = cond_both (is_some s.trapped) s (next_cycle s) (λ (t : MachineState). t.log.dropped ≡ s.log.dropped) (λ _. refl) (λ _. (settle_keeps s.core.mode (with_now s (s.now + 1))).dropped)

module _ (rule : ReplacementRule) (p : Setup) (content : List ℕ) (inputs : List (List ℕ)) (requests : List Request) where
  abbrev run : ℕ → MachineState
  run n = state rule p content inputs requests n

  start_caps : (devices : List DeviceRecord) → caps_of (gates_of (map (λ (d : DeviceRecord). d.device) devices) (map (λ (d : DeviceRecord). d.area) devices)) ≡ caps_in devices
  start_caps [] = refl
  start_caps (d ∷ devices) = ap (λ t. d.device.queue ∷ t) (start_caps devices)

  first_caps : Caps (run 0).gates ≡ caps_in p.devices
  unfolding cycles_of
  first_caps = start_caps p.devices

  run_caps : (n : ℕ) → Caps (run n).gates ≡ caps_in p.devices
  run_caps zero = first_caps
  run_caps (suc n) =
      ⊎_elim (λ (over : is_over (run n) ≡ true). ap (λ (s : MachineState). Caps s.gates) (stays_is rule p content inputs requests n over) ∙ run_caps n)
      (λ (on : is_over (run n) ≡ false).
      ap (λ (g : GatesState). Caps g) (gates_are rule p content inputs requests n on)
      ∙ turn_caps (run n).now (run n).core.window (want_of (run n).core.debt) (asked_gates rule p content inputs requests n) (run n).work.memory
      ∙ arrivals_caps (run n).now requests (record { gates = (run n).gates; dropped = (run n).log.dropped }) ∙ run_caps n)
      (cases_Bool (is_over (run n)))

  none_of : (devices : List DeviceRecord) (d : ℕ) → slice_index (map (λ (x : DeviceRecord). 0) devices) d ≡ 0
  none_of [] d = refl
  none_of (x ∷ devices) zero = refl
  none_of (x ∷ devices) (suc d) = none_of devices d

  first_dropped : (d : ℕ) → slice_index (run 0).log.dropped d ≡ 0
  unfolding cycles_of
  first_dropped d = none_of p.devices d

  next_dropped : (n : ℕ) → is_over (run n) ≡ false → (run (suc n)).log.dropped ≡ (arrivals_at requests (run n)).dropped
  next_dropped n on = ap (λ (s : MachineState). s.log.dropped) (goes_is rule p content inputs requests n on)
      ∙ ticked_dropped (joined (arrivals_at requests (run n)) (bus_in rule p content inputs requests n)
      (core_at rule p (bus_in rule p content inputs requests n) (run n)) (run n))

  module _ (devices : List Asking) (tasks : List Closing) (d wait : ℕ) (sv : Serves rule p content inputs requests devices tasks d)
      (room : IsRoom devices tasks d wait) (holds : requests_in (asking_at devices d).every wait ≤ (device_of p d).device.queue) where
    one_comes : (n : ℕ) → at_cycle n (asked_of d requests) ≤ 1
    one_comes n =
        let k : IsAskingOf p requests d (asking_at devices d) = sv.askings.each d sv.there in
        let f : before (n + 1) (asked_of d requests) ≤ before n (asked_of d requests) + requests_in (asking_at devices d).every 1 =
        few_come (asking_at devices d).every n 1 (asked_of d requests) k.every k.distant in
        let e : suc n ≡ n + 1 = omega arith in
        let g : before (n + 1) (asked_of d requests) ≡ before n (asked_of d requests) + at_cycle n (asked_of d requests) =
        ap (λ t. before t (asked_of d requests)) (sym e) ∙ next_before n (asked_of d requests) in
        let one : requests_in (asking_at devices d).every 1 ≤ 1 =
        least_distances (asking_at devices d).every 1 1 k.every
        (let z : 1 * (asking_at devices d).every ≡ (asking_at devices d).every = omega arith in omega (arith, z, k.every)) in
        omega (arith, f, g, one)

    room_in : (n : ℕ) → is_over (run n) ≡ false → HasRoom d (run n).now requests (run n).gates
    room_in n on = subst (λ t. HasRoom d t requests (run n).gates) (sym (run_of-now rule p content inputs requests n on)) (by (at_cycle n (asked_of d requests)) refl) where
      by : (m : ℕ) → at_cycle n (asked_of d requests) ≡ m → HasRoom d n requests (run n).gates
      by zero e = inl e
      by (suc m) e =
          let g : come_before d (suc n) requests ≡ come_before d n requests + at_cycle n (asked_of d requests) = next_before n (asked_of d requests) in
          let h = has_room_in rule p content inputs requests devices tasks d sv (suc n)
          (λ i lt. on_before rule p content inputs requests i n (omega (arith, lt)) on) wait n room (omega arith) (omega (arith, g, e)) in
          let a = asked_are rule p content inputs requests d n in
          let c : (gate_at (run n).gates.gates d).capacity ≡ (device_of p d).device.queue = cap_is (run n).gates.gates p.devices d (run_caps n) sv.there in
          inr (omega (arith, h, a, c, holds, one_comes n))

    pub found_before : (n : ℕ) → ((m : ℕ) → m < n → is_over (run m) ≡ false) → found rule p content inputs requests d n ≡ before_only n (asked_of d requests)
    found_before zero on = first_found ∙ sym (none_before_zero (asked_of d requests)) where
      first_found : found rule p content inputs requests d 0 ≡ []
      first_found = none_found rule p content inputs requests d
    found_before (suc n) on =
        let here : is_over (run n) ≡ false = on n (omega arith) in
        let k : IsAskingOf p requests d (asking_at devices d) = sv.askings.each d sv.there in
        let c : coming_requests requests (run n) ≡ found_room (run n).now requests (run n).gates = ap (λ b. cond b [] (found_room (run n).now requests (run n).gates)) here in
        let now : (run n).now ≡ n = run_of-now rule p content inputs requests n here in
        let all : asked_of d (found_room (run n).now requests (run n).gates) ≡ at_only n (asked_of d requests) =
        found_all d (run n).now requests (run n).gates (room_in n here) ∙ ap (λ t. at_only t (asked_of d requests)) now in
        found_next rule p content inputs requests d n ∙ ap (λ xs. found rule p content inputs requests d n ++ asked_of d xs) c
        ∙ ap (λ xs. found rule p content inputs requests d n ++ xs) all
        ∙ ap (λ xs. xs ++ at_only n (asked_of d requests)) (found_before n (λ m lt. on m (omega (arith, lt))))
        ∙ split_at (asking_at devices d).every n (asked_of d requests) k.every k.distant

    pub none_dropped : (n : ℕ) → slice_index (run n).log.dropped d ≡ 0
    none_dropped zero = first_dropped d
    none_dropped (suc n) =
        ⊎_elim (λ (over : is_over (run n) ≡ true). ap (λ (s : MachineState). slice_index s.log.dropped d) (stays_is rule p content inputs requests n over) ∙ none_dropped n)
        (λ (on : is_over (run n) ≡ false).
        ap (λ xs. slice_index xs d) (next_dropped n on)
        ∙ arrivals_drop_none d (run n).now requests (record { gates = (run n).gates; dropped = (run n).log.dropped }) (room_in n on) (none_dropped n))
        (cases_Bool (is_over (run n)))

pub all_find_room : AllFindRoom
all_find_room rule p content inputs requests devices tasks d wait n sv room holds on =
    found_before rule p content inputs requests devices tasks d wait sv room holds n on ∙ sym (swapped d n requests)

pub none_is_dropped : NoneIsDropped
none_is_dropped rule p content inputs requests devices tasks d wait n sv room holds = none_dropped rule p content inputs requests devices tasks d wait sv room holds n
