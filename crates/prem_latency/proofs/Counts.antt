-- The requests of a device in a run, counted: those that have found room are transferred, or wait; and the cycles of their transfers.
use Rattle.std.specs.Prelude.{IfSome, filter}
use Rattle.std.proofs.Common.{◌≡◌, ℕ, suc, ◌+◌, ◌-◌, ◌*◌, ◌<◌, ◌≤◌, refl, ap, ◌∙◌, sym, subst, arith, eqb, leb, cond, true, false, Bool, Some, None, Option, List, [], ◌∷◌, ◌++◌, length, ⊎_elim}
use Rattle.std.proofs.lemmas.Bool.{cases_Bool, leb-true, leb-false, eqb-true, cond_both}
use Rattle.std.proofs.lemmas.List.{length-append, length-map}
use Rattle.std.proofs.lemmas.List.Elements.{filter-append}
use Rattle.std.proofs.Math.Nat.{mul-add, mul-one}
use Rattle.prem_isa.specs.Plain.{with_last}
use Rattle.prem_lru.specs.Entries.{ReplacementRule}
use Rattle.prem_gate.specs.declared.request.Request.{Request}
use Rattle.prem_gate.specs.declared.bus.Window.{Window}
use Rattle.prem_gate.specs.declared.bus.Carried.{Carried}
use Rattle.prem_gate.specs.declared.bus.Transfer.{Transfer}
use Rattle.prem_gate.specs.declared.bus.CoreWant.{CoreWant}
use Rattle.prem_gate.specs.declared.bus.CoreWant.TheVariants.{No, New, Held}
use Rattle.prem_gate.specs.Gates.{GatesState, Turned, gate_at, is_full, after_arrival, startable, taken, transfer_of, ends, goes_on as carry_on, carries, wants, starts, bus_free}
use Rattle.prem_gate.specs.Gates.{bus_with, bus_turn, carries_for}
use Rattle.prem_gate.specs.Ranges.{IsStart}
use Rattle.prem_gate.proofs.Places.{startable_is}
use Rattle.prem_cycle.specs.State.{Setup, MachineState, start_of}
use Rattle.prem_cycle.specs.Core.{want_of}
use Rattle.prem_cycle.specs.Cycle.{arrivals_at, is_over}
use Rattle.prem_cycle.specs.Run.{memory_of}
use Rattle.prem_cycle.proofs.Time.{run_of-now, goes_untrapped}
use Rattle.prem_cycle.specs.Runs.Window.Windows.{HaveCosts}
use Rattle.prem_cycle.specs.Runs.Transfer.Lengths.{device_cost, IsOnItsWay}
use Rattle.prem_cycle.proofs.RunsLemmas.TransferLemmas.Cycles.{runs_are_on_their_way}
use Rattle.prem_sound.specs.Serve.Requests.{found_room, coming_requests, queued_of, asked_of, transferred_of, carried_of, held_of}
use Rattle.prem_sound.proofs.ServeLemmas.Queues.{queue_at, arrivals_queue, arrivals_carried, requests_held, cycle_transfers}
use Rattle.prem_resp.specs.Busy.Schedule.{one_if}
use Rattle.prem_latency.specs.Bus.{waiting, on_bus, transfer_on, coming_transfer}
use Rattle.prem_latency.specs.Requests.{found_of}
use Rattle.prem_latency.proofs.Traces.{at_cycle}
use Rattle.prem_latency.proofs.Steps.{state, goes_is, stays_is, asked_gates, bus_in, gates_are, asked_costs, cost_is, gates_there, some_cost}
use Rattle.prem_latency.proofs.Begins.{have_begun}

-- ---- those that find room are among those that come

few_found : (j now : ℕ) (rs : List Request) (s : GatesState) → length (asked_of j (found_room now rs s)) ≤ at_cycle now (asked_of j rs)
few_found j now [] s = omega arith
few_found j now (r ∷ rs) s = by (eqb r.device j) (eqb r.cycle now) (is_full (gate_at s.gates r.device)) refl (few_found j now rs (after_arrival r s)) (few_found j now rs s) where
  more : List Request
  more = found_room now rs (after_arrival r s)

  others : List Request
  others = found_room now rs s

  mine : List Request
  mine = asked_of j rs

  by : (b c full : Bool) → eqb r.cycle now ≡ c → length (asked_of j (found_room now rs (after_arrival r s))) ≤ at_cycle now (asked_of j rs) →
      length (asked_of j (found_room now rs s)) ≤ at_cycle now (asked_of j rs) →
      length (filter (λ (x : Request). eqb x.device j)
      (cond c (cond full (found_room now rs (after_arrival r s)) (r ∷ found_room now rs (after_arrival r s))) (found_room now rs s)))
      ≤ at_cycle now (cond (eqb r.device j) (r ∷ asked_of j rs) (asked_of j rs))
  by b false full e x y = skip (eqb r.device j) (length (asked_of j (found_room now rs s))) y where
    skip : (b : Bool) (n : ℕ) → n ≤ at_cycle now (asked_of j rs) → n ≤ at_cycle now (cond b (r ∷ asked_of j rs) (asked_of j rs))
    skip true n h = omega (arith, h)
    skip false n h = h
  by b true true e x y = skip (eqb r.device j) (length (asked_of j (found_room now rs (after_arrival r s)))) x where
    skip : (b : Bool) (n : ℕ) → n ≤ at_cycle now (asked_of j rs) → n ≤ at_cycle now (cond b (r ∷ asked_of j rs) (asked_of j rs))
    skip true n h = omega (arith, h)
    skip false n h = h
  by b true false e x y = take (eqb r.device j) where
    take : (b : Bool) → length (cond b (r ∷ asked_of j (found_room now rs (after_arrival r s))) (asked_of j (found_room now rs (after_arrival r s))))
        ≤ at_cycle now (cond b (r ∷ asked_of j rs) (asked_of j rs))
    take true = let z : one_if (eqb r.cycle now) ≡ 1 = ap one_if e in omega (arith, x, z)
    take false = x

-- ---- a cycle of the bus

-- the cycles that the carried transfer has had, where it is the device's
abbrev pub part : (device cost : ℕ) → Option Carried → ℕ
part j cost None = 0
part j cost (Some c) = cond (eqb c.device j) (cost - c.left) 0

abbrev pub is_for : ℕ → Option Carried → Bool
is_for j None = false
is_for j (Some c) = eqb c.device j

abbrev done : ℕ → List Transfer → ℕ
done j ts = length (transferred_of j ts)

-- the transfer has some of its cycles left
abbrev IsLeft : (device cost : ℕ) → Carried → Type 0
IsLeft j cost c = (1 ≤ c.left) × (c.device ≡ j → c.left ≤ cost)

done_one : (j : ℕ) (t : Transfer) (ts : List Transfer) → done j (ts ++ t ∷ []) ≡ done j ts + one_if (eqb t.device j)
done_one j t ts =
    length-map (filter (λ (x : Transfer). eqb x.device j) (ts ++ t ∷ [])) (λ (x : Transfer). x.request)
    ∙ ap length (filter-append (λ (x : Transfer). eqb x.device j) ts (t ∷ []))
    ∙ length-append (filter (λ (x : Transfer). eqb x.device j) ts) (filter (λ (x : Transfer). eqb x.device j) (t ∷ []))
    ∙ ap (λ n. n + length (filter (λ (x : Transfer). eqb x.device j) (t ∷ []))) (sym (length-map (filter (λ (x : Transfer). eqb x.device j) ts) (λ (x : Transfer). x.request)))
    ∙ ap (λ n. done j ts + n) (by (eqb t.device j)) where
      by : (b : Bool) → length (cond b (t ∷ []) []) ≡ one_if b
      by true = refl
      by false = refl

module _ (j cost : ℕ) (ts : List Transfer) where
  -- what the device has had behind a cycle that is for this transfer, or none
  abbrev Has : (before on : Option Carried) → Turned → Type 0
  Has before on t = cost * done j (with_last t.turn.ended ts) + part j cost t.gates.carried ≡ cost * done j ts + part j cost before + one_if (is_for j on)

  ends_has : (c : Carried) (x : Transfer) → x.device ≡ c.device → IsLeft j cost c → c.left ≤ 1 →
      cost * done j (ts ++ x ∷ []) + 0 ≡ cost * done j ts + cond (eqb c.device j) (cost - c.left) 0 + one_if (eqb c.device j)
  ends_has c x same l last = by (eqb c.device j) refl where
    d : (b : Bool) → eqb c.device j ≡ b → done j (ts ++ x ∷ []) ≡ done j ts + one_if b
    d b e = done_one j x ts ∙ ap (λ n. done j ts + one_if (eqb n j)) same ∙ ap (λ b. done j ts + one_if b) e

    by : (b : Bool) → eqb c.device j ≡ b → cost * done j (ts ++ x ∷ []) + 0 ≡ cost * done j ts + cond b (cost - c.left) 0 + one_if b
    by true e =
        let n : cost * done j (ts ++ x ∷ []) ≡ cost * (done j ts + 1) = ap (λ m. cost * m) (d true e) in
        let m : cost * (done j ts + 1) ≡ cost * done j ts + cost * 1 = mul-add cost (done j ts) 1 in
        let u : cost * 1 ≡ cost = mul-one cost in
        let le : c.left ≤ cost = l.1 (eqb-true c.device j e) in
        sum (cost * done j (ts ++ x ∷ [])) (cost * (done j ts + 1)) (cost * done j ts) (cost * 1) cost c.left n m u le l.0 last where
          sum : (a b d o c l : ℕ) → a ≡ b → b ≡ d + o → o ≡ c → l ≤ c → 1 ≤ l → l ≤ 1 → a + 0 ≡ d + (c - l) + 1
          sum a b d o c l h1 h2 h3 h4 h5 h6 = omega (arith, h1, h2, h3, h4, h5, h6)
    by false e =
        let n : cost * done j (ts ++ x ∷ []) ≡ cost * (done j ts + 0) = ap (λ m. cost * m) (d false e) in
        let z : done j ts + 0 ≡ done j ts = omega arith in
        let m : cost * (done j ts + 0) ≡ cost * done j ts = ap (λ m. cost * m) z in
        omega (arith, n, m)

  goes_has : (c : Carried) → IsLeft j cost c → 1 < c.left →
      cost * done j ts + cond (eqb c.device j) (cost - (c.left - 1)) 0 ≡ cost * done j ts + cond (eqb c.device j) (cost - c.left) 0 + one_if (eqb c.device j)
  goes_has c l more = by (eqb c.device j) refl where
    by : (b : Bool) → eqb c.device j ≡ b → cost * done j ts + cond b (cost - (c.left - 1)) 0 ≡ cost * done j ts + cond b (cost - c.left) 0 + one_if b
    by true e = let le : c.left ≤ cost = l.1 (eqb-true c.device j e) in sum (cost * done j ts) cost c.left le more where
      sum : (d c l : ℕ) → l ≤ c → 1 < l → d + (c - (l - 1)) ≡ d + (c - l) + 1
      sum d c l h1 h2 = omega (arith, h1, h2)
    by false e = omega arith

  carries_has : (clash : Bool) (c : Carried) (s : GatesState) (memory : List ℕ) → IsLeft j cost c → Has (Some c) (Some c) (carries clash c s memory)
  carries_has clash c s memory l =
      cond_both (leb c.left 1) (ends clash c s memory) (carry_on clash c s memory) (Has (Some c) (Some c))
      (λ last. ends_has c (transfer_of s c memory) refl l (leb-true c.left 1 last))
      (λ more. goes_has c l (leb-false c.left 1 more))

  -- one that starts has had none
  starts_has : (core : Bool) (o : Option Carried) (s : GatesState) (memory : List ℕ) →
      ((c : Carried) → o ≡ Some c → IsLeft j cost c × (c.device ≡ j → c.left ≡ cost)) → s.carried ≡ None → Has None o (starts core o s memory)
  starts_has core None s memory l none = let z : part j cost s.carried ≡ 0 = ap (part j cost) none in omega (arith, z)
  starts_has core (Some c) s memory l none =
      let h : IsLeft j cost c × (c.device ≡ j → c.left ≡ cost) = l c refl in
      let x : Has (Some c) (Some c) (carries core c (taken c.device s) memory) = carries_has core c (taken c.device s) memory h.0 in
      let z : cond (eqb c.device j) (cost - c.left) 0 ≡ 0 = full (eqb c.device j) refl h.1 in
      omega (arith, x, z) where
        full : (b : Bool) → eqb c.device j ≡ b → (c.device ≡ j → c.left ≡ cost) → cond b (cost - c.left) 0 ≡ 0
        full true e h = let y : c.left ≡ cost = h (eqb-true c.device j e) in omega (arith, y)
        full false e h = refl

  free_has : (now : ℕ) (w : Window) (core : CoreWant) (s : GatesState) (memory : List ℕ) →
      ((c : Carried) → startable now w s ≡ Some c → IsLeft j cost c × (c.device ≡ j → c.left ≡ cost)) → s.carried ≡ None →
      Has None (on_bus core None (startable now w s)) (bus_free core (startable now w s) s memory)
  free_has now w No s memory l none = starts_has false (startable now w s) s memory l none
  free_has now w New s memory l none = starts_has true (startable now w s) s memory l none
  free_has now w Held s memory l none = let z : part j cost s.carried ≡ 0 = ap (part j cost) none in omega (arith, z)

  pub turn_has : (now : ℕ) (w : Window) (core : CoreWant) (s : GatesState) (memory : List ℕ) →
      ((c : Carried) → s.carried ≡ Some c → IsLeft j cost c) →
      ((c : Carried) → startable now w s ≡ Some c → IsLeft j cost c × (c.device ≡ j → c.left ≡ cost)) →
      Has s.carried (transfer_on now w core s) (bus_turn now w core s memory)
  turn_has now w core s memory held l = by s.carried refl where
    by : (o : Option Carried) → s.carried ≡ o → Has o (on_bus core o (startable now w s)) (bus_with core o (startable now w s) s memory)
    by (Some c) e = carries_has (wants core) c s memory (held c e)
    by None e = free_has now w core s memory l e

-- ---- a run

module _ (rule : ReplacementRule) (p : Setup) (content : List ℕ) (inputs : List (List ℕ)) (requests : List Request) where
  abbrev run : ℕ → MachineState
  run n = state rule p content inputs requests n

  abbrev pub found : (device cycle : ℕ) → List Request
  found j n = found_of rule p content inputs requests j n

  abbrev pub asked : (device cycle : ℕ) → ℕ
  asked j n = length (found j n)

  abbrev pub served : (device cycle : ℕ) → ℕ
  served j n = length (transferred_of j (run n).log.transfers)

  carried_count : (j : ℕ) (o : Option Carried) → length (carried_of j o) ≡ carries_for j o
  carried_count j None = refl
  carried_count j (Some c) = by (eqb c.device j) where
    by : (b : Bool) → length (cond b (c.request ∷ []) []) ≡ cond b 1 0
    by true = refl
    by false = refl

  pub asked_are : (j n : ℕ) → asked j n ≡ served j n + waiting j (run n).gates
  asked_are j n =
      let e : length (held_of j (run n)) ≡ asked j n = ap length (requests_held rule p content inputs requests n j) in
      let a : length (held_of j (run n))
      ≡ length (transferred_of j (run n).log.transfers ++ carried_of j (run n).gates.carried) + length (queue_at (run n).gates j) =
      length-append (transferred_of j (run n).log.transfers ++ carried_of j (run n).gates.carried) (queue_at (run n).gates j) in
      let b : length (transferred_of j (run n).log.transfers ++ carried_of j (run n).gates.carried)
      ≡ served j n + length (carried_of j (run n).gates.carried) =
      length-append (transferred_of j (run n).log.transfers) (carried_of j (run n).gates.carried) in
      let c : length (carried_of j (run n).gates.carried) ≡ carries_for j (run n).gates.carried = carried_count j (run n).gates.carried in
      omega (arith, e, a, b, c)

  pub found_next : (j n : ℕ) → found j (suc n) ≡ found j n ++ asked_of j (coming_requests requests (run n))
  unfolding queued_of
  found_next j n = filter-append (λ (x : Request). eqb x.device j) (queued_of rule p requests n (start_of p inputs (memory_of p content))) (coming_requests requests (run n))

  pub asked_grows : (j n : ℕ) → asked j n ≤ asked j (suc n)
  asked_grows j n =
      let e : asked j (suc n) ≡ asked j n + length (asked_of j (coming_requests requests (run n))) = ap length (found_next j n)
      ∙ length-append (found j n) (asked_of j (coming_requests requests (run n))) in
      omega (arith, e)

  pub none_found : (j : ℕ) → found j 0 ≡ []
  unfolding queued_of
  none_found j = refl

  pub none_first : (j : ℕ) → asked j 0 ≡ 0
  unfolding queued_of
  none_first j = refl

  module _ (n : ℕ) (on : is_over (run n) ≡ false) where
    coming_are : coming_requests requests (run n) ≡ found_room (run n).now requests (run n).gates
    coming_are = ap (λ b. cond b [] (found_room (run n).now requests (run n).gates)) on

    pub asked_next : (j : ℕ) → asked j (suc n) ≡ asked j n + length (asked_of j (found_room (run n).now requests (run n).gates))
    asked_next j = ap length (found_next j n) ∙ length-append (found j n) (asked_of j (coming_requests requests (run n))) ∙ ap (λ rs. asked j n + length (asked_of j rs)) coming_are

    -- behind the arrivals of a cycle
    pub asked_in : (j : ℕ) → asked j (suc n) ≡ served j n + waiting j (asked_gates rule p content inputs requests n)
    asked_in j =
        let a : List Request = asked_of j (found_room (run n).now requests (run n).gates) in
        let q : length (queue_at (asked_gates rule p content inputs requests n) j) ≡ length (queue_at (run n).gates j) + length a =
        ap length (arrivals_queue (run n).now requests (record { gates = (run n).gates; dropped = (run n).log.dropped }) j) ∙ length-append (queue_at (run n).gates j) a in
        let c : carries_for j (asked_gates rule p content inputs requests n).carried ≡ carries_for j (run n).gates.carried =
        ap (carries_for j) (arrivals_carried (run n).now requests (record { gates = (run n).gates; dropped = (run n).log.dropped })) in
        omega (arith, asked_next j, asked_are j n, q, c)

    pub few_asked : (j : ℕ) → asked j (suc n) ≤ asked j n + at_cycle n (asked_of j requests)
    few_asked j =
        let f : length (asked_of j (found_room (run n).now requests (run n).gates)) ≤ at_cycle (run n).now (asked_of j requests) = few_found j (run n).now requests (run n).gates in
        let e : at_cycle (run n).now (asked_of j requests) ≡ at_cycle n (asked_of j requests) = ap (λ t. at_cycle t (asked_of j requests)) (run_of-now rule p content inputs requests n on) in
        omega (arith, asked_next j, f, e)

    pub transfers_are : (run (suc n)).log.transfers ≡ with_last (bus_in rule p content inputs requests n).turn.ended (run n).log.transfers
    transfers_are = ap (λ (s : MachineState). s.log.transfers) (goes_is rule p content inputs requests n on)
        ∙ cycle_transfers rule p (arrivals_at requests (run n)) (bus_in rule p content inputs requests n) (run n)

  -- ---- transfers

  more_done : (j : ℕ) (o : Option Transfer) (ts : List Transfer) → length (transferred_of j ts) ≤ length (transferred_of j (with_last o ts))
  more_done j None ts = omega arith
  more_done j (Some t) ts = let e : length (transferred_of j (ts ++ t ∷ [])) ≡ length (transferred_of j ts) + one_if (eqb t.device j) = done_one j t ts in omega (arith, e)

  pub served_grows : (j n : ℕ) → served j n ≤ served j (suc n)
  served_grows j n =
      ⊎_elim (λ (over : is_over (run n) ≡ true). let e : served j (suc n) ≡ served j n =
      ap (λ (s : MachineState). length (transferred_of j s.log.transfers)) (stays_is rule p content inputs requests n over) in omega (arith, e))
      (λ (on : is_over (run n) ≡ false).
      let e : served j (suc n) ≡ length (transferred_of j (with_last (bus_in rule p content inputs requests n).turn.ended (run n).log.transfers)) =
      ap (λ ts. length (transferred_of j ts)) (transfers_are n on) in
      let m : served j n ≤ length (transferred_of j (with_last (bus_in rule p content inputs requests n).turn.ended (run n).log.transfers)) =
      more_done j (bus_in rule p content inputs requests n).turn.ended (run n).log.transfers in
      omega (arith, e, m))
      (cases_Bool (is_over (run n)))

  module _ (all : HaveCosts p.devices) where
    -- what is carried has begun before, and has some cycles left
    pub on_way : (n : ℕ) (c : Carried) → is_over (run n) ≡ false → (run n).gates.carried ≡ Some c → (1 ≤ c.left) × (c.first < n) × (c.first + device_cost p.devices c.device ≡ n + c.left)
    on_way n c on e =
        let w : IsOnItsWay p.devices (run n).now c =
        subst (λ (o : Option Carried). IfSome o (IsOnItsWay p.devices (run n).now)) e
        (runs_are_on_their_way rule p content inputs requests n all (goes_untrapped (run n) on)) in
        let b : c.first < n = (have_begun rule p content inputs requests 0 0 all (λ m on j lt some. absurd (omega (arith, lt))) n c e (omega arith)).0 in
        let now : (run n).now ≡ n = run_of-now rule p content inputs requests n on in
        (w.some, b, omega (arith, w.on_time, now))

    -- the cycles of a device's transfers in one cycle more
    pub carried_next : (n j : ℕ) → is_over (run n) ≡ false → j < length p.devices →
        device_cost p.devices j * served j (suc n) + part j (device_cost p.devices j) (run (suc n)).gates.carried
        ≡ device_cost p.devices j * served j n + part j (device_cost p.devices j) (run n).gates.carried + one_if
        (is_for j (coming_transfer requests (run n)))
    carried_next n j on lt =
        let cost : ℕ = device_cost p.devices j in
        let g : GatesState = asked_gates rule p content inputs requests n in
        let same : g.carried ≡ (run n).gates.carried = arrivals_carried (run n).now requests (record { gates = (run n).gates; dropped = (run n).log.dropped }) in
        let held : (c : Carried) → g.carried ≡ Some c → IsLeft j cost c =
        λ c e. let w = on_way n c on (sym same ∙ e) in (w.0, λ d. let z : device_cost p.devices c.device ≡ cost = ap (device_cost p.devices) d in omega (arith, w.1, w.2, z)) in
        let new : (c : Carried) → startable (run n).now (run n).core.window g ≡ Some c → IsLeft j cost c × (c.device ≡ j → c.left ≡ cost) =
        λ c e.
        let st : IsStart (run n).now (run n).core.window g.gates c = startable_is (run n).now (run n).core.window g c e in
        let full : c.device ≡ j → c.left ≡ cost = λ d. st.cost ∙ ap (λ i. (gate_at g.gates i).cost) d ∙ cost_is g.gates p.devices j (asked_costs rule p content inputs requests all n on) lt in
        let some : 1 ≤ c.left = new_left n on c st in
        ((some, λ d. let y : c.left ≡ cost = full d in omega (arith, y)), full) in
        let t = turn_has j cost (run n).log.transfers (run n).now (run n).core.window (want_of (run n).core.debt) g (run n).work.memory held new in
        let a : served j (suc n) ≡ length (transferred_of j (with_last (bus_in rule p content inputs requests n).turn.ended (run n).log.transfers)) =
        ap (λ ts. length (transferred_of j ts)) (transfers_are n on) in
        let b : part j cost (run (suc n)).gates.carried ≡ part j cost (bus_in rule p content inputs requests n).gates.carried =
        ap (λ (x : GatesState). part j cost x.carried) (gates_are rule p content inputs requests n on) in
        let d : part j cost g.carried ≡ part j cost (run n).gates.carried = ap (part j cost) same in
        let e : cost * served j (suc n) ≡ cost * length (transferred_of j (with_last (bus_in rule p content inputs requests n).turn.ended (run n).log.transfers)) = ap (λ m. cost * m) a in
        omega (arith, t, b, d, e) where
          new_left : (n : ℕ) → is_over (run n) ≡ false → (c : Carried) → IsStart (run n).now (run n).core.window (asked_gates rule p content inputs requests n).gates c → 1 ≤ c.left
          new_left n on c st =
              let there : c.device < length p.devices =
              gates_there (asked_gates rule p content inputs requests n).gates p.devices (asked_costs rule p content inputs requests all n on)
              c.device st.there in
              let e : c.left ≡ device_cost p.devices c.device = st.cost
              ∙ cost_is (asked_gates rule p content inputs requests n).gates p.devices c.device
              (asked_costs rule p content inputs requests all n on) there in
              let one : 1 ≤ device_cost p.devices c.device = some_cost p.devices c.device all there in
              omega (arith, e, one)
