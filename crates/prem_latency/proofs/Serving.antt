-- The requests of a run of the machine have been transferred so many cycles behind their arrival.
use Rattle.std.specs.Prelude.{◌&&◌, not, IfSome, take, drop}
use Rattle.std.proofs.Common.{◌≡◌, ℕ, zero, suc, ◌+◌, ◌-◌, ◌*◌, ◌<◌, ◌≤◌, min, refl, ap, ◌∙◌, sym, subst, arith, eqb, ltb, cond, true, false, Bool, Some, None, Option, List, []}
use Rattle.std.proofs.Common.{◌∷◌, ◌++◌, append_assoc, append-nil, length, inl, inr, ⊎_elim, ◌⊎◌}
use Rattle.std.proofs.lemmas.List.{length-append}
use Rattle.std.proofs.lemmas.Bool.{cases_Bool, ltb-true, ltb-false, lt-ltb, le-ltb, eq-eqb, ne_eqb}
use Rattle.std.proofs.Math.Nat.{mul_comm, zero-mul}
use Rattle.prem_lru.specs.Entries.{ReplacementRule}
use Rattle.prem_gate.specs.declared.request.Request.{Request}
use Rattle.prem_gate.specs.declared.bus.Carried.{Carried}
use Rattle.prem_gate.specs.Gates.{GatesState, gate_at, fits, startable, carries_for}
use Rattle.prem_cycle.specs.State.{Setup, MachineState, record_of, no_record}
use Rattle.prem_cycle.specs.Core.{want_of}
use Rattle.prem_cycle.specs.Cycle.{is_over}
use Rattle.prem_cycle.specs.Run.{cycles_of}
use Rattle.prem_cycle.proofs.Time.{run_of-now}
use Rattle.prem_cycle.specs.Runs.Transfer.Lengths.{device_cost}
use Rattle.prem_cycle.specs.Runs.Window.Windows.{LiesInside}
use Rattle.prem_cycle.proofs.RunsLemmas.WindowLemmas.Cycles.{run_holds as windows_hold}
use Rattle.prem_sound.specs.Serve.Requests.{found_room, coming_requests, asked_of, transferred_of, carried_of, held_of}
use Rattle.prem_sound.proofs.ServeLemmas.Queues.{arrivals_carried, queue_at, requests_held}
use Rattle.prem_latency.specs.Wait.{Asking, Closing, requests_in, top, longest as longest_of, IsRoom}
use Rattle.prem_latency.specs.Timeline.{Level, IsLevel, Deed, Carries, Behind, Shut, Free, Timeline, is_carried, is_shut, carried, shut, GoesOn, IsFor, IsTimeline, asking_at, closing_at, level_of}
use Rattle.prem_resp.specs.Busy.Schedule.{one_if}
use Rattle.prem_latency.specs.Bus.{waiting, NoneWaits, AreAtMost, on_bus, coming_transfer, BusUse, serves, goes_on, closed}
use Rattle.prem_latency.specs.Served.{serves_of, ended_of, works_for, is_closed, closed_for}
use Rattle.prem_latency.specs.Requests.{IsAskingOf, Serves, RequestsAreServed}
use Rattle.prem_latency.proofs.Steps.{state, asked_gates, asked_costs, cost_is, bus_in, some_cost, no_clash, there_if}
use Rattle.prem_latency.proofs.BusUses.{bus_serves_first}
use Rattle.prem_latency.proofs.Begins.{begun_free}
use Rattle.prem_latency.proofs.Traces.{before, come_before, few_come, at_cycle, next_before}
use Rattle.prem_latency.proofs.Counts.{part, is_for, found, asked, served, asked_are, found_next, asked_grows, none_first, asked_in, few_asked, served_grows, on_way, carried_next}
use Rattle.prem_latency.proofs.Scheduled.{run_ends, EndsOne}
use Rattle.prem_latency.proofs.Shuts.{shut_is}
use Rattle.prem_latency.proofs.Blames.{within_top, within_rest, some_longest, blame, Blame, works, waits_near, has_ended, Blamed, IsBlamed, closed_blamed, other, deed_with, does, shut_blamed}
use Rattle.prem_latency.proofs.Enough.{levels_are_enough}
use Rattle.prem_latency.proofs.Periods.{requests_end_in_time, queues_have_room}

module _ (rule : ReplacementRule) (p : Setup) (content : List ℕ) (inputs : List (List ℕ)) (requests : List Request) (devices : List Asking)
    (tasks : List Closing) (d : ℕ) (sv : Serves rule p content inputs requests devices tasks d) where
  abbrev run : ℕ → MachineState
  run n = state rule p content inputs requests n

  abbrev top_cost : ℕ
  top_cost = top devices d

  abbrev pub here : Level
  here = level_of devices tasks d

  abbrev asked_by : (device cycle : ℕ) → ℕ
  asked_by j n = asked rule p content inputs requests j n

  abbrev served_by : (device cycle : ℕ) → ℕ
  served_by j n = served rule p content inputs requests j n

  abbrev gates_in : ℕ → GatesState
  gates_in n = asked_gates rule p content inputs requests n

  abbrev deed : ℕ → Deed
  deed n = does rule p content inputs requests devices tasks d sv n

  -- whether a job had ended before the last cycle
  abbrev ended_one : (task job cycle : ℕ) → ℕ
  ended_one k m zero = 0
  ended_one k m (suc n) = one_if (ltb m (ended_of k (run n)))

  abbrev pub line : Timeline
  line = record { does = deed; came = λ j t. come_before j t requests; asked = asked_by; served = served_by }

  one_longest : 1 ≤ top_cost
  one_longest = some_longest rule p content inputs requests devices tasks d sv

  in_devices : (j : ℕ) → j < d + 1 → j < length p.devices
  in_devices j lt = omega (arith, lt, sv.there)

  -- a device that makes no request has none
  silent_none : (j n : ℕ) → asked_of j requests ≡ [] → asked_by j n ≡ 0
  silent_none j zero e = none_first rule p content inputs requests j
  silent_none j (suc n) e =
      let was : asked_by j n ≡ 0 = silent_none j n e in
      ⊎_elim (λ (over : is_over (run n) ≡ true).
      let more : asked_by j (suc n) ≡ asked_by j n + length (asked_of j (coming_requests requests (run n))) =
      ap length (found_next rule p content inputs requests j n) ∙ length-append (found rule p content inputs requests j n) (asked_of j (coming_requests requests (run n))) in
      let none : length (asked_of j (coming_requests requests (run n))) ≡ 0 = ap (λ b. length (asked_of j (cond b [] (found_room (run n).now requests (run n).gates)))) over in
      omega (arith, was, more, none))
      (λ (on : is_over (run n) ≡ false).
      let few : asked_by j (suc n) ≤ asked_by j n + at_cycle n (asked_of j requests) = few_asked rule p content inputs requests n on j in
      let none : at_cycle n (asked_of j requests) ≡ 0 = ap (at_cycle n) e in
      omega (arith, was, few, none))
      (cases_Bool (is_over (run n)))

  silent_waits : (j n : ℕ) → asked_of j requests ≡ [] → (served_by j n ≡ 0) × (waiting j (run n).gates ≡ 0)
  silent_waits j n e =
      let none : asked_by j n ≡ 0 = silent_none j n e in
      let all : asked_by j n ≡ served_by j n + waiting j (run n).gates = asked_are rule p content inputs requests j n in
      (omega (arith, none, all), omega (arith, none, all))

  -- of what is carried the cost is told
  carried_cost : (n : ℕ) (c : Carried) → (run n).gates.carried ≡ Some c → c.device < length p.devices → (asking_at devices c.device).cost ≡ device_cost p.devices c.device
  carried_cost n c e lt = by (sv.askings.each c.device lt).cost where
    by : ((asking_at devices c.device).cost ≡ device_cost p.devices c.device)
        ⊎ (((asking_at devices c.device).cost ≡ 0) × (asked_of c.device requests ≡ [])) → (asking_at devices c.device).cost ≡ device_cost p.devices c.device
    by (inl same) = same
    by (inr silent) =
        let none : waiting c.device (run n).gates ≡ 0 = (silent_waits c.device n silent.1).1 in
        let one : carries_for c.device (run n).gates.carried ≡ 1 = ap (carries_for c.device) e ∙ ap (λ b. cond b 1 0) (eq-eqb c.device c.device refl) in
        absurd (omega (arith, none, one))

  -- what waits takes no longer than the longest of the level
  queue_most : (n : ℕ) → is_over (run n) ≡ false → AreAtMost (d + 1) top_cost (gates_in n).gates
  queue_most n on j lt some = by (sv.askings.each j (in_devices j lt)).cost where
    by : ((asking_at devices j).cost ≡ device_cost p.devices j) ⊎ (((asking_at devices j).cost ≡ 0) × (asked_of j requests ≡ [])) → (gate_at (gates_in n).gates j).cost ≤ top_cost
    by (inl same) =
        let e : (gate_at (gates_in n).gates j).cost ≡ device_cost p.devices j = cost_is (gates_in n).gates p.devices j (asked_costs rule p content inputs requests sv.costs n on) (in_devices j lt) in
        let w : (asking_at devices j).cost ≤ longest_of (take (d + 1) devices) = within_top devices (d + 1) j lt (omega (arith, in_devices j lt, sv.askings.count)) in
        omega (arith, e, w, same)
    by (inr silent) =
        let none : asked_by j (suc n) ≡ 0 = silent_none j (suc n) silent.1 in
        let all : asked_by j (suc n) ≡ served_by j n + waiting j (gates_in n) = asked_in rule p content inputs requests n on j in
        absurd (omega (arith, none, all, some))

  is_level : IsLevel here
  is_level = record {
    distances = λ j lt. (sv.askings.each j (in_devices j lt)).every;
    periods = λ k lt.
        let lk : k < length p.tasks = omega (arith, lt, sv.closings.count) in
        let e : (closing_at tasks k).period ≡ (record_of p k).period = (sv.closings.each k lk).period in
        let s : 1 ≤ (record_of p k).period = sv.periods k no_record lk in
        omega (arith, e, s);
    idle = λ k lt. let c = (sv.closings.each k (omega (arith, lt, sv.closings.count))).closes 0 0 in omega (arith, c);
  }

  -- ---- requests that come

  apart : (j a n : ℕ) → j < d + 1 → come_before j (a + n) requests ≤ come_before j a requests + requests_in (asking_at devices j).every n
  apart j a n lt = let k : IsAskingOf p requests j (asking_at devices j) = sv.askings.each j (in_devices j lt) in few_come (asking_at devices j).every a n (asked_of j requests) k.every k.distant

  times_none : (c : ℕ) → c * 0 ≡ 0
  times_none c = mul_comm c 0 ∙ zero-mul c

  first_are : (j : ℕ) → 0 ≡ device_cost p.devices j * served_by j 0 + part j (device_cost p.devices j) (run 0).gates.carried
  unfolding cycles_of
  first_are j = let z : device_cost p.devices j * 0 ≡ 0 = times_none (device_cost p.devices j) in omega (arith, z)

  module _ (cycles : ℕ) (on : (m : ℕ) → m < cycles → is_over (run m) ≡ false) where
    some_ask : (j a n : ℕ) → a + n ≤ cycles → asked_by j (a + n) + come_before j a requests ≤ asked_by j a + come_before j (a + n) requests
    some_ask j a zero le = let e : a + 0 ≡ a = omega arith in subst (λ t. asked_by j t + come_before j a requests ≤ asked_by j a + come_before j t requests) (sym e) (omega arith)
    some_ask j a (suc n) le =
        let e : a + suc n ≡ suc (a + n) = omega arith in
        let was : asked_by j (a + n) + come_before j a requests ≤ asked_by j a + come_before j (a + n) requests = some_ask j a n (omega (arith, le)) in
        let f : asked_by j (suc (a + n)) ≤ asked_by j (a + n) + at_cycle (a + n) (asked_of j requests) = few_asked rule p content inputs requests (a + n) (on (a + n) (omega (arith, le))) j in
        let g : come_before j (suc (a + n)) requests ≡ come_before j (a + n) requests + at_cycle (a + n) (asked_of j requests) = next_before (a + n) (asked_of j requests) in
        subst (λ t. asked_by j t + come_before j a requests ≤ asked_by j a + come_before j t requests) (sym e) (omega (arith, was, f, g))

    -- ---- transfers

    on_deed : (n : ℕ) → n < cycles → deed n ≡ deed_with rule p content inputs requests devices tasks d sv (coming_transfer requests (run n)) (other rule p content inputs requests devices tasks d sv n)
    on_deed n lt = ap (λ b. cond b Free
        (deed_with rule p content inputs requests devices tasks d sv (coming_transfer requests (run n))
        (other rule p content inputs requests devices tasks d sv n))) (on n lt)

    -- a closed cycle is for no transfer of theirs, nor is one behind them
    other_none : (n j : ℕ) → n < cycles → is_carried j (other rule p content inputs requests devices tasks d sv n) ≡ false
    other_none n j lt = by (fits (run n).now (run n).core.window top_cost) refl where
      shut_none : (x : Deed) → IsBlamed rule p content inputs requests devices tasks d sv n x → is_carried j x ≡ false
      shut_none (Carries i) h = absurd h
      shut_none Behind h = refl
      shut_none (Shut k m) h = refl
      shut_none Free h = refl

      by : (b : Bool) → fits (run n).now (run n).core.window top_cost ≡ b → is_carried j (cond b Behind (blame rule p content inputs requests devices tasks d sv n)) ≡ false
      by true e = refl
      by false e = shut_none (blame rule p content inputs requests devices tasks d sv n) (closed_blamed rule p content inputs requests devices tasks d sv n (on n lt) e)

    -- the timeline's cycle is for a device where the bus's is
    carried_same : (n j : ℕ) → n < cycles → j < d + 1 → is_carried j (deed n) ≡ is_for j (coming_transfer requests (run n))
    carried_same n j lt lj = ap (is_carried j) (on_deed n lt) ∙ by (coming_transfer requests (run n)) where
      other_same : is_carried j (other rule p content inputs requests devices tasks d sv n) ≡ false
      other_same = other_none n j lt

      one : (c : Carried) (b : Bool) → ltb c.device (d + 1) ≡ b → is_carried j (cond b (Carries c.device) (other rule p content inputs requests devices tasks d sv n)) ≡ eqb c.device j
      one c true e = refl
      one c false e = other_same ∙ sym (ne_eqb c.device j (λ same. let past : d + 1 ≤ c.device = ltb-false c.device (d + 1) e in omega (arith, past, same, lj)))

      by : (o : Option Carried) → is_carried j (deed_with rule p content inputs requests devices tasks d sv o (other rule p content inputs requests devices tasks d sv n)) ≡ is_for j o
      by None = other_same
      by (Some c) = one c (ltb c.device (d + 1)) refl

    carried_are : (j n : ℕ) → j < d + 1 → n ≤ cycles → carried line j n ≡ device_cost p.devices j * served_by j n + part j (device_cost p.devices j) (run n).gates.carried
    carried_are j zero lj le = first_are j
    carried_are j (suc n) lj le =
        let was : carried line j n ≡ device_cost p.devices j * served_by j n + part j (device_cost p.devices j) (run n).gates.carried = carried_are j n lj (omega (arith, le)) in
        let e : one_if (is_carried j (deed n)) ≡ one_if (is_for j (coming_transfer requests (run n))) = ap one_if (carried_same n j (omega (arith, le)) lj) in
        let f = carried_next rule p content inputs requests sv.costs n j (on n (omega (arith, le))) (in_devices j lj) in
        omega (arith, was, e, f)

    -- the part of it is less than a transfer, and none where no request waits
    part_less : (j n : ℕ) → j < d + 1 → part j (device_cost p.devices j) (run n).gates.carried < device_cost p.devices j
    part_less j n lj = by (run n).gates.carried refl where
      one : 1 ≤ device_cost p.devices j
      one = some_cost p.devices j sv.costs (in_devices j lj)

      less : (c : Carried) (b : Bool) → 1 ≤ c.left → cond b (device_cost p.devices j - c.left) 0 < device_cost p.devices j
      less c true left = omega (arith, left, one)
      less c false left = one

      by : (o : Option Carried) → (run n).gates.carried ≡ o → part j (device_cost p.devices j) o < device_cost p.devices j
      by None e = one
      by (Some c) e =
          let l : LiesInside (run n).now (run n).core.window c =
          subst (λ (o : Option Carried). IfSome o (LiesInside (run n).now (run n).core.window)) e
          (windows_hold rule p content inputs requests n sv.costs).gates.carried in
          less c (eqb c.device j) l.some

    part_none : (j n : ℕ) → waiting j (run n).gates ≡ 0 → part j (device_cost p.devices j) (run n).gates.carried ≡ 0
    part_none j n w = by (run n).gates.carried (omega (arith, w)) where
      none : (c : Carried) (b : Bool) → one_if b ≡ 0 → cond b (device_cost p.devices j - c.left) 0 ≡ 0
      none c true e = absurd (let x : ◌≡◌ {A = ℕ} 1 0 = e in omega (arith, x))
      none c false e = refl

      by : (o : Option Carried) → carries_for j o ≡ 0 → part j (device_cost p.devices j) o ≡ 0
      by None e = refl
      by (Some c) e = none c (eqb c.device j) e

    -- ---- closed cycles

    -- those in which the core works for the job, those before its release, and the first one behind it
    abbrev Few : (k m n : ℕ) → Type 0
    Few k m n = shut line k m n ≤ closed_for run top_cost k m n + (min (top_cost - 1) (n + top_cost - 1 - m * here.period k) + ended_one k m n)

    few_first : (k m : ℕ) → Few k m 0
    few_first k m = omega arith

    works_more : (k m n : ℕ) → is_over (run n) ≡ false → works_for k m (run n) ≡ true → is_closed top_cost (run n) ≡ true →
        one_if (not (is_over (run n)) && (works_for k m (run n) && is_closed top_cost (run n))) ≡ 1
    works_more k m n a b c = ap (λ o. one_if (not o && (works_for k m (run n) && is_closed top_cost (run n)))) a ∙ ap (λ o. one_if (o && is_closed top_cost (run n))) b ∙ ap one_if c

    ended_grows : (k n : ℕ) → is_over (run n) ≡ false → ended_of k (run n) ≤ ended_of k (run (suc n))
    ended_grows k n o = by (run_ends p sv.periods rule content inputs requests n k o) where
      by : EndsOne p sv.periods (serves_of (run n)) (run n).sched (run (suc n)).sched k → ended_of k (run n) ≤ ended_of k (run (suc n))
      by (inl e) = omega (arith, e)
      by (inr e) = omega (arith, e.0)

    one_grows : (k m n : ℕ) → n < cycles → ended_one k m n ≤ ended_one k m (suc n)
    one_grows k m zero lt = omega arith
    one_grows k m (suc n) lt = by (ltb m (ended_of k (run n))) (ltb m (ended_of k (run (suc n)))) refl refl where
      by : (a b : Bool) → ltb m (ended_of k (run n)) ≡ a → ltb m (ended_of k (run (suc n))) ≡ b → one_if a ≤ one_if b
      by false b e f = omega arith
      by true true e f = omega arith
      by true false e f =
          let x : m < ended_of k (run n) = ltb-true m (ended_of k (run n)) e in
          let y : ended_of k (run (suc n)) ≤ m = ltb-false m (ended_of k (run (suc n))) f in
          let g : ended_of k (run n) ≤ ended_of k (run (suc n)) = ended_grows k n (on n (omega (arith, lt))) in
          absurd (omega (arith, x, y, g))

    few_next : (k m n : ℕ) → n < cycles → Few k m n → Few k m (suc n)
    few_next k m n lt was = by (is_shut k m (deed n)) refl where
      same : one_if (is_shut k m (deed n)) ≡ 0 → Few k m (suc n)
      same z = omega (arith, was, z, one_grows k m n lt)

      cases : is_over (run n) ≡ false → is_closed top_cost (run n) ≡ true → one_if (is_shut k m (deed n)) ≡ 1 → Blame rule p content inputs requests devices tasks d sv k m n → Few k m (suc n)
      cases o c z (works w) = omega (arith, was, z, one_grows k m n lt, works_more k m n o w c)
      cases o c z (waits_near before near) = omega (arith, was, z, one_grows k m n lt, before, near)
      cases o c z (has_ended last same_n le less) =
          let a : ended_one k m n ≡ 0 = ap (ended_one k m) same_n ∙ ap one_if (le-ltb m (ended_of k (run last)) le) in
          let b : ended_one k m (suc n) ≡ 1 = ap one_if (lt-ltb m (ended_of k (run n)) less) in
          omega (arith, was, z, a, b)

      by : (b : Bool) → is_shut k m (deed n) ≡ b → Few k m (suc n)
      by false e = same (ap one_if e)
      by true e =
          let s : (is_over (run n) ≡ false) × (is_closed top_cost (run n) ≡ true) × Blamed rule p content inputs requests devices tasks d sv k m n =
          shut_blamed rule p content inputs requests devices tasks d sv n k m (shut_is k m (deed n) e) in
          cases s.0 s.1 (ap one_if e) s.2.by_case

    few_shut : (k m n : ℕ) → n ≤ cycles → Few k m n
    few_shut k m zero le = few_first k m
    few_shut k m (suc n) le = few_next k m n (omega (arith, le)) (few_shut k m n (omega (arith, le)))

    one_most : (k m n : ℕ) → ended_one k m n ≤ 1
    one_most k m zero = omega arith
    one_most k m (suc n) = by (ltb m (ended_of k (run n))) where
      by : (b : Bool) → one_if b ≤ 1
      by true = omega arith
      by false = omega arith

    shuts : (k m : ℕ) → k < length tasks → shut line k m cycles ≤ (closing_at tasks k).closed
    shuts k m lt =
        let f : Few k m cycles = few_shut k m cycles (omega arith) in
        let c : closed_for run top_cost k m cycles + top_cost ≤ (closing_at tasks k).closed = (sv.closings.each k (omega (arith, lt, sv.closings.count))).closes m cycles in
        omega (arith, f, c, one_most k m cycles, one_longest)

    -- ---- a cycle in which a request waits

    module _ (n : ℕ) (lt : n < cycles) where
      still_on : is_over (run n) ≡ false
      still_on = on n lt

      now_is : (run n).now ≡ n
      now_is = run_of-now rule p content inputs requests n still_on

      abbrev For : Deed → Type 0
      For x = IsFor here line n x

      blamed_for : (x : Deed) → IsBlamed rule p content inputs requests devices tasks d sv n x → For x
      blamed_for (Carries i) h = absurd h
      blamed_for Behind h = absurd h
      blamed_for (Shut k m) h = h.shut
      blamed_for Free h = absurd h

      -- one that is closed
      closed_for_one : fits (run n).now (run n).core.window top_cost ≡ false → (o : Option Carried) →
          For (deed_with rule p content inputs requests devices tasks d sv o (other rule p content inputs requests devices tasks d sv n))
      closed_for_one out o = by o where
        shut_one : For (other rule p content inputs requests devices tasks d sv n)
        shut_one = subst (λ b. For (cond b Behind (blame rule p content inputs requests devices tasks d sv n))) (sym out)
            (blamed_for (blame rule p content inputs requests devices tasks d sv n)
            (closed_blamed rule p content inputs requests devices tasks d sv n still_on out))

        one : (c : Carried) (b : Bool) → ltb c.device (d + 1) ≡ b → For (cond b (Carries c.device) (other rule p content inputs requests devices tasks d sv n))
        one c true e = ltb-true c.device (d + 1) e
        one c false e = shut_one

        by : (o : Option Carried) → For (deed_with rule p content inputs requests devices tasks d sv o (other rule p content inputs requests devices tasks d sv n))
        by None = shut_one
        by (Some c) = one c (ltb c.device (d + 1)) refl

      -- one of a transfer behind the level
      behind_goes : (c : Carried) → (gates_in n).carried ≡ Some c → d + 1 ≤ c.device → fits (run n).now (run n).core.window top_cost ≡ true → GoesOn here line n
      behind_goes c e behind room =
          let held : (run n).gates.carried ≡ Some c = sym (arrivals_carried (run n).now requests (record { gates = (run n).gates; dropped = (run n).log.dropped })) ∙ e in
          let w = on_way rule p content inputs requests sv.costs n c still_on held in
          let f : (c.first < n) × NoneWaits (d + 1) (run (suc c.first)).gates =
          begun_free rule p content inputs requests (d + 1) top_cost sv.costs queue_most n c still_on held behind (ap (λ t. fits t (run n).core.window top_cost) (sym now_is) ∙ room) in
          let there : c.device < length p.devices = there_if p.devices c.device n c.first c.left w.1 w.0 w.2 in
          let r : (asking_at devices c.device).cost ≤ longest_of (drop (d + 1) devices) = within_rest devices (d + 1) c.device behind (omega (arith, there, sv.askings.count)) in
          record {
            begun = c.first;
            before = f.0;
            lasts = omega (arith, w.0, w.2, r, carried_cost n c held there);
            free = λ j lj. let z : waiting j (run (suc c.first)).gates ≡ 0 = f.1 j lj in
                let a : asked_by j (suc c.first) ≡ served_by j (suc c.first) + waiting j (run (suc c.first)).gates =
                asked_are rule p content inputs requests j (suc c.first) in omega (arith, z, a);
          }

      used_for : BusUse (d + 1) top_cost (run n).now (run n).core.window (gates_in n) (coming_transfer requests (run n)) → For (deed n)
      used_for u = subst For (sym (on_deed n lt)) (by u) where
        by : BusUse (d + 1) top_cost (run n).now (run n).core.window (gates_in n) (coming_transfer requests (run n)) →
            For (deed_with rule p content inputs requests devices tasks d sv (coming_transfer requests (run n))
            (other rule p content inputs requests devices tasks d sv n))
        by (serves c e less) =
            subst (λ o. For (deed_with rule p content inputs requests devices tasks d sv o (other rule p content inputs requests devices tasks d sv n))) (sym e)
            (subst (λ b. For (cond b (Carries c.device) (other rule p content inputs requests devices tasks d sv n))) (sym (lt-ltb c.device (d + 1) less)) less)
        by (goes_on c e behind room) =
            let o : coming_transfer requests (run n) ≡ Some c = ap (λ o. on_bus (want_of (run n).core.debt) o (startable (run n).now (run n).core.window (gates_in n))) e in
            subst (λ o. For (deed_with rule p content inputs requests devices tasks d sv o (other rule p content inputs requests devices tasks d sv n))) (sym o)
            (subst (λ b. For (cond b (Carries c.device) (other rule p content inputs requests devices tasks d sv n))) (sym (le-ltb c.device (d + 1) behind))
            (subst (λ b. For (cond b Behind (blame rule p content inputs requests devices tasks d sv n))) (sym room) (behind_goes c e behind room)))
        by (closed out) = closed_for_one out (coming_transfer requests (run n))

      -- no clash
      calm : (bus_in rule p content inputs requests n).turn.clash ≡ false
      calm = no_clash rule p content inputs requests n still_on (sv.calm n) (sv.calm (suc n))

      busy_one : (j : ℕ) → j < d + 1 → served_by j (suc n) < asked_by j (suc n) → For (deed n)
      busy_one j lj late =
          let a : asked_by j (suc n) ≡ served_by j n + waiting j (gates_in n) = asked_in rule p content inputs requests n still_on j in
          let g : served_by j n ≤ served_by j (suc n) = served_grows rule p content inputs requests j n in
          used_for (bus_serves_first (d + 1) top_cost (run n).now (run n).core.window (want_of (run n).core.debt) (gates_in n) (run n).work.memory
          (queue_most n still_on)
          (record { device = j; there = lj; some = omega (arith, a, g, late) }) calm)

    -- ---- the timeline

    -- the cost of a device is told, or it is none and the device makes no request
    abbrev IsTold : ℕ → Type 0
    IsTold j = ((asking_at devices j).cost ≡ device_cost p.devices j) ⊎ (((asking_at devices j).cost ≡ 0) × (asked_of j requests ≡ []))

    is_told : (j : ℕ) → j < d + 1 → IsTold j
    is_told j lj = (sv.askings.each j (in_devices j lj)).cost

    whole_one : (j t : ℕ) → j < d + 1 → t ≤ cycles → (asking_at devices j).cost * served_by j t ≤ carried line j t
    whole_one j t lj le = by (is_told j lj) where
      by : IsTold j → (asking_at devices j).cost * served_by j t ≤ carried line j t
      by (inl same) =
          let e : carried line j t ≡ device_cost p.devices j * served_by j t + part j (device_cost p.devices j) (run t).gates.carried = carried_are j t lj le in
          let c : (asking_at devices j).cost * served_by j t ≡ device_cost p.devices j * served_by j t = ap (λ m. m * served_by j t) same in
          omega (arith, e, c)
      by (inr silent) = let z : (asking_at devices j).cost * served_by j t ≡ 0 = ap (λ m. m * served_by j t) silent.0 ∙ zero-mul (served_by j t) in omega (arith, z)

    idle_one : (j t : ℕ) → j < d + 1 → t ≤ cycles → asked_by j t ≤ served_by j t → carried line j t ≤ (asking_at devices j).cost * asked_by j t
    idle_one j t lj le done = by (is_told j lj) where
      a : asked_by j t ≡ served_by j t + waiting j (run t).gates
      a = asked_are rule p content inputs requests j t

      z : part j (device_cost p.devices j) (run t).gates.carried ≡ 0
      z = part_none j t (omega (arith, asked_are rule p content inputs requests j t, done))

      e : carried line j t ≡ device_cost p.devices j * served_by j t + part j (device_cost p.devices j) (run t).gates.carried
      e = carried_are j t lj le

      by : IsTold j → carried line j t ≤ (asking_at devices j).cost * asked_by j t
      by (inl told) =
          let same : asked_by j t ≡ served_by j t = omega (arith, a, done) in
          let c : (asking_at devices j).cost * asked_by j t ≡ device_cost p.devices j * served_by j t = ap (λ m. m * asked_by j t) told ∙ ap (λ m. device_cost p.devices j * m) same in
          omega (arith, e, c, z)
      by (inr silent) =
          let none : device_cost p.devices j * served_by j t ≡ 0 = ap (λ m. device_cost p.devices j * m) (silent_waits j t silent.1).0 ∙ times_none (device_cost p.devices j) in
          omega (arith, e, none, z)

    part_one : (j t : ℕ) → j < d + 1 → t ≤ cycles → served_by j t < asked_by j t → carried line j t < (asking_at devices j).cost * served_by j t + (asking_at devices j).cost
    part_one j t lj le late = by (is_told j lj) where
      by : IsTold j → carried line j t < (asking_at devices j).cost * served_by j t + (asking_at devices j).cost
      by (inl same) =
          let e : carried line j t ≡ device_cost p.devices j * served_by j t + part j (device_cost p.devices j) (run t).gates.carried = carried_are j t lj le in
          let c : (asking_at devices j).cost * served_by j t ≡ device_cost p.devices j * served_by j t = ap (λ m. m * served_by j t) same in
          let l : part j (device_cost p.devices j) (run t).gates.carried < device_cost p.devices j = part_less j t lj in
          omega (arith, e, c, l, same)
      by (inr silent) = let none : asked_by j t ≡ 0 = silent_none j t silent.1 in absurd (omega (arith, none, late))

    pub is_timeline : IsTimeline here line cycles
    is_timeline = record {
      apart = λ j a n lj le. apart j a n lj;
      some = λ j a n lj le. some_ask j a n le;
      keeps = λ j t lj. asked_grows rule p content inputs requests j t;
      none = λ j lj. none_first rule p content inputs requests j;
      grows = λ j t lj. served_grows rule p content inputs requests j t;
      whole = whole_one;
      idle = idle_one;
      part = part_one;
      busy = λ j t lj lt late. busy_one t lt j lj late;
      shuts = shuts;
    }

    -- ---- the law

    pub served_in_time : (wait t : ℕ) → IsRoom devices tasks d wait → t + wait ≤ cycles → asked_by d (suc t) ≤ served_by d (t + wait)
    served_in_time wait t room le =
        requests_end_in_time here line cycles wait is_level is_timeline (levels_are_enough devices tasks d wait (omega (arith, sv.there, sv.askings.count)) room) d t (omega arith) le

    -- where one comes, fewer wait than come in so many cycles
    pub has_room_in : (wait t : ℕ) → IsRoom devices tasks d wait → t < cycles → come_before d t requests < come_before d (suc t) requests →
        asked_by d t < served_by d t + requests_in (asking_at devices d).every wait
    has_room_in wait t room lt comes =
        queues_have_room here line cycles wait is_level is_timeline (levels_are_enough devices tasks d wait (omega (arith, sv.there, sv.askings.count)) room) d t (omega arith) lt comes

  -- ---- requests in order

  found_more : (j a n : ℕ) → (more : List Request) × (found rule p content inputs requests j (a + n) ≡ found rule p content inputs requests j a ++ more)
  found_more j a zero = let e : a + 0 ≡ a = omega arith in ([], ap (found rule p content inputs requests j) e ∙ sym (append-nil (found rule p content inputs requests j a)))
  found_more j a (suc n) =
      let e : a + suc n ≡ suc (a + n) = omega arith in
      let m : (more : List Request) × (found rule p content inputs requests j (a + n) ≡ found rule p content inputs requests j a ++ more) = found_more j a n in
      let next : List Request = asked_of j (coming_requests requests (run (a + n))) in (
        m.0 ++ next,
        ap (found rule p content inputs requests j) e ∙ found_next rule p content inputs requests j (a + n) ∙ ap (λ xs. xs ++ next) m.1
            ∙ append_assoc (found rule p content inputs requests j a) m.0 next,
      )

first_part : (xs ys front rest : List Request) → xs ++ ys ≡ front ++ rest → length front ≤ length xs → (later : List Request) × (xs ≡ front ++ later)
first_part xs ys [] rest e le = (xs, refl)
first_part [] ys (a ∷ front) rest e le = absurd (omega (arith, le))
first_part (x ∷ xs) ys (a ∷ front) rest e le =
    let h : x ∷ (xs ++ ys) ≡ a ∷ (front ++ rest) = e in
    let same : x ≡ a = cc in
    let tail : xs ++ ys ≡ front ++ rest = cc in
    let f : (later : List Request) × (xs ≡ front ++ later) = first_part xs ys front rest tail (omega (arith, le)) in
    (f.0, ap (λ r. r ∷ xs) same ∙ ap (λ rs. a ∷ rs) f.1)

still_served : (rule : ReplacementRule) (p : Setup) (content : List ℕ) (inputs : List (List ℕ)) (requests : List Request) (j a n : ℕ) →
    served rule p content inputs requests j a ≤ served rule p content inputs requests j (a + n)
still_served rule p content inputs requests j a zero = let e : a + 0 ≡ a = omega arith in
    subst (λ t. served rule p content inputs requests j a ≤ served rule p content inputs requests j t) (sym e) (omega arith)
still_served rule p content inputs requests j a (suc n) =
    let e : a + suc n ≡ suc (a + n) = omega arith in
    let was : served rule p content inputs requests j a ≤ served rule p content inputs requests j (a + n) = still_served rule p content inputs requests j a n in
    let more : served rule p content inputs requests j (a + n) ≤ served rule p content inputs requests j (suc (a + n)) = served_grows rule p content inputs requests j (a + n) in
    subst (λ t. served rule p content inputs requests j a ≤ served rule p content inputs requests j t) (sym e) (omega (arith, was, more))

pub requests_are_served : RequestsAreServed
requests_are_served rule p content inputs requests devices tasks d wait t n sv room on le =
    let s : ℕ = t + wait in
    let e : s + (n - s) ≡ n = omega (arith, le) in
    let in_time : asked rule p content inputs requests d (suc t) ≤ served rule p content inputs requests d s = served_in_time rule p content inputs requests devices tasks d sv n on wait t room le in
    let still : served rule p content inputs requests d s ≤ served rule p content inputs requests d n =
    subst (λ m. served rule p content inputs requests d s ≤ served rule p content inputs requests d m) e
    (still_served rule p content inputs requests d s (n - s)) in
    let some : 1 ≤ wait = room.0 in
    let f : suc t + (n - suc t) ≡ n = omega (arith, le, some) in
    let m : (more : List Request) ×
    (found rule p content inputs requests d (suc t + (n - suc t)) ≡ found rule p content inputs requests d (suc t) ++ more) =
    found_more rule p content inputs requests devices tasks d sv d (suc t) (n - suc t) in
    let st : MachineState = state rule p content inputs requests n in
    let held : held_of d st ≡ found rule p content inputs requests d (suc t) ++ m.0 = requests_held rule p content inputs requests n d ∙ ap (found rule p content inputs requests d) (sym f) ∙ m.1 in
    let grouped : transferred_of d st.log.transfers ++ (carried_of d st.gates.carried ++ queue_at st.gates d) ≡ found rule p content inputs requests d (suc t) ++ m.0 =
    sym (append_assoc (transferred_of d st.log.transfers) (carried_of d st.gates.carried) (queue_at st.gates d)) ∙ held in
    let l : (later : List Request) × (transferred_of d st.log.transfers ≡ found rule p content inputs requests d (suc t) ++ later) =
    first_part (transferred_of d st.log.transfers) (carried_of d st.gates.carried ++ queue_at st.gates d)
    (found rule p content inputs requests d (suc t)) m.0 grouped (omega (arith, in_time, still)) in
    record { later = l.0; whole_is = l.1 }
