-- A run of which a dump is written turn by turn.
use Rattle.std.specs.Prelude.{min, nat_lt, is_some, ◌||◌, ◌&&◌, ◌==◌}
use Rattle.std.proofs.Common.{◌≡◌, ℕ, zero, suc, ◌+◌, ◌-◌, ◌<◌, ◌≤◌, Bool, true, false, cond, List, [], ◌++◌, Option, Some, None, length, refl, ap, ap₂, sym, ◌∙◌, subst, arith}
use Rattle.std.proofs.Common.{append_assoc, append-nil}
use Rattle.std.proofs.lemmas.Bool.Decides.{nat_tests}
use Rattle.prem_list.specs.Sequence.{items_of}
use Rattle.prem_lru.specs.Entries.{ReplacementRule}
use Rattle.prem_gate.specs.declared.request.Request.{Request}
use Rattle.prem_gate.specs.declared.request.RunInput.{RunInput}
use Rattle.prem_gate.specs.Gates.{Turned}
use Rattle.prem_image.specs.declared.image.Image.{Image}
use Rattle.prem_cycle.specs.declared.state.Stop.{Stop}
use Rattle.prem_cycle.specs.declared.state.Stop.TheVariants.{Finished, Trap, LogFull, Limit}
use Rattle.prem_cycle.specs.declared.state.Trap.{Trap as Trapped}
use Rattle.prem_cycle.specs.State.{MachineState, Setup, rule_in}
use Rattle.prem_cycle.specs.Cycle.{Arrivals, arrivals_at, bus_at, core_at, cycle_of, cycle_with, is_finished, is_full, is_over, log_size, step_of}
use Rattle.prem_cycle.specs.FactsOf.{stop_of, stop_trapped}
use Rattle.prem_cycle.specs.Inputs.{image_run, setup_of}
use Rattle.prem_cycle.specs.Run.{cycles_of}
use Rattle.prem_cycle.proofs.CycleParts.{cycle_goes, cycle_traps}
use Rattle.prem_cycle.proofs.RunLaws.{cycles_of-add, cycles_of-over, step_of-goes, step_of-stays}
use Rattle.prem_machine.specs.States.{Running, requests_in, setup_in, state_of}
use Rattle.prem_wave.specs.Dump.{last_of, moments_of, moments_text}
use Rattle.prem_wave.specs.Signals.{values_of, values_with}
use Rattle.prem_wave.specs.Waves.{AllSame, goes_on, last_between, moments_between, run_values}
use Rattle.prem_wave.proofs.Between.{between, early as none_last, none_told}
use Rattle.prem_wave.proofs.Simulated.{flat_append}

-- ---- where a run comes to its limit

pub record AtLimit (at : ℕ) (s : MachineState) : Type 0 where
  pub going : is_over s ≡ false
  pub now : s.now ≡ at

limit_by : (finished : Bool) (trapped : Option Trapped) (full last : Bool) →
    Some Limit ≡ cond finished (Some Finished) (stop_trapped trapped (cond full (Some (LogFull log_size)) (cond last (Some Limit) None))) →
    ((finished || is_some trapped || full) ≡ false) × (last ≡ true)
limit_by true trapped full last e = absurd (cc)
limit_by false (Some t) full last e = absurd (cc)
limit_by false None true last e = absurd (cc)
limit_by false None false true e = (refl, refl)
limit_by false None false false e = absurd (cc)

at_limit : (at : ℕ) (s : MachineState) → Some Limit ≡ stop_of at s → AtLimit at s
at_limit at s e =
    let h = limit_by (is_finished s) s.trapped (is_full s) (s.now == at) e in
    let last : (s.now == at) ≡ true = h.1 in
    record { going = h.0; now = grind (arith, nat_tests) }

limit_is : (stop : Stop) → goes_on stop ≡ true → stop ≡ Limit
limit_is Finished e = absurd (cc)
limit_is (Trap task pc cause) e = absurd (cc)
limit_is (LogFull n) e = absurd (cc)
limit_is Limit e = refl

over_by : (finished : Bool) (trapped : Option Trapped) (full last : Bool) (stop : Stop) → goes_on stop ≡ false →
    Some stop ≡ cond finished (Some Finished) (stop_trapped trapped (cond full (Some (LogFull log_size)) (cond last (Some Limit) None))) → (finished || is_some trapped || full) ≡ true
over_by true trapped full last stop e h = refl
over_by false (Some t) full last stop e h = refl
over_by false None true last stop e h = refl
over_by false None false true stop e h = let is : stop ≡ Limit = cc in absurd (cc)
over_by false None false false stop e h = absurd (cc)

over_is : (at : ℕ) (s : MachineState) (stop : Stop) → goes_on stop ≡ false → Some stop ≡ stop_of at s → is_over s ≡ true
over_is at s stop e h = over_by (is_finished s) s.trapped (is_full s) (s.now == at) stop e h

-- ---- time goes on by one cycle at most

record Ticks (n : ℕ) (s t : MachineState) : Type 0 where
  from : s.now ≤ t.now
  within : t.now ≤ s.now + n

cycle_ticks : (rule : ReplacementRule) (p : Setup) (requests : List Request) (s : MachineState) (a : Arrivals) (b : Turned) (o : Option Trapped) → (core_at rule p b s).trapped ≡ o →
    cycle_of rule p requests s ≡ cycle_with rule p a b s → Ticks 1 s (cycle_of rule p requests s)
cycle_ticks rule p requests s a b None e is =
    let now = ap (λ (x : MachineState). x.now) is ∙ cycle_goes rule p a b s e in
    record { from = omega (arith, now); within = omega (arith, now) }
cycle_ticks rule p requests s a b (Some t) e is =
    let now = ap (λ (x : MachineState). x.now) is ∙ cycle_traps rule p a b s (ap is_some e) in
    record { from = omega (arith, now); within = omega (arith, now) }

step_ticks : (rule : ReplacementRule) (p : Setup) (requests : List Request) (s : MachineState) (b : Bool) → is_over s ≡ b → Ticks 1 s (step_of rule p requests s)
step_ticks rule p requests s true over =
    let now = ap (λ (x : MachineState). x.now) (step_of-stays rule p requests s over) in
    record { from = omega (arith, now); within = omega (arith, now) }
step_ticks rule p requests s false going =
    let a = arrivals_at requests s in
    let b = bus_at a.gates s in
    subst (Ticks 1 s) (sym (step_of-goes rule p requests s going)) (cycle_ticks rule p requests s a b (core_at rule p b s).trapped refl refl)

ticks : (rule : ReplacementRule) (p : Setup) (requests : List Request) (n : ℕ) (s : MachineState) → Ticks n s (cycles_of rule p requests n s)
unfolding cycles_of
ticks rule p requests zero s = record { from = omega arith; within = omega arith }
ticks rule p requests (suc n) s =
    let u = cycles_of rule p requests n s in
    let before = ticks rule p requests n s in
    let last = step_ticks rule p requests u (is_over u) refl in
    record { from = omega (arith, before.from, last.from); within = omega (arith, before.within, last.within) }

-- ---- the run

abbrev pub start : Image → RunInput → MachineState
start image input = image_run (rule_in (setup_of image)) image input 0

abbrev pub after : Image → RunInput → ℕ → MachineState
after image input n = cycles_of (rule_in (setup_of image)) (setup_of image) (items_of input.requests) n (start image input)

abbrev pub values_at : Image → RunInput → ℕ → List (Option ℕ)
values_at image input = run_values (rule_in (setup_of image)) (setup_of image) (items_of input.requests) (start image input)

-- what holds of the machine and the dump behind each turn
pub record IsWaved (image : Image) (input : RunInput) (from limit at : ℕ) (stop : Stop) (m : Running) (header text : List ℕ) (last : List (Option ℕ)) : Type 0 where
  pub within : at ≤ limit
  pub setup : setup_in m ≡ setup_of image
  pub requests : requests_in m ≡ items_of input.requests
  pub state : state_of m ≡ after image input at
  pub stopped : Some stop ≡ stop_of at (state_of m)
  pub text_is : text ≡ header ++ moments_text (moments_of (values_at image input) from (state_of m).now)
  pub last_is : last ≡ last_of (values_at image input) from (state_of m).now

pub first_now : (image : Image) (input : RunInput) → (start image input).now ≡ 0
unfolding cycles_of
first_now image input = refl

-- it has come to the first cycle that is told, or to the limit if that is before it
pub first_waved : (image : Image) (input : RunInput) (from limit at : ℕ) (stop : Stop) (m m' : Running) (header : List ℕ) →
    at ≡ min from limit → setup_in m ≡ setup_of image → requests_in m ≡ items_of input.requests → state_of m ≡ start image input →
    state_of m' ≡ cycles_of (rule_in (setup_in m)) (setup_in m) (requests_in m) (at - (state_of m).now) (state_of m) → setup_in m' ≡ setup_in m → requests_in m' ≡ requests_in m →
    Some stop ≡ stop_of at (state_of m') → IsWaved image input from limit at stop m' header header []
first_waved image input from limit at stop m m' header is setup requests state goes setup' requests' stopped =
    let p = setup_of image in
    let q = items_of input.requests in
    let rule = rule_in p in
    let now : (state_of m).now ≡ 0 = ap (λ (x : MachineState). x.now) state ∙ first_now image input in
    let all : at - (state_of m).now ≡ at = omega (arith, now) in
    let there : state_of m' ≡ after image input at =
    goes ∙ ap (λ n. cycles_of (rule_in (setup_in m)) (setup_in m) (requests_in m) n (state_of m)) all
    ∙ ap (λ x. cycles_of (rule_in x) x (requests_in m) at (state_of m)) setup ∙ ap (λ x. cycles_of rule p x at (state_of m)) requests ∙ ap (λ x. cycles_of rule p q at x) state in
    let t = ticks rule p q at (start image input) in
    let first = first_now image input in
    let then = ap (λ (x : MachineState). x.now) there in
    let early : (state_of m').now ≤ from = omega (arith, t.within, first, then, is) in
    record {
      within = omega (arith, is);
      setup = setup' ∙ setup;
      requests = requests' ∙ requests;
      state = there;
      stopped = stopped;
      text_is = sym (append-nil header) ∙ ap (λ ms. header ++ moments_text ms) (sym (none_told (values_at image input) from (state_of m').now early));
      last_is = sym (none_last (values_at image input) from (state_of m').now early);
    }

-- ---- a turn

second : (a b : Bool) → (a && b) ≡ true → b ≡ true
second true b e = e
second false b e = absurd (cc)

pub turn_goes : (at limit : ℕ) (stop : Stop) (has : Bool) → has ≡ (nat_lt at limit && goes_on stop) → has ≡ true → goes_on stop ≡ true
turn_goes at limit stop has is there = second (nat_lt at limit) (goes_on stop) (sym is ∙ there)

module _ (image : Image) (input : RunInput) (from limit at : ℕ) (stop : Stop) (m : Running) (header text : List ℕ) (last : List (Option ℕ))
    (w : IsWaved image input from limit at stop m header text last) where
  pub here : goes_on stop ≡ true → AtLimit at (state_of m)
  here goes = at_limit at (state_of m) (subst (λ s. Some s ≡ stop_of at (state_of m)) (limit_is stop goes) w.stopped)

  pub next_waved : (switch tasks devices : ℕ) (stop' : Stop) (m' : Running) (text' : List ℕ) (last' : List (Option ℕ)) (to : ℕ) → goes_on stop ≡ true → at < to → to ≤ limit →
      switch ≡ image.plant.switch → tasks ≡ length (items_of image.tasks) → devices ≡ length (items_of image.devices) →
      AllSame (rule_in (setup_in m)) (setup_in m) (requests_in m) (to - at) (state_of m) →
      state_of m' ≡ cycles_of (rule_in (setup_in m)) (setup_in m) (requests_in m) (to - (state_of m).now) (state_of m) →
      setup_in m' ≡ setup_in m → requests_in m' ≡ requests_in m → Some stop' ≡ stop_of to (state_of m') →
      text' ≡ text ++ moments_text (moments_between last from (state_of m).now (state_of m').now (values_with switch tasks devices (state_of m) (state_of m'))) →
      last' ≡ last_between last from (state_of m).now (state_of m').now (values_with switch tasks devices (state_of m) (state_of m')) →
      IsWaved image input from limit to stop' m' header text' last'
  next_waved switch tasks devices stop' m' text' last' to goes lower upper is_switch is_tasks is_devices same state setup requests stopped texts lasts =
      let p = setup_of image in
      let q = items_of input.requests in
      let rule = rule_in p in
      let s = after image input at in
      let all = values_at image input in
      let n = (state_of m').now - at in
      let now = (here goes).now in
      let whole : at + (to - at) ≡ to = omega arith in
      let went : state_of m' ≡ cycles_of (rule_in (setup_in m)) (setup_in m) (requests_in m) (to - at) (state_of m) =
      state ∙ ap (λ k. cycles_of (rule_in (setup_in m)) (setup_in m) (requests_in m) (to - k) (state_of m)) now in
      let near : state_of m' ≡ cycles_of rule p q (to - at) s =
      went ∙ ap (λ x. cycles_of (rule_in x) x (requests_in m) (to - at) (state_of m)) w.setup
      ∙ ap (λ x. cycles_of rule p x (to - at) (state_of m)) w.requests ∙ ap (λ x. cycles_of rule p q (to - at) x) w.state in
      let there : state_of m' ≡ after image input to = near ∙ sym (cycles_of-add rule p q at (to - at) (start image input)) ∙ ap (λ k. after image input k) whole in
      let same' : AllSame rule p q (to - at) s =
      subst (AllSame rule p q (to - at)) w.state
      (subst (λ x. AllSame rule p x (to - at) (state_of m)) w.requests
      (subst (λ x. AllSame (rule_in x) x (requests_in m) (to - at) (state_of m)) w.setup same)) in
      let t = ticks rule p q (to - at) s in
      let s_now : s.now ≡ at = sym (ap (λ (x : MachineState). x.now) w.state) ∙ now in
      let near_now : (state_of m').now ≡ (cycles_of rule p q (to - at) s).now = ap (λ (x : MachineState). x.now) near in
      let first : at ≤ (state_of m').now = omega (arith, t.from, s_now, near_now) in
      let final : n ≤ to - at = omega (arith, t.within, s_now, near_now) in
      let end : at + n ≡ (state_of m').now = omega (arith, first) in
      let x = values_with switch tasks devices (state_of m) (state_of m') in
      let x_is : x ≡ values_of p s (cycles_of rule p q (to - at) s) =
      ap₂ (λ a b. values_with switch tasks devices a b) w.state near
      ∙ ap (λ k. values_with k tasks devices s (cycles_of rule p q (to - at) s)) is_switch
      ∙ ap₂ (λ a b. values_with p.plant.switch a b s (cycles_of rule p q (to - at) s)) is_tasks is_devices in
      let each : (k : ℕ) → k < n → all (at + k) ≡ x =
      λ k lt. let next : suc (at + k) ≡ at + suc k = omega arith in
      ap₂ (values_of p) (cycles_of-add rule p q at k (start image input)) (ap (after image input) next ∙ cycles_of-add rule p q at (suc k) (start image input))
      ∙ same' p.plant.switch (length p.tasks) (length p.devices) k (omega (arith, lt, final)) ∙ sym x_is in
      let b = between all from at n x each in
      let last_at : last ≡ last_of all from at = w.last_is ∙ ap (last_of all from) now in
      let text_at : text ≡ header ++ moments_text (moments_of all from at) = w.text_is ∙ ap (λ k. header ++ moments_text (moments_of all from k)) now in
      record {
        within = upper;
        setup = setup ∙ w.setup;
        requests = requests ∙ w.requests;
        state = there;
        stopped = stopped;
        text_is = texts ∙ ap (λ y. y ++ moments_text (moments_between last from (state_of m).now (state_of m').now x)) text_at
            ∙ ap (λ y. (header ++ moments_text (moments_of all from at)) ++ moments_text (moments_between y from (state_of m).now (state_of m').now x)) last_at
            ∙ ap (λ k. (header ++ moments_text (moments_of all from at)) ++ moments_text (moments_between (last_of all from at) from k (state_of m').now x)) now
            ∙ ap (λ k. (header ++ moments_text (moments_of all from at)) ++ moments_text (moments_between (last_of all from at) from at k x)) (sym end)
            ∙ append_assoc header (moments_text (moments_of all from at)) (moments_text (moments_between (last_of all from at) from at (at + n) x))
            ∙ ap (λ y. header ++ y) (sym (flat_append (moments_of all from at) (moments_between (last_of all from at) from at (at + n) x)) ∙ ap moments_text (sym b.moments_are))
            ∙ ap (λ k. header ++ moments_text (moments_of all from k)) end;
        last_is = lasts ∙ ap (λ y. last_between y from (state_of m).now (state_of m').now x) last_at
            ∙ ap (λ k. last_between (last_of all from at) from k (state_of m').now x) now
            ∙ ap (λ k. last_between (last_of all from at) from at k x) (sym end) ∙ sym b.last_is ∙ ap (last_of all from) end;
      }

ends_by : (image : Image) (input : RunInput) (from limit at : ℕ) (stop : Stop) (m : Running) (header text : List ℕ) (last : List (Option ℕ)) →
    IsWaved image input from limit at stop m header text last →
    (less goes : Bool) → nat_lt at limit ≡ less → goes_on stop ≡ goes → (less && goes) ≡ false → state_of m ≡ after image input limit
ends_by image input from limit at stop m header text last w true true l g e = absurd (cc)
ends_by image input from limit at stop m header text last w true false l g e =
    let p = setup_of image in
    let q = items_of input.requests in
    let rule = rule_in p in
    let up = w.within in
    let whole : at + (limit - at) ≡ limit = omega arith in
    let over : is_over (after image input at) ≡ true = ap is_over (sym w.state) ∙ over_is at (state_of m) stop g w.stopped in
    w.state ∙ sym (cycles_of-over rule p q (limit - at) (after image input at) over) ∙ sym (cycles_of-add rule p q at (limit - at) (start image input))
    ∙ ap (λ k. after image input k) whole
ends_by image input from limit at stop m header text last w false goes l g e =
    let up = w.within in
    let same : at ≡ limit = grind (arith, nat_tests) in
    w.state ∙ ap (after image input) same

pub ended : (image : Image) (input : RunInput) (from limit at : ℕ) (stop : Stop) (m : Running) (header text : List ℕ) (last : List (Option ℕ)) →
    IsWaved image input from limit at stop m header text last →
    (nat_lt at limit && goes_on stop) ≡ false → state_of m ≡ after image input limit
ended image input from limit at stop m header text last w e = ends_by image input from limit at stop m header text last w (nat_lt at limit) (goes_on stop) refl refl e
