-- The laws joined: a run of tasks that keep to their scripts, and are charged as loads tell, serves its devices in time.
use Rattle.std.specs.Prelude.{take}
use Rattle.std.proofs.Common.{◌≡◌, ℕ, suc, subst, ◌+◌, ◌*◌, ◌<◌, ◌≤◌, ◌∙◌, sym, arith, true, false, Bool, List, ⊎_elim}
use Rattle.std.proofs.lemmas.Bool.{cases_Bool}
use Rattle.prem_plant.specs.Order.Order.{OrderRule}
use Rattle.prem_isa.specs.Plain.{TaskRun}
use Rattle.prem_lru.specs.Entries.{ReplacementRule}
use Rattle.prem_gate.specs.declared.request.Request.{Request}
use Rattle.prem_cycle.specs.State.{Setup, record_of}
use Rattle.prem_cycle.specs.Cycle.{is_finished, is_over}
use Rattle.prem_sound.specs.Script.Script.{Script}
use Rattle.prem_sound.proofs.ResidentLemmas.KeptRuns.{costs_of, no_faults}
use Rattle.prem_sound.proofs.Finishing.{over_finished}
use Rattle.prem_latency.specs.declared.wait.Asking.{Asking}
use Rattle.prem_latency.specs.declared.wait.Closing.{Closing}
use Rattle.prem_latency.specs.Wait.{longest, top}
use Rattle.prem_latency.specs.Timeline.{asking_at, closing_at}
use Rattle.prem_latency.specs.Requests.{Serves, states_of, AreTransferred}
use Rattle.prem_sound.specs.Serve.Requests.{transferred_of}
use Rattle.prem_sound.specs.Scopes.Charged.{Scoping, charges_by, all_charged}
use Rattle.prem_resp.specs.declared.busy.load.Load.{Load}
use Rattle.prem_resp.specs.Busy.Busy.{load_at}
use Rattle.prem_resp.specs.Deadline.Deadlines.{IsLoadOf}
use Rattle.prem_resp.proofs.DeadlineLemmas.Timelines.{scripts_meet_deadlines}
use Rattle.prem_latency.specs.Waits.{IsClosingBy, ServesBy, ChargesServeInTime, ChargesServeEach, ChargesDropNone}
use Rattle.prem_latency.proofs.Blames.{within_top}
use Rattle.prem_latency.proofs.Serving.{requests_are_served}
use Rattle.prem_latency.proofs.Dropped.{all_find_room, none_is_dropped}
use Rattle.prem_latency.proofs.AccountRuns.{jobs_keep_closed_by_charges}

module _ (rule : ReplacementRule) (order : OrderRule) (passes : ℕ → ℕ) (p : Setup) (content : List ℕ) (inputs : List (List ℕ))
    (requests : List Request) (own : ℕ → ℕ → Bool) (runs : ℕ → TaskRun) (scripts : ℕ → Script) (scopings : ℕ → Scoping) (loads : List Load)
    (devices : List Asking) (tasks : List Closing) (d : ℕ)
    (s : ServesBy rule order passes p content inputs requests own runs scripts scopings loads devices tasks d) where
  some_top : 1 ≤ top devices d
  some_top =
      let w : (asking_at devices d).cost ≤ longest (take (d + 1) devices) = within_top devices (d + 1) d (omega arith) (omega (arith, s.there, s.askings.count)) in
      omega (arith, s.asks, w)

  serves : Serves rule p content inputs requests devices tasks d
  serves = record {
    costs = costs_of p s.run.runnable.devices;
    periods = s.run.periods;
    calm = λ n. (no_faults rule order passes p content inputs requests own runs scripts n s.policy s.run.runnable s.are_scripts.own_runs s.are_scripts.each).clashes;
    askings = s.askings;
    closings = record {
      count = s.closings.count;
      each = λ k lt.
          let c : IsClosingBy p (runs k) (scripts k) loads (top devices d) k (closing_at tasks k) = s.closings.each k lt in
          let x : IsLoadOf p runs scripts scopings k (load_at loads k) = s.are_loads.each k lt in
          let same : (closing_at tasks k).period ≡ (record_of p k).period = c.period ∙ x.period in
          record {
            period = same;
            ends = λ job n left late.
                scripts_meet_deadlines rule order passes p content inputs requests own runs scripts scopings loads k
                (closing_at tasks k).length s.policy s.run s.are_scripts s.are_loads lt c.balanced (omega (arith, c.soon, same)) job n left
                (subst (λ period. job * period + (closing_at tasks k).length ≤ n) same late);
            closes = λ job n. let f = jobs_keep_closed_by_charges rule order passes p content inputs requests own runs scripts c.parting c.opens
                (top devices d) k c.most job n s.policy s.run s.are_scripts lt some_top c.parted c.opened c.jobs in omega (arith, f, c.closed);
          };
    };
    there = s.there;
    asks = s.asks;
  }

  -- what a task is charged in all
  abbrev total : ℕ → ℕ
  total k = all_charged p.plant (scripts k) (runs k) (charges_by p.plant (runs k) (scopings k)) (scripts k).count

  -- it is over where it has finished
  goes_on : (m : ℕ) → is_finished (states_of rule p content inputs requests m) ≡ false → is_over (states_of rule p content inputs requests m) ≡ false
  goes_on m e =
      ⊎_elim (λ (over : is_over (states_of rule p content inputs requests m) ≡ true).
      absurd (let x : true ≡ false =
      sym (over_finished rule order passes p content inputs requests own runs scripts s.policy s.are_scripts.each s.run.runnable
      s.are_scripts.own_runs s.run.periods scopings (λ k lt. (s.are_loads.each k lt).scoped) total (λ k lt. omega arith)
      m s.are_scripts.outputs s.are_scripts.intervals over) ∙ e in cc))
      (λ (on : is_over (states_of rule p content inputs requests m) ≡ false). on)
      (cases_Bool (is_over (states_of rule p content inputs requests m)))

pub charges_serve_in_time : ChargesServeInTime
charges_serve_in_time rule order passes p content inputs requests own runs scripts scopings loads devices tasks d wait t n s room on le =
    requests_are_served rule p content inputs requests devices tasks d wait t n (serves rule order passes p content inputs requests own runs scripts scopings loads devices tasks d s) room
    (λ m lt. goes_on rule order passes p content inputs requests own runs scripts scopings loads devices tasks d s m (on m lt)) le

pub charges_drop_none : ChargesDropNone
charges_drop_none rule order passes p content inputs requests own runs scripts scopings loads devices tasks d wait n s room holds =
    none_is_dropped rule p content inputs requests devices tasks d wait n (serves rule order passes p content inputs requests own runs scripts scopings loads devices tasks d s) room holds

pub charges_serve_each : ChargesServeEach
charges_serve_each rule order passes p content inputs requests own runs scripts scopings loads devices tasks d wait t n s room holds on le =
    let sv : Serves rule p content inputs requests devices tasks d = serves rule order passes p content inputs requests own runs scripts scopings loads devices tasks d s in
    let some : 1 ≤ wait = room.0 in
    let before : (m : ℕ) → m < suc t → is_over (states_of rule p content inputs requests m) ≡ false =
    (λ m lt. goes_on rule order passes p content inputs requests own runs scripts scopings loads devices tasks d s m (on m (omega (arith, lt, le, some)))) in
    subst (λ xs. AreTransferred xs (transferred_of d (states_of rule p content inputs requests n).log.transfers))
    (all_find_room rule p content inputs requests devices tasks d wait (suc t) sv room holds before)
    (charges_serve_in_time rule order passes p content inputs requests own runs scripts scopings loads devices tasks d wait t n s room on le)
