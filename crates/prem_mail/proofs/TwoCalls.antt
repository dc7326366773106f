-- Two calls one behind the other are one.
use Rattle.std.specs.Prelude.{is_some}
use Rattle.std.proofs.Common.{◌≡◌, ℕ, zero, suc, ◌+◌, ◌-◌, ◌≤◌, true, false, List, Option, Some, None, refl, ap, sym, ◌∙◌, arith, ⊎_elim}
use Rattle.std.proofs.lemmas.Bool.{cases_Bool}
use Rattle.prem_lru.specs.Entries.{ReplacementRule}
use Rattle.prem_gate.specs.declared.request.Request.{Request}
use Rattle.prem_gate.specs.declared.bus.Transfer.{Transfer}
use Rattle.prem_cycle.specs.declared.state.Trap.{Trap}
use Rattle.prem_cycle.specs.State.{Setup, MachineState, rule_in}
use Rattle.prem_cycle.specs.Cycle.{arrivals_at, bus_at, is_finished, is_full, is_over, cycle_of}
use Rattle.prem_cycle.specs.Run.{wants_input_of}
use Rattle.prem_cycle.proofs.CycleParts.{cycle_goes, cycle_trapped, cycle_traps}
use Rattle.prem_cycle.proofs.RunLaws.{step_of-goes}
use Rattle.prem_machine.proofs.Going.{over_trapped}
use Rattle.prem_mail.specs.declared.feed.Feed.{Feed}
use Rattle.prem_mail.specs.Delivery.{ended_between}
use Rattle.prem_mail.specs.Mailing.{Mailed, supplied_to, stepped, mail_step, mailed_by, with_mailed}
use Rattle.prem_mail.specs.Calls.{TwoCallsAreOne}
use Rattle.prem_mail.proofs.Going.{mailed_by-add, mailed_by-over, step_over}
use Rattle.prem_mail.proofs.Stepping.{supplied_over, supplied_now, received_now, received_trapped}

-- what isn't over hasn't trapped
untrapped : (s : MachineState) (o : Option Trap) → s.trapped ≡ o → is_over s ≡ false → s.trapped ≡ None
untrapped s None e on = e
untrapped s (Some t) e on = let y : true ≡ false = sym (over_trapped (is_finished s) s.trapped (is_full s) t e) ∙ on in absurd cc

module _ (rule : ReplacementRule) (p : Setup) (requests : List Request) (feeds : List Feed) where
  abbrev step : Mailed → Mailed
  step m = mail_step rule p requests feeds m

  abbrev run : ℕ → Mailed → Mailed
  run n m = mailed_by rule p requests feeds n m

  -- ---- the time of a cycle

  -- what came before it
  abbrev fed : Mailed → Mailed
  fed m = supplied_to (wants_input_of rule p requests m.state) m

  abbrev ended : Mailed → Option Transfer
  ended m = ended_between m.state (stepped rule p requests m).state

  cycled_is : (m : Mailed) → is_over m.state ≡ false → (stepped rule p requests m).state ≡ cycle_of rule p requests (fed m).state
  cycled_is m on = step_of-goes rule p requests (fed m).state (supplied_over (wants_input_of rule p requests m.state) m ∙ on)

  time_goes : (m : Mailed) → is_over m.state ≡ false → (step m).state.trapped ≡ None → (step m).state.now ≡ m.state.now + 1
  time_goes m on none =
      let s : MachineState = (fed m).state in
      let a = arrivals_at requests s in
      let b = bus_at a.gates s in
      let cycle = cycled_is m on in
      let went = sym (cycle_trapped rule p a b s) ∙ ap (λ (x : MachineState). x.trapped) (sym cycle) ∙ sym (received_trapped feeds (ended m) (stepped rule p requests m)) ∙ none in
      received_now feeds (ended m) (stepped rule p requests m)
      ∙ ap (λ (x : MachineState). x.now) cycle ∙ cycle_goes rule p a b s went ∙ ap (λ n. n + 1) (supplied_now (wants_input_of rule p requests m.state) m)

  time_stays : (m : Mailed) → is_over m.state ≡ false → is_some (step m).state.trapped ≡ true → (step m).state.now ≡ m.state.now
  time_stays m on some =
      let s : MachineState = (fed m).state in
      let a = arrivals_at requests s in
      let b = bus_at a.gates s in
      let cycle = cycled_is m on in
      let stopped = ap (λ (o : Option Trap). is_some o)
      (sym (cycle_trapped rule p a b s) ∙ ap (λ (x : MachineState). x.trapped) (sym cycle)
      ∙ sym (received_trapped feeds (ended m) (stepped rule p requests m))) ∙ some in
      received_now feeds (ended m) (stepped rule p requests m)
      ∙ ap (λ (x : MachineState). x.now) cycle ∙ cycle_traps rule p a b s stopped ∙ supplied_now (wants_input_of rule p requests m.state) m

  time_most : (m : Mailed) → (step m).state.now ≤ m.state.now + 1
  time_most m =
      ⊎_elim (λ (over : is_over m.state ≡ true).
      let e : (step m).state.now ≡ m.state.now = ap (λ (x : Mailed). x.state.now) (step_over rule p requests feeds m over) in omega (arith, e))
      (λ (on : is_over m.state ≡ false). by on (step m).state.trapped refl)
      (cases_Bool (is_over m.state))
    where
      by : is_over m.state ≡ false → (o : Option Trap) → (step m).state.trapped ≡ o → (step m).state.now ≤ m.state.now + 1
      by on None e = let goes = time_goes m on e in omega (arith, goes)
      by on (Some t) e = let stays = time_stays m on (ap (λ (o : Option Trap). is_some o) e) in omega (arith, stays)

  -- ---- the time of n cycles

  run_most : (n : ℕ) (m : Mailed) → (run n m).state.now ≤ m.state.now + n
  unfolding mailed_by
  run_most zero m = omega arith
  run_most (suc n) m = let before = run_most n m in let one = time_most (run n m) in omega (arith, before, one)

  run_time : (n : ℕ) (m : Mailed) → is_over (run n m).state ≡ false → (run n m).state.now ≡ m.state.now + n
  unfolding mailed_by
  run_time zero m on = omega arith
  run_time (suc n) m on =
      ⊎_elim (λ (over : is_over (run n m).state ≡ true).
      let y : true ≡ false = sym over ∙ ap (λ (x : Mailed). is_over x.state) (sym (step_over rule p requests feeds (run n m) over)) ∙ on in absurd cc)
      (λ (going : is_over (run n m).state ≡ false).
      let before = run_time n m going in
      let one = time_goes (run n m) going (untrapped (step (run n m)).state (step (run n m)).state.trapped refl on) in omega (arith, before, one))
      (cases_Bool (is_over (run n m).state))

  -- ---- two calls

  -- the second one begins where the first one ended, or the run was over by then
  both : (first last : ℕ) (m : Mailed) → m.state.now ≤ first → first ≤ last → run (last - (run (first - m.state.now) m).state.now) (run (first - m.state.now) m) ≡ run (last - m.state.now) m
  both first last m before later =
      ⊎_elim (λ (over : is_over mid.state ≡ true).
      mailed_by-over rule p requests feeds (last - mid.state.now) mid over ∙ sym (mailed_by-over rule p requests feeds (last - first) mid over) ∙ whole)
      (λ (on : is_over mid.state ≡ false).
      let time = run_time (first - m.state.now) m on in
      let left : last - mid.state.now ≡ last - first = omega (arith, time, before) in
      ap (λ n. run n mid) left ∙ whole)
      (cases_Bool (is_over mid.state))
    where
      mid : Mailed
      mid = run (first - m.state.now) m

      whole : run (last - first) mid ≡ run (last - m.state.now) m
      whole =
          let e : (first - m.state.now) + (last - first) ≡ last - m.state.now = omega (arith, before, later) in
          sym (mailed_by-add rule p requests feeds (first - m.state.now) (last - first) m) ∙ ap (λ n. run n m) e

pub two_calls_are_one : TwoCallsAreOne
two_calls_are_one first last m before later =
    let n = first - m.mailed.state.now in
    let most = run_most (rule_in m.setup) m.setup m.requests m.feeds n m.mailed in
    record {
      lawful = omega (arith, most, before, later);
      same = ap (with_mailed m) (both (rule_in m.setup) m.setup m.requests m.feeds first last m.mailed before later);
    }
