-- A run that goes on until it stops.
use Rattle.std.specs.Prelude.{◌==◌, is_some}
use Rattle.std.proofs.Common.{◌≡◌, ℕ, zero, suc, ◌+◌, ◌-◌, ◌<◌, ◌≤◌, Bool, true, false, cond, List, Option, Some, None, length, refl, ap, sym, ◌∙◌, arith, inl, inr}
use Rattle.std.proofs.lemmas.Bool.{eq-eqb}
use Rattle.std.proofs.lemmas.Bool.Decides.{nat_tests}
use Rattle.std.proofs.lemmas.Option.{slice_get_past}
use Rattle.prem_lru.specs.Entries.{ReplacementRule}
use Rattle.prem_gate.specs.declared.request.Request.{Request}
use Rattle.prem_cycle.specs.declared.state.Stop.{Stop}
use Rattle.prem_cycle.specs.declared.state.Stop.TheVariants.{Finished, Trap as Trapped, LogFull, Limit}
use Rattle.prem_cycle.specs.declared.state.Trap.{Trap}
use Rattle.prem_cycle.specs.State.{Setup, MachineState, rule_in}
use Rattle.prem_cycle.specs.Cycle.{arrivals_at, bus_at, is_finished, is_full, is_over, log_size}
use Rattle.prem_cycle.specs.Run.{step_with, wants_word, wants_input_of}
use Rattle.prem_cycle.specs.FactsOf.{stop_of}
use Rattle.prem_cycle.proofs.RunLaws.{step_of-stays}
use Rattle.prem_machine.proofs.Going.{goes_on, within_next, over_trapped, stops, stop_by}
use Rattle.prem_mail.specs.declared.feed.Feed.{Feed}
use Rattle.prem_mail.specs.Delivery.{ended_between}
use Rattle.prem_mail.specs.Stopping.{stop_unless_limit}
use Rattle.prem_mail.specs.Gliding.{GoesBy}
use Rattle.prem_mail.specs.Mailing.{Mailed, Mailing, supplied_to, received_by, cycled, stepped, mail_step, mailed_by, with_mailed}

-- ---- why a run stops

-- at now the last test is true, so why the run stops there is why it stops, unless that is the limit
limited_by : (finished : Bool) (trapped : Option Trap) (full last : Bool) (stop : Stop) → stop_by finished trapped full true ≡ Some stop →
    stop_by finished trapped full last ≡ stop_unless_limit stop last
limited_by true trapped full last stop e = let same : Finished ≡ stop = cc in ap (λ (x : Stop). stop_unless_limit x last) same
limited_by false (Some t) full last stop e = let same : Trapped t.task t.pc t.cause ≡ stop = cc in ap (λ (x : Stop). stop_unless_limit x last) same
limited_by false None true last stop e = let same : LogFull log_size ≡ stop = cc in ap (λ (x : Stop). stop_unless_limit x last) same
limited_by false None false last stop e = let same : Limit ≡ stop = cc in ap (λ (x : Stop). stop_unless_limit x last) same

pub stop_now : (limit : ℕ) (s : MachineState) (stop : Stop) → Some stop ≡ stop_of s.now s → stop_of limit s ≡ stop_unless_limit stop (s.now == limit)
stop_now limit s stop e =
    let now : (s.now == s.now) ≡ true = eq-eqb s.now s.now refl in
    limited_by (is_finished s) s.trapped (is_full s) (s.now == limit) stop (ap (stop_by (is_finished s) s.trapped (is_full s)) (sym now) ∙ sym e)

module _ (rule : ReplacementRule) (p : Setup) (requests : List Request) (feeds : List Feed) where
  abbrev step : Mailed → Mailed
  step m = mail_step rule p requests feeds m

  -- ---- any number of cycles

  pub mailed_by-add : (n k : ℕ) (m : Mailed) → mailed_by rule p requests feeds (n + k) m ≡ mailed_by rule p requests feeds k (mailed_by rule p requests feeds n m)
  unfolding mailed_by
  mailed_by-add n zero m = let e : n + 0 ≡ n = omega arith in ap (λ i. mailed_by rule p requests feeds i m) e
  mailed_by-add n (suc k) m =
      let e : n + suc k ≡ suc (n + k) = omega arith in
      ap (λ i. mailed_by rule p requests feeds i m) e ∙ ap step (mailed_by-add n k m)

  -- ---- a run that is over stays as it is

  abbrev with_stopped : Mailed → MachineState → Mailed
  with_stopped m s = record { state = s; mail = m.mail }

  nothing_wanted : (s : MachineState) → is_over s ≡ true → wants_input_of rule p requests s ≡ None
  nothing_wanted s over = ap (λ b. wants_word (cond b None (step_with rule p (bus_at (arrivals_at requests s).gates s) s))) over

  nothing_ended : (s : MachineState) → ended_between s s ≡ None
  nothing_ended s = slice_get_past s.log.transfers (length s.log.transfers) (omega arith)

  pub step_over : (m : Mailed) → is_over m.state ≡ true → step m ≡ m
  step_over m over =
      let next : stepped rule p requests m ≡ m =
      ap (λ o. cycled rule p requests (supplied_to o m)) (nothing_wanted m.state over) ∙ ap (with_stopped m) (step_of-stays rule p requests m.state over) in
      ap (λ (x : Mailed). received_by feeds (ended_between m.state x.state) x) next ∙ ap (λ o. received_by feeds o m) (nothing_ended m.state)

  pub mailed_by-over : (n : ℕ) (m : Mailed) → is_over m.state ≡ true → mailed_by rule p requests feeds n m ≡ m
  unfolding mailed_by
  mailed_by-over zero m over = refl
  mailed_by-over (suc n) m over = ap step (mailed_by-over n m over) ∙ step_over m over

-- ---- the cycles of a run up to a limit

abbrev cycles : Mailing → ℕ → Mailed → Mailed
cycles from n m = mailed_by (rule_in from.setup) from.setup from.requests from.feeds n m

-- what is left of the way leads to the same end
pub record GoesTo (limit : ℕ) (from m : Mailing) : Type 0 where
  pub within : m.mailed.state.now ≤ limit
  pub setup : m.setup ≡ from.setup
  pub requests : m.requests ≡ from.requests
  pub feeds : m.feeds ≡ from.feeds
  pub left : cycles from (limit - m.mailed.state.now) m.mailed ≡ cycles from (limit - from.mailed.state.now) from.mailed

next_trapped : (limit k : ℕ) (from : Mailing) (m : Mailed) (t : Option Trap) → m.state.trapped ≡ t → (t ≡ None → limit - m.state.now ≡ k) → cycles from (limit - m.state.now) m ≡ cycles from k m
next_trapped limit k from m None e h = ap (λ n. cycles from n m) (h refl)
next_trapped limit k from m (Some t) e h =
    let over : is_over m.state ≡ true = over_trapped (is_finished m.state) m.state.trapped (is_full m.state) t e in
    mailed_by-over (rule_in from.setup) from.setup from.requests from.feeds (limit - m.state.now) m over
    ∙ sym (mailed_by-over (rule_in from.setup) from.setup from.requests from.feeds k m over)

pub goes_to : (limit : ℕ) (from m : Mailing) (x : Mailed) → GoesTo limit from m → stop_of limit m.mailed.state ≡ None → x ≡ mail_step (rule_in m.setup) m.setup m.requests m.feeds m.mailed →
    (x.state.trapped ≡ None → x.state.now ≡ m.mailed.state.now + 1) → (is_some x.state.trapped ≡ true → x.state.now ≡ m.mailed.state.now) → GoesTo limit from (with_mailed m x)
unfolding mailed_by
goes_to limit from m x g none is next stays =
    let s : MachineState = m.mailed.state in
    let on = goes_on limit s none in
    let last : (s.now == limit) ≡ false = on.1 in
    let le : s.now ≤ limit = g.within in
    let lt : s.now < limit = grind (arith, nat_tests) in
    let k = limit - (s.now + 1) in
    let d : limit - s.now ≡ 1 + k = omega arith in
    let p = from.setup in
    let r = from.requests in
    let f = from.feeds in
    let one : x ≡ mail_step (rule_in p) p r f m.mailed =
    is ∙ ap (λ q. mail_step (rule_in q) q m.requests m.feeds m.mailed) g.setup ∙ ap (λ q. mail_step (rule_in p) p q m.feeds m.mailed) g.requests
    ∙ ap (λ q. mail_step (rule_in p) p r q m.mailed) g.feeds in
    let rest : cycles from (limit - s.now) m.mailed ≡ cycles from k x =
    ap (λ n. cycles from n m.mailed) d ∙ mailed_by-add (rule_in p) p r f 1 k m.mailed ∙ ap (cycles from k) (sym one) in
    record {
      within = within_next limit s.now x.state.now x.state.trapped lt next stays;
      setup = g.setup;
      requests = g.requests;
      feeds = g.feeds;
      left = next_trapped limit k from x x.state.trapped refl (λ e. ap (λ n. limit - n) (next e)) ∙ sym rest ∙ g.left;
    }

-- some cycles at once
pub goes_by : (limit : ℕ) (from m x : Mailing) → GoesTo limit from m → GoesBy limit m x → GoesTo limit from x
goes_by limit from m x g by =
    let now : ℕ = m.mailed.state.now in
    let k : ℕ = limit - now - by.cycles in
    let d : limit - now ≡ by.cycles + k = omega (arith, by.within) in
    let p = from.setup in
    let r = from.requests in
    let f = from.feeds in
    let there : x.mailed ≡ mailed_by (rule_in p) p r f by.cycles m.mailed =
    ap (λ (y : Mailing). y.mailed) by.mailed ∙ ap (λ q. mailed_by (rule_in q) q m.requests m.feeds by.cycles m.mailed) g.setup
    ∙ ap (λ q. mailed_by (rule_in p) p q m.feeds by.cycles m.mailed) g.requests ∙ ap (λ q. mailed_by (rule_in p) p r q by.cycles m.mailed) g.feeds in
    let rest : cycles from (limit - now) m.mailed ≡ cycles from k x.mailed =
    ap (λ n. cycles from n m.mailed) d ∙ mailed_by-add (rule_in p) p r f by.cycles k m.mailed ∙ ap (cycles from k) (sym there) in
    record {
      within = omega (arith, by.passed, by.within);
      setup = ap (λ (y : Mailing). y.setup) by.mailed ∙ g.setup;
      requests = ap (λ (y : Mailing). y.requests) by.mailed ∙ g.requests;
      feeds = ap (λ (y : Mailing). y.feeds) by.mailed ∙ g.feeds;
      left = next_trapped limit k from x.mailed x.mailed.state.trapped refl (λ e. (let t = by.time e in omega (arith, t, by.within))) ∙ sym rest ∙ g.left;
    }

pub ends_at : (limit : ℕ) (from m : Mailing) (stop : Stop) → GoesTo limit from m → stop_of limit m.mailed.state ≡ Some stop → m.mailed ≡ cycles from (limit - from.mailed.state.now) from.mailed
unfolding mailed_by
ends_at limit from m stop g some =
    elim (stops limit m.mailed.state stop some) [
      | inl over ↦ sym (mailed_by-over (rule_in from.setup) from.setup from.requests from.feeds (limit - m.mailed.state.now) m.mailed over) ∙ g.left
      | inr last ↦ (let at : m.mailed.state.now ≡ limit = grind (arith, nat_tests) in
          let z : 0 ≡ limit - m.mailed.state.now = omega arith in
          ap (λ n. cycles from n m.mailed) z ∙ g.left)
    ]
