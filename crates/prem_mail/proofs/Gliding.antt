-- Cycles in which no word comes to a task are those of the machine.
use Rattle.std.specs.Prelude.{is_some, slice_get, Ok}
use Rattle.std.proofs.Common.{◌≡◌, ℕ, zero, suc, ◌+◌, ◌<◌, ◌≤◌, Bool, true, false, cond, List, [], ◌∷◌, Option, None, Some, length, refl, ap, sym, ◌∙◌, subst, arith}
use Rattle.std.proofs.lemmas.Option.{slice_get_past}
use Rattle.prem_list.specs.declared.Sequence.{Sequence}
use Rattle.prem_lru.specs.Entries.{ReplacementRule}
use Rattle.prem_gate.specs.declared.request.Request.{Request}
use Rattle.prem_gate.specs.declared.bus.Transfer.{Transfer}
use Rattle.prem_cycle.specs.State.{Setup, MachineState, rule_in}
use Rattle.prem_cycle.specs.Cycle.{is_over, step_of}
use Rattle.prem_cycle.specs.FactsOf.{stop_of}
use Rattle.prem_cycle.specs.Run.{cycles_of, wants_input_of}
use Rattle.prem_machine.specs.States.{Running, with_state}
use Rattle.prem_machine.specs.Deliveries.{HaltsBy, RunsSilently}
use Rattle.prem_machine.specs.declared.machine.deliveries.DeliveryHalt.TheVariants.{Wants}
use Rattle.prem_machine.proofs.Going.{cycles_left, goes_less, goes_on, going_most, going_one}
use Rattle.prem_mail.specs.declared.feed.Feed.{Feed}
use Rattle.prem_mail.specs.Delivery.{ended_between}
use Rattle.prem_mail.specs.Gliding.{GoesBy, TellsNext, awaited, machine_in, with_machine}
use Rattle.prem_mail.specs.MailFields.{HoldsMail}
use Rattle.prem_mail.specs.Mailing.{Mailed, Mailing, cycled, handed_to, mail_step, mailed_by, received_by, stepped, supplied_to, with_mailed}
use Rattle.prem_mail.proofs.Going.{mailed_by-over}
use Rattle.prem_mail.proofs.Kept.{cycled_keeps, more_transfers}
use Rattle.prem_mail.proofs.Stepping.{received_now, received_trapped}

-- ---- what is kept

pub cycles_keep : (r : Running) (feeds : List Feed) (words : Sequence (Sequence ℕ)) (lost : List ℕ) (n : ℕ) → HoldsMail r feeds words lost →
    HoldsMail (with_state r (cycles_of (rule_in r.setup) r.setup r.requests n r.state)) feeds words lost
unfolding cycles_of
cycles_keep r feeds words lost zero h = h
cycles_keep r feeds words lost (suc n) h =
    let s : MachineState = cycles_of (rule_in r.setup) r.setup r.requests n r.state in
    cycled_keeps (with_state r s) feeds words lost (step_of (rule_in r.setup) r.setup r.requests s) refl (cycles_keep r feeds words lost n h)

never_less : (rule : ReplacementRule) (p : Setup) (requests : List Request) (n : ℕ) (s : MachineState) → length s.log.transfers ≤ length (cycles_of rule p requests n s).log.transfers
unfolding cycles_of
never_less rule p requests zero s = omega arith
never_less rule p requests (suc n) s =
    let more = more_transfers rule p requests (cycles_of rule p requests n s) in
    omega (arith, more, never_less rule p requests n s)

-- ---- cycles in which none is wanted and none comes

module _ (rule : ReplacementRule) (p : Setup) (requests : List Request) (feeds : List Feed) where
  abbrev at_state : Mailed → MachineState → Mailed
  at_state m s = record { state = s; mail = m.mail }

  abbrev far : ℕ → Mailed → MachineState
  far n m = cycles_of rule p requests n m.state

  -- one more
  step_is : (m : Mailed) → wants_input_of rule p requests m.state ≡ None →
      mail_step rule p requests feeds m ≡ received_by feeds (ended_between m.state (step_of rule p requests m.state)) (at_state m (step_of rule p requests m.state))
  step_is m wanted =
      let next : stepped rule p requests m ≡ at_state m (step_of rule p requests m.state) = ap (λ o. cycled rule p requests (supplied_to o m)) wanted in
      ap (λ (x : Mailed). received_by feeds (ended_between m.state x.state) x) next

  -- where no transfer ends before the last of them
  pub none_ends : (n : ℕ) (m : Mailed) → ((k : ℕ) → k < n → wants_input_of rule p requests (far k m) ≡ None) → ((k : ℕ) → k < n → length (far k m).log.transfers ≤ length m.state.log.transfers) →
      mailed_by rule p requests feeds n m ≡ received_by feeds (ended_between m.state (far n m)) (at_state m (far n m))
  unfolding mailed_by cycles_of
  none_ends zero m wanted ended = sym (ap (λ o. received_by feeds o m) (slice_get_past m.state.log.transfers (length m.state.log.transfers) (omega arith)))
  none_ends (suc n) m wanted ended =
      let before = none_ends n m (λ k lt. wanted k (omega (arith, lt))) (λ k lt. ended k (omega (arith, lt))) in
      let few : length (far n m).log.transfers ≤ length m.state.log.transfers = ended n (omega arith) in
      let same : length (far n m).log.transfers ≡ length m.state.log.transfers = (let more = never_less rule p requests n m.state in omega (arith, few, more)) in
      let none : ended_between m.state (far n m) ≡ None = slice_get_past (far n m).log.transfers (length m.state.log.transfers) few in
      ap (mail_step rule p requests feeds) (before ∙ ap (λ o. received_by feeds o (at_state m (far n m))) none)
      ∙ step_is (at_state m (far n m)) (wanted n (omega arith))
      ∙ ap (λ i. received_by feeds (slice_get (far (suc n) m).log.transfers i) (at_state m (far (suc n) m))) same

-- where nothing is fed
receives_none : (o : Option Transfer) (m : Mailed) → received_by [] o m ≡ m
receives_none None m = refl
receives_none (Some t) m = by (is_some t.request.put)
  where
    by : (b : Bool) → handed_to (cond b None None) t.value m ≡ m
    by true = refl
    by false = refl

none_fed : (rule : ReplacementRule) (p : Setup) (requests : List Request) (n : ℕ) (m : Mailed) → ((k : ℕ) → k < n → wants_input_of rule p requests (cycles_of rule p requests k m.state) ≡ None) →
    mailed_by rule p requests [] n m ≡ record { state = cycles_of rule p requests n m.state; mail = m.mail }
unfolding mailed_by cycles_of
none_fed rule p requests zero m wanted = refl
none_fed rule p requests (suc n) m wanted =
    let there : Mailed = record { state = cycles_of rule p requests n m.state; mail = m.mail } in
    let next : MachineState = step_of rule p requests there.state in
    ap (mail_step rule p requests []) (none_fed rule p requests n m (λ k lt. wanted k (omega (arith, lt))))
    ∙ step_is rule p requests [] there (wanted n (omega arith))
    ∙ receives_none (ended_between there.state next) (record { state = next; mail = m.mail })

-- in either case, where the last value that is awaited may have come behind them
either : (rule : ReplacementRule) (p : Setup) (requests : List Request) (feeds : List Feed) (n : ℕ) (m : Mailed) →
    ((k : ℕ) → k < n → wants_input_of rule p requests (cycles_of rule p requests k m.state) ≡ None) →
    ((k : ℕ) → k < n → length (cycles_of rule p requests k m.state).log.transfers < awaited feeds (length m.state.log.transfers)) →
    mailed_by rule p requests feeds n m
    ≡ received_by feeds (ended_between m.state (cycles_of rule p requests n m.state)) (record { state = cycles_of rule p requests n m.state; mail = m.mail })
either rule p requests [] n m wanted ended =
    none_fed rule p requests n m wanted
    ∙ sym (receives_none (ended_between m.state (cycles_of rule p requests n m.state)) (record { state = cycles_of rule p requests n m.state; mail = m.mail }))
either rule p requests (f ∷ feeds) n m wanted ended =
    none_ends rule p requests (f ∷ feeds) n m wanted (λ k lt. omega (arith, ended k lt))

-- and where fewer have ended than are awaited, no value has come
receives_behind : (feeds : List Feed) (before : ℕ) (transfers : List Transfer) (m : Mailed) → length transfers < awaited feeds before → received_by feeds (slice_get transfers before) m ≡ m
receives_behind [] before transfers m lt = receives_none (slice_get transfers before) m
receives_behind (f ∷ feeds) before transfers m lt = ap (λ o. received_by (f ∷ feeds) o m) (slice_get_past transfers before (omega (arith, lt)))

-- ---- a run in memory

-- where the machine halts since a task wants an input word, that is so of the run
pub wants_there : (limit before k : ℕ) (x y z : Mailing) → y ≡ with_machine x (machine_in y) → HaltsBy limit (awaited x.feeds before) (machine_in y) (Wants k) →
    z ≡ with_mailed y (received_by y.feeds (slice_get y.mailed.state.log.transfers before) y.mailed) → TellsNext limit z (Ok (Some k))
wants_there limit before k x y z kept halts is =
    let feeds : y.feeds ≡ x.feeds = ap (λ (v : Mailing). v.feeds) kept in
    let few : length y.mailed.state.log.transfers < awaited y.feeds before =
    (let R : List Feed → Type 0 = λ fs. length y.mailed.state.log.transfers < awaited fs before in subst R (sym feeds) halts.1) in
    let same : z ≡ y = is ∙ ap (with_mailed y) (receives_behind y.feeds before y.mailed.state.log.transfers y.mailed few) in
    let T : Mailing → Type 0 = λ m. TellsNext limit m (Ok (Some k)) in
    subst T (sym same) (halts.0, sym halts.2)

pub glides : (limit before : ℕ) (x y z : Mailing) → before ≡ length x.mailed.state.log.transfers → RunsSilently limit (awaited x.feeds before) (machine_in x) (machine_in y) →
    y ≡ with_machine x (machine_in y) → z ≡ with_mailed y (received_by y.feeds (slice_get y.mailed.state.log.transfers before) y.mailed) → GoesBy limit x z
glides limit before x y z count runs kept is =
    let rule = rule_in x.setup in
    let p = x.setup in
    let r = x.requests in
    let n = runs.cycles in
    let s : MachineState = cycles_of rule p r n x.mailed.state in
    let R : ℕ → Type 0 = λ i. (k : ℕ) → k < n → length (cycles_of rule p r k x.mailed.state).log.transfers < awaited x.feeds i in
    let there : y ≡ with_mailed x (record { state = s; mail = x.mailed.mail }) = kept ∙ ap (with_machine x) runs.state in
    let o : Option Transfer = slice_get y.mailed.state.log.transfers before in
    let received : Mailing → Mailing = λ v. with_mailed v (received_by v.feeds (slice_get v.mailed.state.log.transfers before) v.mailed) in
    let now : z.mailed.state.now ≡ y.mailed.state.now = ap (λ (v : Mailing). v.mailed.state.now) is ∙ received_now y.feeds o y.mailed in
    let trapped = ap (λ (v : Mailing). v.mailed.state.trapped) is ∙ received_trapped y.feeds o y.mailed in
    record {
      cycles = n;
      mailed = is ∙ ap received there
          ∙ ap (λ i. with_mailed x (received_by x.feeds (slice_get s.log.transfers i) (record { state = s; mail = x.mailed.mail }))) count
          ∙ ap (with_mailed x) (sym (either rule p r x.feeds n x.mailed runs.wanted (subst R count runs.ended)));
      within = runs.within;
      later = omega (arith, now, runs.later);
      passed = omega (arith, now, runs.passed);
      time = λ none. omega (arith, now, runs.time (sym trapped ∙ none));
    }

-- so each turn of the loop is nearer to the end
pub glides_less : (limit : ℕ) (from mid new : Mailing) → GoesBy limit from mid → stop_of limit mid.mailed.state ≡ None →
    (new.mailed.state.trapped ≡ None → new.mailed.state.now ≡ mid.mailed.state.now + 1) → (is_some new.mailed.state.trapped ≡ true → new.mailed.state.now ≡ mid.mailed.state.now) →
    cycles_left limit new.mailed.state < cycles_left limit from.mailed.state
glides_less limit from mid new g none next stays = by (is_over from.mailed.state) refl
  where
    by : (b : Bool) → is_over from.mailed.state ≡ b → cycles_left limit new.mailed.state < cycles_left limit from.mailed.state
    by true over =
        let same : mid.mailed ≡ from.mailed = ap (λ (m : Mailing). m.mailed) g.mailed ∙ mailed_by-over (rule_in from.setup) from.setup from.requests from.feeds g.cycles from.mailed over in
        let is : is_over mid.mailed.state ≡ true = ap (λ (m : Mailed). is_over m.state) same ∙ over in
        let on : is_over mid.mailed.state ≡ false = (goes_on limit mid.mailed.state none).0 in
        absurd (let e : true ≡ false = sym is ∙ on in cc)
    by false over =
        let less = goes_less limit mid.mailed.state new.mailed.state none (omega (arith, g.passed, g.within)) next stays in
        let most = going_most (is_over mid.mailed.state) in
        let one = going_one (is_over from.mailed.state) over in
        omega (arith, less, most, one, g.later)
