-- A core's parts behind a cycle of its own.
use Rattle.std.proofs.Common.{◌≡◌, ◌≢◌, ℕ, zero, suc, ◌+◌, ◌-◌, ◌*◌, ◌≤◌, ◌<◌, Bool, true, false, List, [], None, refl, ap, sym, ◌∙◌, subst, arith, All, length}
use Rattle.std.specs.Prelude.{nat_le, ◌||◌, ◌&&◌, if◌then◌else◌}
use Rattle.prem_pair.proofs.Prelude.{paid_on_bus, want_of, core_issued, is_full, log_size, LineTouch, owed_by, Transaction, Debt, no_debt, rule_in, Mode, wants, is_new, CoreWant, No, New, Held, Request}
use Rattle.prem_pair.proofs.Prelude.{Stay, items_of, same_state, counts_more, mode_after, behind, full_told, CoreParts, paid_once, counts_in, put_out, ModeReady, core_with, Stands, state_of}
use Rattle.prem_pair.proofs.Prelude.{IsNextArrival, GoesOn, IsKept, setup_in, work_in, Moment, Parts, Setting, IsGoing, OwnCycle, OwnRun, no_cycle, one_more, PairState, clashes, stays_with}
use Rattle.prem_pair.proofs.Prelude.{wanted, is_gates, two_want, MayStretch, Arrives, Goes, Holder, Nobody, First, Second, Gates, nat_tests}
use Rattle.prem_cycle.specs.declared.facts.Facts.{Facts}
use Rattle.prem_machine.specs.declared.work.Works.{Works}
use Rattle.prem_pair.proofs.CyclesLemmas.Own.{as_going, going_state, issue_own, pay_own}

pub kept_goes : {P : Type 0} (x : Parts P) (w : Works P) (f : Facts) (m : Moment) (c : CoreParts) → All (λ j. 1 ≤ j.period) x.sched →
    Goes (4 * x.now) x → IsKept x.work x.facts w f → m.mode ≡ x.moment.mode →
    m.interval.first ≡ x.moment.interval.first → Goes (4 * (x.now + 1)) (behind x w f (x.now + 1) m c)
kept_goes x w f m c periods r k mode first =
    let M : Mode → Type 0 = λ d. ModeReady x.now x.sched d in
    record {
      ready = mode_after x.now (x.now + 1) x.sched m.mode periods (omega arith) (subst M (sym mode) r.ready);
      first = omega (arith, first, r.first);
      counts = counts_more (4 * x.now + 2) (4 * (x.now + 1)) (counts_in f) (k.counts (4 * x.now) r.counts) (omega arith);
    }

-- the state behind an instruction that goes on
issued_state : {P : Type 0} (x : Parts P) (w : Works P) (f : Facts) (m : Moment) (c : CoreParts) (task cost : ℕ) (owed : List Transaction) → x.trapped ≡ None → IsKept x.work x.facts w f →
    core_with c.debt m ≡ core_issued x.now task x.moment.interval Stay cost owed (core_with x.core.debt x.moment) →
    state_of (behind x w f (x.now + 1) m c) ≡ going_state (state_of x) task (work_in w (items_of f.tasks)) (counts_in f) (x.now + 1) owed (cost - 1)
issued_state x w f m c task cost owed none k core =
    same_state (state_of (behind x w f (x.now + 1) m c)) (going_state (state_of x) task (work_in w (items_of f.tasks)) (counts_in f) (x.now + 1) owed (cost - 1)) refl refl refl core refl k.log none

pub issues_own : {P : Type 0} (p : Setting) (holds : Bool) (x : Parts P) (w : Works P) (f : Facts) (m : Moment) (c : CoreParts) (task cost : ℕ)
    (touches : List LineTouch) (owed : List Transaction) → IsGoing task (state_of x) →
    x.core.debt.cost ≡ 0 → x.trapped ≡ None → is_full (state_of x) ≡ false → GoesOn p task x.work x.facts w f touches cost → owed_by p.plant touches ≡ owed → IsKept x.work x.facts w f →
    core_with c.debt m ≡ core_issued x.now task x.moment.interval Stay cost owed (core_with x.core.debt x.moment) →
    OwnCycle (rule_in (setup_in p)) (setup_in p) holds No (state_of x) (state_of (behind x w f (x.now + 1) m c))
issues_own p holds x w f m c task cost touches owed going paid none room goes is k core =
    let s = state_of x in
    let q = setup_in p in
    let from : s ≡ going_state s task s.work s.log.counts s.now [] 0 = as_going task s going none ∙ ap (going_state s task s.work s.log.counts s.now []) paid in
    let start = going_state s task s.work s.log.counts s.now [] 0 in
    let work = work_in w (items_of f.tasks) in
    let full : is_full start ≡ false = sym (ap is_full from) ∙ room in
    let turn = goes x.now x.moment.interval start.core
    ∙ ap (λ o. record { work = work; core = core_issued x.now task x.moment.interval Stay cost o start.core; counts = counts_in f; trapped = None }) is in
    let own = issue_own (rule_in q) q holds s task s.work work s.log.counts (counts_in f) s.now cost owed full turn in
    subst (λ a. OwnCycle (rule_in q) q holds No a (state_of (behind x w f (x.now + 1) m c))) (sym from)
    (subst (OwnCycle (rule_in q) q holds No start) (sym (issued_state x w f m c task cost owed none k core)) own)

-- where no transaction is owed, a cycle of the cost is paid
pub paid_alone : (d : Debt) → d.transactions ≡ [] → paid_once d ≡ record d { cost = d.cost - 1 }
paid_alone d none =
    ap (λ ns. if wants (want_of (record d { transactions = ns })) then paid_on_bus d.transactions d else record d { cost = d.cost - 1 }) none

-- behind a cycle of its cost
pub pays_own : {P : Type 0} (p : Setting) (holds : Bool) (x : Parts P) (core : CoreParts) (task : ℕ) → core.debt ≡ paid_once x.core.debt →
    IsGoing task (state_of x) → 1 ≤ x.core.debt.cost → x.trapped ≡ None →
    is_full (state_of x) ≡ false → OwnCycle (rule_in (setup_in p)) (setup_in p) holds No (state_of x) (state_of (behind x x.work x.facts (x.now + 1) x.moment core))
pays_own p holds x core task pays going some none room =
    let s = state_of x in
    let q = setup_in p in
    let y = behind x x.work x.facts (x.now + 1) x.moment core in
    let paid : core.debt ≡ record x.core.debt { cost = x.core.debt.cost - 1 } = pays ∙ paid_alone x.core.debt going.transactions in
    let c = x.core.debt.cost - 1 in
    let e : x.core.debt.cost ≡ suc c = omega (arith, some) in
    let start = going_state s task s.work s.log.counts s.now [] (suc c) in
    let from : s ≡ start = as_going task s going none ∙ ap (going_state s task s.work s.log.counts s.now []) e in
    let after : IsGoing task (state_of y) =
    record {
      mode = going.mode;
      transactions = ap (λ (d : Debt). d.transactions) paid ∙ going.transactions;
      begun = ap (λ (d : Debt). d.begun) paid ∙ going.begun;
      mark = going.mark;
    } in
    let full : is_full start ≡ false = sym (ap is_full from) ∙ room in
    let to : state_of y ≡ going_state s task s.work s.log.counts (s.now + 1) [] c = as_going task (state_of y) after none
    ∙ ap (going_state s task s.work s.log.counts (s.now + 1) []) (ap (λ (d : Debt). d.cost) paid) in
    subst (λ a. OwnCycle (rule_in q) q holds No a (state_of y)) (sym from)
    (subst (OwnCycle (rule_in q) q holds No start) (sym to) (pay_own (rule_in q) q holds s task s.work s.log.counts s.now c full))

-- where all touches hit, nothing but its cost is owed
pub hit_core : {P : Type 0} (x : Parts P) (task cost : ℕ) → IsGoing task (state_of x) →
    core_with (record no_debt { cost = cost - 1 }) x.moment ≡ core_issued x.now task x.moment.interval Stay cost [] (core_with x.core.debt x.moment)
hit_core x task cost going =
    λ j. record {
      mode = going.mode j;
      debt = record no_debt { cost = cost - 1 };
      mark = going.mark j;
      interval = x.moment.interval;
      window = x.moment.window;
    }

pub rooms_left : {P : Type 0} (p : Setting) (requests : List Request) (x : Parts P) → Stands p requests x → is_full (state_of x) ≡ false →
    (put_out (items_of x.facts.tasks) < log_size) × (length (items_of x.facts.intervals) < log_size)
rooms_left p requests x s room =
    by (put_out (items_of x.facts.tasks)) (length (items_of x.facts.intervals)) (nat_le log_size (put_out (items_of x.facts.tasks))) refl
    (nat_le log_size (length (items_of x.facts.intervals))) refl (full_told p requests x s ∙ room)
  where
    by : (a b : ℕ) (u : Bool) → nat_le log_size a ≡ u → (v : Bool) → nat_le log_size b ≡ v → (u || v) ≡ false → (a < log_size) × (b < log_size)
    by a b true is v other e = absurd (cc)
    by a b false is true other e = absurd (cc)
    by a b false is false other e = (grind (arith, nat_tests), grind (arith, nat_tests))

-- ---- cycles that follow each other

-- so far, with room for so many words more
pub record OwnSoFar {P : Type 0} (p : Setting) (requests : List Request) (task until : ℕ) (from x : Parts P) (left : ℕ) : Type 0 where
  pub own : (holds : Bool) → OwnRun (rule_in (setup_in p)) (setup_in p) holds No (state_of from) (x.now - from.now) (state_of x)
  pub stands : Stands p requests x
  pub goes : Goes (4 * x.now) x
  pub arrives : (t : ℕ) → Arrives t requests from → Arrives t requests x
  pub gates : x.gates ≡ from.gates
  pub trapped : x.trapped ≡ None
  pub going : IsGoing task (state_of x)
  pub begun : from.now ≤ x.now
  pub within : x.now ≤ until
  pub room : put_out (items_of x.facts.tasks) + left ≤ log_size
  pub intervals : length (items_of x.facts.intervals) < log_size

pub own_none : {P : Type 0} (p : Setting) (requests : List Request) (task until : ℕ) (x : Parts P) (left : ℕ) → Stands p requests x →
    Goes (4 * x.now) x → x.trapped ≡ None → IsGoing task (state_of x) → x.now ≤ until →
    put_out (items_of x.facts.tasks) + left ≤ log_size → length (items_of x.facts.intervals) < log_size → OwnSoFar p requests task until x x left
own_none p requests task until x left stands goes none going le room intervals =
    let z : zero ≡ x.now - x.now = omega arith in
    record {
      own = λ holds. subst (λ k. OwnRun (rule_in (setup_in p)) (setup_in p) holds No (state_of x) k (state_of x)) z no_cycle;
      stands = stands;
      goes = goes;
      arrives = λ t r. r;
      gates = refl;
      trapped = none;
      going = going;
      begun = omega arith;
      within = le;
      room = room;
      intervals = intervals;
    }

pub own_more : {P : Type 0} (p : Setting) (holds : Bool) (from x y : Parts P) → OwnRun (rule_in (setup_in p)) (setup_in p) holds No (state_of from) (x.now - from.now) (state_of x) → from.now ≤ x.now →
    OwnCycle (rule_in (setup_in p)) (setup_in p) holds No (state_of x) (state_of y) → y.now ≡ x.now + 1 →
    OwnRun (rule_in (setup_in p)) (setup_in p) holds No (state_of from) (y.now - from.now) (state_of y)
own_more p holds from x y run le c next =
    let e : suc (x.now - from.now) ≡ y.now - from.now = omega (arith, le, next) in
    subst (λ k. OwnRun (rule_in (setup_in p)) (setup_in p) holds No (state_of from) k (state_of y)) e (one_more (x.now - from.now) (state_of x) (state_of y) run c)

pub own_next : {P : Type 0} (p : Setting) (requests : List Request) (task until : ℕ) (from x y : Parts P) (left : ℕ) → OwnSoFar p requests task until from x left → 1 ≤ left → x.now < until →
    ((holds : Bool) → OwnCycle (rule_in (setup_in p)) (setup_in p) holds No (state_of x) (state_of y)) → Stands p requests y → Goes (4 * y.now) y →
    ((t : ℕ) → Arrives t requests x → Arrives t requests y) → y.gates ≡ x.gates →
    y.trapped ≡ None → IsGoing task (state_of y) → y.now ≡ x.now + 1 → put_out (items_of y.facts.tasks) ≤ put_out (items_of x.facts.tasks) + 1 →
    items_of y.facts.intervals ≡ items_of x.facts.intervals →
    OwnSoFar p requests task until from y (left - 1)
own_next p requests task until from x y left f some lt c stands goes arrives gates none going next put intervals =
    let same = ap length intervals in
    record {
      own = λ holds. own_more p holds from x y (f.own holds) f.begun (c holds) next;
      stands = stands;
      goes = goes;
      arrives = λ t r. arrives t (f.arrives t r);
      gates = gates ∙ f.gates;
      trapped = none;
      going = going;
      begun = omega (arith, f.begun, next);
      within = omega (arith, lt, next);
      room = omega (arith, some, put, f.room);
      intervals = omega (arith, same, f.intervals);
    }

-- ---- up to when

no_gates : (h : Holder) → is_gates h ≡ false → h ≢ Gates
no_gates Gates e g = absurd (cc)
no_gates Nobody e g = cc
no_gates First e g = cc
no_gates Second e g = cc

not_both : (x y z : Bool) → two_want x y z ≡ false → (x && y) ≡ false
not_both true true z e = absurd (cc)
not_both true false z e = refl
not_both false y z e = refl

not_new : (k : CoreWant) → is_new k ≡ false → k ≢ New
not_new No e g = cc
not_new New e g = absurd (cc)
not_new Held e g = cc

pub may_stretch : (requests : List Request) (s : PairState) (limit arrival : ℕ) → is_gates s.holder ≡ false → clashes s.holder s ≡ false → is_new (wanted s) ≡ false → stays_with s.holder s ≡ true →
    IsNextArrival s.first.now limit requests arrival → MayStretch arrival requests s
may_stretch requests s limit arrival gates clash new stays next =
    record {
      from = next.not_before;
      arrivals = next.none;
      token = stays;
      gates = no_gates s.holder gates;
      begins = not_new (wanted s) new;
      one = not_both (wants (want_of s.first.core.debt)) (wants (want_of s.second.core.debt)) (is_gates s.holder) clash;
    }
