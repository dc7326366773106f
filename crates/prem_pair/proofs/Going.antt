-- A run of two cores that goes on until it stops.
use Rattle.std.proofs.Common.{◌≡◌, ℕ, ◌+◌, ◌*◌, ◌-◌, ◌<◌, ◌≤◌, Bool, true, false, cond, Option, Some, None, refl, ap, sym, ◌∙◌, arith, ◌⊎◌, inl, inr}
use Rattle.std.specs.Prelude.{◌==◌, ◌||◌, ◌&&◌, is_some, if◌then◌else◌}
use Rattle.prem_pair.proofs.Prelude.{is_full, log_size, rule_in, Trap, PairState, both_finished, full_stop, is_pair_over, one_trapped, pair_cycle, pair_cycles, pair_step, pair_stop_of}
use Rattle.prem_pair.proofs.Prelude.{trap_stop, cycles_taken, PairRunning, with_state, PairStop, Finished, LogFull, Limit, nat_tests}
use Rattle.prem_machine.proofs.Going.{going_most}
use Rattle.prem_pair.proofs.CyclesLemmas.PairRuns.{pair_cycles-add, pair_cycles-over}
use Rattle.std.specs.Bool.{then_some}

abbrev stop_by : Bool → (t u : Option Trap) → (f g last : Bool) → Option PairStop
stop_by fin t u f g last = cond fin (Some Finished) (trap_stop 0 t (trap_stop 1 u (full_stop 0 f (full_stop 1 g (cond last (Some Limit) None)))))

none_by : (fin : Bool) (t u : Option Trap) (f g last : Bool) → stop_by fin t u f g last ≡ None → ((fin || (is_some t || is_some u) || (f || g)) ≡ false) × (last ≡ false)
none_by true t u f g last e = absurd (cc)
none_by false (Some t) u f g last e = absurd (cc)
none_by false None (Some u) f g last e = absurd (cc)
none_by false None None true g last e = absurd (cc)
none_by false None None false true last e = absurd (cc)
none_by false None None false false true e = absurd (cc)
none_by false None None false false false e = (refl, refl)

some_by : (fin : Bool) (t u : Option Trap) (f g last : Bool) (stop : PairStop) → stop_by fin t u f g last ≡ Some stop → ((fin || (is_some t || is_some u) || (f || g)) ≡ true) ⊎ (last ≡ true)
some_by true t u f g last stop e = inl refl
some_by false (Some t) u f g last stop e = inl refl
some_by false None (Some u) f g last stop e = inl refl
some_by false None None true g last stop e = inl refl
some_by false None None false true last stop e = inl refl
some_by false None None false false true stop e = inr refl
some_by false None None false false false stop e = absurd (cc)

pub goes_on : (limit : ℕ) (s : PairState) → pair_stop_of limit s ≡ None → (is_pair_over s ≡ false) × ((s.first.now == limit) ≡ false)
goes_on limit s e = none_by (both_finished s) s.first.trapped s.second.trapped (is_full s.first) (is_full s.second) (s.first.now == limit) e

stops : (limit : ℕ) (s : PairState) (stop : PairStop) → pair_stop_of limit s ≡ Some stop → (is_pair_over s ≡ true) ⊎ ((s.first.now == limit) ≡ true)
stops limit s stop e = some_by (both_finished s) s.first.trapped s.second.trapped (is_full s.first) (is_full s.second) (s.first.now == limit) stop e

pub then_is : (b : Bool) → then_some b Limit ≡ cond b (Some Limit) None
then_is true = refl
then_is false = refl

pub one_rests : (a b : Bool) → a ≡ false → (a && b) ≡ false
one_rests true b e = absurd (cc)
one_rests false b e = refl

stop_from : (limit : ℕ) (s : PairState) (f g last : Bool) → both_finished s ≡ false → s.first.trapped ≡ None → s.second.trapped ≡ None →
    is_full s.first ≡ f → is_full s.second ≡ g → (s.first.now == limit) ≡ last → stop_by false None None f g last ≡ pair_stop_of limit s
stop_from limit s f g last a b c d e h =
    sym (ap (λ x. stop_by x s.first.trapped s.second.trapped (is_full s.first) (is_full s.second) (s.first.now == limit)) a
    ∙ ap (λ x. stop_by false x s.second.trapped (is_full s.first) (is_full s.second) (s.first.now == limit)) b
    ∙ ap (λ x. stop_by false None x (is_full s.first) (is_full s.second) (s.first.now == limit)) c
    ∙ ap (λ x. stop_by false None None x (is_full s.second) (s.first.now == limit)) d
    ∙ ap (λ x. stop_by false None None f x (s.first.now == limit)) e
    ∙ ap (λ x. stop_by false None None f g x) h)

pub stop_full : (limit : ℕ) (s : PairState) → both_finished s ≡ false → s.first.trapped ≡ None → s.second.trapped ≡ None → is_full s.first ≡ true → Some (LogFull 0 log_size) ≡ pair_stop_of limit s
stop_full limit s a b c d = stop_from limit s true (is_full s.second) (s.first.now == limit) a b c d refl refl

pub stop_other : (limit : ℕ) (s : PairState) → both_finished s ≡ false → s.first.trapped ≡ None → s.second.trapped ≡ None → is_full s.first ≡ false →
    is_full s.second ≡ true → Some (LogFull 1 log_size) ≡ pair_stop_of limit s
stop_other limit s a b c d e = stop_from limit s false true (s.first.now == limit) a b c d e refl

pub stop_else : (limit : ℕ) (s : PairState) → both_finished s ≡ false → s.first.trapped ≡ None → s.second.trapped ≡ None → is_full s.first ≡ false →
    is_full s.second ≡ false → then_some (s.first.now == limit) Limit ≡ pair_stop_of limit s
stop_else limit s a b c d e = then_is (s.first.now == limit) ∙ stop_from limit s false false (s.first.now == limit) a b c d e refl

over_trapped : (fin t f : Bool) → t ≡ true → (fin || t || f) ≡ true
over_trapped true t f e = refl
over_trapped false true f e = refl
over_trapped false false f e = absurd (cc)

over_parts : (fin t u f g : Bool) → (fin || (t || u) || (f || g)) ≡ false → ((t || u) ≡ false) × ((f ≡ false) × (g ≡ false))
over_parts true t u f g e = absurd (cc)
over_parts false true u f g e = absurd (cc)
over_parts false false true f g e = absurd (cc)
over_parts false false false true g e = absurd (cc)
over_parts false false false false true e = absurd (cc)
over_parts false false false false false e = (refl, (refl, refl))

pub none_trapped : (s : PairState) → is_pair_over s ≡ false → one_trapped s ≡ false
none_trapped s e = (over_parts (both_finished s) (is_some s.first.trapped) (is_some s.second.trapped) (is_full s.first) (is_full s.second) e).0

-- ---- the cycles of a run up to a limit

abbrev goes_from : PairRunning → ℕ → PairState → PairState
goes_from m n s = pair_cycles (rule_in m.first) (rule_in m.second) m.first m.second m.requests n s

-- what is left of the way leads to the same end
pub record GoesTo (limit : ℕ) (from m : PairRunning) : Type 0 where
  pub within : m.state.first.now ≤ limit
  pub first : m.first ≡ from.first
  pub second : m.second ≡ from.second
  pub requests : m.requests ≡ from.requests
  pub left : pair_cycles (rule_in from.first) (rule_in from.second) from.first from.second from.requests (limit - m.state.first.now) m.state
      ≡ pair_cycles (rule_in from.first) (rule_in from.second) from.first from.second from.requests (limit - from.state.first.now) from.state

abbrev going : Bool → ℕ
going true = 0
going false = 1

-- it falls in each cycle, also in one that traps
abbrev pub cycles_left : ℕ → PairState → ℕ
cycles_left limit s = 2 * (limit - s.first.now) + going (is_pair_over s)

next_trapped : (limit k : ℕ) (from : PairRunning) (s : PairState) (t : Bool) → one_trapped s ≡ t → (t ≡ false → limit - s.first.now ≡ k) →
    goes_from from (limit - s.first.now) s ≡ goes_from from k s
next_trapped limit k from s false e h = ap (λ n. goes_from from n s) (h refl)
next_trapped limit k from s true e h =
    let over : is_pair_over s ≡ true = over_trapped (both_finished s) (one_trapped s) (is_full s.first || is_full s.second) e in
    pair_cycles-over (rule_in from.first) (rule_in from.second) from.first from.second from.requests (limit - s.first.now) s over
    ∙ sym (pair_cycles-over (rule_in from.first) (rule_in from.second) from.first from.second from.requests k s over)

pub within_next : (limit now now' : ℕ) (t : Bool) → now < limit → (t ≡ false → now' ≡ now + 1) → (t ≡ true → now' ≡ now) → now' ≤ limit
within_next limit now now' false lt next stays = omega (arith, next refl)
within_next limit now now' true lt next stays = omega (arith, stays refl)

step_goes : (m : PairRunning) (s : PairState) → is_pair_over s ≡ false →
    pair_step (rule_in m.first) (rule_in m.second) m.first m.second m.requests s ≡ pair_cycle (rule_in m.first) (rule_in m.second) m.first m.second m.requests s
step_goes m s e =
    let all : PairState = pair_cycle (rule_in m.first) (rule_in m.second) m.first m.second m.requests s in
    ap (λ v. cond v s all) e

pub goes_to : (limit : ℕ) (from m : PairRunning) (s : PairState) → GoesTo limit from m → pair_stop_of limit m.state ≡ None →
    s ≡ pair_cycle (rule_in m.first) (rule_in m.second) m.first m.second m.requests m.state →
    (one_trapped s ≡ false → s.first.now ≡ m.state.first.now + 1) → (one_trapped s ≡ true → s.first.now ≡ m.state.first.now) → GoesTo limit from (with_state m s)
unfolding pair_cycles
goes_to limit from m s g none is next stays =
    let on = goes_on limit m.state none in
    let last : (m.state.first.now == limit) ≡ false = on.1 in
    let le : m.state.first.now ≤ limit = g.within in
    let lt : m.state.first.now < limit = grind (arith, nat_tests) in
    let k = limit - (m.state.first.now + 1) in
    let d : limit - m.state.first.now ≡ 1 + k = omega arith in
    let step : s ≡ pair_step (rule_in from.first) (rule_in from.second) from.first from.second from.requests m.state =
    is ∙ ap (λ p. pair_cycle (rule_in p) (rule_in m.second) p m.second m.requests m.state) g.first ∙ ap (λ q. pair_cycle (rule_in from.first) (rule_in q) from.first q m.requests m.state) g.second
    ∙ ap (λ r. pair_cycle (rule_in from.first) (rule_in from.second) from.first from.second r m.state) g.requests ∙ sym (step_goes from m.state on.0) in
    let rest : goes_from from (limit - m.state.first.now) m.state ≡ goes_from from k s =
    ap (λ n. goes_from from n m.state) d ∙ pair_cycles-add (rule_in from.first) (rule_in from.second) from.first from.second from.requests 1 k m.state ∙ ap (goes_from from k) (sym step) in
    record {
      within = within_next limit m.state.first.now s.first.now (one_trapped s) lt next stays;
      first = g.first;
      second = g.second;
      requests = g.requests;
      left = next_trapped limit k from s (one_trapped s) refl (λ e. ap (λ n. limit - n) (next e)) ∙ sym rest ∙ g.left;
    }

pub ends_at : (limit : ℕ) (from m : PairRunning) (stop : PairStop) → GoesTo limit from m → pair_stop_of limit m.state ≡ Some stop →
    m.state ≡ pair_cycles (rule_in from.first) (rule_in from.second) from.first from.second from.requests (limit - from.state.first.now) from.state
unfolding pair_cycles
ends_at limit from m stop g some =
    elim (stops limit m.state stop some) [
      | inl over ↦ sym (pair_cycles-over (rule_in from.first) (rule_in from.second) from.first from.second from.requests (limit - m.state.first.now) m.state over) ∙ g.left
      | inr last ↦ (let at : m.state.first.now ≡ limit = grind (arith, nat_tests) in
          let z : 0 ≡ limit - m.state.first.now = omega arith in
          ap (λ n. goes_from from n m.state) z ∙ g.left)
    ]

left_smaller : (limit n n' : ℕ) (o o' t : Bool) → o ≡ false → (t ≡ true → o' ≡ true) → n < limit → (t ≡ false → n' ≡ n + 1) → (t ≡ true → n' ≡ n) →
    2 * (limit - n') + going o' < 2 * (limit - n) + going o
left_smaller limit n n' true o' t e h lt next stays = absurd (cc)
left_smaller limit n n' false true true e h lt next stays = omega (arith, stays refl)
left_smaller limit n n' false false true e h lt next stays = absurd (let x : false ≡ true = h refl in cc)
left_smaller limit n n' false true false e h lt next stays = omega (arith, lt, next refl)
left_smaller limit n n' false false false e h lt next stays = omega (arith, lt, next refl)

pub smaller : (limit : ℕ) (s s' : PairState) → s.first.now ≤ limit → pair_stop_of limit s ≡ None →
    (one_trapped s' ≡ false → s'.first.now ≡ s.first.now + 1) → (one_trapped s' ≡ true → s'.first.now ≡ s.first.now) →
    cycles_left limit s' < cycles_left limit s
smaller limit s s' le none next stays =
    let on = goes_on limit s none in
    let last : (s.first.now == limit) ≡ false = on.1 in
    let lt : s.first.now < limit = grind (arith, nat_tests) in
    left_smaller limit s.first.now s'.first.now (is_pair_over s) (is_pair_over s') (one_trapped s') on.0
    (λ e. over_trapped (both_finished s') (one_trapped s') (is_full s'.first || is_full s'.second) e) lt next stays

-- so many cycles at once
pub passes_to : (limit at : ℕ) (from m : PairRunning) (s : PairState) → GoesTo limit from m → m.state.first.now ≤ at → at ≤ limit →
    s ≡ pair_cycles (rule_in m.first) (rule_in m.second) m.first m.second m.requests (at - m.state.first.now) m.state → s.first.now ≡ at → GoesTo limit from (with_state m s)
passes_to limit at from m s g le most is now =
    let n = at - m.state.first.now in
    let here : s ≡ goes_from from n m.state =
    is ∙ ap (λ p. pair_cycles (rule_in p) (rule_in m.second) p m.second m.requests n m.state) g.first
    ∙ ap (λ q. pair_cycles (rule_in from.first) (rule_in q) from.first q m.requests n m.state) g.second
    ∙ ap (λ r. pair_cycles (rule_in from.first) (rule_in from.second) from.first from.second r n m.state) g.requests in
    let e : n + (limit - at) ≡ limit - m.state.first.now = omega (arith, le, most) in
    record {
      within = omega (arith, now, most);
      first = g.first;
      second = g.second;
      requests = g.requests;
      left = ap (λ k. goes_from from (limit - k) s) now ∙ ap (goes_from from (limit - at)) here
          ∙ sym (pair_cycles-add (rule_in from.first) (rule_in from.second) from.first from.second from.requests n (limit - at) m.state)
          ∙ ap (λ k. goes_from from k m.state) e ∙ g.left;
    }

pub passes_less : (limit at : ℕ) (s t : PairState) → s.first.now < at → at ≤ limit → t.first.now ≡ at → cycles_left limit t < cycles_left limit s
passes_less limit at s t lt most now =
    let a = going_most (is_pair_over t) in
    omega (arith, lt, most, now, a)

-- cycles that are taken, one that traps too
takes_by : (limit : ℕ) (from m : PairRunning) (s : PairState) (t : Bool) → one_trapped s ≡ t → GoesTo limit from m → m.state.first.now ≤ s.first.now →
    s.first.now ≤ limit → (t ≡ true → s.first.now < limit) →
    s ≡ pair_cycles (rule_in m.first) (rule_in m.second) m.first m.second m.requests (s.first.now - m.state.first.now + (if t then 1 else 0)) m.state → GoesTo limit from (with_state m s)
takes_by limit from m s false e g le most early is =
    let z : s.first.now - m.state.first.now + 0 ≡ s.first.now - m.state.first.now = omega arith in
    passes_to limit s.first.now from m s g le most (is ∙ ap (λ k. pair_cycles (rule_in m.first) (rule_in m.second) m.first m.second m.requests k m.state) z) refl
takes_by limit from m s true e g le most early is =
    let k = s.first.now - m.state.first.now + 1 in
    let n = limit - m.state.first.now - k in
    let lt : s.first.now < limit = early refl in
    let over : is_pair_over s ≡ true = over_trapped (both_finished s) (one_trapped s) (is_full s.first || is_full s.second) e in
    let here : s ≡ goes_from from k m.state =
    is ∙ ap (λ p. pair_cycles (rule_in p) (rule_in m.second) p m.second m.requests k m.state) g.first
    ∙ ap (λ q. pair_cycles (rule_in from.first) (rule_in q) from.first q m.requests k m.state) g.second
    ∙ ap (λ r. pair_cycles (rule_in from.first) (rule_in from.second) from.first from.second r k m.state) g.requests in
    let d : k + n ≡ limit - m.state.first.now = omega (arith, le, lt) in
    record {
      within = most;
      first = g.first;
      second = g.second;
      requests = g.requests;
      left = pair_cycles-over (rule_in from.first) (rule_in from.second) from.first from.second from.requests (limit - s.first.now) s over
          ∙ sym (pair_cycles-over (rule_in from.first) (rule_in from.second) from.first from.second from.requests n s over)
          ∙ ap (goes_from from n) here
          ∙ sym (pair_cycles-add (rule_in from.first) (rule_in from.second) from.first from.second from.requests k n m.state)
          ∙ ap (λ j. goes_from from j m.state) d ∙ g.left;
    }

pub takes_to : (limit : ℕ) (from m : PairRunning) (s : PairState) → GoesTo limit from m → m.state.first.now ≤ s.first.now → s.first.now ≤ limit → (one_trapped s ≡ true → s.first.now < limit) →
    s ≡ pair_cycles (rule_in m.first) (rule_in m.second) m.first m.second m.requests (cycles_taken m.state s) m.state → GoesTo limit from (with_state m s)
takes_to limit from m s g le most early is = takes_by limit from m s (one_trapped s) refl g le most early is

takes_less_by : (limit : ℕ) (s t : PairState) (b : Bool) → one_trapped t ≡ b → is_pair_over s ≡ false → s.first.now ≤ t.first.now →
    t.first.now ≤ limit → 1 ≤ t.first.now - s.first.now + (if b then 1 else 0) →
    cycles_left limit t < cycles_left limit s
takes_less_by limit s t false e on le most some = passes_less limit t.first.now s t (omega (arith, some)) most refl
takes_less_by limit s t true e on le most some =
    let over : is_pair_over t ≡ true = over_trapped (both_finished t) (one_trapped t) (is_full t.first || is_full t.second) e in
    let a = ap going over in
    let b = ap going on in
    omega (arith, le, most, a, b)

pub takes_less : (limit : ℕ) (s t : PairState) → is_pair_over s ≡ false → s.first.now ≤ t.first.now → t.first.now ≤ limit → 1 ≤ cycles_taken s t → cycles_left limit t < cycles_left limit s
takes_less limit s t on le most some = takes_less_by limit s t (one_trapped t) refl on le most some

none_by_test : (b : Bool) (n : ℕ) → b ≡ false → n ≡ 0 → n + (if b then 1 else 0) ≡ 0
none_by_test true n e z = absurd (cc)
none_by_test false n e z = omega (arith, z)

pub takes_none : (s t : PairState) → one_trapped t ≡ false → t.first.now ≤ s.first.now → cycles_taken s t ≡ 0
takes_none s t e le = none_by_test (one_trapped t) (t.first.now - s.first.now) e (omega (arith, le))
