-- Runs up to where a word may come to a task.
use Rattle.std.proofs.Common.{◌≡◌, ℕ, ◌+◌, ◌-◌, ◌≤◌, ◌<◌, false, None, Some, Option, true, refl, ap, sym, ◌∙◌, subst, arith, ⊎_elim}
use Rattle.std.specs.Prelude.{◌==◌, is_some}
use Rattle.prem_machine.proofs.Prelude.{cycles_of-add, step_of-goes, cycle_of, is_over, stop_of, cycles_of, wants_input_of, rule_in, Trap, RunsSilently, AreSilent, ended_so_far, Running}
use Rattle.prem_machine.proofs.Prelude.{with_state, cases_lt, nat_tests}
use Rattle.prem_machine.proofs.Going.{goes_on}
use Rattle.prem_machine.proofs.Silence.{cycles_behind}

-- no cycle
pub runs_none : (limit transfers : ℕ) (m : Running) → m.state.now ≤ limit → RunsSilently limit transfers m m
unfolding cycles_of
runs_none limit transfers m le =
    record {
      cycles = 0;
      state = refl;
      within = omega (arith, le);
      later = omega arith;
      passed = omega arith;
      time = λ none. omega arith;
      wanted = λ k lt. absurd (omega (arith, lt));
      ended = λ k lt. absurd (omega (arith, lt));
    }

-- it has not come to the limit
pub within_limit : (limit transfers : ℕ) (a b : Running) → RunsSilently limit transfers a b → stop_of limit b.state ≡ None → b.state.now < limit
within_limit limit transfers a b f none =
    let last : (b.state.now == limit) ≡ false = (goes_on limit b.state none).1 in
    let le : b.state.now ≤ limit = omega (arith, f.passed, f.within) in
    grind (arith, nat_tests)

-- ---- some behind others

then_at : (limit transfers n : ℕ) (a c : Running) → ((k : ℕ) → k < n → wants_input_of (rule_in a.setup) a.setup a.requests (cycles_of (rule_in a.setup) a.setup a.requests k a.state) ≡ None) →
    ((k : ℕ) → k < n → ended_so_far (cycles_of (rule_in a.setup) a.setup a.requests k a.state) < transfers) →
    (cycles_of (rule_in a.setup) a.setup a.requests n a.state).now ≡ a.state.now + n →
    RunsSilently limit transfers (with_state a (cycles_of (rule_in a.setup) a.setup a.requests n a.state)) c → RunsSilently limit transfers a c
then_at limit transfers n a c wanted ended now q =
    let rule = rule_in a.setup in
    let p = a.setup in
    let r = a.requests in
    let s = a.state in
    record {
      cycles = n + q.cycles;
      state = q.state ∙ ap (with_state a) (sym (cycles_of-add rule p r n q.cycles s));
      within = omega (arith, q.within, now);
      later = omega (arith, q.later, now);
      passed = omega (arith, q.passed, now);
      time = λ none. omega (arith, q.time none, now);
      wanted = λ k lt.
          ⊎_elim (λ (first : k < n). wanted k first)
          (λ (behind : n ≤ k). ap (wants_input_of rule p r) (cycles_behind rule p r n k s behind) ∙ q.wanted (k - n) (omega (arith, lt, behind))) (cases_lt k n);
      ended = λ k lt.
          ⊎_elim (λ (first : k < n). ended k first)
          (λ (behind : n ≤ k). let same = ap ended_so_far (cycles_behind rule p r n k s behind) in omega (arith, same, q.ended (k - n) (omega (arith, lt, behind)))) (cases_lt k n);
    }

pub runs_then : (limit transfers : ℕ) (a b c : Running) → RunsSilently limit transfers a b → b.state.trapped ≡ None → RunsSilently limit transfers b c → RunsSilently limit transfers a c
runs_then limit transfers a b c f none q =
    let now = sym (ap (λ (m : Running). m.state.now) f.state) ∙ f.time none in
    let R : Running → Type 0 = λ m. RunsSilently limit transfers m c in
    then_at limit transfers f.cycles a c f.wanted f.ended now (subst R f.state q)

-- ---- at once, and one by one

pub runs_gliding : (limit transfers : ℕ) (a b : Running) → b ≡ with_state a (cycles_of (rule_in a.setup) a.setup a.requests (b.state.now - a.state.now) a.state) →
    AreSilent (rule_in a.setup) a.setup a.requests (b.state.now - a.state.now) a.state → a.state.now ≤ b.state.now → b.state.now ≤ limit →
    ended_so_far a.state < transfers → RunsSilently limit transfers a b
runs_gliding limit transfers a b is silent from within few =
    record {
      cycles = b.state.now - a.state.now;
      state = is;
      within = omega (arith, from, within);
      later = from;
      passed = omega (arith, from);
      time = λ none. omega (arith, from);
      wanted = silent.wanted;
      ended = λ k lt. let same = silent.ended k (omega (arith, lt)) in omega (arith, same, few);
    }

time_next : (t : Option Trap) (now now' : ℕ) → (t ≡ None → now' ≡ now + 1) → (is_some t ≡ true → now' ≡ now) → (now ≤ now') × (now' ≤ now + 1)
time_next None now now' goes stops = let e = goes refl in (omega (arith, e), omega (arith, e))
time_next (Some t) now now' goes stops = let e = stops refl in (omega (arith, e), omega (arith, e))

pub runs_one : (limit transfers : ℕ) (a b : Running) → b ≡ with_state a (cycle_of (rule_in a.setup) a.setup a.requests a.state) → is_over a.state ≡ false → a.state.now < limit →
    (b.state.trapped ≡ None → b.state.now ≡ a.state.now + 1) → (is_some b.state.trapped ≡ true → b.state.now ≡ a.state.now) →
    wants_input_of (rule_in a.setup) a.setup a.requests a.state ≡ None → ended_so_far a.state < transfers → RunsSilently limit transfers a b
unfolding cycles_of
runs_one limit transfers a b is going less goes stops wanted few =
    let p = a.setup in
    let time = time_next b.state.trapped a.state.now b.state.now goes stops in
    let first : (k : ℕ) → k < 1 → cycles_of (rule_in p) p a.requests k a.state ≡ a.state = λ k lt. let z : k ≡ 0 = omega (arith, lt) in ap (λ i. cycles_of (rule_in p) p a.requests i a.state) z in
    record {
      cycles = 1;
      state = is ∙ ap (with_state a) (sym (step_of-goes (rule_in p) p a.requests a.state going));
      within = omega (arith, less);
      later = time.0;
      passed = time.1;
      time = goes;
      wanted = λ k lt. ap (wants_input_of (rule_in p) p a.requests) (first k lt) ∙ wanted;
      ended = λ k lt. let same = ap ended_so_far (first k lt) in omega (arith, same, few);
    }
