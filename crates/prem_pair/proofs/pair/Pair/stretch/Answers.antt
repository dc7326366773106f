use Rattle.std.proofs.Common.{◌≡◌, ◌∙◌, sym, ap, subst, false, List, ◌≤◌, arith, ltb, ℕ, ◌<◌}
use Rattle.prem_pair.proofs.Prelude.{rule_in, Request, setup_in, GoOn, pair_of, PairState, is_pair_over, one_trapped, pair_cycles, cycles_taken, running_of, PairRunning, with_state}
use Rattle.prem_pair.proofs.Prelude.{nat_tests}
use Rattle.prem_pair.proofs.Going.{none_trapped, takes_none}
use Rattle.prem_pair.proofs.pair.Pair.stretch.Goals.{then-now-before, else-now-before}
use Rattle.prem_pair.proofs.pair.Pair.stretch.Goals as goal

impossible : (a b : ℕ) → a < b → ltb a b ≡ false → ⊥
impossible a b lt test = let ge : b ≤ a = grind (arith, nat_tests) in omega (arith, lt, ge)

pub stretch-requires-clause-goes : goal.stretch-requires-clause-goes
stretch-requires-clause-goes g c =
    let m = c.self.inside in
    let going : is_pair_over (pair_of m.both) ≡ false = ap (λ (r : PairRunning). is_pair_over r.state) c.self.view_is ∙ c.requires.going in
    let G : List Request → Type 0 = λ rs. GoOn rs m.both in
    subst G (sym c.deref.ensures.value) (c.self.invariant.goes (none_trapped (pair_of m.both) going))

pub returns-clause-new : goal.returns-clause-new
returns-clause-new g c =
    let m = c.self.inside in
    let p = setup_in m.first in
    let q = setup_in m.second in
    let new = pair_of c.stretch.new.self in
    let C : List Request → PairState = λ rs. pair_cycles (rule_in p) (rule_in q) p q rs (cycles_taken (pair_of m.both) new) (pair_of m.both) in
    let F : PairRunning → PairRunning = λ r. with_state r (pair_cycles (rule_in r.first) (rule_in r.second) r.first r.second r.requests (cycles_taken r.state new) r.state) in
    ap (λ (x : PairState). with_state (running_of m) x) (c.stretch.ensures.state ∙ ap C c.deref.ensures.value) ∙ ap F c.self.view_is

pub returns-clause-kept : goal.returns-clause-kept
unfolding pair_cycles
returns-clause-kept g c so =
    let m = c.self.inside in
    let s = pair_of m.both in
    let new = pair_of c.stretch.new.self in
    let old = c.args.self.now in
    elim c.if-now-before.branch [
      | then-now-before w ↦ (let lt : c.now-before.result < c.now.result = w.if-now-before.true in
          let test : ltb c.now-before.result c.now.result ≡ false = sym w.result-is ∙ so in
          absurd (impossible c.now-before.result c.now.result lt test))
      | else-now-before w ↦ (let none : one_trapped new ≡ false = sym w.has_trapped.ensures ∙ sym w.result-is ∙ so in
          let le : new.first.now ≤ s.first.now = omega (arith, w.if-now-before.false, c.now.ensures, c.now-before.ensures, ap (λ (r : PairRunning). r.state.first.now) c.self.view_is) in
          let z : cycles_taken old.state new ≡ 0 = ap (λ (r : PairRunning). cycles_taken r.state new) (sym c.self.view_is) ∙ takes_none s new none le in
          returns-clause-new g c ∙ ap (λ n. with_state old (pair_cycles (rule_in old.first) (rule_in old.second) old.first old.second old.requests n old.state)) z)
    ]
