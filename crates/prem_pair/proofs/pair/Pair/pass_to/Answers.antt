use Rattle.std.proofs.Common.{◌≡◌, ◌-◌, ◌∙◌, ap, sym, subst, false, List}
use Rattle.prem_pair.proofs.Prelude.{rule_in, Request, setup_in, GoOn, pair_of, PairState, is_pair_over, pair_cycles, PairRests, running_of, PairRunning, with_state}
use Rattle.prem_pair.proofs.CyclesLemmas.Rests.{pair_one_step}
use Rattle.prem_pair.proofs.Going.{none_trapped}
use Rattle.prem_pair.proofs.Passes.{steady_pair}
use Rattle.prem_pair.proofs.pair.Pair.pass_to.Goals as goal

pub pass-requires-clause-goes : goal.pass-requires-clause-goes
pass-requires-clause-goes g c =
    let m = c.self.inside in
    let going : is_pair_over (pair_of m.both) ≡ false = ap (λ (r : PairRunning). is_pair_over r.state) c.self.view_is ∙ c.requires.going in
    let G : List Request → Type 0 = λ rs. GoOn rs m.both in
    subst G (sym c.deref.ensures.value) (c.self.invariant.goes (none_trapped (pair_of m.both) going))

pub returns-clause-new : goal.returns-clause-new
returns-clause-new g c =
    let m = c.self.inside in
    let n = c.args.at - m.both.first.now in
    let s = pair_of m.both in
    let p = setup_in m.first in
    let q = setup_in m.second in
    let going : is_pair_over s ≡ false = ap (λ (r : PairRunning). is_pair_over r.state) c.self.view_is ∙ c.requires.going in
    let P : PairRunning → Type 0 = λ r. PairRests (c.args.at - r.state.first.now) r.requests r.state in
    let rests = subst P (sym c.self.view_is) c.requires.rests in
    let steady = steady_pair m.first m.second m.requests.items m.both c.self.invariant.stands (c.self.invariant.goes (none_trapped s going)) going in
    let F : PairRunning → PairRunning = λ r. with_state r (pair_cycles (rule_in r.first) (rule_in r.second) r.first r.second r.requests (c.args.at - r.state.first.now) r.state) in
    ap (λ (x : PairState). with_state (running_of m) x) (c.pass.ensures.state ∙ sym (pair_one_step (rule_in p) (rule_in q) p q m.requests.items n s steady rests))
    ∙ ap F c.self.view_is
