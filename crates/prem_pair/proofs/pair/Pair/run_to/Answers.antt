use Rattle.std.proofs.Common.{◌≡◌, ◌<◌, None, ap, sym, ◌∙◌, subst}
use Rattle.prem_pair.proofs.Prelude.{pair_stop_of, PairRunning, with_state}
use Rattle.prem_pair.proofs.Going.{GoesTo, cycles_left, goes_on, goes_to, ends_at, passes_to, smaller, takes_less, takes_to}
use Rattle.prem_pair.proofs.pair.Pair.run_to.Goals as goal

pub cycles-preserved : goal.cycles-preserved
cycles-preserved g c =
    let old = c.stretch.new.self in
    let new = c.cycle.new.self in
    let kept : c.cycles.self ≡ old = sym (c.stretch.ensures.kept c.if-stretch.false) in
    let is = ap (λ (m : PairRunning). m.state) c.cycle.ensures.new in
    let same : with_state old new.state ≡ new = ap (with_state old) is ∙ sym c.cycle.ensures.new in
    let P : PairRunning → Type 0 = λ m. GoesTo c.args.limit c.args.self.now m in
    let N : PairRunning → Type 0 = λ m. pair_stop_of c.args.limit m.state ≡ None in
    subst P same (goes_to c.args.limit c.args.self.now old new.state (subst P kept c.cycles.invariant) (subst N kept (sym c.stop.ensures ∙ c.in_default.is)) is
    c.cycle.ensures.goes_on c.cycle.ensures.stops)

pub cycles-smaller : goal.cycles-smaller
cycles-smaller g c =
    let old = c.stretch.new.self in
    let kept : c.cycles.self ≡ old = sym (c.stretch.ensures.kept c.if-stretch.false) in
    let L : PairRunning → Type 0 = λ m. cycles_left c.args.limit c.cycle.new.self.state < cycles_left c.args.limit m.state in
    let P : PairRunning → Type 0 = λ m. GoesTo c.args.limit c.args.self.now m in
    let N : PairRunning → Type 0 = λ m. pair_stop_of c.args.limit m.state ≡ None in
    subst L (sym kept) (smaller c.args.limit old.state c.cycle.new.self.state (subst P kept c.cycles.invariant).within (subst N kept (sym c.stop.ensures ∙ c.in_default.is))
    c.cycle.ensures.goes_on c.cycle.ensures.stops)

pub cycles-preserved-then-stretch : goal.cycles-preserved-then-stretch
cycles-preserved-then-stretch g c =
    let old = c.cycles.self in
    let new = c.stretch.new.self in
    let e = c.stretch.ensures in
    let is = ap (λ (m : PairRunning). m.state) e.new in
    let same : with_state old new.state ≡ new = ap (with_state old) is ∙ sym e.new in
    let P : PairRunning → Type 0 = λ m. GoesTo c.args.limit c.args.self.now m in
    subst P same (takes_to c.args.limit c.args.self.now old new.state c.cycles.invariant e.from e.within e.early is)

pub cycles-preserved-then-at-now : goal.cycles-preserved-then-at-now
cycles-preserved-then-at-now g c =
    let old = c.cycles.self in
    let new = c.pass_to.new.self in
    let is = ap (λ (m : PairRunning). m.state) c.pass_to.ensures.new in
    let same : with_state old new.state ≡ new = ap (with_state old) is ∙ sym c.pass_to.ensures.new in
    let P : PairRunning → Type 0 = λ m. GoesTo c.args.limit c.args.self.now m in
    subst P same (passes_to c.args.limit c.rest_until-at.result c.args.self.now old new.state c.cycles.invariant c.rest_until-at.ensures.not_before
    c.rest_until-at.ensures.within is c.pass_to.ensures.now)

pub returns-in-Some-clause-state : goal.returns-in-Some-clause-state
returns-in-Some-clause-state g c =
    ends_at c.args.limit c.args.self.now c.cycles.self c.in-Some.stop c.cycles.invariant (sym c.stop.ensures ∙ c.in-Some.is)

pub pass_to-requires-clause-going : goal.pass_to-requires-clause-going
pass_to-requires-clause-going g c = (goes_on c.args.limit c.cycles.self.state (sym c.stop.ensures ∙ c.in_default.is)).0

pub stretch-requires-clause-going : goal.stretch-requires-clause-going
stretch-requires-clause-going g c = (goes_on c.args.limit c.cycles.self.state (sym c.stop.ensures ∙ c.in_default.is)).0

pub cycles-smaller-then-stretch : goal.cycles-smaller-then-stretch
cycles-smaller-then-stretch g c =
    let e = c.stretch.ensures in
    takes_less c.args.limit c.cycles.self.state c.stretch.new.self.state (goes_on c.args.limit c.cycles.self.state (sym c.stop.ensures ∙ c.in_default.is)).0 e.from e.within (e.went c.if-stretch.true)
