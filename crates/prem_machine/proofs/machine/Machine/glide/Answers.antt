use Rattle.std.proofs.Common.{◌-◌, ℕ, ap, sym, ◌∙◌, subst}
use Rattle.prem_machine.proofs.Prelude.{cycles_of, rule_in, AreSilent, with_state}
use Rattle.prem_machine.proofs.machine.Machine.glide.Goals as goal

pub returns-then-at-now-clause-new : goal.returns-then-at-now-clause-new
returns-then-at-now-clause-new g c =
    let m = c.args.self.now in
    c.pass_to.ensures.new ∙ ap (λ n. with_state m (cycles_of (rule_in m.setup) m.setup m.requests (n - m.state.now) m.state)) (sym c.pass_to.ensures.now)

pub returns-then-at-now-clause-silent : goal.returns-then-at-now-clause-silent
returns-then-at-now-clause-silent g c =
    let m = c.args.self.now in
    let S : ℕ → Type 0 = λ n. AreSilent (rule_in m.setup) m.setup m.requests (n - m.state.now) m.state in
    subst S (sym c.pass_to.ensures.now) c.rest_until-at.ensures.silent
