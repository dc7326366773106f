use Rattle.std.proofs.Common.{◌≡◌, ◌∙◌, ap, subst, false}
use Rattle.prem_machine.proofs.Prelude.{goes_untrapped, is_over, IsSteady, state_of, Running}
use Rattle.prem_machine.proofs.Resting.{steady_parts}
use Rattle.prem_machine.proofs.machine.Machine.parts.Goals as goal

pub returns-clause-steady : goal.returns-clause-steady
returns-clause-steady g c = λ going.
    let m = c.self.inside in
    let s = state_of m.parts in
    let here : is_over s ≡ false = ap (λ (r : Running). is_over r.state) c.self.view_is ∙ going in
    let P : Running → Type 0 = λ r. IsSteady r.requests r.state in
    subst P c.self.view_is (steady_parts m.setting m.requests.items m.parts c.self.invariant.stands (c.self.invariant.runs (goes_untrapped s here)) c.self.invariant.windows here)
