use Rattle.std.proofs.Common.{◌≡◌, false, ap, sym, ◌∙◌, subst}
use Rattle.prem_cycle.specs.State.{rule_in}
use Rattle.prem_cycle.specs.Cycle.{cycle_of, is_over}
use Rattle.prem_cycle.proofs.RunLaws.{step_of-goes}
use Rattle.prem_machine.specs.States.{Running}
use Rattle.prem_mail.specs.Mailing.{Mailing}
use Rattle.prem_mail.specs.MailFields.{HoldsMail}
use Rattle.prem_mail.proofs.Kept.{cycled_keeps}
use Rattle.prem_mail.proofs.mail.Mail.cycle.Goals as goal

pub invariant_of-self : goal.invariant_of-self
invariant_of-self g c =
    let m = c.self.inside in
    let r = m.machine in
    let going : is_over r.state ≡ false = ap (λ (x : Mailing). is_over x.mailed.state) c.self.view_is ∙ c.requires.going in
    subst (λ (q : Running). HoldsMail q m.feeds.items m.words m.lost.items) (sym c.cycle.ensures.new)
    (cycled_keeps r m.feeds.items m.words m.lost.items (cycle_of (rule_in r.setup) r.setup r.requests r.state) (sym (step_of-goes (rule_in r.setup) r.setup r.requests r.state going)) c.self.invariant)
