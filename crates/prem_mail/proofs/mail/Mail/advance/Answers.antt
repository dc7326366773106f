use Rattle.std.proofs.Common.{ap, sym, subst}
use Rattle.prem_machine.specs.Deliveries.{RunsSilently}
use Rattle.prem_machine.specs.States.{Running}
use Rattle.prem_mail.specs.Gliding.{machine_in, with_machine}
use Rattle.prem_mail.specs.MailFields.{HoldsMail}
use Rattle.prem_mail.specs.Mailing.{Mailing}
use Rattle.prem_mail.proofs.Gliding.{cycles_keep}
use Rattle.prem_mail.proofs.mail.Mail.advance.Goals as goal

pub invariant_of-self : goal.invariant_of-self
invariant_of-self g c =
    let m = c.self.inside in
    let runs = c.run_to_delivery.ensures.runs in
    subst (λ (q : Running). HoldsMail q m.feeds.items m.words m.lost.items) (sym runs.state) (cycles_keep m.machine m.feeds.items m.words m.lost.items runs.cycles c.self.invariant)

pub returns-clause-runs : goal.returns-clause-runs
returns-clause-runs g c =
    let R : Mailing → Type 0 = λ x. RunsSilently c.args.limit c.args.transfers (machine_in x) c.run_to_delivery.new.self in
    subst R c.self.view_is c.run_to_delivery.ensures.runs

pub returns-clause-kept : goal.returns-clause-kept
returns-clause-kept g c = ap (λ (x : Mailing). with_machine x c.run_to_delivery.new.self) c.self.view_is
