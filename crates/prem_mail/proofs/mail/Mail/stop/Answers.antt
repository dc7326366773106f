use Rattle.std.specs.Prelude.{◌==◌, ⊤}
use Rattle.std.proofs.Common.{◌≡◌, Some, ap, sym, ◌∙◌, subst}
use Rattle.prem_cycle.specs.FactsOf.{stop_of}
use Rattle.prem_machine.specs.States.{Running}
use Rattle.prem_mail.specs.MailFields.{HoldsMail}
use Rattle.prem_mail.specs.Mailing.{Mailing}
use Rattle.prem_mail.specs.MailFields.{mailing_of}
use Rattle.prem_mail.specs.Stopping.{stop_unless_limit}
use Rattle.prem_mail.proofs.Bringing.{stays_there}
use Rattle.prem_mail.proofs.Going.{stop_now}
use Rattle.prem_mail.proofs.mail.Mail.stop.Goals as goal

same_machine : (g : _) (c : goal.After-stop_unless_limit g) → c.run_to-stop.new.self ≡ c.self.inside.machine
same_machine g c = stays_there c.self.inside.machine c.run_to-stop.new.self c.now-now.result c.now-now.ensures c.run_to-stop.ensures.state c.run_to-stop.ensures.setup c.run_to-stop.ensures.requests

pub invariant_of-self : goal.invariant_of-self
invariant_of-self g c =
    let m = c.self.inside in
    subst (λ (q : Running). HoldsMail q m.feeds.items m.words m.lost.items) (sym (same_machine g c)) c.self.invariant

pub returns-clause-same : goal.returns-clause-same
returns-clause-same g c =
    let m = c.self.inside in
    ap (λ (q : Running). mailing_of {P = ⊤} (record { machine = q; feeds = m.feeds; words = m.words; lost = m.lost })) (same_machine g c) ∙ c.self.view_is

pub returns-clause-stop : goal.returns-clause-stop
returns-clause-stop g c =
    let s = c.self.inside.machine.state in
    let some : Some c.run_to-stop.result ≡ stop_of s.now s =
    c.run_to-stop.ensures.stop ∙ ap (λ (q : Running). stop_of c.now-now.result q.state) (same_machine g c) ∙ ap (λ n. stop_of n s) c.now-now.ensures in
    c.stop_unless_limit.ensures ∙ ap (λ n. stop_unless_limit c.run_to-stop.result (n == c.args.limit)) c.now-now.ensures ∙ sym (stop_now c.args.limit s c.run_to-stop.result some)
    ∙ ap (λ (x : Mailing). stop_of c.args.limit x.mailed.state) c.self.view_is
