use Rattle.std.specs.Prelude.{IfSome, slice_get}
use Rattle.std.proofs.Common.{◌≡◌, ◌<◌, Some, length, ap, sym, ◌∙◌, subst}
use Rattle.prem_cycle.specs.FactsOf.{Report}
use Rattle.prem_mail.specs.Delivery.{receiver}
use Rattle.prem_mail.specs.Mailing.{Mailing, with_mailed, handed_to, received_by}
use Rattle.prem_mail.proofs.Stepping.{receiver_known}
use Rattle.prem_mail.proofs.mail.Mail.receive.Goals as goal

pub hand-requires-clause-task : goal.hand-requires-clause-task
hand-requires-clause-task g c =
    let m = c.self.inside in
    let t = c.in-Some.transfer in
    let is = c.receiver-task.ensures ∙ ap (λ fs. receiver fs t) c.deref.ensures.value in
    subst (λ o. IfSome o (λ k. k < length c.args.self.now.setup.tasks)) (sym is)
    (subst (λ (x : Mailing). IfSome (receiver m.feeds.items t) (λ k. k < length x.setup.tasks)) c.self.view_is
    (receiver_known (length m.machine.setup.tasks) m.feeds.items t c.self.invariant.known))

pub returns : goal.returns
returns g c =
    let x : Mailing = c.args.self.now in
    let t = c.in-Some.transfer in
    let task_is = c.receiver-task.ensures ∙ ap (λ fs. receiver fs t) c.deref.ensures.value ∙ ap (λ (y : Mailing). receiver y.feeds t) c.self.view_is in
    let there : slice_get x.mailed.state.log.transfers c.args.before ≡ Some t =
    ap (λ (y : Mailing). slice_get y.mailed.state.log.transfers c.args.before) (sym c.self.view_is) ∙ ap (λ (r : Report). slice_get r.transfers c.args.before) (sym c.facts-facts.ensures)
    ∙ sym c.transfer_behind.ensures.transfer ∙ c.in-Some.is in
    c.hand.ensures ∙ ap (λ o. with_mailed x (handed_to o t.value x.mailed)) task_is ∙ sym (ap (λ o. with_mailed x (received_by x.feeds o x.mailed)) there)
