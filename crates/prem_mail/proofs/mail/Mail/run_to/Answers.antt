use Rattle.std.proofs.Common.{◌≡◌, ap, sym, ◌∙◌, subst}
use Rattle.prem_mail.specs.Mailing.{Mailing, with_mailed}
use Rattle.prem_mail.proofs.Gliding.{glides_less}
use Rattle.prem_mail.proofs.Going.{GoesTo, ends_at, goes_by, goes_to}
use Rattle.prem_mail.proofs.mail.Mail.run_to.Goals as goal

pub cycles-preserved : goal.cycles-preserved
cycles-preserved g c =
    let from = c.args.self.now in
    let mid = c.glide.new.self in
    let new = c.step.new.self in
    let told = c.in-Ok.ensures.next in
    let is = ap (λ (m : Mailing). m.mailed) c.step.ensures.new in
    let P : Mailing → Type 0 = λ m. GoesTo c.args.limit from m in
    let same : with_mailed mid new.mailed ≡ new = ap (with_mailed mid) is ∙ sym c.step.ensures.new in
    subst P same (goes_to c.args.limit from mid new.mailed (goes_by c.args.limit from c.cycles.self mid c.cycles.invariant c.glide.ensures.by) told.0 is c.step.ensures.goes_on c.step.ensures.stops)

pub cycles-smaller : goal.cycles-smaller
cycles-smaller g c =
    glides_less c.args.limit c.cycles.self c.glide.new.self c.step.new.self c.glide.ensures.by c.in-Ok.ensures.next.0 c.step.ensures.goes_on c.step.ensures.stops

pub returns-in-Err-clause-mailed : goal.returns-in-Err-clause-mailed
returns-in-Err-clause-mailed g c =
    let from = c.args.self.now in
    let mid = c.glide.new.self in
    ends_at c.args.limit from mid c.in-Err.stop (goes_by c.args.limit from c.cycles.self mid c.cycles.invariant c.glide.ensures.by) c.in-Err.ensures.next

pub returns-in-Err-clause-setup : goal.returns-in-Err-clause-setup
returns-in-Err-clause-setup g c = (goes_by c.args.limit c.args.self.now c.cycles.self c.glide.new.self c.cycles.invariant c.glide.ensures.by).setup

pub returns-in-Err-clause-requests : goal.returns-in-Err-clause-requests
returns-in-Err-clause-requests g c = (goes_by c.args.limit c.args.self.now c.cycles.self c.glide.new.self c.cycles.invariant c.glide.ensures.by).requests

pub returns-in-Err-clause-feeds : goal.returns-in-Err-clause-feeds
returns-in-Err-clause-feeds g c = (goes_by c.args.limit c.args.self.now c.cycles.self c.glide.new.self c.cycles.invariant c.glide.ensures.by).feeds
