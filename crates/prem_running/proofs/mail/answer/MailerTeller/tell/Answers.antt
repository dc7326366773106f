use Rattle.std.proofs.Common.{◌≤◌, ℕ, ap, ◌∙◌, sym, subst, arith}
use Rattle.prem_list.specs.Sequence.{items_of}
use Rattle.prem_image.specs.Text.{image_text}
use Rattle.prem_cycle.specs.Inputs.{setup_of, words_of}
use Rattle.prem_mail.specs.Mailing.{mailed_in}
use Rattle.prem_tasks.specs.SetOf.{set_of}
use Rattle.prem_exec.specs.Sources.Sources.{input_of}
use Rattle.prem_running.specs.Mail.Mail.{mailed_reply}
use Rattle.prem_running.proofs.MailLemmas.Stages.{feeds_fit}
use Rattle.prem_running.proofs.MailLemmas.Told.{starts_at, is_mailed, mailed_is}
use Rattle.prem_running.proofs.mail.answer.MailerTeller.tell.Goals as goal

pub new-requires-clause-feeds : goal.new-requires-clause-feeds
new-requires-clause-feeds g c = feeds_fit (set_of c.args.set.now) c.args.compiled.now c.args.self.now.feeds.now c.requires.compiled c.requires.suits

pub run_to-stop-requires-clause-now : goal.run_to-stop-requires-clause-now
run_to-stop-requires-clause-now g c =
    let image = c.args.compiled.now.image in
    let now = starts_at (setup_of image) (items_of image.content) (words_of c.args.input.now) (mailed_in c.in_ok-mail.mail) c.in_ok-mail.ensures.first in
    subst (λ n. n ≤ c.run_limit-limit.result) (sym now) (omega arith)

pub returns : goal.returns
returns g c =
    let image = c.args.compiled.now.image in
    let feeds = c.args.self.now.feeds.now in
    let limit = c.run_limit-limit.result in
    let made = c.in_ok-mail.ensures in
    let fed = is_mailed image c.args.input.now feeds limit c.in_ok-mail.mail (mailed_in c.run_to-stop.new.self)
    c.requires.fits c.run_to-stop.ensures.mailed made.setup made.requests made.feeds made.first in
    mailed_is image c.args.input.now feeds limit (mailed_in c.run_to-stop.new.self)
    c.run_to-stop.result c.in_ok-mailed_text.field-0.items fed c.run_to-stop.ensures.stop c.in_ok-mailed_text.ensures
    ∙ ap (λ (n : ℕ). mailed_reply (image_text image) (input_of c.args.input.now) feeds n) c.run_limit-limit.ensures.limit
