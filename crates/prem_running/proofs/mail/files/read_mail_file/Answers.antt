use Rattle.std.specs.Prelude.{Option, Vec}
use Rattle.std.specs.declared.alloc.Global.{Global}
use Rattle.std.proofs.Common.{ap, ◌∙◌, sym}
use Rattle.prem_io.specs.Files.{Files}
use Rattle.prem_tasks.specs.SetOf.{set_of}
use Rattle.prem_set.specs.Run.Names.{KnownNames}
use Rattle.prem_mail.specs.declared.feed.Feed.{Feed}
use Rattle.prem_mail.specs.MailFile.{feeds_of}
use Rattle.prem_answer.specs.declared.answer.Telling.TheVariants.{Whole}
use Rattle.prem_answer.proofs.Reading.{made_ok}
use Rattle.prem_exec.specs.Sources.Sources.{names_of}
use Rattle.prem_exec.proofs.Behind.{read_halts}
use Rattle.prem_running.specs.Mail.Files.{mail_limit, feeds_of_bytes}
use Rattle.prem_running.proofs.MailLemmas.Files.{mail_formed, mail_refused}
use Rattle.prem_running.proofs.mail.files.read_mail_file.Goals as goal

pub returns-in-Err-clause-feeds : goal.returns-in-Err-clause-feeds
returns-in-Err-clause-feeds g c =
    let name = c.args.name.now in
    let told : Option Files = g.S.Store.files c.args.store.now in
    read_halts Whole told mail_limit name (feeds_of_bytes (set_of c.args.set.now) name) (λ (v : Vec Feed Global). v.items) c.in-Err.halt c.in-Err.ensures.read

pub returns-in-Ok-read_mail-clause-feeds : goal.returns-in-Ok-read_mail-clause-feeds
returns-in-Ok-read_mail-clause-feeds g c =
    let name = c.args.name.now in
    let set = set_of c.args.set.now in
    let bytes = c.in-Ok.bytes.items in
    let feeds = c.in-Ok-read_mail.feeds in
    let read = ap (λ (known : KnownNames). feeds_of bytes known) (sym c.in_ok-names.ensures)
    ∙ ap (λ bs. feeds_of bs c.in_ok-names.names) (sym c.deref.ensures.value) ∙ c.in-Ok-read_mail.ensures.exact in
    made_ok _ mail_limit name (feeds_of_bytes set name) bytes _ c.in-Ok.ensures.read (mail_formed name (feeds_of bytes (names_of set)) feeds.items read)

pub returns-in-Err-Line-clause-feeds : goal.returns-in-Err-Line-clause-feeds
returns-in-Err-Line-clause-feeds g c =
    let name = c.args.name.now in
    let set = set_of c.args.set.now in
    let bytes = c.in-Ok.bytes.items in
    let read =
    ap (λ (known : KnownNames). feeds_of bytes known) (sym c.in_ok-names.ensures)
    ∙ ap (λ bs. feeds_of bs c.in_ok-names.names) (sym c.deref.ensures.value)
    ∙ (rw c.in-Err-Line.field-0-is at c.in-Err-Line.ensures.exact) in
    made_ok _ mail_limit name (feeds_of_bytes set name) bytes _ c.in-Ok.ensures.read
    (mail_refused name (feeds_of bytes (names_of set)) c.in-Err-Line.n c.in-Err-Line.which _ read c.in_ok-line_form-in-Err-Line.ensures)
