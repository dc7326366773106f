use Rattle.std.specs.Prelude.{List, Option, Ok, Err, Vec}
use Rattle.std.specs.declared.alloc.Global.{Global}
use Rattle.std.proofs.Common.{◌≡◌, refl, sym, subst}
use Rattle.prem_io.specs.Files.{Files}
use Rattle.prem_tasks.specs.SetOf.{set_of}
use Rattle.prem_command.specs.Words.{mail_asked}
use Rattle.prem_mail.specs.declared.feed.Feed.{Feed}
use Rattle.prem_answer.specs.declared.answer.Telling.TheVariants.{Whole}
use Rattle.prem_answer.specs.Stages.{Comes, reply_of}
use Rattle.prem_answer.proofs.Reading.{given_at_once}
use Rattle.prem_exec.specs.Sources.Sources.{input_of, names_of, reading_set, run_limit, run_of_bytes}
use Rattle.prem_exec.proofs.Behind.{file_goes, file_halts, pass_goes, pass_halts}
use Rattle.prem_running.specs.Tellings.{set_reply}
use Rattle.prem_running.specs.Mail.Files.{mail_limit, feeds_of_bytes}
use Rattle.prem_running.specs.Mail.Mail.{mail_tells}
use Rattle.prem_running.proofs.MailLemmas.Stages.{AreFor, behind_mail, behind_run, behind_set}
use Rattle.prem_running.proofs.mail.answer.mail_answer.Goals as goal

pub tell_set-requires-clause-suits : goal.tell_set-requires-clause-suits
tell_set-requires-clause-suits g c =
    subst (AreFor (names_of (set_of c.in-Ok.set))) (sym c.as_slice.ensures.value) c.in-Ok-read_mail_file.ensures.lawful

pub returns-in-Err-clause-answer : goal.returns-in-Err-clause-answer
returns-in-Err-clause-answer g c =
    let asked = mail_asked c.args.asked.now in
    let told : Option Files = g.S.Store.files c.args.store.now in
    pass_halts told (reading_set asked.of) (behind_set asked) set_of c.in-Err.halt c.in-Err.ensures.set

pub returns-in-Err-read_run_file-clause-answer : goal.returns-in-Err-read_run_file-clause-answer
returns-in-Err-read_run_file-clause-answer g c =
    let asked = mail_asked c.args.asked.now in
    let set = set_of c.in-Ok.set in
    let told : Option Files = g.S.Store.files c.args.store.now in
    let later : Option Files = g.S.Store.files c.read_task_set.new.store in
    let halt = c.in-Err-read_run_file.halt in
    pass_goes told (reading_set asked.of) (behind_set asked) later set (Err halt) c.in-Ok.ensures.same c.in-Ok.ensures.set
    (file_halts Whole later run_limit asked.run (run_of_bytes set asked.run) (behind_run asked set) input_of halt c.in-Err-read_run_file.ensures.input)

pub returns-in-Err-read_mail_file-clause-answer : goal.returns-in-Err-read_mail_file-clause-answer
returns-in-Err-read_mail_file-clause-answer g c =
    let asked = mail_asked c.args.asked.now in
    let set = set_of c.in-Ok.set in
    let input = input_of c.in-Ok-read_run_file.input in
    let told : Option Files = g.S.Store.files c.args.store.now in
    let later : Option Files = g.S.Store.files c.read_task_set.new.store in
    let last : Option Files = g.S.Store.files c.read_run_file.new.store in
    let halt = c.in-Err-read_mail_file.halt in
    pass_goes told (reading_set asked.of) (behind_set asked) later set (Err halt) c.in-Ok.ensures.same c.in-Ok.ensures.set
    (file_goes Whole later run_limit asked.run (run_of_bytes set asked.run) (behind_run asked set) last input (Err halt) c.in-Ok-read_run_file.ensures.same c.in-Ok-read_run_file.ensures.input
    (file_halts Whole last mail_limit asked.mail (feeds_of_bytes set asked.mail) (behind_mail asked set input) (λ (v : Vec Feed Global). v.items) halt c.in-Err-read_mail_file.ensures.feeds))

pub returns-clause-answer : goal.returns-clause-answer
returns-clause-answer g c =
    let asked = mail_asked c.args.asked.now in
    let set = set_of c.in-Ok.set in
    let input = input_of c.in-Ok-read_run_file.input in
    let feeds : List Feed = c.in-Ok-read_mail_file.feeds.items in
    let told : Option Files = g.S.Store.files c.args.store.now in
    let later : Option Files = g.S.Store.files c.read_task_set.new.store in
    let last : Option Files = g.S.Store.files c.read_run_file.new.store in
    let result = c.tell_set.result in
    let answer = subst (λ (fs : List Feed). Comes reply_of (λ given. given ≡ Ok (set_reply (mail_tells asked.cycles fs) set input)) result) c.as_slice.ensures.value c.tell_set.ensures.answer in
    pass_goes told (reading_set asked.of) (behind_set asked) later set result c.in-Ok.ensures.same c.in-Ok.ensures.set
    (file_goes Whole later run_limit asked.run (run_of_bytes set asked.run) (behind_run asked set) last input result c.in-Ok-read_run_file.ensures.same c.in-Ok-read_run_file.ensures.input
    (file_goes Whole last mail_limit asked.mail (feeds_of_bytes set asked.mail) (behind_mail asked set input) last feeds result refl c.in-Ok-read_mail_file.ensures.feeds
    (given_at_once last (set_reply (mail_tells asked.cycles feeds) set input) result answer)))
