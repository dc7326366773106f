use Rattle.std.specs.Prelude.{List, Option, Ok, Err}
use Rattle.std.proofs.Common.{◌≡◌, ◌∙◌, ap, refl, subst}
use Rattle.prem_io.specs.Files.{Files}
use Rattle.prem_tasks.specs.SetOf.{set_of}
use Rattle.prem_set.specs.Views.{set_view}
use Rattle.prem_answer.specs.declared.answer.Telling.TheVariants.{Whole}
use Rattle.prem_answer.specs.Stages.{Comes, reply_of}
use Rattle.prem_answer.proofs.Reading.{given_at_once}
use Rattle.prem_exec.specs.Sources.Sources.{input_of, reading_sources, run_limit, run_of_bytes, set_limit, set_of_bytes_by}
use Rattle.prem_exec.proofs.Behind.{file_goes, file_halts, pass_goes, pass_halts}
use Rattle.prem_running.specs.Tellings.{set_reply}
use Rattle.prem_profile.specs.declared.callgrind.Source.{Source}
use Rattle.prem_profile.specs.Words.{run_asked}
use Rattle.prem_profile.specs.Answer.{behind_file, behind_run, behind_set, profile_tells, sources_of}
use Rattle.prem_profile.proofs.answer.run_answer.Goals as goal

pub returns-in-Err-clause-answer : goal.returns-in-Err-clause-answer
returns-in-Err-clause-answer g c =
    let asked = run_asked c.args.asked.now in
    let told : Option Files = g.S.Store.files c.args.store.now in
    file_halts Whole told set_limit asked.set (set_of_bytes_by Whole asked.set) (behind_file asked) set_view c.in-Err.halt c.in-Err.ensures.set

pub returns-in-Err-read_sources-clause-answer : goal.returns-in-Err-read_sources-clause-answer
returns-in-Err-read_sources-clause-answer g c =
    let asked = run_asked c.args.asked.now in
    let told : Option Files = g.S.Store.files c.args.store.now in
    let later : Option Files = g.S.Store.files c.read_set_file.new.store in
    let s = set_view c.in-Ok.file in
    let halt = c.in-Err-read_sources.halt in
    file_goes Whole told set_limit asked.set (set_of_bytes_by Whole asked.set) (behind_file asked) later s (Err halt) c.in-Ok.ensures.same c.in-Ok.ensures.set
    (pass_halts later (reading_sources Whole s) (behind_set (sources_of s.tasks) asked) set_of halt c.in-Err-read_sources.ensures.set)

pub returns-in-Err-read_run_file-clause-answer : goal.returns-in-Err-read_run_file-clause-answer
returns-in-Err-read_run_file-clause-answer g c =
    let asked = run_asked c.args.asked.now in
    let told : Option Files = g.S.Store.files c.args.store.now in
    let later : Option Files = g.S.Store.files c.read_set_file.new.store in
    let last : Option Files = g.S.Store.files c.read_sources.new.store in
    let s = set_view c.in-Ok.file in
    let sources = sources_of s.tasks in
    let set = set_of c.in-Ok-read_sources.set in
    let halt = c.in-Err-read_run_file.halt in
    file_goes Whole told set_limit asked.set (set_of_bytes_by Whole asked.set) (behind_file asked) later s (Err halt) c.in-Ok.ensures.same c.in-Ok.ensures.set
    (pass_goes later (reading_sources Whole s) (behind_set sources asked) last set (Err halt) c.in-Ok-read_sources.ensures.same c.in-Ok-read_sources.ensures.set
    (file_halts Whole last run_limit asked.run (run_of_bytes set asked.run) (behind_run sources asked set) input_of halt c.in-Err-read_run_file.ensures.input))

pub returns-clause-answer : goal.returns-clause-answer
returns-clause-answer g c =
    let asked = run_asked c.args.asked.now in
    let told : Option Files = g.S.Store.files c.args.store.now in
    let later : Option Files = g.S.Store.files c.read_set_file.new.store in
    let last : Option Files = g.S.Store.files c.read_sources.new.store in
    let s = set_view c.in-Ok.file in
    let sources = sources_of s.tasks in
    let set = set_of c.in-Ok-read_sources.set in
    let input = input_of c.in-Ok-read_run_file.input in
    let result = c.tell_set.result in
    let named = c.deref.ensures.value ∙ c.in_ok-sources.ensures ∙ ap sources_of c.items.ensures in
    let answer =
    subst (λ (them : List Source). Comes reply_of (λ given. given ≡ Ok (set_reply (profile_tells them asked) set input)) result) named c.tell_set.ensures.answer in
    file_goes Whole told set_limit asked.set (set_of_bytes_by Whole asked.set) (behind_file asked) later s result c.in-Ok.ensures.same c.in-Ok.ensures.set
    (pass_goes later (reading_sources Whole s) (behind_set sources asked) last set result c.in-Ok-read_sources.ensures.same c.in-Ok-read_sources.ensures.set
    (file_goes Whole last run_limit asked.run (run_of_bytes set asked.run) (behind_run sources asked set) last input result refl c.in-Ok-read_run_file.ensures.input
    (given_at_once last (set_reply (profile_tells sources asked) set input) result answer)))
