use Rattle.std.specs.Prelude.{List, Option, Ok, Err, map}
use Rattle.std.proofs.Common.{◌≡◌, ◌∙◌, ap, refl, subst}
use Rattle.prem_io.specs.Files.{Files}
use Rattle.prem_syntax.specs.Syntax.{Text}
use Rattle.prem_tasks.specs.SetOf.{set_of}
use Rattle.prem_set.specs.Views.{set_view}
use Rattle.prem_set.specs.declared.task.TaskEntry.{TaskEntry}
use Rattle.prem_answer.specs.declared.answer.Telling.TheVariants.{Whole}
use Rattle.prem_answer.specs.Stages.{Comes, reply_of}
use Rattle.prem_answer.proofs.Reading.{given_at_once}
use Rattle.prem_exec.specs.Sources.Sources.{reading_sources}
use Rattle.prem_exec.proofs.Behind.{file_goes, file_halts, pass_goes, pass_halts}
use Rattle.prem_lint.specs.Forms.{set_limit, stated_in}
use Rattle.prem_lint.specs.Answers.{behind_file, behind_set, lint_reply, source_names}
use Rattle.prem_lint.proofs.answer.lint_answer.Goals as goal

pub returns-in-Err-clause-answer : goal.returns-in-Err-clause-answer
returns-in-Err-clause-answer g c =
    let name = c.args.name.now in
    let told : Option Files = g.S.Store.files c.args.store.now in
    file_halts Whole told set_limit name (stated_in name) (behind_file name) set_view c.in-Err.halt c.in-Err.ensures.set

pub returns-in-Err-read_sources-clause-answer : goal.returns-in-Err-read_sources-clause-answer
returns-in-Err-read_sources-clause-answer g c =
    let name = c.args.name.now in
    let told : Option Files = g.S.Store.files c.args.store.now in
    let later : Option Files = g.S.Store.files c.read_stated.new.store in
    let s = set_view c.in-Ok.file in
    let halt = c.in-Err-read_sources.halt in
    file_goes Whole told set_limit name (stated_in name) (behind_file name) later s (Err halt) c.in-Ok.ensures.same c.in-Ok.ensures.set
    (pass_halts later (reading_sources Whole s) (behind_set name s) set_of halt c.in-Err-read_sources.ensures.set)

pub returns-clause-answer : goal.returns-clause-answer
returns-clause-answer g c =
    let name = c.args.name.now in
    let told : Option Files = g.S.Store.files c.args.store.now in
    let later : Option Files = g.S.Store.files c.read_stated.new.store in
    let s = set_view c.in-Ok.file in
    let set = set_of c.in-Ok-read_sources.set in
    let result = c.judged.result in
    let names = c.deref.ensures.value ∙ c.in_ok-sources.ensures ∙ ap (map (λ (t : TaskEntry). t.source)) c.items.ensures in
    let answer = subst (λ (names : List Text). Comes reply_of (λ given. given ≡ Ok (lint_reply name names set)) result) names c.judged.ensures.answer in
    file_goes Whole told set_limit name (stated_in name) (behind_file name) later s result c.in-Ok.ensures.same c.in-Ok.ensures.set
    (pass_goes later (reading_sources Whole s) (behind_set name s) later set result refl c.in-Ok-read_sources.ensures.set
    (given_at_once later (lint_reply name (source_names s) set) result answer))
