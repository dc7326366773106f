use Rattle.std.specs.Prelude.{List, Option, Ok, Err}
use Rattle.std.proofs.Common.{◌≡◌, ◌∙◌, ap, subst}
use Rattle.prem_io.specs.Files.{Files}
use Rattle.prem_tasks.specs.SetOf.{set_of}
use Rattle.prem_set.specs.Views.{set_view}
use Rattle.prem_answer.specs.declared.answer.Telling.TheVariants.{Whole}
use Rattle.prem_answer.specs.Stages.{Comes, reply_of}
use Rattle.prem_answer.proofs.Reading.{given_at_once}
use Rattle.prem_exec.specs.Sources.Sources.{reading_sources, set_limit, set_of_bytes_by}
use Rattle.prem_exec.proofs.Behind.{file_goes, file_halts, pass_goes, pass_halts}
use Rattle.prem_profile.specs.declared.callgrind.Source.{Source}
use Rattle.prem_profile.specs.Answer.{bound_of_file, bound_of_set, bound_reply, sources_of}
use Rattle.prem_profile.proofs.answer.bound_answer.Goals as goal

pub returns-in-Err-clause-answer : goal.returns-in-Err-clause-answer
returns-in-Err-clause-answer g c =
    let asked = c.args.set.now in
    let told : Option Files = g.S.Store.files c.args.store.now in
    file_halts Whole told set_limit asked (set_of_bytes_by Whole asked) bound_of_file set_view c.in-Err.halt c.in-Err.ensures.set

pub returns-in-Err-read_sources-clause-answer : goal.returns-in-Err-read_sources-clause-answer
returns-in-Err-read_sources-clause-answer g c =
    let asked = c.args.set.now in
    let told : Option Files = g.S.Store.files c.args.store.now in
    let later : Option Files = g.S.Store.files c.read_set_file.new.store in
    let s = set_view c.in-Ok.file in
    let halt = c.in-Err-read_sources.halt in
    file_goes Whole told set_limit asked (set_of_bytes_by Whole asked) bound_of_file later s (Err halt) c.in-Ok.ensures.same c.in-Ok.ensures.set
    (pass_halts later (reading_sources Whole s) (bound_of_set (sources_of s.tasks)) set_of halt c.in-Err-read_sources.ensures.set)

pub returns-clause-answer : goal.returns-clause-answer
returns-clause-answer g c =
    let asked = c.args.set.now in
    let told : Option Files = g.S.Store.files c.args.store.now in
    let later : Option Files = g.S.Store.files c.read_set_file.new.store in
    let last : Option Files = g.S.Store.files c.read_sources.new.store in
    let s = set_view c.in-Ok.file in
    let sources = sources_of s.tasks in
    let set = set_of c.in-Ok-read_sources.set in
    let result = c.set_bound.result in
    let named = c.deref.ensures.value ∙ c.in_ok-sources.ensures ∙ ap sources_of c.items.ensures in
    let answer =
    subst (λ (them : List Source). Comes reply_of (λ given. given ≡ Ok (bound_reply them set)) result) named c.set_bound.ensures.answer in
    file_goes Whole told set_limit asked (set_of_bytes_by Whole asked) bound_of_file later s result c.in-Ok.ensures.same c.in-Ok.ensures.set
    (pass_goes later (reading_sources Whole s) (bound_of_set sources) last set result c.in-Ok-read_sources.ensures.same c.in-Ok-read_sources.ensures.set
    (given_at_once last (bound_reply sources set) result answer))
