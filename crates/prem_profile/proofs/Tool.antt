-- Each answer may be given, and is the one to a set, and where a run is asked for to a run file, that are there and in form.
use Rattle.std.proofs.Common.{◌≡◌, ℕ, List, Option, None, Some, Ok, refl, ap, sym, ◌∙◌}
use Rattle.prem_layout.specs.Rules.{Refusal}
use Rattle.prem_io.specs.Files.{Files}
use Rattle.prem_tasks.specs.Broken.{TaskSet, broken}
use Rattle.prem_tasks.specs.Told.{Told}
use Rattle.prem_profile.specs.declared.callgrind.Source.{Source}
use Rattle.prem_set.specs.SetFile.{set_of as set_of_text}
use Rattle.prem_answer.specs.declared.answer.Telling.TheVariants.{Whole}
use Rattle.prem_answer.specs.Stages.{AreReads, IsFine, Reads, Reply}
use Rattle.prem_answer.specs.Tool.{IsSettled, IsTool}
use Rattle.prem_answer.proofs.Reading.{reading_fine_by}
use Rattle.prem_exec.specs.Sources.Sources.{set_in_by, set_limit, set_of_bytes_by}
use Rattle.prem_exec.proofs.SourcesLemmas.Fine.{run_fine, sets_fine, sources_fine}
use Rattle.prem_exec.proofs.SourcesLemmas.There.{made_set_read, run_read}
use Rattle.prem_running.specs.Tellings.{judged_reply}
use Rattle.prem_running.proofs.Tellings.{judged_fine}
use Rattle.prem_profile.specs.Words.{ProfileAsked, RunAsked, of_bound, of_run}
use Rattle.prem_profile.specs.Answer.{BoundSucceeds, RunSucceeds, Succeeds, behind_file, behind_run, behind_set, bound_of_file, bound_of_set, bound_stages, judged_bound, profile_stages, profile_tells, profile_tool, run_stages, sources_of}

run_settled : (asked : RunAsked) (reads : Reads) → IsFine IsSettled (run_stages asked reads)
run_settled asked reads =
    reading_fine_by IsSettled Whole set_limit asked.set (set_of_bytes_by Whole asked.set) (behind_file asked) (λ bytes. sets_fine Whole asked.set (set_of_text bytes))
    (λ s rest. sources_fine IsSettled Whole s (behind_set (sources_of s.tasks) asked)
    (λ set more. run_fine IsSettled set asked.run (behind_run (sources_of s.tasks) asked set)
    (λ input last. judged_fine (profile_tells (sources_of s.tasks) asked) set input refl (broken set)) more) rest)
    reads

run_complete : (files : Files) (asked : RunAsked) (reply : Reply) (reads : Reads) → AreReads (Some files) reads → RunSucceeds files asked reply → run_stages asked reads ≡ Ok reply
run_complete files asked reply reads are does =
    let there = does.there in
    let sources = sources_of there.stated.tasks in
    let tells = profile_tells sources asked in
    let first = made_set_read Whole files asked.set does.set (set_of_bytes_by Whole asked.set) (λ s. behind_set (sources_of s.tasks) asked)
    reads there are (ap (set_in_by Whole asked.set) there.formed) in
    first.is ∙ run_read Whole files does.set asked.run does.input (behind_run sources asked does.set) first.reads first.are does.run_there
    ∙ ap (λ rule. Ok (judged_reply tells does.set does.input rule)) does.unbroken
    ∙ ap Ok (sym does.reply_is)

bound_fine : (sources : List Source) (set : TaskSet) (first : Option (Refusal Told)) → IsSettled (judged_bound sources set first)
bound_fine sources set None = refl
bound_fine sources set (Some refusal) = refl

bound_settled : (set : List ℕ) (reads : Reads) → IsFine IsSettled (bound_stages set reads)
bound_settled set reads =
    reading_fine_by IsSettled Whole set_limit set (set_of_bytes_by Whole set) bound_of_file (λ bytes. sets_fine Whole set (set_of_text bytes))
    (λ s rest. sources_fine IsSettled Whole s (bound_of_set (sources_of s.tasks)) (λ own more. bound_fine (sources_of s.tasks) own (broken own)) rest)
    reads

bound_complete : (files : Files) (asked : List ℕ) (reply : Reply) (reads : Reads) → AreReads (Some files) reads → BoundSucceeds files asked reply → bound_stages asked reads ≡ Ok reply
bound_complete files asked reply reads are does =
    let there = does.there in
    let sources = sources_of there.stated.tasks in
    let first = made_set_read Whole files asked does.set (set_of_bytes_by Whole asked) (λ s. bound_of_set (sources_of s.tasks)) reads there are (ap (set_in_by Whole asked) there.formed) in
    first.is ∙ ap (λ rule. Ok (judged_bound sources does.set rule)) does.unbroken ∙ ap Ok (sym does.reply_is)

profile_fine : (asked : ProfileAsked) (reads : Reads) → IsFine IsSettled (profile_stages asked reads)
profile_fine (of_run asked) reads = run_settled asked reads
profile_fine (of_bound set) reads = bound_settled set reads

profile_there : (files : Files) (asked : ProfileAsked) (reply : Reply) (reads : Reads) → AreReads (Some files) reads → Succeeds files asked reply → profile_stages asked reads ≡ Ok reply
profile_there files (of_run asked) reply reads are does = run_complete files asked reply reads are does
profile_there files (of_bound set) reply reads are does = bound_complete files set reply reads are does

pub is_tool : IsTool profile_tool
is_tool = record { settled = profile_fine; kept = λ words asked is reads. tt; complete = profile_there }
