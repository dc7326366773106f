-- Each answer may be given and keeps the headline, and the run of two sets is told where their files are there and in form, and no rule is broken.
use Rattle.std.proofs.Common.{◌≡◌, ℕ, suc, List, [], Option, None, Some, Ok, refl, ap, ◌∙◌, sym}
use Rattle.prem_io.specs.Files.{Files}
use Rattle.prem_layout.specs.Rules.{Refusal}
use Rattle.prem_tasks.specs.Told.{Told}
use Rattle.prem_tasks.specs.Broken.{TaskSet, broken}
use Rattle.prem_answer.specs.declared.answer.Telling.TheVariants.{Brief}
use Rattle.prem_answer.specs.Stages.{Reply, Reads, Stage, AreReads, and_then, later_reads, replied}
use Rattle.prem_answer.specs.Tool.{IsTool}
use Rattle.prem_exec.specs.Forms.{RunText}
use Rattle.prem_exec.specs.Sources.Sources.{reading_run_by, set_in_by}
use Rattle.prem_exec.specs.Sources.There.{SetIsThere}
use Rattle.prem_exec.proofs.SourcesLemmas.There.{Comes, made_set_read, run_read, set_read}
use Rattle.prem_pair_top.specs.Words.{PairAsked}
use Rattle.prem_pair_top.specs.Stages.{judged_reply, other_of_bytes, pair_stages, reading_other, sets_reply, without, without_devices}
use Rattle.prem_pair_top.specs.Answer.{AreThere, Succeeds, pair_tool}
use Rattle.prem_pair_top.proofs.Headline.{pairs_keep}
use Rattle.prem_pair_top.proofs.Stages.{pair_is_fine}

-- ---- files

second_read : (files : Files) (name : List ℕ) (set : TaskSet) (next : TaskSet → Stage Reply) (reads : Reads) →
    AreReads (Some files) reads → SetIsThere files name set → set.devices ≡ [] → Comes files (reading_other name next reads) next set
second_read files name set next reads are there none =
    let s = there.stated in
    let free : s.devices ≡ [] = sym (ap (λ (t : TaskSet). t.devices) there.set_is) ∙ none in
    made_set_read Brief files name set (other_of_bytes name) (λ s. next) reads there are
    (ap (λ r. and_then (set_in_by Brief name r) (without_devices name)) there.formed ∙ ap (without name s) free)

-- ---- the stages

module _ (files : Files) (asked : PairAsked) (one two : TaskSet) (input other : RunText) where
  abbrev behind_input : RunText → Stage Reply
  behind_input input = reading_run_by Brief two asked.other_run (λ other reads. Ok (sets_reply asked one two input other))

  abbrev behind_two : TaskSet → TaskSet → Stage Reply
  behind_two one two = reading_run_by Brief one asked.run (λ input. reading_run_by Brief two asked.other_run (λ other reads. Ok (sets_reply asked one two input other)))

  stages_told : (reads : Reads) → AreReads (Some files) reads → AreThere files asked one two input other → pair_stages asked reads ≡ Ok (sets_reply asked one two input other)
  stages_told reads are there =
      let a = set_read Brief files asked.set one (λ one. reading_other asked.other_set (behind_two one)) reads are there.first in
      let b = second_read files asked.other_set two (behind_two one) a.reads a.are there.second there.none in
      a.is ∙ b.is
      ∙ run_read Brief files one asked.run input behind_input b.reads b.are there.first_run
      ∙ run_read Brief files two asked.other_run other (λ other reads. Ok (sets_reply asked one two input other)) (later_reads b.reads) (λ n q. b.are (suc n) q) there.second_run

run_told : (files : Files) (asked : PairAsked) (reply : Reply) (reads : Reads) → AreReads (Some files) reads → Succeeds files asked reply → pair_stages asked reads ≡ Ok reply
run_told files asked reply reads are does =
    let judged : Option (Refusal Told) → Option (Refusal Told) → Reply = judged_reply asked does.one does.two does.input does.other in
    stages_told files asked does.one does.two does.input does.other reads are does.there
    ∙ ap (λ r. Ok (judged r (broken does.two))) does.first_unbroken
    ∙ ap (λ r. Ok (judged None r)) does.second_unbroken
    ∙ ap Ok (sym does.reply_is)

-- ---- the program

pub is_tool : IsTool pair_tool
is_tool = record { settled = pair_is_fine; kept = λ words asked is reads. pairs_keep asked reads (replied (pair_stages asked reads)) refl; complete = run_told }
