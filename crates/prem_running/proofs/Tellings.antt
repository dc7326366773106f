-- What is told of a set with its run file is the answer.
use Rattle.std.proofs.Common.{◌≡◌, ℕ, List, Option, None, Some, Ok, refl, ap, ◌∙◌, sym}
use Rattle.prem_io.specs.Files.{Files}
use Rattle.prem_layout.specs.Rules.{Refusal}
use Rattle.prem_tasks.specs.Told.{Told}
use Rattle.prem_tasks.specs.Broken.{TaskSet, broken}
use Rattle.prem_tasks.specs.Compiled.{CompiledText, compiled}
use Rattle.prem_compile.specs.declared.compiled.Compiled.{Compiled}
use Rattle.prem_compile.specs.CompiledOf.{IsCompiled, compiled_of}
use Rattle.prem_command.specs.Chart.{ChartAsked}
use Rattle.prem_answer.specs.declared.answer.Telling.TheVariants.{Whole}
use Rattle.prem_answer.specs.Stages.{Reply, Reads, Stage, AreReads, IsFine}
use Rattle.prem_answer.specs.Tool.{IsSettled, IsTool}
use Rattle.prem_exec.specs.Forms.{RunText}
use Rattle.prem_exec.specs.Sources.Sources.{reading_run}
use Rattle.prem_exec.specs.Sources.There.{RunIsThere, SetIsThere}
use Rattle.prem_exec.proofs.SourcesLemmas.Fine.{run_fine, set_fine}
use Rattle.prem_exec.proofs.SourcesLemmas.There.{run_read, set_read}
use Rattle.prem_running.specs.Tellings.{Tells, judged_reply, set_reply, telling_tool, told_stages}

module _ (tells : Tells) where
  -- a set that breaks no rule
  pub told_is : (set : TaskSet) (input : RunText) (c : Compiled) (reply : Reply) → IsCompiled set c → reply ≡ tells set input (compiled_of c) → reply ≡ set_reply tells set input
  told_is set input c reply is told = told ∙ ap (tells set input) is.compiled ∙ ap (judged_reply tells set input) (sym is.lawful)

  -- ---- the stages

  abbrev pub behind_run : TaskSet → RunText → Stage Reply
  behind_run set input reads = Ok (set_reply tells set input)

  abbrev pub behind_set : List ℕ → TaskSet → Stage Reply
  behind_set run set = reading_run set run (behind_run set)

  -- ---- answers that may be given

  pub judged_fine : (set : TaskSet) (input : RunText) → IsSettled (tells set input (compiled set)) → (first : Option (Refusal Told)) → IsSettled (judged_reply tells set input first)
  judged_fine set input fine None = fine
  judged_fine set input fine (Some refusal) = refl

  pub told_fine : (name run : List ℕ) → ((set : TaskSet) (input : RunText) (c : CompiledText) → IsSettled (tells set input c)) → (reads : Reads) → IsFine IsSettled (told_stages tells name run reads)
  told_fine name run fine reads =
      set_fine IsSettled name (behind_set run)
      (λ set rest. run_fine IsSettled set run (behind_run set) (λ input more. judged_fine set input (fine set input (compiled set)) (broken set)) rest) reads

  -- ---- a set and a run file that are there and in form

  pub told_there : (files : Files) (name run : List ℕ) (set : TaskSet) (input : RunText) (reads : Reads) → AreReads (Some files) reads → SetIsThere files name set →
      RunIsThere files set run input → broken set ≡ None → told_stages tells name run reads ≡ Ok (tells set input (compiled set))
  told_there files name run set input reads are there input_there none =
      let first = set_read Whole files name set (behind_set run) reads are there in
      first.is ∙ run_read Whole files set run input (behind_run set) first.reads first.are input_there ∙ ap (λ rule. Ok (judged_reply tells set input rule)) none

-- ---- programs

-- each answer may be given, and what is told is told of a set and a run file that are there and in form
pub is_telling_tool : (usage : List ℕ) (tells : ChartAsked → Tells) → ((asked : ChartAsked) (set : TaskSet) (input : RunText) (c : CompiledText) → IsSettled (tells asked set input c)) →
    IsTool (telling_tool usage tells)
is_telling_tool usage tells fine = record {
  settled = λ asked reads. told_fine (tells asked) asked.set asked.run (fine asked) reads;
  kept = λ words asked is reads. tt;
  complete = λ files asked reply reads are does.
      told_there (tells asked) files asked.set asked.run does.set does.input reads are does.there does.run_there does.unbroken ∙ ap Ok (sym does.reply_is);
}
