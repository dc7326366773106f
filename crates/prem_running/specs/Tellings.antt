-- What is told of a set with its run file: what is told of the compiled set, or the first rule that it breaks.
use Rattle.std.specs.Prelude.{◌≡◌, ⊤, ℕ, List, Option, None, Some, Ok}
use Rattle.prem_io.specs.Files.{Files}
use Rattle.prem_layout.specs.Rules.{Refusal}
use Rattle.prem_tasks.specs.Told.{Told}
use Rattle.prem_tasks.specs.Broken.{TaskSet, broken}
use Rattle.prem_tasks.specs.Compiled.{CompiledText, compiled}
use Rattle.prem_command.specs.Chart.{ChartAsked, chart_of}
use Rattle.prem_answer.specs.Stages.{Reply, Stage}
use Rattle.prem_answer.specs.Tool.{ToolMeaning}
use Rattle.prem_answer.specs.Refusal.Texts.{refused_reply}
use Rattle.prem_exec.specs.Forms.{RunText}
use Rattle.prem_exec.specs.Sources.Sources.{reading_set, reading_run}
use Rattle.prem_exec.specs.Sources.There.{RunIsThere, SetIsThere}

-- what is told of a set that breaks no rule, of what its run is given, and of what the set is compiled to
abbrev pub Tells : Type 0
Tells = TaskSet → RunText → CompiledText → Reply

-- of a set whose first broken rule is this, if it breaks one
abbrev pub judged_reply : Tells → TaskSet → RunText → Option (Refusal Told) → Reply
judged_reply tells set input None = tells set input (compiled set)
judged_reply tells set input (Some refusal) = refused_reply set.tasks refusal

abbrev pub set_reply : Tells → TaskSet → RunText → Reply
set_reply tells set input = judged_reply tells set input (broken set)

-- the set and its sources are read, then the run file; the set is judged by all rules, compiled and told
abbrev pub told_stages : Tells → List ℕ → List ℕ → Stage Reply
told_stages tells name run = reading_set name (λ set. reading_run set run (λ input reads. Ok (set_reply tells set input)))

-- ---- programs that tell something of a set with its run file, by words that name both

-- the set and its run file are there and in form, and the set breaks no rule
pub record IsToldOf (tells : Tells) (files : Files) (name run : List ℕ) (reply : Reply) : Type 0 where
  pub set : TaskSet
  pub input : RunText
  pub there : SetIsThere files name set
  pub run_there : RunIsThere files set run input
  pub unbroken : broken set ≡ None
  pub reply_is : reply ≡ tells set input (compiled set)

abbrev pub telling_tool : (usage : List ℕ) → (ChartAsked → Tells) → ToolMeaning
telling_tool usage tells = record {
  Asked = ChartAsked;
  asked_of = chart_of;
  usage = usage;
  stages = λ asked. told_stages (tells asked) asked.set asked.run;
  keeps = λ asked reads given. ⊤;
  succeeds = λ files asked reply. IsToldOf (tells asked) files asked.set asked.run reply;
}
