-- What the program is, and what a call of it leaves.
use Rattle.std.specs.Prelude.{◌≡◌, ℕ, List, Option, None, codes}
use Rattle.prem_io.specs.Files.{Files}
use Rattle.prem_tasks.specs.Broken.{TaskSet, broken}
use Rattle.prem_answer.specs.declared.status.PlainStatus.{PlainStatus}
use Rattle.prem_answer.specs.declared.status.Status.TheVariants.{Done}
use Rattle.prem_answer.specs.Stages.{Reply}
use Rattle.prem_answer.specs.Tool.{IsPlainlyComplete, PlainlyAnswered, ToolMeaning}
use Rattle.prem_exec.specs.Sources.There.{SetIsThere}
use Rattle.prem_resp.specs.Stages.{asked_of, fit_stages, set_text}
use Rattle.prem_resp.specs.Headline.{Keeps}

-- the test of the set of this name succeeds over these files with this answer: its files are there and in form, and it breaks no rule
pub record Succeeds (files : Files) (name : List ℕ) (reply : Reply) : Type 0 where
  pub set : TaskSet
  pub there : SetIsThere files name set
  pub unbroken : broken set ≡ None
  pub reply_is : reply ≡ (Done, set_text set)

abbrev pub fit_tool : ToolMeaning
fit_tool = record {
  Asked = List ℕ;
  asked_of = asked_of;
  usage = codes "usage: prem_resp SET\n";
  stages = fit_stages;
  keeps = λ name reads given. Keeps reads name given;
  succeeds = Succeeds;
}

-- its status and what it wrote are those of the answer, a prefix of it behind a fault of the sink, or nothing; and the answer keeps what it
-- promises, over what is read
abbrev pub Answered : List (List ℕ) → Option Files → Option (List ℕ) → Option (List ℕ) → PlainStatus → Type 0
Answered words told old new result = PlainlyAnswered fit_tool words told old new result

-- with words that name a set whose test succeeds over the files that a store tells, the whole answer is written, or nothing for want of memory
abbrev pub IsComplete : List (List ℕ) → Option Files → Option (List ℕ) → Option (List ℕ) → PlainStatus → Type 0
IsComplete words told old new result = IsPlainlyComplete fit_tool words told old new result
