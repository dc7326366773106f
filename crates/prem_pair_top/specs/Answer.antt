-- What the program is, and what a call of it leaves.
use Rattle.std.specs.Prelude.{◌≡◌, ℕ, List, [], Option, None, codes}
use Rattle.prem_io.specs.Files.{Files}
use Rattle.prem_tasks.specs.Broken.{TaskSet, broken}
use Rattle.prem_tasks.specs.Compiled.{compiled}
use Rattle.prem_answer.specs.declared.status.PlainStatus.{PlainStatus}
use Rattle.prem_answer.specs.declared.status.Status.TheVariants.{Done}
use Rattle.prem_answer.specs.Stages.{Reply}
use Rattle.prem_answer.specs.Tool.{IsPlainlyComplete, PlainlyAnswered, ToolMeaning}
use Rattle.prem_exec.specs.Forms.{RunText}
use Rattle.prem_exec.specs.Sources.There.{SetIsThere, RunIsThere}
use Rattle.prem_pair_top.specs.Words.{PairAsked, asked_of}
use Rattle.prem_pair_top.specs.Stages.{compiled_text, pair_stages}
use Rattle.prem_pair_top.specs.Headline.{Keeps}

-- the files of both sets and both run files are there and in form, and the second set has no device
pub record AreThere (files : Files) (asked : PairAsked) (one two : TaskSet) (input other : RunText) : Type 0 where
  pub first : SetIsThere files asked.set one
  pub second : SetIsThere files asked.other_set two
  pub none : two.devices ≡ []
  pub first_run : RunIsThere files one asked.run input
  pub second_run : RunIsThere files two asked.other_run other

-- what is asked for succeeds over these files with this answer
pub record Succeeds (files : Files) (asked : PairAsked) (reply : Reply) : Type 0 where
  pub one : TaskSet
  pub two : TaskSet
  pub input : RunText
  pub other : RunText
  pub there : AreThere files asked one two input other
  pub first_unbroken : broken one ≡ None
  pub second_unbroken : broken two ≡ None
  pub reply_is : reply ≡ (Done, compiled_text asked input other (compiled one) (compiled two))

abbrev pub pair_tool : ToolMeaning
pair_tool = record {
  Asked = PairAsked;
  asked_of = asked_of;
  usage = codes "usage: prem_pair SET SET2 RUN RUN2 [--cycles N] [--intervals]\n";
  stages = pair_stages;
  keeps = λ asked reads given. Keeps reads asked given;
  succeeds = Succeeds;
}

-- its status and what it wrote are those of the answer, a prefix of it behind a fault of the sink, or nothing; and the answer keeps the
-- headline, over what is read
abbrev pub Answered : List (List ℕ) → Option Files → Option (List ℕ) → Option (List ℕ) → PlainStatus → Type 0
Answered words told old new result = PlainlyAnswered pair_tool words told old new result

-- with words that ask for a run that succeeds over the files that a store tells, the whole answer is written, or nothing for want of memory
abbrev pub IsComplete : List (List ℕ) → Option Files → Option (List ℕ) → Option (List ℕ) → PlainStatus → Type 0
IsComplete words told old new result = IsPlainlyComplete pair_tool words told old new result
