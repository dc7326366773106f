-- What the program is, and what a call of it leaves.
use Rattle.std.specs.Prelude.{◌≡◌, ℕ, List, Option, None, codes}
use Rattle.prem_io.specs.Files.{Files}
use Rattle.prem_tasks.specs.Broken.{TaskSet, broken}
use Rattle.prem_answer.specs.declared.status.PlainStatus.{PlainStatus}
use Rattle.prem_answer.specs.declared.status.Status.TheVariants.{Done}
use Rattle.prem_answer.specs.Stages.{Reply}
use Rattle.prem_answer.specs.Tool.{IsPlainlyComplete, PlainlyAnswered, ToolMeaning}
use Rattle.prem_exec.specs.Sources.There.{SetIsThere}
use Rattle.prem_time.specs.Words.{Asked, asked_of}
use Rattle.prem_time.specs.Devices.{unknown_in}
use Rattle.prem_time.specs.Stages.{set_text, time_stages}
use Rattle.prem_time.specs.Headline.{Keeps}

-- the times of the set that is asked for are told over these files with this answer: its files are there and in form, it breaks no rule, and it has each
-- device that is named
pub record Succeeds (files : Files) (asked : Asked) (reply : Reply) : Type 0 where
  pub set : TaskSet
  pub there : SetIsThere files asked.set set
  pub unbroken : broken set ≡ None
  pub known : unknown_in asked.distances set.devices ≡ None
  pub reply_is : reply ≡ (Done, set_text asked.distances set)

abbrev pub time_tool : ToolMeaning
time_tool = record {
  Asked = Asked;
  asked_of = asked_of;
  usage = codes "usage: prem_time SET [DEVICE=CYCLES ..]\n";
  stages = time_stages;
  keeps = λ asked reads given. Keeps reads asked given;
  succeeds = Succeeds;
}

-- its status and what it wrote are those of the answer, a prefix of it behind a fault of the sink, or nothing; and the answer keeps what it
-- promises, over what is read
abbrev pub Answered : List (List ℕ) → Option Files → Option (List ℕ) → Option (List ℕ) → PlainStatus → Type 0
Answered words told old new result = PlainlyAnswered time_tool words told old new result

-- with words that name a set whose times are told over the files that a store tells, the whole answer is written, or nothing for want of memory
abbrev pub IsComplete : List (List ℕ) → Option Files → Option (List ℕ) → Option (List ℕ) → PlainStatus → Type 0
IsComplete words told old new result = IsPlainlyComplete time_tool words told old new result
