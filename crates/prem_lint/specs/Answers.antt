-- The answer to a set: nothing where it breaks no rule, else its first broken rule.
use Rattle.std.specs.Prelude.{◌≡◌, ⊤, ℕ, List, [], ◌++◌, map, Option, None, Some, Ok, slice_get, codes}
use Rattle.std.specs.Option.{option_map_or}
use Rattle.prem_io.specs.Files.{Files}
use Rattle.prem_syntax.specs.Syntax.{Text}
use Rattle.prem_layout.specs.Rules.{Refusal}
use Rattle.prem_tasks.specs.Told.{Told}
use Rattle.prem_tasks.specs.Broken.{TaskText, TaskSet, broken}
use Rattle.prem_set.specs.SetFile.{SetData}
use Rattle.prem_set.specs.declared.task.TaskEntry.{TaskEntry}
use Rattle.prem_command.specs.Words.{name_of}
use Rattle.prem_answer.specs.declared.answer.Telling.TheVariants.{Whole}
use Rattle.prem_answer.specs.declared.status.Status.TheVariants.{Done, Refused}
use Rattle.prem_answer.specs.Stages.{Reply, Stage, reading}
use Rattle.prem_answer.specs.Tool.{ToolMeaning}
use Rattle.prem_exec.specs.Sources.Sources.{reading_sources}
use Rattle.prem_exec.specs.Sources.There.{SetIsThere}
use Rattle.prem_lint.specs.Places.{spot_of}
use Rattle.prem_lint.specs.Diagnostics.{Diagnostic, diagnostic_text}
use Rattle.prem_lint.specs.Needs.{needs_text, source_name}
use Rattle.prem_lint.specs.Forms.{set_limit, stated_in}

-- ---- the first broken rule

-- the file in which it is told: the source of the task that breaks it, or the set file where the set as a whole does
abbrev pub file_of : Text → List Text → Option ℕ → Text
file_of name sources None = name
file_of name sources (Some n) = source_name sources n

abbrev pub source_of : List TaskText → Option ℕ → List ℕ
source_of tasks None = []
source_of tasks (Some n) = option_map_or (λ (t : TaskText). t.text) (slice_get tasks n) []

abbrev pub diagnosis : Text → List Text → TaskSet → Refusal Told → Diagnostic
diagnosis name sources set r = record {
  file = file_of name sources r.task;
  source = source_of set.tasks r.task;
  spot = spot_of r.rule (source_of set.tasks r.task);
  rule = r.rule;
}

unfoldable pub refusal_text : Text → List Text → TaskSet → Refusal Told → List ℕ
refusal_text name sources set r = diagnostic_text (diagnosis name sources set r) ++ needs_text sources set r.rule

-- to a set whose first broken rule is this, if it breaks one
abbrev pub judged_reply : Text → List Text → TaskSet → Option (Refusal Told) → Reply
judged_reply name sources set None = (Done, [])
judged_reply name sources set (Some refusal) = (Refused, refusal_text name sources set refusal)

abbrev pub lint_reply : Text → List Text → TaskSet → Reply
lint_reply name sources set = judged_reply name sources set (broken set)

-- ---- a set file and its sources

abbrev pub source_names : SetData → List Text
source_names s = map (λ (t : TaskEntry). t.source) s.tasks

abbrev pub behind_set : Text → SetData → TaskSet → Stage Reply
behind_set name s set reads = Ok (lint_reply name (source_names s) set)

abbrev pub behind_file : Text → SetData → Stage Reply
behind_file name s = reading_sources Whole s (behind_set name s)

-- the set and its sources are read, and the set is judged by all rules
abbrev pub lint_stages : Text → Stage Reply
lint_stages name = reading set_limit name (stated_in name) (behind_file name)

-- ---- the program

-- the set is there and in form, and breaks no rule
pub record Succeeds (files : Files) (name : Text) (reply : Reply) : Type 0 where
  pub set : TaskSet
  pub there : SetIsThere files name set
  pub unbroken : broken set ≡ None
  pub reply_is : reply ≡ (Done, [])

abbrev pub lint_tool : ToolMeaning
lint_tool = record {
  Asked = Text;
  asked_of = name_of;
  usage = codes "usage: prem_lint SET\n";
  stages = lint_stages;
  keeps = λ name reads given. ⊤;
  succeeds = Succeeds;
}
