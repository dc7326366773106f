-- The answer to `SET RUN [--cycles N]`: the profile of the run of a compiled set, or the first rule that the set breaks; and to `--bound SET`, that of its bound.
use Rattle.std.specs.Prelude.{◌≡◌, ⊤, ℕ, ◌+◌, ◌/◌, List, length, map, Option, None, Some, Ok, codes}
use Rattle.prem_io.specs.Files.{Files}
use Rattle.prem_lru.specs.Rules.{rule_of}
use Rattle.prem_image.specs.Text.{ImageText}
use Rattle.prem_cycle.specs.Inputs.{image_setup}
use Rattle.prem_tasks.specs.Broken.{TaskSet, broken}
use Rattle.prem_tasks.specs.Compiled.{compiled, placed_in}
use Rattle.prem_tasks.specs.Told.{Told}
use Rattle.prem_layout.specs.Rules.{Refusal}
use Rattle.prem_set.specs.declared.task.TaskEntry.{TaskEntry}
use Rattle.prem_set.specs.SetFile.{SetData}
use Rattle.prem_answer.specs.declared.status.Status.TheVariants.{Done}
use Rattle.prem_answer.specs.declared.answer.Telling.TheVariants.{Whole}
use Rattle.prem_answer.specs.Stages.{Reply, Stage, reading_by}
use Rattle.prem_answer.specs.Refusal.Texts.{refused_reply}
use Rattle.prem_answer.specs.Tool.{ToolMeaning}
use Rattle.prem_exec.specs.Forms.{RunText}
use Rattle.prem_exec.specs.Exec.{state_at}
use Rattle.prem_exec.specs.Sources.Sources.{reading_run, reading_sources, set_limit, set_of_bytes_by}
use Rattle.prem_exec.specs.Sources.There.{RunIsThere, SetIsThere}
use Rattle.prem_running.specs.Tellings.{Tells, set_reply}
use Rattle.prem_running.specs.Running.{run_limit}
use Rattle.prem_profile.specs.declared.cost.Cost.{Cost}
use Rattle.prem_profile.specs.declared.callgrind.Source.{Source}
use Rattle.prem_profile.specs.declared.home.Home.TheVariants.{Rest}
use Rattle.prem_profile.specs.Spent.{spent_in_all}
use Rattle.prem_profile.specs.Account.{each_row, row_cost}
use Rattle.prem_profile.specs.Strips.{Strip, first_row, rows_of, strip_words}
use Rattle.prem_profile.specs.Calls.{call_cost, functions_of, run_calls}
use Rattle.prem_profile.specs.Sets.{set_lines, strips_of}
use Rattle.prem_profile.specs.Totals.{IsTotal}
use Rattle.prem_profile.specs.Grammar.{Entry, IsProfile}
use Rattle.prem_profile.specs.Callgrind.{calls_at, profile_text}
use Rattle.prem_profile.specs.Entries.{entries_sum}
use Rattle.prem_profile.specs.Bound.Profile.{bound_profile}
use Rattle.prem_profile.specs.Words.{ProfileAsked, RunAsked, asked_of, of_bound, of_run}

-- ---- the profile

-- of the run of an image up to a limit, whose words of code are these strips
abbrev pub image_profile : List Source → List Strip → ImageText → RunText → (limit : ℕ) → List ℕ
image_profile sources strips i input limit =
    let tasks = length sources in
    let words = rows_of tasks (length i.content / 4) strips in
    let rows = first_row tasks + strip_words strips in
    let functions = functions_of tasks strips in
    profile_text sources strips (spent_in_all (rule_of i.plant.policy) (image_setup i) input.requests Rest limit (state_at i input 0))
    (each_row (row_cost tasks words (rule_of i.plant.policy) (image_setup i) input.requests limit (state_at i input 0)) 0 rows)
    (calls_at strips (run_calls functions tasks words (length strips) rows (rule_of i.plant.policy) (image_setup i) input.requests limit (state_at i input 0)).callees
    (each_row (call_cost functions tasks words (length strips) rows (rule_of i.plant.policy) (image_setup i) input.requests limit (state_at i input 0)) 0 rows))

-- ---- the answer

-- the tasks of a set's file, as a profile tells them
abbrev pub sources_of : List TaskEntry → List Source
sources_of tasks = map (λ (t : TaskEntry). record { name = t.name; file = t.source }) tasks

-- to a compiled set: its run up to the cycle that the words tell, else to the limit of the set
abbrev pub profile_tells : List Source → RunAsked → Tells
profile_tells sources asked set input c = (Done, image_profile sources (strips_of (set_lines set) c) c.image input (run_limit asked.cycles c.limit))

-- the set's file and its sources are read, then the run file
abbrev pub behind_run : List Source → RunAsked → TaskSet → RunText → Stage Reply
behind_run sources asked set input reads = Ok (set_reply (profile_tells sources asked) set input)

abbrev pub behind_set : List Source → RunAsked → TaskSet → Stage Reply
behind_set sources asked set = reading_run set asked.run (behind_run sources asked set)

abbrev pub behind_file : RunAsked → SetData → Stage Reply
behind_file asked s = reading_sources Whole s (behind_set (sources_of s.tasks) asked)

abbrev pub run_stages : RunAsked → Stage Reply
run_stages asked = reading_by Whole set_limit asked.set (set_of_bytes_by Whole asked.set) (behind_file asked)

-- ---- the bound

-- of a set that breaks no rule
abbrev pub bound_text : List Source → TaskSet → List ℕ
bound_text sources set =
    bound_profile sources (strips_of (set_lines set) (compiled set)) (length (compiled set).image.content / 4) set.plant (placed_in set)

-- to a set whose first broken rule is this, if it breaks one
abbrev pub judged_bound : List Source → TaskSet → Option (Refusal Told) → Reply
judged_bound sources set None = (Done, bound_text sources set)
judged_bound sources set (Some refusal) = refused_reply set.tasks refusal

abbrev pub bound_reply : List Source → TaskSet → Reply
bound_reply sources set = judged_bound sources set (broken set)

-- the set's file and its sources are read, and the set is judged
abbrev pub bound_of_set : List Source → TaskSet → Stage Reply
bound_of_set sources set reads = Ok (bound_reply sources set)

abbrev pub bound_of_file : SetData → Stage Reply
bound_of_file s = reading_sources Whole s (bound_of_set (sources_of s.tasks))

abbrev pub bound_stages : (set : List ℕ) → Stage Reply
bound_stages set = reading_by Whole set_limit set (set_of_bytes_by Whole set) bound_of_file

abbrev pub profile_stages : ProfileAsked → Stage Reply
profile_stages (of_run asked) = run_stages asked
profile_stages (of_bound set) = bound_stages set

-- ---- the program

-- the set and its run file are there and in form, and the set breaks no rule
pub record RunSucceeds (files : Files) (asked : RunAsked) (reply : Reply) : Type 0 where
  pub set : TaskSet
  pub input : RunText
  pub there : SetIsThere files asked.set set
  pub run_there : RunIsThere files set asked.run input
  pub unbroken : broken set ≡ None
  pub reply_is : reply ≡ profile_tells (sources_of there.stated.tasks) asked set input (compiled set)

-- the set is there and in form, and breaks no rule
pub record BoundSucceeds (files : Files) (asked : List ℕ) (reply : Reply) : Type 0 where
  pub set : TaskSet
  pub there : SetIsThere files asked set
  pub unbroken : broken set ≡ None
  pub reply_is : reply ≡ (Done, bound_text (sources_of there.stated.tasks) set)

abbrev pub Succeeds : Files → ProfileAsked → Reply → Type 0
Succeeds files (of_run asked) reply = RunSucceeds files asked reply
Succeeds files (of_bound set) reply = BoundSucceeds files set reply

abbrev pub profile_tool : ToolMeaning
profile_tool = record {
  Asked = ProfileAsked;
  asked_of = asked_of;
  usage = codes "usage: prem_profile SET RUN [--cycles N] | prem_profile --bound SET\n";
  stages = profile_stages;
  keeps = λ asked reads given. ⊤;
  succeeds = Succeeds;
}

-- ---- what holds of all profiles

-- a text is a profile by the grammar, whose lines add up to what is spent in so many cycles of a run, which is what the run's report tells
pub record IsSummed (text : List ℕ) (i : ImageText) (input : RunText) (limit : ℕ) : Type 0 where
  pub entries : List Entry
  pub total : Cost
  pub read : IsProfile text entries total
  pub sum : entries_sum entries ≡ total
  pub reported : IsTotal (rule_of i.plant.policy) (image_setup i) i.content input.words input.requests limit total

abbrev pub ProfilesAddUp : Type 0
ProfilesAddUp =
    (sources : List Source) (strips : List Strip) (i : ImageText) (input : RunText) (limit : ℕ) →
    IsSummed (image_profile sources strips i input limit) i input limit
