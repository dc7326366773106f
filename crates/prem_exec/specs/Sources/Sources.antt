-- What commands read of a task set: its file, its sources in its order, and a run file by its names.
use Rattle.std.specs.Prelude.{◌≡◌, ℕ, List, [], ◌∷◌, ◌++◌, map, Option, Result, Ok, Err, codes}
use Rattle.prem_list.specs.Sequence.{items_of}
use Rattle.prem_io.specs.Files.{Files}
use Rattle.prem_gate.specs.declared.request.RunInput.{RunInput}
use Rattle.prem_syntax.specs.Syntax.{Text}
use Rattle.prem_tasks.specs.Broken.{TaskText, TaskSet}
use Rattle.prem_set.specs.Run.Names.{KnownNames, known_of}
use Rattle.prem_set.specs.Run.Run.{run_of as lines_of_run}
use Rattle.prem_set.specs.Run.Views.{lists_of}
use Rattle.prem_set.specs.declared.fault.SetFail.{SetFail}
use Rattle.prem_set.specs.declared.fault.SetFail.TheVariants.{NotToml, Key, Kind, Value, Limit, OutOfMemory}
use Rattle.prem_set.specs.declared.task.TaskEntry.{TaskEntry}
use Rattle.prem_set.specs.SetFile.{SetData, set_of as set_of_text}
use Rattle.prem_answer.specs.declared.answer.Telling.{Telling}
use Rattle.prem_answer.specs.declared.answer.Telling.TheVariants.{Whole}
use Rattle.prem_answer.specs.Stages.{Reply, Reads, Stage, IsGiven, form_by, reading_by}
use Rattle.prem_exec.specs.Forms.{RunText, run_in_by}

-- ---- the set's file

-- the bytes that a set file, a source and a run file have at most
abbrev pub set_limit : ℕ
set_limit = 65536

abbrev pub source_limit : ℕ
source_limit = 1048576

abbrev pub run_limit : ℕ
run_limit = 4194304

-- a fault and a path
abbrev pub at_path : List ℕ → List ℕ → List ℕ
at_path word path = word ++ (codes " " ++ path)

-- why bytes are no set; want of memory is no reason
abbrev pub set_why : SetFail → List ℕ
set_why NotToml = codes "toml"
set_why (Key path) = at_path (codes "key") path
set_why (Kind path) = at_path (codes "kind") path
set_why (Value path) = at_path (codes "value") path
set_why (Limit path) = at_path (codes "limit") path
set_why OutOfMemory = []

abbrev pub set_in_by : Telling → List ℕ → Result SetData SetFail → Result SetData Reply
set_in_by how name (Ok set) = Ok set
set_in_by how name (Err fail) = Err (form_by how name (set_why fail))

abbrev pub set_in : List ℕ → Result SetData SetFail → Result SetData Reply
set_in name read = set_in_by Whole name read

abbrev pub set_of_bytes_by : Telling → List ℕ → List ℕ → Result SetData Reply
set_of_bytes_by how name bytes = set_in_by how name (set_of_text bytes)

abbrev pub set_of_bytes : List ℕ → List ℕ → Result SetData Reply
set_of_bytes name bytes = set_of_bytes_by Whole name bytes

-- ---- its sources

-- a task with the text of its source
abbrev pub task_with : TaskEntry → List ℕ → TaskText
task_with t text = record { name = t.name; text = text; period = t.period; jobs = t.jobs }

abbrev pub task_of_source : TaskEntry → List ℕ → Result TaskText Reply
task_of_source t text = Ok (task_with t text)

-- the sources of tasks, one after another
abbrev pub reading_tasks_by : Telling → List TaskEntry → (List TaskText → Stage Reply) → Stage Reply
reading_tasks_by how [] next = next []
reading_tasks_by how (t ∷ ts) next = reading_by how source_limit t.source (task_of_source t) (λ task. reading_tasks_by how ts (λ tasks. next (task ∷ tasks)))

abbrev pub reading_tasks : List TaskEntry → (List TaskText → Stage Reply) → Stage Reply
reading_tasks ts next = reading_tasks_by Whole ts next

abbrev pub set_with : SetData → List TaskText → TaskSet
set_with s tasks = record { plant = s.plant; devices = s.devices; tasks = tasks }

-- the sources of a set's file
abbrev pub reading_sources : Telling → SetData → (TaskSet → Stage Reply) → Stage Reply
reading_sources how s next = reading_tasks_by how s.tasks (λ tasks. next (set_with s tasks))

-- a set's file and its sources
abbrev pub reading_set_by : Telling → List ℕ → (TaskSet → Stage Reply) → Stage Reply
reading_set_by how name next = reading_by how set_limit name (set_of_bytes_by how name) (λ s. reading_sources how s next)

abbrev pub reading_set : List ℕ → (TaskSet → Stage Reply) → Stage Reply
reading_set name next = reading_set_by Whole name next

-- ---- a run file

-- the names by which run files speak of a set
abbrev pub names_of : TaskSet → KnownNames
names_of set = known_of (map (λ (t : TaskText). t.name) set.tasks) set.devices

abbrev pub run_of_bytes_by : Telling → TaskSet → List ℕ → List ℕ → Result RunText Reply
run_of_bytes_by how set name bytes = run_in_by how name (lines_of_run bytes (names_of set))

abbrev pub run_of_bytes : TaskSet → List ℕ → List ℕ → Result RunText Reply
run_of_bytes set name bytes = run_of_bytes_by Whole set name bytes

abbrev pub reading_run_by : Telling → TaskSet → List ℕ → (RunText → Stage Reply) → Stage Reply
reading_run_by how set name next = reading_by how run_limit name (run_of_bytes_by how set name) next

abbrev pub reading_run : TaskSet → List ℕ → (RunText → Stage Reply) → Stage Reply
reading_run set name next = reading_run_by Whole set name next

-- ---- what the code gives

abbrev pub input_of : RunInput → RunText
input_of run = record { words = lists_of run.words; requests = items_of run.requests }

-- what is given leads to an answer: by what comes next, or at once
abbrev pub Leads : {A : Type 0} → Option Files → (A → Stage Reply) → Result A Reply → Result Reply Reply → Type 0
Leads told next (Ok x) answer = IsGiven told (next x) answer
Leads told next (Err reply) answer = answer ≡ Err reply

-- over the files that a store tells, readings give this to whatever comes next
abbrev pub Passes : {A : Type 0} → Option Files → ((A → Stage Reply) → Stage Reply) → Result A Reply → Type 0
Passes told readings given = (next : _ → Stage Reply) (answer : Result Reply Reply) → Leads told next given answer → IsGiven told (readings next) answer

-- with these readings this is read, whatever comes next, and those readings are left
abbrev pub Gives : {A : Type 0} → ((A → Stage Reply) → Stage Reply) → Reads → A → Reads → Type 0
Gives readings reads x left = (next : _ → Stage Reply) → readings next reads ≡ next x left

-- the sources of tasks that stand behind others
abbrev pub reading_behind : Telling → List TaskText → List TaskEntry → (List TaskText → Stage Reply) → Stage Reply
reading_behind how front ts next = reading_tasks_by how ts (λ tasks. next (front ++ tasks))

-- what a task says beside its text
abbrev pub Head : Type 0
Head = Text × (ℕ × ℕ)

abbrev pub head_of : TaskText → Head
head_of t = (t.name, (t.period, t.jobs))

abbrev pub entry_head : TaskEntry → Head
entry_head t = (t.name, (t.period, t.jobs))
