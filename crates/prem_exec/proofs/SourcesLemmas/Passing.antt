-- Readings that give something to whatever comes next.
use Rattle.std.proofs.Common.{◌≡◌, ◌≢◌, ℕ, List, [], ◌∷◌, ◌++◌, Option, Result, Ok, Err, refl, ap, ◌∙◌, sym, subst, map}
use Rattle.std.proofs.lemmas.List.{append_assoc}
use Rattle.prem_io.specs.Files.{Files}
use Rattle.prem_gate.specs.declared.request.RunInput.{RunInput}
use Rattle.prem_tasks.specs.declared.set.TaskText.{TaskText as TaskTree}
use Rattle.prem_tasks.specs.Broken.{TaskText, TaskSet}
use Rattle.prem_tasks.specs.SetOf.{task_of}
use Rattle.prem_set.specs.Run.Run.{Gathered, LineRefusal}
use Rattle.prem_set.specs.Run.Views.{IsRun}
use Rattle.prem_set.specs.declared.fault.SetFail.{SetFail}
use Rattle.prem_set.specs.declared.fault.SetFail.TheVariants.{NotToml, Key, Kind, Value, Limit, OutOfMemory as NoMemory}
use Rattle.prem_set.specs.declared.task.TaskEntry.{TaskEntry}
use Rattle.prem_set.specs.SetFile.{SetData}
use Rattle.prem_set.specs.Views.{SetFails}
use Rattle.prem_answer.specs.declared.answer.Telling.{Telling}
use Rattle.prem_answer.specs.declared.answer.Halt.{Halt}
use Rattle.prem_answer.specs.declared.answer.Halt.TheVariants.{Answered, ReadFault, OutOfMemory}
use Rattle.prem_answer.specs.Stages.{Reply, Stage, Comes, IsReadAsBy, IsGiven, form_by, reply_of}
use Rattle.prem_answer.proofs.Reading.{goes_on_by, ends_there_by}
use Rattle.prem_exec.specs.Forms.{run_in_by}
use Rattle.prem_exec.specs.Sources.Sources.{Passes, input_of, reading_behind, reading_sources, reading_tasks_by, set_in_by, set_why, set_with, source_limit, task_of_source}

-- ---- what a call gives

pub comes_as : {X Y : Type 0} → (view : X → Y) (holds also : Result Y Reply → Type 0) (r : Result X Halt) →
    ((given : Result Y Reply) → holds given → also given) → Comes view holds r → Comes view also r
comes_as view holds also (Ok x) pass h = pass (Ok (view x)) h
comes_as view holds also (Err (Answered a)) pass h = pass (Err (reply_of a)) h
comes_as view holds also (Err ReadFault) pass h = tt
comes_as view holds also (Err OutOfMemory) pass h = tt

-- ---- one file

stops : (told : Option Files) (stage : Stage Reply) (reply : Reply) (answer : Result Reply Reply) → IsGiven told stage (Err reply) → answer ≡ Err reply → IsGiven told stage answer
stops told stage reply answer given is = subst (λ a. IsGiven told stage a) (sym is) given

task_behind : (how : Telling) (told : Option Files) (front : List TaskText) (e : TaskEntry) (es : List TaskEntry) (task : TaskText) (given : Result (List TaskText) Reply) →
    IsReadAsBy how told source_limit e.source (task_of_source e) (Ok task) → Passes told (reading_behind how (front ++ task ∷ []) es) given →
    Passes told (reading_behind how front (e ∷ es)) given
task_behind how told front e es task given read passes next answer leads =
    let agree : (ts : List TaskText) → next ((front ++ task ∷ []) ++ ts) ≡ next (front ++ task ∷ ts) = λ ts. ap next (append_assoc front (task ∷ []) ts) in
    goes_on_by how told source_limit e.source (task_of_source e) (λ t. reading_tasks_by how es (λ ts. next (front ++ t ∷ ts))) task answer read
    (subst (λ f. IsGiven told (reading_tasks_by how es f) answer) (λ k ts. agree ts k) (passes next answer leads))

pub no_task_behind : (how : Telling) (told : Option Files) (front : List TaskText) (e : TaskEntry) (es : List TaskEntry) (reply : Reply) →
    IsReadAsBy how told source_limit e.source (task_of_source e) (Err reply) → Passes told (reading_behind how front (e ∷ es)) (Err reply)
no_task_behind how told front e es reply read next answer leads =
    stops told (reading_behind how front (e ∷ es) next) reply answer
    (ends_there_by how told source_limit e.source (task_of_source e) (λ t. reading_tasks_by how es (λ ts. next (front ++ t ∷ ts))) reply read) leads

-- those of a set's file
pub sources_read : (how : Telling) (told : Option Files) (s : SetData) (tasks : List TaskText) (all : TaskSet) → all ≡ set_with s tasks →
    Passes told (reading_behind how [] s.tasks) (Ok tasks) → Passes told (reading_sources how s) (Ok all)
sources_read how told s tasks all is passes next answer leads =
    passes (λ ts. next (set_with s ts)) answer (subst (λ set. IsGiven told (next set) answer) is leads)

pub sources_unread : (how : Telling) (told : Option Files) (s : SetData) (reply : Reply) → Passes told (reading_behind how [] s.tasks) (Err reply) →
    Passes told (reading_sources how s) (Err reply)
sources_unread how told s reply passes next answer leads = passes (λ ts. next (set_with s ts)) answer leads

-- ---- forms

pub set_formed : (how : Telling) (name : List ℕ) (read : Result SetData SetFail) (set : SetData) → read ≡ Ok set → set_in_by how name read ≡ Ok set
set_formed how name read set is = ap (set_in_by how name) is

-- a refusal that isn't want of memory is the one that reading gives
pub set_refused : (how : Telling) (name : List ℕ) (read : Result SetData SetFail) (fail : SetFail) (reply : Reply) → fail ≢ NoMemory → SetFails fail read →
    reply ≡ form_by how name (set_why fail) → set_in_by how name read ≡ Err reply
set_refused how name read NotToml reply other is line = ap (set_in_by how name) is ∙ ap Err (sym line)
set_refused how name read (Key path) reply other is line = ap (set_in_by how name) is ∙ ap Err (sym line)
set_refused how name read (Kind path) reply other is line = ap (set_in_by how name) is ∙ ap Err (sym line)
set_refused how name read (Value path) reply other is line = ap (set_in_by how name) is ∙ ap Err (sym line)
set_refused how name read (Limit path) reply other is line = ap (set_in_by how name) is ∙ ap Err (sym line)
set_refused how name read NoMemory reply other is line = absurd (other refl)

pub run_formed : (how : Telling) (name : List ℕ) (read : Result Gathered LineRefusal) (input : RunInput) → IsRun input read → run_in_by how name read ≡ Ok (input_of input)
run_formed how name (Ok g) input (words, requests) =
    ap Ok (ap (λ ws. record { words = ws; requests = g.requests }) (sym words) ∙ ap (λ rs. record (input_of input) { requests = rs }) (sym requests))
run_formed how name (Err refusal) input is = absurd is

-- ---- what the code holds

mapped : (front : List TaskTree) (task : TaskTree) → map task_of (front ++ task ∷ []) ≡ map task_of front ++ task_of task ∷ []
mapped [] task = refl
mapped (t ∷ ts) task = ap (λ xs. task_of t ∷ xs) (mapped ts task)

pub next_passes : {X : Type 0} → (view : X → List TaskText) (how : Telling) (told later : Option Files) (front all : List TaskTree) (e : TaskEntry) (es entries : List TaskEntry) (task : TaskTree)
    (r : Result X Halt) → later ≡ told → entries ≡ e ∷ es → all ≡ front ++ task ∷ [] → IsReadAsBy how told source_limit e.source (task_of_source e) (Ok (task_of task)) →
    Comes view (Passes later (reading_behind how (map task_of all) es)) r → Comes view (Passes told (reading_behind how (map task_of front) entries)) r
next_passes view how told later front all e es entries task r same are is read h =
    comes_as view (Passes later (reading_behind how (map task_of all) es)) (Passes told (reading_behind how (map task_of front) entries)) r
    (λ given passes.
    let there = subst (λ files. Passes files (reading_behind how (map task_of all) es) given) same passes in
    let lists : map task_of all ≡ map task_of front ++ task_of task ∷ [] = ap (map task_of) is ∙ mapped front task in
    let behind = subst (λ f. Passes told (reading_behind how f es) given) lists there in
    subst (λ xs. Passes told (reading_behind how (map task_of front) xs) given) (sym are) (task_behind how told (map task_of front) e es (task_of task) given read behind)) h

pub all_pass : (how : Telling) (told : Option Files) (s : SetData) (front : List TaskTree) (entries : List TaskEntry) (given : Result (List TaskText) Reply) →
    front ≡ [] → entries ≡ s.tasks → Passes told (reading_behind how (map task_of front) entries) given → Passes told (reading_behind how [] s.tasks) given
all_pass how told s front entries given none are passes =
    let first = subst (λ f. Passes told (reading_behind how (map task_of f) entries) given) none passes in
    subst (λ es. Passes told (reading_behind how [] es) given) are first
