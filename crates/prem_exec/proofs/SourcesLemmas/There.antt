-- Files that are there and in form are read.
use Rattle.std.proofs.Common.{◌≡◌, ℕ, suc, List, [], ◌∷◌, Some, Result, Ok, refl, ap, ◌∙◌, sym}
use Rattle.prem_io.specs.Files.{Files}
use Rattle.prem_tasks.specs.Broken.{TaskText, TaskSet}
use Rattle.prem_set.specs.declared.task.TaskEntry.{TaskEntry}
use Rattle.prem_set.specs.SetFile.{SetData}
use Rattle.prem_answer.specs.declared.answer.Telling.{Telling}
use Rattle.prem_answer.specs.Stages.{Reply, Reads, Stage, AreReads, and_then, later_reads, reading_by, within_by}
use Rattle.prem_answer.proofs.Reading.{short_file as within}
use Rattle.prem_exec.specs.Forms.{RunText, run_in_by}
use Rattle.prem_exec.specs.Sources.Sources.{reading_run_by, reading_set_by, reading_sources, reading_tasks_by, run_limit, run_of_bytes_by, set_in_by, set_limit, set_of_bytes_by}
use Rattle.prem_exec.specs.Sources.Sources.{set_with, source_limit, task_of_source}
use Rattle.prem_exec.specs.Sources.There.{IsThere, RunIsThere, SourcesAreThere, SetIsThere}

-- ---- files

pub file_read : {A B : Type 0} → (how : Telling) (files : Files) (limit : ℕ) (name bytes : List ℕ) (make : List ℕ → Result A Reply) (x : A) (next : A → Stage B) (reads : Reads) →
    AreReads (Some files) reads → IsThere files limit name bytes → make bytes ≡ Ok x → reading_by how limit name make next reads ≡ next x (later_reads reads)
file_read how files limit name bytes make x next reads are there made =
    ap (λ c. and_then (and_then (within_by how limit name c) make) (λ y. next y (later_reads reads))) (are 0 name ∙ there.bytes_are)
    ∙ ap (λ r. and_then (and_then r make) (λ y. next y (later_reads reads))) (within how limit name bytes there.short)
    ∙ ap (λ r. and_then r (λ y. next y (later_reads reads))) made

-- a stage comes to something, with readings that are left
pub record Comes {A : Type 0} (files : Files) (given : Result Reply Reply) (next : A → Stage Reply) (x : A) : Type 0 where
  pub reads : Reads
  pub are : AreReads (Some files) reads
  pub is : given ≡ next x reads

sources_read : (how : Telling) (files : Files) (es : List TaskEntry) (ts : List TaskText) (next : List TaskText → Stage Reply) (reads : Reads) →
    AreReads (Some files) reads → SourcesAreThere files es ts → Comes files (reading_tasks_by how es next reads) next ts
sources_read how files [] [] next reads are there = record { reads = reads; are = are; is = refl }
sources_read how files [] (t ∷ ts) next reads are there = absurd there
sources_read how files (e ∷ es) [] next reads are there = absurd there
sources_read how files (e ∷ es) (t ∷ ts) next reads are (same, here, rest) =
    let step = file_read how files source_limit e.source t.text (task_of_source e) t (λ task. reading_tasks_by how es (λ tasks. next (task ∷ tasks))) reads are here (ap Ok (sym same)) in
    let more = sources_read how files es ts (λ tasks. next (t ∷ tasks)) (later_reads reads) (λ n name. are (suc n) name) rest in
    record { reads = more.reads; are = more.are; is = step ∙ more.is }

-- a set whose file is made into what it states
pub made_set_read : (how : Telling) (files : Files) (name : List ℕ) (set : TaskSet) (make : List ℕ → Result SetData Reply) (next : SetData → TaskSet → Stage Reply) (reads : Reads)
    (there : SetIsThere files name set) → AreReads (Some files) reads → make there.bytes ≡ Ok there.stated →
    Comes files (reading_by how set_limit name make (λ s. reading_sources how s (next s)) reads) (next there.stated) set
made_set_read how files name set make next reads there are made =
    let s = there.stated in
    let step = file_read how files set_limit name there.bytes make s (λ s. reading_sources how s (next s)) reads are there.file made in
    let more = sources_read how files s.tasks set.tasks (λ tasks. next s (set_with s tasks)) (later_reads reads) (λ n q. are (suc n) q) there.sources in
    record { reads = more.reads; are = more.are; is = step ∙ more.is ∙ ap (λ t. next s t more.reads) (sym there.set_is) }

-- a set whose file is there and in form
pub set_read : (how : Telling) (files : Files) (name : List ℕ) (set : TaskSet) (next : TaskSet → Stage Reply) (reads : Reads) →
    AreReads (Some files) reads → SetIsThere files name set → Comes files (reading_set_by how name next reads) next set
set_read how files name set next reads are there = made_set_read how files name set (set_of_bytes_by how name) (λ s. next) reads there are (ap (set_in_by how name) there.formed)

-- a run file of a set that is there and in form
pub run_read : (how : Telling) (files : Files) (set : TaskSet) (name : List ℕ) (input : RunText) (next : RunText → Stage Reply) (reads : Reads) →
    AreReads (Some files) reads → RunIsThere files set name input → reading_run_by how set name next reads ≡ next input (later_reads reads)
run_read how files set name input next reads are there =
    file_read how files run_limit name there.bytes (run_of_bytes_by how set name) input next reads are there.file
    (ap (run_in_by how name) there.formed ∙ ap Ok (sym there.input_is))
