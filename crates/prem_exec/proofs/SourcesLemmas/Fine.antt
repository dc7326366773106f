-- Readings of sets and run files end in answers that may be given.
use Rattle.std.proofs.Common.{ℕ, List, [], ◌∷◌, Result, Ok, Err}
use Rattle.prem_tasks.specs.Broken.{TaskText, TaskSet}
use Rattle.prem_set.specs.Run.Run.{Gathered, LineRefusal, run_of as lines_of_run}
use Rattle.prem_set.specs.declared.fault.SetFail.{SetFail}
use Rattle.prem_set.specs.declared.task.TaskEntry.{TaskEntry}
use Rattle.prem_set.specs.SetFile.{SetData, set_of as set_of_text}
use Rattle.prem_answer.specs.declared.answer.Telling.{Telling}
use Rattle.prem_answer.specs.declared.answer.Telling.TheVariants.{Whole}
use Rattle.prem_answer.specs.Stages.{Reply, Reads, Stage, IsFine}
use Rattle.prem_answer.proofs.Reading.{form_fine, reading_fine_by}
use Rattle.prem_exec.specs.Forms.{RunText, line_why, run_in_by}
use Rattle.prem_exec.specs.Sources.Sources.{names_of, reading_run, reading_run_by, reading_set, reading_set_by, reading_sources, reading_tasks_by, run_limit, run_of_bytes_by}
use Rattle.prem_exec.specs.Sources.Sources.{set_in_by, set_limit, set_of_bytes_by, set_why, set_with, source_limit, task_of_source}

pub sets_fine : (how : Telling) (name : List ℕ) (read : Result SetData SetFail) → IsFine (λ x. Unit {0}) (set_in_by how name read)
sets_fine how name (Ok set) = tt
sets_fine how name (Err fail) = form_fine how name (set_why fail)

runs_fine : (how : Telling) (name : List ℕ) (read : Result Gathered LineRefusal) → IsFine (λ x. Unit {0}) (run_in_by how name read)
runs_fine how name (Ok g) = tt
runs_fine how name (Err refusal) = form_fine how name (line_why refusal)

tasks_fine : (right : Reply → Type 0) (how : Telling) (ts : List TaskEntry) (next : List TaskText → Stage Reply) →
    ((tasks : List TaskText) (reads : Reads) → IsFine right (next tasks reads)) → (reads : Reads) → IsFine right (reading_tasks_by how ts next reads)
tasks_fine right how [] next each reads = each [] reads
tasks_fine right how (t ∷ ts) next each reads =
    reading_fine_by right how source_limit t.source (task_of_source t) (λ task. reading_tasks_by how ts (λ tasks. next (task ∷ tasks))) (λ bytes. tt)
    (λ task rest. tasks_fine right how ts (λ tasks. next (task ∷ tasks)) (λ tasks more. each (task ∷ tasks) more) rest) reads

pub sources_fine : (right : Reply → Type 0) (how : Telling) (s : SetData) (next : TaskSet → Stage Reply) →
    ((set : TaskSet) (reads : Reads) → IsFine right (next set reads)) → (reads : Reads) → IsFine right (reading_sources how s next reads)
sources_fine right how s next each reads = tasks_fine right how s.tasks (λ tasks. next (set_with s tasks)) (λ tasks more. each (set_with s tasks) more) reads

pub set_fine_by : (right : Reply → Type 0) (how : Telling) (name : List ℕ) (next : TaskSet → Stage Reply) →
    ((set : TaskSet) (reads : Reads) → IsFine right (next set reads)) → (reads : Reads) → IsFine right (reading_set_by how name next reads)
set_fine_by right how name next each reads =
    reading_fine_by right how set_limit name (set_of_bytes_by how name) (λ s. reading_sources how s next)
    (λ bytes. sets_fine how name (set_of_text bytes)) (λ s rest. sources_fine right how s next each rest) reads

pub set_fine : (right : Reply → Type 0) (name : List ℕ) (next : TaskSet → Stage Reply) →
    ((set : TaskSet) (reads : Reads) → IsFine right (next set reads)) → (reads : Reads) → IsFine right (reading_set name next reads)
set_fine right = set_fine_by right Whole

pub run_fine_by : (right : Reply → Type 0) (how : Telling) (set : TaskSet) (name : List ℕ) (next : RunText → Stage Reply) →
    ((input : RunText) (reads : Reads) → IsFine right (next input reads)) → (reads : Reads) → IsFine right (reading_run_by how set name next reads)
run_fine_by right how set name next each reads =
    reading_fine_by right how run_limit name (run_of_bytes_by how set name) next (λ bytes. runs_fine how name (lines_of_run bytes (names_of set))) each reads

pub run_fine : (right : Reply → Type 0) (set : TaskSet) (name : List ℕ) (next : RunText → Stage Reply) →
    ((input : RunText) (reads : Reads) → IsFine right (next input reads)) → (reads : Reads) → IsFine right (reading_run set name next reads)
run_fine right = run_fine_by right Whole
