-- When files that a store tells are there and in form.
use Rattle.std.specs.Prelude.{◌≡◌, ◌≤◌, ⊤, ℕ, List, [], ◌∷◌, length, Some, Ok}
use Rattle.prem_io.specs.Files.{Files, stored}
use Rattle.prem_tasks.specs.Broken.{TaskText, TaskSet}
use Rattle.prem_set.specs.declared.task.TaskEntry.{TaskEntry}
use Rattle.prem_set.specs.SetFile.{SetData, set_of as set_of_text}
use Rattle.prem_set.specs.Run.Run.{Gathered, run_of as lines_of_run}
use Rattle.prem_exec.specs.Forms.{RunText}
use Rattle.prem_exec.specs.Sources.Sources.{names_of, run_limit, set_limit, set_with, source_limit, task_with}

-- a file of at most so many bytes is there
pub record IsThere (files : Files) (limit : ℕ) (name bytes : List ℕ) : Type 0 where
  pub bytes_are : stored files name ≡ Some bytes
  pub short : length bytes ≤ limit

-- the sources of a set's entries are there, and are the texts of these tasks
abbrev pub SourcesAreThere : Files → List TaskEntry → List TaskText → Type 0
SourcesAreThere files [] [] = ⊤
SourcesAreThere files [] (t ∷ ts) = ⊥
SourcesAreThere files (e ∷ es) [] = ⊥
SourcesAreThere files (e ∷ es) (t ∷ ts) = (t ≡ task_with e t.text) × IsThere files source_limit e.source t.text × SourcesAreThere files es ts

-- a set's file is there and in form, and so are its sources
pub record SetIsThere (files : Files) (name : List ℕ) (set : TaskSet) : Type 0 where
  pub bytes : List ℕ
  pub file : IsThere files set_limit name bytes
  pub stated : SetData
  pub formed : set_of_text bytes ≡ Ok stated
  pub sources : SourcesAreThere files stated.tasks set.tasks
  pub set_is : set ≡ set_with stated set.tasks

abbrev pub run_text_of : Gathered → RunText
run_text_of g = record { words = g.words; requests = g.requests }

-- a set's run file is there and in form
pub record RunIsThere (files : Files) (set : TaskSet) (name : List ℕ) (input : RunText) : Type 0 where
  pub bytes : List ℕ
  pub file : IsThere files run_limit name bytes
  pub lines : Gathered
  pub formed : lines_of_run bytes (names_of set) ≡ Ok lines
  pub input_is : input ≡ run_text_of lines
