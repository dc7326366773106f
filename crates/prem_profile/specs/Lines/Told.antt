-- The lines of all code of a task, as the code keeps them.
use Rattle.std.specs.Prelude.{ℕ, if◌then◌else◌, List, [], ◌∷◌, map, slice_get, Option, None, Some, is_some}
use Rattle.prem_list.specs.Sequence.{items_of}
use Rattle.prem_plant.specs.declared.plant.Target.{Target}
use Rattle.prem_tree.specs.declared.resolve.resolved.Routine.{Routine}
use Rattle.prem_tree.specs.declared.resolve.resolved.Resolved.{Resolved as ResolvedTree}
use Rattle.prem_profile.specs.declared.lines.task.TaskLines.{TaskLines as TaskLinesTree}
use Rattle.prem_profile.specs.Lines.Tasks.{TaskLines, mark_line, marks_behind}
use Rattle.prem_profile.specs.Lines.Memory.{routine_lines}

-- the line of each function's mark; that of its name where it has none
abbrev pub marks_of : (marks : List ℕ) → List Routine → List ℕ
marks_of marks [] = []
marks_of marks (r ∷ rs) =
    if is_some r.text.now.mark then mark_line r.text.now.at.line marks ∷ marks_of (marks_behind marks) rs else r.text.now.at.line ∷ marks_of marks rs

abbrev pub routine_line : Option Routine → ℕ
routine_line None = 0
routine_line (Some r) = r.text.now.at.line

abbrev pub job_line : List Routine → ℕ → ℕ
job_line routines job = routine_line (slice_get routines job)

-- the lines of all code of a task, as a struct keeps them and as they are meant
abbrev pub lines_told : TaskLinesTree → TaskLines
lines_told t = record { start = t.start; functions = map (λ lines. lines.items) t.functions.items; stubs = t.stubs.items }

abbrev pub tables_of : Target → (marks : List ℕ) → ResolvedTree → TaskLines
tables_of target marks r = record {
  start = job_line (items_of r.routines) r.job;
  functions = map (routine_lines target) (items_of r.routines);
  stubs = marks_of marks (items_of r.routines);
}
