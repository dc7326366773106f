-- The lines of all code of a task: its start at the line of `job`, each function, and each stub at the line of its mark.
use Rattle.std.specs.Prelude.{ℕ, if◌then◌else◌, List, [], ◌∷◌, map, slice_get, slice_index_or, Option, None, Some}
use Rattle.prem_plant.specs.declared.plant.Target.{Target}
use Rattle.prem_plant.specs.declared.layout.PartKind.{PartKind}
use Rattle.prem_plant.specs.declared.layout.PartKind.TheVariants.{Start, Code, Stub, Global, Stack, Area}
use Rattle.prem_syntax.specs.Resolved.{Routine, Resolved}
use Rattle.prem_syntax.specs.Statements.{is_marked}
use Rattle.prem_profile.specs.Lines.Table.{at_line, function_lines}

-- the line of a function's name; 0 where there is none
abbrev pub line_if_there : Option Routine → ℕ
line_if_there None = 0
line_if_there (Some f) = f.text.at.line

-- the line of the first mark, or else another one; and the marks behind it
abbrev pub mark_line : (line : ℕ) → List ℕ → ℕ
mark_line line [] = line
mark_line line (m ∷ marks) = m

abbrev pub marks_behind : List ℕ → List ℕ
marks_behind [] = []
marks_behind (m ∷ marks) = marks

-- the line of each function's mark; that of its name where it has none
abbrev pub stub_lines : (marks : List ℕ) → List Routine → List ℕ
stub_lines marks [] = []
stub_lines marks (f ∷ fs) =
    if is_marked f then mark_line f.text.at.line marks ∷ stub_lines (marks_behind marks) fs else f.text.at.line ∷ stub_lines marks fs

pub record TaskLines : Type 0 where
  pub start : ℕ
  pub functions : List (List ℕ)
  pub stubs : List ℕ

-- of a program whose text has marks at these lines
abbrev pub task_lines : Target → (marks : List ℕ) → Resolved → TaskLines
task_lines target marks p = record {
  start = line_if_there (slice_get p.routines p.job);
  functions = map (function_lines target) p.routines;
  stubs = stub_lines marks p.routines;
}

-- the line of each word of a part of so many words
abbrev pub part_lines : TaskLines → PartKind → (count : ℕ) → List ℕ
part_lines t Start count = at_line t.start count
part_lines t (Code f) count = slice_index_or t.functions f []
part_lines t (Stub f) count = at_line (slice_index_or t.stubs f 0) count
part_lines t (Global g) count = []
part_lines t Stack count = []
part_lines t (Area d) count = []
