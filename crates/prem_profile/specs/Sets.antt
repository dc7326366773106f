-- The strips of a compiled set.
use Rattle.std.specs.Prelude.{ℕ, ◌+◌, ◌/◌, Bool, true, false, if◌then◌else◌, List, [], ◌∷◌, ◌++◌, slice_get, Option, None, Some, codes}
use Rattle.prem_plant.specs.declared.plant.Target.{Target}
use Rattle.prem_plant.specs.declared.layout.PartKind.{PartKind}
use Rattle.prem_plant.specs.declared.layout.PartKind.TheVariants.{Start, Code, Stub, Global, Stack, Area}
use Rattle.prem_plant.specs.declared.layout.PartSize.{PartSize}
use Rattle.prem_plant.specs.Places.{Extent}
use Rattle.prem_syntax.specs.Syntax.{Text}
use Rattle.prem_layout.specs.Placed.{Coded}
use Rattle.prem_tasks.specs.Broken.{TaskSet, TaskText}
use Rattle.prem_tasks.specs.Compiled.{CompiledText, coded_in}
use Rattle.prem_profile.specs.Lines.Marks.{mark_lines}
use Rattle.prem_profile.specs.Lines.Tasks.{TaskLines, part_lines, task_lines}
use Rattle.prem_profile.specs.Strips.{Strip}

-- the lines of the code of tasks
abbrev pub tasks_lines : Target → List TaskText → List Coded → List TaskLines
tasks_lines target [] cs = []
tasks_lines target (t ∷ ts) [] = []
tasks_lines target (t ∷ ts) (c ∷ cs) = task_lines target (mark_lines t.text) c.program ∷ tasks_lines target ts cs

abbrev pub set_lines : TaskSet → List TaskLines
set_lines set = tasks_lines set.plant.target set.tasks (coded_in set)

-- ---- parts

abbrev pub has_code : PartKind → Bool
has_code Start = true
has_code (Code f) = true
has_code (Stub f) = true
has_code (Global g) = false
has_code Stack = false
has_code (Area d) = false

-- whether it is called: a start isn't
abbrev pub is_called : PartKind → Bool
is_called Start = false
is_called (Code f) = true
is_called (Stub f) = true
is_called (Global g) = false
is_called Stack = false
is_called (Area d) = false

-- what the words of a part with code are told as: a name in brackets is none of the source
abbrev pub told_as : PartKind → Text → Text
told_as Start name = codes "[start]"
told_as (Code f) name = name
told_as (Stub f) name = codes "[stub] " ++ name
told_as (Global g) name = []
told_as Stack name = []
told_as (Area d) name = []

-- a part with code of a task with these lines
abbrev pub strip_at : TaskLines → PartSize → Text → (at : ℕ) → Strip
strip_at task part name at = record {
  task = part.task;
  name = told_as part.kind name;
  called = is_called part.kind;
  at = at;
  count = part.size / 4;
  lines = part_lines task part.kind (part.size / 4);
}

abbrev pub coded_strips : TaskLines → PartSize → Text → (at : ℕ) → List Strip
coded_strips task part name at = if has_code part.kind then strip_at task part name at ∷ [] else []

-- of a part at an address, if it has a task
abbrev pub task_strips : Option TaskLines → PartSize → Text → (at : ℕ) → List Strip
task_strips None part name at = []
task_strips (Some task) part name at = coded_strips task part name at

-- of a part, if it has a place
abbrev pub part_strips : List TaskLines → PartSize → Text → Option Extent → List Strip
part_strips tasks part name None = []
part_strips tasks part name (Some place) = task_strips (slice_get tasks part.task) part name place.0

-- ---- all of them

abbrev pub first_name : List Text → Text
first_name [] = []
first_name (name ∷ names) = name

abbrev pub rest_names : List Text → List Text
rest_names [] = []
rest_names (name ∷ names) = names

-- of the parts from the n-th on, with these names
abbrev pub parts_strips : List TaskLines → List Extent → ℕ → List PartSize → List Text → List Strip
parts_strips tasks places n [] names = []
parts_strips tasks places n (part ∷ parts) names =
    part_strips tasks part (first_name names) (slice_get places n) ++ parts_strips tasks places (n + 1) parts (rest_names names)

-- in the order of the layout
abbrev pub strips_of : List TaskLines → CompiledText → List Strip
strips_of tasks c = parts_strips tasks c.layout 0 c.parts c.names
