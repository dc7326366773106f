-- What the tasks of a set are behind code generation.
use Rattle.std.specs.Prelude.{◌≡◌, ◌≤◌, List, [], ◌∷◌, length, map, slice_index}
use Rattle.std.specs.List.{AllByRecursion}
use Rattle.prem_plant.specs.declared.plant.Target.{Target}
use Rattle.prem_tree.specs.Resolve.ResolvedOf.{resolved_of}
use Rattle.prem_layout.specs.Placed.{Coded}
use Rattle.prem_prefetch.specs.declared.sizes.coded.CodedTask.{CodedTask}
use Rattle.prem_prefetch.specs.Sizes.CodedOf.{IsCodedTask, coded_in as coded_task}
use Rattle.prem_tasks.specs.Broken.{TaskText, TaskSet}
use Rattle.prem_tasks.specs.Compiled.{coded_in}
use Rattle.prem_stages.specs.Code.{code_in}
use Rattle.prem_stages.specs.Programs.{IsCodedProgram}
use Rattle.prem_stages.specs.declared.code.CodedProgram.{CodedProgram}

-- the tasks of a set with their plans and their code
pub record AreTasksOf (set : TaskSet) (tasks : List CodedTask) : Type 0 where
  pub same : map coded_task tasks ≡ coded_in set
  pub each : AllByRecursion IsCodedTask tasks
  pub count : length tasks ≤ 16

-- ---- one task

-- a program with its code for some target
pub record IsCodable (c : CodedProgram) : Type 0 where
  pub target : Target
  pub coded : IsCodedProgram target c

-- a task with its program, turns and code
abbrev pub coded_with : TaskText → CodedProgram → Coded
coded_with t c = record {
  name = t.name;
  period = t.period;
  jobs = t.jobs;
  program = resolved_of (slice_index c.program.turns.items) c.program.resolved;
  code = code_in c.code;
}

abbrev pub all_coded : List TaskText → List CodedProgram → List Coded
all_coded (t ∷ ts) (c ∷ cs) = coded_with t c ∷ all_coded ts cs
all_coded _ _ = []
