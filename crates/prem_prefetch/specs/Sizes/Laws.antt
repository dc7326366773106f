-- What the laws of this crate say.
use Rattle.std.specs.Prelude.{◌≡◌, ℕ, None, List, map}
use Rattle.std.specs.List.{AllByRecursion}
use Rattle.prem_plant.specs.declared.plant.Plant.{Plant}
use Rattle.prem_plant.specs.declared.plant.Device.{Device}
use Rattle.prem_syntax.specs.Syntax.{ProgramText}
use Rattle.prem_syntax.specs.ProgramRules.{IsWellFormed}
use Rattle.prem_syntax.specs.Resolve.{resolve}
use Rattle.prem_tree.specs.declared.resolve.resolved.Resolved.{Resolved as ResolvedTree}
use Rattle.prem_tree.specs.Resolve.ResolvedOf.{resolved_of}
use Rattle.prem_layout.specs.Template.Limits.{excess}
use Rattle.prem_layout.specs.Placed.{parts_of}
use Rattle.prem_split.specs.PlansWith.{MayHavePlans}
use Rattle.prem_prefetch.specs.declared.sizes.coded.CodedTask.{CodedTask}
use Rattle.prem_prefetch.specs.Sizes.CodedOf.{coded_in, IsCodedTask}
use Rattle.prem_prefetch.specs.Sizes.Sizes.{parts_in, MayHaveParts, IsCodeOf, AreCodesOf}

-- a well-formed program that keeps to the rules on frames may have plans
abbrev pub ProgramsMayHavePlans : Type 0
ProgramsMayHavePlans =
    (r : ResolvedTree) (p : ProgramText) (turns : ℕ → ℕ) → IsWellFormed p → resolved_of turns r ≡ resolve turns p → excess (resolve turns p) ≡ None →
    MayHavePlans r

-- a task of it may have parts
abbrev pub TasksMayHaveParts : Type 0
TasksMayHaveParts = (t : CodedTask) (p : ProgramText) → IsCodedTask t → IsCodeOf p (coded_in t) → MayHaveParts t

-- and so may all tasks of a set
abbrev pub SetsMayHaveParts : Type 0
SetsMayHaveParts =
    (tasks : List CodedTask) (programs : List ProgramText) → AllByRecursion IsCodedTask tasks → AreCodesOf programs (map coded_in tasks) → AllByRecursion MayHaveParts tasks

-- the parts of tasks in memory are those of the tasks for which they stand
abbrev pub PartsAreExact : Type 0
PartsAreExact =
    (p : Plant) (devices : List Device) (tasks : List CodedTask) → AllByRecursion IsCodedTask tasks → parts_in p devices tasks ≡ parts_of p devices (map coded_in tasks)
