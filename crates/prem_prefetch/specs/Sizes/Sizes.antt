-- Tasks from what the compiler knows of them before their parts have places, and the parts of a set.
use Rattle.std.specs.Prelude.{◌≡◌, ◌<◌, ◌≤◌, ⊤, ℕ, ◌+◌, ◌^◌, All, List, [], ◌∷◌, ◌++◌, length, map, None}
use Rattle.std.specs.List.{AllByRecursion}
use Rattle.prem_list.specs.Sequence.{items_of}
use Rattle.prem_plant.specs.declared.plant.Target.{Target}
use Rattle.prem_plant.specs.declared.plant.Plant.{Plant}
use Rattle.prem_plant.specs.declared.plant.Device.{Device}
use Rattle.prem_plant.specs.declared.layout.PartSize.{PartSize}
use Rattle.prem_plant.specs.Places.{HasWholeAreas}
use Rattle.prem_syntax.specs.Syntax.{GlobalVariable, ProgramText}
use Rattle.prem_syntax.specs.SyntaxOf.{global_of}
use Rattle.prem_syntax.specs.ProgramRules.{IsWellFormed}
use Rattle.prem_syntax.specs.Resolve.{resolve}
use Rattle.prem_tree.specs.declared.resolve.resolved.Resolved.{Resolved as ResolvedTree}
use Rattle.prem_asm.specs.Pieces.{size_of}
use Rattle.prem_layout.specs.Template.Limits.{excess}
use Rattle.prem_layout.specs.Template.Parts.{codes_of, parts_of as code_parts_of}
use Rattle.prem_layout.specs.Parts.{Passes, stub_passes, area_parts}
use Rattle.prem_layout.specs.Placed.{Coded}
use Rattle.prem_split.specs.PlanOf.{plan_of}
use Rattle.prem_split.specs.PlansWith.{MayHavePlans}
use Rattle.prem_prefetch.specs.Parts.Parts.{sizes_of, parts_with, IsShortPlan, IsShortGlobal, IsWordSize}
use Rattle.prem_prefetch.specs.declared.sizes.coded.CodedTask.{CodedTask}

abbrev pub globals_in : ResolvedTree → List GlobalVariable
globals_in r = map (λ g. global_of g.now) r.globals.items

-- ---- parts

-- those of task n
abbrev pub sized_parts : Passes → ℕ → CodedTask → List PartSize
sized_parts passes n t = parts_with passes n (sizes_of (items_of t.code)) (map plan_of (items_of t.plans)) (globals_in t.program) t.stack

-- of the tasks from number n on
abbrev pub sized_from : Passes → ℕ → List CodedTask → List PartSize
sized_from passes n [] = []
sized_from passes n (t ∷ ts) = sized_parts passes n t ++ sized_from passes (n + 1) ts

-- of tasks and devices
abbrev pub parts_in : Plant → List Device → List CodedTask → List PartSize
parts_in p devices tasks = sized_from (stub_passes p) 0 tasks ++ area_parts p.line 0 devices

-- parts that may be placed
pub record MayHavePlaces (line : ℕ) (parts : List PartSize) : Type 0 where
  pub aligned : All (λ part. 1 ≤ part.align) parts
  pub whole : HasWholeAreas line parts
  pub few : length parts ≤ 100000

-- ---- what is asked of a task

-- its parts are counted and have sizes in 32 bits
pub record MayHaveParts (t : CodedTask) : Type 0 where
  pub program : MayHavePlans t.program
  pub codes : length (items_of t.code) ≤ 256
  pub small : AllByRecursion IsWordSize (sizes_of (items_of t.code))
  pub marked : length (items_of t.plans) ≤ 256
  pub plans : AllByRecursion IsShortPlan (map plan_of (items_of t.plans))
  pub globals : AllByRecursion IsShortGlobal (globals_in t.program)

-- the code of a well-formed program for some target, which keeps to the rules on frames and registers
pub record IsCodeOf (p : ProgramText) (c : Coded) : Type 0 where
  pub target : Target
  pub turns : ℕ → ℕ
  pub formed : IsWellFormed p
  pub program : c.program ≡ resolve turns p
  pub kept : excess c.program ≡ None
  pub code : c.code ≡ codes_of (code_parts_of target c.program.routines) c.program.routines
  pub small : All (λ ps. size_of ps < 2 ^ 32) c.code

abbrev pub AreCodesOf : List ProgramText → List Coded → Type 0
AreCodesOf [] [] = ⊤
AreCodesOf [] (c ∷ cs) = ⊥
AreCodesOf (p ∷ ps) [] = ⊥
AreCodesOf (p ∷ ps) (c ∷ cs) = IsCodeOf p c × AreCodesOf ps cs
