-- The wants of tasks in memory, and what their names ask for.
use Rattle.std.specs.Prelude.{OnOk, slice_index}
use Rattle.std.specs.List.{AllByRecursion}
use Rattle.std.proofs.Common.{◌≡◌, ℕ, ◌+◌, ◌≤◌, All, List, [], ◌∷◌, ◌++◌, Result, Ok, Err, ap, sym, ◌∙◌, subst, arith, length, map, Bor}
use Rattle.std.proofs.lemmas.List.{length-map}
use Rattle.std.proofs.lemmas.List.Elements.{recursion_from_All}
use Rattle.prem_list.specs.Sequence.{items_of}
use Rattle.prem_plant.specs.declared.plant.Target.{Target}
use Rattle.prem_plant.specs.declared.plant.Device.{Device}
use Rattle.prem_plant.specs.declared.layout.PartSize.{PartSize}
use Rattle.prem_syntax.specs.Syntax.{ProgramText, Text}
use Rattle.prem_syntax.specs.Name.{name_bytes}
use Rattle.prem_syntax.specs.SyntaxOf.{global_of}
use Rattle.prem_syntax.specs.declared.tree.Global.{Global as GlobalTree}
use Rattle.prem_syntax.specs.Resolved.{Resolved}
use Rattle.prem_layout.specs.Template.Parts.{parts_of as code_parts_of}
use Rattle.prem_layout.specs.Plans.{Plan, plans_of}
use Rattle.prem_layout.specs.Parts.{part_count}
use Rattle.prem_layout.specs.Placed.{Coded}
use Rattle.prem_split.specs.PlanOf.{plan_of}
use Rattle.prem_split.specs.declared.plan.IntervalPlan.{IntervalPlan}
use Rattle.prem_prefetch.specs.Sizes.Sizes.{AreCodesOf, MayHavePlaces}
use Rattle.prem_prefetch.proofs.SizesLemmas.Programs.{as_many_codes as codes_long}
use Rattle.prem_prefetch.specs.declared.sizes.coded.CodedTask.{CodedTask}
use Rattle.prem_prefetch.specs.Sizes.CodedOf.{IsCodedTask, coded_in as coded_task}
use Rattle.prem_place.proofs.PlacingLemmas.Placing.{routines_long}
use Rattle.prem_place.proofs.PlacingLemmas.Stood.{are_counted}
use Rattle.prem_color.specs.Standing.{PlanStands, TasksStand}
use Rattle.prem_color.specs.Wants.{Want, shape_of, plan_want, task_wants, wants_of}
use Rattle.prem_color.specs.WantOf.{shape_in, shape_with, want_of}
use Rattle.prem_color.specs.declared.wants.Shape.{Shape as ShapeInMemory}
use Rattle.prem_color.proofs.Shapes.{shape_is}
use Rattle.prem_tasks.specs.Broken.{TaskText, TaskSet, programs_of, coded_of}
use Rattle.prem_tasks.specs.Compiled.{coded_in, parts_in, part_name}
use Rattle.prem_tasks.specs.Lawful.{IsTaskText, AreTasks}
use Rattle.prem_tasks.specs.SetOf.{task_of}
use Rattle.prem_tasks.specs.declared.set.TaskText.{TaskText as TaskTree}
use Rattle.prem_compile.specs.Joined.{HasCode}
use Rattle.prem_compile.specs.Telling.Named.{AreNamed}
use Rattle.prem_compile.specs.declared.telling.names.NamedParts.{NamedParts}
use Rattle.prem_compile.specs.PartsOf.{AreParts}
use Rattle.prem_compile.specs.Telling.There.{HasName, HasCode as CodeIsThere, IsThere}
use Rattle.prem_compile.specs.declared.parts.Parts.{Parts}
use Rattle.prem_compile.proofs.TellingLemmas.PartsThere.{parts_there}
use Rattle.prem_compile.proofs.Wanting.{tasks_stand}

-- ---- one task

pub record IsCounted (t : CodedTask) (count : ℕ) : Type 0 where
  pub is : count ≡ part_count (coded_task t).program
  pub few : count ≤ 1024

pub counted : (t : CodedTask) (functions plans globals : ℕ) → IsCodedTask t → functions ≡ length (items_of t.program.routines) →
    plans ≡ length (items_of t.plans) → globals ≡ length t.program.globals.items →
    IsCounted t (2 + functions + plans + globals)
counted t functions plans globals h ef ep eg =
    let a = routines_long (slice_index t.turns.items) 0 (items_of t.program.routines) in
    let b : length (items_of t.plans) ≡ length (plans_of (coded_task t).program) = sym (length-map (items_of t.plans) plan_of) ∙ ap length h.plans in
    let d = length-map t.program.globals.items (λ (g : Bor GlobalTree). global_of g.now) in
    let most = are_counted h.text h.bounds h.formed in
    let r = ap (λ (q : Resolved). length q.routines) h.same in
    let p = ap (λ (q : Resolved). length (plans_of q)) h.same in
    let g = ap (λ (q : Resolved). length q.globals) h.same in
    let mr = most.functions in
    let mp = most.plans in
    let mg = most.globals in
    record { is = omega (arith, ef, ep, eg, a, b, d); few = omega (arith, ef, ep, eg, a, b, d, r, p, g, mr, mp, mg) }

module _ (t : CodedTask) (is : IsCodedTask t) (shape : ShapeInMemory) (plans : List IntervalPlan) (made : shape_in shape ≡ shape_with t.program) (lent : plans ≡ items_of t.plans) where
  shape_same : shape_in shape ≡ shape_of (coded_task t).program
  shape_same = made ∙ shape_is (slice_index t.turns.items) t.program

  plans_same : map plan_of plans ≡ plans_of (coded_task t).program
  plans_same = ap (map plan_of) lent ∙ is.plans

  pub plans_there : (sizes : List PartSize) (first : ℕ) → AllByRecursion (PlanStands sizes (shape_of (coded_task t).program) first) (plans_of (coded_task t).program) →
      AllByRecursion (PlanStands sizes (shape_in shape) first) (map plan_of plans)
  plans_there sizes first h =
      subst (λ (ps : List Plan). AllByRecursion (PlanStands sizes (shape_in shape) first) ps) (sym plans_same)
      (subst (λ s. AllByRecursion (PlanStands sizes s first) (plans_of (coded_task t).program)) (sym shape_same) h)

  pub pushed : {A E : Type 0} (sizes : List PartSize) (n first : ℕ) (old new : List Want) (result : Result A E) →
      OnOk result (new ≡ old ++ map (plan_want sizes (shape_in shape) n first) (map plan_of plans)) →
      OnOk result (new ≡ old ++ task_wants sizes n first (coded_task t).program)
  pushed sizes n first old new (Ok x) h =
      h ∙ ap (λ (ps : List Plan). old ++ map (plan_want sizes (shape_in shape) n first) ps) plans_same ∙ ap (λ s. old ++ map (plan_want sizes s n first) (plans_of (coded_task t).program)) shape_same
  pushed sizes n first old new (Err e) h = tt

-- ---- all tasks

names_given : (target : Target) (ts : List TaskTree) (ps : List ProgramText) → AllByRecursion IsTaskText ts → AllByRecursion HasName (coded_of target (map task_of ts) ps)
names_given target [] ps h = tt
names_given target (t ∷ ts) [] h = tt
names_given target (t ∷ ts) (p ∷ ps) h = (h.0.name, names_given target ts ps h.1)

code_given : (ps : List ProgramText) (cs : List Coded) → AreCodesOf ps cs → AllByRecursion CodeIsThere cs
code_given ps [] h = tt
code_given [] (c ∷ cs) h = absurd h
code_given (p ∷ ps) (c ∷ cs) h =
    let long = ap length h.0.code ∙ codes_long (code_parts_of h.0.target c.program.routines) c.program.routines in
    (omega (arith, long), code_given ps cs h.1)

module _ (set : TaskSet) (tasks : List CodedTask) (h : HasCode set tasks) where
  coded_is : map coded_task tasks ≡ coded_in set
  coded_is = h.tasks_are.same

  pub coded_names : (ts : List TaskTree) → AreTasks ts → map task_of ts ≡ set.tasks → AllByRecursion HasName (map coded_task tasks)
  coded_names ts stated same =
      let all : coded_of set.plant.target (map task_of ts) (programs_of set.tasks) ≡ map coded_task tasks =
      ap (λ (texts : List TaskText). coded_of set.plant.target texts (programs_of set.tasks)) same ∙ sym coded_is in
      subst (AllByRecursion HasName) all (names_given set.plant.target ts (programs_of set.tasks) (recursion_from_All IsTaskText ts stated.each))

  pub coded_there : (devices : List Device) (sizes lent : List PartSize) → devices ≡ set.devices → sizes ≡ parts_in set → lent ≡ sizes → All (IsThere devices (map coded_task tasks)) lent
  coded_there devices sizes lent ed es el =
      subst (λ (ps : List PartSize). All (IsThere devices (map coded_task tasks)) ps) (sym (el ∙ es))
      (subst (λ (ds : List Device). All (IsThere ds (map coded_task tasks)) (parts_in set)) (sym ed)
      (subst (λ (cs : List Coded). All (IsThere set.devices cs) (parts_in set)) (sym coded_is)
      (parts_there set.plant set.devices (coded_in set) (code_given (programs_of set.tasks) (coded_in set) h.codes_are))))

  -- the names are those of the set, as devices and sizes are lent
  pub names_told : (devices : List Device) (sizes lent : List PartSize) (names : List Text) → devices ≡ set.devices → sizes ≡ parts_in set → lent ≡ sizes →
      names ≡ map (part_name devices (map coded_task tasks)) lent → names ≡ map (part_name set.devices (coded_in set)) (parts_in set)
  names_told devices sizes lent names ed es el told =
      told ∙ ap (λ (ds : List Device). map (part_name ds (map coded_task tasks)) lent) ed ∙ ap (λ (cs : List Coded). map (part_name set.devices cs) lent) coded_is
      ∙ ap (λ (ps : List PartSize). map (part_name set.devices (coded_in set)) ps) (el ∙ es)

  pub coded_stand : (sizes lent : List PartSize) → sizes ≡ parts_in set → lent ≡ sizes → TasksStand lent 0 (map coded_task tasks)
  coded_stand sizes lent es el =
      subst (λ (ps : List PartSize). TasksStand ps 0 (map coded_task tasks)) (sym (el ∙ es))
      (subst (λ (cs : List Coded). TasksStand (parts_in set) 0 cs) (sym coded_is) (tasks_stand set h.codes_are))

  -- what is told of all parts together, as the sizes are lent
  pub parts_told : (named : NamedParts) (lent : List PartSize) (p : Parts) → AreNamed set named → MayHavePlaces set.plant.line (parts_in set) → lent ≡ named.sizes.items →
      items_of p.sizes ≡ named.sizes.items → p.names ≡ named.names → map want_of (items_of p.wants) ≡ wants_of lent (map coded_task tasks) → AreParts set p
  parts_told named lent p are may el sizes names wants = record {
    sizes = sizes ∙ are.sizes;
    names = ap (λ ns. map name_bytes (items_of ns)) names ∙ are.names;
    wants = wants ∙ ap (λ (ps : List PartSize). wants_of ps (map coded_task tasks)) (el ∙ are.sizes) ∙ ap (λ (cs : List Coded). wants_of (parts_in set) cs) coded_is;
    may = may;
    stand = tasks_stand set h.codes_are;
  }
