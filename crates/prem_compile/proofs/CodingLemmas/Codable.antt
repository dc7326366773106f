-- Tasks that get their plans and their code, one by one.
use Rattle.std.specs.Prelude.{slice_index}
use Rattle.std.specs.List.{AllByRecursion}
use Rattle.std.proofs.Common.{◌≡◌, ℕ, ◌≤◌, List, [], ◌∷◌, length, map, refl, ap, sym, ◌∙◌, arith, Vec, Global}
use Rattle.std.proofs.lemmas.List.{length-map}
use Rattle.prem_list.specs.Sequence.{items_of}
use Rattle.prem_plant.specs.declared.plant.Target.{Target}
use Rattle.prem_syntax.specs.Syntax.{ProgramText}
use Rattle.prem_syntax.specs.Resolved.{Resolved}
use Rattle.prem_tree.specs.Resolve.ResolvedOf.{resolved_of}
use Rattle.prem_ranges.specs.RangesKept.{turn_bounds, bounded}
use Rattle.prem_layout.specs.Template.Limits.{excess}
use Rattle.prem_layout.specs.Template.Parts.{codes_of, parts_of as task_parts}
use Rattle.prem_layout.specs.Placed.{Coded}
use Rattle.prem_split.specs.PlanOf.{plan_of}
use Rattle.prem_split.specs.PlansWith.{MayHavePlans, plans_in}
use Rattle.prem_split.proofs.PlansAre.{plans_are}
use Rattle.prem_prefetch.specs.Parts.Parts.{stack_in}
use Rattle.prem_prefetch.proofs.PartsLemmas.Stacks.{stacks_are_exact}
use Rattle.prem_prefetch.proofs.SizesLemmas.Programs.{programs_may_have_plans}
use Rattle.prem_prefetch.specs.declared.sizes.coded.CodedTask.{CodedTask}
use Rattle.prem_prefetch.specs.Sizes.CodedOf.{IsCodedTask, coded_in as coded_task}
use Rattle.prem_tasks.specs.Broken.{TaskText, TaskSet, coded_one, coded_of, programs_of}
use Rattle.prem_tasks.specs.Compiled.{coded_in}
use Rattle.prem_tasks.specs.SetOf.{task_of}
use Rattle.prem_tasks.specs.declared.set.TaskText.{TaskText as TaskTree}
use Rattle.prem_stages.specs.Code.{code_in}
use Rattle.prem_stages.specs.Programs.{IsCodedProgram, coded_text}
use Rattle.prem_stages.specs.Coded.{AreCoded}
use Rattle.prem_stages.specs.declared.code.CodedProgram.{CodedProgram}
use Rattle.prem_compile.specs.Coding.Tasks.{AreTasksOf, IsCodable, coded_with, all_coded}

-- ---- one task

-- its program with its turns is the one that is meant
program_is : (target : Target) (c : CodedProgram) → IsCodedProgram target c → resolved_of (slice_index c.program.turns.items) c.program.resolved ≡ bounded (coded_text c)
program_is target c is =
    ap (λ (ts : List ℕ). resolved_of (slice_index ts) c.program.resolved) is.program.turns ∙ is.program.resolved.same (slice_index (turn_bounds (coded_text c)))

pub may_have_plans : (c : CodedProgram) → IsCodable c → MayHavePlans c.program.resolved
may_have_plans c is =
    let turns : ℕ → ℕ = slice_index (turn_bounds (coded_text c)) in
    programs_may_have_plans c.program.resolved (coded_text c) turns is.coded.program.formed (is.coded.program.resolved.same turns) is.coded.fits

pub is_coded_task : (c : CodedProgram) (t : CodedTask) → IsCodable c → t.program ≡ c.program.resolved → t.turns ≡ c.program.turns → t.code ≡ c.code →
    map plan_of (items_of t.plans) ≡ plans_in t.program → t.stack ≡ stack_in t.program → IsCodedTask t
is_coded_task c t is ep et ec plans stack =
    let same : (coded_task t).program ≡ bounded (coded_text c) =
    ap (λ r. resolved_of (slice_index t.turns.items) r) ep ∙ ap (λ (ts : Vec ℕ Global). resolved_of (slice_index ts.items) c.program.resolved) et ∙ program_is is.target c is.coded in
    record {
      target = is.target;
      text = coded_text c;
      bounds = slice_index (turn_bounds (coded_text c));
      same = same;
      formed = is.coded.program.formed;
      fits = ap excess same ∙ is.coded.fits;
      plans = plans ∙ plans_are (slice_index t.turns.items) t.program;
      stack = stack ∙ stacks_are_exact (slice_index t.turns.items) t.program;
      code = ap (λ code. code_in code) ec ∙ is.coded.code ∙ ap (λ (q : Resolved). codes_of (task_parts is.target q.routines) q.routines) (sym same);
    }

-- ---- a set's tasks

pub all_codable : (target : Target) (cs : List CodedProgram) → AllByRecursion (IsCodedProgram target) cs → AllByRecursion IsCodable cs
all_codable target [] h = tt
all_codable target (c ∷ cs) h = (record { target = target; coded = h.0 }, all_codable target cs h.1)

-- they are as they are meant
all_meant : (target : Target) (ts : List TaskText) (cs : List CodedProgram) → AllByRecursion (IsCodedProgram target) cs → all_coded ts cs ≡ coded_of target ts (map coded_text cs)
all_meant target [] cs h = refl
all_meant target (t ∷ ts) [] h = refl
all_meant target (t ∷ ts) (c ∷ cs) h =
    let program = program_is target c h.0 in
    let one : coded_with t c ≡ coded_one target t (bounded (coded_text c)) =
    λ i. record { name = t.name; period = t.period; jobs = t.jobs; program = program i; code = h.0.code i } in
    ap (λ (x : Coded). x ∷ all_coded ts cs) one ∙ ap (λ (xs : List Coded). coded_one target t (bounded (coded_text c)) ∷ xs) (all_meant target ts cs h.1)

pub as_many : (set : TaskSet) (tasks : List TaskTree) (programs : List CodedProgram) → AreCoded set programs → map task_of tasks ≡ set.tasks → length tasks ≡ length programs
as_many set tasks programs h et =
    sym (length-map tasks task_of) ∙ ap length et ∙ sym h.count ∙ ap (λ (ps : List ProgramText). length ps) (sym h.programs_are) ∙ length-map programs coded_text

pub tasks_are : (set : TaskSet) (tasks : List TaskTree) (programs : List CodedProgram) (all : List CodedTask) → AreCoded set programs →
    map task_of tasks ≡ set.tasks → length tasks ≤ 16 → map coded_task all ≡ all_coded (map task_of tasks) programs → AllByRecursion IsCodedTask all → AreTasksOf set all
tasks_are set tasks programs all h et few is each =
    let same : map coded_task all ≡ coded_in set =
    is ∙ ap (λ (ts : List TaskText). all_coded ts programs) et ∙ all_meant set.plant.target set.tasks programs h.each
    ∙ ap (λ (ps : List ProgramText). coded_of set.plant.target set.tasks ps) h.programs_are in
    let long : length all ≡ length (coded_in set) = sym (length-map all coded_task) ∙ ap length same in
    let tasks_long : length tasks ≡ length set.tasks = sym (length-map tasks task_of) ∙ ap length et in
    let most = as_many_coded set.plant.target set.tasks (programs_of set.tasks) in
    record { same = same; each = each; count = omega (arith, long, tasks_long, most, few) }
  where
    as_many_coded : (target : Target) (ts : List TaskText) (ps : List ProgramText) → length (coded_of target ts ps) ≤ length ts
    as_many_coded target [] ps = omega arith
    as_many_coded target (t ∷ ts) [] = omega arith
    as_many_coded target (t ∷ ts) (p ∷ ps) = let rest = as_many_coded target ts ps in omega (arith, rest)
