-- The lines that are made for the tasks of a set are those of its code.
use Rattle.std.specs.Prelude.{slice_get, slice_index, is_some}
use Rattle.std.specs.Option.{option_map}
use Rattle.std.proofs.Common.{◌≡◌, ℕ, zero, suc, ◌+◌, List, [], ◌∷◌, Option, None, Some, length, map, cond, refl, ap, ap₂, sym, ◌∙◌, arith}
use Rattle.prem_list.specs.Sequence.{items_of}
use Rattle.prem_plant.specs.declared.plant.Target.{Target}
use Rattle.prem_syntax.specs.Syntax.{ProgramText}
use Rattle.prem_syntax.specs.SyntaxOf.{mark_of}
use Rattle.prem_tree.specs.declared.resolve.resolved.Routine.{Routine as RoutineTree}
use Rattle.prem_tree.specs.declared.resolve.resolved.Resolved.{Resolved as ResolvedTree}
use Rattle.prem_tree.specs.Resolve.ResolvedOf.{loops_of, resolved_of, routines_of}
use Rattle.prem_plant.specs.Places.{default_places}
use Rattle.prem_layout.specs.Rules.{LateRule, Refusal, or_else, over_tasks}
use Rattle.prem_layout.specs.Broken.{broken_at_places, broken_late}
use Rattle.prem_layout.specs.Placed.{parts_of}
use Rattle.prem_prefetch.specs.declared.sizes.coded.CodedTask.{CodedTask}
use Rattle.prem_prefetch.specs.Sizes.CodedOf.{coded_in as coded_task}
use Rattle.prem_tasks.specs.Told.{Told}
use Rattle.prem_tasks.specs.At.{broken_early, code_broken}
use Rattle.prem_tasks.specs.Compiled.{coded_in}
use Rattle.prem_tasks.specs.Broken.{TaskSet, TaskText, broken, coded_of, text_rules, program_rules, range_rules, late_refusal, programs_of}
use Rattle.prem_tasks.specs.SetOf.{task_of}
use Rattle.prem_tasks.specs.declared.set.TaskText.{TaskText as TaskTree}
use Rattle.prem_compile.specs.Joined.{HasCode}
use Rattle.prem_profile.specs.declared.lines.task.TaskLines.{TaskLines as TaskLinesTree}
use Rattle.prem_profile.specs.Lines.Marks.{mark_lines}
use Rattle.prem_profile.specs.Lines.Table.{function_lines}
use Rattle.prem_profile.specs.Lines.Memory.{routine_lines}
use Rattle.prem_profile.specs.Lines.Tasks.{TaskLines, line_if_there, mark_line, marks_behind, stub_lines, task_lines}
use Rattle.prem_profile.specs.Lines.Told.{job_line, lines_told, marks_of, tables_of}
use Rattle.prem_profile.specs.Sets.{set_lines, tasks_lines}
use Rattle.prem_profile.specs.SetsTold.{tables_from}
use Rattle.prem_profile.proofs.LinesLemmas.Before.{routine_lines_are}

-- ---- lists

pub told_at : (tasks : List TaskLinesTree) (n : ℕ) → slice_get (map lines_told tasks) n ≡ option_map lines_told (slice_get tasks n)
told_at [] zero = refl
told_at [] (suc n) = refl
told_at (t ∷ tasks) zero = refl
told_at (t ∷ tasks) (suc n) = told_at tasks n

mapped_length : {A B : Type 0} (f : A → B) (xs : List A) → length (map f xs) ≡ length xs
mapped_length f [] = refl
mapped_length f (x ∷ xs) = ap suc (mapped_length f xs)

-- ---- a task

is_some_mapped : {A B : Type 0} (f : A → B) (o : Option A) → is_some (option_map f o) ≡ is_some o
is_some_mapped f None = refl
is_some_mapped f (Some x) = refl

module _ (target : Target) (turns : ℕ → ℕ) where
  functions_are : (m : ℕ) (rs : List RoutineTree) → map (routine_lines target) rs ≡ map (function_lines target) (routines_of turns m rs)
  functions_are m [] = refl
  functions_are m (r ∷ rs) = ap₂ (λ x xs. x ∷ xs) (routine_lines_are target turns m r) (functions_are (m + loops_of r.body) rs)

  job_is : (m : ℕ) (rs : List RoutineTree) (job : ℕ) → job_line rs job ≡ line_if_there (slice_get (routines_of turns m rs) job)
  job_is m [] zero = refl
  job_is m [] (suc job) = refl
  job_is m (r ∷ rs) zero = refl
  job_is m (r ∷ rs) (suc job) = job_is (m + loops_of r.body) rs job

  marks_are : (m : ℕ) (marks : List ℕ) (rs : List RoutineTree) → marks_of marks rs ≡ stub_lines marks (routines_of turns m rs)
  marks_are m marks [] = refl
  marks_are m marks (r ∷ rs) =
      let line = r.text.now.at.line in
      let next = m + loops_of r.body in
      ap (λ b. cond b (mark_line line marks ∷ marks_of (marks_behind marks) rs) (line ∷ marks_of marks rs)) (sym (is_some_mapped mark_of r.text.now.mark))
      ∙ ap₂ (λ xs ys. cond (is_some (option_map mark_of r.text.now.mark)) (mark_line line marks ∷ xs) (line ∷ ys)) (marks_are next (marks_behind marks) rs) (marks_are next marks rs)

  tables_are : (marks : List ℕ) (r : ResolvedTree) → tables_of target marks r ≡ task_lines target marks (resolved_of turns r)
  tables_are marks r = λ i. record {
    start = job_is 0 (items_of r.routines) r.job i;
    functions = functions_are 0 (items_of r.routines) i;
    stubs = marks_are 0 marks (items_of r.routines) i;
  }

-- ---- all tasks

from_all : (target : Target) (ts : List TaskTree) (cs : List CodedTask) → tables_from target ts cs ≡ tasks_lines target (map task_of ts) (map coded_task cs)
from_all target [] cs = refl
from_all target (t ∷ ts) [] = refl
from_all target (t ∷ ts) (c ∷ cs) =
    ap₂ (λ x xs. x ∷ xs) (tables_are target (slice_index c.turns.items) (mark_lines (items_of t.text)) c.program) (from_all target ts cs)

coded_length : (target : Target) (ts : List TaskText) (ps : List ProgramText) → length ps ≡ length ts → length (coded_of target ts ps) ≡ length ts
coded_length target [] ps e = refl
coded_length target (t ∷ ts) [] e = absurd cc
coded_length target (t ∷ ts) (p ∷ ps) e = let less : length ps ≡ length ts = omega (arith, e) in ap suc (coded_length target ts ps less)

pub lines_are : (set : TaskSet) (target : Target) (ts : List TaskTree) (cs told : List CodedTask) (lines : List TaskLines) → target ≡ set.plant.target → map task_of ts ≡ set.tasks →
    told ≡ cs → HasCode set cs → lines ≡ tables_from target ts told → lines ≡ set_lines set
lines_are set target ts cs told lines et es er h e =
    e ∙ ap (tables_from target ts) er ∙ from_all target ts cs ∙ (λ i. tasks_lines (et i) (es i) (h.tasks_are.same i))

pub counted : (set : TaskSet) (ts : List TaskTree) (cs told : List CodedTask) → map task_of ts ≡ set.tasks → told ≡ cs → HasCode set cs → length told ≡ length ts
counted set ts cs told es er h =
    ap length er ∙ sym (mapped_length coded_task cs) ∙ ap length h.tasks_are.same ∙ coded_length set.plant.target set.tasks (programs_of set.tasks) h.as_many
    ∙ ap length (sym es) ∙ mapped_length task_of ts

-- ---- rules

or_none : {A : Type 0} (a b : Option A) → a ≡ None → b ≡ None → or_else a b ≡ None
or_none None b ea eb = eb
or_none (Some x) b ea eb = absurd cc

halves : {A : Type 0} (a b : Option A) → or_else a b ≡ None → (a ≡ None) × (b ≡ None)
halves None b e = (refl, e)
halves (Some x) b e = absurd cc

first_late : (a b : Option (Refusal LateRule)) → late_refusal (or_else a b) ≡ None → late_refusal a ≡ None
first_late None b e = refl
first_late (Some r) b e = e

-- a set that breaks no rule breaks none up to code generation
early_kept : (set : TaskSet) → broken set ≡ None → broken_early set ≡ None
early_kept set e =
    let ps = programs_of set.tasks in
    let late = broken_late set.plant set.devices (coded_in set) in
    let one = halves (over_tasks text_rules set.tasks) (or_else (over_tasks program_rules ps) (or_else (over_tasks range_rules ps) (late_refusal late))) e in
    let two = halves (over_tasks program_rules ps) (or_else (over_tasks range_rules ps) (late_refusal late)) one.1 in
    let three = halves (over_tasks range_rules ps) (late_refusal late) two.1 in
    let four = first_late (code_broken set) (broken_at_places set.plant (default_places (parts_of set.plant set.devices (coded_in set))) (coded_in set)) three.1 in
    or_none (over_tasks text_rules set.tasks) (or_else (over_tasks program_rules ps) (or_else (over_tasks range_rules ps) (late_refusal (code_broken set)))) one.0
    (or_none (over_tasks program_rules ps) (or_else (over_tasks range_rules ps) (late_refusal (code_broken set))) two.0
    (or_none (over_tasks range_rules ps) (late_refusal (code_broken set)) three.0 four))

pub not_stopped : (set : TaskSet) (refusal : Refusal Told) → broken set ≡ None → broken_early set ≡ Some refusal → ⊥
not_stopped set refusal none some = let e = sym (early_kept set none) ∙ some in absurd cc
