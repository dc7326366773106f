-- The parts of tasks in memory are those of the tasks for which they stand, and they may be placed.
use Rattle.std.specs.List.{AllByRecursion}
use Rattle.std.proofs.Common.{◌≡◌, ℕ, suc, ◌+◌, ◌*◌, ◌≤◌, List, [], ◌∷◌, ◌++◌, All, length, map, length-append, refl, ap, ◌∙◌, arith}
use Rattle.std.proofs.lemmas.List.{length-map}
use Rattle.std.proofs.lemmas.List.Elements.{All-from_recursion, recursion_from_All}
use Rattle.prem_list.specs.declared.Sequence.{Sequence}
use Rattle.prem_list.specs.Sequence.{items_of}
use Rattle.prem_plant.specs.declared.plant.Plant.{Plant}
use Rattle.prem_plant.specs.declared.plant.Device.{Device}
use Rattle.prem_plant.specs.declared.layout.PartKind.TheVariants.{Stack}
use Rattle.prem_plant.specs.declared.layout.PartSize.{PartSize}
use Rattle.prem_plant.specs.Ranges.{IsDevice}
use Rattle.prem_syntax.specs.Syntax.{GlobalVariable}
use Rattle.prem_syntax.specs.SyntaxOf.{global_of}
use Rattle.prem_asm.specs.declared.piece.Piece.{Piece}
use Rattle.prem_asm.specs.Pieces.{size_of}
use Rattle.prem_asm.specs.PiecesOf.{pieces_of}
use Rattle.prem_layout.specs.Plans.{Plan}
use Rattle.prem_layout.specs.Parts.{Passes, stub_passes, part, code_parts, stub_parts, global_parts, task_parts, parts_from, area_parts}
use Rattle.prem_layout.specs.Placed.{sized_of}
use Rattle.prem_layout.proofs.Lawful.{whole_areas, areas_may, code_may, globals_may, all_aligned, may_append, AllMay, stubs_may}
use Rattle.prem_layout.proofs.TaskParts.{code_counted, globals_counted, areas_counted}
use Rattle.prem_split.specs.PlanOf.{plan_of}
use Rattle.prem_prefetch.specs.Parts.Parts.{sizes_of, parts_with}
use Rattle.prem_prefetch.specs.declared.sizes.coded.CodedTask.{CodedTask}
use Rattle.prem_prefetch.specs.Sizes.CodedOf.{codes_in, coded_in, IsCodedTask}
use Rattle.prem_prefetch.specs.Sizes.Sizes.{globals_in, sized_parts, sized_from, parts_in, MayHavePlaces, MayHaveParts}
use Rattle.prem_prefetch.specs.Sizes.Laws.{PartsAreExact}

-- ---- the same parts

sizes_are : (code : List (Sequence Piece)) → sizes_of code ≡ map size_of (codes_in code)
sizes_are [] = refl
sizes_are (s ∷ ss) = ap (λ ns. size_of (pieces_of (items_of s)) ∷ ns) (sizes_are ss)

task_same : (passes : Passes) (n : ℕ) (t : CodedTask) → IsCodedTask t → sized_parts passes n t ≡ task_parts passes n (map size_of (coded_in t).code) (coded_in t).program
task_same passes n t is =
    let sizes : sizes_of (items_of t.code) ≡ map size_of (coded_in t).code = sizes_are (items_of t.code) in
    λ i. parts_with passes n (sizes i) (is.plans i) (coded_in t).program.globals (is.stack i)

tasks_same : (passes : Passes) (n : ℕ) (ts : List CodedTask) → AllByRecursion IsCodedTask ts → sized_from passes n ts ≡ parts_from passes n (map sized_of (map coded_in ts))
tasks_same passes n [] h = refl
tasks_same passes n (t ∷ ts) h =
    ap (λ (ps : List PartSize). ps ++ sized_from passes (n + 1) ts) (task_same passes n t h.0)
    ∙ ap (λ (ps : List PartSize). task_parts passes n (map size_of (coded_in t).code) (coded_in t).program ++ ps) (tasks_same passes (n + 1) ts h.1)

pub parts_are_exact : PartsAreExact
parts_are_exact p devices tasks h = ap (λ (ps : List PartSize). ps ++ area_parts p.line 0 devices) (tasks_same (stub_passes p) 0 tasks h)

-- ---- few parts

many_stubs : (passes : Passes) (task : ℕ) (plans : List Plan) → length (stub_parts passes task plans) ≡ length plans
many_stubs passes task [] = refl
many_stubs passes task (plan ∷ plans) = ap suc (many_stubs passes task plans)

many_with : (passes : Passes) (n : ℕ) (sizes : List ℕ) (plans : List Plan) (globals : List GlobalVariable) (stack : ℕ) →
    length (parts_with passes n sizes plans globals stack) ≡ 2 + length sizes + length plans + length globals
many_with passes n sizes plans globals stack =
    let codes : List PartSize = code_parts n 0 sizes in
    let stubs : List PartSize = stub_parts passes n plans in
    let gs : List PartSize = global_parts n 0 globals in
    let last : List PartSize = part n Stack stack 16 ∷ [] in
    omega (arith, length-append codes (stubs ++ (gs ++ last)), length-append stubs (gs ++ last), length-append gs last, code_counted n 0 sizes, many_stubs passes n plans, globals_counted n 0 globals)

few_of : (passes : Passes) (n : ℕ) (t : CodedTask) → MayHaveParts t → length (sized_parts passes n t) ≤ 1026
few_of passes n t may =
    let all = many_with passes n (sizes_of (items_of t.code)) (map plan_of (items_of t.plans)) (globals_in t.program) t.stack in
    let codes : length (sizes_of (items_of t.code)) ≡ length (items_of t.code) = length-map (items_of t.code) _ in
    let plans : length (map plan_of (items_of t.plans)) ≡ length (items_of t.plans) = length-map (items_of t.plans) plan_of in
    let globals : length (globals_in t.program) ≡ length t.program.globals.items = length-map t.program.globals.items (λ g. global_of g.now) in
    let a = may.codes in
    let b = may.marked in
    let c = may.program.globals in
    omega (arith, all, codes, plans, globals, a, b, c)

few_from : (passes : Passes) (n : ℕ) (ts : List CodedTask) → AllByRecursion MayHaveParts ts → length (sized_from passes n ts) ≤ 1026 * length ts
few_from passes n [] h = omega arith
few_from passes n (t ∷ ts) h =
    omega (arith, length-append (sized_parts passes n t) (sized_from passes (n + 1) ts), few_of passes n t h.0, few_from passes (n + 1) ts h.1)

-- ---- they may be placed

task_may : (passes : Passes) (line n : ℕ) (sizes : List ℕ) (plans : List Plan) (globals : List GlobalVariable) (stack : ℕ) → AllMay line (parts_with passes n sizes plans globals stack)
task_may passes line n sizes plans globals stack = (
  record { aligned = omega arith; whole = λ area. absurd area },
  may_append line (code_parts n 0 sizes) _ (code_may line n 0 sizes)
      (may_append line (stub_parts passes n plans) _ (stubs_may passes line n plans)
      (may_append line (global_parts n 0 globals) _ (globals_may line n 0 globals) (record { aligned = omega arith; whole = λ area. absurd area }, tt))),
)

tasks_may : (passes : Passes) (line n : ℕ) (ts : List CodedTask) → AllMay line (sized_from passes n ts)
tasks_may passes line n [] = tt
tasks_may passes line n (t ∷ ts) =
    may_append line (sized_parts passes n t) _
    (task_may passes line n (sizes_of (items_of t.code)) (map plan_of (items_of t.plans)) (globals_in t.program) t.stack)
    (tasks_may passes line (n + 1) ts)

pub parts_may_have_places : (p : Plant) (devices : List Device) (tasks : List CodedTask) → 1 ≤ p.line → AllByRecursion MayHaveParts tasks → length tasks ≤ 16 → length devices ≤ 8 →
    MayHavePlaces p.line (parts_in p devices tasks)
parts_may_have_places p devices tasks pos may few_tasks few_devices =
    let passes = stub_passes p in
    let all = may_append p.line (sized_from passes 0 tasks) (area_parts p.line 0 devices) (tasks_may passes p.line 0 tasks) (areas_may p.line 0 devices pos) in
    let long = length-append (sized_from passes 0 tasks) (area_parts p.line 0 devices) in
    record {
      aligned = All-from_recursion _ _ (all_aligned p.line (parts_in p devices tasks) all);
      whole = whole_areas p.line (parts_in p devices tasks) all;
      few = omega (arith, long, few_from passes 0 tasks may, areas_counted p.line 0 devices);
    }

pub few_lines : (devices : List Device) → All IsDevice devices → AllByRecursion (λ d. d.lines ≤ 1024) devices
few_lines devices all = by devices (recursion_from_All IsDevice devices all)
  where
    by : (ds : List Device) → AllByRecursion IsDevice ds → AllByRecursion (λ d. d.lines ≤ 1024) ds
    by [] h = tt
    by (d ∷ ds) h = (h.0.lines.1, by ds h.1)
