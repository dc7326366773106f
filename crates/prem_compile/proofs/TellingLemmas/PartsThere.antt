-- What the parts of a set are named by is there.
use Rattle.std.specs.List.{AllByRecursion}
use Rattle.std.proofs.Common.{ℕ, zero, suc, ◌+◌, ◌<◌, ◌≤◌, All, List, [], ◌∷◌, ◌++◌, Option, None, Some, subst, arith, length, map}
use Rattle.std.proofs.lemmas.List.{length-map}
use Rattle.prem_plant.specs.declared.plant.Device.{Device}
use Rattle.prem_plant.specs.declared.layout.PartKind.{PartKind}
use Rattle.prem_plant.specs.declared.layout.PartKind.TheVariants.{Start, Code, Stub, Global, Stack}
use Rattle.prem_plant.specs.declared.layout.PartSize.{PartSize}
use Rattle.prem_syntax.specs.Syntax.{MarkText, GlobalVariable}
use Rattle.prem_syntax.specs.Resolved.{Routine, Resolved}
use Rattle.prem_asm.specs.Pieces.{size_of}
use Rattle.prem_layout.specs.Template.Frames.{stack_size}
use Rattle.prem_layout.specs.Plans.{Plan, plan_before, plans_from, plans_of}
use Rattle.prem_layout.specs.Parts.{Passes, stub_passes, part, code_parts, stub_parts, global_parts, task_parts, parts_from, area_parts}
use Rattle.prem_layout.specs.Placed.{Coded, sized_of, parts_of}
use Rattle.prem_compile.specs.Telling.There.{HasCode, IsIn, IsAmong, IsThere}
use Rattle.prem_compile.specs.Telling.Laws.{PartsAreThere}

-- ---- lists

joined : {A : Type 0} (P : A → Type 0) (xs ys : List A) → AllByRecursion P xs → AllByRecursion P ys → AllByRecursion P (xs ++ ys)
joined P [] ys h g = g
joined P (x ∷ xs) ys h g = (h.0, joined P xs ys h.1 g)

all_from : {A : Type 0} (P : A → Type 0) (xs : List A) → AllByRecursion P xs → All P xs
all_from P [] h k d lt = absurd (omega arith)
all_from P (x ∷ xs) h zero d lt = h.0
all_from P (x ∷ xs) h (suc k) d lt = all_from P xs h.1 k d (omega arith)

-- ---- marked functions are among the functions

abbrev Below : ℕ → Plan → Type 0
Below limit plan = plan.function < limit

plans_below : (p : Resolved) (limit n : ℕ) (fs : List Routine) → n + length fs ≤ limit → AllByRecursion (Below limit) (plans_from p n fs)
plans_below p limit n [] le = tt
plans_below p limit n (f ∷ fs) le = by f.text.mark (plans_from p (n + 1) fs) (plans_below p limit (n + 1) fs (omega arith))
  where
    by : (mark : Option MarkText) (plans : List Plan) → AllByRecursion (Below limit) plans → AllByRecursion (Below limit) (plan_before p n mark plans)
    by None plans h = h
    by (Some mark) plans h = (omega arith, h)

-- ---- the parts of a set

module _ (devices : List Device) (all : List Coded) where
  abbrev There : PartSize → Type 0
  There = IsThere devices all

  code_there : (task limit n : ℕ) (sizes : List ℕ) → ((f : ℕ) → f < limit → IsAmong all task (Code f)) → n + length sizes ≤ limit → AllByRecursion There (code_parts task n sizes)
  code_there task limit n [] has le = tt
  code_there task limit n (s ∷ ss) has le = (has n (omega arith), code_there task limit (n + 1) ss has (omega arith))

  stubs_there : (passes : Passes) (task limit : ℕ) (plans : List Plan) → ((f : ℕ) → f < limit → IsAmong all task (Stub f)) →
      AllByRecursion (Below limit) plans → AllByRecursion There (stub_parts passes task plans)
  stubs_there passes task limit [] has below = tt
  stubs_there passes task limit (plan ∷ plans) has below = (has plan.function below.0, stubs_there passes task limit plans has below.1)

  globals_there : (task limit n : ℕ) (gs : List GlobalVariable) → ((g : ℕ) → g < limit → IsAmong all task (Global g)) → n + length gs ≤ limit → AllByRecursion There (global_parts task n gs)
  globals_there task limit n [] has le = tt
  globals_there task limit n (g ∷ gs) has le = (has n (omega arith), globals_there task limit (n + 1) gs has (omega arith))

  -- of a task that is among all
  task_there : (passes : Passes) (task : ℕ) (c : Coded) → ((kind : PartKind) → IsIn c kind → IsAmong all task kind) → HasCode c →
      AllByRecursion There (task_parts passes task (map size_of c.code) c.program)
  task_there passes task c has code =
      let functions : ℕ = length c.program.routines in
      let globals : ℕ = length c.program.globals in
      let long = length-map c.code size_of in
      let codes = code_there task functions 0 (map size_of c.code) (λ f lt. has (Code f) lt) (omega (arith, long, code)) in
      let stubs = stubs_there passes task functions (plans_of c.program) (λ f lt. has (Stub f) lt) (plans_below c.program functions 0 c.program.routines (omega arith)) in
      let variables = globals_there task globals 0 c.program.globals (λ g lt. has (Global g) lt) (omega arith) in
      let stack : List PartSize = part task Stack (stack_size c.program) 16 ∷ [] in
      let behind_stubs : List PartSize = global_parts task 0 c.program.globals ++ stack in
      let behind_code : List PartSize = stub_parts passes task (plans_of c.program) ++ behind_stubs in
      let all_variables = joined There (global_parts task 0 c.program.globals) stack variables (has Stack tt, tt) in
      let all_stubs = joined There (stub_parts passes task (plans_of c.program)) behind_stubs stubs all_variables in
      (has Start tt, joined There (code_parts task 0 (map size_of c.code)) behind_code codes all_stubs)

  tasks_there : (passes : Passes) (n : ℕ) (cs : List Coded) → ((k : ℕ) (kind : PartKind) → IsAmong cs k kind → IsAmong all (n + k) kind) →
      AllByRecursion HasCode cs → AllByRecursion There (parts_from passes n (map sized_of cs))
  tasks_there passes n [] has codes = tt
  tasks_there passes n (c ∷ cs) has codes =
      let first : (kind : PartKind) → IsIn c kind → IsAmong all n kind = λ kind h. subst (λ m. IsAmong all m kind) (omega arith) (has 0 kind h) in
      let behind : (k : ℕ) (kind : PartKind) → IsAmong cs k kind → IsAmong all (n + 1 + k) kind = λ k kind h. subst (λ m. IsAmong all m kind) (omega arith) (has (suc k) kind h) in
      joined There (task_parts passes n (map size_of c.code) c.program) (parts_from passes (n + 1) (map sized_of cs))
      (task_there passes n c first codes.0) (tasks_there passes (n + 1) cs behind codes.1)

  areas_there : (line n : ℕ) (ds : List Device) → n + length ds ≤ length devices → AllByRecursion There (area_parts line n ds)
  areas_there line n [] le = tt
  areas_there line n (d ∷ ds) le = (omega arith, areas_there line (n + 1) ds (omega arith))

pub parts_there : PartsAreThere
parts_there p devices tasks codes =
    let among : (k : ℕ) (kind : PartKind) → IsAmong tasks k kind → IsAmong tasks (0 + k) kind = λ k kind h. subst (λ m. IsAmong tasks m kind) (omega arith) h in
    all_from (IsThere devices tasks) (parts_of p devices tasks)
    (joined (IsThere devices tasks) (parts_from (stub_passes p) 0 (map sized_of tasks)) (area_parts p.line 0 devices)
    (tasks_there devices tasks (stub_passes p) 0 tasks among codes) (areas_there devices tasks p.line 0 devices (omega arith)))
