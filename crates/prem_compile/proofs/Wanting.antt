-- The plans of a set's tasks name what is there among its parts.
use Rattle.std.specs.Prelude.{◌==◌, if◌then◌else◌, slice_get}
use Rattle.std.specs.List.{AllByRecursion}
use Rattle.std.proofs.Common.{◌≡◌, ℕ, zero, suc, ◌+◌, ◌*◌, ◌<◌, ◌≤◌, ◌^◌, Bool, true, false, List, [], ◌∷◌, ◌++◌, Option, None, Some, refl, ap, sym, ◌∙◌, subst, arith}
use Rattle.std.proofs.Common.{append_assoc, length, length-append, map}
use Rattle.std.proofs.lemmas.Bool.{eq-eqb}
use Rattle.std.proofs.lemmas.List.{length-map}
use Rattle.std.proofs.lemmas.List.Elements.{recursion_from_All}
use Rattle.std.proofs.lemmas.Nat.{mul-le}
use Rattle.prem_plant.specs.declared.layout.PartSize.{PartSize}
use Rattle.prem_plant.specs.declared.layout.PartKind.TheVariants.{Global, Stack}
use Rattle.prem_syntax.specs.Syntax.{GlobalVariable, ProgramText}
use Rattle.prem_syntax.specs.ProgramRules.{IsWellFormed}
use Rattle.prem_syntax.specs.Resolve.{resolve}
use Rattle.prem_syntax.specs.Resolved.{Resolved}
use Rattle.prem_ranges.specs.RangeBreaches.{length_of}
use Rattle.prem_asm.specs.Pieces.{size_of}
use Rattle.prem_layout.specs.Template.Frames.{stack_size}
use Rattle.prem_layout.specs.Template.Parts.{parts_of as code_parts_of}
use Rattle.prem_layout.specs.Plans.{Region, Plan, plans_of}
use Rattle.prem_layout.specs.Parts.{Passes, stub_passes, element_size, global_size, part, task_parts, parts_from, area_parts, part_count}
use Rattle.prem_layout.specs.Footprint.{index_of}
use Rattle.prem_layout.specs.Placed.{Coded, sized_of}
use Rattle.prem_layout.proofs.TaskParts.{parts_counted, get_behind}
use Rattle.prem_foot.proofs.Standing.{behind_stubs, global_there, stack_there, element_at as element_is, inside_global}
use Rattle.prem_prefetch.specs.Parts.Parts.{IsShortGlobal}
use Rattle.prem_prefetch.specs.Sizes.Sizes.{IsCodeOf, AreCodesOf}
use Rattle.prem_prefetch.proofs.SizesLemmas.Kept.{all_kept}
use Rattle.prem_prefetch.proofs.SizesLemmas.Programs.{as_many_codes as codes_long}
use Rattle.prem_color.specs.Wants.{Shape, shape_of, size_at, element_at, global_number, stack_number}
use Rattle.prem_color.specs.Standing.{RegionStands, PlanStands, TasksStand}
use Rattle.prem_tasks.specs.Broken.{TaskSet, programs_of}
use Rattle.prem_tasks.specs.Compiled.{coded_in, parts_in}
use Rattle.prem_sets_sound.specs.TaskLaws.TaskFrame.Plans.{IsRegion, IsLegalPlan}
use Rattle.prem_sets_sound.proofs.TaskLawsLemmas.LegalPlansLemmas.Legal.{plans_are_legal}
use Rattle.prem_sets_sound.proofs.StubLawsLemmas.InitialLemmas.Values.{size_small as element_small}

-- ---- lists

all_of : {A : Type 0} (P : A → Type 0) (xs : List A) → ((j : ℕ) (x : A) → slice_get xs j ≡ Some x → P x) → AllByRecursion P xs
all_of P [] each = tt
all_of P (x ∷ xs) each = (each 0 x refl, all_of P xs (λ j y e. each (suc j) y e))

all_at : {A : Type 0} (P : A → Type 0) (xs : List A) (k : ℕ) (x : A) → AllByRecursion P xs → slice_get xs k ≡ Some x → P x
all_at P [] k x h e = cc
all_at P (y ∷ ys) zero x h e = let same : y ≡ x = cc in subst P same h.0
all_at P (y ∷ ys) (suc k) x h e = all_at P ys k x h.1 e

get_left : {A : Type 0} (xs ys : List A) (k : ℕ) (x : A) → slice_get xs k ≡ Some x → slice_get (xs ++ ys) k ≡ Some x
get_left [] ys k x e = cc
get_left (y ∷ xs) ys zero x e = e
get_left (y ∷ xs) ys (suc k) x e = get_left xs ys k x e

size_from : (parts : List PartSize) (k : ℕ) (x : PartSize) → slice_get parts k ≡ Some x → size_at parts k ≡ x.size
size_from [] k x e = cc
size_from (y ∷ ys) zero x e = let same : y ≡ x = cc in ap (λ (q : PartSize). q.size) same
size_from (y ∷ ys) (suc k) x e = size_from ys k x e

index_there : (plans : List Plan) (j : ℕ) (plan : Plan) → slice_get plans j ≡ Some plan → index_of plan.function (map (λ (q : Plan). q.function) plans) < length (map (λ (q : Plan). q.function) plans)
index_there [] j plan e = cc
index_there (x ∷ xs) zero plan e =
    let same : x.function ≡ plan.function = (let is : x ≡ plan = cc in ap (λ (q : Plan). q.function) is) in
    subst (λ b. (if b then 0 else 1 + index_of plan.function (map (λ (q : Plan). q.function) xs)) < suc (length (map (λ (q : Plan). q.function) xs)))
    (sym (eq-eqb x.function plan.function same)) (omega arith)
index_there (x ∷ xs) (suc j) plan e = by (x.function == plan.function) (index_there xs j plan e)
  where
    by : (b : Bool) → index_of plan.function (map (λ (q : Plan). q.function) xs) < length (map (λ (q : Plan). q.function) xs) →
        (if b then 0 else 1 + index_of plan.function (map (λ (q : Plan). q.function) xs)) < suc (length (map (λ (q : Plan). q.function) xs))
    by true lt = omega arith
    by false lt = omega (arith, lt)

-- ---- one task

module _ (passes : Passes) (task : ℕ) (before after : List PartSize) (x : ProgramText) (turns : ℕ → ℕ) (formed : IsWellFormed x) (sizes : List ℕ)
    (long : length sizes ≡ length (resolve turns x).routines) where
  abbrev q : Resolved
  q = resolve turns x

  abbrev mine : List PartSize
  mine = task_parts passes task sizes q

  abbrev all : List PartSize
  all = before ++ (mine ++ after)

  abbrev first : ℕ
  first = length before

  abbrev s : Shape
  s = shape_of q

  marked_long : length s.marked ≡ length (plans_of q)
  marked_long = length-map (plans_of q) (λ (plan : Plan). plan.function)

  elements_long : length s.elements ≡ length q.globals
  elements_long = length-map q.globals (λ g. element_size g.ty)

  -- the size of what stands k parts behind the stubs
  size_behind : (k : ℕ) (y : PartSize) → slice_get mine (1 + length sizes + length (plans_of q) + k) ≡ Some y → size_at all (first + (1 + s.functions + length s.marked + k)) ≡ y.size
  size_behind k y e =
      let marked = marked_long in
      let z : first + (1 + s.functions + length s.marked + k) ≡ first + (1 + length sizes + length (plans_of q) + k) = omega (arith, marked, long) in
      ap (size_at all) z
      ∙ size_from all (first + (1 + length sizes + length (plans_of q) + k)) y
      (get_behind before (mine ++ after) (1 + length sizes + length (plans_of q) + k) ∙ get_left mine after (1 + length sizes + length (plans_of q) + k) y e)

  region_at : (r : Region) (g : GlobalVariable) → slice_get q.globals r.0 ≡ Some g → r.0 < length q.globals → r.1 ≤ r.2 → r.2 < length_of (slice_get q.globals r.0) → RegionStands all s first r
  region_at r g there lt order last =
      let elements = elements_long in
      let short : IsShortGlobal g = all_at IsShortGlobal q.globals r.0 g (all_kept x formed).lengths there in
      let count : r.2 < length_of (Some g) = subst (λ (o : Option GlobalVariable). r.2 < length_of o) there last in
      let element : element_at s r.0 ≡ element_size g.ty = element_is q.globals r.0 g there in
      let size : size_at all (global_number s first r.0) ≡ global_size g =
      size_behind r.0 (part task (Global (0 + r.0)) (global_size g) 4)
      (behind_stubs passes task r.0 sizes q ∙ global_there task 0 r.0 q.globals g (part task Stack (stack_size q) 16 ∷ []) there) in
      let fits : (r.2 + 1) * element_size g.ty ≤ global_size g = inside_global (element_size g.ty) r.2 _ count in
      let most : (r.2 + 1) * element_size g.ty ≤ 65536 * 4 = mul-le (r.2 + 1) (element_size g.ty) 65536 4 (omega (arith, count, short)) (element_small g.ty) in
      record {
        there = omega (arith, lt, elements);
        order = order;
        small = omega (arith, count, short);
        ends = subst (λ e. (r.2 + 1) * e < 2 ^ 32) (sym element) (omega (arith, most));
        within = subst (λ e. (r.2 + 1) * e ≤ size_at all (global_number s first r.0)) (sym element) (omega (arith, fits, size));
      }

  region_stands : (r : Region) → IsRegion q.globals r → RegionStands all s first r
  region_stands r is = by (slice_get q.globals r.0) refl
    where
      by : (o : Option GlobalVariable) → slice_get q.globals r.0 ≡ o → RegionStands all s first r
      by None there = let last : r.2 < length_of None = subst (λ (o : Option GlobalVariable). r.2 < length_of o) there is.last in absurd (omega (arith, last))
      by (Some g) there = region_at r g there is.there is.ordered is.last

  regions_stand : (rs : List Region) → AllByRecursion (IsRegion q.globals) rs → AllByRecursion (RegionStands all s first) rs
  regions_stand [] h = tt
  regions_stand (r ∷ rs) h = (region_stands r h.0, regions_stand rs h.1)

  plan_stands : (j : ℕ) (plan : Plan) → slice_get (plans_of q) j ≡ Some plan → PlanStands all s first plan
  plan_stands j plan e =
      let legal : IsLegalPlan x q plan = plans_are_legal x formed turns j plan e in
      let elements = elements_long in
      let size : size_at all (first + (1 + s.functions + length s.marked + length q.globals)) ≡ stack_size q =
      size_behind (length q.globals) (part task Stack (stack_size q) 16) (behind_stubs passes task (length q.globals) sizes q ∙ stack_there task q.globals (stack_size q)) in
      let z : stack_number s first ≡ first + (1 + s.functions + length s.marked + length q.globals) = omega (arith, elements) in
      let stack = legal.on_stack in
      record {
        stub = index_there (plans_of q) j plan e;
        reach = recursion_from_All (λ f. f < s.functions) plan.reach legal.reached;
        regions = regions_stand plan.regions (recursion_from_All (IsRegion q.globals) plan.regions legal.regions);
        stack = subst (λ n. plan.base + plan.depth ≤ n) (sym (ap (size_at all) z ∙ size)) stack;
      }

  pub plans_stand : AllByRecursion (PlanStands all s first) (plans_of q)
  plans_stand = all_of (PlanStands all s first) (plans_of q) plan_stands

-- ---- all tasks

code_stands : (passes : Passes) (task : ℕ) (before after : List PartSize) (p : ProgramText) (c : Coded) → IsCodeOf p c →
    AllByRecursion (PlanStands (before ++ (task_parts passes task (map size_of c.code) c.program ++ after)) (shape_of c.program) (length before)) (plans_of c.program)
code_stands passes task before after p c h =
    let sizes = map size_of c.code in
    let sized : length sizes ≡ length c.program.routines = length-map c.code size_of ∙ ap length h.code ∙ codes_long (code_parts_of h.target c.program.routines) c.program.routines in
    let long : length sizes ≡ length (resolve h.turns p).routines = sized ∙ ap (λ (r : Resolved). length r.routines) h.program in
    subst (λ (r : Resolved). AllByRecursion (PlanStands (before ++ (task_parts passes task sizes r ++ after)) (shape_of r) (length before)) (plans_of r)) (sym h.program)
    (plans_stand passes task before after p h.turns h.formed sizes long)

each_stands : (passes : Passes) (before after : List PartSize) (n : ℕ) (ps : List ProgramText) (cs : List Coded) → AreCodesOf ps cs →
    TasksStand (before ++ (parts_from passes n (map sized_of cs) ++ after)) (length before) cs
each_stands passes before after n ps [] h = tt
each_stands passes before after n [] (c ∷ cs) h = absurd h
each_stands passes before after n (p ∷ ps) (c ∷ cs) h =
    let sizes = map size_of c.code in
    let mine : List PartSize = task_parts passes n sizes c.program in
    let more : List PartSize = parts_from passes (n + 1) (map sized_of cs) in
    let sized : length sizes ≡ length c.program.routines = length-map c.code size_of ∙ ap length h.0.code ∙ codes_long (code_parts_of h.0.target c.program.routines) c.program.routines in
    let count : length mine ≡ part_count c.program = parts_counted passes n sizes c.program sized in
    let long : length (before ++ mine) ≡ length before + part_count c.program = length-append before mine ∙ ap (λ k. length before + k) count in
    let inner : mine ++ (more ++ after) ≡ (mine ++ more) ++ after = sym (append_assoc mine more after) in
    let outer : (before ++ mine) ++ (more ++ after) ≡ before ++ ((mine ++ more) ++ after) = append_assoc before mine (more ++ after) ∙ ap (λ ys. before ++ ys) inner in
    let rest : TasksStand ((before ++ mine) ++ (more ++ after)) (length (before ++ mine)) cs = each_stands passes (before ++ mine) after (n + 1) ps cs h.1 in (
      subst (λ (ys : List PartSize). AllByRecursion (PlanStands (before ++ ys) (shape_of c.program) (length before)) (plans_of c.program)) inner (code_stands passes n before (more ++ after) p c h.0),
      subst (λ k. TasksStand (before ++ ((mine ++ more) ++ after)) k cs) long (subst (λ (ys : List PartSize). TasksStand ys (length (before ++ mine)) cs) outer rest),
    )

pub tasks_stand : (set : TaskSet) → AreCodesOf (programs_of set.tasks) (coded_in set) → TasksStand (parts_in set) 0 (coded_in set)
tasks_stand set h = each_stands (stub_passes set.plant) [] (area_parts set.plant.line 0 set.devices) 0 (programs_of set.tasks) (coded_in set) h
