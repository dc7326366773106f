-- The parts and the wants of a set: a line is a multiple of each alignment, and ranges lie in their parts.
use Rattle.std.specs.Prelude.{slice_index_or}
use Rattle.std.specs.Int.{IsPowerOfTwo}
use Rattle.std.specs.List.{AllByRecursion}
use Rattle.std.proofs.Common.{◌≡◌, ℕ, ◌+◌, ◌-◌, ◌*◌, ◌%◌, ◌^◌, ◌<◌, ◌≤◌, List, [], ◌∷◌, ◌++◌, refl, ap, sym, ◌∙◌, subst, ⊎_elim, arith, map}
use Rattle.std.proofs.Math.Nat.{mul-mod_left}
use Rattle.std.proofs.lemmas.Bool.{cases_lt}
use Rattle.std.proofs.lemmas.List.Elements.{All-from_recursion}
use Rattle.std.proofs.lemmas.Nat.{mul-le, pow-add, pow_below}
use Rattle.prem_plant.specs.declared.plant.Plant.{Plant}
use Rattle.prem_plant.specs.declared.plant.Device.{Device}
use Rattle.prem_plant.specs.declared.layout.PartSize.{PartSize}
use Rattle.prem_plant.specs.Ranges.{IsPlant}
use Rattle.prem_plant.proofs.Powers.{line_of_words, power_of_two}
use Rattle.prem_layout.specs.Plans.{Region, Plan, plans_of}
use Rattle.prem_layout.specs.Parts.{Passes, Sized, stub_passes, task_parts, parts_from, area_parts, part_count}
use Rattle.prem_layout.specs.Placed.{Coded, sized_of, parts_of}
use Rattle.prem_layout.proofs.TaskParts.{IsFour, parts_fours}
use Rattle.prem_color.specs.Offsets.{PartRange}
use Rattle.prem_color.specs.Rooms.{LiesIn, no_part}
use Rattle.prem_color.specs.Wants.{Want, Shape, shape_of, size_at, whole, code_number, stub_number, stack_number, stack_want, element_at, region_want, plan_ranges, plan_want}
use Rattle.prem_color.specs.Wants.{task_wants, wants_from, ranges_of}
use Rattle.prem_color.specs.Standing.{RegionStands, PlanStands, TasksStand}
use Rattle.prem_color.specs.Laws.{PartsAlignLines, WantsLie}
use Rattle.prem_color.proofs.Wanted.{ranges_append}

joined : {A : Type 0} (P : A → Type 0) (xs ys : List A) → AllByRecursion P xs → AllByRecursion P ys → AllByRecursion P (xs ++ ys)
joined P [] ys h k = k
joined P (x ∷ xs) ys h k = (h.0, joined P xs ys h.1 k)

-- ---- alignments

line_of_sixteens : (p : Plant) → IsPlant p → p.line % 16 ≡ 0
line_of_sixteens p h = by (power_of_two p.line (let line = h.line in omega (arith, line.1)) h.line_power)
  where
    by : IsPowerOfTwo p.line → p.line % 16 ≡ 0
    by (k, e) =
        let low : 16 ≤ p.line = h.line.0 in
        let large : 4 ≤ k = ⊎_elim (λ (lt : k < 4). absurd (omega (arith, pow_below k 4 lt, low))) (λ (ge : 4 ≤ k). ge) (cases_lt k 4) in
        let split : p.line ≡ 2 ^ (k - 4) * 2 ^ 4 = e ∙ ap (λ i. 2 ^ i) (omega arith) ∙ pow-add 2 (k - 4) 4 in
        ap (λ x. x % 2 ^ 4) split ∙ mul-mod_left (2 ^ (k - 4)) (2 ^ 4)

abbrev Aligns : ℕ → PartSize → Type 0
Aligns line part = line % part.align ≡ 0

fours_align : (line : ℕ) (xs : List PartSize) → line % 4 ≡ 0 → line % 16 ≡ 0 → AllByRecursion IsFour xs → AllByRecursion (Aligns line) xs
fours_align line [] four sixteen h = tt
fours_align line (x ∷ xs) four sixteen h =
    (⊎_elim (λ (e : x.align ≡ 4). ap (λ n. line % n) e ∙ four) (λ (e : x.align ≡ 16). ap (λ n. line % n) e ∙ sixteen) h.0, fours_align line xs four sixteen h.1)

tasks_fours : (passes : Passes) (n : ℕ) (ts : List Sized) → AllByRecursion IsFour (parts_from passes n ts)
tasks_fours passes n [] = tt
tasks_fours passes n (t ∷ ts) =
    joined IsFour (task_parts passes n t.sizes t.program) (parts_from passes (n + 1) ts) (parts_fours passes n t.sizes t.program) (tasks_fours passes (n + 1) ts)

areas_align : (line n : ℕ) (ds : List Device) → line % line ≡ 0 → AllByRecursion (Aligns line) (area_parts line n ds)
areas_align line n [] own = tt
areas_align line n (d ∷ ds) own = (own, areas_align line (n + 1) ds own)

pub parts_align_lines : PartsAlignLines
parts_align_lines p devices tasks plant =
    let once : p.line ≡ 1 * p.line = omega arith in
    let own : p.line % p.line ≡ 0 = ap (λ x. x % p.line) once ∙ mul-mod_left 1 p.line in
    let mine = parts_from (stub_passes p) 0 (map sized_of tasks) in
    All-from_recursion (Aligns p.line) (parts_of p devices tasks)
    (joined (Aligns p.line) mine (area_parts p.line 0 devices) (fours_align p.line mine (line_of_words p plant) (line_of_sixteens p plant) (tasks_fours (stub_passes p) 0 (map sized_of tasks)))
    (areas_align p.line 0 devices own))

-- ---- ranges

module _ (parts : List PartSize) where
  abbrev Lies : PartRange → Type 0
  Lies r = LiesIn parts r

  whole_lies : (n : ℕ) → Lies (whole parts n)
  whole_lies n = let same : size_at parts n ≡ (slice_index_or parts n no_part).size = refl in (omega arith, omega (arith, same))

  codes_lie : (first : ℕ) (fs : List ℕ) → AllByRecursion Lies (map (λ f. whole parts (code_number first f)) fs)
  codes_lie first [] = tt
  codes_lie first (f ∷ fs) = (whole_lies (code_number first f), codes_lie first fs)

  stack_lies : (n : ℕ) (plan : Plan) → Lies (stack_want parts n plan)
  stack_lies n plan = let same : size_at parts n ≡ (slice_index_or parts n no_part).size = refl in (omega arith, omega (arith, same))

  regions_lie : (s : Shape) (first : ℕ) (rs : List Region) → AllByRecursion (RegionStands parts s first) rs → AllByRecursion Lies (map (region_want s first) rs)
  regions_lie s first [] h = tt
  regions_lie s first (r ∷ rs) h =
      let order = h.0.order in
      ((mul-le r.1 (element_at s r.0) (r.2 + 1) (element_at s r.0) (omega (arith, order)) (omega arith), h.0.within), regions_lie s first rs h.1)

  plan_lies : (s : Shape) (first : ℕ) (plan : Plan) → PlanStands parts s first plan → AllByRecursion Lies (plan_ranges parts s first plan)
  plan_lies s first plan h = (
    whole_lies (stub_number s first plan.function),
    joined Lies (map (λ f. whole parts (code_number first f)) plan.reach) (stack_want parts (stack_number s first) plan ∷ map (region_want s first) plan.regions) (codes_lie first plan.reach)
        (stack_lies (stack_number s first) plan, regions_lie s first plan.regions h.regions),
  )

  plans_lie : (s : Shape) (task first : ℕ) (plans : List Plan) → AllByRecursion (PlanStands parts s first) plans →
      AllByRecursion (AllByRecursion Lies) (ranges_of (map (plan_want parts s task first) plans))
  plans_lie s task first [] h = tt
  plans_lie s task first (plan ∷ plans) h = (plan_lies s first plan h.0, plans_lie s task first plans h.1)

  tasks_lie : (n first : ℕ) (cs : List Coded) → TasksStand parts first cs → AllByRecursion (AllByRecursion Lies) (ranges_of (wants_from parts n first cs))
  tasks_lie n first [] h = tt
  tasks_lie n first (c ∷ cs) h =
      let mine : List Want = task_wants parts n first c.program in
      let more : List Want = wants_from parts (n + 1) (first + part_count c.program) cs in
      subst (λ (rs : List (List PartRange)). AllByRecursion (AllByRecursion Lies) rs) (sym (ranges_append mine more))
      (joined (AllByRecursion Lies) (ranges_of mine) (ranges_of more) (plans_lie (shape_of c.program) n first (plans_of c.program) h.0) (tasks_lie (n + 1) (first + part_count c.program) cs h.1))

pub wants_lie : WantsLie
wants_lie parts tasks stand = tasks_lie parts 0 0 tasks stand
