-- The ranges of wants place_in places are those of the plans, so where all wants have room no task has a conflict.
use Rattle.std.specs.Prelude.{is_none, slice_index_or}
use Rattle.std.specs.List.{AllByRecursion, list_all}
use Rattle.std.proofs.Common.{◌≡◌, ℕ, zero, suc, ◌+◌, ◌-◌, ◌*◌, ◌<◌, ◌≤◌, Bool, true, false, ◌&&◌, List, [], ◌∷◌, ◌++◌, Option, None, Some, refl, ap, ap₂, sym, ◌∙◌, subst, arith}
use Rattle.std.proofs.Common.{length, map, take, drop, slice_get}
use Rattle.std.proofs.lemmas.Bool.{and_parts}
use Rattle.std.proofs.lemmas.List.{length-map}
use Rattle.prem_plant.specs.declared.plant.Plant.{Plant}
use Rattle.prem_plant.specs.declared.layout.PartSize.{PartSize}
use Rattle.prem_plant.specs.declared.layout.PartKind.TheVariants.{Start}
use Rattle.prem_plant.specs.Places.{Extent, ArePlaces}
use Rattle.prem_syntax.specs.Resolved.{Resolved}
use Rattle.prem_layout.specs.Plans.{Region, Plan, plans_of}
use Rattle.prem_layout.specs.Parts.{element_size, part, part_count}
use Rattle.prem_layout.specs.Footprint.{TaskPlaces, Conflict, place_at, index_of, code_range, stub_range, stack_place, stack_range, region_range, ranges_of, lines_of, conflict_of}
use Rattle.prem_layout.specs.Placed.{Coded, task_places, placed_at, placed_from, part_total, name_at}
use Rattle.prem_layout.specs.Rules.{or_else, of_conflict, conflict_in, first_conflict, conflict_rules}
use Rattle.prem_layout.proofs.TaskParts.{place_in}
use Rattle.prem_color.specs.Offsets.{PartRange, range_in, range_before, placed_ranges, has_room, all_have_room}
use Rattle.prem_color.specs.Wants.{Want, Shape, shape_of, size_at, whole, code_number, stub_number, global_number, stack_number, stack_want, element_at, region_want, plan_ranges}
use Rattle.prem_color.specs.Wants.{plan_want, task_wants, wants_from}
use Rattle.prem_color.specs.Standing.{RegionStands, PlanStands, TasksStand}
use Rattle.prem_color.specs.Laws.{WantsLeaveNoConflict}

-- ---- places by number

get_at : (places : List Extent) (n : ℕ) → n < length places → slice_get places n ≡ Some (place_in places n)
get_at [] n lt = absurd (omega (arith, lt))
get_at (q ∷ qs) zero lt = refl
get_at (q ∷ qs) (suc n) lt = get_at qs n (omega (arith, lt))

taken_at : (count n : ℕ) (places : List Extent) → n < count → place_in (take count places) n ≡ place_in places n
taken_at zero n places lt = absurd (omega (arith, lt))
taken_at (suc count) n [] lt = refl
taken_at (suc count) zero (q ∷ qs) lt = refl
taken_at (suc count) (suc n) (q ∷ qs) lt = taken_at count n qs (omega (arith, lt))

dropped_at : (first n : ℕ) (places : List Extent) → place_in (drop first places) n ≡ place_in places (first + n)
dropped_at zero n places = let z : zero + n ≡ n = omega arith in ap (place_in places) (sym z)
dropped_at (suc first) n [] = refl
dropped_at (suc first) n (q ∷ qs) = dropped_at first n qs ∙ (let z : suc first + n ≡ suc (first + n) = omega arith in ap (place_in (q ∷ qs)) (sym z))

-- each place has the size of its part
abbrev HaveSizes : List PartSize → List Extent → Type 0
HaveSizes parts places = (n : ℕ) → n < length places → (place_in places n).1 ≡ (place_in places n).0 + size_at parts n

placed_head : (places : List Extent) (r : PartRange) (rs : List PartRange) → r.0 < length places → placed_ranges places (r ∷ rs) ≡ range_in (place_in places r.0) r ∷ placed_ranges places rs
placed_head places r rs lt = ap (λ o. range_before o r (placed_ranges places rs)) (get_at places r.0 lt)

cons_same : (x y : Extent) (xs ys : List Extent) → x ≡ y → xs ≡ ys → x ∷ xs ≡ y ∷ ys
cons_same x y xs ys e f = ap₂ (λ (a : Extent) (others : List Extent). a ∷ others) e f

pair_same : (a b c d : ℕ) → a ≡ c → b ≡ d → ◌≡◌ {A = Extent} (a, b) (c, d)
pair_same a b c d e f = λ i. (e i, f i)

whole_is : (parts : List PartSize) (places : List Extent) (n : ℕ) → HaveSizes parts places → n < length places → range_in (place_in places n) (whole parts n) ≡ place_in places n
whole_is parts places n sizes lt =
    let z : (place_in places n).0 + 0 ≡ (place_in places n).0 = omega arith in
    pair_same ((place_in places n).0 + 0) ((place_in places n).0 + size_at parts n) (place_in places n).0 (place_in places n).1 z (sym (sizes n lt))

-- ---- one plan

module _ (parts : List PartSize) (places : List Extent) (q : Resolved) (first : ℕ) (sizes : HaveSizes parts places) (there : first + part_count q ≤ length places) where
  abbrev t : TaskPlaces
  t = task_places q (drop first places)

  abbrev s : Shape
  s = shape_of q

  part_is : (k : ℕ) → k < part_count q → place_at t k ≡ place_in places (first + k)
  part_is k lt = taken_at (part_count q) k (drop first places) lt ∙ dropped_at first k places

  marked_long : length s.marked ≡ length (plans_of q)
  marked_long = length-map (plans_of q) (λ (plan : Plan). plan.function)

  elements_long : length s.elements ≡ length q.globals
  elements_long = length-map q.globals (λ g. element_size g.ty)

  codes_are : (fs : List ℕ) (rest : List PartRange) (more : List Extent) → AllByRecursion (λ f. f < s.functions) fs → placed_ranges places rest ≡ more →
      placed_ranges places (map (λ f. whole parts (code_number first f)) fs ++ rest) ≡ map (code_range t) fs ++ more
  codes_are [] rest more h e = e
  codes_are (f ∷ fs) rest more h e =
      let lt : f < length q.routines = h.0 in
      let small : 1 + f < part_count q = omega (arith, lt) in
      let inside : code_number first f < length places = omega (arith, small, there) in
      placed_head places (whole parts (code_number first f)) (map (λ g. whole parts (code_number first g)) fs ++ rest) inside
      ∙ cons_same (range_in (place_in places (code_number first f)) (whole parts (code_number first f))) (code_range t f)
      (placed_ranges places (map (λ g. whole parts (code_number first g)) fs ++ rest)) (map (code_range t) fs ++ more)
      (whole_is parts places (code_number first f) sizes inside ∙ sym (part_is (1 + f) small)) (codes_are fs rest more h.1 e)

  regions_are : (rs : List Region) → AllByRecursion (RegionStands parts s first) rs → placed_ranges places (map (region_want s first) rs) ≡ map (region_range t) rs
  regions_are [] h = refl
  regions_are (r ∷ rs) h =
      let lt : r.0 < length s.elements = h.0.there in
      let marked = marked_long in
      let elements = elements_long in
      let small : 1 + s.functions + length s.marked + r.0 < part_count q = omega (arith, lt, marked, elements) in
      let inside : global_number s first r.0 < length places = omega (arith, small, there) in
      placed_head places (region_want s first r) (map (region_want s first) rs) inside
      ∙ cons_same (range_in (place_in places (global_number s first r.0)) (region_want s first r)) (region_range t r) (placed_ranges places (map (region_want s first) rs)) (map (region_range t) rs)
      (ap (λ (g : Extent). (g.0 + r.1 * element_at s r.0, g.0 + (r.2 + 1) * element_at s r.0)) (sym (part_is (1 + s.functions + length s.marked + r.0) small))) (regions_are rs h.1)

  stack_small : 1 + s.functions + length s.marked + length s.elements < part_count q
  stack_small = let marked = marked_long in let elements = elements_long in omega (arith, marked, elements)

  stack_is : stack_place t ≡ place_in places (stack_number s first)
  stack_is = part_is (1 + s.functions + length s.marked + length s.elements) stack_small

  stack_range_is : (plan : Plan) → plan.base + plan.depth ≤ size_at parts (stack_number s first) →
      range_in (place_in places (stack_number s first)) (stack_want parts (stack_number s first) plan) ≡ stack_range t plan
  stack_range_is plan le =
      let n : ℕ = stack_number s first in
      let small = stack_small in
      let inside : n < length places = omega (arith, small, there) in
      let size : (place_in places n).1 ≡ (place_in places n).0 + size_at parts n = sizes n inside in
      let low : (place_in places n).0 + (size_at parts n - plan.base - plan.depth) ≡ (place_in places n).1 - plan.base - plan.depth = omega (arith, size, le) in
      let high : (place_in places n).0 + (size_at parts n - plan.base) ≡ (place_in places n).1 - plan.base = omega (arith, size, le) in
      pair_same ((place_in places n).0 + (size_at parts n - plan.base - plan.depth)) ((place_in places n).0 + (size_at parts n - plan.base))
      ((place_in places n).1 - plan.base - plan.depth) ((place_in places n).1 - plan.base) low high
      ∙ ap (λ (e : Extent). (e.1 - plan.base - plan.depth, e.1 - plan.base)) (sym stack_is)

  pub plan_is : (plan : Plan) → PlanStands parts s first plan → placed_ranges places (plan_ranges parts s first plan) ≡ ranges_of t plan
  plan_is plan h =
      let k : ℕ = index_of plan.function s.marked in
      let lt : k < length s.marked = h.stub in
      let marked = marked_long in
      let small : 1 + s.functions + k < part_count q = omega (arith, lt, marked) in
      let inside : stub_number s first plan.function < length places = omega (arith, small, there) in
      let last = stack_small in
      let stack_inside : stack_number s first < length places = omega (arith, last, there) in
      let behind : placed_ranges places (stack_want parts (stack_number s first) plan ∷ map (region_want s first) plan.regions) ≡ stack_range t plan ∷ map (region_range t) plan.regions =
      placed_head places (stack_want parts (stack_number s first) plan) (map (region_want s first) plan.regions) stack_inside
      ∙ cons_same (range_in (place_in places (stack_number s first)) (stack_want parts (stack_number s first) plan)) (stack_range t plan)
      (placed_ranges places (map (region_want s first) plan.regions)) (map (region_range t) plan.regions)
      (stack_range_is plan h.stack) (regions_are plan.regions h.regions) in
      placed_head places (whole parts (stub_number s first plan.function))
      (map (λ f. whole parts (code_number first f)) plan.reach
      ++ (stack_want parts (stack_number s first) plan ∷ map (region_want s first) plan.regions)) inside
      ∙ cons_same (range_in (place_in places (stub_number s first plan.function)) (whole parts (stub_number s first plan.function))) (stub_range t plan.function)
      (placed_ranges places (map (λ f. whole parts (code_number first f)) plan.reach
      ++ (stack_want parts (stack_number s first) plan ∷ map (region_want s first) plan.regions)))
      (map (code_range t) plan.reach ++ (stack_range t plan ∷ map (region_range t) plan.regions))
      (whole_is parts places (stub_number s first plan.function) sizes inside ∙ sym (part_is (1 + s.functions + k) small))
      (codes_are plan.reach (stack_want parts (stack_number s first) plan ∷ map (region_want s first) plan.regions) (stack_range t plan ∷ map (region_range t) plan.regions) h.reach behind)

-- ---- one task

none_is : (o : Option Conflict) → is_none o ≡ true → o ≡ None
none_is None e = refl
none_is (Some x) e = absurd (let z : false ≡ true = e in cc)

split_all : (test : List PartRange → Bool) (xs ys : List (List PartRange)) → list_all test (xs ++ ys) ≡ true → (list_all test xs ≡ true) × (list_all test ys ≡ true)
split_all test [] ys e = (refl, e)
split_all test (x ∷ xs) ys e =
    let a = and_parts _ _ e in
    let b = split_all test xs ys a.1 in
    (ap₂ (λ u v. u && v) a.0 b.0, b.1)

abbrev pub ranges_list : List Want → List (List PartRange)
ranges_list ws = map (λ (w : Want). w.ranges) ws

pub ranges_append : (xs ys : List Want) → ranges_list (xs ++ ys) ≡ ranges_list xs ++ ranges_list ys
ranges_append [] ys = refl
ranges_append (x ∷ xs) ys = ap (λ (rs : List (List PartRange)). x.ranges ∷ rs) (ranges_append xs ys)

module _ (p : Plant) (parts : List PartSize) (places : List Extent) (sizes : HaveSizes parts places) where
  plans_fit : (c : Coded) (task first : ℕ) (there : first + part_count c.program ≤ length places) (plans : List Plan) → AllByRecursion (PlanStands parts (shape_of c.program) first) plans →
      all_have_room p (ranges_list (map (plan_want parts (shape_of c.program) task first) plans)) places ≡ true →
      first_conflict p (placed_at p c (task_places c.program (drop first places))) plans ≡ None
  plans_fit c task first there [] h e = refl
  plans_fit c task first there (plan ∷ plans) h e =
      let a = and_parts _ _ e in
      let place_in : TaskPlaces = task_places c.program (drop first places) in
      let room : has_room p (ranges_of place_in plan) ≡ true = subst (λ ranges. has_room p ranges ≡ true) (plan_is parts places c.program first sizes there plan h.0) a.0 in
      let none : conflict_of p.sets p.«ways» (lines_of p.line (ranges_of place_in plan)) ≡ None = none_is (conflict_of p.sets p.«ways» (lines_of p.line (ranges_of place_in plan))) room in
      let here : conflict_in p (placed_at p c place_in) plan ≡ None = ap (of_conflict (name_at c.program.routines plan.function) p.«ways») none in
      ap (λ o. or_else o (first_conflict p (placed_at p c place_in) plans)) here ∙ plans_fit c task first there plans h.1 a.1

  tasks_fit : (tasks : List Coded) (task first : ℕ) → first + part_total tasks ≤ length places → TasksStand parts first tasks →
      all_have_room p (ranges_list (wants_from parts task first tasks)) places ≡ true →
      AllByRecursion (λ t. conflict_rules p t ≡ None) (placed_from p (drop first places) tasks)
  tasks_fit [] task first le h e = tt
  tasks_fit (c ∷ cs) task first le h e =
      let test : List PartRange → Bool = λ ranges. has_room p (placed_ranges places ranges) in
      let mine : List Want = task_wants parts task first c.program in
      let more : List Want = wants_from parts (task + 1) (first + part_count c.program) cs in
      let both = split_all test (ranges_list mine) (ranges_list more) (ap (list_all test) (sym (ranges_append mine more)) ∙ e) in
      let next : AllByRecursion (λ t. conflict_rules p t ≡ None) (placed_from p (drop (first + part_count c.program) places) cs) =
      tasks_fit cs (task + 1) (first + part_count c.program) (omega (arith, le)) h.1 both.1 in (
        plans_fit c task first (omega (arith, le)) (plans_of c.program) h.0 both.0,
        subst (λ (ps : List Extent). AllByRecursion (λ t. conflict_rules p t ≡ None) (placed_from p ps cs)) (drop_more first (part_count c.program) places) next,
      )
    where
      drop_nil : (n : ℕ) → drop {A = Extent} n [] ≡ []
      drop_nil zero = refl
      drop_nil (suc n) = refl

      drop_more : (n m : ℕ) (xs : List Extent) → drop (n + m) xs ≡ drop m (drop n xs)
      drop_more zero m xs = let z : zero + m ≡ m = omega arith in ap (λ k. drop k xs) z
      drop_more (suc n) m [] = drop_nil (suc n + m) ∙ sym (drop_nil m)
      drop_more (suc n) m (x ∷ xs) = let z : suc n + m ≡ suc (n + m) = omega arith in ap (λ k. drop k (x ∷ xs)) z ∙ drop_more n m xs

-- ---- a set

size_there : (memory : ℕ) (parts : List PartSize) (places : List Extent) → ArePlaces memory parts places → HaveSizes parts places
size_there memory parts places h n lt =
    let count : length places ≡ length parts = h.count in
    let there : slice_get parts n ≡ Some (slice_index_or parts n (part 0 Start 0 1)) = get_part parts n (omega (arith, lt, count)) in
    h.ends n (slice_index_or parts n (part 0 Start 0 1)) (place_in places n) there (get_at places n lt)
  where
    get_part : (xs : List PartSize) (k : ℕ) → k < length xs → slice_get xs k ≡ Some (slice_index_or xs k (part 0 Start 0 1))
    get_part [] k less = absurd (omega (arith, less))
    get_part (x ∷ xs) zero less = refl
    get_part (x ∷ xs) (suc k) less = get_part xs k (omega (arith, less))

pub wants_leave_no_conflict : WantsLeaveNoConflict
wants_leave_no_conflict p memory parts places tasks h le stand room =
    let count : length places ≡ length parts = h.count in
    tasks_fit p parts places (size_there memory parts places h) tasks 0 0 (omega (arith, le, count)) stand room
