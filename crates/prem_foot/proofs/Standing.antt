-- Plans of a well-formed program may be looked at with the places of its parts.
use Rattle.std.specs.Prelude.{nat_lt, nat_le, not, is_some, ◌||◌, slice_get, slice_index_or, unwrap_or}
use Rattle.std.specs.Int.{next_multiple_of}
use Rattle.std.specs.List.{AllByRecursion, list_any}
use Rattle.std.specs.Str.{bytes_eq}
use Rattle.std.proofs.Common.{◌≡◌, ℕ, zero, suc, ◌+◌, ◌*◌, ◌<◌, ◌≤◌, ◌^◌, max, cond, Bool, true, false, List, [], ◌∷◌, ◌++◌, Option, None, Some, refl, ap, sym, ◌∙◌, subst, arith}
use Rattle.std.proofs.Common.{length, map, take, append_assoc}
use Rattle.std.proofs.lemmas.Nat.{mul-le}
use Rattle.std.proofs.lemmas.List.{length-map}
use Rattle.std.proofs.lemmas.Bool.Decides.{nat_tests}
use Rattle.prem_plant.specs.Places.{Extent}
use Rattle.prem_plant.specs.declared.layout.PartKind.TheVariants.{Global, Stack}
use Rattle.prem_plant.specs.declared.layout.PartSize.{PartSize}
use Rattle.prem_syntax.specs.declared.rules.TypeRule.TheVariants.{Region as RegionRule}
use Rattle.prem_syntax.specs.declared.tree.Ty.{Ty}
use Rattle.prem_syntax.specs.declared.tree.Ty.TheVariants.{Void, Int, Unsigned, Short, Ushort, Schar, Uchar}
use Rattle.prem_syntax.specs.Syntax.{Text, RegionText, MarkText, GlobalVariable, FunctionText, global_item, function_item, ProgramText}
use Rattle.prem_syntax.specs.Resolved.{Routine, Resolved}
use Rattle.prem_syntax.specs.Resolve.{Scope, find_named, find_global, scope_at, scope_in, loops_within, resolve_items, globals_of, functions_of, resolve}
use Rattle.prem_syntax.specs.Rules.{NoJob, OfTypes}
use Rattle.prem_syntax.specs.Breaches.{in_region, in_regions, regions_of, in_heading, in_parameters, in_locals, in_statements, in_option, around, parameter_texts, in_function}
use Rattle.prem_syntax.specs.Breaches.{in_global, in_items, item_names, in_limits, reached, is_job_name, if_broken}
use Rattle.prem_syntax.specs.Reach.{is_in_set}
use Rattle.prem_ranges.proofs.Basics.{none_left, none_right}
use Rattle.prem_ranges.proofs.Named.{kept_rule, found_at}
use Rattle.prem_ranges.proofs.WellFormed.{all_breaches}
use Rattle.prem_layout.specs.Template.Frames.{frame_at, depth_of, deepest_marked, stack_size}
use Rattle.prem_layout.specs.Plans.{Plan, Region, number_or, global_number, region_of, plan_before, plans_from, plans_of}
use Rattle.prem_layout.specs.Parts.{Passes, element_size, global_size, code_parts, stub_parts, global_parts, part, task_parts, part_count}
use Rattle.prem_layout.specs.Footprint.{no_place, place_at, global_range, stack_place}
use Rattle.prem_layout.specs.Placed.{task_places}
use Rattle.prem_layout.proofs.TaskParts.{globals_counted}
use Rattle.prem_foot.specs.PlacesOf.{IsRegionAt, IsPlanAt}
use Rattle.prem_foot.specs.Standing.{StandsAt, ArePartsAt, PlansStand}

-- ---- regions of well-formed programs

-- a region names a global, and its elements are some of that
pub record RegionFits (globals : List GlobalVariable) (r : RegionText) : Type 0 where
  pub number : ℕ
  pub global : GlobalVariable
  pub found : find_named (λ (g : GlobalVariable). g.name) r.name 0 globals ≡ Some (number, global)
  pub order : r.low ≤ r.high
  pub inside : r.high < unwrap_or global.len 1

found_more : (name : Text) (n : ℕ) (xs ys : List GlobalVariable) (r : ℕ × GlobalVariable) →
    find_named (λ (g : GlobalVariable). g.name) name n xs ≡ Some r → find_named (λ (g : GlobalVariable). g.name) name n (xs ++ ys) ≡ Some r
found_more name n [] ys r e = cc
found_more name n (x ∷ xs) ys r e = by (bytes_eq x.name name) e (λ h. found_more name (n + 1) xs ys r h)
  where
    by : (b : Bool) → cond b (Some (n, x)) (find_named (λ (g : GlobalVariable). g.name) name (n + 1) xs) ≡ Some r →
        (find_named (λ (g : GlobalVariable). g.name) name (n + 1) xs ≡ Some r → find_named (λ (g : GlobalVariable). g.name) name (n + 1) (xs ++ ys) ≡ Some r) →
        cond b (Some (n, x)) (find_named (λ (g : GlobalVariable). g.name) name (n + 1) (xs ++ ys)) ≡ Some r
    by true h more = h
    by false h more = more h

or_false : (a b : Bool) → a || b ≡ false → (a ≡ false) × (b ≡ false)
or_false true b e = absurd cc
or_false false b e = (refl, e)

region_fits : (globals later : List GlobalVariable) (r : RegionText) (found : Option (ℕ × GlobalVariable)) →
    find_named (λ (g : GlobalVariable). g.name) r.name 0 globals ≡ found → in_region r found ≡ [] → RegionFits (globals ++ later) r
region_fits globals later r None is e = absurd cc
region_fits globals later r (Some g) is e =
    let tests = or_false (nat_lt r.high r.low) (nat_le (unwrap_or g.1.len 1) r.high) (kept_rule (nat_lt r.high r.low || nat_le (unwrap_or g.1.len 1) r.high) r.at (OfTypes RegionRule) e) in
    let low = tests.0 in
    let high = tests.1 in
    record {
      number = g.0;
      global = g.1;
      found = found_more r.name 0 globals later g is;
      order = grind (arith, nat_tests);
      inside = grind (arith, nat_tests);
    }

regions_fit : (scope : Scope) (later : List GlobalVariable) (rs : List RegionText) → in_regions scope rs ≡ [] → AllByRecursion (RegionFits (scope.globals ++ later)) rs
regions_fit scope later [] e = tt
regions_fit scope later (r ∷ rs) e =
    let here = in_region r (find_global scope r.name) in
    let others = in_regions scope rs in
    (region_fits scope.globals later r (find_global scope r.name) refl (none_left here others e), regions_fit scope later rs (none_right here others e))

abbrev pub MarkFits : List GlobalVariable → Option MarkText → Type 0
MarkFits globals mark = AllByRecursion (RegionFits globals) (regions_of mark)

abbrev pub RoutineFits : List GlobalVariable → Routine → Type 0
RoutineFits globals f = MarkFits globals f.text.mark

marks_fit : (fs : List FunctionText) (taken : List Text) (within : List Bool) (n : ℕ) (globals : List GlobalVariable) (earlier : List Text) (turns : ℕ → ℕ) (m : ℕ) (items : ProgramText) →
    in_items fs taken within n globals earlier items ≡ [] → AllByRecursion (RoutineFits (globals ++ globals_of items)) (resolve_items fs turns m globals items)
marks_fit fs taken within n globals earlier turns m [] e = tt
marks_fit fs taken within n globals earlier turns m (global_item g ∷ items) e =
    let here = in_global earlier g in
    let others = in_items fs taken within n (globals ++ g ∷ []) (earlier ++ g.name ∷ []) items in
    subst (λ (gs : List GlobalVariable). AllByRecursion (RoutineFits gs) (resolve_items fs turns m (globals ++ g ∷ []) items)) (append_assoc globals (g ∷ []) (globals_of items))
    (marks_fit fs taken within n (globals ++ g ∷ []) (earlier ++ g.name ∷ []) turns m items (none_right here others e))
marks_fit fs taken within n globals earlier turns m (function_item f ∷ items) e =
    let inner = is_in_set within n in
    let others = in_items fs taken within (n + 1) globals (earlier ++ f.name ∷ []) items in
    let all = in_function fs taken n inner globals earlier f in
    let regions = in_regions (scope_at fs globals f) (regions_of f.mark) in
    let heading = in_heading earlier f in
    let parameters = in_parameters taken f.params in
    let locals = in_locals (taken ++ parameter_texts f.params) (scope_at fs globals f) f.locals in
    let statements = in_statements (around (scope_in fs globals f) n inner f) f.body in
    let result = in_option (scope_in fs globals f) f.result in
    let none : all ≡ [] = none_left all others e in
    let one = none_left (regions ++ heading ++ parameters ++ locals ++ statements) result none in
    let two = none_left (regions ++ heading ++ parameters ++ locals) statements one in
    let three = none_left (regions ++ heading ++ parameters) locals two in
    let four = none_left (regions ++ heading) parameters three in (
      regions_fit (scope_at fs globals f) (globals_of items) (regions_of f.mark) (none_left regions heading four),
      marks_fit fs taken within (n + 1) globals (earlier ++ f.name ∷ []) turns (m + loops_within f.body) items (none_right all others e),
    )

-- ---- parts by number

get_behind : (xs ys : List PartSize) (k : ℕ) → slice_get (xs ++ ys) (length xs + k) ≡ slice_get ys k
get_behind [] ys k = let z : 0 + k ≡ k = omega arith in ap (slice_get ys) z
get_behind (x ∷ xs) ys k = let z : suc (length xs) + k ≡ suc (length xs + k) = omega arith in ap (slice_get (x ∷ (xs ++ ys))) z ∙ get_behind xs ys k

codes_long : (task n : ℕ) (sizes : List ℕ) → length (code_parts task n sizes) ≡ length sizes
codes_long task n [] = refl
codes_long task n (s ∷ ss) = ap suc (codes_long task (n + 1) ss)

pub global_there : (task n k : ℕ) (gs : List GlobalVariable) (g : GlobalVariable) (rest : List PartSize) → slice_get gs k ≡ Some g →
    slice_get (global_parts task n gs ++ rest) k ≡ Some (part task (Global (n + k)) (global_size g) 4)
global_there task n k [] g rest e = absurd cc
global_there task n zero (x ∷ xs) g rest e = let same : x ≡ g = cc in let z : n ≡ n + 0 = omega arith in
    ap (λ (y : GlobalVariable). Some (part task (Global n) (global_size y) 4)) same ∙ ap (λ j. Some (part task (Global j) (global_size g) 4)) z
global_there task n (suc k) (x ∷ xs) g rest e = let z : (n + 1) + k ≡ n + suc k = omega arith in global_there task (n + 1) k xs g rest e ∙ ap (λ j. Some (part task (Global j) (global_size g) 4)) z

-- the number of a part behind the start, the code and the stubs
pub behind_stubs : (passes : Passes) (task k : ℕ) (sizes : List ℕ) (p : Resolved) →
    slice_get (task_parts passes task sizes p) (1 + length sizes + length (plans_of p) + k) ≡ slice_get (global_parts task 0 p.globals ++ part task Stack (stack_size p) 16 ∷ []) k
behind_stubs passes task k sizes p =
    let codes = code_parts task 0 sizes in
    let stubs = stub_parts passes task (plans_of p) in
    let rest = global_parts task 0 p.globals ++ part task Stack (stack_size p) 16 ∷ [] in
    let long : length stubs ≡ length (plans_of p) = length-map (plans_of p) _ in
    let z : 1 + length sizes + length (plans_of p) + k ≡ suc (length codes + (length stubs + k)) = omega (arith, codes_long task 0 sizes, long) in
    ap (slice_get (task_parts passes task sizes p)) z ∙ get_behind codes (stubs ++ rest) (length stubs + k) ∙ get_behind stubs rest k

pub stack_there : (task : ℕ) (gs : List GlobalVariable) (size : ℕ) → slice_get (global_parts task 0 gs ++ part task Stack size 16 ∷ []) (length gs) ≡ Some (part task Stack size 16)
stack_there task gs size =
    let globals = global_parts task 0 gs in
    let z : length gs ≡ length globals + 0 = omega (arith, globals_counted task 0 gs) in
    ap (slice_get (globals ++ part task Stack size 16 ∷ [])) z ∙ get_behind globals (part task Stack size 16 ∷ []) 0

-- ---- places by number

place_taken : (places : List Extent) (n k : ℕ) (p : Extent) → k < n → slice_get places k ≡ Some p → slice_index_or (take n places) k no_place ≡ p
place_taken [] n k p lt e = absurd cc
place_taken (q ∷ qs) zero k p lt e = absurd (omega arith)
place_taken (q ∷ qs) (suc n) zero p lt e = cc
place_taken (q ∷ qs) (suc n) (suc k) p lt e = place_taken qs n k p (omega arith) e

-- ---- plans

-- of plans from number n on: their regions fit, and their depths are at most that of the deepest
pub record PlanFits (p : Resolved) (most : ℕ) (plan : Plan) : Type 0 where
  pub mark : MarkText
  pub regions : plan.regions ≡ map (region_of p.globals) mark.regions
  pub fits : AllByRecursion (RegionFits p.globals) mark.regions
  pub base : plan.base ≡ frame_at p.routines p.job
  pub depth : plan.depth ≤ most

plans_fit : (p : Resolved) (most n : ℕ) (fs : List Routine) → deepest_marked (depth_of p.routines) n fs ≤ most →
    AllByRecursion (RoutineFits p.globals) fs → AllByRecursion (PlanFits p most) (plans_from p n fs)
plans_fit p most n [] deep fit = tt
plans_fit p most n (f ∷ fs) deep fit = by f.text.mark deep fit.0 (λ le. plans_fit p most (n + 1) fs le fit.1)
  where
    by : (mark : Option MarkText) → max (cond (is_some mark) (depth_of p.routines n) 0) (deepest_marked (depth_of p.routines) (n + 1) fs) ≤ most → MarkFits p.globals mark →
        (deepest_marked (depth_of p.routines) (n + 1) fs ≤ most → AllByRecursion (PlanFits p most) (plans_from p (n + 1) fs)) →
        AllByRecursion (PlanFits p most) (plan_before p n mark (plans_from p (n + 1) fs))
    by None le fits rest = rest (omega arith)
    by (Some mark) le fits rest = (record { mark = mark; regions = refl; fits = fits; base = refl; depth = omega arith }, rest (omega arith))

-- ---- a region at its place

element_some : (ty : Ty) → 1 ≤ element_size ty
element_some Void = omega arith
element_some Int = omega arith
element_some Unsigned = omega arith
element_some Short = omega arith
element_some Ushort = omega arith
element_some Schar = omega arith
element_some Uchar = omega arith

pub element_at : (gs : List GlobalVariable) (k : ℕ) (g : GlobalVariable) → slice_get gs k ≡ Some g → slice_index_or (map (λ (g : GlobalVariable). element_size g.ty) gs) k 0 ≡ element_size g.ty
element_at [] k g e = absurd cc
element_at (x ∷ xs) zero g e = let same : x ≡ g = cc in ap (λ (y : GlobalVariable). element_size y.ty) same
element_at (x ∷ xs) (suc k) g e = element_at xs k g e

pub inside_global : (element high len : ℕ) → high < len → (high + 1) * element ≤ next_multiple_of (element * len) 4
inside_global element high len lt =
    let m : (high + 1) * element ≤ len * element = mul-le (high + 1) element len element (omega arith) (omega arith) in
    omega (arith, m)

lines_small : (start element high memory : ℕ) → 1 ≤ element → start + (high + 1) * element ≤ memory → memory ≤ 2 ^ 24 → high < 2 ^ 24
lines_small start element high memory some le small =
    let m : (high + 1) * 1 ≤ (high + 1) * element = mul-le (high + 1) 1 (high + 1) element (omega arith) some in
    omega (arith, m)

get_inside : (gs : List GlobalVariable) (k : ℕ) (g : GlobalVariable) → slice_get gs k ≡ Some g → k < length gs
get_inside [] k g e = absurd cc
get_inside (x ∷ xs) zero g e = omega arith
get_inside (x ∷ xs) (suc k) g e = let lt = get_inside xs k g e in omega (arith, lt)

-- the place of what stands k parts behind the stubs
behind_at : (p : Resolved) (places : List Extent) (sizes : List ℕ) (memory k number : ℕ) (part : PartSize) → length sizes ≡ length p.routines →
    k ≤ length p.globals → number ≡ 1 + length sizes + length (plans_of p) + k →
    (s : StandsAt memory places number part) → place_at (task_places p places) (1 + length p.routines + length (task_places p places).marked + k) ≡ s.at
behind_at p places sizes memory k number part long le is s =
    let marked : length (task_places p places).marked ≡ length (plans_of p) = length-map (plans_of p) (λ (plan : Plan). plan.function) in
    let z : 1 + length p.routines + length (task_places p places).marked + k ≡ number = omega (arith, marked, long, is) in
    ap (place_at (task_places p places)) z ∙ place_taken places (part_count p) number s.at (omega (arith, long, is)) s.there

region_stands : (p : Resolved) (places : List Extent) (sizes : List ℕ) (passes : Passes) (task memory : ℕ) (r : RegionText) →
    length sizes ≡ length p.routines → memory ≤ 2 ^ 24 → ArePartsAt memory (task_parts passes task sizes p) places → RegionFits p.globals r →
    IsRegionAt (task_places p places) (region_of p.globals r)
region_stands p places sizes passes task memory r long small stand fit =
    let t = task_places p places in
    let g = fit.global in
    let k = fit.number in
    let number : global_number p.globals r.name ≡ k = ap (number_or 0) fit.found in
    let there : slice_get p.globals k ≡ Some g = found_at (λ (x : GlobalVariable). x.name) r.name p.globals (k, g) fit.found in
    let inside : k < length p.globals = get_inside p.globals k g there in
    let at_part = behind_stubs passes task k sizes p ∙ global_there task 0 k p.globals g (part task Stack (stack_size p) 16 ∷ []) there in
    let s = stand (1 + length sizes + length (plans_of p) + k) (part task (Global (0 + k)) (global_size g) 4) at_part in
    let place : global_range t k ≡ s.at =
    behind_at p places sizes memory k (1 + length sizes + length (plans_of p) + k) (part task (Global (0 + k)) (global_size g) 4) long
    (omega (arith, inside)) refl s in
    let element : slice_index_or t.elements k 0 ≡ element_size g.ty = element_at p.globals k g there in
    let fits : (r.high + 1) * element_size g.ty ≤ global_size g = inside_global (element_size g.ty) r.high (unwrap_or g.len 1) fit.inside in
    let start : (global_range t k).0 ≡ s.at.0 = ap (λ (q : Extent). q.0) place in
    let end : (global_range t k).0 + (r.high + 1) * slice_index_or t.elements k 0 ≤ memory =
    subst (λ n. n + (r.high + 1) * slice_index_or t.elements k 0 ≤ memory) (sym start)
    (subst (λ n. s.at.0 + (r.high + 1) * n ≤ memory) (sym element) (let a = s.ends in let b = s.within in omega (arith, fits, a, b))) in
    let few : r.high < 2 ^ 24 = lines_small (global_range t k).0 (slice_index_or t.elements k 0) r.high memory (subst (λ n. 1 ≤ n) (sym element) (element_some g.ty)) end small in
    let Q : ℕ → Type 0 = λ n. IsRegionAt t (n, r.low, r.high) in
    subst Q (sym number) (record { order = fit.order; small = few; ends = omega (arith, end, small) })

regions_stand : (p : Resolved) (places : List Extent) (sizes : List ℕ) (passes : Passes) (task memory : ℕ) (rs : List RegionText) →
    length sizes ≡ length p.routines → memory ≤ 2 ^ 24 → ArePartsAt memory (task_parts passes task sizes p) places →
    AllByRecursion (RegionFits p.globals) rs → AllByRecursion (IsRegionAt (task_places p places)) (map (region_of p.globals) rs)
regions_stand p places sizes passes task memory [] long small stand fits = tt
regions_stand p places sizes passes task memory (r ∷ rs) long small stand fits =
    (region_stands p places sizes passes task memory r long small stand fits.0, regions_stand p places sizes passes task memory rs long small stand fits.1)

-- ---- all plans

plan_stands : (p : Resolved) (places : List Extent) (sizes : List ℕ) (passes : Passes) (task memory most : ℕ) (plan : Plan) →
    length sizes ≡ length p.routines → memory ≤ 2 ^ 24 → ArePartsAt memory (task_parts passes task sizes p) places →
    frame_at p.routines p.job + most ≤ stack_size p → PlanFits p most plan → IsPlanAt (task_places p places) plan
plan_stands p places sizes passes task memory most plan long small stand room fit =
    let t = task_places p places in
    let gs = length p.globals in
    let at_part = behind_stubs passes task gs sizes p ∙ stack_there task p.globals (stack_size p) in
    let s = stand (1 + length sizes + length (plans_of p) + gs) (part task Stack (stack_size p) 16) at_part in
    let elements : length t.elements ≡ gs = length-map p.globals (λ (g : GlobalVariable). element_size g.ty) in
    let place : stack_place t ≡ s.at = ap (λ k. place_at t (1 + t.functions + length t.marked + k)) elements
    ∙ behind_at p places sizes memory gs (1 + length sizes + length (plans_of p) + gs) (part task Stack (stack_size p) 16) long (omega arith) refl s in
    let top : (stack_place t).1 ≡ s.at.1 = ap (λ (q : Extent). q.1) place in
    record {
      stack = let a = s.ends in let b = fit.base in let d = fit.depth in omega (arith, top, a, b, d, room);
      regions = let P : List Region → Type 0 = λ rs. AllByRecursion (IsRegionAt t) rs in
          subst P (sym fit.regions) (regions_stand p places sizes passes task memory fit.mark.regions long small stand fit.fits);
    }

each_stands : (p : Resolved) (places : List Extent) (sizes : List ℕ) (passes : Passes) (task memory most : ℕ) (plans : List Plan) →
    length sizes ≡ length p.routines → memory ≤ 2 ^ 24 → ArePartsAt memory (task_parts passes task sizes p) places →
    frame_at p.routines p.job + most ≤ stack_size p → AllByRecursion (PlanFits p most) plans → AllByRecursion (IsPlanAt (task_places p places)) plans
each_stands p places sizes passes task memory most [] long small stand room fits = tt
each_stands p places sizes passes task memory most (plan ∷ plans) long small stand room fits =
    (plan_stands p places sizes passes task memory most plan long small stand room fits.0, each_stands p places sizes passes task memory most plans long small stand room fits.1)

pub plans_stand : PlansStand
plans_stand passes memory task text turns sizes places formed small long stand =
    let p = resolve turns text in
    let fs = functions_of text in
    let limits = in_limits (globals_of text) fs in
    let no_job = if_broken (not (list_any (λ (f : FunctionText). is_job_name f.name) fs)) None NoJob in
    let items = in_items fs (item_names text) (reached fs) 0 [] [] text in
    let none : limits ++ no_job ++ items ≡ [] = all_breaches text formed in
    let fit = marks_fit fs (item_names text) (reached fs) 0 [] [] turns 0 text (none_right (limits ++ no_job) items none) in
    let most : ℕ = deepest_marked (depth_of p.routines) 0 p.routines in
    each_stands p places sizes passes task memory most (plans_of p) long small stand (omega arith) (plans_fit p most 0 p.routines (omega arith) fit)
