-- Parts, places, footprints and bounds don't rest on stated lengths.
use Rattle.std.specs.Prelude.{take, drop, ◌*◌, ◌/◌, ◌-◌, pos}
use Rattle.std.proofs.Common.{◌≡◌, ℕ, zero, suc, ◌+◌, List, [], ◌∷◌, ◌++◌, length, map, refl, ap, sym, ◌∙◌}
use Rattle.std.proofs.lemmas.List.{length-map}
use Rattle.prem_plant.specs.declared.plant.Plant.{Plant}
use Rattle.prem_plant.specs.declared.plant.Device.{Device}
use Rattle.prem_plant.specs.declared.plant.Target.{Target}
use Rattle.prem_plant.specs.declared.layout.PartKind.TheVariants.{Start, Stub, Stack}
use Rattle.prem_plant.specs.declared.layout.PartSize.{PartSize}
use Rattle.prem_plant.specs.Places.{Extent, default_places}
use Rattle.prem_isa.specs.declared.instr.Instr.TheVariants.{Jalr, PmMem}
use Rattle.prem_isa.specs.Decode.{cost_of}
use Rattle.prem_syntax.specs.Syntax.{ProgramText}
use Rattle.prem_syntax.specs.Resolved.{Resolved}
use Rattle.prem_ranges.specs.RangesKept.{bounded}
use Rattle.prem_asm.specs.Pieces.{Pieces, no_pieces, straight, followed, address_code, branch_of, size_of, weight, jump_weight, weighted}
use Rattle.prem_layout.specs.Plans.{Plan, plans_of}
use Rattle.prem_layout.specs.Parts.{Passes, once, times, stub_passes, part, stub_size, start_size, code_parts, stub_parts, global_parts, task_parts, parts_from, area_parts, part_count, element_size}
use Rattle.prem_layout.specs.Footprint.{TaskPlaces, ranges_of, line_count, footprint_of}
use Rattle.prem_layout.specs.Stubs.{is_below_end, line_code, ranges_code, return_code, stub_of}
use Rattle.prem_layout.specs.Bounds.{CodeTable, part_weight, weight_at, weights_behind, weight_listed, stub_weight, path_of}
use Rattle.prem_layout.specs.Facts.{IntervalFact, interval_facts_from}
use Rattle.prem_layout.specs.Placed.{Coded, sized_of, parts_of, task_places, Placed, placed_at, placed_from}
use Rattle.prem_tasks.specs.Broken.{TaskText, coded_one, coded_of}
use Rattle.prem_annotate_answer.specs.Lengths.{unstated, bounds_in, bounds_at, bounds_of, LengthsFollowNoLength}
use Rattle.prem_annotate_answer.proofs.Unstated.{bare_program, bounded_bare, codes_bare, stack_bare, bare_plan, plans_bare, count_routines}

abbrev pub bare_coded : Coded → Coded
bare_coded c = record c { program = bare_program c.program }

one_coded : (target : Target) (t : TaskText) (p : ProgramText) → coded_one target t (bounded (unstated p)) ≡ bare_coded (coded_one target t (bounded p))
one_coded target t p =
    ap (coded_one target t) (bounded_bare p) ∙ (λ i. record { name = t.name; period = t.period; jobs = t.jobs; program = bare_program (bounded p); code = codes_bare target (bounded p).routines i })

pub all_coded : (target : Target) (ts : List TaskText) (ps : List ProgramText) → coded_of target ts (map unstated ps) ≡ map bare_coded (coded_of target ts ps)
all_coded target [] ps = refl
all_coded target (t ∷ ts) [] = refl
all_coded target (t ∷ ts) (p ∷ ps) = λ i. one_coded target t p i ∷ all_coded target ts ps i

-- ---- parts

stub_parts_bare : (passes : Passes) (task : ℕ) (plans : List Plan) → stub_parts passes task (map bare_plan plans) ≡ stub_parts passes task plans
stub_parts_bare passes task [] = refl
stub_parts_bare passes task (x ∷ xs) = ap (λ l. part task (Stub x.function) (stub_size passes x) 4 ∷ l) (stub_parts_bare passes task xs)

task_parts_bare : (passes : Passes) (task : ℕ) (sizes : List ℕ) (p : Resolved) → task_parts passes task sizes (bare_program p) ≡ task_parts passes task sizes p
task_parts_bare passes task sizes p =
    let stubs : stub_parts passes task (plans_of (bare_program p)) ≡ stub_parts passes task (plans_of p) = ap (stub_parts passes task) (plans_bare p) ∙ stub_parts_bare passes task (plans_of p) in
    λ i. part task Start start_size 4 ∷ (code_parts task 0 sizes ++ (stubs i ++ (global_parts task 0 p.globals ++ (part task Stack (stack_bare p i) 16 ∷ []))))

parts_bare_from : (passes : Passes) (n : ℕ) (cs : List Coded) → parts_from passes n (map sized_of (map bare_coded cs)) ≡ parts_from passes n (map sized_of cs)
parts_bare_from passes n [] = refl
parts_bare_from passes n (c ∷ cs) = λ i. task_parts_bare passes n (map size_of c.code) c.program i ++ parts_bare_from passes (n + 1) cs i

pub parts_bare : (p : Plant) (devices : List Device) (cs : List Coded) → parts_of p devices (map bare_coded cs) ≡ parts_of p devices cs
parts_bare p devices cs = ap (λ (l : List PartSize). l ++ area_parts p.line 0 devices) (parts_bare_from (stub_passes p) 0 cs)

-- ---- places

plan_count : (p : Resolved) → length (plans_of (bare_program p)) ≡ length (plans_of p)
plan_count p = ap length (plans_bare p) ∙ length-map (plans_of p) bare_plan

pub count_bare : (p : Resolved) → part_count (bare_program p) ≡ part_count p
count_bare p = λ i. 2 + count_routines p i + plan_count p i + length p.globals

marked_bare : (plans : List Plan) → map (λ (plan : Plan). plan.function) (map bare_plan plans) ≡ map (λ (plan : Plan). plan.function) plans
marked_bare [] = refl
marked_bare (x ∷ xs) = ap (λ l. x.function ∷ l) (marked_bare xs)

pub places_bare : (p : Resolved) (places : List Extent) → task_places (bare_program p) places ≡ task_places p places
places_bare p places =
    let marked : map (λ (plan : Plan). plan.function) (plans_of (bare_program p)) ≡ map (λ (plan : Plan). plan.function) (plans_of p) =
    ap (map (λ (plan : Plan). plan.function)) (plans_bare p) ∙ marked_bare (plans_of p) in
    λ i. record { places = take (count_bare p i) places; functions = count_routines p i; marked = marked i; elements = map (λ g. element_size g.ty) p.globals }

-- ---- what stubs cost

abbrev range_before : ℕ → (ℕ → ℕ) → Extent → ℕ → ℕ
range_before line calls r behind =
    weight cost_of (address_code 5 (r.0 / line * line) ++ address_code 6 r.1)
    + (line_count line r * (0 + cost_of (branch_of is_below_end) + weighted cost_of calls (straight (line_code line) no_pieces) + jump_weight cost_of)
    + (0 + cost_of (branch_of is_below_end) + jump_weight cost_of) + behind)

ranges_cost : (line : ℕ) (calls : ℕ → ℕ) (rs : List Extent) (x y behind : Pieces) → weighted cost_of calls (followed x behind) ≡ weighted cost_of calls (followed y behind) →
    weighted cost_of calls (followed (ranges_code line rs x) behind) ≡ weighted cost_of calls (followed (ranges_code line rs y) behind)
ranges_cost line calls [] x y behind e = e
ranges_cost line calls (r ∷ rs) x y behind e = ap (range_before line calls r) (ranges_cost line calls rs x y behind e)

stub_cost : (passes : Passes) (line : ℕ) (at : TaskPlaces) (calls : ℕ → ℕ) (plan : Plan) →
    weighted cost_of calls (stub_of passes line at (bare_plan plan)) ≡ weighted cost_of calls (stub_of passes line at plan)
stub_cost once line at calls plan = ap (λ n. weight cost_of (PmMem ∷ []) + n) (ranges_cost line calls (ranges_of at plan) _ _ (straight return_code no_pieces) refl)
stub_cost (times n) line at calls plan = refl

listed_cost : (passes : Passes) (line : ℕ) (at : TaskPlaces) (calls : ℕ → ℕ) (plans : List Plan) (k : ℕ) →
    weight_listed cost_of calls (map (stub_of passes line at) (map bare_plan plans)) k ≡ weight_listed cost_of calls (map (stub_of passes line at) plans) k
listed_cost passes line at calls [] k = refl
listed_cost passes line at calls (x ∷ xs) zero = stub_cost passes line at calls x
listed_cost passes line at calls (x ∷ xs) (suc k) = listed_cost passes line at calls xs k

abbrev pub table_with : List Pieces → ℕ → List Pieces → CodeTable
table_with code job stubs = record { code = code; stubs = stubs; job = job }

pub path_bare : (passes : Passes) (line : ℕ) (at : TaskPlaces) (code : List Pieces) (job : ℕ) (plans : List Plan) →
    path_of (table_with code job (map (stub_of passes line at) (map bare_plan plans))) ≡ path_of (table_with code job (map (stub_of passes line at) plans))
path_bare passes line at code job plans =
    let n = length code in
    let stubs : stub_weight cost_of n (map (stub_of passes line at) (map bare_plan plans)) ≡ stub_weight cost_of n (map (stub_of passes line at) plans) =
    λ i known k. listed_cost passes line at (part_weight n (weight_at known) (λ j. 0)) plans k i in
    λ i k. stubs i (weights_behind cost_of n (stubs i) [] code) k - cost_of PmMem - cost_of (Jalr 0 4 (pos 0))

-- ---- bounds

abbrev bound_in : IntervalFact → ℕ
bound_in f = f.bound

facts_bare : (p : Plant) (s t : Placed) (k : ℕ) (plans : List Plan) → s.at ≡ t.at → path_of s.table ≡ path_of t.table →
    map bound_in (interval_facts_from p s k (map bare_plan plans)) ≡ map bound_in (interval_facts_from p t k plans)
facts_bare p s t k [] places paths = refl
facts_bare p s t k (x ∷ xs) places paths =
    λ i. (paths i k + length (footprint_of p.line (places i) x) * (p.fill + p.back)) ∷ facts_bare p s t (k + 1) xs places paths i

placed_bare : (p : Plant) (c : Coded) (at : TaskPlaces) → bounds_in p (placed_at p (bare_coded c) at) ≡ bounds_in p (placed_at p c at)
placed_bare p c at =
    let t = placed_at p c at in
    let stubs : List Plan → CodeTable = λ plans. table_with c.code c.program.job (map (stub_of (stub_passes p) p.line at) plans) in
    let with_plans : List Plan → Placed = λ plans. record { task = bare_coded c; at = at; plans = plans; table = stubs plans } in
    ap (λ plans. bounds_in p (with_plans plans)) (plans_bare c.program)
    ∙ facts_bare p (with_plans (map bare_plan (plans_of c.program))) t 0 (plans_of c.program) refl (path_bare (stub_passes p) p.line at c.code c.program.job (plans_of c.program))

all_placed_bare : (p : Plant) (places : List Extent) (cs : List Coded) → map (bounds_in p) (placed_from p places (map bare_coded cs)) ≡ map (bounds_in p) (placed_from p places cs)
all_placed_bare p places [] = refl
all_placed_bare p places (c ∷ cs) =
    let this : bounds_in p (placed_at p (bare_coded c) (task_places (bare_program c.program) places)) ≡ bounds_in p (placed_at p c (task_places c.program places)) =
    ap (λ at. bounds_in p (placed_at p (bare_coded c) at)) (places_bare c.program places) ∙ placed_bare p c (task_places c.program places) in
    let rest : map (bounds_in p) (placed_from p (drop (part_count (bare_program c.program)) places) (map bare_coded cs)) ≡ map (bounds_in p) (placed_from p (drop (part_count c.program) places) cs) =
    ap (λ n. map (bounds_in p) (placed_from p (drop n places) (map bare_coded cs))) (count_bare c.program) ∙ all_placed_bare p (drop (part_count c.program) places) cs in
    λ i. this i ∷ rest i

set_bare : (p : Plant) (devices : List Device) (cs : List Coded) → bounds_at p devices (map bare_coded cs) ≡ bounds_at p devices cs
set_bare p devices cs =
    ap (λ (parts : List PartSize). map (bounds_in p) (placed_from p (default_places parts) (map bare_coded cs))) (parts_bare p devices cs)
    ∙ all_placed_bare p (default_places (parts_of p devices cs)) cs

bounds_unstated : (p : Plant) (devices : List Device) (tasks : List TaskText) (ps : List ProgramText) → bounds_of p devices tasks (map unstated ps) ≡ bounds_of p devices tasks ps
bounds_unstated p devices tasks ps = ap (bounds_at p devices) (all_coded p.target tasks ps) ∙ set_bare p devices (coded_of p.target tasks ps)

pub lengths_unstated : LengthsFollowNoLength
lengths_unstated p devices tasks ps qs same = sym (bounds_unstated p devices tasks ps) ∙ ap (bounds_of p devices tasks) same ∙ bounds_unstated p devices tasks qs
