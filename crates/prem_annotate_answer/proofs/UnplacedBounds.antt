-- What is told of bounds doesn't rest on places.
use Rattle.std.specs.Prelude.{take, drop}
use Rattle.std.proofs.Common.{◌≡◌, ℕ, ◌+◌, List, [], ◌∷◌, ◌++◌, length, map, refl, ap, ◌∙◌}
use Rattle.prem_plant.specs.declared.plant.Plant.{Plant}
use Rattle.prem_plant.specs.declared.plant.Device.{Device}
use Rattle.prem_plant.specs.declared.plant.Target.{Target}
use Rattle.prem_plant.specs.declared.layout.PartSize.{PartSize}
use Rattle.prem_plant.specs.Places.{Extent, default_places}
use Rattle.prem_syntax.specs.Syntax.{GlobalVariable, ProgramText}
use Rattle.prem_syntax.specs.Resolved.{Resolved}
use Rattle.prem_ranges.specs.RangesKept.{bounded}
use Rattle.prem_text.specs.Canonical.Unplaced.{unplaced_global, unplaced}
use Rattle.prem_asm.specs.Pieces.{size_of}
use Rattle.prem_layout.specs.Plans.{Plan, plans_of}
use Rattle.prem_layout.specs.Parts.{Passes, stub_passes, parts_from, area_parts, part_count, element_size}
use Rattle.prem_layout.specs.Footprint.{TaskPlaces, footprint_of, most_of}
use Rattle.prem_layout.specs.Stubs.{stub_of}
use Rattle.prem_layout.specs.Bounds.{CodeTable, bound_of, job_bound_of}
use Rattle.prem_layout.specs.Facts.{interval_facts_from}
use Rattle.prem_layout.specs.Placed.{Coded, sized_of, parts_of, task_places, Placed, placed_at, placed_from}
use Rattle.prem_place.specs.Verdict.Told.{with_task, told_of, told_from}
use Rattle.prem_tasks.specs.Broken.{TaskText, coded_one, coded_of}
use Rattle.prem_annotate_answer.specs.Unplaced.{unplaced_resolved}
use Rattle.prem_annotate_answer.specs.Lengths.{told_by}
use Rattle.prem_annotate_answer.proofs.UnplacedRanges.{bounded_unplaced}
use Rattle.prem_annotate_answer.proofs.UnplacedCode.{length_same, codes_same, plans_same, task_parts_same, part_count_same}

abbrev unplaced_coded : Coded → Coded
unplaced_coded c = record c { program = unplaced_resolved c.program }

one_coded : (target : Target) (t : TaskText) (p : ProgramText) → coded_one target t (bounded (unplaced p)) ≡ unplaced_coded (coded_one target t (bounded p))
one_coded target t p =
    ap (coded_one target t) (bounded_unplaced p)
    ∙ (λ i. record { name = t.name; period = t.period; jobs = t.jobs; program = unplaced_resolved (bounded p); code = codes_same target (bounded p).routines i })

all_coded : (target : Target) (ts : List TaskText) (ps : List ProgramText) → coded_of target ts (map unplaced ps) ≡ map unplaced_coded (coded_of target ts ps)
all_coded target [] ps = refl
all_coded target (t ∷ ts) [] = refl
all_coded target (t ∷ ts) (p ∷ ps) = λ i. one_coded target t p i ∷ all_coded target ts ps i

-- ---- parts and places

parts_from_same : (passes : Passes) (n : ℕ) (cs : List Coded) → parts_from passes n (map sized_of (map unplaced_coded cs)) ≡ parts_from passes n (map sized_of cs)
parts_from_same passes n [] = refl
parts_from_same passes n (c ∷ cs) = λ i. task_parts_same passes n (map size_of c.code) c.program i ++ parts_from_same passes (n + 1) cs i

parts_same : (p : Plant) (devices : List Device) (cs : List Coded) → parts_of p devices (map unplaced_coded cs) ≡ parts_of p devices cs
parts_same p devices cs = ap (λ (l : List PartSize). l ++ area_parts p.line 0 devices) (parts_from_same (stub_passes p) 0 cs)

elements_same : (gs : List GlobalVariable) → map (λ (g : GlobalVariable). element_size g.ty) (map unplaced_global gs) ≡ map (λ (g : GlobalVariable). element_size g.ty) gs
elements_same [] = refl
elements_same (g ∷ gs) = ap (λ l. element_size g.ty ∷ l) (elements_same gs)

places_same : (p : Resolved) (places : List Extent) → task_places (unplaced_resolved p) places ≡ task_places p places
places_same p places =
    λ i. record {
      places = take (part_count_same p i) places;
      functions = length_same p.routines i;
      marked =
          map (λ (plan : Plan). plan.function) (plans_same p i);
      elements = elements_same p.globals i;
    }

-- ---- facts

facts_by : (p : Plant) (s t : Placed) (k : ℕ) (plans : List Plan) → s.at ≡ t.at → s.table ≡ t.table → interval_facts_from p s k plans ≡ interval_facts_from p t k plans
facts_by p s t k [] places tables = refl
facts_by p s t k (x ∷ xs) places tables =
    λ i. record {
      function = x.function;
      lines = length (footprint_of p.line (places i) x);
      most = most_of p.sets (footprint_of p.line (places i) x);
      bound = bound_of p (tables i) k (length (footprint_of p.line (places i) x));
      stated = x.stated;
    } ∷ facts_by p s t (k + 1) xs places tables i

told_same : (p : Plant) (n : ℕ) (c : Coded) (at : TaskPlaces) → told_of p n (placed_at p (unplaced_coded c) at) ≡ told_of p n (placed_at p c at)
told_same p n c at =
    let table : List Plan → CodeTable = λ plans. record { code = c.code; stubs = map (stub_of (stub_passes p) p.line at) plans; job = c.program.job } in
    let with_plans : List Plan → Placed = λ plans. record { task = unplaced_coded c; at = at; plans = plans; table = table plans } in
    let plans = plans_of c.program in
    ap (λ (xs : List Plan). told_of p n (with_plans xs)) (plans_same c.program)
    ∙ (λ i. record { facts = map (with_task n) (facts_by p (with_plans plans) (placed_at p c at) 0 plans refl refl i); job = job_bound_of p plans (table plans) })

all_told : (p : Plant) (n : ℕ) (places : List Extent) (cs : List Coded) → told_from p n (placed_from p places (map unplaced_coded cs)) ≡ told_from p n (placed_from p places cs)
all_told p n places [] = refl
all_told p n places (c ∷ cs) =
    let this : told_of p n (placed_at p (unplaced_coded c) (task_places (unplaced_resolved c.program) places)) ≡ told_of p n (placed_at p c (task_places c.program places)) =
    ap (λ at. told_of p n (placed_at p (unplaced_coded c) at)) (places_same c.program places) ∙ told_same p n c (task_places c.program places) in
    let rest : told_from p (n + 1) (placed_from p (drop (part_count (unplaced_resolved c.program)) places) (map unplaced_coded cs))
    ≡ told_from p (n + 1) (placed_from p (drop (part_count c.program) places) cs) =
    ap (λ m. told_from p (n + 1) (placed_from p (drop m places) (map unplaced_coded cs))) (part_count_same c.program) ∙ all_told p (n + 1) (drop (part_count c.program) places) cs in
    λ i. this i ∷ rest i

codes_told : (p : Plant) (devices : List Device) (cs : List Coded) →
    told_from p 0 (placed_from p (default_places (parts_of p devices (map unplaced_coded cs))) (map unplaced_coded cs)) ≡ told_from p 0 (placed_from p (default_places (parts_of p devices cs)) cs)
codes_told p devices cs =
    ap (λ (parts : List PartSize). told_from p 0 (placed_from p (default_places parts) (map unplaced_coded cs))) (parts_same p devices cs)
    ∙ all_told p 0 (default_places (parts_of p devices cs)) cs

pub told_unplaced : (p : Plant) (devices : List Device) (tasks : List TaskText) (ps : List ProgramText) → told_by p devices tasks (map unplaced ps) ≡ told_by p devices tasks ps
told_unplaced p devices tasks ps =
    ap (λ (cs : List Coded). told_from p 0 (placed_from p (default_places (parts_of p devices cs)) cs)) (all_coded p.target tasks ps) ∙ codes_told p devices (coded_of p.target tasks ps)
