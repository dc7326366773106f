-- The tasks of a set that breaks no rule are timed.
use Rattle.std.specs.Prelude.{◌-◌}
use Rattle.std.specs.List.{AllByRecursion}
use Rattle.std.proofs.Common.{◌≡◌, ℕ, suc, ◌+◌, ◌*◌, ◌≤◌, ◌^◌, Bool, true, false, cond, ltb, List, [], ◌∷◌, None, Some, refl, ap, sym, ◌∙◌, subst, arith, length, map}
use Rattle.std.proofs.lemmas.Bool.{ltb-false}
use Rattle.prem_list.specs.Sequence.{items_of}
use Rattle.prem_plant.specs.declared.plant.Plant.{Plant}
use Rattle.prem_plant.specs.declared.layout.PartSize.{PartSize}
use Rattle.prem_plant.specs.Places.{Extent}
use Rattle.prem_plant.specs.Ranges.{IsPlant}
use Rattle.prem_isa.specs.Decode.{cost_of}
use Rattle.prem_asm.specs.Pieces.{Pieces, weighted}
use Rattle.prem_layout.specs.Plans.{Plan}
use Rattle.prem_layout.specs.Footprint.{footprint_of}
use Rattle.prem_layout.specs.Bounds.{JobBound, part_weight, weight_at, costs_of, stub_weight, weight_listed, bound_of, line_cost}
use Rattle.prem_layout.specs.Facts.{IntervalFact, interval_fact, interval_facts_from}
use Rattle.prem_layout.specs.Placed.{Coded, Placed, name_at}
use Rattle.prem_layout.specs.Parts.{stub_passes}
use Rattle.prem_layout.specs.Stubs.{stub_of}
use Rattle.prem_layout.specs.Rules.{Length, short_interval, or_else, refused_by, over_tasks, reach_rules, conflict_rules, bound_rules, length_rules, log_rules}
use Rattle.prem_layout.specs.Stretch.Paths.{longest_of, greatest_stated}
use Rattle.prem_place.specs.Placed.PlacedOf.{plans_of, placed_of}
use Rattle.prem_place.specs.Totals.Limits.{IsBound}
use Rattle.prem_place.specs.declared.placed.PlacedTask.{PlacedTask}
use Rattle.prem_tasks.specs.Broken.{TaskSet}
use Rattle.prem_tasks.specs.Compiled.{CompiledText, coded_in, job_bounds}
use Rattle.prem_tasks.specs.At.{placed_by, placed_broken}
use Rattle.prem_sets_sound.proofs.ImagePremisesLemmas.Follow.{both_none, not_late}
use Rattle.prem_sets_sound.proofs.ImagePremisesLemmas.Rules.{none_among}
use Rattle.prem_compile.specs.Telling.Longest.{HasBound, longest_in}
use Rattle.prem_compile.specs.Joined.{HasPlaces, IsMadeAt}
use Rattle.prem_compile.specs.declared.compiled.Compiled.{Compiled}
use Rattle.prem_compile.proofs.TellingLemmas.Bounded.{have_bounds}
use Rattle.prem_wcet_laws.specs.Opens.{opening_code, opens_of}
use Rattle.prem_wcet.specs.KnownOf.{StandsWhole}
use Rattle.prem_wcet.specs.Lengths.{IsOpening, IsTimedTask}
use Rattle.prem_wcet.proofs.Openings.{C, stub_cost}
use Rattle.prem_wcet.proofs.Shorter.{weighted_more}
use Rattle.prem_wcet.proofs.Wholes.{tasks_whole}

-- ---- stated lengths reach openings

-- an opening is within the bound of its function, which is within its stated length
enough : (p : Plant) (t : Placed) (lines k : ℕ) (plan : Plan) (stub : Pieces) →
    weight_listed cost_of (part_weight (length t.table.code) (weight_at (costs_of t.table)) (λ j. 0)) t.table.stubs k
    ≡ weighted cost_of (part_weight (length t.table.code) (weight_at (costs_of t.table)) (λ j. 0)) stub →
    stub ≡ stub_of (stub_passes p) p.line t.at plan → bound_of p t.table k (length (footprint_of p.line t.at plan)) ≤ plan.stated → opens_of p t.at plan ≤ plan.stated
enough p t lines k plan stub listed es le =
    let c : ℕ → ℕ = part_weight (length t.table.code) (weight_at (costs_of t.table)) (λ j. 0) in
    let less : C stub ≤ weighted cost_of c stub = weighted_more cost_of (λ part. 0) c (λ part. omega arith) stub in
    let is : C stub ≡ C (opening_code p t.at plan) + 7 = ap C es ∙ stub_cost p t.at plan in
    sum (stub_weight cost_of (length t.table.code) t.table.stubs (costs_of t.table) k) (weighted cost_of c stub) (C stub)
    (C (opening_code p t.at plan)) (length (footprint_of p.line t.at plan) * line_cost p) plan.stated listed less is le
  where
    sum : (s w x o m n : ℕ) → s ≡ w → x ≤ w → x ≡ o + 7 → s - 1 - 2 + m ≤ n → o + m ≤ n
    sum s w x o m n a b c d = omega (arith, a, b, c, d)

-- those of the plans from number k on
opened : (p : Plant) (t : Placed) (most : ℕ) (k : ℕ) (plans : List Plan) (stubs : List Pieces) → stubs ≡ map (stub_of (stub_passes p) p.line t.at) plans →
    ((j : ℕ) → weight_listed cost_of (part_weight (length t.table.code) (weight_at (costs_of t.table)) (λ i. 0)) t.table.stubs (k + j)
    ≡ weight_listed cost_of (part_weight (length t.table.code) (weight_at (costs_of t.table)) (λ i. 0)) stubs j) →
    short_interval t.task.program.routines (interval_facts_from p t k plans) ≡ None → greatest_stated plans ≤ 2 ^ 40 → AllByRecursion IsOpening (map (opens_of p t.at) plans)
opened p t most k [] stubs es listed nine small = tt
opened p t most k (plan ∷ plans) [] es listed nine small = absurd cc
opened p t most k (plan ∷ plans) (stub ∷ stubs) es listed nine small =
    let first : stub ≡ stub_of (stub_passes p) p.line t.at plan = cc in
    let rest : stubs ≡ map (stub_of (stub_passes p) p.line t.at) plans = cc in
    let fact : IntervalFact = interval_fact p t k plan (footprint_of p.line t.at plan) in
    let w : ℕ → ℕ = part_weight (length t.table.code) (weight_at (costs_of t.table)) (λ i. 0) in
    let z : k + 0 ≡ k = omega arith in
    let here : weight_listed cost_of w t.table.stubs k ≡ weighted cost_of w stub = ap (weight_listed cost_of w t.table.stubs) (sym z) ∙ listed 0 in
    let more : (j : ℕ) → weight_listed cost_of w t.table.stubs (k + 1 + j) ≡ weight_listed cost_of w stubs j =
    λ j. (let s : k + 1 + j ≡ k + suc j = omega arith in ap (weight_listed cost_of w t.table.stubs) s ∙ listed (suc j)) in
    by (ltb fact.stated fact.bound) refl nine (λ le. enough p t 0 k plan stub here first le) (λ h. opened p t most (k + 1) plans stubs rest more h (omega (arith, small)))
  where
    by : (b : Bool) → ltb plan.stated (bound_of p t.table k (length (footprint_of p.line t.at plan))) ≡ b →
        cond b (Some (Length (name_at t.task.program.routines plan.function) (bound_of p t.table k (length (footprint_of p.line t.at plan)))
        plan.stated)) (short_interval t.task.program.routines (interval_facts_from p t (k + 1) plans)) ≡ None →
        (bound_of p t.table k (length (footprint_of p.line t.at plan)) ≤ plan.stated → opens_of p t.at plan ≤ plan.stated) →
        (short_interval t.task.program.routines (interval_facts_from p t (k + 1) plans) ≡ None →
        AllByRecursion IsOpening (map (opens_of p t.at) plans)) → AllByRecursion IsOpening (map (opens_of p t.at) (plan ∷ plans))
    by true lt e one others = absurd cc
    by false lt e one others =
        let le = one (ltb-false plan.stated (bound_of p t.table k (length (footprint_of p.line t.at plan))) lt) in
        (omega (arith, le, small), others e)

-- ---- a task, and all tasks

timed_task : (p : Plant) (t : PlacedTask) → StandsWhole p t → HasBound p t → IsBound (longest_of p (placed_of t).plans (placed_of t).table) → length_rules p (placed_of t) ≡ None → IsTimedTask p t
timed_task p t whole bound longest nine =
    let is = whole.task in
    let stubs : (placed_of t).table.stubs ≡ map (stub_of (stub_passes p) p.line t.places) (plans_of t) =
    ap (λ (q : Placed). q.table.stubs) is.same ∙ ap (λ ps. map (stub_of (stub_passes p) p.line t.places) ps) (sym (ap (λ (q : Placed). q.plans) is.same)) in
    record {
      whole = whole;
      bound = bound;
      opens = opened p (placed_of t) 0 0 (plans_of t) (placed_of t).table.stubs stubs
          (λ j. (let z : 0 + j ≡ j = omega arith in
          ap (weight_listed cost_of (part_weight (length (placed_of t).table.code) (weight_at (costs_of (placed_of t).table)) (λ i. 0))
          (placed_of t).table.stubs) z)) nine (omega (arith, longest));
    }

timed_all : (p : Plant) (ts : List PlacedTask) → AllByRecursion (StandsWhole p) ts → AllByRecursion (HasBound p) ts →
    AllByRecursion IsBound (longest_in p (map placed_of ts)) → AllByRecursion (λ t. length_rules p t ≡ None) (map placed_of ts) →
    AllByRecursion (IsTimedTask p) ts
timed_all p [] a b c d = tt
timed_all p (t ∷ ts) a b c d = (timed_task p t a.0 b.0 c.0 d.0, timed_all p ts a.1 b.1 c.1 d.1)

nine_kept : (set : TaskSet) (layout : List Extent) → placed_broken set layout ≡ None → AllByRecursion (λ t. length_rules set.plant t ≡ None) (placed_by set layout)
nine_kept set layout h =
    let p : Plant = set.plant in
    let placed : List Placed = placed_by set layout in
    let tasks : List Coded = coded_in set in
    let six = both_none (over_tasks reach_rules placed)
    (or_else (over_tasks (conflict_rules p) placed)
    (or_else (over_tasks (bound_rules p) placed) (or_else (over_tasks (length_rules p) placed) (refused_by None (log_rules tasks))))) h in
    let seven = both_none (over_tasks (conflict_rules p) placed)
    (or_else (over_tasks (bound_rules p) placed) (or_else (over_tasks (length_rules p) placed) (refused_by None (log_rules tasks)))) six.second in
    let eight = both_none (over_tasks (bound_rules p) placed) (or_else (over_tasks (length_rules p) placed) (refused_by None (log_rules tasks))) seven.second in
    let nine = both_none (over_tasks (length_rules p) placed) (refused_by None (log_rules tasks)) eight.second in
    none_among (length_rules p) 0 placed nine.first

pub tasks_timed : (set : TaskSet) (parts : List PartSize) (layout : List Extent) (tasks : List PlacedTask) (c : Compiled) → IsPlant set.plant →
    HasPlaces set parts layout tasks → IsMadeAt set layout c → AllByRecursion (IsTimedTask set.plant) tasks
tasks_timed set parts layout tasks c plant h made =
    let late : placed_broken set layout ≡ None = not_late (placed_broken set layout) (sym h.broken_is ∙ made.lawful) in
    let nine = subst (λ (ts : List Placed). AllByRecursion (λ t. length_rules set.plant t ≡ None) ts) (sym h.placed) (nine_kept set layout late) in
    let longest = subst (λ (ts : List Placed). AllByRecursion IsBound (longest_in set.plant ts)) (sym h.placed) (subst (AllByRecursion IsBound) made.bounds.longest made.bounds.small_longest) in
    let jobs = ap (λ (x : CompiledText). x.jobs) made.compiled ∙ ap (λ (ts : List Placed). map (λ (j : JobBound). j.bound) (job_bounds set.plant ts)) (sym h.placed) in
    timed_all set.plant tasks (tasks_whole set parts layout tasks c plant h made) (have_bounds set.plant tasks (items_of c.jobs) jobs made.bounds.small_jobs) longest nine
