-- By cycle 2 ^ 61 all jobs of a set that breaks no rule have ended.
use Rattle.std.specs.Prelude.{◌==◌, if◌then◌else◌, max, slice_index}
use Rattle.std.specs.List.{AllByRecursion}
use Rattle.std.proofs.Common.{◌≡◌, ℕ, suc, ◌+◌, ◌-◌, ◌*◌, ◌^◌, ◌<◌, ◌≤◌, nat_lt, Bool, true, false, List, [], ◌∷◌, length, map, drop, Option, None, Some, refl, arith, All}
use Rattle.std.proofs.lemmas.Bool.Decides.{nat_tests}
use Rattle.std.proofs.lemmas.Nat.{mul-le}
use Rattle.std.proofs.lemmas.List.{length-map}
use Rattle.std.proofs.lemmas.List.Elements.{All-head, All-tail}
use Rattle.prem_list.specs.Sequence.{items_of}
use Rattle.prem_plant.specs.declared.plant.Plant.{Plant}
use Rattle.prem_plant.specs.Places.{Extent}
use Rattle.prem_syntax.specs.Syntax.{Text, ProgramText}
use Rattle.prem_syntax.specs.ProgramRules as meaning
use Rattle.prem_syntax.specs.Resolved.{Routine}
use Rattle.prem_syntax.specs.Statements.{is_marked}
use Rattle.prem_ranges.specs.RangesKept.{turn_bounds, bounded}
use Rattle.prem_layout.specs.Bounds.{job_bound_of, JobBound, last_release, work_of, limit_of}
use Rattle.prem_layout.specs.Facts.{IntervalFact, interval_facts}
use Rattle.prem_layout.specs.Parts.{part_count}
use Rattle.prem_layout.specs.Placed.{Coded, Placed, placed_at, placed_from, task_places}
use Rattle.prem_layout.specs.Rules.{BoundTooLarge, or_else, refused_by, first_among, over_tasks, greatest_bound, if_large, marked_bound, facts_behind, large_bound, code_rules}
use Rattle.prem_layout.specs.Rules.{memory_rules, reach_rules, conflict_rules, bound_rules, length_rules, log_rules}
use Rattle.prem_layout.specs.Broken.{broken_late}
use Rattle.prem_tasks.specs.declared.set.TaskText.{TaskText as TaskTree}
use Rattle.prem_tasks.specs.declared.set.TaskSet.{TaskSet as SetTree}
use Rattle.prem_tasks.specs.Lawful.{IsTaskText}
use Rattle.prem_tasks.specs.Broken.{TaskText, TaskSet, text_rules, programs_of, program_rules, range_rules, coded_one, coded_of, late_refusal, broken_programs, broken}
use Rattle.prem_tasks.specs.Compiled.{compiled, coded_in, places_in, placed_in, job_bounds}
use Rattle.prem_tasks.specs.SetOf.{set_of, task_of}
use Rattle.prem_running.proofs.SetLawsLemmas.Nothing.{none_first, none_second, unrefused, unmapped, not_late}
use Rattle.prem_running.proofs.SetLawsLemmas.Jobs.{job_below}

-- ---- the bound of one job

small_bound : (name : Text) (bound : ℕ) → if_large name bound ≡ None → bound ≤ 1099511627776
small_bound name bound h = by (nat_lt greatest_bound bound) refl h where
  by : (b : Bool) → nat_lt greatest_bound bound ≡ b → (if b then Some (BoundTooLarge name) else None) ≡ None → bound ≤ 1099511627776
  by true is e = cc
  by false is e = grind (arith, nat_tests)

not_large : (job bound n : ℕ) (facts : List IntervalFact) (fs : List Routine) → large_bound job bound n facts fs ≡ None → n ≤ job → job < n + length fs → bound ≤ 1099511627776
not_large job bound n facts [] h low high = absurd (omega arith)
not_large job bound n facts (f ∷ fs) h low high =
    by (n == job) refl
    (none_second (marked_bound (is_marked f) f.text.name facts)
    (or_else (if n == job then if_large f.text.name bound else None) (large_bound job bound (n + 1) (facts_behind (is_marked f) facts) fs)) h)
    (λ rest other. not_large job bound (n + 1) (facts_behind (is_marked f) facts) fs rest other (omega arith))
  where
    by : (b : Bool) → (n == job) ≡ b → or_else (if b then if_large f.text.name bound else None) (large_bound job bound (n + 1) (facts_behind (is_marked f) facts) fs) ≡ None →
        (large_bound job bound (n + 1) (facts_behind (is_marked f) facts) fs ≡ None → n + 1 ≤ job → bound ≤ 1099511627776) → bound ≤ 1099511627776
    by true is e more = small_bound f.text.name bound (none_first _ _ e)
    by false is e more = more e (grind (arith, nat_tests))

-- ---- those of all jobs

abbrev pub InRange : TaskText → Type 0
InRange t = (t.period ≤ 4294967295) × (t.jobs ≤ 65535)

abbrev pub IsSmall : JobBound → Type 0
IsSmall j = ((j.period ≤ 4294967295) × (j.jobs ≤ 65535)) × (j.bound ≤ 1099511627776)

pub bounds_are_small : (p : Plant) (m n : ℕ) (places : List Extent) (ts : List TaskText) (qs : List ProgramText) → AllByRecursion InRange ts →
    first_among program_rules m qs ≡ None → first_among (bound_rules p) n (placed_from p places (coded_of p.target ts qs)) ≡ None →
    AllByRecursion IsSmall (job_bounds p (placed_from p places (coded_of p.target ts qs)))
bounds_are_small p m n places [] qs ranges two eight = tt
bounds_are_small p m n places (t ∷ ts) [] ranges two eight = tt
bounds_are_small p m n places (t ∷ ts) (q ∷ qs) ranges two eight =
    let c = coded_one p.target t (bounded q) in
    let rest = drop (part_count c.program) places in
    let placed : Placed = placed_at p c (task_places c.program places) in
    let formed : meaning.first_breach q ≡ None =
    unmapped _ (meaning.first_breach q) (unrefused (Some m) (program_rules q) (none_first (refused_by (Some m) (program_rules q)) (first_among program_rules (m + 1) qs) two)) in
    let others : first_among program_rules (m + 1) qs ≡ None = none_second (refused_by (Some m) (program_rules q)) (first_among program_rules (m + 1) qs) two in
    let behind = first_among (bound_rules p) (n + 1) (placed_from p rest (coded_of p.target ts qs)) in
    let kept : bound_rules p placed ≡ None = unrefused (Some n) (bound_rules p placed) (none_first (refused_by (Some n) (bound_rules p placed)) behind eight) in
    let small = not_large c.program.job (job_bound_of p placed.plans placed.table) 0 (interval_facts p placed) c.program.routines kept (omega arith)
    (omega (arith, job_below (slice_index (turn_bounds q)) q formed)) in
    ((ranges.0, small), bounds_are_small p (m + 1) (n + 1) rest ts qs ranges.1 others (none_second (refused_by (Some n) (bound_rules p placed)) behind eight))

few_bounds : (p : Plant) (places : List Extent) (ts : List TaskText) (qs : List ProgramText) → length (job_bounds p (placed_from p places (coded_of p.target ts qs))) ≤ length ts
few_bounds p places [] qs = omega arith
few_bounds p places (t ∷ ts) [] = omega arith
few_bounds p places (t ∷ ts) (q ∷ qs) =
    let e : length (job_bounds p (placed_from p (drop (part_count (bounded q)) places) (coded_of p.target ts qs))) ≤ length ts =
    few_bounds p (drop (part_count (bounded q)) places) ts qs in
    omega (arith, e)

-- ---- their sum

release_small : (jobs period : ℕ) → jobs ≤ 65535 → period ≤ 4294967295 → (jobs - 1) * period ≤ 281466386710530
release_small jobs period few short = mul-le (jobs - 1) period 65534 4294967295 (omega (arith, few)) short

pub last_small : (js : List JobBound) → AllByRecursion IsSmall js → last_release js ≤ 281466386710530
last_small [] h = omega arith
last_small (j ∷ js) h = greater ((j.jobs - 1) * j.period) (last_release js) (release_small j.jobs j.period h.0.0.1 h.0.0.0) (last_small js h.1)
  where
    greater : (a b : ℕ) → a ≤ 281466386710530 → b ≤ 281466386710530 → max a b ≤ 281466386710530
    greater a b low high = omega (arith, low, high)

work_small : (js : List JobBound) → AllByRecursion IsSmall js → work_of js ≤ length js * 72056494526300160
work_small [] h = omega arith
work_small (j ∷ js) h = added (j.jobs * j.bound) (work_of js) (length js) (mul-le j.jobs j.bound 65535 1099511627776 h.0.0.1 h.0.1) (work_small js h.1)
  where
    added : (a b n : ℕ) → a ≤ 72056494526300160 → b ≤ n * 72056494526300160 → a + b ≤ suc n * 72056494526300160
    added a b n one rest = omega (arith, one, rest)

limit_small : (js : List JobBound) → AllByRecursion IsSmall js → length js ≤ 16 → limit_of js ≤ 2305843009213693952
limit_small js h few = within (last_release js) (work_of js) (length js) (last_small js h) (work_small js h) few
  where
    within : (a b n : ℕ) → a ≤ 281466386710530 → b ≤ n * 72056494526300160 → n ≤ 16 → a + b ≤ 2305843009213693952
    within a b n last work few = omega (arith, last, work, few)

-- ---- the set

ranges_of : (ts : List TaskTree) → All IsTaskText ts → AllByRecursion InRange (map task_of ts)
ranges_of [] h = tt
ranges_of (t ∷ ts) h =
    let one : IsTaskText t = All-head IsTaskText t ts h in
    ((one.period.1, one.jobs.1), ranges_of ts (All-tail IsTaskText t ts h))

pub two_kept : (set : TaskSet) → broken set ≡ None → over_tasks program_rules (programs_of set.tasks) ≡ None
two_kept set e = none_first _ _ (none_second (over_tasks text_rules set.tasks) (broken_programs set (programs_of set.tasks)) e)

late_kept : (set : TaskSet) → broken set ≡ None → broken_late set.plant set.devices (coded_in set) ≡ None
late_kept set e =
    let qs = programs_of set.tasks in
    let late = late_refusal (broken_late set.plant set.devices (coded_in set)) in
    not_late (broken_late set.plant set.devices (coded_in set))
    (none_second (over_tasks range_rules qs) late
    (none_second (over_tasks program_rules qs) (or_else (over_tasks range_rules qs) late)
    (none_second (over_tasks text_rules set.tasks) (broken_programs set qs) e)))

eighth : {A : Type 0} (four five six seven eight rest : Option A) → or_else four (or_else five (or_else six (or_else seven (or_else eight rest)))) ≡ None → eight ≡ None
eighth four five six seven eight rest h =
    none_first eight rest
    (none_second seven (or_else eight rest)
    (none_second six (or_else seven (or_else eight rest))
    (none_second five (or_else six (or_else seven (or_else eight rest)))
    (none_second four (or_else five (or_else six (or_else seven (or_else eight rest)))) h))))

pub eight_kept : (set : TaskSet) → broken set ≡ None → over_tasks (bound_rules set.plant) (placed_in set) ≡ None
eight_kept set e =
    let p = set.plant in
    let cs = coded_in set in
    let placed = placed_in set in
    eighth (over_tasks (λ (c : Coded). code_rules c.program) cs) (refused_by None (memory_rules p (places_in set))) (over_tasks reach_rules placed)
    (over_tasks (conflict_rules p) placed) (over_tasks (bound_rules p) placed) (or_else (over_tasks (length_rules p) placed) (refused_by None (log_rules cs))) (late_kept set e)

pub limits_are_small : (set : SetTree) → broken (set_of set) ≡ None → (compiled (set_of set)).limit ≤ 2 ^ 61
limits_are_small tree e =
    let set = set_of tree in
    let tasks = items_of tree.tasks in
    let js = job_bounds set.plant (placed_in set) in
    let small : AllByRecursion IsSmall js =
    bounds_are_small set.plant 0 0 (places_in set) set.tasks (programs_of set.tasks) (ranges_of tasks tree.lawful.tasks_are.each) (two_kept set e) (eight_kept set e) in
    let size : length set.tasks ≡ length tasks = length-map tasks task_of in
    let few : length js ≤ length set.tasks = few_bounds set.plant (places_in set) set.tasks (programs_of set.tasks) in
    limit_small js small (omega (arith, few, size, tree.lawful.tasks_are.count.1))
