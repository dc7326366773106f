-- The rules on bounds and lengths at one task.
use Rattle.std.specs.Prelude.{◌==◌, ◌&&◌, nat_lt, is_err, OnOk, OnErr, IfOk, MatchResult}
use Rattle.std.specs.List.{AllByRecursion}
use Rattle.std.proofs.Common.{◌≡◌, ℕ, zero, suc, ◌+◌, ◌<◌, ◌≤◌, ◌^◌, Bool, true, false, cond, List, [], ◌∷◌, ◌++◌, Option, None, Some, Result, Ok, Err, refl, ap, sym, ◌∙◌, subst}
use Rattle.std.proofs.Common.{arith, length, map, drop, get_or, option_map, filter, slice_index}
use Rattle.std.proofs.lemmas.Bool.{lt-ltb, le-ltb}
use Rattle.std.proofs.lemmas.List.{at_drop_more}
use Rattle.prem_plant.specs.declared.plant.Plant.{Plant}
use Rattle.prem_syntax.specs.Statements.{is_marked}
use Rattle.prem_layout.specs.Plans as layout
use Rattle.prem_layout.specs.Bounds.{job_bound_of}
use Rattle.prem_layout.specs.Footprint.{footprint_of}
use Rattle.prem_layout.specs.Facts.{IntervalFact, interval_fact, interval_facts_from, interval_facts}
use Rattle.prem_layout.specs.Placed.{Placed, name_at}
use Rattle.prem_layout.specs.Rules.{LateRule, BoundTooLarge, Length, Refusal, first_among, or_else, greatest_bound, bound_rules, length_rules}
use Rattle.prem_bounds.specs.TableOf.{table_of}
use Rattle.prem_bounds.specs.Facts.FactOf.{fact_of, first_short}
use Rattle.prem_bounds.specs.Facts.Large.{is_marked_tree, marked_large, rest_behind, first_large}
use Rattle.prem_bounds.specs.Facts.Laws.{is_large}
use Rattle.prem_bounds.specs.declared.facts.facts.IntervalFact.{IntervalFact as FactFound}
use Rattle.prem_bounds.proofs.FactsLemmas.FirstLaws.{short_is_first}
use Rattle.prem_bounds.proofs.FactsLemmas.LargeLaw.{large_is_first}
use Rattle.prem_place.specs.Placed.PlacedOf.{coded_of, plans_of, placed_of, routines_of, IsPlacedTask}
use Rattle.prem_place.specs.Verdict.Told.{is_small, large_in, with_task, numbered, bounds_of, told_of, told_from, BoundsTold, refusal_of, HasFunction}
use Rattle.prem_place.specs.declared.verdict.verdict.Verdict.TheVariants.{Length as LengthOf}
use Rattle.prem_place.specs.declared.placed.PlacedTask.{PlacedTask}
use Rattle.prem_place.specs.declared.verdict.told.TaskBounds.{TaskBounds}
use Rattle.prem_place.proofs.VerdictLemmas.Marks.{mark_count, plans_counted, marks_are}
use Rattle.prem_place.proofs.VerdictLemmas.Large.{none_large, job_small, all_small}
use Rattle.prem_place.proofs.VerdictLemmas.Names.{plain_long}
use Rattle.prem_place.proofs.VerdictLemmas.Stages.{mapped_long, passes_at, all_at}
use Rattle.prem_place.proofs.VerdictLemmas.Blames.{has_function, blame_is}
use Rattle.prem_place.proofs.VerdictLemmas.Turns.{plans_same, plans_within}

abbrev Below : ℕ → layout.Plan → Type 0
Below n plan = plan.function < n

-- ---- bounds

eight_is : (p : Plant) (t : PlacedTask) → bound_rules p (placed_of t) ≡ option_map (λ m. BoundTooLarge (name_at (coded_of t).program.routines m)) (large_in p (placed_of t))
eight_is p t = large_is_first (coded_of t).program.routines t.table.job (job_bound_of p (plans_of t) (table_of t.table)) (interval_facts p (placed_of t))

pub eight_breaks : (p : Plant) (t : PlacedTask) (f : ℕ) → large_in p (placed_of t) ≡ Some f → bound_rules p (placed_of t) ≡ Some (BoundTooLarge (name_at (coded_of t).program.routines f))
eight_breaks p t f e = eight_is p t ∙ ap (option_map (λ m. BoundTooLarge (name_at (coded_of t).program.routines m))) e

pub eight_keeps : (p : Plant) (t : PlacedTask) → large_in p (placed_of t) ≡ None → bound_rules p (placed_of t) ≡ None
eight_keeps p t e = eight_is p t ∙ ap (option_map (λ m. BoundTooLarge (name_at (coded_of t).program.routines m))) e

pub large_found : (p : Plant) (t : PlacedTask) (job : ℕ) (jl : Bool) (flags : List Bool) → job ≡ t.table.job →
    flags ≡ map is_large (interval_facts p (placed_of t)) → jl ≡ nat_lt greatest_bound (job_bound_of p (plans_of t) (table_of t.table)) →
    first_large job jl 0 flags (map is_marked_tree (routines_of t)) ≡ large_in p (placed_of t)
large_found p t job jl flags ej ef el =
    let large : Bool = nat_lt greatest_bound (job_bound_of p (plans_of t) (table_of t.table)) in
    ap (λ j. first_large j jl 0 flags (map is_marked_tree (routines_of t))) ej
    ∙ ap (λ b. first_large t.table.job b 0 flags (map is_marked_tree (routines_of t))) el
    ∙ ap (λ bs. first_large t.table.job large 0 bs (map is_marked_tree (routines_of t))) ef
    ∙ ap (λ ms. first_large t.table.job large 0 (map is_large (interval_facts p (placed_of t))) ms) (marks_are (slice_index t.turns.items) 0 (routines_of t))

other_case : (b : Bool) (n f end : ℕ) (rest : Option ℕ) → n < end → (rest ≡ Some f → f < end) → or_else (cond b (Some n) None) rest ≡ Some f → f < end
other_case true n f end rest lt more e = let same : n ≡ f = cc in omega (arith, lt, same)
other_case false n f end rest lt more e = more e

marked_case : (m : Bool) (bs : List Bool) (n f end : ℕ) (rest : Option ℕ) → n < end → (rest ≡ Some f → f < end) → or_else (marked_large m n bs) rest ≡ Some f → f < end
marked_case false bs n f end rest lt more e = more e
marked_case true [] n f end rest lt more e = more e
marked_case true (b ∷ bs) n f end rest lt more e = other_case b n f end rest lt more e

found_below : (job : ℕ) (large : Bool) (n : ℕ) (bs ms : List Bool) (f : ℕ) → first_large job large n bs ms ≡ Some f → f < n + length ms
found_below job large n bs [] f e = absurd cc
found_below job large n bs (m ∷ ms) f e =
    let next : first_large job large (n + 1) (rest_behind m bs) ms ≡ Some f → f < n + suc (length ms) = λ h. let lt = found_below job large (n + 1) (rest_behind m bs) ms f h in omega (arith, lt) in
    let first : Option ℕ = cond ((n == job) && large) (Some n) None in
    let rest : Option ℕ = first_large job large (n + 1) (rest_behind m bs) ms in
    marked_case m bs n f (n + suc (length ms)) (or_else first rest) (omega arith) (λ h. other_case ((n == job) && large) n f (n + suc (length ms)) rest (omega arith) next h) e

pub large_within : (p : Plant) (t : PlacedTask) (f : ℕ) → large_in p (placed_of t) ≡ Some f → f < length (routines_of t)
large_within p t f e =
    let lt = found_below t.table.job _ 0 (map is_large (interval_facts p (placed_of t))) (map is_marked (coded_of t).program.routines) f e in
    omega (arith, lt, mapped_long is_marked (coded_of t).program.routines, plain_long t)

facts_long : (p : Plant) (t : Placed) (k : ℕ) (plans : List layout.Plan) → length (interval_facts_from p t k plans) ≡ length plans
facts_long p t k [] = refl
facts_long p t k (plan ∷ plans) = ap suc (facts_long p t (k + 1) plans)

flags_long : (p : Plant) (t : PlacedTask) → IsPlacedTask p t → length (map is_large (interval_facts p (placed_of t))) ≡ mark_count (map is_marked (coded_of t).program.routines)
flags_long p t h =
    mapped_long is_large (interval_facts p (placed_of t)) ∙ facts_long p (placed_of t) 0 (plans_of t) ∙ ap length (plans_same p t h)
    ∙ plans_counted (coded_of t).program 0 (coded_of t).program.routines

pub told_is : (p : Plant) (t : PlacedTask) (n : ℕ) (facts : List FactFound) (job : ℕ) → IsPlacedTask p t → map numbered facts ≡ map (with_task n) (filter is_small (interval_facts p (placed_of t))) →
    job ≡ job_bound_of p (plans_of t) (table_of t.table) → large_in p (placed_of t) ≡ None → map numbered facts ≡ map (with_task n) (interval_facts p (placed_of t))
told_is p t n facts job h e ej none =
    e
    ∙ ap (map (with_task n))
    (all_small (interval_facts p (placed_of t)) (none_large t.table.job _ 0 (map is_large (interval_facts p (placed_of t))) (map is_marked (coded_of t).program.routines) (flags_long p t h) none))

pub job_is_small : (p : Plant) (t : PlacedTask) → IsPlacedTask p t → large_in p (placed_of t) ≡ None → nat_lt greatest_bound (job_bound_of p (plans_of t) (table_of t.table)) ≡ false
job_is_small p t h none =
    let same : t.table.job ≡ t.program.job = ap (λ (q : Placed). q.table.job) h.same in
    let inside : t.table.job < 0 + length (map is_marked (coded_of t).program.routines) = omega (arith, same, h.job, mapped_long is_marked (coded_of t).program.routines, plain_long t) in
    job_small t.table.job _ 0 (map is_large (interval_facts p (placed_of t))) (map is_marked (coded_of t).program.routines) (omega arith) inside none

-- ---- lengths

facts_plain : (n : ℕ) (fs : List FactFound) (gs : List IntervalFact) → map numbered fs ≡ map (with_task n) gs → map fact_of fs ≡ gs
facts_plain n [] [] e = refl
facts_plain n [] (g ∷ gs) e = absurd cc
facts_plain n (f ∷ fs) [] e = absurd cc
facts_plain n (f ∷ fs) (g ∷ gs) e =
    let first : numbered f ≡ with_task n g = cc in
    let more : map numbered fs ≡ map (with_task n) gs = cc in
    let same : fact_of f ≡ g = ap (λ (x : ℕ × IntervalFact). x.1) first in
    ap (λ y. y ∷ map fact_of fs) same ∙ ap (λ l. g ∷ l) (facts_plain n fs gs more)

pub told_at : (p : Plant) (tasks : List PlacedTask) (bounds : List TaskBounds) (m i : ℕ) (t : PlacedTask) (b : TaskBounds) →
    map bounds_of bounds ≡ told_from p m (map placed_of tasks) → i < length tasks → i < length bounds → t ≡ get_or tasks i t → b ≡ get_or bounds i b →
    bounds_of b ≡ told_of p (m + i) (placed_of t)
told_at p [] bounds m i t b e lt lb it ib = absurd (omega arith)
told_at p (x ∷ xs) [] m i t b e lt lb it ib = absurd (omega arith)
told_at p (x ∷ xs) (y ∷ ys) m zero t b e lt lb it ib =
    let first : bounds_of y ≡ told_of p m (placed_of x) = cc in
    let z : m ≡ m + 0 = omega arith in
    ap bounds_of ib ∙ first ∙ ap (λ (q : PlacedTask). told_of p m (placed_of q)) (sym it) ∙ ap (λ k. told_of p k (placed_of t)) z
told_at p (x ∷ xs) (y ∷ ys) m (suc i) t b e lt lb it ib =
    let z : m + 1 + i ≡ m + suc i = omega arith in
    let h : map bounds_of ys ≡ told_from p (m + 1) (map placed_of xs) = cc in
    told_at p xs ys (m + 1) i t b h (omega arith) (omega arith) it ib ∙ ap (λ k. told_of p k (placed_of t)) z

pub told_long : (p : Plant) (tasks : List PlacedTask) (bounds : List TaskBounds) (m : ℕ) → map bounds_of bounds ≡ told_from p m (map placed_of tasks) → length bounds ≡ length tasks
told_long p [] [] m e = refl
told_long p [] (y ∷ ys) m e = absurd cc
told_long p (x ∷ xs) [] m e = absurd cc
told_long p (x ∷ xs) (y ∷ ys) m e = let h : map bounds_of ys ≡ told_from p (m + 1) (map placed_of xs) = cc in ap suc (told_long p xs ys (m + 1) h)

facts_at : (p : Plant) (t : PlacedTask) (n : ℕ) (b : TaskBounds) → bounds_of b ≡ told_of p n (placed_of t) → map fact_of b.facts.items ≡ interval_facts p (placed_of t)
facts_at p t n b e = facts_plain n b.facts.items (interval_facts p (placed_of t)) (ap (λ told. told.facts) e)

nine_is : (p : Plant) (t : PlacedTask) (n : ℕ) (b : TaskBounds) (found : Option IntervalFact) → bounds_of b ≡ told_of p n (placed_of t) → found ≡ first_short (map fact_of b.facts.items) →
    length_rules p (placed_of t) ≡ option_map (λ (f : IntervalFact). Length (name_at (coded_of t).program.routines f.function) f.bound f.stated) found
nine_is p t n b found e is =
    short_is_first p (placed_of t)
    ∙ ap (λ o. option_map (λ (f : IntervalFact). Length (name_at (coded_of t).program.routines f.function) f.bound f.stated) o)
    (sym (is ∙ ap first_short (facts_at p t n b e)))

nine_breaks : (p : Plant) (t : PlacedTask) (n : ℕ) (b : TaskBounds) (f : FactFound) → bounds_of b ≡ told_of p n (placed_of t) → Some (fact_of f) ≡ first_short (map fact_of b.facts.items) →
    length_rules p (placed_of t) ≡ Some (Length (name_at (coded_of t).program.routines f.function) f.bound f.stated)
nine_breaks p t n b f e is = nine_is p t n b (Some (fact_of f)) e is

nine_keeps : (p : Plant) (t : PlacedTask) (n : ℕ) (b : TaskBounds) → bounds_of b ≡ told_of p n (placed_of t) → None ≡ first_short (map fact_of b.facts.items) → length_rules p (placed_of t) ≡ None
nine_keeps p t n b e is = nine_is p t n b None e is

short_case : (b : Bool) (g f : IntervalFact) (rest : Option IntervalFact) (n : ℕ) → g.function < n → (rest ≡ Some f → f.function < n) → cond b (Some g) rest ≡ Some f → f.function < n
short_case true g f rest n lt more e = let same : g ≡ f = cc in subst (λ (x : IntervalFact). x.function < n) same lt
short_case false g f rest n lt more e = more e

short_below : (p : Plant) (t : Placed) (n k : ℕ) (plans : List layout.Plan) (f : IntervalFact) → AllByRecursion (Below n) plans →
    first_short (interval_facts_from p t k plans) ≡ Some f → f.function < n
short_below p t n k [] f h e = absurd cc
short_below p t n k (plan ∷ plans) f h e =
    let g : IntervalFact = interval_fact p t k plan (footprint_of p.line t.at plan) in
    short_case (nat_lt g.stated g.bound) g f (first_short (interval_facts_from p t (k + 1) plans)) n h.0 (λ more. short_below p t n (k + 1) plans f h.1 more) e

short_within : (p : Plant) (t : PlacedTask) (n : ℕ) (b : TaskBounds) (f : FactFound) → IsPlacedTask p t → bounds_of b ≡ told_of p n (placed_of t) →
    Some (fact_of f) ≡ first_short (map fact_of b.facts.items) → f.function < length (routines_of t)
short_within p t n b f h e is =
    short_below p (placed_of t) (length (routines_of t)) 0 (plans_of t) (fact_of f) (plans_within p t h) (sym (is ∙ ap first_short (facts_at p t n b e)))

-- ---- with what calls give

abbrev made : List (ℕ × IntervalFact) → ℕ → BoundsTold
made facts job = record { facts = facts; job = job }

pub bounds_are : (p : Plant) (t : PlacedTask) (n : ℕ) (facts : List FactFound) (job : ℕ) → IsPlacedTask p t →
    map numbered facts ≡ map (with_task n) (filter is_small (interval_facts p (placed_of t))) →
    job ≡ job_bound_of p (plans_of t) (table_of t.table) → large_in p (placed_of t) ≡ None → made (map numbered facts) job ≡ told_of p n (placed_of t)
bounds_are p t n facts job h e ej none = ap (λ fs. made fs job) (told_is p t n facts job h e ej none) ∙ ap (made (map (with_task n) (interval_facts p (placed_of t)))) ej

pub err_is : {E : Type 0} (r : Result ℕ E) (bound : ℕ) → OnOk r (bound ≤ 2 ^ 40) → OnErr r (2 ^ 40 < bound) → is_err r ≡ nat_lt greatest_bound bound
err_is (Ok b) bound le lt = sym (le-ltb (2 ^ 40) bound le)
err_is (Err e) bound le lt = sym (lt-ltb (2 ^ 40) bound lt)

pub never_err : {E : Type 0} (r : Result ℕ E) (e : E) (bound : ℕ) → r ≡ Err e → OnErr r (2 ^ 40 < bound) → nat_lt greatest_bound bound ≡ false → ⊥
never_err (Ok b) e bound is lt small = absurd cc
never_err (Err x) e bound is lt small = let large : nat_lt greatest_bound bound ≡ true = lt-ltb (2 ^ 40) bound lt in absurd cc

pub ok_bound : {E : Type 0} (r : Result ℕ E) (b bound : ℕ) → r ≡ Ok b → IfOk r (λ x. x ≡ bound) → b ≡ bound
ok_bound (Ok x) b bound is e = let same : x ≡ b = cc in sym same ∙ e
ok_bound (Err x) b bound is e = absurd cc

-- what is told of a task, or the first function of which a bound is too large
abbrev Told : Plant → PlacedTask → ℕ → Result TaskBounds ℕ → Type 0
Told p t n r = MatchResult r (λ b. (bounds_of b ≡ told_of p n (placed_of t)) × (large_in p (placed_of t) ≡ None)) (λ f. large_in p (placed_of t) ≡ Some f)

pub large_by : (p : Plant) (t : PlacedTask) (n : ℕ) (r : Result TaskBounds ℕ) (f : ℕ) → r ≡ Err f → Told p t n r → large_in p (placed_of t) ≡ Some f
large_by p t n (Ok a) f is h = absurd cc
large_by p t n (Err x) f is h = let same : x ≡ f = cc in h ∙ ap (λ k. Some k) same

pub told_by : (p : Plant) (t : PlacedTask) (n : ℕ) (r : Result TaskBounds ℕ) (b : TaskBounds) → r ≡ Ok b → Told p t n r → (bounds_of b ≡ told_of p n (placed_of t)) × (large_in p (placed_of t) ≡ None)
told_by p t n (Ok a) b is h = let same : a ≡ b = cc in (ap bounds_of (sym same) ∙ h.0, h.1)
told_by p t n (Err x) b is h = absurd cc

push_bounds : (all : List TaskBounds) (b : TaskBounds) (more : List BoundsTold) → map bounds_of (all ++ b ∷ []) ++ more ≡ map bounds_of all ++ bounds_of b ∷ more
push_bounds [] b more = refl
push_bounds (x ∷ xs) b more = ap (λ l. bounds_of x ∷ l) (push_bounds xs b more)

pub told_turn : (p : Plant) (tasks : List PlacedTask) (n : ℕ) (t : PlacedTask) (all new : List TaskBounds) (b : TaskBounds)
    (whole : List BoundsTold) → n < length tasks → t ≡ get_or tasks n t → bounds_of b ≡ told_of p n (placed_of t) → new ≡ all ++ b ∷ [] →
    map bounds_of all ++ told_from p n (map placed_of (drop n tasks)) ≡ whole → map bounds_of new ++ told_from p (n + 1) (map placed_of (drop (n + 1) tasks)) ≡ whole
told_turn p tasks n t all new b whole lt is eb en e =
    let more : List BoundsTold = told_from p (n + 1) (map placed_of (drop (n + 1) tasks)) in
    ap (λ l. map bounds_of l ++ more) en ∙ push_bounds all b more
    ∙ ap (λ x. map bounds_of all ++ x ∷ more) (eb ∙ ap (λ (q : PlacedTask). told_of p n (placed_of q)) is)
    ∙ sym (at_drop_more (λ (ts : List PlacedTask). map bounds_of all ++ told_from p n (map placed_of ts)) tasks n t lt) ∙ e

item_there : (tasks : List PlacedTask) (n : ℕ) → n < length tasks → (t : PlacedTask) × (t ≡ get_or tasks n t)
item_there [] n lt = absurd (omega arith)
item_there (x ∷ xs) zero lt = (x, refl)
item_there (x ∷ xs) (suc n) lt = item_there xs n (omega arith)

-- ---- lengths at a task

told_first : (p : Plant) (tasks : List PlacedTask) (bounds : List TaskBounds) (n : ℕ) (t : PlacedTask) (b : TaskBounds) →
    map bounds_of bounds ≡ told_from p 0 (map placed_of tasks) → n < length tasks → t ≡ get_or tasks n t → b ≡ get_or bounds n b →
    bounds_of b ≡ told_of p n (placed_of t)
told_first p tasks bounds n t b e lt it ib =
    let z : 0 + n ≡ n = omega arith in
    told_at p tasks bounds 0 n t b e lt (omega (arith, lt, told_long p tasks bounds 0 e)) it ib ∙ ap (λ k. told_of p k (placed_of t)) z

pub short_first : (p : Plant) (tasks : List PlacedTask) (bounds : List TaskBounds) (n : ℕ) (b : TaskBounds) (facts : List FactFound) (f : FactFound)
    (whole : Option (Refusal LateRule)) → n < length tasks → map bounds_of bounds ≡ told_from p 0 (map placed_of tasks) →
    b ≡ get_or bounds n b → facts ≡ b.facts.items → Some (fact_of f) ≡ first_short (map fact_of facts) → first_among (length_rules p) n (map placed_of (drop n tasks)) ≡ whole →
    Some (refusal_of (map placed_of tasks) (record { task = n; verdict = LengthOf f.function f.bound f.stated })) ≡ whole
short_first p tasks bounds n b facts f whole lt e ib ef is h =
    let there = item_there tasks n lt in
    let t : PlacedTask = there.0 in
    let told : bounds_of b ≡ told_of p n (placed_of t) = told_first p tasks bounds n t b e lt there.1 ib in
    blame_is (length_rules p) tasks n t (LengthOf f.function f.bound f.stated) whole lt there.1 (nine_breaks p t n b f told (is ∙ ap (λ fs. first_short (map fact_of fs)) ef)) h

pub short_there : (p : Plant) (tasks : List PlacedTask) (bounds : List TaskBounds) (n : ℕ) (b : TaskBounds) (facts : List FactFound) (f : FactFound) →
    AllByRecursion (IsPlacedTask p) tasks → n < length tasks → map bounds_of bounds ≡ told_from p 0 (map placed_of tasks) →
    b ≡ get_or bounds n b → facts ≡ b.facts.items → Some (fact_of f) ≡ first_short (map fact_of facts) → HasFunction (map placed_of tasks) n f.function
short_there p tasks bounds n b facts f all lt e ib ef is =
    let there = item_there tasks n lt in
    let t : PlacedTask = there.0 in
    let told : bounds_of b ≡ told_of p n (placed_of t) = told_first p tasks bounds n t b e lt there.1 ib in
    has_function tasks n f.function t lt there.1 (short_within p t n b f (all_at (IsPlacedTask p) tasks n t all lt there.1) told (is ∙ ap (λ fs. first_short (map fact_of fs)) ef))

pub short_passes : (p : Plant) (tasks : List PlacedTask) (bounds : List TaskBounds) (n : ℕ) (b : TaskBounds) (facts : List FactFound)
    (whole : Option (Refusal LateRule)) → n < length tasks → map bounds_of bounds ≡ told_from p 0 (map placed_of tasks) →
    b ≡ get_or bounds n b → facts ≡ b.facts.items → None ≡ first_short (map fact_of facts) →
    first_among (length_rules p) n (map placed_of (drop n tasks)) ≡ whole →
    first_among (length_rules p) (n + 1) (map placed_of (drop (n + 1) tasks)) ≡ whole
short_passes p tasks bounds n b facts whole lt e ib ef is h =
    let there = item_there tasks n lt in
    let t : PlacedTask = there.0 in
    let told : bounds_of b ≡ told_of p n (placed_of t) = told_first p tasks bounds n t b e lt there.1 ib in
    passes_at (length_rules p) tasks n t whole lt there.1 (nine_keeps p t n b told (is ∙ ap (λ fs. first_short (map fact_of fs)) ef)) h
