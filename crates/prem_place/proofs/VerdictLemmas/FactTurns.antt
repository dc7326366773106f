-- One more marked function of a task.
use Rattle.std.specs.Prelude.{not, Option, None, Some, IfSome, IsNone, is_none, option_to_list}
use Rattle.std.proofs.Common.{◌≡◌, ℕ, ◌+◌, ◌<◌, ◌≤◌, ◌^◌, Bool, true, false, cond, List, [], ◌∷◌, ◌++◌, refl, ap, sym, ◌∙◌, length, map, drop, get_or, filter, append_assoc}
use Rattle.std.proofs.lemmas.List.{append-nil}
use Rattle.prem_list.specs.Sequence.{items_of}
use Rattle.prem_plant.specs.declared.plant.Plant.{Plant}
use Rattle.prem_layout.specs.Footprint.{footprint_of}
use Rattle.prem_layout.specs.Bounds.{bound_of}
use Rattle.prem_layout.specs.Facts.{IntervalFact, interval_fact, interval_facts_from}
use Rattle.prem_split.specs.declared.plan.IntervalPlan.{IntervalPlan}
use Rattle.prem_split.specs.PlanOf.{plan_of}
use Rattle.prem_bounds.specs.TableOf.{table_of}
use Rattle.prem_bounds.specs.Facts.FactOf.{fact_of, fact_with}
use Rattle.prem_bounds.specs.Facts.Laws.{is_large}
use Rattle.prem_bounds.specs.declared.facts.facts.IntervalFact.{IntervalFact as FactFound}
use Rattle.prem_place.specs.Placed.PlacedOf.{placed_of, lines_of}
use Rattle.prem_place.specs.Verdict.Told.{is_small, with_task, numbered}
use Rattle.prem_place.specs.declared.placed.PlacedTask.{PlacedTask}
use Rattle.prem_place.proofs.VerdictLemmas.Stages.{item_of_map}
use Rattle.prem_place.proofs.VerdictLemmas.Turns.{facts_more, small_is, large_is}

abbrev Told : Type 0
Told = ℕ × IntervalFact

push_map : (facts : List FactFound) (f : FactFound) (more : List Told) → map numbered (facts ++ f ∷ []) ++ more ≡ map numbered facts ++ numbered f ∷ more
push_map [] f more = refl
push_map (g ∷ gs) f more = ap (λ l. numbered g ∷ l) (push_map gs f more)

kept : (n : ℕ) (x : IntervalFact) (rest more : List IntervalFact) → rest ≡ x ∷ more → is_large x ≡ false →
    map (with_task n) (filter is_small rest) ≡ with_task n x ∷ map (with_task n) (filter is_small more)
kept n x rest more er small = ap (λ r. map (with_task n) (filter is_small r)) er ∙ ap (λ b. map (with_task n) (cond (not b) (x ∷ filter is_small more) (filter is_small more))) small

small_turn : (n : ℕ) (facts : List FactFound) (f : FactFound) (x : IntervalFact) (rest more : List IntervalFact) (whole : List Told) →
    rest ≡ x ∷ more → numbered f ≡ with_task n x → is_large x ≡ false →
    map numbered facts ++ map (with_task n) (filter is_small rest) ≡ whole → map numbered (facts ++ f ∷ []) ++ map (with_task n) (filter is_small more) ≡ whole
small_turn n facts f x rest more whole er en small e =
    push_map facts f (map (with_task n) (filter is_small more))
    ∙ ap (λ y. map numbered facts ++ y ∷ map (with_task n) (filter is_small more)) en
    ∙ ap (λ l. map numbered facts ++ l) (sym (kept n x rest more er small)) ∙ e

large_turn : (n : ℕ) (facts : List FactFound) (x : IntervalFact) (rest more : List IntervalFact) (whole : List Told) → rest ≡ x ∷ more → is_large x ≡ true →
    map numbered facts ++ map (with_task n) (filter is_small rest) ≡ whole → map numbered facts ++ map (with_task n) (filter is_small more) ≡ whole
large_turn n facts x rest more whole er large e =
    ap (λ l. map numbered facts ++ l)
    (sym (ap (λ r. map (with_task n) (filter is_small r)) er
    ∙ ap (λ b. map (with_task n) (cond (not b) (x ∷ filter is_small more) (filter is_small more))) large)) ∙ e

flag_turn : (flags : List Bool) (b : Bool) (x : IntervalFact) (rest more : List IntervalFact) (whole : List Bool) → rest ≡ x ∷ more → is_large x ≡ b →
    flags ++ map is_large rest ≡ whole → (flags ++ b ∷ []) ++ map is_large more ≡ whole
flag_turn flags b x rest more whole er eb e =
    append_assoc flags (b ∷ []) (map is_large more) ∙ ap (λ c. flags ++ c ∷ map is_large more) (sym eb) ∙ ap (λ r. flags ++ map is_large r) (sym er) ∙ e

-- ---- at a plan

abbrev fact_at : Plant → PlacedTask → ℕ → IntervalPlan → IntervalFact
fact_at p t k plan = interval_fact p (placed_of t) k (plan_of plan) (footprint_of p.line t.places (plan_of plan))

abbrev rest_at : Plant → PlacedTask → List IntervalPlan → ℕ → List IntervalFact
rest_at p t plans k = interval_facts_from p (placed_of t) k (map plan_of (drop k plans))

-- the numbers of a plan that is looked at
pub record At (p : Plant) (t : PlacedTask) (plans : List IntervalPlan) (k : ℕ) (plan : IntervalPlan) (line : List ℕ) : Type 0 where
  pub inside : k < length plans
  pub is : plan ≡ get_or plans k plan
  pub lines : line ≡ footprint_of p.line t.places (plan_of plan)

same_fact : (p : Plant) (t : PlacedTask) (k : ℕ) (plan : IntervalPlan) (line : List ℕ) → line ≡ footprint_of p.line t.places (plan_of plan) →
    fact_with p (table_of t.table) k (plan_of plan) line ≡ fact_at p t k plan
same_fact p t k plan line e = ap (λ l. fact_with p (table_of t.table) k (plan_of plan) l) e

same_told : (n : ℕ) (f : FactFound) (x : IntervalFact) → f.task ≡ n → fact_of f ≡ x → numbered f ≡ with_task n x
same_told n f x et ef = ap (λ m. with_task m (fact_of f)) et ∙ ap (with_task n) ef

small_fact : (p : Plant) (t : PlacedTask) (plans : List IntervalPlan) (k : ℕ) (plan : IntervalPlan) (line : List ℕ) (n : ℕ) (facts : List FactFound)
    (f : FactFound) (whole : List Told) → At p t plans k plan line → f.task ≡ n →
    fact_of f ≡ fact_with p (table_of t.table) k (plan_of plan) line → f.bound ≤ 2 ^ 40 → map numbered facts ++ map (with_task n) (filter is_small (rest_at p t plans k)) ≡ whole →
    map numbered (facts ++ f ∷ []) ++ map (with_task n) (filter is_small (rest_at p t plans (k + 1))) ≡ whole
small_fact p t plans k plan line n facts f whole h et ef le e =
    let same : fact_of f ≡ fact_at p t k plan = ef ∙ same_fact p t k plan line h.lines in
    let small : is_large (fact_at p t k plan) ≡ false = sym (ap is_large same) ∙ small_is (fact_of f) le in
    small_turn n facts f (fact_at p t k plan) (rest_at p t plans k) (rest_at p t plans (k + 1)) whole
    (facts_more p (placed_of t) plans k plan h.inside h.is) (same_told n f (fact_at p t k plan) et same) small e

small_flag : (p : Plant) (t : PlacedTask) (plans : List IntervalPlan) (k : ℕ) (plan : IntervalPlan) (line : List ℕ) (f : FactFound) (flags whole : List Bool) → At p t plans k plan line →
    fact_of f ≡ fact_with p (table_of t.table) k (plan_of plan) line → f.bound ≤ 2 ^ 40 → flags ++ map is_large (rest_at p t plans k) ≡ whole →
    (flags ++ false ∷ []) ++ map is_large (rest_at p t plans (k + 1)) ≡ whole
small_flag p t plans k plan line f flags whole h ef le e =
    let same : fact_of f ≡ fact_at p t k plan = ef ∙ same_fact p t k plan line h.lines in
    let small : is_large (fact_at p t k plan) ≡ false = sym (ap is_large same) ∙ small_is (fact_of f) le in
    flag_turn flags false (fact_at p t k plan) (rest_at p t plans k) (rest_at p t plans (k + 1)) whole (facts_more p (placed_of t) plans k plan h.inside h.is) small e

large_at : (p : Plant) (t : PlacedTask) (plans : List IntervalPlan) (k : ℕ) (plan : IntervalPlan) (line : List ℕ) → At p t plans k plan line →
    2 ^ 40 < bound_of p (table_of t.table) k (length line) → is_large (fact_at p t k plan) ≡ true
large_at p t plans k plan line h lt = sym (ap is_large (same_fact p t k plan line h.lines)) ∙ large_is (fact_with p (table_of t.table) k (plan_of plan) line) lt

large_fact : (p : Plant) (t : PlacedTask) (plans : List IntervalPlan) (k : ℕ) (plan : IntervalPlan) (line : List ℕ) (n : ℕ) (facts : List FactFound) (whole : List Told) → At p t plans k plan line →
    2 ^ 40 < bound_of p (table_of t.table) k (length line) → map numbered facts ++ map (with_task n) (filter is_small (rest_at p t plans k)) ≡ whole →
    map numbered facts ++ map (with_task n) (filter is_small (rest_at p t plans (k + 1))) ≡ whole
large_fact p t plans k plan line n facts whole h lt e =
    large_turn n facts (fact_at p t k plan) (rest_at p t plans k) (rest_at p t plans (k + 1)) whole (facts_more p (placed_of t) plans k plan h.inside h.is) (large_at p t plans k plan line h lt) e

large_flag : (p : Plant) (t : PlacedTask) (plans : List IntervalPlan) (k : ℕ) (plan : IntervalPlan) (line : List ℕ) (flags whole : List Bool) → At p t plans k plan line →
    2 ^ 40 < bound_of p (table_of t.table) k (length line) → flags ++ map is_large (rest_at p t plans k) ≡ whole → (flags ++ true ∷ []) ++ map is_large (rest_at p t plans (k + 1)) ≡ whole
large_flag p t plans k plan line flags whole h lt e =
    flag_turn flags true (fact_at p t k plan) (rest_at p t plans k) (rest_at p t plans (k + 1)) whole (facts_more p (placed_of t) plans k plan h.inside h.is) (large_at p t plans k plan line h lt) e

-- ---- with what is found

map_twice : (p : Plant) (t : PlacedTask) (plans : List IntervalPlan) → map (footprint_of p.line t.places) (map plan_of plans) ≡ map (λ q. footprint_of p.line t.places (plan_of q)) plans
map_twice p t [] = refl
map_twice p t (q ∷ qs) = ap (λ l. footprint_of p.line t.places (plan_of q) ∷ l) (map_twice p t qs)

pub facts_turn : (p : Plant) (t : PlacedTask) (plans : List IntervalPlan) (k : ℕ) (plan : IntervalPlan) (line : List ℕ) (n : ℕ)
    (found : Option FactFound) (facts new : List FactFound) (whole : List Told) → At p t plans k plan line →
    IfSome found (λ f. fact_of f ≡ fact_with p (table_of t.table) k (plan_of plan) line) → IfSome found (λ f. f.task ≡ n) →
    IfSome found (λ f. f.bound ≤ 2 ^ 40) → (IsNone found → 2 ^ 40 < bound_of p (table_of t.table) k (length line)) →
    new ≡ facts ++ option_to_list found → map numbered facts ++ map (with_task n) (filter is_small (rest_at p t plans k)) ≡ whole →
    map numbered new ++ map (with_task n) (filter is_small (rest_at p t plans (k + 1))) ≡ whole
facts_turn p t plans k plan line n (Some f) facts new whole h ef et le lt en e =
    ap (λ fs. map numbered fs ++ map (with_task n) (filter is_small (rest_at p t plans (k + 1)))) en ∙ small_fact p t plans k plan line n facts f whole h et ef le e
facts_turn p t plans k plan line n None facts new whole h ef et le lt en e =
    ap (λ fs. map numbered fs ++ map (with_task n) (filter is_small (rest_at p t plans (k + 1)))) (en ∙ append-nil facts) ∙ large_fact p t plans k plan line n facts whole h (lt refl) e

pub flags_turn : (p : Plant) (t : PlacedTask) (plans : List IntervalPlan) (k : ℕ) (plan : IntervalPlan) (line : List ℕ) (found : Option FactFound)
    (flags new whole : List Bool) → At p t plans k plan line →
    IfSome found (λ f. fact_of f ≡ fact_with p (table_of t.table) k (plan_of plan) line) → IfSome found (λ f. f.bound ≤ 2 ^ 40) →
    (IsNone found → 2 ^ 40 < bound_of p (table_of t.table) k (length line)) →
    new ≡ flags ++ is_none found ∷ [] → flags ++ map is_large (rest_at p t plans k) ≡ whole → new ++ map is_large (rest_at p t plans (k + 1)) ≡ whole
flags_turn p t plans k plan line (Some f) flags new whole h ef le lt en e = ap (λ bs. bs ++ map is_large (rest_at p t plans (k + 1))) en ∙ small_flag p t plans k plan line f flags whole h ef le e
flags_turn p t plans k plan line None flags new whole h ef le lt en e = ap (λ bs. bs ++ map is_large (rest_at p t plans (k + 1))) en ∙ large_flag p t plans k plan line flags whole h (lt refl) e

pub at_plan : (p : Plant) (t : PlacedTask) (plans : List IntervalPlan) (lines : List (List ℕ)) (k : ℕ) (plan : IntervalPlan) (line : List ℕ) →
    lines ≡ lines_of p t → plans ≡ items_of t.plans → k < length plans → plan ≡ get_or plans k plan → line ≡ get_or lines k line →
    At p t plans k plan line
at_plan p t plans lines k plan line el ep lt ip il =
    let mapped : lines ≡ map (λ q. footprint_of p.line t.places (plan_of q)) plans = el ∙ map_twice p t (items_of t.plans) ∙ ap (map (λ q. footprint_of p.line t.places (plan_of q))) (sym ep) in
    record { inside = lt; is = ip; lines = item_of_map (λ (q : IntervalPlan). footprint_of p.line t.places (plan_of q)) plans lines k plan line mapped lt ip il }
