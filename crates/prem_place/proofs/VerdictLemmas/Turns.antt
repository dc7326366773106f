-- The rules on marked functions at one task.
use Rattle.std.specs.List.{AllByRecursion}
use Rattle.std.proofs.Common.{◌≡◌, ℕ, ◌+◌, ◌<◌, ◌≤◌, ◌^◌, true, false, List, [], ◌∷◌, Option, None, Some, ap, sym, ◌∙◌, subst, arith, length, map, drop, get_or, option_map}
use Rattle.std.proofs.lemmas.List.{at_drop_more}
use Rattle.std.proofs.lemmas.Bool.{lt-ltb, le-ltb}
use Rattle.prem_list.specs.Sequence.{items_of}
use Rattle.prem_plant.specs.declared.plant.Plant.{Plant}
use Rattle.prem_layout.specs.Plans as layout
use Rattle.prem_layout.specs.Footprint.{Conflict, conflict_of, footprint_of}
use Rattle.prem_layout.specs.Facts.{IntervalFact, interval_fact, interval_facts_from}
use Rattle.prem_layout.specs.Placed.{Placed, name_at}
use Rattle.prem_layout.specs.Rules.{ConflictIn, or_else, conflict_rules}
use Rattle.prem_split.specs.declared.plan.IntervalPlan.{IntervalPlan}
use Rattle.prem_split.specs.PlanOf.{plan_of}
use Rattle.prem_bounds.specs.Facts.Clashes.{Clash, clash_in, clash_of, first_clash}
use Rattle.prem_bounds.specs.Facts.Laws.{is_large}
use Rattle.prem_bounds.specs.declared.facts.lines.Clash.{Clash as ClashFound}
use Rattle.prem_bounds.proofs.FactsLemmas.FirstLaws.{clash_is_first}
use Rattle.prem_place.specs.Placed.PlacedOf.{coded_of, plans_of, placed_of, routines_of, IsPlacedTask, lines_of}
use Rattle.prem_place.specs.declared.placed.PlacedTask.{PlacedTask}
use Rattle.prem_place.proofs.VerdictLemmas.Marks.{plans_below}
use Rattle.prem_place.proofs.VerdictLemmas.Names.{plain_long}
use Rattle.prem_place.proofs.VerdictLemmas.Stages.{mapped_long}

-- ---- plans

pub plans_same : (p : Plant) (t : PlacedTask) → IsPlacedTask p t → plans_of t ≡ layout.plans_of (coded_of t).program
plans_same p t h = ap (λ (q : Placed). q.plans) h.same

abbrev Below : ℕ → layout.Plan → Type 0
Below n plan = plan.function < n

pub plans_within : (p : Plant) (t : PlacedTask) → IsPlacedTask p t → AllByRecursion (Below (length (routines_of t))) (plans_of t)
plans_within p t h =
    let long : 0 + length (coded_of t).program.routines ≡ length (routines_of t) = omega (arith, plain_long t) in
    subst (λ plans. AllByRecursion (Below (length (routines_of t))) plans) (sym (plans_same p t h))
    (subst (λ n. AllByRecursion (Below n) (layout.plans_of (coded_of t).program)) long (plans_below (coded_of t).program 0 (coded_of t).program.routines))

-- ---- conflicts

clash_below : (n : ℕ) (p : Plant) (plans : List layout.Plan) (lines : List (List ℕ)) (c : Clash) → AllByRecursion (Below n) plans → first_clash p plans lines ≡ Some c → c.function < n
clash_below n p [] lines c h e = absurd cc
clash_below n p (plan ∷ plans) [] c h e = absurd cc
clash_below n p (plan ∷ plans) (ns ∷ lines) c h e = by (conflict_of p.sets p.«ways» ns) (λ k. clash_below n p plans lines c h.1 k) e
  where
    by : (found : Option Conflict) → (first_clash p plans lines ≡ Some c → c.function < n) → or_else (clash_in plan.function found) (first_clash p plans lines) ≡ Some c → c.function < n
    by None more e = more e
    by (Some k) more e =
        let same : record { function = plan.function; conflict = k } ≡ c = cc in
        let f : plan.function ≡ c.function = ap (λ (x : Clash). x.function) same in
        subst (λ m. m < n) f h.0

pub clash_within : (p : Plant) (t : PlacedTask) (lines : List (List ℕ)) (c : ClashFound) → IsPlacedTask p t → clash_of (Some c) ≡ first_clash p (plans_of t) lines → c.function < length (routines_of t)
clash_within p t lines c h e =
    clash_below (length (routines_of t)) p (plans_of t) lines
    (record { function = c.function; conflict = record { set = c.conflict.set; lines = c.conflict.lines } }) (plans_within p t h) (sym e)

pub seven_breaks : (p : Plant) (t : PlacedTask) (lines : List (List ℕ)) (c : ClashFound) → lines ≡ lines_of p t → clash_of (Some c) ≡ first_clash p (plans_of t) lines → c.conflict.«ways» ≡ p.«ways» →
    conflict_rules p (placed_of t) ≡ Some (ConflictIn (name_at (coded_of t).program.routines c.function) c.conflict.set c.conflict.lines c.conflict.«ways»)
seven_breaks p t lines c el e ew =
    clash_is_first p (placed_of t)
    ∙ ap (λ ls. option_map (λ (k : Clash). ConflictIn (name_at (coded_of t).program.routines k.function) k.conflict.set k.conflict.lines p.«ways») (first_clash p (plans_of t) ls)) (sym el)
    ∙ ap (λ o. option_map (λ (k : Clash). ConflictIn (name_at (coded_of t).program.routines k.function) k.conflict.set k.conflict.lines p.«ways») o) (sym e)
    ∙ ap (λ w. Some (ConflictIn (name_at (coded_of t).program.routines c.function) c.conflict.set c.conflict.lines w)) (sym ew)

pub seven_keeps : (p : Plant) (t : PlacedTask) (lines : List (List ℕ)) → lines ≡ lines_of p t → None ≡ first_clash p (plans_of t) lines → conflict_rules p (placed_of t) ≡ None
seven_keeps p t lines el e =
    clash_is_first p (placed_of t)
    ∙ ap (λ ls. option_map (λ (k : Clash). ConflictIn (name_at (coded_of t).program.routines k.function) k.conflict.set k.conflict.lines p.«ways») (first_clash p (plans_of t) ls)) (sym el)
    ∙ ap (λ o. option_map (λ (k : Clash). ConflictIn (name_at (coded_of t).program.routines k.function) k.conflict.set k.conflict.lines p.«ways») o) (sym e)

-- ---- what is told of marked functions

-- the facts from one on
pub facts_more : (p : Plant) (t : Placed) (plans : List IntervalPlan) (k : ℕ) (plan : IntervalPlan) → k < length plans → plan ≡ get_or plans k plan →
    interval_facts_from p t k (map plan_of (drop k plans))
    ≡ interval_fact p t k (plan_of plan) (footprint_of p.line t.at (plan_of plan)) ∷ interval_facts_from p t (k + 1) (map plan_of (drop (k + 1) plans))
facts_more p t plans k plan lt is =
    at_drop_more (λ (ps : List IntervalPlan). interval_facts_from p t k (map plan_of ps)) plans k plan lt
    ∙ ap (λ (q : IntervalPlan). interval_fact p t k (plan_of q) (footprint_of p.line t.at (plan_of q)) ∷ interval_facts_from p t (k + 1) (map plan_of (drop (k + 1) plans))) (sym is)

pub small_is : (f : IntervalFact) → f.bound ≤ 2 ^ 40 → is_large f ≡ false
small_is f le = le-ltb (2 ^ 40) f.bound le

pub large_is : (f : IntervalFact) → 2 ^ 40 < f.bound → is_large f ≡ true
large_is f lt = lt-ltb (2 ^ 40) f.bound lt

-- ---- at a task

pub lines_long : (p : Plant) (t : PlacedTask) (plans : List IntervalPlan) → plans ≡ items_of t.plans → length (lines_of p t) ≡ length plans
lines_long p t plans e = mapped_long (footprint_of p.line t.places) (plans_of t) ∙ mapped_long plan_of (items_of t.plans) ∙ ap length (sym e)

pub clash_at : (p : Plant) (t : PlacedTask) (plans : List IntervalPlan) (lines : List (List ℕ)) (found : Option Clash) → plans ≡ items_of t.plans →
    found ≡ first_clash p (map plan_of plans) lines → found ≡ first_clash p (plans_of t) lines
clash_at p t plans lines found e is = is ∙ ap (λ ps. first_clash p (map plan_of ps) lines) e
