-- One more marked function whose lines fit.
use Rattle.std.proofs.Common.{◌≡◌, ℕ, ◌+◌, ◌<◌, List, ◌∷◌, Option, None, ap, sym, ◌∙◌, length, map, drop, get_or}
use Rattle.std.proofs.lemmas.List.{at_drop_more}
use Rattle.prem_plant.specs.declared.plant.Plant.{Plant}
use Rattle.prem_layout.specs.Footprint.{conflict_of}
use Rattle.prem_layout.specs.Rules.{or_else}
use Rattle.prem_split.specs.declared.plan.IntervalPlan.{IntervalPlan}
use Rattle.prem_split.specs.PlanOf.{plan_of}
use Rattle.prem_bounds.specs.Facts.Clashes.{Clash, clash_in, first_clash}

pub clash_step : (p : Plant) (plans : List IntervalPlan) (lines : List (List ℕ)) (k : ℕ) (plan : IntervalPlan) (line : List ℕ) → k < length plans → k < length lines → line ≡ get_or lines k line →
    None ≡ conflict_of p.sets p.«ways» line → first_clash p (map plan_of (drop (k + 1) plans)) (drop (k + 1) lines) ≡ first_clash p (map plan_of (drop k plans)) (drop k lines)
clash_step p plans lines k plan line lp ll is none =
    let f : ℕ = (plan_of (get_or plans k plan)).function in
    let rest : Option Clash = first_clash p (map plan_of (drop (k + 1) plans)) (drop (k + 1) lines) in
    ap (λ o. or_else (clash_in f o) rest) (none ∙ ap (conflict_of p.sets p.«ways») is)
    ∙ sym (at_drop_more (λ (ps : List IntervalPlan). first_clash p (map plan_of ps) (drop k lines)) plans k plan lp
    ∙ at_drop_more (λ (ls : List (List ℕ)). first_clash p (plan_of (get_or plans k plan) ∷ map plan_of (drop (k + 1) plans)) ls) lines k line ll)
