-- The rules on conflicts and lengths, by the first that breaks them.
use Rattle.std.specs.Prelude.{nat_lt}
use Rattle.std.specs.Option.{option_map}
use Rattle.std.proofs.Common.{◌≡◌, ℕ, Bool, true, false, cond, List, [], ◌∷◌, Option, None, Some, refl, ap, sym, ◌∙◌, map}
use Rattle.prem_plant.specs.declared.plant.Plant.{Plant}
use Rattle.prem_syntax.specs.Resolved.{Routine}
use Rattle.prem_layout.specs.Plans.{Plan}
use Rattle.prem_layout.specs.Footprint.{Conflict, conflict_of, footprint_of}
use Rattle.prem_layout.specs.Facts.{IntervalFact, interval_facts}
use Rattle.prem_layout.specs.Placed.{Placed, name_at}
use Rattle.prem_layout.specs.Rules.{LateRule, ConflictIn, Length, or_else, of_conflict, first_conflict, short_interval}
use Rattle.prem_bounds.specs.Facts.Clashes.{Clash, clash_in, first_clash}
use Rattle.prem_bounds.specs.Facts.FactOf.{first_short}
use Rattle.prem_bounds.specs.Facts.Laws.{ClashIsFirst, ShortIsFirst}

abbrev clash_told : Plant → Placed → Clash → LateRule
clash_told p t c = ConflictIn (name_at t.task.program.routines c.function) c.conflict.set c.conflict.lines p.«ways»

pub or_else_map : {A B : Type 0} (h : A → B) (a b : Option A) → option_map h (or_else a b) ≡ or_else (option_map h a) (option_map h b)
or_else_map h None b = refl
or_else_map h (Some a) b = refl

clash_one : (p : Plant) (t : Placed) (f : ℕ) (found : Option Conflict) → of_conflict (name_at t.task.program.routines f) p.«ways» found ≡ option_map (clash_told p t) (clash_in f found)
clash_one p t f None = refl
clash_one p t f (Some c) = refl

clash_from : (p : Plant) (t : Placed) (plans : List Plan) → first_conflict p t plans ≡ option_map (clash_told p t) (first_clash p plans (map (footprint_of p.line t.at) plans))
clash_from p t [] = refl
clash_from p t (plan ∷ plans) =
    let lines : List ℕ = footprint_of p.line t.at plan in
    let found : Option Conflict = conflict_of p.sets p.«ways» lines in
    let rest : Option Clash = first_clash p plans (map (footprint_of p.line t.at) plans) in
    ap (λ o. or_else o (first_conflict p t plans)) (clash_one p t plan.function found)
    ∙ ap (λ o. or_else (option_map (clash_told p t) (clash_in plan.function found)) o) (clash_from p t plans)
    ∙ sym (or_else_map (clash_told p t) (clash_in plan.function found) rest)

pub clash_is_first : ClashIsFirst
clash_is_first p t = clash_from p t t.plans

abbrev short_told : List Routine → IntervalFact → LateRule
short_told routines f = Length (name_at routines f.function) f.bound f.stated

short_from : (routines : List Routine) (facts : List IntervalFact) → short_interval routines facts ≡ option_map (short_told routines) (first_short facts)
short_from routines [] = refl
short_from routines (f ∷ fs) = by (nat_lt f.stated f.bound) (short_from routines fs)
  where
    by : (b : Bool) → short_interval routines fs ≡ option_map (short_told routines) (first_short fs) →
        cond b (Some (Length (name_at routines f.function) f.bound f.stated)) (short_interval routines fs) ≡ option_map (short_told routines) (cond b (Some f) (first_short fs))
    by true rest = refl
    by false rest = rest

pub short_is_first : ShortIsFirst
short_is_first p t = short_from t.task.program.routines (interval_facts p t)
