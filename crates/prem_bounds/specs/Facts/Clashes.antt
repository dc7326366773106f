-- The first marked function whose lines don't fit the cache.
use Rattle.std.specs.Prelude.{ℕ, List, [], ◌∷◌, Option, None, Some}
use Rattle.prem_plant.specs.declared.plant.Plant.{Plant}
use Rattle.prem_layout.specs.Plans.{Plan}
use Rattle.prem_layout.specs.Footprint.{Conflict, conflict_of}
use Rattle.prem_layout.specs.Rules.{or_else}
use Rattle.prem_bounds.specs.declared.facts.lines.Clash.{Clash as ClashFound}

pub record Clash : Type 0 where
  pub function : ℕ
  pub conflict : Conflict

abbrev pub clash_of : Option ClashFound → Option Clash
clash_of None = None
clash_of (Some c) = Some (record { function = c.function; conflict = record { set = c.conflict.set; lines = c.conflict.lines } })

abbrev pub clash_in : ℕ → Option Conflict → Option Clash
clash_in f None = None
clash_in f (Some c) = Some (record { function = f; conflict = c })

abbrev pub first_clash : Plant → List Plan → List (List ℕ) → Option Clash
first_clash p [] lines = None
first_clash p (plan ∷ plans) [] = None
first_clash p (plan ∷ plans) (ns ∷ lines) = or_else (clash_in plan.function (conflict_of p.sets p.«ways» ns)) (first_clash p plans lines)
