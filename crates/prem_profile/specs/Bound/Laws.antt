-- What a job is billed is what it takes at most.
use Rattle.std.specs.Prelude.{◌≡◌, ℕ, List}
use Rattle.prem_plant.specs.declared.plant.Plant.{Plant}
use Rattle.prem_syntax.specs.Resolved.{Resolved}
use Rattle.prem_layout.specs.Plans.{Plan}
use Rattle.prem_layout.specs.Footprint.{TaskPlaces}
use Rattle.prem_bounds.specs.Scale.{clipped}
use Rattle.prem_wcet_laws.specs.Wcet.{wcet_of}
use Rattle.prem_profile.specs.Bound.Bills.{cycles_on}
use Rattle.prem_profile.specs.Bound.Tasks.{task_bill}

-- of each task, wherever its parts stand, and whatever is stated, as numbers are told
abbrev pub BillsAddUp : Type 0
BillsAddUp = (p : Plant) (plans : List Plan) (task : ℕ) (program : Resolved) (t : TaskPlaces) → clipped (cycles_on (task_bill p plans task program t)) ≡ clipped (wcet_of p plans program t)
