-- One more task.
use Rattle.std.proofs.Common.{◌≡◌, List, [], ◌∷◌, refl, ap, map}
use Rattle.prem_plant.specs.declared.plant.Plant.{Plant}
use Rattle.prem_layout.specs.Facts.{job_fact}
use Rattle.prem_place.specs.Totals.Limits.{jobs_with}
use Rattle.prem_place.specs.Placed.PlacedOf.{placed_of}
use Rattle.prem_place.specs.declared.placed.PlacedTask.{PlacedTask}

-- with the bounds of placed tasks they are what is told of these
pub jobs_are : (p : Plant) (tasks : List PlacedTask) → jobs_with tasks (map (λ (t : PlacedTask). (job_fact p (placed_of t)).bound) tasks) ≡ map (job_fact p) (map placed_of tasks)
jobs_are p [] = refl
jobs_are p (t ∷ ts) = ap (λ js. job_fact p (placed_of t) ∷ js) (jobs_are p ts)
