-- The bounds of the jobs of placed tasks.
use Rattle.std.proofs.Common.{◌≡◌, ℕ, List, [], ◌∷◌, refl, ap, ◌∙◌, map}
use Rattle.prem_plant.specs.declared.plant.Plant.{Plant}
use Rattle.prem_layout.specs.Bounds.{JobBound, limit_of}
use Rattle.prem_layout.specs.Facts.{job_fact}
use Rattle.prem_place.specs.Placed.PlacedOf.{placed_of}
use Rattle.prem_place.specs.declared.placed.PlacedTask.{PlacedTask}
use Rattle.prem_place.specs.Totals.Limits.{jobs_with}
use Rattle.prem_place.proofs.TotalsLemmas.JobTurns as turns
use Rattle.prem_tasks.specs.Compiled.{job_bounds}

abbrev bounds_in : Plant → List PlacedTask → List ℕ
bounds_in p tasks = map (λ (j : JobBound). j.bound) (job_bounds p (map placed_of tasks))

listed : (p : Plant) (tasks : List PlacedTask) → bounds_in p tasks ≡ map (λ (t : PlacedTask). (job_fact p (placed_of t)).bound) tasks
listed p [] = refl
listed p (t ∷ ts) = ap (λ (bs : List ℕ). (job_fact p (placed_of t)).bound ∷ bs) (listed p ts)

pub limit_is : (p : Plant) (tasks : List PlacedTask) (jobs : List ℕ) (n : ℕ) →
    jobs ≡ map (λ (j : JobBound). j.bound) (job_bounds p (map placed_of tasks)) → n ≡ limit_of (jobs_with tasks jobs) →
    n ≡ limit_of (job_bounds p (map placed_of tasks))
limit_is p tasks jobs n e is = is ∙ ap (λ (bs : List ℕ). limit_of (jobs_with tasks bs)) (e ∙ listed p tasks) ∙ ap limit_of (turns.jobs_are p tasks)
