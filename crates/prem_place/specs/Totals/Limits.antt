-- The bounds of the jobs of tasks in memory.
use Rattle.std.specs.Prelude.{ℕ, ◌≤◌, ◌^◌, List, [], ◌∷◌}
use Rattle.prem_layout.specs.Bounds.{JobBound}
use Rattle.prem_place.specs.declared.placed.PlacedTask.{PlacedTask}

-- as many jobs as a set may state
abbrev pub HasJobs : PlacedTask → Type 0
HasJobs t = t.jobs ≤ 65535

-- a bound that isn't too large
abbrev pub IsBound : ℕ → Type 0
IsBound bound = bound ≤ 2 ^ 40

-- tasks, each with the bound of its jobs
abbrev pub jobs_with : List PlacedTask → List ℕ → List JobBound
jobs_with [] bounds = []
jobs_with (t ∷ ts) [] = []
jobs_with (t ∷ ts) (b ∷ bs) = record { period = t.period; jobs = t.jobs; bound = b } ∷ jobs_with ts bs
