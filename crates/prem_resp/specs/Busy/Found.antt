-- What is found of a busy period.
use Rattle.std.specs.Prelude.{ℕ, zero, suc, ◌≤◌, ◌==◌, if◌then◌else◌, List}
use Rattle.prem_resp.specs.declared.busy.load.Load.{Load}
use Rattle.prem_resp.specs.declared.busy.length.Busy.{Busy}
use Rattle.prem_resp.specs.declared.busy.length.Busy.TheVariants.{Within, Past}
use Rattle.prem_resp.specs.Busy.Busy.{load_at, demand, IsBalanced, IsLength}

-- the length, within the task's period; or there is none that is
abbrev pub IsFound : List Load → ℕ → Busy → Type 0
IsFound loads i (Within length) = IsLength loads i length × (length ≤ (load_at loads i).period)
IsFound loads i Past = (length : ℕ) → IsBalanced loads i length → length ≤ (load_at loads i).period → ⊥

-- no busy period is shorter
abbrev pub IsEarly : List Load → ℕ → ℕ → Type 0
IsEarly loads i cycles = (other : ℕ) → IsBalanced loads i other → cycles ≤ other

-- the first of so many numbers of cycles, from this one on, that is as long as what there is to do
unfoldable pub first_balanced : List Load → ℕ → (left from : ℕ) → Busy
first_balanced loads i zero from = Past
first_balanced loads i (suc left) from = if from == demand loads i from then Within from else first_balanced loads i left (suc from)

-- of those up to the period
abbrev pub busy_of : List Load → ℕ → Busy
busy_of loads i = first_balanced loads i (load_at loads i).period 1
