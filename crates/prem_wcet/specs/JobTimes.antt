-- What the start and `job` count, where these are the facts of all functions.
use Rattle.std.specs.Prelude.{ℕ, ◌+◌, max, min, if◌then◌else◌, List, [], ◌∷◌}
use Rattle.prem_isa.specs.declared.instr.Instr.TheVariants.{PmDone}
use Rattle.prem_layout.specs.Parts.{start_part}
use Rattle.prem_layout.specs.Bounds.{start_code, job_weight}
use Rattle.prem_layout.specs.Stretch.Sums.{taking, chained, greatest}
use Rattle.prem_wcet_laws.specs.Scopes.{Scene, fact_of, Span, charge}
use Rattle.prem_wcet_laws.specs.Least.{own_jump}
use Rattle.prem_wcet_laws.specs.Wcet.{own_start}

-- the start, where `job` has such a number
abbrev pub job_span : ℕ → Span
job_span job = record { pieces = start_code job; globals = []; callees = job ∷ [] }

-- the start touches nothing of the stack
abbrev pub at_start : Scene → Scene
at_start e = record e { stack = [] }

-- the start and `job`
abbrev pub job_by : Scene → (job : ℕ) → ℕ
job_by e job =
    if (fact_of e job).cuts then own_start e + (fact_of e job).parted.total
    else min (charge e (e.places start_part) (job_span job)) (own_start e + (fact_of e job).least)

-- their longest stretch where a marked call is in them
abbrev pub cut_stretch : Scene → (job : ℕ) → ℕ
cut_stretch e job = greatest (chained (taking (own_jump e)) (chained (fact_of e job).parted.sums (taking (job_weight e.plant PmDone))))

abbrev pub stretch_by : Scene → (job : ℕ) → ℕ
stretch_by e job = if (fact_of e job).cuts then cut_stretch e job else job_by e job

-- the greatest of some lengths
abbrev pub greatest_length : List ℕ → ℕ
greatest_length [] = 0
greatest_length (n ∷ ns) = max n (greatest_length ns)
