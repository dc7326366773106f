-- By when a run of tasks with scripts has finished, where their instructions are parted into scopes.
use Rattle.std.specs.Prelude.{◌≡◌, ℕ, ◌+◌, ◌*◌, ◌<◌, ◌≤◌, Bool, true, List, length}
use Rattle.prem_sound.specs.Prelude.{is_finished, run_of, Setup, record_of, Request, TaskRun, ReplacementRule, OrderRule}
use Rattle.prem_sound.specs.Resident.Faultless.{IsPolicy}
use Rattle.prem_sound.specs.Scopes.Charged.{Scoping, IsScoped, charges_by, all_charged, IsCharged}
use Rattle.prem_sound.specs.Script.Script.{Script}
use Rattle.prem_sound.specs.Script.Scripts.{sum_below, last_release, AreScripts}
use Rattle.prem_sound.specs.Sound.{IsRun}

-- the last release, and what the jobs of all tasks are charged, each of a task so much
abbrev pub jobs_limit : Setup → (cost : ℕ → ℕ) → ℕ
jobs_limit p cost = last_release p.tasks + sum_below (length p.tasks) (λ k. (record_of p k).jobs * cost k)

-- from the last release and all that the instructions of each task are charged on a run has finished
abbrev pub ScriptsFinishByTotals : Type 0
ScriptsFinishByTotals =
    (rule : ReplacementRule) (order : OrderRule) (passes : ℕ → ℕ) (p : Setup) (content : List ℕ) (inputs : List (List ℕ)) (requests : List Request)
    (own : ℕ → ℕ → Bool) (runs : ℕ → TaskRun) (scripts : ℕ → Script) (scopings : ℕ → Scoping) (total : ℕ → ℕ) (n : ℕ) →
    IsPolicy rule order passes → IsRun p content requests → AreScripts p passes content inputs own runs scripts → ((k : ℕ) → k < length p.tasks → IsScoped p.plant (runs k) (scopings k)) →
    ((k : ℕ) → k < length p.tasks → all_charged p.plant (scripts k) (runs k) (charges_by p.plant (runs k) (scopings k)) (scripts k).count ≤ total k) →
    last_release p.tasks + sum_below (length p.tasks) total ≤ n → is_finished (run_of rule p content inputs requests n) ≡ true

-- and so, where each job is charged at most so much
abbrev pub ScriptsFinishByJobs : Type 0
ScriptsFinishByJobs =
    (rule : ReplacementRule) (order : OrderRule) (passes : ℕ → ℕ) (p : Setup) (content : List ℕ) (inputs : List (List ℕ)) (requests : List Request)
    (own : ℕ → ℕ → Bool) (runs : ℕ → TaskRun) (scripts : ℕ → Script) (scopings : ℕ → Scoping) (cost longest : ℕ → ℕ) (n : ℕ) →
    IsPolicy rule order passes → IsRun p content requests → AreScripts p passes content inputs own runs scripts → ((k : ℕ) → k < length p.tasks → IsScoped p.plant (runs k) (scopings k)) →
    ((k : ℕ) → k < length p.tasks → IsCharged p.plant (runs k) (scripts k) (charges_by p.plant (runs k) (scopings k)) (cost k) (longest k)) →
    jobs_limit p cost ≤ n → is_finished (run_of rule p content inputs requests n) ≡ true
