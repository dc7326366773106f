-- Images whose tasks have scripts and scopes: their runs are good, and go by what the scopes are charged.
use Rattle.std.specs.Prelude.{ℕ, ◌+◌, ◌*◌, ◌<◌, ◌≤◌, List, All, length}
use Rattle.prem_plant.specs.Order.Order.{OrderRule}
use Rattle.prem_sched.specs.Schedule.{task_at}
use Rattle.prem_lru.specs.Entries.{ReplacementRule}
use Rattle.prem_gate.specs.declared.request.Request.{Request}
use Rattle.prem_cycle.specs.Inputs.{IsTrace}
use Rattle.prem_cycle.specs.State.{Setup, record_of}
use Rattle.prem_cycle.specs.Run.{run_of}
use Rattle.prem_sound.specs.Script.Scripts.{Promise}
use Rattle.prem_sound.specs.Serve.Requests.{PutWords}
use Rattle.prem_sound.specs.Resident.Faultless.{IsPolicy}
use Rattle.prem_sound.specs.Sound.{AreInputs, Sound, HasScripts}
use Rattle.prem_sound.specs.Scopes.Charged.{Scoping}
use Rattle.prem_resp.specs.declared.busy.load.Load.{Load}
use Rattle.prem_resp.specs.Busy.Busy.{IsBalanced}
use Rattle.prem_resp.specs.Deadline.Deadlines.{AreLoads, LastsWithin, charged_limit}

-- for all input words, requests of devices, and numbers of cycles: where the busy period of a task's level lasts no longer than the task's
-- period, each job of the task has ended so many cycles behind its release
abbrev pub MeetsDeadlines : ReplacementRule → Setup → (content : List ℕ) → List Load → Type 0
MeetsDeadlines rule p content loads =
    (inputs : List (List ℕ)) (requests : List Request) → AreInputs p inputs → IsTrace p.devices requests → PutWords requests →
    (i cycles : ℕ) → i < length p.tasks → IsBalanced loads i cycles → cycles ≤ (record_of p i).period →
    (job n : ℕ) → job < (record_of p i).jobs → job * (record_of p i).period + cycles ≤ n → job < (task_at (run_of rule p content inputs requests n).sched i).ended

-- and each compatible interval that has ended has taken, with its switch, at most the longest of its task
abbrev pub KeepsIntervals : ReplacementRule → Setup → (content : List ℕ) → List Load → Type 0
KeepsIntervals rule p content loads =
    (inputs : List (List ℕ)) (requests : List Request) → AreInputs p inputs → IsTrace p.devices requests → PutWords requests →
    (n : ℕ) → All (LastsWithin p.plant loads) (run_of rule p content inputs requests n).log.intervals

-- an image that has scripts, with whatever limit, whose tasks are charged as loads tell, for all input words: it is sound up to the limit of
-- the charges, meets its deadlines by them, and keeps its intervals
abbrev pub ChargedImagesAreSound : Type 0
ChargedImagesAreSound =
    (rule : ReplacementRule) (order : OrderRule) (passes : ℕ → ℕ) (p : Setup) (content : List ℕ) (promises : List (List ℕ) → ℕ → Promise) (limit : ℕ)
    (loads : List Load) (scopings : List (List ℕ) → ℕ → Scoping) →
    IsPolicy rule order passes → (h : HasScripts passes p content promises limit) →
    ((inputs : List (List ℕ)) → AreInputs p inputs → AreLoads p (h.runs inputs) (h.scripts inputs) (scopings inputs) loads) →
    Sound rule p content promises (charged_limit p loads) × MeetsDeadlines rule p content loads × KeepsIntervals rule p content loads
