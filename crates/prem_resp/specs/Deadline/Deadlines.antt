-- What the jobs and intervals of a run take, and when its jobs have ended, where its tasks' instructions are parted into scopes.
use Rattle.std.specs.Prelude.{◌≡◌, ℕ, ◌+◌, ◌*◌, ◌<◌, ◌≤◌, Bool, true, false, List, All, length}
use Rattle.prem_plant.specs.declared.plant.Plant.{Plant}
use Rattle.prem_plant.specs.Order.Order.{OrderRule}
use Rattle.prem_sched.specs.Schedule.{task_at}
use Rattle.prem_isa.specs.Plain.{TaskRun}
use Rattle.prem_lru.specs.Entries.{ReplacementRule}
use Rattle.prem_gate.specs.declared.request.Request.{Request}
use Rattle.prem_cycle.specs.declared.facts.EndedInterval.{EndedInterval}
use Rattle.prem_cycle.specs.declared.state.Mode.TheVariants.{Running}
use Rattle.prem_cycle.specs.State.{Setup, record_of, MachineState}
use Rattle.prem_cycle.specs.Cycle.{is_finished}
use Rattle.prem_cycle.specs.Run.{run_of}
use Rattle.prem_sound.specs.Script.Script.{Script}
use Rattle.prem_sound.specs.Script.Scripts.{AreScripts}
use Rattle.prem_sound.specs.Resident.Faultless.{IsPolicy}
use Rattle.prem_sound.specs.Sound.{IsRun}
use Rattle.prem_sound.specs.Paced.Paced.{IsPaced}
use Rattle.prem_sound.specs.Scopes.Charged.{Scoping, IsScoped, charges_by, IsCharged, each_alone}
use Rattle.prem_sound.specs.Limits.{jobs_limit}
use Rattle.prem_resp.specs.declared.busy.load.Load.{Load}
use Rattle.prem_resp.specs.Busy.Busy.{load_at, IsBalanced}
use Rattle.prem_resp.specs.Busy.Schedule.{served}
use Rattle.prem_resp.specs.Deadline.Timeline.{timeline_of}

-- a load tells the period of a task, and bounds of its jobs and intervals with the charges of its scopes
pub record IsLoadOf (p : Setup) (runs : ℕ → TaskRun) (scripts : ℕ → Script) (scopings : ℕ → Scoping) (k : ℕ) (x : Load) : Type 0 where
  pub period : x.period ≡ (record_of p k).period
  pub scoped : IsScoped p.plant (runs k) (scopings k)
  pub charged : IsCharged p.plant (runs k) (scripts k) (charges_by p.plant (runs k) (scopings k)) x.cost x.longest

-- one for each task
pub record AreLoads (p : Setup) (runs : ℕ → TaskRun) (scripts : ℕ → Script) (scopings : ℕ → Scoping) (loads : List Load) : Type 0 where
  pub count : length loads ≡ length p.tasks
  pub each : (k : ℕ) → k < length p.tasks → IsLoadOf p runs scripts scopings k (load_at loads k)

-- loads that tell what is due are such loads, where each instruction is a scope by itself
abbrev pub PacedLoadsAreLoads : Type 0
PacedLoadsAreLoads =
    (p : Setup) (runs : ℕ → TaskRun) (scripts : ℕ → Script) (loads : List Load) → length loads ≡ length p.tasks →
    ((k : ℕ) → k < length p.tasks → ((load_at loads k).period ≡ (record_of p k).period) × IsPaced p.plant (runs k) (scripts k) (load_at loads k).cost (load_at loads k).longest) →
    AreLoads p runs scripts (λ k. each_alone p.plant (runs k)) loads

-- ---- what jobs and intervals take

-- a compatible interval that has ended has taken, with the switch before it, at most the longest of its task
abbrev pub LastsWithin : Plant → List Load → EndedInterval → Type 0
LastsWithin plant loads e = e.predictable ≡ false → plant.switch + e.length ≤ (load_at loads e.task).longest

-- and so one in which the core stands
abbrev pub RunsWithin : Plant → List Load → MachineState → Type 0
RunsWithin plant loads s = (k : ℕ) → s.core.mode ≡ Running k → s.core.interval.predictable ≡ false → plant.switch + s.now ≤ s.core.interval.first + (load_at loads k).longest

-- in every state of every run of tasks with scripts, each compatible interval has taken no more than its task's scopes are charged; and
-- the core has worked no more cycles for a job
abbrev pub ScriptsKeepCharges : Type 0
ScriptsKeepCharges =
    (rule : ReplacementRule) (order : OrderRule) (passes : ℕ → ℕ) (p : Setup) (content : List ℕ) (inputs : List (List ℕ)) (requests : List Request)
    (own : ℕ → ℕ → Bool) (runs : ℕ → TaskRun) (scripts : ℕ → Script) (scopings : ℕ → Scoping) (loads : List Load) (n : ℕ) →
    IsPolicy rule order passes → IsRun p content requests → AreScripts p passes content inputs own runs scripts → AreLoads p runs scripts scopings loads →
    All (LastsWithin p.plant loads) (run_of rule p content inputs requests n).log.intervals × RunsWithin p.plant loads (run_of rule p content inputs requests n)
    × ((k job : ℕ) → k < length p.tasks → served (timeline_of rule p content inputs requests) k job n ≤ (load_at loads k).cost)

-- ---- the limit

-- the cycle by which the jobs of all tasks have ended, each of which is charged so much
abbrev pub charged_limit : Setup → List Load → ℕ
charged_limit p loads = jobs_limit p (λ k. (load_at loads k).cost)

-- from the last release and what all jobs are charged on the run has finished
abbrev pub ScriptsFinishByCharges : Type 0
ScriptsFinishByCharges =
    (rule : ReplacementRule) (order : OrderRule) (passes : ℕ → ℕ) (p : Setup) (content : List ℕ) (inputs : List (List ℕ)) (requests : List Request)
    (own : ℕ → ℕ → Bool) (runs : ℕ → TaskRun) (scripts : ℕ → Script) (scopings : ℕ → Scoping) (loads : List Load) (n : ℕ) →
    IsPolicy rule order passes → IsRun p content requests → AreScripts p passes content inputs own runs scripts → AreLoads p runs scripts scopings loads →
    charged_limit p loads ≤ n → is_finished (run_of rule p content inputs requests n) ≡ true

-- ---- deadlines

-- where the busy period of a task's level lasts no longer than the task's period, each job of the task has ended so many cycles
-- behind its release
abbrev pub ScriptsMeetDeadlines : Type 0
ScriptsMeetDeadlines =
    (rule : ReplacementRule) (order : OrderRule) (passes : ℕ → ℕ) (p : Setup) (content : List ℕ) (inputs : List (List ℕ)) (requests : List Request)
    (own : ℕ → ℕ → Bool) (runs : ℕ → TaskRun) (scripts : ℕ → Script) (scopings : ℕ → Scoping) (loads : List Load) (i cycles : ℕ) →
    IsPolicy rule order passes → IsRun p content requests → AreScripts p passes content inputs own runs scripts → AreLoads p runs scripts scopings loads →
    i < length p.tasks → IsBalanced loads i cycles → cycles ≤ (record_of p i).period →
    (job n : ℕ) → job < (record_of p i).jobs → job * (record_of p i).period + cycles ≤ n → job < (task_at (run_of rule p content inputs requests n).sched i).ended
