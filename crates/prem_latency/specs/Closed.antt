-- For how many cycles at most a job of a task with a script keeps the bus closed, by what its scopes are charged.
use Rattle.std.specs.Prelude.{◌≡◌, ℕ, zero, suc, ◌+◌, ◌-◌, ◌*◌, ◌<◌, ◌≤◌, min, Bool, true, false, All, List, Option, Some, None, length}
use Rattle.prem_plant.specs.declared.plant.Plant.{Plant}
use Rattle.prem_plant.specs.Order.Order.{OrderRule}
use Rattle.prem_isa.specs.declared.effect.Change.TheVariants.{Execute}
use Rattle.prem_isa.specs.Plain.{TaskRun, Did, plain_did, plain_run}
use Rattle.prem_lru.specs.Entries.{ReplacementRule}
use Rattle.prem_gate.specs.declared.request.Request.{Request}
use Rattle.prem_cycle.specs.State.{Setup, MachineState}
use Rattle.prem_sound.specs.Script.Script.{cost_of_dids, Begun, begun_by, Script, call_at, call_of, IsScript}
use Rattle.prem_sound.specs.Script.Scripts.{AreScripts}
use Rattle.prem_sound.specs.Resident.Faultless.{IsPolicy}
use Rattle.prem_sound.specs.Sound.{IsRun}
use Rattle.prem_sound.specs.Paced.Paced.{within_job}
use Rattle.prem_image.specs.declared.image.TaskRecord.{TaskRecord}
use Rattle.prem_cycle.specs.declared.state.Mode.TheVariants.{Idle}
use Rattle.prem_cycle.specs.declared.facts.EndedInterval.{EndedInterval}
use Rattle.prem_cycle.specs.Cycle.{is_over}
use Rattle.prem_resp.specs.Busy.Schedule.{one_if}
use Rattle.prem_latency.specs.Served.{is_closed, closed_for}
use Rattle.prem_latency.specs.Requests.{states_of}
use Rattle.prem_sound.specs.Scopes.Charged.{Scoping, IsScoped, Charges, charges_by, did_charge, IsCharged}

-- ---- calls

-- a call issues its `pm.exec` at most so many cycles behind its interval's first one: what its instructions before cost, and a fill and a write
-- back for each member
pub record IsOpened (plant : Plant) (run : TaskRun) (s : Script) (opens : ℕ → ℕ) : Type 0 where
  pub calls : (n stated : ℕ) (d : Did) → plain_did run (plain_run run n) ≡ Some d → d.change ≡ Execute stated →
      cost_of_dids (begun_by run n).steps + length (call_of s (begun_by run n)).members * (plant.fill + plant.back) ≤ opens ((begun_by run n).calls - 1)

-- the interval of a call keeps the bus closed for its stated length, or until it has opened and for one transfer at its end, whichever is less
abbrev pub short_of : Script → (opens : ℕ → ℕ) → (longest i : ℕ) → ℕ
short_of s opens longest i = min (call_at s i).stated (opens i + longest)

-- ---- jobs

abbrev pub closed_with : Plant → (short : ℕ → ℕ) → Begun → Charges → ℕ → Option Did → ℕ → ℕ
closed_with plant short b charge n None job = job
closed_with plant short b charge n (Some d) job = within_job d.change (job + did_charge plant (short b.calls) d.phase d.change (charge n d))

-- what the first n instructions are charged, those of the job that isn't over, where a call takes so many cycles as it keeps closed
unfoldable pub closed_charged : Plant → (short : ℕ → ℕ) → TaskRun → Charges → ℕ → ℕ
closed_charged plant short run charge zero = 0
closed_charged plant short run charge (suc n) = closed_with plant short (begun_by run n) charge n (plain_did run (plain_run run n)) (closed_charged plant short run charge n)

-- no job is charged more
pub record IsClosedBy (plant : Plant) (run : TaskRun) (short : ℕ → ℕ) (charge : Charges) (most : ℕ) : Type 0 where
  pub jobs : (n : ℕ) (d : Did) → plain_did run (plain_run run n) ≡ Some d →
      closed_charged plant short run charge n + did_charge plant (short (begun_by run n).calls) d.phase d.change (charge n d) ≤ most

-- ---- intervals

-- of so many cycles from one on those in which the bus is closed
abbrev pub closed_between : (states : ℕ → MachineState) (longest from cycles : ℕ) → ℕ
closed_between states longest from zero = 0
closed_between states longest from (suc n) = closed_between states longest from n + one_if (is_closed longest (states (from + n)))

-- a predictable interval is closed for its stated length at most, and until it has opened and for one transfer at its end
abbrev pub IsShortlyClosed : (states : ℕ → MachineState) (longest opened : ℕ) → EndedInterval → Type 0
IsShortlyClosed states longest opened e = e.predictable ≡ true → closed_between states longest e.first e.length ≤ min e.stated (opened + longest)

-- so is each that has ended in a run of tasks with scripts whose calls issue their `pm.exec` so many cycles behind the first one at most
abbrev pub IntervalsKeepClosed : Type 0
IntervalsKeepClosed =
    (rule : ReplacementRule) (order : OrderRule) (passes : ℕ → ℕ) (p : Setup) (content : List ℕ) (inputs : List (List ℕ)) (requests : List Request)
    (own : ℕ → ℕ → Bool) (runs : ℕ → TaskRun) (scripts : ℕ → Script) (longest opened n : ℕ) →
    IsPolicy rule order passes → IsRun p content requests → AreScripts p passes content inputs own runs scripts → 1 ≤ longest →
    ((k : ℕ) → k < length p.tasks → IsOpened p.plant (runs k) (scripts k) (λ i. opened)) →
    All (IsShortlyClosed (states_of rule p content inputs requests) longest opened) (states_of rule p content inputs requests n).log.intervals

-- idle time up to a release is closed in its first cycle, in which it is chosen, and else only where a transfer would pass the release
abbrev pub IdleTimeKeepsClosed : Type 0
IdleTimeKeepsClosed =
    (rule : ReplacementRule) (p : Setup) (content : List ℕ) (inputs : List (List ℕ)) (requests : List Request) (longest n until : ℕ) →
    All (λ (r : TaskRecord). 1 ≤ r.period) p.tasks → is_over (states_of rule p content inputs requests n) ≡ false → (states_of rule p content inputs requests n).core.mode ≡ Idle until →
    is_closed longest (states_of rule p content inputs requests n) ≡ true → (n < until) × (until < n + longest)

-- ---- the law

-- then in no run does the core work for a job in more cycles in which the bus is closed
abbrev pub JobsKeepClosedByCharges : Type 0
JobsKeepClosedByCharges =
    (rule : ReplacementRule) (order : OrderRule) (passes : ℕ → ℕ) (p : Setup) (content : List ℕ) (inputs : List (List ℕ)) (requests : List Request)
    (own : ℕ → ℕ → Bool) (runs : ℕ → TaskRun) (scripts : ℕ → Script) (scoping : Scoping) (opens : ℕ → ℕ) (longest k most job n : ℕ) →
    IsPolicy rule order passes → IsRun p content requests → AreScripts p passes content inputs own runs scripts → k < length p.tasks → 1 ≤ longest →
    IsScoped p.plant (runs k) scoping → IsOpened p.plant (runs k) (scripts k) opens → IsClosedBy p.plant (runs k) (short_of (scripts k) opens longest) (charges_by p.plant (runs k) scoping) most →
    closed_for (states_of rule p content inputs requests) longest k job n ≤ most

-- ---- what gives such bounds

-- each call of a script opens within its stated length
abbrev pub ScriptsOpen : Type 0
ScriptsOpen =
    (plant : Plant) (passes : ℕ → ℕ) (run : TaskRun) (s : Script) → IsScript plant passes run s → IsOpened plant run s (λ i. (call_at s i).stated)

-- a bound of the jobs of a script whose calls state these lengths, or longer ones, is one: so what is known of strands serves here
abbrev pub ShorterCallsClose : Type 0
ShorterCallsClose =
    (plant : Plant) (run : TaskRun) (s : Script) (short : ℕ → ℕ) (charge : Charges) (cost longest : ℕ) → ((i : ℕ) → short i ≤ (call_at s i).stated) →
    IsCharged plant run s charge cost longest → IsClosedBy plant run short charge cost

-- so is what the jobs of the task itself are charged, whenever its calls open
abbrev pub ChargedTasksClose : Type 0
ChargedTasksClose =
    (plant : Plant) (run : TaskRun) (s : Script) (charge : Charges) (cost interval : ℕ) (opens : ℕ → ℕ) (longest : ℕ) → IsCharged plant run s charge cost interval →
    IsClosedBy plant run (short_of s opens longest) charge cost
