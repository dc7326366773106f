-- The scopes of a task's run on its own, and what its jobs and stretches take at most with them.
use Rattle.std.specs.Prelude.{◌≡◌, ℕ, zero, suc, ◌+◌, ◌*◌, ◌/◌, ◌%◌, ◌≤◌, List, [], Option, Some, None, length, if◌then◌else◌}
use Rattle.prem_sound.specs.Prelude.{cost_of, TaskRun, Did, plain_did, plain_run, Access, Change, Stay, Memory, Execute, End, Job, Phase, Compatible, Execution, AllIn, Plant}
use Rattle.prem_isa.specs.declared.effect.Phase.TheVariants.{Memory as MemoryPhase}
use Rattle.prem_sound.specs.Paced.Paced.{within_job, within_stretch}
use Rattle.prem_sound.specs.Scopes.Lines.{line_cost, is_roomy, roomy_of, crowded_of}
use Rattle.prem_sound.specs.Script.Script.{lines_of_did, Begun, begun_by, change_due, Script, call_at}

-- ---- the scopes of a run

-- a scope with these lines begins with the instruction of this number, or the last one goes on
abbrev pub Scoping : Type 0
Scoping = ℕ → Option (List ℕ)

abbrev pub lines_with : Option (List ℕ) → List ℕ → List ℕ
lines_with None lines = lines
lines_with (Some others) lines = others

-- a scope ends with its interval
abbrev pub within_scope : Change → List ℕ → List ℕ
within_scope Stay lines = lines
within_scope Memory lines = []
within_scope (Execute stated) lines = lines
within_scope End lines = []
within_scope Job lines = []

abbrev pub scope_with : Option Did → List ℕ → List ℕ
scope_with None lines = lines
scope_with (Some d) lines = within_scope d.change lines

-- behind n instructions the lines of the scope that isn't over, and none where each is
unfoldable pub scope_by : TaskRun → Scoping → ℕ → List ℕ
scope_by run scoping zero = []
scope_by run scoping (suc n) = scope_with (plain_did run (plain_run run n)) (lines_with (scoping n) (scope_by run scoping n))

-- the lines of the scope in which the instruction of this number stands
abbrev pub scope_at : TaskRun → Scoping → ℕ → List ℕ
scope_at run scoping n = lines_with (scoping n) (scope_by run scoping n)

-- each instruction of a compatible interval touches lines of its scope alone
pub record IsScoped (plant : Plant) (run : TaskRun) (scoping : Scoping) : Type 0 where
  pub within : (n : ℕ) (d : Did) → plain_did run (plain_run run n) ≡ Some d → d.phase ≡ Compatible → AllIn (scope_at run scoping n) (lines_of_did plant.line d)

-- ---- charges

-- the lines of a scope are charged to its first instruction
abbrev pub lines_charged : Plant → Option (List ℕ) → ℕ
lines_charged plant None = 0
lines_charged plant (Some lines) = length (roomy_of plant lines lines)

-- what an instruction is charged in cycles, where a scope begins with it or goes on, whose lines are these: its cost, and a fill and a
-- write back for each line in a roomy set, where it is the first, and for each touch of its own in a crowded one
abbrev pub charge_with : Plant → Option (List ℕ) → (lines : List ℕ) → Did → ℕ
charge_with plant o lines d = cost_of d.instr + (lines_charged plant o + length (crowded_of plant lines (lines_of_did plant.line d))) * line_cost plant

-- a touch of a line of a crowded set may miss each time
abbrev pub crowd_cost : Plant → (lines : List ℕ) → (line : ℕ) → ℕ
crowd_cost plant lines line = if is_roomy plant lines (line % plant.sets) then 0 else line_cost plant

abbrev pub access_cost : Plant → (lines : List ℕ) → Option Access → ℕ
access_cost plant lines None = 0
access_cost plant lines (Some a) = crowd_cost plant lines (a.address / plant.line)

-- what each instruction of a run is charged, by its number
abbrev pub Charges : Type 0
Charges = ℕ → Did → ℕ

abbrev pub charges_by : Plant → TaskRun → Scoping → Charges
charges_by plant run scoping n d = charge_with plant (scoping n) (scope_at run scoping n) d

-- outside of calls
abbrev pub own_charge : Phase → ℕ → ℕ
own_charge Compatible charge = charge
own_charge MemoryPhase charge = 0
own_charge Execution charge = 0

-- with what is due for what it changes, where the next call states this length
abbrev pub did_charge : Plant → (stated : ℕ) → Phase → Change → (charge : ℕ) → ℕ
did_charge plant stated Compatible c charge = charge + change_due plant stated c
did_charge plant stated MemoryPhase c charge = 0
did_charge plant stated Execution c charge = 0

-- ---- jobs and stretches

abbrev pub job_with : Plant → Script → Begun → Charges → ℕ → Option Did → ℕ → ℕ
job_with plant s b charge n None job = job
job_with plant s b charge n (Some d) job = within_job d.change (job + did_charge plant (call_at s b.calls).stated d.phase d.change (charge n d))

-- what the first n instructions are charged, those of the job that isn't over
unfoldable pub job_charged : Plant → Script → TaskRun → Charges → ℕ → ℕ
job_charged plant s run charge zero = 0
job_charged plant s run charge (suc n) = job_with plant s (begun_by run n) charge n (plain_did run (plain_run run n)) (job_charged plant s run charge n)

abbrev pub stretch_with : Charges → ℕ → Option Did → ℕ → ℕ
stretch_with charge n None stretch = stretch
stretch_with charge n (Some d) stretch = within_stretch d.change (stretch + own_charge d.phase (charge n d))

-- and those of the stretch that isn't over
unfoldable pub stretch_charged : TaskRun → Charges → ℕ → ℕ
stretch_charged run charge zero = 0
stretch_charged run charge (suc n) = stretch_with charge n (plain_did run (plain_run run n)) (stretch_charged run charge n)

abbrev pub charge_due : Plant → Script → Begun → Charges → ℕ → Option Did → ℕ
charge_due plant s b charge n None = 0
charge_due plant s b charge n (Some d) = did_charge plant (call_at s b.calls).stated d.phase d.change (charge n d)

-- and all of them
unfoldable pub all_charged : Plant → Script → TaskRun → Charges → ℕ → ℕ
all_charged plant s run charge zero = 0
all_charged plant s run charge (suc n) = all_charged plant s run charge n + charge_due plant s (begun_by run n) charge n (plain_did run (plain_run run n))

-- with these charges each job takes at most so many cycles; each stretch and each marked call, with the switch before it, at most so many
pub record IsCharged (plant : Plant) (run : TaskRun) (s : Script) (charge : Charges) (cost longest : ℕ) : Type 0 where
  pub jobs : (n : ℕ) (d : Did) → plain_did run (plain_run run n) ≡ Some d →
      job_charged plant s run charge n + did_charge plant (call_at s (begun_by run n).calls).stated d.phase d.change (charge n d) ≤ cost
  pub stretches : (n : ℕ) (d : Did) → plain_did run (plain_run run n) ≡ Some d → d.phase ≡ Compatible → plant.switch + stretch_charged run charge n + charge n d ≤ longest
  pub calls : (i : ℕ) → plant.switch + (call_at s i).stated ≤ longest

-- ---- each instruction by itself

-- a scope of its own for each
abbrev pub alone_with : Plant → Option Did → Option (List ℕ)
alone_with plant None = None
alone_with plant (Some d) = Some (lines_of_did plant.line d)

abbrev pub each_alone : Plant → TaskRun → Scoping
each_alone plant run n = alone_with plant (plain_did run (plain_run run n))
