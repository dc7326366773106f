-- What the jobs of a task's run on its own take, and its stretches, which are the instructions of one compatible interval.
use Rattle.std.specs.Prelude.{◌≡◌, ℕ, zero, suc, ◌+◌, ◌≤◌, Option, Some, None}
use Rattle.prem_sound.specs.Prelude.{due_of, TaskRun, Did, plain_did, plain_run, Change, Stay, Memory, Execute, End, Job, Phase, Compatible, Execution, Plant}
use Rattle.prem_isa.specs.declared.effect.Phase.TheVariants.{Memory as MemoryPhase}
use Rattle.prem_sound.specs.Script.Script.{Begun, begun_by, did_due, Script, call_at}

-- ---- jobs

-- a job ends with its last instruction
abbrev pub within_job : Change → ℕ → ℕ
within_job Stay due = due
within_job Memory due = due
within_job (Execute stated) due = due
within_job End due = due
within_job Job due = 0

abbrev pub job_with : Plant → Script → Begun → Option Did → ℕ → ℕ
job_with plant s b None due = due
job_with plant s b (Some d) due = within_job d.change (due + did_due plant (call_at s b.calls).stated d.phase d)

-- the cycles that are due, of the first n instructions, for those of the job that isn't over
unfoldable pub job_by : Plant → Script → TaskRun → ℕ → ℕ
job_by plant s run zero = 0
job_by plant s run (suc n) = job_with plant s (begun_by run n) (plain_did run (plain_run run n)) (job_by plant s run n)

-- ---- stretches

-- a stretch ends where its interval does
abbrev pub within_stretch : Change → ℕ → ℕ
within_stretch Stay due = due
within_stretch Memory due = 0
within_stretch (Execute stated) due = due
within_stretch End due = 0
within_stretch Job due = 0

-- an instruction's own cycles, outside of calls
abbrev pub own_due : Plant → Phase → Did → ℕ
own_due plant Compatible d = due_of plant d
own_due plant MemoryPhase d = 0
own_due plant Execution d = 0

abbrev pub stretch_with : Plant → Option Did → ℕ → ℕ
stretch_with plant None due = due
stretch_with plant (Some d) due = within_stretch d.change (due + own_due plant d.phase d)

-- the cycles that are due, of the first n instructions, for those of the stretch that isn't over
unfoldable pub stretch_by : Plant → TaskRun → ℕ → ℕ
stretch_by plant run zero = 0
stretch_by plant run (suc n) = stretch_with plant (plain_did run (plain_run run n)) (stretch_by plant run n)

-- ---- bounds

-- each job takes at most so many cycles; each stretch and each marked call, with the switch before it, at most so many
pub record IsPaced (plant : Plant) (run : TaskRun) (s : Script) (cost longest : ℕ) : Type 0 where
  pub jobs : (n : ℕ) (d : Did) → plain_did run (plain_run run n) ≡ Some d → job_by plant s run n + did_due plant (call_at s (begun_by run n).calls).stated d.phase d ≤ cost
  pub stretches : (n : ℕ) (d : Did) → plain_did run (plain_run run n) ≡ Some d → d.phase ≡ Compatible → plant.switch + stretch_by plant run n + due_of plant d ≤ longest
  pub calls : (i : ℕ) → plant.switch + (call_at s i).stated ≤ longest
