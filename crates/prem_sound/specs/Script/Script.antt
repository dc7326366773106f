-- The predictable intervals of a task's run on its own: which lines they touch, what they cost, and when all is brought in.
use Rattle.std.specs.Prelude.{◌≡◌, ℕ, zero, suc, ◌+◌, ◌-◌, ◌*◌, ◌/◌, ◌≤◌, true, List, [], ◌∷◌, ◌++◌, Option, Some, None, IfSome, length, sum_by, slice_index_or}
use Rattle.prem_sound.specs.Prelude.{is_predictable, due_of, cost_of, TaskRun, Did, plain_did, plain_run, Access, Loads, Change, Stay, Memory, Execute, End, Job, Phase, Compatible}
use Rattle.prem_sound.specs.Prelude.{Execution, AllIn, ArePasses, HaveRoom, Plant}
use Rattle.prem_isa.specs.declared.effect.Phase.TheVariants.{Memory as MemoryPhase}
use Rattle.std.specs.List.{concat}

-- ---- the lines of instructions

abbrev pub access_lines : ℕ → Option Access → List ℕ
access_lines size None = []
access_lines size (Some a) = a.address / size ∷ []

-- the lines that an executed instruction touches, that of its fetch first
abbrev pub lines_of_did : ℕ → Did → List ℕ
lines_of_did size d = d.pc / size ∷ access_lines size d.access

abbrev pub lines_of_dids : ℕ → List Did → List ℕ
lines_of_dids size [] = []
lines_of_dids size (d ∷ ds) = lines_of_did size d ++ lines_of_dids size ds

abbrev pub cost_of_dids : List Did → ℕ
cost_of_dids ds = sum_by (λ (d : Did). cost_of d.instr) ds

-- ---- the marked calls of a run

-- the marked calls that have begun, and the instructions of the last one, from the one behind its `pm.mem` up to its `pm.end`
pub record Begun : Type 0 where
  pub calls : ℕ
  pub steps : List Did

abbrev pub none_begun : Begun
none_begun = record { calls = 0; steps = [] }

-- the instructions of a call behind one more, which issued in this phase
abbrev pub steps_after : Phase → Did → List Did → List Did
steps_after Compatible d ds = ds
steps_after MemoryPhase d ds = ds ++ d ∷ []
steps_after Execution d ds = ds ++ d ∷ []

abbrev pub begun_after : Change → Did → Begun → Begun
begun_after Stay d b = record b { steps = steps_after d.phase d b.steps }
begun_after Memory d b = record { calls = b.calls + 1; steps = [] }
begun_after (Execute stated) d b = record b { steps = steps_after d.phase d b.steps }
begun_after End d b = record b { steps = steps_after d.phase d b.steps }
begun_after Job d b = record b { steps = steps_after d.phase d b.steps }

abbrev pub begun_with : Option Did → Begun → Begun
begun_with None b = b
begun_with (Some d) b = begun_after d.change d b

-- after n instructions of a run
unfoldable pub begun_by : TaskRun → ℕ → Begun
begun_by run zero = none_begun
begun_by run (suc n) = begun_with (plain_did run (plain_run run n)) (begun_by run n)

-- ---- a call

-- the lines that a marked call may touch in its interval, and the interval's stated length
pub record Call : Type 0 where
  pub members : List ℕ
  pub stated : ℕ

abbrev pub no_call : Call
no_call = record { members = []; stated = 0 }

-- touches of members that begin with so many parts in each of which every member is touched
pub record IsCovered (count : ℕ) (members touches : List ℕ) : Type 0 where
  pub parts : List (List ℕ)
  pub later : List ℕ
  pub touches_are : touches ≡ concat parts ++ later
  pub count_is : length parts ≡ count
  pub passes : ArePasses members parts
  pub within : AllIn members later

-- the execution phase begins with the stated length, when all members have been brought in
abbrev pub Opens : Plant → (passes : ℕ → ℕ) → Call → List Did → Change → Type 0
Opens plant passes c before Stay = Unit {0}
Opens plant passes c before Memory = Unit {0}
Opens plant passes c before (Execute stated) =
    (stated ≡ c.stated) × IsCovered (passes plant.ways) c.members (lines_of_dids plant.line before)
Opens plant passes c before End = Unit {0}
Opens plant passes c before Job = Unit {0}

-- nothing is stored in this phase
abbrev pub StoresNothing : Phase → Option Access → Type 0
StoresNothing Compatible access = Unit {0}
StoresNothing MemoryPhase access = IfSome access (λ a. a.kind ≡ Loads)
StoresNothing Execution access = Unit {0}

-- an instruction of a call, behind those before it: it touches members, a memory phase stores nothing, and what the call has
-- cost with it, and a fill and a write back for each member, fit the stated length
pub record IsStep (plant : Plant) (passes : ℕ → ℕ) (c : Call) (before : List Did) (d : Did) : Type 0 where
  pub within : AllIn c.members (lines_of_did plant.line d)
  pub stores : StoresNothing d.phase d.access
  pub opens : Opens plant passes c before d.change
  pub fits : cost_of_dids before + cost_of d.instr + length c.members * (plant.fill + plant.back) ≤ c.stated

-- ---- what is due

-- beside its own cycles, for `pm.mem` the predictable interval that it begins, with the switch before it and the one behind it,
-- and for `pm.done` the switch to its job
abbrev pub change_due : Plant → ℕ → Change → ℕ
change_due plant stated Stay = 0
change_due plant stated Memory = 2 * plant.switch + stated
change_due plant stated (Execute other) = 0
change_due plant stated End = 0
change_due plant stated Job = plant.switch

-- the cycles that are due for an instruction, where the next call states this length; those of a call are due with its `pm.mem`
abbrev pub did_due : Plant → ℕ → Phase → Did → ℕ
did_due plant stated Compatible d = due_of plant d + change_due plant stated d.change
did_due plant stated MemoryPhase d = 0
did_due plant stated Execution d = 0

-- ---- the script of a run

-- how many instructions end its jobs, its marked calls in order, and the cycles that its jobs take at most
pub record Script : Type 0 where
  pub count : ℕ
  pub calls : List Call
  pub due : ℕ

abbrev pub call_at : Script → ℕ → Call
call_at s i = slice_index_or s.calls i no_call

-- the call that has begun last
abbrev pub call_of : Script → Begun → Call
call_of s b = call_at s (b.calls - 1)

abbrev pub due_with : Plant → Script → Begun → Option Did → ℕ
due_with plant s b None = 0
due_with plant s b (Some d) = did_due plant (call_at s b.calls).stated d.phase d

-- the cycles that are due for n instructions
unfoldable pub due_by : Plant → Script → TaskRun → ℕ → ℕ
due_by plant s run zero = 0
due_by plant s run (suc n) = due_by plant s run n + due_with plant s (begun_by run n) (plain_did run (plain_run run n))

-- a run does what its script says
pub record IsScript (plant : Plant) (passes : ℕ → ℕ) (run : TaskRun) (s : Script) : Type 0 where
  pub ends : (plain_run run s.count).ended ≡ run.jobs
  pub steps : (n : ℕ) (d : Did) → plain_did run (plain_run run n) ≡ Some d → is_predictable d.phase ≡ true → IsStep plant passes (call_of s (begun_by run n)) (begun_by run n).steps d
  pub room : (i : ℕ) → HaveRoom plant.sets plant.ways (call_at s i).members
  pub calls_are : (begun_by run s.count).calls ≡ length s.calls
  pub dues : due_by plant s run s.count ≤ s.due
