-- What the code of a task has to show: a list of all instructions that its run executes, and that they conform to its calls.
use Rattle.std.specs.Prelude.{◌≡◌, ℕ, zero, suc, ◌+◌, ◌*◌, ◌/◌, ◌≤◌, Bool, true, false, List, [], ◌∷◌, ◌++◌, None, All, IfSome, length, slice_index_or, ◌-◌, ◌<◌}
use Rattle.prem_sound.specs.Prelude.{is_predictable, IsFree, AllOwn, StaysOwn, Setup, TaskRun, Did, plain_start, plain_run, plain_trace, RunFits, Loads, Change, Stay, Memory, Execute, End}
use Rattle.prem_sound.specs.Prelude.{Job, Compatible, Execution, AllIn, HaveRoom, Plant}
use Rattle.prem_isa.specs.declared.effect.Phase.TheVariants.{Memory as MemoryPhase}
use Rattle.prem_isa.specs.declared.instr.Instr.{Instr}
use Rattle.prem_isa.specs.declared.instr.Instr.TheVariants.{Load}
use Rattle.prem_sound.specs.Script.Script.{lines_of_dids, cost_of_dids, Begun, none_begun, begun_after, Call, no_call, call_at, call_of, IsCovered, IsStep, did_due, Script, IsScript}
use Rattle.prem_sound.specs.Script.Scripts.{Reading, Mark, mark_at, Promise, ReadsOwn, IsKept}

-- ---- own bytes

-- a load that takes nothing, as those of a prefetch
abbrev pub takes_nothing : Instr → Bool
takes_nothing (Load op zero rs1 offset) = true
takes_nothing (Load op (suc rd) rs1 offset) = false
takes_nothing _ = false

-- it is fetched from own bytes, loads and stores own bytes, and touches no line of a device
pub record IsOwnDid (p : Setup) (own : ℕ → Bool) (d : Did) : Type 0 where
  pub fetched : AllOwn own d.pc 4
  pub accessed : takes_nothing d.instr ≡ false → IfSome d.access (λ a. AllOwn own a.address a.size)
  pub fetch_line : IsFree p (d.pc / p.plant.line)
  pub data_line : IfSome d.access (λ a. IsFree p (a.address / p.plant.line))

-- ---- calls

-- what is begun behind some instructions
abbrev pub begun_behind : List Did → Begun → Begun
begun_behind [] b = b
begun_behind (d ∷ ds) b = begun_behind ds (begun_after d.change d b)

-- each instruction of a call is one that its script allows
abbrev pub KeepsCalls : Plant → (ℕ → ℕ) → Script → Begun → List Did → Type 0
KeepsCalls plant passes s b [] = Unit {0}
KeepsCalls plant passes s b (d ∷ ds) =
    (is_predictable d.phase ≡ true → IsStep plant passes (call_of s b) b.steps d) × KeepsCalls plant passes s (begun_after d.change d b) ds

-- the cycles that are due for some instructions
abbrev pub due_behind : Plant → Script → Begun → List Did → ℕ
due_behind plant s b [] = 0
due_behind plant s b (d ∷ ds) = did_due plant (call_at s b.calls).stated d.phase d + due_behind plant s (begun_after d.change d b) ds

-- ---- a run

-- a run that executes just these instructions without a trap, which end its jobs
pub record Conforms (p : Setup) (passes : ℕ → ℕ) (own : ℕ → Bool) (run : TaskRun) (calls : List Call) (due : ℕ) (dids : List Did) : Type 0 where
  pub trace : plain_trace run (length dids) (plain_start run) ≡ dids
  pub ends : (plain_run run (length dids)).ended ≡ run.jobs
  pub own_dids : All (IsOwnDid p own) dids
  pub room : All (λ (c : Call). HaveRoom p.plant.sets p.plant.ways c.members) calls
  pub keeps : KeepsCalls p.plant passes (record { count = length dids; calls = calls; due = due }) none_begun dids
  pub calls_are : (begun_behind dids none_begun).calls ≡ length calls
  pub dues : due_behind p.plant (record { count = length dids; calls = calls; due = due }) none_begun dids ≤ due

-- ---- the pieces of a run

-- the interval goes on, or ends with the job
abbrev pub GoesOrDone : Change → Type 0
GoesOrDone Stay = Unit {0}
GoesOrDone Memory = ⊥
GoesOrDone (Execute stated) = ⊥
GoesOrDone End = ⊥
GoesOrDone Job = Unit {0}

-- an instruction outside of a call, which begins none
pub record IsStretch (d : Did) : Type 0 where
  pub phase : d.phase ≡ Compatible
  pub goes_on : GoesOrDone d.change

-- the interval goes on, or ends with `pm.end`
abbrev pub GoesOrEnds : Change → Type 0
GoesOrEnds Stay = Unit {0}
GoesOrEnds Memory = ⊥
GoesOrEnds (Execute stated) = ⊥
GoesOrEnds End = Unit {0}
GoesOrEnds Job = ⊥

-- the instructions of a call, from the one behind its `pm.mem` to its `pm.end`: those before `pm.exec`, that one, and those behind it
pub record IsCall (plant : Plant) (passes : ℕ → ℕ) (c : Call) (before : List Did) (exec : Did) (rest : List Did) : Type 0 where
  pub fetching : All (λ (d : Did). (d.phase ≡ MemoryPhase) × GoesOrEnds d.change × IfSome d.access (λ a. a.kind ≡ Loads)) before
  pub opens : (exec.phase ≡ MemoryPhase) × (exec.change ≡ Execute c.stated) × (exec.access ≡ None)
  pub running : All (λ (d : Did). (d.phase ≡ Execution) × GoesOrEnds d.change) rest
  pub within : AllIn c.members (lines_of_dids plant.line (before ++ exec ∷ rest))
  pub covered : IsCovered (passes plant.ways) c.members (lines_of_dids plant.line before)
  pub fits : cost_of_dids (before ++ exec ∷ rest) + length c.members * (plant.fill + plant.back) ≤ c.stated

-- ---- what it gives

-- the words before a call behind its `pm.mem`, and those behind it behind its `pm.end`
abbrev pub AtMark : Reading → List Mark → Change → (ℕ → ℕ) → Begun → Type 0
AtMark reads marks Stay view b = Unit {0}
AtMark reads marks Memory view b = reads view ≡ (mark_at marks b.calls).before
AtMark reads marks (Execute stated) view b = Unit {0}
AtMark reads marks End view b = reads view ≡ (mark_at marks (b.calls - 1)).after
AtMark reads marks Job view b = Unit {0}

-- where the run has executed n instructions before these
abbrev pub KeepsMarks : Reading → List Mark → TaskRun → ℕ → Begun → List Did → Type 0
KeepsMarks reads marks run n b [] = Unit {0}
KeepsMarks reads marks run n b (d ∷ ds) =
    AtMark reads marks d.change (plain_run run (n + 1)).task.view b × KeepsMarks reads marks run (n + 1) (begun_after d.change d b) ds

-- a run that executes just these instructions gives what is promised
pub record GivesPromise (own : ℕ → Bool) (run : TaskRun) (calls : List Call) (dids : List Did) (q : Promise) : Type 0 where
  pub own_bytes : ReadsOwn own q.reads
  pub outputs : (plain_run run (length dids)).task.outputs ≡ q.outputs
  pub finals : q.reads (plain_run run (length dids)).task.view ≡ q.finals
  pub count : length q.marks ≡ length calls
  pub stated : (i : ℕ) → i < length calls → (mark_at q.marks i).stated ≡ (slice_index_or calls i no_call).stated
  pub marks : KeepsMarks q.reads q.marks run 0 none_begun dids

-- ---- the laws

-- what conforms has a script, and touches own bytes alone
abbrev pub ConformingRunsHaveScripts : Type 0
ConformingRunsHaveScripts =
    (p : Setup) (passes : ℕ → ℕ) (own : ℕ → Bool) (run : TaskRun) (calls : List Call) (due : ℕ) (dids : List Did) → RunFits run →
    Conforms p passes own run calls due dids →
    IsScript p.plant passes run (record { count = length dids; calls = calls; due = due }) × StaysOwn p own run

-- one list behind another
abbrev pub PiecesJoin : Type 0
PiecesJoin =
    (plant : Plant) (passes : ℕ → ℕ) (s : Script) (b : Begun) (xs ys : List Did) →
    KeepsCalls plant passes s b xs → KeepsCalls plant passes s (begun_behind xs b) ys → KeepsCalls plant passes s b (xs ++ ys)

-- a stretch keeps the calls, and begins none
abbrev pub StretchesKeep : Type 0
StretchesKeep =
    (plant : Plant) (passes : ℕ → ℕ) (s : Script) (b : Begun) (ds : List Did) → All IsStretch ds →
    KeepsCalls plant passes s b ds × (begun_behind ds b ≡ b)

-- `pm.mem` begins the next one
abbrev pub MemoryBegins : Type 0
MemoryBegins =
    (plant : Plant) (passes : ℕ → ℕ) (s : Script) (b : Begun) (d : Did) → d.phase ≡ Compatible → d.change ≡ Memory →
    KeepsCalls plant passes s b (d ∷ []) × (begun_behind (d ∷ []) b ≡ record { calls = b.calls + 1; steps = [] })

-- the instructions of a call keep it, and begin none
abbrev pub CallsKeep : Type 0
CallsKeep =
    (plant : Plant) (passes : ℕ → ℕ) (s : Script) (n : ℕ) (before : List Did) (exec : Did) (rest : List Did) →
    IsCall plant passes (call_at s n) before exec rest →
    KeepsCalls plant passes s (record { calls = n + 1; steps = [] }) (before ++ exec ∷ rest)
    × (begun_behind (before ++ exec ∷ rest) (record { calls = n + 1; steps = [] }) ≡ record { calls = n + 1; steps = before ++ exec ∷ rest })

-- a run that conforms and gives what is promised keeps it with its script
abbrev pub ConformingRunsKeepPromises : Type 0
ConformingRunsKeepPromises =
    (p : Setup) (passes : ℕ → ℕ) (own : ℕ → Bool) (run : TaskRun) (calls : List Call) (due : ℕ) (dids : List Did) (q : Promise) →
    Conforms p passes own run calls due dids → GivesPromise own run calls dids q → IsKept own run (record { count = length dids; calls = calls; due = due }) q

-- marks of one list behind those of another
abbrev pub MarksJoin : Type 0
MarksJoin =
    (reads : Reading) (marks : List Mark) (run : TaskRun) (n : ℕ) (b : Begun) (xs ys : List Did) →
    KeepsMarks reads marks run n b xs → KeepsMarks reads marks run (n + length xs) (begun_behind xs b) ys → KeepsMarks reads marks run n b (xs ++ ys)

-- neither `pm.mem` nor `pm.end`
abbrev pub NoMark : Change → Type 0
NoMark Stay = Unit {0}
NoMark Memory = ⊥
NoMark (Execute stated) = Unit {0}
NoMark End = ⊥
NoMark Job = Unit {0}

-- instructions that mark nothing
abbrev pub MarksRest : Type 0
MarksRest =
    (reads : Reading) (marks : List Mark) (run : TaskRun) (n : ℕ) (b : Begun) (ds : List Did) → All (λ (d : Did). NoMark d.change) ds → KeepsMarks reads marks run n b ds

-- what is due for one list behind another
abbrev pub DuesJoin : Type 0
DuesJoin =
    (plant : Plant) (s : Script) (b : Begun) (xs ys : List Did) → due_behind plant s b (xs ++ ys) ≡ due_behind plant s b xs + due_behind plant s (begun_behind xs b) ys

-- nothing is due for the instructions of a call, beside what is due for its `pm.mem`
abbrev pub CallsAreDueBefore : Type 0
CallsAreDueBefore =
    (plant : Plant) (s : Script) (b : Begun) (ds : List Did) → All (λ (d : Did). is_predictable d.phase ≡ true) ds → due_behind plant s b ds ≡ 0
