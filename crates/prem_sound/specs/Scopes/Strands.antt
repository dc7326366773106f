-- A run parted into scopes and marked calls, one after another, and what they take at most.
use Rattle.std.specs.Prelude.{◌≡◌, ℕ, ◌+◌, ◌≤◌, true, List, [], ◌∷◌, ◌++◌, Option, Some, None, All, length, slice_index_or}
use Rattle.prem_sound.specs.Prelude.{is_predictable, TaskRun, Did, plain_start, plain_run, plain_trace, Change, Stay, Memory, Execute, End, Job, Compatible, Plant}
use Rattle.prem_sound.specs.Paced.Paced.{within_job, within_stretch}
use Rattle.prem_sound.specs.Scopes.Charged.{Scoping, IsScoped, charges_by, IsCharged}
use Rattle.prem_sound.specs.Scopes.Scopes.{Scope, KeepsToLines, charge_of}
use Rattle.prem_sound.specs.Script.Script.{change_due, Script, call_at}

-- scopes, and the instructions of marked calls behind their `pm.mem`, which ends the scope in which it stands
pub data Strand : Type 0 where
  ends : Strand
  runs : (s : Scope) (rest : Strand) → Strand
  calls : (dids : List Did) (rest : Strand) → Strand

abbrev pub dids_along : Strand → List Did
dids_along ends = []
dids_along (runs s rest) = s.dids ++ dids_along rest
dids_along (calls ds rest) = ds ++ dids_along rest

-- ---- where its scopes begin

abbrev pub none_begins : List Did → List (Option (List ℕ))
none_begins [] = []
none_begins (d ∷ ds) = None ∷ none_begins ds

abbrev pub one_begins : List ℕ → List Did → List (Option (List ℕ))
one_begins lines [] = []
one_begins lines (d ∷ ds) = Some lines ∷ none_begins ds

abbrev pub begins_along : Strand → List (Option (List ℕ))
begins_along ends = []
begins_along (runs s rest) = one_begins s.lines s.dids ++ begins_along rest
begins_along (calls ds rest) = none_begins ds ++ begins_along rest

abbrev pub scoping_of : Strand → Scoping
scoping_of w n = slice_index_or (begins_along w) n None

-- ---- what it keeps

-- the interval goes on, or ends behind these
abbrev pub GoesTo : Change → List Did → Type 0
GoesTo Stay ds = Unit {0}
GoesTo Memory ds = ds ≡ []
GoesTo (Execute stated) ds = ⊥
GoesTo End ds = ⊥
GoesTo Job ds = ds ≡ []

-- instructions of one compatible interval, which ends with the last of them at the earliest
abbrev pub IsWithinInterval : List Did → Type 0
IsWithinInterval [] = Unit {0}
IsWithinInterval (d ∷ ds) = (d.phase ≡ Compatible) × GoesTo d.change ds × IsWithinInterval ds

abbrev pub IsStrand : Plant → Strand → Type 0
IsStrand plant ends = Unit {0}
IsStrand plant (runs s rest) = IsWithinInterval s.dids × KeepsToLines plant s × IsStrand plant rest
IsStrand plant (calls ds rest) = All (λ (d : Did). is_predictable d.phase ≡ true) ds × IsStrand plant rest

-- ---- what it takes

-- the change of the last of some instructions
abbrev pub change_behind : Change → List Did → Change
change_behind c [] = c
change_behind c (d ∷ ds) = change_behind d.change ds

abbrev pub last_change : List Did → Change
last_change ds = change_behind Stay ds

abbrev pub calls_begun : Change → ℕ
calls_begun Stay = 0
calls_begun Memory = 1
calls_begun (Execute stated) = 0
calls_begun End = 0
calls_begun Job = 0

-- the charge of a scope, with what is due for the call that it begins, of so many that have begun, or for the job that it ends
abbrev pub scope_due : Plant → Script → (begun : ℕ) → Scope → ℕ
scope_due plant s begun x = charge_of plant x + change_due plant (call_at s begun).stated (last_change x.dids)

-- behind some calls, and some cycles of a job and of a stretch: each job along it takes at most so many cycles, and each stretch so many
abbrev pub ChargedFrom : Plant → Script → (cost most : ℕ) → (begun job stretch : ℕ) → Strand → Type 0
ChargedFrom plant s cost most begun job stretch ends = Unit {0}
ChargedFrom plant s cost most begun job stretch (runs x rest) =
    (job + scope_due plant s begun x ≤ cost) × (stretch + charge_of plant x ≤ most)
    × ChargedFrom plant s cost most (begun + calls_begun (last_change x.dids)) (within_job (last_change x.dids) (job + scope_due plant s begun x))
    (within_stretch (last_change x.dids) (stretch + charge_of plant x)) rest
ChargedFrom plant s cost most begun job stretch (calls ds rest) = ChargedFrom plant s cost most begun job stretch rest

-- ---- one job behind another

abbrev pub joined : Strand → Strand → Strand
joined ends v = v
joined (runs x rest) v = runs x (joined rest v)
joined (calls ds rest) v = calls ds (joined rest v)

-- the calls that have begun behind it
abbrev pub begun_along : ℕ → Strand → ℕ
begun_along begun ends = begun
begun_along begun (runs x rest) = begun_along (begun + calls_begun (last_change x.dids)) rest
begun_along begun (calls ds rest) = begun_along begun rest

-- what all of it is charged
abbrev pub charges_along : Plant → Script → (begun : ℕ) → Strand → ℕ
charges_along plant s begun ends = 0
charges_along plant s begun (runs x rest) = scope_due plant s begun x + charges_along plant s (begun + calls_begun (last_change x.dids)) rest
charges_along plant s begun (calls ds rest) = charges_along plant s begun rest

-- none of it ends a job
abbrev pub EndsNoJob : Strand → Type 0
EndsNoJob ends = Unit {0}
EndsNoJob (runs x rest) = (last_change x.dids ≡ Job → ⊥) × EndsNoJob rest
EndsNoJob (calls ds rest) = EndsNoJob rest

-- behind some cycles of a stretch, each stretch along it takes at most so many cycles
abbrev pub StretchesWithin : Plant → (most : ℕ) → (stretch : ℕ) → Strand → Type 0
StretchesWithin plant most stretch ends = Unit {0}
StretchesWithin plant most stretch (runs x rest) =
    (stretch + charge_of plant x ≤ most) × StretchesWithin plant most (within_stretch (last_change x.dids) (stretch + charge_of plant x)) rest
StretchesWithin plant most stretch (calls ds rest) = StretchesWithin plant most stretch rest

-- ---- the laws

-- one strand behind another
abbrev pub StrandsJoin : Type 0
StrandsJoin =
    (plant : Plant) (w v : Strand) → (dids_along (joined w v) ≡ dids_along w ++ dids_along v) × (IsStrand plant w → IsStrand plant v → IsStrand plant (joined w v))

-- a job's strand, with the scope that ends the job, before other jobs
abbrev pub JobsAreCharged : Type 0
JobsAreCharged =
    (plant : Plant) (s : Script) (cost most begun : ℕ) (w v : Strand) (last : Scope) → EndsNoJob w → last_change last.dids ≡ Job →
    charges_along plant s begun w + scope_due plant s (begun_along begun w) last ≤ cost → StretchesWithin plant most 0 (joined w (runs last ends)) →
    ChargedFrom plant s cost most (begun_along begun w) 0 0 v → ChargedFrom plant s cost most begun 0 0 (joined w (runs last v))

-- a run that executes just the instructions of a strand, which end its jobs, is scoped and charged as the strand is
abbrev pub StrandsAreCharged : Type 0
StrandsAreCharged =
    (plant : Plant) (run : TaskRun) (s : Script) (w : Strand) (cost most longest : ℕ) →
    plain_trace run (length (dids_along w)) (plain_start run) ≡ dids_along w → (plain_run run (length (dids_along w))).ended ≡ run.jobs →
    IsStrand plant w → ChargedFrom plant s cost most 0 0 0 w → plant.switch + most ≤ longest → ((i : ℕ) → plant.switch + (call_at s i).stated ≤ longest) →
    IsScoped plant run (scoping_of w) × IsCharged plant run s (charges_by plant run (scoping_of w)) cost longest

-- of a script the charges look at its calls alone
abbrev pub ChargesLookAtCalls : Type 0
ChargesLookAtCalls =
    (plant : Plant) (s other : Script) (cost most begun job stretch : ℕ) (w : Strand) → s.calls ≡ other.calls →
    ChargedFrom plant s cost most begun job stretch w → ChargedFrom plant other cost most begun job stretch w
