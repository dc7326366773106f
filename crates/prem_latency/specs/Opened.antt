-- When the calls of a list of instructions open, and what a run along a strand keeps closed.
use Rattle.std.specs.Prelude.{◌≡◌, ℕ, ◌+◌, ◌-◌, ◌*◌, ◌≤◌, All, List, [], ◌∷◌, ◌++◌, length}
use Rattle.prem_plant.specs.declared.plant.Plant.{Plant}
use Rattle.prem_isa.specs.declared.effect.Change.TheVariants.{Execute}
use Rattle.prem_isa.specs.Plain.{TaskRun, Did, plain_start, plain_run, plain_trace}
use Rattle.prem_sound.specs.Script.Script.{cost_of_dids, Begun, none_begun, begun_after, Script, call_at, call_of}
use Rattle.prem_sound.specs.Script.Conforms.{begun_behind, IsCall}
use Rattle.prem_sound.specs.Scopes.Charged.{IsScoped, charges_by}
use Rattle.prem_sound.specs.Scopes.Strands.{Strand, dids_along, scoping_of, IsStrand, ChargedFrom}
use Rattle.prem_latency.specs.Closed.{IsOpened, IsClosedBy}

-- behind some calls, each `pm.exec` of some instructions comes at most so many cycles behind its interval's first one: what its call's instructions
-- before it cost, and a fill and a write back for each member
abbrev pub OpensAlong : Plant → Script → (opens : ℕ → ℕ) → Begun → List Did → Type 0
OpensAlong plant s opens b [] = Unit {0}
OpensAlong plant s opens b (d ∷ ds) =
    ((stated : ℕ) → d.change ≡ Execute stated → cost_of_dids b.steps + length (call_of s b).members * (plant.fill + plant.back) ≤ opens (b.calls - 1))
    × OpensAlong plant s opens (begun_after d.change d b) ds

-- then a run that executes just these instructions, which end its jobs, opens so
abbrev pub TracesOpen : Type 0
TracesOpen =
    (plant : Plant) (run : TaskRun) (s : Script) (opens : ℕ → ℕ) (dids : List Did) →
    plain_trace run (length dids) (plain_start run) ≡ dids → (plain_run run (length dids)).ended ≡ run.jobs →
    OpensAlong plant s opens none_begun dids → IsOpened plant run s opens

-- one list behind another
abbrev pub OpeningsJoin : Type 0
OpeningsJoin =
    (plant : Plant) (s : Script) (opens : ℕ → ℕ) (b : Begun) (xs ys : List Did) →
    OpensAlong plant s opens b xs → OpensAlong plant s opens (begun_behind xs b) ys → OpensAlong plant s opens b (xs ++ ys)

-- a run along a strand keeps closed what the strand is charged with a script whose calls state no less than its own calls keep closed
abbrev pub StrandsClose : Type 0
StrandsClose =
    (plant : Plant) (run : TaskRun) (s : Script) (short : ℕ → ℕ) (w : Strand) (cost most longest : ℕ) →
    plain_trace run (length (dids_along w)) (plain_start run) ≡ dids_along w → (plain_run run (length (dids_along w))).ended ≡ run.jobs →
    IsStrand plant w → ChargedFrom plant s cost most 0 0 0 w → plant.switch + most ≤ longest → ((i : ℕ) → plant.switch + (call_at s i).stated ≤ longest) →
    ((i : ℕ) → short i ≤ (call_at s i).stated) → IsScoped plant run (scoping_of w) × IsClosedBy plant run short (charges_by plant run (scoping_of w)) cost

-- instructions none of which is a `pm.exec` open nothing
abbrev pub QuietListsOpen : Type 0
QuietListsOpen =
    (plant : Plant) (s : Script) (opens : ℕ → ℕ) (b : Begun) (ds : List Did) → All (λ (d : Did). (stated : ℕ) → d.change ≡ Execute stated → ⊥) ds → OpensAlong plant s opens b ds

-- and those of a call open within what its instructions before cost, and a fill and a write back for each member
abbrev pub CallsOpen : Type 0
CallsOpen =
    (plant : Plant) (passes : ℕ → ℕ) (s : Script) (opens : ℕ → ℕ) (n : ℕ) (before : List Did) (exec : Did) (rest : List Did) → IsCall plant passes (call_at s n) before exec rest →
    cost_of_dids before + length (call_at s n).members * (plant.fill + plant.back) ≤ opens n →
    OpensAlong plant s opens (record { calls = n + 1; steps = [] }) (before ++ exec ∷ rest)
