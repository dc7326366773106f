-- What is known of scopes: how often they miss, and what they are charged.
use Rattle.std.specs.Prelude.{◌≡◌, ℕ, ◌+◌, ◌*◌, ◌/◌, ◌<◌, ◌≤◌, not, None, List, length, filter, sum_by}
use Rattle.prem_sound.specs.Prelude.{due_of, cost_of, TaskRun, Did, plain_run, AllIn, OrderRule, CacheMissesOnce, cache_misses, order_rule_of, Plant}
use Rattle.prem_cycle.specs.Issue.{LineTouch, owed_by}
use Rattle.prem_cycle.specs.State.{Transaction}
use Rattle.prem_plant.specs.declared.plant.Replacement.{Replacement}
use Rattle.prem_sound.specs.Paced.Paced.{IsPaced}
use Rattle.prem_sound.specs.Scopes.Charged.{IsScoped, charge_with, crowd_cost, access_cost, Charges, charges_by, all_charged, IsCharged, each_alone}
use Rattle.prem_sound.specs.Scopes.Lines.{line_cost, roomy_of, most_misses}
use Rattle.prem_sound.specs.Scopes.Scopes.{Scope, KeepsToLines, charge_of, single}
use Rattle.prem_sound.specs.Script.Script.{lines_of_dids, Script}

-- from any state of a cache, for each rule under which lines that have room miss once: touches of a collection miss at most once for
-- each of its lines in a roomy set, and for each touch in a crowded one
abbrev pub ScopesMissLittle : Type 0
ScopesMissLittle =
    (order : OrderRule) (plant : Plant) (orders : List (List ℕ)) (lines touches : List ℕ) → CacheMissesOnce order → 0 < plant.sets → length orders ≡ plant.sets → AllIn lines touches →
    length (cache_misses order plant.ways orders touches) ≤ most_misses plant lines touches

-- so under each kind of replacement
abbrev pub KindsMissLittle : Type 0
KindsMissLittle =
    (kind : Replacement) (plant : Plant) (orders : List (List ℕ)) (s : Scope) → 0 < plant.sets → length orders ≡ plant.sets → KeepsToLines plant s →
    length (cache_misses (order_rule_of kind) plant.ways orders (lines_of_dids plant.line s.dids)) ≤ most_misses plant s.lines (lines_of_dids plant.line s.dids)

-- each touch that misses makes the core owe a fill and a write back at most, and another one nothing
abbrev pub MissesOweLittle : Type 0
MissesOweLittle = (plant : Plant) (touches : List LineTouch) → sum_by (λ (t : Transaction). t.cycles) (owed_by plant touches) ≤ length (filter (λ (t : LineTouch). not t.hit) touches) * line_cost plant

-- where each instruction is a scope by itself, it is charged what is due for it
abbrev pub PacedRunsAreCharged : Type 0
PacedRunsAreCharged =
    (plant : Plant) (run : TaskRun) (s : Script) (cost longest : ℕ) → IsPaced plant run s cost longest →
    IsScoped plant run (each_alone plant run) × IsCharged plant run s (charges_by plant run (each_alone plant run)) cost longest

-- a scope is charged a fill and a write back for each of its lines in a roomy set, and then each of its instructions by itself
abbrev pub ScopesSumUp : Type 0
ScopesSumUp =
    (plant : Plant) (s : Scope) → charge_of plant s ≡ length (roomy_of plant s.lines s.lines) * line_cost plant + sum_by (λ (d : Did). charge_with plant None s.lines d) s.dids

-- an instruction by itself is charged what is due for it
abbrev pub SinglesAreDue : Type 0
SinglesAreDue = (plant : Plant) (d : Did) → KeepsToLines plant (single plant d) × (charge_of plant (single plant d) ≡ due_of plant d)

-- a run whose jobs have ended is charged at most what they are
abbrev pub ChargesSumUp : Type 0
ChargesSumUp =
    (plant : Plant) (run : TaskRun) (s : Script) (charge : Charges) (cost longest n : ℕ) → IsCharged plant run s charge cost longest →
    run.jobs ≤ (plain_run run n).ended → all_charged plant s run charge n ≤ run.jobs * cost

-- an instruction of a scope that goes on is charged its cost, and a fill and a write back for its fetch and for its data where their sets
-- are crowded
abbrev pub ChargesByAccess : Type 0
ChargesByAccess =
    (plant : Plant) (lines : List ℕ) (d : Did) → charge_with plant None lines d ≡ cost_of d.instr + crowd_cost plant lines (d.pc / plant.line) + access_cost plant lines d.access
