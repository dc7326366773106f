-- Where tasks do what their scripts say, nothing in a run is a fault.
use Rattle.std.specs.Prelude.{◌≡◌, ℕ, ◌<◌, Bool, List, length}
use Rattle.prem_sound.specs.Prelude.{run_of, AreOwn, IsRunnable, Setup, MachineState, rule_in, Request, TaskRun, ReplacementRule, IsRule, MovesBy, OrderRule, CacheMissesOnce}
use Rattle.prem_sound.specs.Prelude.{IsCacheFullAfter, passes_of}
use Rattle.prem_sound.specs.Script.Script.{Script, IsScript}

-- a rule of replacement whose lines move by an order of their own: each line misses once, and so many passes bring all in
pub record IsPolicy (rule : ReplacementRule) (order : OrderRule) (passes : ℕ → ℕ) : Type 0 where
  pub keeps : IsRule rule
  pub moves : MovesBy rule order
  pub once : CacheMissesOnce order
  pub full : IsCacheFullAfter passes order

-- nothing that a run whose tasks keep to their scripts does
pub record IsFaultless (s : MachineState) : Type 0 where
  pub exec_misses : s.log.counts.exec_misses ≡ 0
  pub memory_stores : s.log.counts.memory_stores ≡ 0
  pub clashes : s.log.counts.clashes ≡ 0

-- where all tasks stay with bytes of their own and do what their scripts say, no instruction that issues in an execution phase
-- misses, none stores in a memory phase, and no cycle of the bus is wanted by the core and a gate both
abbrev pub ScriptsMakeNoFault : Type 0
ScriptsMakeNoFault =
    (rule : ReplacementRule) (order : OrderRule) (passes : ℕ → ℕ) (p : Setup) (content : List ℕ) (inputs : List (List ℕ)) (requests : List Request)
    (own : ℕ → ℕ → Bool) (runs : ℕ → TaskRun) (scripts : ℕ → Script) (n : ℕ) →
    IsPolicy rule order passes → IsRunnable p content requests → AreOwn p content inputs own runs → ((k : ℕ) → k < length p.tasks → IsScript p.plant passes (runs k) (scripts k)) →
    IsFaultless (run_of rule p content inputs requests n)

-- the same on a machine whose plant names the policy, where the scripts have the passes of its kind
abbrev pub PlantsMakeNoFault : Type 0
PlantsMakeNoFault =
    (p : Setup) (content : List ℕ) (inputs : List (List ℕ)) (requests : List Request) (own : ℕ → ℕ → Bool) (runs : ℕ → TaskRun) (scripts : ℕ → Script) (n : ℕ) →
    IsRunnable p content requests → AreOwn p content inputs own runs → ((k : ℕ) → k < length p.tasks → IsScript p.plant (passes_of p.plant.policy) (runs k) (scripts k)) →
    IsFaultless (run_of (rule_in p) p content inputs requests n)
