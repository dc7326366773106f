-- All that is spent in a run is what its report tells.
use Rattle.std.specs.Prelude.{◌≡◌, ℕ, List, length}
use Rattle.prem_lru.specs.Entries.{ReplacementRule}
use Rattle.prem_gate.specs.declared.request.Request.{Request}
use Rattle.prem_cycle.specs.State.{Setup, start_of}
use Rattle.prem_cycle.specs.Run.{run_of, memory_of, steps_of}
use Rattle.prem_profile.specs.declared.cost.Cost.{Cost}
use Rattle.prem_profile.specs.declared.home.Home.TheVariants.{Rest}
use Rattle.prem_profile.specs.Spent.{spent_in_all}

-- the instructions that are executed, the cycles that pass, the misses and the lines written back
pub record IsTotal (rule : ReplacementRule) (p : Setup) (content : List ℕ) (inputs : List (List ℕ)) (requests : List Request) (n : ℕ) (c : Cost) : Type 0 where
  pub instructions : c.instructions ≡ length (steps_of rule p requests n (start_of p inputs (memory_of p content)))
  pub cycles : c.cycles ≡ (run_of rule p content inputs requests n).now
  pub misses : c.misses ≡ (run_of rule p content inputs requests n).log.counts.misses
  pub backs : c.backs ≡ (run_of rule p content inputs requests n).log.counts.writebacks

abbrev pub TotalsAreReported : Type 0
TotalsAreReported =
    (rule : ReplacementRule) (p : Setup) (content : List ℕ) (inputs : List (List ℕ)) (requests : List Request) (n : ℕ) →
    IsTotal rule p content inputs requests n (spent_in_all rule p requests Rest n (start_of p inputs (memory_of p content)))
