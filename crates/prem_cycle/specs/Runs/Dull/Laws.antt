-- What dull cycles come to.
use Rattle.std.specs.Prelude.{◌≡◌, ℕ, List}
use Rattle.prem_cycle.specs.Prelude.{Request, ReplacementRule}
use Rattle.prem_cycle.specs.Run.{cycles_of}
use Rattle.prem_cycle.specs.Runs.Dull.Dull.{AreDull}
use Rattle.prem_cycle.specs.Runs.Dull.Rest.{IsSteady, Rests, passed}
use Rattle.prem_cycle.specs.State.{Setup, MachineState}

-- cycles that rest are dull
abbrev pub RestsAreDull : Type 0
RestsAreDull =
    (rule : ReplacementRule) (p : Setup) (requests : List Request) (n : ℕ) (s : MachineState) → IsSteady requests s → Rests n requests s → AreDull rule p requests n s

-- and dull ones rest
abbrev pub DullCyclesRest : Type 0
DullCyclesRest =
    (rule : ReplacementRule) (p : Setup) (requests : List Request) (n : ℕ) (s : MachineState) → IsSteady requests s → AreDull rule p requests n s → Rests n requests s

-- so many of them come to one step
abbrev pub RestsComeToOneStep : Type 0
RestsComeToOneStep =
    (rule : ReplacementRule) (p : Setup) (requests : List Request) (n : ℕ) (s : MachineState) → IsSteady requests s → Rests n requests s →
    cycles_of rule p requests n s ≡ passed n s
