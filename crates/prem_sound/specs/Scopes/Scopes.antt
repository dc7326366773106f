-- Scopes: executed instructions of one compatible interval, with the lines that they may touch, and what they are charged.
use Rattle.std.specs.Prelude.{ℕ, ◌+◌, ◌*◌, List, [], ◌∷◌, ◌++◌}
use Rattle.prem_sound.specs.Prelude.{Did, AllIn, Plant}
use Rattle.prem_sound.specs.Scopes.Lines.{line_cost, most_misses}
use Rattle.prem_sound.specs.Script.Script.{lines_of_did, lines_of_dids, cost_of_dids}

pub record Scope : Type 0 where
  pub lines : List ℕ
  pub dids : List Did

-- they touch lines of the collection alone
abbrev pub KeepsToLines : Plant → Scope → Type 0
KeepsToLines plant s = AllIn s.lines (lines_of_dids plant.line s.dids)

-- the charge of a scope in cycles: what its instructions cost, and a fill and a write back for each line in a roomy set and for each
-- touch of a line in a crowded one
abbrev pub charge_of : Plant → Scope → ℕ
charge_of plant s = cost_of_dids s.dids + most_misses plant s.lines (lines_of_dids plant.line s.dids) * line_cost plant

-- ---- instructions that are parted into scopes, one after another

abbrev pub dids_of : List Scope → List Did
dids_of [] = []
dids_of (s ∷ scopes) = s.dids ++ dids_of scopes

abbrev pub charges_of : Plant → List Scope → ℕ
charges_of plant [] = 0
charges_of plant (s ∷ scopes) = charge_of plant s + charges_of plant scopes

-- one instruction as a scope by itself, with the lines that it touches
abbrev pub single : Plant → Did → Scope
single plant d = record { lines = lines_of_did plant.line d; dids = d ∷ [] }
