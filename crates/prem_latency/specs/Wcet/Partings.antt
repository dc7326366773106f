-- What code divides into is what the machine's scopes part: the same words on both sides.
use Rattle.std.specs.Prelude.{◌≡◌, ℕ, List}
use Rattle.prem_plant.specs.declared.plant.Plant.{Plant}
use Rattle.prem_isa.specs.Plain.{Did}
use Rattle.prem_cycle.specs.Runs.Position.Finish.{due_of}
use Rattle.prem_sound.specs.Scopes.Scopes.{charge_of}
use Rattle.prem_sound.specs.Scopes.Parted.{IsParted}
use Rattle.prem_wcet_laws.specs.Divided.{lone_charge, scope_charge, Divides}

-- some steps as one scope, and one by itself
abbrev pub ScopesAgree : Type 0
ScopesAgree = (p : Plant) (lines : List ℕ) (steps : List Did) → charge_of p (record { lines = lines; dids = steps }) ≡ scope_charge p lines steps

abbrev pub LonesAgree : Type 0
LonesAgree = (p : Plant) (d : Did) → due_of p d ≡ lone_charge p d

-- steps that divide into scopes for at most so much are parted into scopes for at most so much
abbrev pub DivisionsArePartings : Type 0
DivisionsArePartings = (p : Plant) (most : ℕ) (steps : List Did) → Divides p most steps → IsParted p steps most
