-- Parts whose names are there.
use Rattle.std.specs.Prelude.{ℕ, zero, suc, ◌<◌, ◌≤◌, ⊤, List, [], ◌∷◌, length}
use Rattle.prem_plant.specs.declared.plant.Device.{Device}
use Rattle.prem_plant.specs.declared.layout.PartKind.{PartKind}
use Rattle.prem_plant.specs.declared.layout.PartKind.TheVariants.{Start, Code, Stub, Global, Stack, Area}
use Rattle.prem_plant.specs.declared.layout.PartSize.{PartSize}
use Rattle.prem_plant.specs.Label.{IsName}
use Rattle.prem_layout.specs.Placed.{Coded}

abbrev pub HasName : Coded → Type 0
HasName c = IsName c.name

-- its code is that of its functions
abbrev pub HasCode : Coded → Type 0
HasCode c = length c.code ≤ length c.program.routines

-- the task has the function or the global
abbrev pub IsIn : Coded → PartKind → Type 0
IsIn c Start = ⊤
IsIn c (Code f) = f < length c.program.routines
IsIn c (Stub f) = f < length c.program.routines
IsIn c (Global g) = g < length c.program.globals
IsIn c Stack = ⊤
IsIn c (Area d) = ⊤

-- there is a task with the number, and it has that
abbrev pub IsAmong : List Coded → ℕ → PartKind → Type 0
IsAmong [] n kind = ⊥
IsAmong (c ∷ cs) zero kind = IsIn c kind
IsAmong (c ∷ cs) (suc n) kind = IsAmong cs n kind

abbrev pub KindIsThere : List Device → List Coded → ℕ → PartKind → Type 0
KindIsThere devices tasks n (Area d) = d < length devices
KindIsThere devices tasks n kind = IsAmong tasks n kind

-- the task, function, global or device that has the part is there
abbrev pub IsThere : List Device → List Coded → PartSize → Type 0
IsThere devices tasks part = KindIsThere devices tasks part.task part.kind
