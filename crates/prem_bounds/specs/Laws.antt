-- What the law of this crate says.
use Rattle.std.specs.Prelude.{◌≡◌, ℕ, Some, slice_get}
use Rattle.prem_plant.specs.declared.plant.Plant.{Plant}
use Rattle.prem_layout.specs.Plans.{Plan, plans_of}
use Rattle.prem_layout.specs.Footprint.{TaskPlaces}
use Rattle.prem_layout.specs.Placed.{Coded, table_of}
use Rattle.prem_layout.specs.Bounds.{stub_number}

-- in the code of a task the stub of the k-th plan is the k-th
abbrev pub StubsAreInOrder : Type 0
StubsAreInOrder = (p : Plant) (c : Coded) (at : TaskPlaces) (k : ℕ) (plan : Plan) → slice_get (plans_of c.program) k ≡ Some plan → stub_number (table_of p c at) plan ≡ k
