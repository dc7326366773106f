-- Parts that have places so far.
use Rattle.std.specs.Prelude.{◌≡◌, ℕ, ◌≤◌, ⊤, true, List, length, map, drop, Result, Err}
use Rattle.std.specs.List.{AllByRecursion}
use Rattle.prem_plant.specs.declared.plant.Plant.{Plant}
use Rattle.prem_plant.specs.declared.layout.PartSize.{PartSize}
use Rattle.prem_plant.specs.Places.{Extent, end_behind}
use Rattle.prem_plant.specs.Apart.{rise_from}
use Rattle.prem_color.specs.declared.moving.Placing.{Placing}
use Rattle.prem_color.specs.declared.fail.ColorFail.{ColorFail}
use Rattle.prem_color.specs.declared.fail.ColorFail.TheVariants.{NoOffset, MemoryFull, OutOfMemory}
use Rattle.prem_color.specs.Offsets.{PartRange, moved_from, moved_places, placed_ranges}
use Rattle.prem_color.specs.RoomOf.{room_of}
use Rattle.prem_color.specs.Rooms.{AreRooms}

-- it ends by an address
abbrev pub EndsBy : ℕ → Extent → Type 0
EndsBy a r = (r.0 ≤ r.1) × (r.1 ≤ a)

abbrev pub AllEndBy : ℕ → List Extent → List (List PartRange) → Type 0
AllEndBy a places ws = AllByRecursion (λ w. AllByRecursion (EndsBy a) (placed_ranges places w)) ws

-- n parts have places, and the others lead where all lead
pub record IsPlacing (p : Plant) (ws : List (List PartRange)) (sizes : List PartSize) (n : ℕ) (s : Placing) : Type 0 where
  pub count : length s.places.items ≡ n
  pub end : end_behind 0 s.places.items ≡ s.at
  pub rise : rise_from 0 s.places.items ≡ true
  pub each : AllByRecursion (EndsBy s.at) s.places.items
  pub ends : AllEndBy s.at s.places.items ws
  pub rooms : AreRooms p.line p.sets p.«ways» s.places.items (map room_of s.rooms.items) ws
  pub whole : moved_from p ws s.places.items s.at (drop n sizes) ≡ moved_places p ws sizes

-- that memory is out tells nothing
abbrev pub IsStuck : ℕ → Result (List Extent) ℕ → ColorFail → Type 0
IsStuck n found (NoOffset part) = found ≡ Err part
IsStuck n found (MemoryFull need have) = ⊥
IsStuck n found OutOfMemory = ⊤

abbrev pub AnyStuck : Result (List Extent) ℕ → ColorFail → Type 0
AnyStuck found (NoOffset part) = found ≡ Err part
AnyStuck found (MemoryFull need have) = ⊥
AnyStuck found OutOfMemory = ⊤
