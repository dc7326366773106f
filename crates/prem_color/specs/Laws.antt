-- What the laws of this crate say.
use Rattle.std.specs.Prelude.{◌≡◌, ℕ, ◌%◌, ◌<◌, ◌≤◌, All, true, List, length, Ok, None}
use Rattle.std.specs.List.{AllByRecursion}
use Rattle.prem_plant.specs.declared.plant.Plant.{Plant}
use Rattle.prem_plant.specs.declared.plant.Device.{Device}
use Rattle.prem_plant.specs.Ranges.{IsPlant}
use Rattle.prem_plant.specs.declared.layout.PartSize.{PartSize}
use Rattle.prem_plant.specs.Places.{Extent, ArePlaces, HasWholeAreas, AreLawful, last_end}
use Rattle.prem_layout.specs.Placed.{Coded, parts_of, placed_from, part_total}
use Rattle.prem_layout.specs.Rules.{conflict_rules}
use Rattle.prem_color.specs.Wants.{wants_of, ranges_of}
use Rattle.prem_color.specs.Standing.{TasksStand}
use Rattle.prem_color.specs.Offsets.{PartRange, all_have_room, moved_places}
use Rattle.prem_color.specs.Rooms.{LiesIn}

-- a whole line is a multiple of each alignment
abbrev pub AlignLines : ℕ → List PartSize → Type 0
AlignLines line parts = All (λ part. line % part.align ≡ 0) parts

-- places of whole areas are lawful
abbrev pub PlacedAreasAreLawful : Type 0
PlacedAreasAreLawful =
    (line memory : ℕ) (parts : List PartSize) (places : List Extent) → 0 < line → ArePlaces memory parts places → HasWholeAreas line parts → AreLawful line memory parts places

-- so are places with offsets, where the last one ends within memory
abbrev pub MovedPlacesAreLawful : Type 0
MovedPlacesAreLawful =
    (p : Plant) (wants : List (List PartRange)) (parts : List PartSize) (places : List Extent) → 0 < p.line → All (λ part. 1 ≤ part.align) parts →
    AlignLines p.line parts → HasWholeAreas p.line parts →
    moved_places p wants parts ≡ Ok places → last_end places ≤ p.memory → AreLawful p.line p.memory parts places

-- and all wants have room at them
abbrev pub MovedPlacesHaveRoom : Type 0
MovedPlacesHaveRoom =
    (p : Plant) (wants : List (List PartRange)) (parts : List PartSize) (places : List Extent) → 0 < length parts → moved_places p wants parts ≡ Ok places → all_have_room p wants places ≡ true

-- ---- sets

-- where all wants of a set have room at places of its parts, no task has a conflict in the cache
abbrev pub WantsLeaveNoConflict : Type 0
WantsLeaveNoConflict =
    (p : Plant) (memory : ℕ) (parts : List PartSize) (places : List Extent) (tasks : List Coded) → ArePlaces memory parts places → part_total tasks ≤ length parts → TasksStand parts 0 tasks →
    all_have_room p (ranges_of (wants_of parts tasks)) places ≡ true → AllByRecursion (λ t. conflict_rules p t ≡ None) (placed_from p places tasks)

-- a whole line is a multiple of the alignment of each part of a set
abbrev pub PartsAlignLines : Type 0
PartsAlignLines = (p : Plant) (devices : List Device) (tasks : List Coded) → IsPlant p → AlignLines p.line (parts_of p devices tasks)

-- ranges that are there lie in their parts
abbrev pub WantsLie : Type 0
WantsLie =
    (parts : List PartSize) (tasks : List Coded) → TasksStand parts 0 tasks →
    AllByRecursion (AllByRecursion (LiesIn parts)) (ranges_of (wants_of parts tasks))
