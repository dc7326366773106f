-- A worked set: places by offsets, computed.
use Rattle.std.specs.Prelude.{codes, length}
use Rattle.std.proofs.Common.{◌≡◌, refl, ℕ, List, [], ◌∷◌, None, Some, Ok, Err, map}
use Rattle.prem_plant.specs.declared.plant.Plant.{Plant}
use Rattle.prem_plant.specs.declared.layout.PartSize.{PartSize}
use Rattle.prem_plant.specs.Places.{Extent}
use Rattle.prem_plant.specs.Ranges.{default_plant as plant}
use Rattle.prem_layout.specs.Placed.{Coded, parts_of}
use Rattle.prem_layout.specs.Rules.{ConflictIn}
use Rattle.prem_layout.specs.Broken.{broken_late, broken_at_places}
use Rattle.prem_layout.specs.Image.{image_of}
use Rattle.prem_layout.proofs.Samples.{m_text, m_turns}
use Rattle.prem_layout.proofs.Tasks.{coded}
use Rattle.prem_color.specs.Offsets.{PartRange, moved_places}
use Rattle.prem_color.specs.Wants.{Want, wants_of}

abbrev tasks : List Coded
tasks = coded (codes "m") 1000 1 m_text m_turns ∷ []

abbrev narrow : ℕ → Plant
narrow sets = record plant { sets = sets; «ways» = 1 }

abbrev parts : Plant → List PartSize
parts p = parts_of p [] tasks

abbrev wants : Plant → List (List PartRange)
wants p = map (λ (w : Want). w.ranges) (wants_of (parts p) tasks)

-- the stub, the code of `set`, the 16 bytes below the frame of `job`, and the one element
ranges_are : wants (narrow 16) ≡ ((3, 0, 172) ∷ (1, 0, 36) ∷ (5, 0, 16) ∷ (4, 0, 4) ∷ []) ∷ []
ranges_are = refl

-- at the default places two lines go into one set
conflict : broken_late (narrow 16) [] tasks ≡ Some (record { task = Some 0; rule = ConflictIn (codes "set") 0 2 1 })
conflict = refl

-- the stub, the global and the stack are moved
abbrev places : List Extent
places = (0x000, 0x008) ∷ (0x008, 0x02c) ∷ (0x02c, 0x05c) ∷ (0x13c, 0x1e8) ∷ (0x1e8, 0x1ec) ∷ (0x1f0, 0x210) ∷ []

sixteen : moved_places (narrow 16) (wants (narrow 16)) (parts (narrow 16)) ≡ Ok places
sixteen = refl

-- there no rule is broken, and the image has 528 bytes of content, 590 with the 62 bytes before it
accepted : broken_at_places (narrow 16) places tasks ≡ None
accepted = refl

content_long : length (image_of (narrow 16) [] places tasks).content ≡ 528
content_long = refl

-- the stub alone has more lines than eight sets take
eight : moved_places (narrow 8) (wants (narrow 8)) (parts (narrow 8)) ≡ Err 3
eight = refl
