-- Parts at places that are apart, and what that says of the first task's parts.
use Rattle.std.specs.Prelude.{◌≡◌, ℕ, ◌+◌, ◌%◌, ◌^◌, ◌≤◌, ⊤, List, [], ◌∷◌, ◌++◌, length, map, drop, slice_index}
use Rattle.prem_plant.specs.declared.layout.PartSize.{PartSize}
use Rattle.prem_plant.specs.Places.{Extent, AreDisjoint, ArePlaces}
use Rattle.prem_syntax.specs.Resolved.{Resolved}
use Rattle.prem_asm.specs.Pieces.{Pieces, size_of}
use Rattle.prem_layout.specs.Plans.{plans_of}
use Rattle.prem_layout.specs.Parts.{Passes, task_parts, part_count}
use Rattle.prem_layout.specs.Footprint.{TaskPlaces}
use Rattle.prem_layout.specs.Stubs.{stub_of}
use Rattle.prem_layout.specs.Placed.{task_places}
use Rattle.prem_foot.specs.Standing.{ArePartsAt}
use Rattle.prem_code_laws.specs.FitLaws.Whole.{HasAddresses}
use Rattle.prem_place.specs.Flat.Flat.{EndWithin}
use Rattle.prem_place.specs.Flat.Blocks.{start_at, code_parts, AllApart}

-- a part has its size at a multiple of its alignment, within memory
pub record LiesAt (memory : ℕ) (part : PartSize) (place : Extent) : Type 0 where
  pub ends : place.1 ≡ place.0 + part.size
  pub aligned : place.0 % part.align ≡ 0
  pub within : place.1 ≤ memory

-- each part has a place
abbrev pub EachLies : (memory : ℕ) → List PartSize → List Extent → Type 0
EachLies memory [] places = ⊤
EachLies memory (part ∷ parts) [] = ⊥
EachLies memory (part ∷ parts) (place ∷ places) = LiesAt memory part place × EachLies memory parts places

-- and no byte is in two places
pub record Lie (memory : ℕ) (parts : List PartSize) (places : List Extent) : Type 0 where
  pub each : EachLies memory parts places
  pub disjoint : AreDisjoint places

-- parts lie at their places
abbrev pub PlacesLie : Type 0
PlacesLie = (memory : ℕ) (parts : List PartSize) (places : List Extent) → ArePlaces memory parts places → Lie memory parts places

-- the addresses of a task's parts
abbrev pub starts_of : TaskPlaces → List ℕ
starts_of t = map (λ (place : Extent). place.0) t.places

-- a task whose parts are the first of those that lie somewhere
pub record Stands (passes : Passes) (line memory task : ℕ) (p : Resolved) (code : List Pieces) (places : List Extent) : Type 0 where
  pub parts : ArePartsAt memory (task_parts passes task (map size_of code) p) places
  pub addresses : HasAddresses p (starts_of (task_places p places))
  pub same : slice_index (starts_of (task_places p places)) ≡ start_at (task_places p places)
  pub apart : AllApart (start_at (task_places p places)) 0 (code_parts p.job code (map (stub_of passes line (task_places p places)) (plans_of p)))
  pub within : EndWithin (start_at (task_places p places)) 0 (code_parts p.job code (map (stub_of passes line (task_places p places)) (plans_of p)))

-- the first task's parts stand
abbrev pub FirstStands : Type 0
FirstStands =
    (passes : Passes) (line memory task : ℕ) (p : Resolved) (code : List Pieces) (rest : List PartSize) (places : List Extent) →
    length code ≡ length p.routines → memory ≤ 2 ^ 24 → Lie memory (task_parts passes task (map size_of code) p ++ rest) places →
    Stands passes line memory task p code places

-- and the others lie behind them in the list
abbrev pub OthersLie : Type 0
OthersLie =
    (passes : Passes) (memory task : ℕ) (p : Resolved) (sizes : List ℕ) (rest : List PartSize) (places : List Extent) →
    length sizes ≡ length p.routines → Lie memory (task_parts passes task sizes p ++ rest) places →
    Lie memory rest (drop (part_count p) places)
