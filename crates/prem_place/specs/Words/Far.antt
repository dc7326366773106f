-- The words of placed tasks, and what is told of the first jump out of reach.
use Rattle.std.specs.Prelude.{◌≡◌, ◌<◌, ℕ, ⊤, List, [], map, length, slice_index_or, None, Some, Result, MatchResult}
use Rattle.prem_line.specs.declared.failing.Failing.{Failing}
use Rattle.prem_line.specs.declared.failing.Failing.TheVariants.{Refused, OutOfMemory}
use Rattle.prem_layout.specs.Placed.{Placed, blocks_of}
use Rattle.prem_layout.specs.Rules.{LateRule, Reach, Refusal, over_tasks, reach_rules}
use Rattle.prem_place.specs.Content.Blocks.{Words}
use Rattle.prem_place.specs.Flat.Blocks.{names_in, words_of}
use Rattle.prem_place.specs.Placed.PlacedOf.{placed_of}
use Rattle.prem_place.specs.declared.placed.PlacedTask.{PlacedTask}
use Rattle.prem_place.specs.Verdict.Told.{name_in, HasFunction}
use Rattle.prem_place.specs.declared.words.FarJump.{FarJump}

-- of the parts of a task that have a jump out of reach the one that starts lowest
pub record FarPart (t : Placed) (part : ℕ) : Type 0 where
  pub first : reach_rules t ≡ Some (Reach (slice_index_or (names_in t) part []))
  pub there : part < length (names_in t)

abbrev pub IsFarIn : Placed → Failing ℕ → Type 0
IsFarIn t (Refused part) = FarPart t part
IsFarIn t OutOfMemory = ⊤

-- the rule on jumps is broken there, with the function's name
abbrev pub refusal_of : List Placed → FarJump → Refusal LateRule
refusal_of ts j = record { task = Some j.task; rule = Reach (name_in ts j.task j.function) }

-- the first jump out of reach, whose task and function are there
pub record IsFirstFar (ts : List Placed) (j : FarJump) : Type 0 where
  pub first : over_tasks reach_rules ts ≡ Some (refusal_of ts j)
  pub there : HasFunction ts j.task j.function

-- want of memory tells nothing
abbrev pub IsFar : List Placed → Failing FarJump → Type 0
IsFar ts (Refused j) = IsFirstFar ts j
IsFar ts OutOfMemory = ⊤

-- no jump is out of reach exactly where it ends well, but for want of memory
abbrev pub EndsFar : {A : Type 0} → List Placed → Result A (Failing FarJump) → Type 0
EndsFar ts result = MatchResult result (λ _. over_tasks reach_rules ts ≡ None) (IsFar ts)

-- the words of a task's parts at their places
abbrev pub words_in : PlacedTask → List Words
words_in t = map words_of (blocks_of (placed_of t))
