-- The parts of a placed task that have code, and the rule on jumps by their numbers.
use Rattle.std.specs.Prelude.{◌≡◌, ◌≤◌, ◌<◌, ◌⊎◌, ℕ, ◌+◌, ⊤, List, [], ◌∷◌, ◌++◌, length, map, slice_index_or}
use Rattle.std.specs.Option.{option_map}
use Rattle.prem_isa.specs.Decode.{word_of}
use Rattle.prem_syntax.specs.Syntax.{Text}
use Rattle.prem_syntax.specs.Resolved.{Routine}
use Rattle.prem_asm.specs.Pieces.{Pieces, size_of}
use Rattle.prem_layout.specs.Plans.{Plan}
use Rattle.prem_layout.specs.Footprint.{TaskPlaces, place_at}
use Rattle.prem_layout.specs.Bounds.{start_code}
use Rattle.prem_layout.specs.Placed.{Placed, Block, job_name, name_at, blocks_of}
use Rattle.prem_layout.specs.Rules.{Reach, reach_rules}
use Rattle.prem_place.specs.Content.Blocks.{Words}
use Rattle.prem_place.specs.Flat.Flat.{lowest_far, words_from}

-- where a task's part starts
abbrev pub start_at : TaskPlaces → ℕ → ℕ
start_at t n = (place_at t n).0

-- the start, the functions, the stubs, which are the first parts
abbrev pub code_parts : (job : ℕ) → List Pieces → List Pieces → List Pieces
code_parts job code stubs = start_code job ∷ (code ++ stubs)

abbrev pub parts_in : Placed → List Pieces
parts_in t = code_parts t.table.job t.table.code t.table.stubs

-- of which functions they are told
abbrev pub names_in : Placed → List Text
names_in t =
    job_name
    ∷ (map (λ (r : Routine). r.text.name) t.task.program.routines ++ map (λ (plan : Plan). name_at t.task.program.routines plan.function) t.plans)

-- the words of a block
abbrev pub words_of : Block → Words
words_of b = record { at = b.at; words = map word_of b.code }

-- of two rows of bytes one lies behind the other, where neither is empty
abbrev pub LieBeside : (at end low high : ℕ) → Type 0
LieBeside at end low high = at < end → low < high → (end ≤ low) ⊎ (high ≤ at)

-- each of the parts from a number on lies beside these bytes
abbrev pub LieApart : (places : ℕ → ℕ) (at end part : ℕ) → List Pieces → Type 0
LieApart places at end part [] = ⊤
LieApart places at end part (ps ∷ rest) = LieBeside at end (places part) (places part + size_of ps) × LieApart places at end (part + 1) rest

-- the parts from a number on lie beside each other
abbrev pub AllApart : (places : ℕ → ℕ) → ℕ → List Pieces → Type 0
AllApart places part [] = ⊤
AllApart places part (ps ∷ rest) = LieApart places (places part) (places part + size_of ps) (part + 1) rest × AllApart places (part + 1) rest

-- the code of each function, and the stub of each plan
pub record HasParts (t : Placed) : Type 0 where
  pub code : length t.table.code ≡ length t.task.program.routines
  pub functions : t.at.functions ≡ length t.task.program.routines
  pub stubs : length t.table.stubs ≡ length t.plans

-- where parts lie beside each other, the rule on jumps is broken by the lowest part that has a jump out of reach
abbrev pub ReachIsLowest : Type 0
ReachIsLowest =
    (t : Placed) → HasParts t → AllApart (start_at t.at) 0 (parts_in t) →
    reach_rules t ≡ option_map (λ part. Reach (slice_index_or (names_in t) part [])) (lowest_far (start_at t.at) 0 (parts_in t))

-- the blocks of a task have the words of its parts
abbrev pub BlocksHaveWords : Type 0
BlocksHaveWords = (t : Placed) → HasParts t → map words_of (blocks_of t) ≡ words_from (start_at t.at) 0 (parts_in t)
