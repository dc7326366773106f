-- What is written of the words of a compiled set.
use Rattle.std.specs.Prelude.{ℕ, ◌+◌, ◌-◌, List, [], ◌∷◌, ◌++◌, take, drop, slice_get, Option, None, Some, codes}
use Rattle.std.specs.Int.{w32, from_le_bytes}
use Rattle.prem_line.specs.Hexadecimal.{hex_word}
use Rattle.prem_plant.specs.declared.layout.PartKind.{PartKind}
use Rattle.prem_plant.specs.declared.layout.PartKind.TheVariants.{Start, Code, Stub, Global, Stack, Area}
use Rattle.prem_plant.specs.declared.layout.PartSize.{PartSize}
use Rattle.prem_plant.specs.Places.{Extent}
use Rattle.prem_syntax.specs.Syntax.{Text}
use Rattle.prem_asm.specs.Listing.{listing}
use Rattle.prem_tasks.specs.Compiled.{CompiledText}
use Rattle.prem_build.specs.Tables.Names.{first_name, rest_names}

-- ---- words

-- the bytes of a place
abbrev pub bytes_at : List ℕ → Extent → List ℕ
bytes_at content p = take (p.1 - p.0) (drop p.0 content)

-- bytes by fours, as little endian words
abbrev pub words_of : List ℕ → List ℕ
words_of (a ∷ b ∷ c ∷ d ∷ bytes) = from_le_bytes w32 (a ∷ b ∷ c ∷ d ∷ []) ∷ words_of bytes
words_of _ = []

-- ---- parts

abbrev pub task_line : Text → List ℕ
task_line name = codes "task " ++ (name ++ codes "\n")

abbrev pub part_line : List ℕ → Text → ℕ → List ℕ
part_line kind name at = codes "part " ++ (kind ++ (codes " " ++ (name ++ (codes " " ++ (hex_word at ++ codes "\n")))))

-- a part that has code, and its words
abbrev pub code_text : List ℕ → List ℕ → Text → Extent → List ℕ
code_text content kind name p = part_line kind name p.0 ++ listing p.0 (words_of (bytes_at content p))

-- a task is told where it starts
abbrev pub placed_text : List ℕ → PartKind → Text → Extent → List ℕ
placed_text content Start name p = task_line name ++ code_text content (codes "start") name p
placed_text content (Code f) name p = code_text content (codes "code") name p
placed_text content (Stub f) name p = code_text content (codes "stub") name p
placed_text content (Global g) name p = []
placed_text content Stack name p = []
placed_text content (Area d) name p = []

unfoldable pub part_text : List ℕ → PartKind → Text → Option Extent → List ℕ
part_text content kind name None = []
part_text content kind name (Some p) = placed_text content kind name p

-- the parts from the n-th on
abbrev pub parts_text : List ℕ → List Extent → ℕ → List PartSize → List Text → List ℕ
parts_text content places n [] names = []
parts_text content places n (part ∷ parts) names =
    part_text content part.kind (first_name names) (slice_get places n) ++ parts_text content places (n + 1) parts (rest_names names)

-- each task; its start, functions and stubs in the order of their places; their words
abbrev pub list_text : CompiledText → List ℕ
list_text c = parts_text c.image.content c.layout 0 c.parts c.names
