-- The answer to `color SET`: the image of a set whose parts are moved by whole lines, or why there is none.
use Rattle.std.specs.Prelude.{ℕ, nat_lt, if◌then◌else◌, List, [], ◌++◌, map, slice_index_or, Option, None, Some, Result, Ok, Err, codes}
use Rattle.prem_plant.specs.declared.layout.PartKind.{PartKind}
use Rattle.prem_plant.specs.declared.layout.PartKind.TheVariants.{Start, Code, Stub, Global, Stack, Area}
use Rattle.prem_plant.specs.declared.layout.PartSize.{PartSize}
use Rattle.prem_plant.specs.Places.{Extent, last_end}
use Rattle.prem_syntax.specs.Syntax.{Text}
use Rattle.prem_layout.specs.Rules.{MemoryFull, Refusal}
use Rattle.prem_color.specs.Offsets.{moved_places}
use Rattle.prem_color.specs.Rooms.{no_part}
use Rattle.prem_tasks.specs.Told.{Told, of_code}
use Rattle.prem_tasks.specs.Broken.{TaskText, TaskSet}
use Rattle.prem_tasks.specs.Compiled.{coded_in, parts_in, part_name}
use Rattle.prem_tasks.specs.At.{broken_early, broken_at, compiled_at}
use Rattle.prem_compile.specs.PartsOf.{ranges_wanted}
use Rattle.prem_imagefile.specs.Spelling.{image_bytes}
use Rattle.prem_answer.specs.declared.status.Status.TheVariants.{Done, Refused}
use Rattle.prem_answer.specs.Stages.{Reply, Stage}
use Rattle.prem_answer.specs.Refusal.Texts.{breaker, refused_reply}
use Rattle.prem_exec.specs.Sources.Sources.{reading_set}

-- ---- a part that no offset helps

abbrev pub kind_word : PartKind → List ℕ
kind_word Start = codes "start"
kind_word (Code f) = codes "code"
kind_word (Stub f) = codes "stub"
kind_word (Global g) = codes "global"
kind_word Stack = codes "stack"
kind_word (Area d) = codes "area"

-- its task, its kind and its name
abbrev pub stuck_line : List TaskText → PartSize → Text → List ℕ
stuck_line tasks part name =
    codes "refused " ++ (breaker tasks (Some part.task) ++ (codes " color " ++ (kind_word part.kind ++ (codes " " ++ (name ++ codes "\n")))))

abbrev pub name_in : TaskSet → ℕ → Text
name_in set n = slice_index_or (map (part_name set.devices (coded_in set)) (parts_in set)) n []

abbrev pub stuck_reply : TaskSet → ℕ → Reply
stuck_reply set n = (Refused, stuck_line set.tasks (slice_index_or (parts_in set) n no_part) (name_in set n))

-- ---- places

-- the parts end at `need`, past so many bytes of memory
abbrev pub memory_refusal : ℕ → ℕ → Refusal Told
memory_refusal need have = record { task = None; rule = of_code (MemoryFull need have) }

-- to a set whose first broken rule at places is this, if it breaks one there
abbrev pub judged_reply : TaskSet → List Extent → Option (Refusal Told) → Reply
judged_reply set places None = (Done, image_bytes (compiled_at set places).image)
judged_reply set places (Some refusal) = refused_reply set.tasks refusal

abbrev pub placed_reply : TaskSet → List Extent → Reply
placed_reply set places = judged_reply set places (broken_at set places)

-- where the parts have these places, or no offset helps the part with a number
abbrev pub moved_reply : TaskSet → Result (List Extent) ℕ → Reply
moved_reply set (Err n) = stuck_reply set n
moved_reply set (Ok places) =
    if nat_lt set.plant.memory (last_end places) then refused_reply set.tasks (memory_refusal (last_end places) set.plant.memory) else placed_reply set places

-- the places with offsets of a set's parts
abbrev pub found_places : TaskSet → Result (List Extent) ℕ
found_places set = moved_places set.plant (ranges_wanted set) (parts_in set)

-- ---- the answer

-- where the first rule that is broken up to code generation is this
abbrev pub early_reply : TaskSet → Option (Refusal Told) → Reply
early_reply set None = moved_reply set (found_places set)
early_reply set (Some refusal) = refused_reply set.tasks refusal

abbrev pub color_reply : TaskSet → Reply
color_reply set = early_reply set (broken_early set)

-- the set and its sources are read; then come the rules up to code generation, the places of the parts, and the rules on what is placed
abbrev pub color_stages : List ℕ → Stage Reply
color_stages name = reading_set name (λ set reads. Ok (color_reply set))
