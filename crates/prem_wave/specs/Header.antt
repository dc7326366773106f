-- The declarations of a dump: one signal behind another, in the order of their values.
use Rattle.std.specs.Prelude.{ℕ, ◌+◌, ◌*◌, ◌==◌, ◌||◌, ◌&&◌, nat_le, Bool, if◌then◌else◌, List, [], ◌∷◌, ◌++◌, length, codes, decimal}
use Rattle.std.specs.List.{flat_map}

-- ---- lines

abbrev pub is_between : ℕ → ℕ → ℕ → Bool
is_between low high b = nat_le low b && nat_le b high

-- a letter, a digit or `_`
abbrev pub is_in_name : ℕ → Bool
is_in_name b = is_between 97 122 b || is_between 65 90 b || is_between 48 57 b || b == 95

-- a byte of a name; `_` stands for one that names of a dump don't have
abbrev pub name_byte : ℕ → List ℕ
name_byte b = if is_in_name b then b ∷ [] else codes "_"

abbrev pub name_text : List ℕ → List ℕ
name_text name = flat_map name_byte name

-- signal k of so many bits
unfoldable pub variable_text : (bits k : ℕ) → List ℕ → List ℕ
variable_text bits k name = codes "$var wire " ++ (decimal bits ++ (codes " " ++ (decimal k ++ (codes " " ++ (name ++ codes " $end\n")))))

unfoldable pub scope_start : List ℕ
scope_start = codes "$scope module "

unfoldable pub line_end : List ℕ
line_end = codes " $end\n"

-- the part of this kind and name begins
unfoldable pub scope_text : List ℕ → List ℕ → List ℕ
scope_text kind name = scope_start ++ (kind ++ (name_text name ++ line_end))

unfoldable pub scope_end : List ℕ
scope_end = codes "$upscope $end\n"

-- ---- parts

unfoldable pub preamble : List ℕ
preamble = codes "$comment Words are bytes: show them as ASCII. $end\n$version prem_wave $end\n$timescale 1 ns $end\n"

unfoldable pub core_text : List ℕ
core_text = scope_text (codes "core") [] ++ (variable_text 64 0 (codes "task") ++ (variable_text 1 1 (codes "window") ++ scope_end))

-- of a task whose first signal is k
unfoldable pub task_text : ℕ → List ℕ → List ℕ
task_text k name =
    scope_text (codes "task_") name
    ++ (variable_text 64 k (codes "state") ++ (variable_text 64 (k + 1) (codes "job") ++ (variable_text 64 (k + 2) (codes "call") ++ scope_end)))

-- of tasks, where the first one's first signal is k
abbrev pub tasks_text : ℕ → List (List ℕ) → List ℕ
tasks_text k [] = []
tasks_text k (name ∷ names) = task_text k name ++ tasks_text (k + 3) names

unfoldable pub bus_text : ℕ → List ℕ
bus_text k =
    scope_text (codes "bus") []
    ++ (variable_text 64 k (codes "holder") ++ (variable_text 1 (k + 1) (codes "miss") ++ (variable_text 1 (k + 2) (codes "back") ++ scope_end)))

unfoldable pub device_text : ℕ → List ℕ → List ℕ
device_text k name =
    scope_text (codes "device_") name
    ++ (variable_text 64 k (codes "queue") ++ (variable_text 64 (k + 1) (codes "line") ++ (variable_text 64 (k + 2) (codes "transfer") ++ scope_end)))

abbrev pub devices_text : ℕ → List (List ℕ) → List ℕ
devices_text k [] = []
devices_text k (name ∷ names) = device_text k name ++ devices_text (k + 3) names

unfoldable pub header_end : List ℕ
header_end = codes "$enddefinitions $end\n"

-- of tasks and devices with these names
abbrev pub header_text : (tasks devices : List (List ℕ)) → List ℕ
header_text tasks devices =
    preamble ++ (core_text ++ (tasks_text 2 tasks ++ (bus_text (2 + 3 * length tasks) ++ (devices_text (2 + 3 * length tasks + 3) devices ++ header_end))))

-- ---- how many bits each signal has

abbrev pub tasks_bits : List (List ℕ) → List ℕ
tasks_bits [] = []
tasks_bits (name ∷ names) = 64 ∷ 64 ∷ 64 ∷ tasks_bits names

abbrev pub devices_bits : List (List ℕ) → List ℕ
devices_bits [] = []
devices_bits (name ∷ names) = 64 ∷ 64 ∷ 64 ∷ devices_bits names

abbrev pub signal_bits : (tasks devices : List (List ℕ)) → List ℕ
signal_bits tasks devices = (64 ∷ 1 ∷ []) ++ (tasks_bits tasks ++ ((64 ∷ 1 ∷ 1 ∷ []) ++ devices_bits devices))
