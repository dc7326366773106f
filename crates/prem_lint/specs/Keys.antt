-- The line of a key in a set file, where the file is spelled as set files mostly are: [plant], [[task]] and [[device]] at the front of lines, and
-- lines KEY = VALUE behind them.
use Rattle.std.specs.Prelude.{ℕ, ◌+◌, ◌==◌, ◌||◌, ◌&&◌, Bool, if◌then◌else◌, List, [], ◌∷◌, ◌++◌, take, drop, length, Option, None, Some, codes, decimal}
use Rattle.std.specs.Char.{is_ascii_alphanumeric}
use Rattle.std.specs.List.{prefix_len}
use Rattle.std.specs.Str.{bytes_eq}
use Rattle.prem_line.specs.Lines.{lines_of}
use Rattle.prem_layout.specs.Rules.{or_else}
use Rattle.prem_lint.specs.declared.spot.Spot.{Spot}
use Rattle.prem_lint.specs.declared.spot.Spot.TheVariants.{Whole, Line}
use Rattle.prem_lint.specs.declared.keys.Section.{Section}
use Rattle.prem_lint.specs.declared.keys.Section.TheVariants.{Root, Plant, Task, Device, Other}
use Rattle.prem_lint.specs.declared.keys.Passed.{Passed}
use Rattle.prem_lint.specs.declared.keys.Sought.{Sought}
use Rattle.prem_lint.specs.declared.keys.Sought.TheVariants.{Key, Table}
use Rattle.prem_lint.specs.Spots.{is_blank}

-- whether the second text begins with the first
abbrev pub begins_with : List ℕ → List ℕ → Bool
begins_with front text = bytes_eq (take (length front) text) front

abbrev pub without_blanks : List ℕ → List ℕ
without_blanks line = drop (prefix_len is_blank line) line

abbrev pub is_key_byte : ℕ → Bool
is_key_byte b = is_ascii_alphanumeric b || b == 95 || b == 45 || b == 46

-- the key with which a line begins
abbrev pub key_in : List ℕ → List ℕ
key_in line = take (prefix_len is_key_byte line) line

-- ---- tables

-- what stands before the keys of a table in their paths; a table that no set file has begins no path
abbrev pub prefix : Section → List ℕ
prefix Root = []
prefix Plant = codes "plant."
prefix (Task n) = codes "task." ++ (decimal n ++ codes ".")
prefix (Device n) = codes "device." ++ (decimal n ++ codes ".")
prefix Other = codes "["

abbrev pub is_header : List ℕ → Bool
is_header line = begins_with (codes "[") line

abbrev pub in_section : Passed → Section → Passed
in_section p s = record { section = s; tasks = p.tasks; devices = p.devices }

abbrev pub next_task : Passed → Passed
next_task p = record { section = Task p.tasks; tasks = p.tasks + 1; devices = p.devices }

abbrev pub next_device : Passed → Passed
next_device p = record { section = Device p.devices; tasks = p.tasks; devices = p.devices + 1 }

-- behind a line without blanks in front
unfoldable pub behind : Passed → List ℕ → Passed
behind p line =
    if begins_with (codes "[[task]]") line then next_task p
    else if begins_with (codes "[[device]]") line then next_device p
    else if begins_with (codes "[plant]") line then in_section p Plant
    else if is_header line then in_section p Other
    else p

abbrev pub start : Passed
start = record { section = Root; tasks = 0; devices = 0 }

-- ---- paths

-- whether the line has the key with this path, and whether it begins the table in which that would stand
abbrev pub has_key : List ℕ → Section → List ℕ → Bool
has_key path s line = bytes_eq (prefix s ++ key_in line) path

abbrev pub begins_table : List ℕ → Section → List ℕ → Bool
begins_table path s line = is_header line && begins_with (prefix s) path

abbrev pub is_sought : Sought → List ℕ → Section → List ℕ → Bool
is_sought Key = has_key
is_sought Table = begins_table

-- the first line that is looked for, where the first of all has number n
abbrev pub line_of : (Section → List ℕ → Bool) → Passed → ℕ → List (List ℕ) → Option ℕ
line_of is p n [] = None
line_of is p n (l ∷ ls) =
    if is (behind p (without_blanks l)).section (without_blanks l) then Some n else line_of is (behind p (without_blanks l)) (n + 1) ls

abbrev pub line_spot : Option ℕ → Spot
line_spot None = Whole
line_spot (Some n) = Line n

-- of the lines of a set file, which has at most so many bytes
unfoldable pub key_spot : List ℕ → List ℕ → Spot
key_spot path text = line_spot (or_else (line_of (has_key path) start 1 (lines_of (take 65536 text))) (line_of (begins_table path) start 1 (lines_of (take 65536 text))))
