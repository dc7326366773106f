-- A profile in callgrind's format, version 1.
use Rattle.std.specs.Prelude.{ℕ, zero, suc, ◌+◌, ◌==◌, ◌&&◌, Bool, if◌then◌else◌, List, [], ◌∷◌, ◌++◌, length, map, take, drop, slice_get, slice_index_or, Option, None, Some, codes, decimal}
use Rattle.prem_profile.specs.declared.cost.Cost.{Cost}
use Rattle.prem_profile.specs.declared.callgrind.Source.{Source}
use Rattle.prem_profile.specs.Spent.{no_cost}
use Rattle.prem_profile.specs.Strips.{Strip, first_row}
use Rattle.prem_profile.specs.Grammar.{cost_text}

abbrev pub no_source : Source
no_source = record { name = []; file = [] }

abbrev pub source_at : List Source → ℕ → Source
source_at sources k = slice_index_or sources k no_source

-- ---- lines

abbrev pub is_nothing : Cost → Bool
is_nothing c = (c.instructions == 0 && c.cycles == 0) && (c.misses == 0 && c.backs == 0)

-- what was spent at a line
abbrev pub spent_line : ℕ → Cost → List ℕ
spent_line line c = decimal line ++ (codes " " ++ (cost_text c ++ codes "\n"))

-- if anything was
abbrev pub cost_line : ℕ → Cost → List ℕ
cost_line line c = if is_nothing c then [] else spent_line line c

-- the name of a file: a line feed, which would end its line, is told as `_`
abbrev pub file_byte : ℕ → ℕ
file_byte b = if b == 10 then 95 else b

abbrev pub file_text : List ℕ → List ℕ
file_text file = map file_byte file

-- any other name: so is `(`, with which a number would begin
abbrev pub name_byte : ℕ → ℕ
name_byte b = if b == 40 then 95 else file_byte b

abbrev pub name_text : List ℕ → List ℕ
name_text name = map name_byte name

-- ---- parts

unfoldable pub opening : List ℕ
opening = codes "# callgrind format\nversion: 1\ncreator: prem_profile\npositions: line\nevents: Instructions Cycles Misses WriteBacks\nsummary: "

abbrev pub head_text : Cost → List ℕ
head_text total = opening ++ (cost_text total ++ codes "\n")

-- a task, its file with the number by which it is known, and a function of it
unfoldable pub object_line : List ℕ → List ℕ
object_line name = codes "\nob=" ++ (name_text name ++ codes "\n")

unfoldable pub file_line : (number : ℕ) → List ℕ → List ℕ
file_line number file = codes "fl=(" ++ (decimal number ++ (codes ") " ++ (file_text file ++ codes "\n")))

unfoldable pub function_line : List ℕ → List ℕ
function_line name = codes "fn=" ++ (name_text name ++ codes "\n")

abbrev pub function_head : Source → (number : ℕ) → (name : List ℕ) → List ℕ
function_head s number name = object_line s.name ++ (file_line number s.file ++ function_line name)

-- the first line, 0 where there is none; and the lines behind it
abbrev pub first_line : List ℕ → ℕ
first_line [] = 0
first_line (line ∷ lines) = line

abbrev pub lines_behind : List ℕ → List ℕ
lines_behind [] = []
lines_behind (line ∷ lines) = lines

-- the calls of a row: the function that it has called, and what was spent in the calls
pub record CallsAt : Type 0 where
  pub callee : Strip
  pub cost : Cost

-- a function by its number
abbrev pub callee_of : List Strip → ℕ → Option Strip
callee_of strips zero = None
callee_of strips (suc n) = slice_get strips n

abbrev pub calls_with : Cost → Option Strip → Option CallsAt
calls_with c None = None
calls_with c (Some callee) = Some (record { callee = callee; cost = c })

-- by what each row has called last, and by what was spent in the calls of each
abbrev pub calls_at : List Strip → (callees : List ℕ) → List Cost → (row : ℕ) → Option CallsAt
calls_at strips callees costs row = calls_with (slice_index_or costs row no_cost) (callee_of strips (slice_index_or callees row 0))

-- where no calls are told
abbrev pub no_calls_at : (row : ℕ) → Option CallsAt
no_calls_at row = None

-- the function and the line at which it begins, and how often it was called
unfoldable pub callee_lines : (count : ℕ) → Strip → List ℕ
callee_lines count callee =
    codes "cfn=" ++ (name_text callee.name ++ (codes "\ncalls=" ++ (decimal count ++ (codes " " ++ (decimal (first_line callee.lines) ++ codes "\n")))))

-- the calls of a line, if there are some
abbrev pub calls_text : (line count : ℕ) → Option CallsAt → List ℕ
calls_text line count None = []
calls_text line count (Some calls) = callee_lines count calls.callee ++ spent_line line calls.cost

-- what was spent at a line, and in the calls of its instruction, of which there is one each time that it is executed
abbrev pub row_text : Option CallsAt → ℕ → Cost → List ℕ
row_text calls line c = cost_line line c ++ calls_text line c.instructions calls

-- costs at lines, of rows from this one on
abbrev pub lines_text : (calls : ℕ → Option CallsAt) → (row : ℕ) → List ℕ → List Cost → List ℕ
lines_text calls row lines [] = []
lines_text calls row lines (c ∷ costs) = row_text (calls row) (first_line lines) c ++ lines_text calls (row + 1) (lines_behind lines) costs

abbrev pub strip_text : List Source → (calls : ℕ → Option CallsAt) → (row : ℕ) → Strip → List Cost → List ℕ
strip_text sources calls row s costs = function_head (source_at sources s.task) (s.task + 1) s.name ++ lines_text calls row s.lines costs

-- strips, whose costs stand one behind another
abbrev pub strips_text : List Source → (calls : ℕ → Option CallsAt) → (row : ℕ) → List Strip → List Cost → List ℕ
strips_text sources calls row [] costs = []
strips_text sources calls row (s ∷ ss) costs = strip_text sources calls row s (take s.count costs) ++ strips_text sources calls (row + s.count) ss (drop s.count costs)

-- what has no line: idle time, what stands nowhere, and the switches to each task
unfoldable pub machine_head : List ℕ
machine_head = codes "\nob=[machine]\nfl=(0) ???\nfn=[idle]\n"

unfoldable pub nowhere_head : List ℕ
nowhere_head = codes "fn=[elsewhere]\n"

unfoldable pub switch_opening : List ℕ
switch_opening = codes "fn=[switch] "

unfoldable pub switch_line : List ℕ → List ℕ
switch_line name = switch_opening ++ (name_text name ++ codes "\n")

abbrev pub switch_text : (name : List ℕ) → Cost → List ℕ
switch_text name c = switch_line name ++ cost_line 0 c

abbrev pub switches_text : List Source → List Cost → List ℕ
switches_text [] costs = []
switches_text (s ∷ ss) [] = []
switches_text (s ∷ ss) (c ∷ costs) = switch_text s.name c ++ switches_text ss costs

abbrev pub machine_text : List Source → List Cost → List ℕ
machine_text sources costs =
    machine_head ++ (cost_line 0 (slice_index_or costs 1 no_cost) ++ (nowhere_head ++ (cost_line 0 (slice_index_or costs 0 no_cost) ++ switches_text sources (drop 2 costs))))

unfoldable pub total_text : Cost → List ℕ
total_text total = codes "\ntotals: " ++ (cost_text total ++ codes "\n")

-- ---- the whole

-- of strips of tasks with these sources, with the costs of all rows, the calls of each, and the costs of all together
abbrev pub profile_text : List Source → List Strip → Cost → List Cost → (calls : ℕ → Option CallsAt) → List ℕ
profile_text sources strips total costs calls =
    head_text total ++ (machine_text sources costs ++ (strips_text sources calls (first_row (length sources)) strips (drop (length sources) (drop 2 costs)) ++ total_text total))
