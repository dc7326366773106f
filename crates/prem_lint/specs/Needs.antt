-- The least lengths of all marked functions of a set.
use Rattle.std.specs.Prelude.{ℕ, ◌+◌, ◌==◌, Bool, true, false, if◌then◌else◌, List, [], ◌∷◌, ◌++◌, slice_get, slice_index_or, Option, None, Some, codes, decimal}
use Rattle.std.specs.List.{flat_map}
use Rattle.prem_syntax.specs.Syntax.{Text, FunctionText, ProgramText}
use Rattle.prem_syntax.specs.Resolve.{functions_of}
use Rattle.prem_layout.specs.Rules.{LateRule, Depth, Frame, MemoryFull, Reach, ConflictIn, BoundTooLarge, Length, Outputs, Intervals}
use Rattle.prem_tasks.specs.Told.{Told, of_text, of_program, of_ranges, of_code}
use Rattle.prem_tasks.specs.Broken.{TaskSet, programs_of}
use Rattle.prem_tasks.specs.Compiled.{TaskFact, compiled}
use Rattle.prem_lint.specs.declared.spot.Spot.TheVariants.{Line}
use Rattle.prem_lint.specs.Spots.{head}

-- FILE:LINE: note: .., at the line of the function's name
abbrev pub need_line : Text → FunctionText → ℕ → List ℕ
need_line file f bound = head file (Line f.at.line) ++ (codes "note: " ++ (f.name ++ (codes " needs at least " ++ (decimal bound ++ codes " cycles\n"))))

abbrev pub need_if : Text → Option FunctionText → ℕ → List ℕ
need_if file None bound = []
need_if file (Some f) bound = need_line file f bound

-- of a marked function, where it is one of the n-th task, which has these functions
abbrev pub need_text : Text → ℕ → List FunctionText → TaskFact → List ℕ
need_text file n functions fact = if fact.0 == n then need_if file (slice_get functions fact.1.function) fact.1.bound else []

-- of the marked functions of the n-th task
abbrev pub task_needs : Text → ℕ → List TaskFact → ProgramText → List ℕ
task_needs file n facts p = flat_map (need_text file n (functions_of p)) facts

-- the name of the n-th task's source
abbrev pub source_name : List Text → ℕ → Text
source_name sources n = slice_index_or sources n []

-- of the tasks from the n-th on
abbrev pub needs_from : ℕ → List TaskFact → List Text → List ProgramText → List ℕ
needs_from n facts sources [] = []
needs_from n facts sources (p ∷ ps) = task_needs (source_name sources n) n facts p ++ needs_from (n + 1) facts sources ps

abbrev pub is_late_length : LateRule → Bool
is_late_length (Depth line) = false
is_late_length (Frame function) = false
is_late_length (MemoryFull need have) = false
is_late_length (Reach function) = false
is_late_length (ConflictIn function set lines room) = false
is_late_length (BoundTooLarge function) = false
is_late_length (Length function bound stated) = true
is_late_length Outputs = false
is_late_length Intervals = false

-- whether the rule is that on stated lengths
abbrev pub is_length : Told → Bool
is_length (of_text fail) = false
is_length (of_program told) = false
is_length (of_ranges told) = false
is_length (of_code rule) = is_late_length rule

-- where a stated length is too short, the bound of each marked function of the set, as it is told of a set that breaks no rule
unfoldable pub needs_text : List Text → TaskSet → Told → List ℕ
needs_text sources set told = if is_length told then needs_from 0 (compiled set).intervals sources (programs_of set.tasks) else []
