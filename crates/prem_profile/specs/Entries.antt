-- What the lines of a profile tell: the costs of its rows, each at the place of its row.
use Rattle.std.specs.Prelude.{◌≡◌, ℕ, ◌+◌, if◌then◌else◌, List, [], ◌∷◌, ◌++◌, length, take, drop, slice_index_or, Option, None, Some, codes}
use Rattle.prem_lru.specs.Entries.{ReplacementRule}
use Rattle.prem_gate.specs.declared.request.Request.{Request}
use Rattle.prem_cycle.specs.State.{Setup, MachineState}
use Rattle.prem_profile.specs.declared.cost.Cost.{Cost}
use Rattle.prem_profile.specs.declared.callgrind.Source.{Source}
use Rattle.prem_profile.specs.declared.home.Home.TheVariants.{Rest}
use Rattle.prem_profile.specs.Spent.{no_cost, plus, spent_in_all}
use Rattle.prem_profile.specs.Account.{costs_sum, each_row, row_cost}
use Rattle.prem_profile.specs.Strips.{Strip, first_row, rows_of, strip_words}
use Rattle.prem_profile.specs.Grammar.{Callee, Entry, IsProfile, Position}
use Rattle.prem_profile.specs.Callgrind.{CallsAt, file_text, first_line, is_nothing, lines_behind, name_text, profile_text, source_at}

-- ---- entries

-- what was spent at a line, if anything was
abbrev pub entry_at : Position → ℕ → Cost → List Entry
entry_at at line c = if is_nothing c then [] else record { callee = None; position = at; line = line; cost = c } ∷ []

-- the calls of a line, if there are some
abbrev pub calls_entry : Position → (line count : ℕ) → Option CallsAt → List Entry
calls_entry at line count None = []
calls_entry at line count (Some calls) =
    record {
      callee = Some (record { function = name_text calls.callee.name; count = count; line = first_line calls.callee.lines });
      position = at;
      line = line;
      cost = calls.cost;
    }
    ∷ []

abbrev pub row_entries : Position → Option CallsAt → (line : ℕ) → Cost → List Entry
row_entries at calls line c = entry_at at line c ++ calls_entry at line c.instructions calls

abbrev pub entries_at : Position → (calls : ℕ → Option CallsAt) → (row : ℕ) → List ℕ → List Cost → List Entry
entries_at at calls row lines [] = []
entries_at at calls row lines (c ∷ costs) = row_entries at (calls row) (first_line lines) c ++ entries_at at calls (row + 1) (lines_behind lines) costs

-- a function of a task
abbrev pub strip_position : List Source → Strip → Position
strip_position sources s = record { object = name_text (source_at sources s.task).name; file = file_text (source_at sources s.task).file; function = name_text s.name }

abbrev pub strips_entries : List Source → (calls : ℕ → Option CallsAt) → (row : ℕ) → List Strip → List Cost → List Entry
strips_entries sources calls row [] costs = []
strips_entries sources calls row (s ∷ ss) costs =
    entries_at (strip_position sources s) calls row s.lines (take s.count costs) ++ strips_entries sources calls (row + s.count) ss (drop s.count costs)

-- what has no line
abbrev pub machine_position : List ℕ → Position
machine_position name = record { object = codes "[machine]"; file = codes "???"; function = name }

abbrev pub switches_entries : List Source → List Cost → List Entry
switches_entries [] costs = []
switches_entries (s ∷ ss) [] = []
switches_entries (s ∷ ss) (c ∷ costs) = entry_at (machine_position (codes "[switch] " ++ name_text s.name)) 0 c ++ switches_entries ss costs

abbrev pub machine_entries : List Source → List Cost → List Entry
machine_entries sources costs =
    entry_at (machine_position (codes "[idle]")) 0 (slice_index_or costs 1 no_cost)
    ++ (entry_at (machine_position (codes "[elsewhere]")) 0 (slice_index_or costs 0 no_cost) ++ switches_entries sources (drop 2 costs))

abbrev pub profile_entries : List Source → List Strip → List Cost → (calls : ℕ → Option CallsAt) → List Entry
profile_entries sources strips costs calls =
    machine_entries sources costs ++ strips_entries sources calls (first_row (length sources)) strips (drop (length sources) (drop 2 costs))

-- what an entry tells that no other one tells: what is spent in calls are costs of the functions that are called
abbrev pub own_cost : Option Callee → Cost → Cost
own_cost None c = c
own_cost (Some callee) c = no_cost

abbrev pub entries_sum : List Entry → Cost
entries_sum [] = no_cost
entries_sum (e ∷ entries) = plus (own_cost e.callee e.cost) (entries_sum entries)

-- ---- laws

-- the text is a profile by the grammar, and tells these entries
abbrev pub ProfilesAreRead : Type 0
ProfilesAreRead =
    (sources : List Source) (strips : List Strip) (total : Cost) (costs : List Cost) (calls : ℕ → Option CallsAt) →
    IsProfile (profile_text sources strips total costs calls) (profile_entries sources strips costs calls) total

-- what all lines tell but for calls is what all rows cost
abbrev pub LinesAddUp : Type 0
LinesAddUp =
    (sources : List Source) (strips : List Strip) (costs : List Cost) (calls : ℕ → Option CallsAt) → length costs ≡ first_row (length sources) + strip_words strips →
    entries_sum (profile_entries sources strips costs calls) ≡ costs_sum costs

-- what all rows of a run cost is all that is spent in it
abbrev pub RowsAddUp : Type 0
RowsAddUp =
    (tasks size : ℕ) (strips : List Strip) (rule : ReplacementRule) (p : Setup) (requests : List Request) (n : ℕ) (s : MachineState) →
    costs_sum (each_row (row_cost tasks (rows_of tasks size strips) rule p requests n s) 0 (first_row tasks + strip_words strips))
    ≡ spent_in_all rule p requests Rest n s
