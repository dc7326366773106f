-- The paths of a task's code, taken one by one, and their stretches: what stands between marked calls.
use Rattle.std.specs.Prelude.{ℕ, zero, suc, ◌+◌, ◌-◌, ◌*◌, nat_lt, max, if◌then◌else◌, List, [], ◌∷◌, ◌++◌, length, slice_index_or, pos}
use Rattle.prem_layout.specs.Prelude.{Pieces, no_pieces, straight, address_of, either, repeat, call_to, weight, jump_weight, address_weight, skip_words, branch_of, Instr, Jalr, PmMem, Plant}
use Rattle.prem_layout.specs.Bounds.{CodeTable, start_code, job_weight}
use Rattle.prem_layout.specs.Plans.{Plan}

-- ---- paths

-- on its way a path takes cycles, and is cut where a predictable interval stands
pub data Event : Type 0 where
  Takes : (cycles : ℕ) → Event
  Cuts : Event

abbrev pub Path : Type 0
Path = List Event

-- each path of the first ones, and each of the others behind it
abbrev pub each_behind : Path → List Path → List Path
each_behind first [] = []
each_behind first (other ∷ others) = (first ++ other) ∷ each_behind first others

abbrev pub crossed : List Path → List Path → List Path
crossed [] others = []
crossed (first ∷ firsts) others = each_behind first others ++ crossed firsts others

-- one path, which takes some cycles
abbrev pub only : ℕ → List Path
only cycles = (Takes cycles ∷ []) ∷ []

-- a loop that takes each number of turns up to the greatest, each turn on some way, and then goes out on some way
unfoldable pub turning : ℕ → (turn out : List Path) → List Path
turning zero turn out = out
turning (suc turns) turn out = crossed turn (turning turns turn out) ++ out

-- the paths through pieces, with those of each called part
abbrev pub paths_of : (w : Instr → ℕ) (calls : ℕ → List Path) → Pieces → List Path
paths_of w calls no_pieces = [] ∷ []
paths_of w calls (straight code rest) = crossed (only (weight w code)) (paths_of w calls rest)
paths_of w calls (address_of rd part more rest) = crossed (only (address_weight w)) (paths_of w calls rest)
paths_of w calls (either test taken other rest) =
    crossed (only (w (branch_of test)))
    (crossed (crossed (paths_of w calls taken) (only (skip_words other * jump_weight w)) ++ crossed (only (jump_weight w)) (paths_of w calls other))
    (paths_of w calls rest))
paths_of w calls (repeat turns head test body rest) =
    crossed
    (turning turns
    (crossed (paths_of w calls head) (crossed (only (w (branch_of test))) (crossed (paths_of w calls body) (only (jump_weight w)))))
    (crossed (paths_of w calls head) (only (w (branch_of test) + jump_weight w))))
    (paths_of w calls rest)
paths_of w calls (call_to link part rest) = crossed (only (jump_weight w)) (crossed (calls part) (paths_of w calls rest))

-- ---- the paths of a task

-- a part's paths, from those of the functions' code and those of the stubs
abbrev pub part_paths : (functions : ℕ) (code stubs : ℕ → List Path) → ℕ → List Path
part_paths functions code stubs zero = [] ∷ []
part_paths functions code stubs (suc n) = if nat_lt n functions then code n else stubs (n - functions)

abbrev pub paths_at : List (List Path) → ℕ → List Path
paths_at known n = slice_index_or known n ([] ∷ [])

-- those of functions in the order of the text, behind those that are known
abbrev pub paths_behind : (w : Instr → ℕ) (functions : ℕ) (stubs : ℕ → List Path) → List (List Path) → List Pieces → List (List Path)
paths_behind w functions stubs known [] = known
paths_behind w functions stubs known (ps ∷ rest) =
    paths_behind w functions stubs (known ++ paths_of w (part_paths functions (paths_at known) stubs) ps ∷ []) rest

-- a marked call is cut between `pm.mem` and the stub's return
abbrev pub marked_paths : Plant → List Plan → ℕ → List Path
marked_paths p [] k = [] ∷ []
marked_paths p (plan ∷ plans) zero = (Takes (job_weight p PmMem) ∷ Cuts ∷ Takes (job_weight p (Jalr 0 4 (pos 0))) ∷ []) ∷ []
marked_paths p (plan ∷ plans) (suc k) = marked_paths p plans k

-- the paths of the start and of `job`
abbrev pub task_paths : Plant → List Plan → CodeTable → List Path
task_paths p plans t =
    paths_of (job_weight p) (part_paths (length t.code) (paths_at (paths_behind (job_weight p) (length t.code) (marked_paths p plans) [] t.code)) (marked_paths p plans)) (start_code t.job)

-- ---- stretches

-- the greatest stretch of a path whose first one has taken some cycles already
abbrev pub longest_from : ℕ → Path → ℕ
longest_from sum [] = sum
longest_from sum (Takes cycles ∷ es) = longest_from (sum + cycles) es
longest_from sum (Cuts ∷ es) = max sum (longest_from 0 es)

-- the greatest stretch of some paths
abbrev pub longest_among : List Path → ℕ
longest_among [] = 0
longest_among (path ∷ paths) = max (longest_from 0 path) (longest_among paths)

abbrev pub stretch_of : Plant → List Plan → CodeTable → ℕ
stretch_of p plans t = longest_among (task_paths p plans t)

-- ---- the longest interval of a task

abbrev pub greatest_stated : List Plan → ℕ
greatest_stated [] = 0
greatest_stated (plan ∷ plans) = max plan.stated (greatest_stated plans)

-- with the switch before it: a stretch, or the interval of a marked function, called or not
abbrev pub longest_of : Plant → List Plan → CodeTable → ℕ
longest_of p plans t = p.switch + max (stretch_of p plans t) (greatest_stated plans)
