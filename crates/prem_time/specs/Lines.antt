-- What is written of the times of a set.
use Rattle.std.specs.Prelude.{◌≡◌, ℕ, ◌+◌, List, [], ◌∷◌, ◌++◌, map, Bool, if◌then◌else◌, Option, None, Some, codes, decimal}
use Rattle.prem_line.specs.Spelled.{ended}
use Rattle.prem_syntax.specs.Syntax.{Text}
use Rattle.prem_wcet.specs.Times.{IntervalText}
use Rattle.prem_resp.specs.declared.busy.load.Load.{Load}
use Rattle.prem_resp.specs.declared.busy.length.Busy.{Busy}
use Rattle.prem_resp.specs.declared.busy.length.Busy.TheVariants.{Within, Past}
use Rattle.prem_resp.specs.Busy.Busy.{load_at, blocking}
use Rattle.prem_latency.specs.Wait.{requests_in}
use Rattle.prem_time.specs.Times.{TaskTold}
use Rattle.prem_time.specs.Devices.{DeviceTold}

-- ---- lines, without their ends

abbrev pub busy_text : Busy → List ℕ
busy_text (Within length) = codes " length " ++ decimal length
busy_text Past = codes " past"

-- the rule's bound of a task's jobs, what they take at most, its longest stretch or interval, and what blocks them
unfoldable pub numbers_text : (bound wcet longest blocks : ℕ) → List ℕ
numbers_text bound wcet longest blocks =
    codes " bound " ++ (decimal bound ++ (codes " wcet " ++ (decimal wcet ++ (codes " longest " ++ (decimal longest ++ (codes " blocks " ++ decimal blocks))))))

-- a task with these, and its busy period
abbrev pub task_line : Text → (bound wcet longest blocks : ℕ) → Busy → List ℕ
task_line name bound wcet longest blocks busy = codes "task " ++ (name ++ (numbers_text bound wcet longest blocks ++ busy_text busy))

-- a marked function, its stated length, and by when its interval opens the bus
abbrev pub interval_line : IntervalText → List ℕ
interval_line i = codes "interval " ++ (i.name ++ (codes " stated " ++ (decimal i.stated ++ (codes " opens " ++ decimal i.opens))))

-- how long the requests of a device wait at most, and how many come in as many cycles, of as many as its queue holds
unfoldable pub wait_text : (every queue : ℕ) → Option ℕ → List ℕ
wait_text every queue None = codes " late"
wait_text every queue (Some wait) = codes " wait " ++ (decimal wait ++ (codes " queued " ++ (decimal (requests_in every wait) ++ (codes " of " ++ decimal queue))))

-- a device that is named, with its cost, how far apart its requests are, and how long they wait
abbrev pub device_line : DeviceTold → List ℕ
device_line d = codes "device " ++ (d.name ++ (codes " cost " ++ (decimal d.cost ++ (codes " every " ++ (decimal d.every ++ wait_text d.every d.queue d.wait)))))

abbrev pub limit_line : ℕ → List ℕ
limit_line limit = codes "limit " ++ decimal limit

abbrev pub last_line : Bool → List ℕ
last_line fits = if fits then codes "fits" else codes "late"

-- ---- the text

-- a task with its marked functions
abbrev pub task_text : TaskTold → Load → (blocks : ℕ) → Busy → List ℕ
task_text t load blocks busy = ended (task_line t.name t.bound load.cost load.longest blocks busy ∷ map interval_line t.intervals)

-- the tasks from number i on
abbrev pub tasks_text : List Load → ℕ → List TaskTold → List Busy → List ℕ
tasks_text loads i [] found = []
tasks_text loads i (t ∷ ts) [] = []
tasks_text loads i (t ∷ ts) (busy ∷ found) = task_text t (load_at loads i) (blocking loads i) busy ++ tasks_text loads (i + 1) ts found

-- tasks of whose busy periods this is found, devices that are named, the cycle by which all jobs have ended, and whether all is in time
abbrev pub time_text : List TaskTold → List Load → List Busy → List DeviceTold → (limit : ℕ) → (fits : Bool) → List ℕ
time_text tolds loads found devices limit fits =
    ((tasks_text loads 0 tolds found ++ ended (map device_line devices)) ++ ended (limit_line limit ∷ [])) ++ ended (last_line fits ∷ [])

-- ---- what a reader finds in it

-- a text is made of lines, and this is one of them
pub record HasLine (text line : List ℕ) : Type 0 where
  pub before : List (List ℕ)
  pub after : List (List ℕ)
  pub is : text ≡ ended (before ++ line ∷ after)

-- a line tells this of task number i, and of its busy period
abbrev pub TellsTask : (text : List ℕ) → List Load → (i : ℕ) → TaskTold → Busy → Type 0
TellsTask text loads i t busy = HasLine text (task_line t.name t.bound (load_at loads i).cost (load_at loads i).longest (blocking loads i) busy)
