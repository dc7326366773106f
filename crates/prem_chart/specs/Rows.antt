-- The rows of a picture: their names, the releases of jobs, and the last deadlines.
use Rattle.std.specs.Prelude.{ℕ, ◌+◌, ◌-◌, ◌*◌, ◌==◌, ◌&&◌, nat_le, Bool, if◌then◌else◌, List, [], ◌∷◌, ◌++◌, length, slice_get, codes}
use Rattle.std.specs.Option.{option_map_or}
use Rattle.prem_image.specs.declared.image.TaskRecord.{TaskRecord}
use Rattle.prem_image.specs.declared.image.DeviceRecord.{DeviceRecord}
use Rattle.prem_report.specs.Report.{in_turn}
use Rattle.prem_chart.specs.declared.view.View.{View}
use Rattle.prem_chart.specs.declared.view.Canvas.{Canvas}
use Rattle.prem_chart.specs.Pieces.{Piece, text_of, words, number, escaped}
use Rattle.prem_chart.specs.Places.{place, task_top, idle_top, bus_top}
use Rattle.prem_chart.specs.Head.{device_key}
use Rattle.prem_chart.specs.Bars.{owner_text, cycle_told}

-- what is told of each of a list, one behind another
abbrev pub each_text : {A : Type 0} → (ℕ → A → List ℕ) → List A → List ℕ
each_text told items = in_turn (λ k. option_map_or (told k) (slice_get items k) []) (length items)

-- ---- names

-- a line below the bars of a row
abbrev pub base_pieces : ℕ → List Piece
base_pieces y = words (codes "<path class=\"base\" d=\"M1400 ") ∷ number y ∷ words (codes "h10300\"/>\n") ∷ []

unfoldable pub base_text : ℕ → List ℕ
base_text y = text_of (base_pieces y)

abbrev pub jobs_pieces : (period jobs : ℕ) → List Piece
jobs_pieces period jobs = words (codes ": ") ∷ number jobs ∷ words (codes " jobs, one every ") ∷ number period ∷ words (codes " cycles</title>") ∷ []

unfoldable pub jobs_told : (period jobs : ℕ) → List ℕ
jobs_told period jobs = text_of (jobs_pieces period jobs)

abbrev pub name_pieces : ℕ → List Piece
name_pieces y = words (codes "<text class=\"name\" x=\"1250\" y=\"") ∷ number y ∷ words (codes "\">") ∷ []

unfoldable pub name_start : ℕ → List ℕ
name_start y = text_of (name_pieces y)

abbrev pub every_pieces : (y period : ℕ) → List Piece
every_pieces y period = words (codes "</text><text class=\"every\" x=\"1250\" y=\"") ∷ number y ∷ words (codes "\">every ") ∷ number period ∷ words (codes "</text></g>\n") ∷ []

unfoldable pub every_text : (y period : ℕ) → List ℕ
every_text y period = text_of (every_pieces y period)

-- of a task
abbrev pub task_label : Canvas → ℕ → TaskRecord → List ℕ
task_label s k t =
    owner_text t.name ++ (jobs_told t.period t.jobs ++ (name_start (task_top s k + 280) ++ (escaped t.name ++ (every_text (task_top s k + 410) t.period ++ base_text (task_top s k + 430)))))

-- of a row without a task
abbrev pub plain_pieces : ℕ → List Piece
plain_pieces y = words (codes "</text>\n<path class=\"base\" d=\"M1400 ") ∷ number y ∷ words (codes "h10300\"/>\n") ∷ []

unfoldable pub plain_end : List ℕ → ℕ → List ℕ
plain_end row y = row ++ text_of (plain_pieces y)

abbrev pub plain_label : List ℕ → (y below : ℕ) → List ℕ
plain_label row y below = name_start y ++ plain_end row below

-- of idle time, and of the bus
abbrev pub idle_label : Canvas → List ℕ
idle_label s = plain_label (codes "idle") (idle_top s + 215) (idle_top s + 240)

abbrev pub bus_label : Canvas → List ℕ
bus_label s = plain_label (codes "bus") (bus_top s + 275) (bus_top s + 360)

unfoldable pub labels_text : Canvas → List TaskRecord → List ℕ
labels_text s tasks = each_text (task_label s) tasks ++ (idle_label s ++ bus_label s)

-- ---- releases and deadlines

-- whether it is in the window, or just behind it
abbrev pub is_marked : View → ℕ → Bool
is_marked v cycle = nat_le v.first cycle && nat_le cycle v.behind

-- each release but the first one is the deadline of the job before
abbrev pub later_pieces : ℕ → List Piece
later_pieces job = words (codes ": release of job ") ∷ number job ∷ words (codes ", deadline of job ") ∷ number (job - 1) ∷ []

unfoldable pub later_release : ℕ → List ℕ
later_release job = text_of (later_pieces job)

abbrev pub release_told : ℕ → List ℕ
release_told job = if job == 0 then codes ": release of job 0" else later_release job

-- a line with a point at this place
abbrev pub arrow_pieces : (x y : ℕ) → List Piece
arrow_pieces x y = words (codes "<path class=\"release\" d=\"M") ∷ number x ∷ words (codes " ") ∷ number y ∷ words (codes "v390m0 -310l-40 -75h80z\"/></g>\n") ∷ []

unfoldable pub arrow_path : (x y : ℕ) → List ℕ
arrow_path x y = text_of (arrow_pieces x y)

abbrev pub arrow_text : Canvas → (k cycle : ℕ) → List ℕ
arrow_text s k cycle = cycle_told cycle ++ arrow_path (place s.view cycle) (task_top s k + 40)

abbrev pub release_shown : Canvas → ℕ → List ℕ → (period job : ℕ) → List ℕ
release_shown s k task period job =
    if is_marked s.view (job * period) then owner_text task ++ (release_told job ++ arrow_text s k (job * period)) else []

-- a dashed line
abbrev pub deadline_pieces : (x y : ℕ) → List Piece
deadline_pieces x y = words (codes "<path class=\"deadline\" d=\"M") ∷ number x ∷ words (codes " ") ∷ number y ∷ words (codes "v390\"/></g>\n") ∷ []

unfoldable pub deadline_path : (x y : ℕ) → List ℕ
deadline_path x y = text_of (deadline_pieces x y)

abbrev pub last_pieces : ℕ → List Piece
last_pieces jobs = words (codes ": deadline of job ") ∷ number (jobs - 1) ∷ []

unfoldable pub deadline_told : ℕ → List ℕ
deadline_told jobs = text_of (last_pieces jobs)

abbrev pub deadline_text : Canvas → (k jobs cycle : ℕ) → List ℕ
deadline_text s k jobs cycle = deadline_told jobs ++ (cycle_told cycle ++ deadline_path (place s.view cycle) (task_top s k + 40))

abbrev pub deadline_shown : Canvas → ℕ → List ℕ → (period jobs : ℕ) → List ℕ
deadline_shown s k task period jobs =
    if is_marked s.view (jobs * period) then owner_text task ++ deadline_text s k jobs (jobs * period) else []

abbrev pub releases_text : Canvas → ℕ → TaskRecord → List ℕ
releases_text s k t = in_turn (release_shown s k t.name t.period) t.jobs ++ deadline_shown s k t.name t.period t.jobs

unfoldable pub all_releases : Canvas → List TaskRecord → List ℕ
all_releases s tasks = each_text (releases_text s) tasks

-- ---- keys to devices

abbrev pub device_keys : List DeviceRecord → List ℕ
device_keys devices = each_text (λ k d. device_key k d.device.name) devices
