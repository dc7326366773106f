-- What a picture shows of notes: execution phases, idle time, when the bus is open to devices, and cache misses.
use Rattle.std.specs.Prelude.{ℕ, ◌+◌, ◌-◌, if◌then◌else◌, List, [], ◌∷◌, ◌++◌, codes}
use Rattle.std.specs.List.{flat_map}
use Rattle.prem_gate.specs.declared.bus.Window.{Window}
use Rattle.prem_image.specs.declared.image.TaskRecord.{TaskRecord}
use Rattle.prem_report.specs.Report.{task_name}
use Rattle.prem_chart.specs.declared.view.Look.TheVariants as look
use Rattle.prem_chart.specs.declared.view.Canvas.{Canvas}
use Rattle.prem_chart.specs.declared.note.Note.{Note}
use Rattle.prem_chart.specs.declared.note.Note.TheVariants.{Phase, Rest, Miss}
use Rattle.prem_chart.specs.Pieces.{Piece, text_of, words, number}
use Rattle.prem_chart.specs.Places.{is_inside, bar_of, place, task_top, idle_top, bus_top}
use Rattle.prem_chart.specs.Bars.{Shape, shape, shape_text, owner_text, cycle_told, span_pieces}

-- ---- windows for transfers

-- where one of so many cycles is in the window of the picture
abbrev pub shape_shown : Canvas → (first cycles : ℕ) → Shape → List ℕ
shape_shown s first cycles drawn = if is_inside s.view first (first + cycles) then shape_text drawn else []

abbrev pub window_cycles : Window → ℕ
window_cycles w = w.close - w.start

-- an execution phase lasts as long as its window
unfoldable pub phase_told : (cycles first : ℕ) → List ℕ
phase_told cycles first = text_of (words (codes ": execution phase, ") ∷ span_pieces cycles first)

abbrev pub phase_shape : Canvas → List TaskRecord → ℕ → Window → Shape
phase_shape s tasks k w =
    shape (bar_of s.view look.Execution (task_top s k + 170) 260 w.start (w.start + window_cycles w)) (window_cycles w) (task_name tasks k) (phase_told (window_cycles w) w.start)

-- idle time begins a cycle before its window
abbrev pub idle_first : Window → ℕ
idle_first w = w.start - 1

abbrev pub idle_cycles : Window → ℕ
idle_cycles w = w.close - (w.start - 1)

unfoldable pub idle_told : (cycles first : ℕ) → List ℕ
idle_told cycles first = text_of (words (codes ": ") ∷ span_pieces cycles first)

abbrev pub idle_shape : Canvas → Window → Shape
idle_shape s w =
    shape (bar_of s.view look.Idle (idle_top s + 100) 140 (idle_first w) (idle_first w + idle_cycles w)) (idle_cycles w) (codes "idle") (idle_told (idle_cycles w) (idle_first w))

unfoldable pub open_told : (cycles first : ℕ) → List ℕ
open_told cycles first = text_of (words (codes ": open to devices, ") ∷ span_pieces cycles first)

abbrev pub open_shape : Canvas → Window → Shape
open_shape s w =
    shape (bar_of s.view look.Open (bus_top s + 100) 260 w.start (w.start + window_cycles w)) (window_cycles w) (codes "bus") (open_told (window_cycles w) w.start)

abbrev pub phase_shown : Canvas → List TaskRecord → ℕ → Window → List ℕ
phase_shown s tasks k w = shape_shown s w.start (window_cycles w) (phase_shape s tasks k w)

abbrev pub idle_shown : Canvas → Window → List ℕ
idle_shown s w = shape_shown s (idle_first w) (idle_cycles w) (idle_shape s w)

abbrev pub open_shown : Canvas → Window → List ℕ
open_shown s w = shape_shown s w.start (window_cycles w) (open_shape s w)

abbrev pub window_text : Canvas → List TaskRecord → Note → List ℕ
window_text s tasks (Phase k w) = phase_shown s tasks k w ++ open_shown s w
window_text s tasks (Rest w) = idle_shown s w ++ open_shown s w
window_text s tasks (Miss k cycle) = []

abbrev pub windows_text : Canvas → List TaskRecord → List Note → List ℕ
windows_text s tasks notes = flat_map (window_text s tasks) notes

-- ---- cache misses

abbrev pub miss_pieces : (x y : ℕ) → List Piece
miss_pieces x y = words (codes "<path class=\"miss\" d=\"M") ∷ number x ∷ words (codes " ") ∷ number y ∷ words (codes "v50\"/></g>\n") ∷ []

unfoldable pub miss_path : (x y : ℕ) → List ℕ
miss_path x y = text_of (miss_pieces x y)

unfoldable pub miss_told : List ℕ
miss_told = codes ": cache miss"

abbrev pub miss_mark : Canvas → (k cycle : ℕ) → List ℕ
miss_mark s k cycle = miss_told ++ (cycle_told cycle ++ miss_path (place s.view cycle) (task_top s k + 445))

abbrev pub miss_text : Canvas → List TaskRecord → Note → List ℕ
miss_text s tasks (Phase k w) = []
miss_text s tasks (Rest w) = []
miss_text s tasks (Miss k cycle) = if is_inside s.view cycle (cycle + 1) then owner_text (task_name tasks k) ++ miss_mark s k cycle else []

abbrev pub misses_text : Canvas → List TaskRecord → List Note → List ℕ
misses_text s tasks notes = flat_map (miss_text s tasks) notes
