-- What a picture of a run shows: one bar for each ended interval and each transfer of which a cycle is in the window, and no other.
use Rattle.std.specs.Prelude.{ℕ, ◌+◌, Bool, if◌then◌else◌, List, ◌∷◌, ◌++◌, map, filter, codes}
use Rattle.prem_gate.specs.declared.bus.Transfer.{Transfer}
use Rattle.prem_image.specs.declared.image.TaskRecord.{TaskRecord}
use Rattle.prem_image.specs.declared.image.DeviceRecord.{DeviceRecord}
use Rattle.prem_cycle.specs.declared.facts.EndedInterval.{EndedInterval}
use Rattle.prem_cycle.specs.Runs.Transfer.Lengths.{device_cost}
use Rattle.prem_report.specs.Report.{task_name, device_name, kind_word, direction_word}
use Rattle.prem_chart.specs.declared.view.Look.{Look}
use Rattle.prem_chart.specs.declared.view.Look.TheVariants.{Compatible, Predictable, Device}
use Rattle.prem_chart.specs.declared.view.Canvas.{Canvas}
use Rattle.prem_chart.specs.declared.view.Bar.{Bar}
use Rattle.prem_chart.specs.Pieces.{Piece, text_of, words, number}
use Rattle.prem_chart.specs.Places.{is_inside, bar_of, task_top, bus_top}
use Rattle.prem_chart.specs.Bars.{Shape, shape, span_pieces}

-- ---- intervals

abbrev pub interval_look : Bool → Look
interval_look predictable = if predictable then Predictable else Compatible

-- the cycle behind an interval's last one
abbrev pub behind_interval : EndedInterval → ℕ
behind_interval e = e.first + e.length

abbrev pub interval_bar : Canvas → EndedInterval → Bar
interval_bar s e = bar_of s.view (interval_look e.predictable) (task_top s e.task + 170) 260 e.first (behind_interval e)

unfoldable pub interval_told : EndedInterval → List ℕ
interval_told e = codes ": " ++ (kind_word e.predictable ++ text_of (words (codes " interval, ") ∷ span_pieces e.length e.first))

abbrev pub interval_shape : Canvas → List TaskRecord → EndedInterval → Shape
interval_shape s tasks e = shape (interval_bar s e) e.length (task_name tasks e.task) (interval_told e)

abbrev pub has_interval : Canvas → EndedInterval → Bool
has_interval s e = is_inside s.view e.first (behind_interval e)

abbrev pub interval_shapes : Canvas → List TaskRecord → List EndedInterval → List Shape
interval_shapes s tasks intervals = map (interval_shape s tasks) (filter (has_interval s) intervals)

-- ---- transfers

-- the cycle behind a transfer's last one
abbrev pub behind_transfer : List DeviceRecord → Transfer → ℕ
behind_transfer devices t = t.first + device_cost devices t.device

-- of so many cycles
abbrev pub transfer_bar : Canvas → ℕ → Transfer → Bar
transfer_bar s cost t = bar_of s.view (Device t.device) (bus_top s + 100) 260 t.first (t.first + cost)

abbrev pub transfer_pieces : ℕ → Transfer → List Piece
transfer_pieces cost t =
    words (codes " of ") ∷ number t.value ∷ words (codes " at line ") ∷ number t.request.line ∷ words (codes ", ") ∷ span_pieces cost t.first

unfoldable pub transfer_told : ℕ → Transfer → List ℕ
transfer_told cost t = codes ": " ++ (direction_word t.request.put ++ text_of (transfer_pieces cost t))

abbrev pub transfer_shape : Canvas → List DeviceRecord → Transfer → Shape
transfer_shape s devices t =
    shape (transfer_bar s (device_cost devices t.device) t) (device_cost devices t.device) (device_name devices t.device)
    (transfer_told (device_cost devices t.device) t)

abbrev pub has_transfer : Canvas → List DeviceRecord → Transfer → Bool
has_transfer s devices t = is_inside s.view t.first (behind_transfer devices t)

abbrev pub transfer_shapes : Canvas → List DeviceRecord → List Transfer → List Shape
transfer_shapes s devices transfers = map (transfer_shape s devices) (filter (has_transfer s devices) transfers)
