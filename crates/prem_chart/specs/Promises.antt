-- The rows of devices that are promised to be served in time: one bar for each request that has come, from its cycle to its last moment.
use Rattle.std.specs.Prelude.{ℕ, ◌+◌, ◌*◌, ◌==◌, ◌&&◌, nat_lt, Bool, if◌then◌else◌, List, [], ◌∷◌, ◌++◌, Option, Some, None, codes}
use Rattle.prem_gate.specs.declared.request.Request.{Request}
use Rattle.prem_image.specs.declared.image.DeviceRecord.{DeviceRecord}
use Rattle.prem_report.specs.Report.{device_name}
use Rattle.prem_time.specs.declared.promises.Promise.{Promise}
use Rattle.prem_chart.specs.declared.view.Look.TheVariants.{Device}
use Rattle.prem_chart.specs.declared.view.Canvas.{Canvas}
use Rattle.prem_chart.specs.declared.view.Bar.{Bar}
use Rattle.prem_chart.specs.Pieces.{Piece, text_of, words, number, escaped}
use Rattle.prem_chart.specs.Places.{bar_of, promise_top}
use Rattle.prem_chart.specs.Bars.{Shape, shape, owner_text, span_pieces}
use Rattle.prem_chart.specs.Phases.{shape_shown}
use Rattle.prem_chart.specs.Rows.{base_text, each_text, name_start}

-- ---- the name of a row

abbrev pub served_pieces : (every wait : ℕ) → List Piece
served_pieces every wait =
    words (codes ": requests at least ") ∷ number every ∷ words (codes " cycles apart, transferred within ") ∷ number wait ∷ words (codes " cycles</title>") ∷ []

abbrev pub late_pieces : ℕ → List Piece
late_pieces every = words (codes ": requests at least ") ∷ number every ∷ words (codes " cycles apart, late</title>") ∷ []

-- requests so far apart wait for so long at most, if that is known
unfoldable pub served_told : ℕ → Option ℕ → List ℕ
served_told every (Some wait) = text_of (served_pieces every wait)
served_told every None = text_of (late_pieces every)

abbrev pub apart_pieces : (y every : ℕ) → List Piece
apart_pieces y every = words (codes "</text><text class=\"every\" x=\"1250\" y=\"") ∷ number y ∷ words (codes "\">every ") ∷ number every ∷ words (codes "</text>") ∷ []

unfoldable pub apart_text : (y every : ℕ) → List ℕ
apart_text y every = text_of (apart_pieces y every)

abbrev pub within_pieces : (y wait : ℕ) → List Piece
within_pieces y wait = words (codes "<text class=\"every\" x=\"1250\" y=\"") ∷ number y ∷ words (codes "\">within ") ∷ number wait ∷ words (codes "</text></g>\n") ∷ []

abbrev pub unknown_pieces : ℕ → List Piece
unknown_pieces y = words (codes "<text class=\"every\" x=\"1250\" y=\"") ∷ number y ∷ words (codes "\">late</text></g>\n") ∷ []

unfoldable pub within_text : ℕ → Option ℕ → List ℕ
within_text y (Some wait) = text_of (within_pieces y wait)
within_text y None = text_of (unknown_pieces y)

-- behind its title
abbrev pub promise_name : Canvas → (row : ℕ) → (device : List ℕ) → Promise → List ℕ
promise_name s row device p =
    name_start (promise_top s row + 170) ++ (escaped device
    ++ (apart_text (promise_top s row + 290) p.every ++ (within_text (promise_top s row + 410) p.wait ++ base_text (promise_top s row + 430))))

abbrev pub promise_label : Canvas → List DeviceRecord → ℕ → Promise → List ℕ
promise_label s devices row p =
    owner_text (device_name devices p.device) ++ (served_told p.every p.wait ++ promise_name s row (device_name devices p.device) p)

-- ---- requests

abbrev pub request_pieces : (line wait cycle : ℕ) → List Piece
request_pieces line wait cycle = words (codes ": request for line ") ∷ number line ∷ words (codes ", transferred within ") ∷ span_pieces wait cycle

unfoldable pub request_told : (line wait cycle : ℕ) → List ℕ
request_told line wait cycle = text_of (request_pieces line wait cycle)

-- from the cycle in which it comes up to its last moment, so many cycles later
abbrev pub request_bar : Canvas → (row level wait : ℕ) → Request → Bar
request_bar s row level wait r = bar_of s.view (Device r.device) (promise_top s row + 60 + 60 * level) 50 r.cycle (r.cycle + wait)

abbrev pub request_shape : Canvas → List DeviceRecord → (row wait level : ℕ) → Request → Shape
request_shape s devices row wait level r = shape (request_bar s row level wait r) wait (device_name devices r.device) (request_told r.line wait r.cycle)

abbrev pub request_shown : Canvas → List DeviceRecord → (row wait level : ℕ) → Request → List ℕ
request_shown s devices row wait level r = shape_shown s r.cycle wait (request_shape s devices row wait level r)

-- one of this device that has come in a run of so many cycles
abbrev pub has_come : (device cycles : ℕ) → Request → Bool
has_come device cycles r = r.device == device && nat_lt r.cycle cycles

-- where bars overlap, six heights follow each other
abbrev pub next_level : ℕ → ℕ
next_level level = if nat_lt level 5 then level + 1 else 0

-- the height of the bar of a request in this cycle, behind one of a height that ends before the cycle `behind`
abbrev pub level_of : (behind level cycle : ℕ) → ℕ
level_of behind level cycle = if nat_lt cycle behind then next_level level else 0

abbrev pub requests_from : Canvas → List DeviceRecord → (cycles row device wait behind level : ℕ) → List Request → List ℕ
requests_from s devices cycles row device wait behind level [] = []
requests_from s devices cycles row device wait behind level (r ∷ rs) =
    if has_come device cycles r then
    request_shown s devices row wait (level_of behind level r.cycle) r ++ requests_from s devices cycles row device wait (r.cycle + wait) (level_of behind level r.cycle) rs
    else requests_from s devices cycles row device wait behind level rs

-- nothing where no wait is known
abbrev pub row_text : Canvas → List DeviceRecord → List Request → (cycles row device : ℕ) → Option ℕ → List ℕ
row_text s devices requests cycles row device None = []
row_text s devices requests cycles row device (Some wait) = requests_from s devices cycles row device wait 0 0 requests

-- ---- all rows

abbrev pub promise_row : Canvas → List DeviceRecord → List Request → (cycles row : ℕ) → Promise → List ℕ
promise_row s devices requests cycles row p = promise_label s devices row p ++ row_text s devices requests cycles row p.device p.wait

unfoldable pub all_promises : Canvas → List DeviceRecord → List Request → (cycles : ℕ) → List Promise → List ℕ
all_promises s devices requests cycles promises = each_text (promise_row s devices requests cycles) promises
