-- Pictures are well-formed.
use Rattle.std.specs.Prelude.{nat_le, slice_get, filter, ◌%◌, ◌*◌, ◌-◌}
use Rattle.std.specs.List.{flat_map}
use Rattle.std.specs.Option.{option_map_or}
use Rattle.std.proofs.Common.{◌≡◌, ◌+◌, ◌==◌, ℕ, zero, suc, List, [], ◌∷◌, ◌++◌, map, Bool, true, false, cond, Option, Some, None, refl, codes, length}
use Rattle.prem_gate.specs.declared.bus.Window.{Window}
use Rattle.prem_gate.specs.declared.bus.Transfer.{Transfer}
use Rattle.prem_gate.specs.declared.request.Request.{Request}
use Rattle.prem_image.specs.declared.image.TaskRecord.{TaskRecord}
use Rattle.prem_image.specs.declared.image.DeviceRecord.{DeviceRecord}
use Rattle.prem_cycle.specs.declared.state.Stop.{Stop}
use Rattle.prem_cycle.specs.declared.state.Stop.TheVariants.{Finished, Trap, LogFull, Limit}
use Rattle.prem_cycle.specs.declared.facts.EndedInterval.{EndedInterval}
use Rattle.prem_cycle.specs.State.{Counts}
use Rattle.prem_cycle.specs.FactsOf.{Report}
use Rattle.prem_cycle.specs.Runs.Transfer.Lengths.{device_cost}
use Rattle.prem_report.specs.Report.{in_turn, task_name, device_name, kind_word, direction_word}
use Rattle.prem_time.specs.declared.promises.Promise.{Promise}
use Rattle.prem_chart.specs.declared.view.View.{View}
use Rattle.prem_chart.specs.declared.view.Canvas.{Canvas}
use Rattle.prem_chart.specs.declared.view.Look.{Look}
use Rattle.prem_chart.specs.declared.view.Look.TheVariants as look
use Rattle.prem_chart.specs.declared.view.Bar.{Bar}
use Rattle.prem_chart.specs.declared.note.Note.{Note}
use Rattle.prem_chart.specs.declared.note.Note.TheVariants.{Phase, Rest, Miss}
use Rattle.prem_chart.specs.Pieces.{Piece, words, number, text_of, escaped}
use Rattle.prem_chart.specs.Xml.{Name, Reading, Before, Content, Value, After, read, IsWellFormed}
use Rattle.prem_chart.specs.Axis.{grid_pieces, grid_text, tick_pieces, tick_text, tick_shown, multiples_before, tick_step, ticks_text, axis_pieces, axis_name, axis_text}
use Rattle.prem_chart.specs.Head.{size_pieces, size_text, style_text, paper_pieces, paper_text, title_text, keys_text, key_pieces, key_text, key_name_pieces, key_name, device_key}
use Rattle.prem_chart.specs.Head.{time_pieces, time_text, cache_pieces, cache_text, phase_pieces, phase_text, bus_pieces, bus_text}
use Rattle.prem_chart.specs.Bars.{Shape, shape_text, owner_text, look_class, wide_class, rect_pieces, rect_end, bar_start, bar_text, cycle_pieces, cycle_told, shape_end}
use Rattle.prem_chart.specs.Bars.{number_pieces, number_text, number_shown, shows_number, span_pieces}
use Rattle.prem_chart.specs.Shapes.{interval_shape, interval_shapes, interval_told, has_interval, transfer_shape, transfer_shapes, transfer_told, transfer_pieces, has_transfer}
use Rattle.prem_chart.specs.Phases.{shape_shown, phase_shape, phase_shown, idle_shape, idle_shown, open_shape, open_shown, window_text, windows_text, miss_pieces, miss_path}
use Rattle.prem_chart.specs.Phases.{miss_told, miss_mark, open_told, phase_told, idle_told, miss_text, misses_text, window_cycles, idle_first, idle_cycles}
use Rattle.prem_chart.specs.Rows.{each_text, base_pieces, base_text, jobs_pieces, jobs_told, name_pieces, name_start, every_pieces, every_text, task_label, plain_pieces, plain_end}
use Rattle.prem_chart.specs.Rows.{plain_label, idle_label, bus_label, labels_text, later_pieces, later_release, release_told, arrow_pieces, arrow_path, arrow_text, is_marked}
use Rattle.prem_chart.specs.Rows.{release_shown, deadline_pieces, deadline_path, last_pieces, deadline_told, deadline_text, deadline_shown, releases_text, all_releases}
use Rattle.prem_chart.specs.Rows.{device_keys}
use Rattle.prem_chart.specs.Promises.{served_pieces, late_pieces, served_told, apart_pieces, apart_text, within_pieces, unknown_pieces, within_text, promise_label, request_pieces}
use Rattle.prem_chart.specs.Promises.{request_told, request_shape, request_shown, has_come, level_of, requests_from, row_text, promise_row, all_promises}
use Rattle.prem_chart.specs.Places.{place, is_inside, task_top, idle_top, bus_top, promise_top}
use Rattle.prem_chart.specs.Picture.{stop_word, counts_text, head_text, frame_text, rows_text, end_text, sheet_text, sheet_of, chart_text}
use Rattle.prem_chart.proofs.Taken.{all_taken, taken_text, then_taken, escaped_taken}

-- ---- texts in an element that leave the reader in it

abbrev Keeps : List ℕ → Type 0
Keeps text = (tag : Name) (around : List Name) → read (Content (tag ∷ around)) text ≡ Content (tag ∷ around)

keeps_none : Keeps []
keeps_none tag around = refl

keeps_append : (a b : List ℕ) → Keeps a → Keeps b → Keeps (a ++ b)
keeps_append a b h k tag around = then_taken _ _ _ a b (h tag around) (k tag around)

keeps_pieces : (pieces : List Piece) → ((tag : Name) (around : List Name) → all_taken (Content (tag ∷ around)) pieces ≡ Some (Content (tag ∷ around))) → Keeps (text_of pieces)
keeps_pieces pieces h tag around = taken_text (Content (tag ∷ around)) pieces (Content (tag ∷ around)) (h tag around)

keeps_if : (b : Bool) (text : List ℕ) → Keeps text → Keeps (cond b text [])
keeps_if true text h = h
keeps_if false text h = keeps_none

keeps_flat : {A : Type 0} (f : A → List ℕ) → ((x : A) → Keeps (f x)) → (xs : List A) → Keeps (flat_map f xs)
keeps_flat f each [] = keeps_none
keeps_flat f each (x ∷ xs) = keeps_append (f x) (flat_map f xs) (each x) (keeps_flat f each xs)

keeps_turns : (f : ℕ → List ℕ) → ((k : ℕ) → Keeps (f k)) → (n : ℕ) → Keeps (in_turn f n)
keeps_turns f each zero = keeps_none
keeps_turns f each (suc n) = keeps_append (in_turn f n) (f n) (keeps_turns f each n) (each n)

keeps_option : {A : Type 0} (f : A → List ℕ) → ((x : A) → Keeps (f x)) → (o : Option A) → Keeps (option_map_or f o [])
keeps_option f each None = keeps_none
keeps_option f each (Some x) = each x

keeps_each : {A : Type 0} (f : ℕ → A → List ℕ) → ((k : ℕ) (x : A) → Keeps (f k x)) → (xs : List A) → Keeps (each_text f xs)
keeps_each f each xs = keeps_turns _ (λ k. keeps_option (f k) (each k) (slice_get xs k)) (length xs)

-- ---- shapes

abbrev titled : List Name → List Name
titled around = codes "title" ∷ codes "g" ∷ around

owner_taken : (owner : List ℕ) (around : List Name) → read (Content around) (owner_text owner) ≡ Content (titled around)
unfolding owner_text
owner_taken owner around = then_taken (Content around) (Content (titled around)) (Content (titled around)) (codes "<g><title>") (escaped owner) refl (escaped_taken (titled around) owner)

-- in the class of a rectangle
abbrev in_class : List Name → Reading
in_class around = Value (codes "rect") (codes "class" ∷ []) around

class_taken : (l : Look) (around : List Name) → read (in_class around) (look_class l) ≡ in_class around
unfolding look_class
class_taken look.Compatible around = refl
class_taken look.Predictable around = refl
class_taken look.Execution around = refl
class_taken look.Idle around = refl
class_taken look.Open around = refl
class_taken (look.Device k) around = taken_text (in_class around) (words (codes "d") ∷ number (k % 8) ∷ []) (in_class around) refl

wide_by : (b : Bool) (around : List Name) → read (in_class around) (cond b (codes " wide") []) ≡ in_class around
wide_by true around = refl
wide_by false around = refl

rect_taken : (b : Bar) (around : List Name) → read (in_class (codes "g" ∷ around)) (rect_end b) ≡ Content (codes "g" ∷ around)
unfolding rect_end
rect_taken b around = taken_text (in_class (codes "g" ∷ around)) (rect_pieces b) (Content (codes "g" ∷ around)) refl

start_taken : (b : Bar) (around : List Name) → read (Content (titled around)) (bar_start b) ≡ in_class (codes "g" ∷ around)
unfolding bar_start
start_taken b around =
    let inside = in_class (codes "g" ∷ around) in
    then_taken (Content (titled around)) inside inside (codes "</title><rect class=\"") (look_class b.look ++ wide_class b.width) refl
    (then_taken inside inside inside (look_class b.look) (wide_class b.width) (class_taken b.look (codes "g" ∷ around)) (wide_by (nat_le 30 b.width) (codes "g" ∷ around)))

bar_taken : (b : Bar) (around : List Name) → read (Content (titled around)) (bar_text b) ≡ Content (codes "g" ∷ around)
unfolding bar_text
bar_taken b around =
    then_taken (Content (titled around)) (in_class (codes "g" ∷ around)) (Content (codes "g" ∷ around)) (bar_start b) (rect_end b) (start_taken b around) (rect_taken b around)

cycle_taken : (cycle : ℕ) (around : List Name) → read (Content (titled around)) (cycle_told cycle) ≡ Content (codes "g" ∷ around)
unfolding cycle_told
cycle_taken cycle around = taken_text (Content (titled around)) (cycle_pieces cycle) (Content (codes "g" ∷ around)) refl

number_keeps : (b : Bar) (cycles : ℕ) → Keeps (number_text b cycles)
unfolding number_text
number_keeps b cycles = keeps_pieces (number_pieces b cycles) (λ tag around. refl)

shown_number_keeps : (b : Bar) (cycles : ℕ) → Keeps (number_shown b cycles)
unfolding number_shown
shown_number_keeps b cycles = keeps_if (shows_number b cycles) (number_text b cycles) (number_keeps b cycles)

end_taken : (around : List Name) (tag : Name) → read (Content (codes "g" ∷ tag ∷ around)) shape_end ≡ Content (tag ∷ around)
unfolding shape_end
end_taken around tag = refl

shape_keeps : (s : Shape) → Keeps s.told → Keeps (shape_text s)
shape_keeps s told tag around =
    let out : List Name = tag ∷ around in
    let inner : List Name = codes "g" ∷ out in
    let number : List ℕ = number_shown s.bar s.cycles in
    let bar : List ℕ = bar_text s.bar in
    then_taken (Content out) (Content (titled out)) (Content out) (owner_text s.owner) (s.told ++ (bar ++ (number ++ shape_end))) (owner_taken s.owner out)
    (then_taken (Content (titled out)) (Content (titled out)) (Content out) s.told (bar ++ (number ++ shape_end)) (told (codes "title") inner)
    (then_taken (Content (titled out)) (Content inner) (Content out) bar (number ++ shape_end) (bar_taken s.bar out)
    (then_taken (Content inner) (Content inner) (Content out) number shape_end (shown_number_keeps s.bar s.cycles (codes "g") out) (end_taken around tag))))

keeps_shapes : {A : Type 0} (f : A → Shape) → ((x : A) → Keeps (f x).told) → (xs : List A) → Keeps (flat_map shape_text (map f xs))
keeps_shapes f each [] = keeps_none
keeps_shapes f each (x ∷ xs) = keeps_append (shape_text (f x)) (flat_map shape_text (map f xs)) (shape_keeps (f x) (each x)) (keeps_shapes f each xs)

kind_keeps : (predictable : Bool) → Keeps (kind_word predictable)
kind_keeps true tag around = refl
kind_keeps false tag around = refl

interval_keeps : (e : EndedInterval) → Keeps (interval_told e)
unfolding interval_told
interval_keeps e =
    let rest : List ℕ = text_of (words (codes " interval, ") ∷ span_pieces e.length e.first) in
    keeps_append (codes ": ") (kind_word e.predictable ++ rest) (λ tag around. refl)
    (keeps_append (kind_word e.predictable) rest (kind_keeps e.predictable) (keeps_pieces (words (codes " interval, ") ∷ span_pieces e.length e.first) (λ tag around. refl)))

direction_keeps : (put : Option ℕ) → Keeps (direction_word put)
direction_keeps (Some v) tag around = refl
direction_keeps None tag around = refl

transfer_keeps : (cost : ℕ) (t : Transfer) → Keeps (transfer_told cost t)
unfolding transfer_told
transfer_keeps cost t =
    keeps_append (codes ": ") (direction_word t.request.put ++ text_of (transfer_pieces cost t)) (λ tag around. refl)
    (keeps_append (direction_word t.request.put) (text_of (transfer_pieces cost t)) (direction_keeps t.request.put) (keeps_pieces (transfer_pieces cost t) (λ tag around. refl)))

-- ---- notes

shown_keeps : (s : Canvas) (first cycles : ℕ) (drawn : Shape) → Keeps drawn.told → Keeps (shape_shown s first cycles drawn)
shown_keeps s first cycles drawn told = keeps_if (is_inside s.view first (first + cycles)) (shape_text drawn) (shape_keeps drawn told)

open_told_keeps : (cycles first : ℕ) → Keeps (open_told cycles first)
unfolding open_told
open_told_keeps cycles first = keeps_pieces (words (codes ": open to devices, ") ∷ span_pieces cycles first) (λ tag around. refl)

phase_told_keeps : (cycles first : ℕ) → Keeps (phase_told cycles first)
unfolding phase_told
phase_told_keeps cycles first = keeps_pieces (words (codes ": execution phase, ") ∷ span_pieces cycles first) (λ tag around. refl)

idle_told_keeps : (cycles first : ℕ) → Keeps (idle_told cycles first)
unfolding idle_told
idle_told_keeps cycles first = keeps_pieces (words (codes ": ") ∷ span_pieces cycles first) (λ tag around. refl)

open_keeps : (s : Canvas) (w : Window) → Keeps (open_shown s w)
open_keeps s w = shown_keeps s w.start (window_cycles w) (open_shape s w) (open_told_keeps (window_cycles w) w.start)

window_keeps : (s : Canvas) (tasks : List TaskRecord) (n : Note) → Keeps (window_text s tasks n)
window_keeps s tasks (Phase k w) =
    keeps_append (phase_shown s tasks k w) (open_shown s w)
    (shown_keeps s w.start (window_cycles w) (phase_shape s tasks k w) (phase_told_keeps (window_cycles w) w.start)) (open_keeps s w)
window_keeps s tasks (Rest w) =
    keeps_append (idle_shown s w) (open_shown s w)
    (shown_keeps s (idle_first w) (idle_cycles w) (idle_shape s w) (idle_told_keeps (idle_cycles w) (idle_first w))) (open_keeps s w)
window_keeps s tasks (Miss k cycle) = keeps_none

-- a mark behind the title that its owner began
keeps_mark : (owner mark : List ℕ) → ((around : List Name) (tag : Name) → read (Content (titled (tag ∷ around))) mark ≡ Content (tag ∷ around)) → Keeps (owner_text owner ++ mark)
keeps_mark owner mark h tag around =
    then_taken (Content (tag ∷ around)) (Content (titled (tag ∷ around))) (Content (tag ∷ around)) (owner_text owner) mark
    (owner_taken owner (tag ∷ around)) (h around tag)

miss_path_taken : (x y : ℕ) (around : List Name) (tag : Name) → read (Content (codes "g" ∷ tag ∷ around)) (miss_path x y) ≡ Content (tag ∷ around)
unfolding miss_path
miss_path_taken x y around tag = taken_text (Content (codes "g" ∷ tag ∷ around)) (miss_pieces x y) (Content (tag ∷ around)) refl

miss_told_keeps : Keeps miss_told
unfolding miss_told
miss_told_keeps tag around = refl

-- what is told of a mark, its cycle, and its path
mark_taken : (told path : List ℕ) (cycle : ℕ) (around : List Name) (tag : Name) → Keeps told → read (Content (codes "g" ∷ tag ∷ around)) path ≡ Content (tag ∷ around) →
    read (Content (titled (tag ∷ around))) (told ++ (cycle_told cycle ++ path)) ≡ Content (tag ∷ around)
mark_taken told path cycle around tag h k =
    then_taken (Content (titled (tag ∷ around))) (Content (titled (tag ∷ around))) (Content (tag ∷ around)) told (cycle_told cycle ++ path) (h (codes "title") (codes "g" ∷ tag ∷ around))
    (then_taken (Content (titled (tag ∷ around))) (Content (codes "g" ∷ tag ∷ around)) (Content (tag ∷ around)) (cycle_told cycle) path (cycle_taken cycle (tag ∷ around)) k)

miss_taken : (s : Canvas) (k cycle : ℕ) (around : List Name) (tag : Name) → read (Content (titled (tag ∷ around))) (miss_mark s k cycle) ≡ Content (tag ∷ around)
miss_taken s k cycle around tag =
    mark_taken miss_told (miss_path (place s.view cycle) (task_top s k + 445)) cycle around tag miss_told_keeps (miss_path_taken (place s.view cycle) (task_top s k + 445) around tag)

miss_keeps : (s : Canvas) (tasks : List TaskRecord) (n : Note) → Keeps (miss_text s tasks n)
miss_keeps s tasks (Phase k w) = keeps_none
miss_keeps s tasks (Rest w) = keeps_none
miss_keeps s tasks (Miss k cycle) =
    keeps_if (is_inside s.view cycle (cycle + 1)) (owner_text (task_name tasks k) ++ miss_mark s k cycle) (keeps_mark (task_name tasks k) (miss_mark s k cycle) (miss_taken s k cycle))

-- ---- rows

base_keeps : (y : ℕ) → Keeps (base_text y)
unfolding base_text
base_keeps y = keeps_pieces (base_pieces y) (λ tag around. refl)

-- the name of a row begins, and is ended by this
name_taken : (y : ℕ) (around : List Name) → read (Content around) (name_start y) ≡ Content (codes "text" ∷ around)
unfolding name_start
name_taken y around = taken_text (Content around) (name_pieces y) (Content (codes "text" ∷ around)) refl

jobs_taken : (period jobs : ℕ) (around : List Name) → read (Content (titled around)) (jobs_told period jobs) ≡ Content (codes "g" ∷ around)
unfolding jobs_told
jobs_taken period jobs around = taken_text (Content (titled around)) (jobs_pieces period jobs) (Content (codes "g" ∷ around)) refl

every_taken : (y period : ℕ) (around : List Name) (tag : Name) → read (Content (codes "text" ∷ codes "g" ∷ tag ∷ around)) (every_text y period) ≡ Content (tag ∷ around)
unfolding every_text
every_taken y period around tag = taken_text (Content (codes "text" ∷ codes "g" ∷ tag ∷ around)) (every_pieces y period) (Content (tag ∷ around)) refl

label_keeps : (s : Canvas) (k : ℕ) (t : TaskRecord) → Keeps (task_label s k t)
label_keeps s k t tag around =
    let out : List Name = tag ∷ around in
    let inner : List Name = codes "g" ∷ out in
    let named : List Name = codes "text" ∷ inner in
    let every : List ℕ = every_text (task_top s k + 410) t.period in
    let base : List ℕ = base_text (task_top s k + 430) in
    let start : List ℕ = name_start (task_top s k + 280) in
    let jobs : List ℕ = jobs_told t.period t.jobs in
    then_taken (Content out) (Content (titled out)) (Content out) (owner_text t.name) (jobs ++ (start ++ (escaped t.name ++ (every ++ base)))) (owner_taken t.name out)
    (then_taken (Content (titled out)) (Content inner) (Content out) jobs (start ++ (escaped t.name ++ (every ++ base))) (jobs_taken t.period t.jobs out)
    (then_taken (Content inner) (Content named) (Content out) start (escaped t.name ++ (every ++ base)) (name_taken (task_top s k + 280) inner)
    (then_taken (Content named) (Content named) (Content out) (escaped t.name) (every ++ base) (escaped_taken named t.name)
    (then_taken (Content named) (Content out) (Content out) every base (every_taken (task_top s k + 410) t.period around tag) (base_keeps (task_top s k + 430) tag around)))))

-- of a row without a task
plain_taken : (row : List ℕ) (y : ℕ) (around : List Name) (tag : Name) → Keeps row → read (Content (codes "text" ∷ tag ∷ around)) (plain_end row y) ≡ Content (tag ∷ around)
unfolding plain_end
plain_taken row y around tag h =
    then_taken (Content (codes "text" ∷ tag ∷ around)) (Content (codes "text" ∷ tag ∷ around)) (Content (tag ∷ around)) row (text_of (plain_pieces y)) (h (codes "text") (tag ∷ around))
    (taken_text (Content (codes "text" ∷ tag ∷ around)) (plain_pieces y) (Content (tag ∷ around)) refl)

plain_keeps : (row : List ℕ) (y below : ℕ) → Keeps row → Keeps (plain_label row y below)
plain_keeps row y below h tag around =
    then_taken (Content (tag ∷ around)) (Content (codes "text" ∷ tag ∷ around)) (Content (tag ∷ around)) (name_start y) (plain_end row below) (name_taken y (tag ∷ around))
    (plain_taken row below around tag h)

idle_row_keeps : Keeps (codes "idle")
idle_row_keeps tag around = refl

bus_row_keeps : Keeps (codes "bus")
bus_row_keeps tag around = refl

labels_keep : (s : Canvas) (tasks : List TaskRecord) → Keeps (labels_text s tasks)
unfolding labels_text
labels_keep s tasks =
    keeps_append (each_text (task_label s) tasks) (idle_label s ++ bus_label s) (keeps_each (task_label s) (label_keeps s) tasks)
    (keeps_append (idle_label s) (bus_label s) (plain_keeps (codes "idle") (idle_top s + 215) (idle_top s + 240) idle_row_keeps)
    (plain_keeps (codes "bus") (bus_top s + 275) (bus_top s + 360) bus_row_keeps))

later_keeps : (job : ℕ) → Keeps (later_release job)
unfolding later_release
later_keeps job = keeps_pieces (later_pieces job) (λ tag around. refl)

first_keeps : Keeps (codes ": release of job 0")
first_keeps tag around = refl

released_by : (first : Bool) (job : ℕ) → Keeps (cond first (codes ": release of job 0") (later_release job))
released_by true job = first_keeps
released_by false job = later_keeps job

arrow_taken : (x y : ℕ) (around : List Name) (tag : Name) → read (Content (codes "g" ∷ tag ∷ around)) (arrow_path x y) ≡ Content (tag ∷ around)
unfolding arrow_path
arrow_taken x y around tag = taken_text (Content (codes "g" ∷ tag ∷ around)) (arrow_pieces x y) (Content (tag ∷ around)) refl

release_keeps : (s : Canvas) (k : ℕ) (task : List ℕ) (period job : ℕ) → Keeps (release_shown s k task period job)
release_keeps s k task period job =
    keeps_if (is_marked s.view (job * period)) (owner_text task ++ (release_told job ++ arrow_text s k (job * period)))
    (keeps_mark task (release_told job ++ arrow_text s k (job * period))
    (λ around tag. mark_taken (release_told job) (arrow_path (place s.view (job * period)) (task_top s k + 40)) (job * period) around tag (released_by (job == 0) job)
    (arrow_taken (place s.view (job * period)) (task_top s k + 40) around tag)))

last_keeps : (jobs : ℕ) → Keeps (deadline_told jobs)
unfolding deadline_told
last_keeps jobs = keeps_pieces (last_pieces jobs) (λ tag around. refl)

deadline_path_taken : (x y : ℕ) (around : List Name) (tag : Name) → read (Content (codes "g" ∷ tag ∷ around)) (deadline_path x y) ≡ Content (tag ∷ around)
unfolding deadline_path
deadline_path_taken x y around tag = taken_text (Content (codes "g" ∷ tag ∷ around)) (deadline_pieces x y) (Content (tag ∷ around)) refl

deadline_taken : (s : Canvas) (k jobs cycle : ℕ) (around : List Name) (tag : Name) → read (Content (titled (tag ∷ around))) (deadline_text s k jobs cycle) ≡ Content (tag ∷ around)
deadline_taken s k jobs cycle around tag =
    mark_taken (deadline_told jobs) (deadline_path (place s.view cycle) (task_top s k + 40)) cycle around tag (last_keeps jobs)
    (deadline_path_taken (place s.view cycle) (task_top s k + 40) around tag)

deadline_keeps : (s : Canvas) (k : ℕ) (task : List ℕ) (period jobs : ℕ) → Keeps (deadline_shown s k task period jobs)
deadline_keeps s k task period jobs =
    keeps_if (is_marked s.view (jobs * period)) (owner_text task ++ deadline_text s k jobs (jobs * period))
    (keeps_mark task (deadline_text s k jobs (jobs * period)) (deadline_taken s k jobs (jobs * period)))

releases_keep : (s : Canvas) (k : ℕ) (t : TaskRecord) → Keeps (releases_text s k t)
releases_keep s k t =
    keeps_append (in_turn (release_shown s k t.name t.period) t.jobs) (deadline_shown s k t.name t.period t.jobs)
    (keeps_turns (release_shown s k t.name t.period) (release_keeps s k t.name t.period) t.jobs) (deadline_keeps s k t.name t.period t.jobs)

-- ---- promises

served_taken : (every : ℕ) (wait : Option ℕ) (around : List Name) → read (Content (titled around)) (served_told every wait) ≡ Content (codes "g" ∷ around)
unfolding served_told
served_taken every (Some wait) around = taken_text (Content (titled around)) (served_pieces every wait) (Content (codes "g" ∷ around)) refl
served_taken every None around = taken_text (Content (titled around)) (late_pieces every) (Content (codes "g" ∷ around)) refl

apart_taken : (y every : ℕ) (around : List Name) → read (Content (codes "text" ∷ codes "g" ∷ around)) (apart_text y every) ≡ Content (codes "g" ∷ around)
unfolding apart_text
apart_taken y every around = taken_text (Content (codes "text" ∷ codes "g" ∷ around)) (apart_pieces y every) (Content (codes "g" ∷ around)) refl

within_taken : (y : ℕ) (wait : Option ℕ) (around : List Name) (tag : Name) → read (Content (codes "g" ∷ tag ∷ around)) (within_text y wait) ≡ Content (tag ∷ around)
unfolding within_text
within_taken y (Some wait) around tag = taken_text (Content (codes "g" ∷ tag ∷ around)) (within_pieces y wait) (Content (tag ∷ around)) refl
within_taken y None around tag = taken_text (Content (codes "g" ∷ tag ∷ around)) (unknown_pieces y) (Content (tag ∷ around)) refl

promise_label_keeps : (s : Canvas) (devices : List DeviceRecord) (row : ℕ) (p : Promise) → Keeps (promise_label s devices row p)
promise_label_keeps s devices row p tag around =
    let out : List Name = tag ∷ around in
    let inner : List Name = codes "g" ∷ out in
    let named : List Name = codes "text" ∷ inner in
    let name : List ℕ = device_name devices p.device in
    let base : List ℕ = base_text (promise_top s row + 430) in
    let within : List ℕ = within_text (promise_top s row + 410) p.wait in
    let apart : List ℕ = apart_text (promise_top s row + 290) p.every in
    let start : List ℕ = name_start (promise_top s row + 170) in
    let served : List ℕ = served_told p.every p.wait in
    then_taken (Content out) (Content (titled out)) (Content out) (owner_text name) (served ++ (start ++ (escaped name ++ (apart ++ (within ++ base))))) (owner_taken name out)
    (then_taken (Content (titled out)) (Content inner) (Content out) served (start ++ (escaped name ++ (apart ++ (within ++ base)))) (served_taken p.every p.wait out)
    (then_taken (Content inner) (Content named) (Content out) start (escaped name ++ (apart ++ (within ++ base))) (name_taken (promise_top s row + 170) inner)
    (then_taken (Content named) (Content named) (Content out) (escaped name) (apart ++ (within ++ base)) (escaped_taken named name)
    (then_taken (Content named) (Content inner) (Content out) apart (within ++ base) (apart_taken (promise_top s row + 290) p.every out)
    (then_taken (Content inner) (Content out) (Content out) within base (within_taken (promise_top s row + 410) p.wait around tag) (base_keeps (promise_top s row + 430) tag around))))))

request_told_keeps : (line wait cycle : ℕ) → Keeps (request_told line wait cycle)
unfolding request_told
request_told_keeps line wait cycle = keeps_pieces (request_pieces line wait cycle) (λ tag around. refl)

request_keeps : (s : Canvas) (devices : List DeviceRecord) (row wait level : ℕ) (r : Request) → Keeps (request_shown s devices row wait level r)
request_keeps s devices row wait level r = shown_keeps s r.cycle wait (request_shape s devices row wait level r) (request_told_keeps r.line wait r.cycle)

keeps_either : (b : Bool) (yes_text no_text : List ℕ) → Keeps yes_text → Keeps no_text → Keeps (cond b yes_text no_text)
keeps_either true yes_text no_text h k = h
keeps_either false yes_text no_text h k = k

requests_keep : (s : Canvas) (devices : List DeviceRecord) (cycles row device wait behind level : ℕ) (requests : List Request) →
    Keeps (requests_from s devices cycles row device wait behind level requests)
requests_keep s devices cycles row device wait behind level [] = keeps_none
requests_keep s devices cycles row device wait behind level (r ∷ rs) =
    let next : ℕ = level_of behind level r.cycle in
    let shown : List ℕ = request_shown s devices row wait next r in
    let more : List ℕ = requests_from s devices cycles row device wait (r.cycle + wait) next rs in
    keeps_either (has_come device cycles r) (shown ++ more) (requests_from s devices cycles row device wait behind level rs)
    (keeps_append shown more (request_keeps s devices row wait next r) (requests_keep s devices cycles row device wait (r.cycle + wait) next rs))
    (requests_keep s devices cycles row device wait behind level rs)

row_keeps : (s : Canvas) (devices : List DeviceRecord) (requests : List Request) (cycles row device : ℕ) (wait : Option ℕ) → Keeps (row_text s devices requests cycles row device wait)
row_keeps s devices requests cycles row device None = keeps_none
row_keeps s devices requests cycles row device (Some wait) = requests_keep s devices cycles row device wait 0 0 requests

promise_keeps : (s : Canvas) (devices : List DeviceRecord) (requests : List Request) (cycles row : ℕ) (p : Promise) → Keeps (promise_row s devices requests cycles row p)
promise_keeps s devices requests cycles row p =
    keeps_append (promise_label s devices row p) (row_text s devices requests cycles row p.device p.wait) (promise_label_keeps s devices row p)
    (row_keeps s devices requests cycles row p.device p.wait)

all_promises_keep : (s : Canvas) (devices : List DeviceRecord) (requests : List Request) (cycles : ℕ) (promises : List Promise) → Keeps (all_promises s devices requests cycles promises)
unfolding all_promises
all_promises_keep s devices requests cycles promises = keeps_each (promise_row s devices requests cycles) (promise_keeps s devices requests cycles) promises

-- ---- axis and head

grid_keeps : (s : Canvas) (x : ℕ) → Keeps (grid_text s x)
unfolding grid_text
grid_keeps s x = keeps_pieces (grid_pieces s x) (λ tag around. refl)

tick_keeps : (s : Canvas) (x cycle : ℕ) → Keeps (tick_text s x cycle)
unfolding tick_text
tick_keeps s x cycle = keeps_pieces (tick_pieces s x cycle) (λ tag around. refl)

axis_name_keeps : (s : Canvas) → Keeps (axis_name s)
unfolding axis_name
axis_name_keeps s = keeps_pieces (axis_pieces s) (λ tag around. refl)

shown_tick_keeps : (s : Canvas) (cycle : ℕ) → Keeps (tick_shown s cycle)
shown_tick_keeps s cycle =
    let x : ℕ = place s.view cycle in
    keeps_if (nat_le cycle s.view.behind) (grid_text s x ++ tick_text s x cycle) (keeps_append (grid_text s x) (tick_text s x cycle) (grid_keeps s x) (tick_keeps s x cycle))

ticks_keep : (s : Canvas) (step count : ℕ) → Keeps (ticks_text s step count)
unfolding ticks_text
ticks_keep s step count =
    let tick : ℕ → List ℕ = λ k. tick_shown s ((multiples_before step s.view.first + k) * step) in
    keeps_turns tick (λ k. shown_tick_keeps s ((multiples_before step s.view.first + k) * step)) count

axis_keeps : (s : Canvas) → Keeps (axis_text s)
unfolding axis_text
axis_keeps s =
    let step = tick_step (s.view.behind - s.view.first) in
    keeps_append (ticks_text s step 14) (axis_name s) (ticks_keep s step 14) (axis_name_keeps s)

style_keeps : Keeps style_text
unfolding style_text
style_keeps tag around = refl

paper_keeps : (s : Canvas) → Keeps (paper_text s)
unfolding paper_text
paper_keeps s = keeps_pieces (paper_pieces s) (λ tag around. refl)

title_keeps : (set : List ℕ) → Keeps (title_text set)
title_keeps set tag around =
    let out : List Name = tag ∷ around in
    let named : List Name = codes "text" ∷ out in
    then_taken (Content out) (Content named) (Content out) (codes "<text class=\"title\" x=\"300\" y=\"300\">") (escaped set ++ codes "</text>\n") refl
    (then_taken (Content named) (Content named) (Content out) (escaped set) (codes "</text>\n") (escaped_taken named set) refl)

keys_keep : Keeps keys_text
unfolding keys_text
keys_keep tag around = refl

key_keeps : (k : ℕ) → Keeps (key_text k)
unfolding key_text
key_keeps k = keeps_pieces (key_pieces k) (λ tag around. refl)

key_name_taken : (k : ℕ) (around : List Name) → read (Content around) (key_name k) ≡ Content (codes "text" ∷ around)
unfolding key_name
key_name_taken k around = taken_text (Content around) (key_name_pieces k) (Content (codes "text" ∷ around)) refl

device_key_keeps : (k : ℕ) (device : List ℕ) → Keeps (device_key k device)
device_key_keeps k device tag around =
    let out : List Name = tag ∷ around in
    let named : List Name = codes "text" ∷ out in
    then_taken (Content out) (Content out) (Content out) (key_text k) (key_name k ++ (escaped device ++ codes "</text>\n")) (key_keeps k tag around)
    (then_taken (Content out) (Content named) (Content out) (key_name k) (escaped device ++ codes "</text>\n") (key_name_taken k out)
    (then_taken (Content named) (Content named) (Content out) (escaped device) (codes "</text>\n") (escaped_taken named device) refl))

-- the line of counts begins, goes on, and ends
time_taken : (cycles : ℕ) (around : List Name) → read (Content around) (time_text cycles) ≡ Content (codes "text" ∷ around)
unfolding time_text
time_taken cycles around = taken_text (Content around) (time_pieces cycles) (Content (codes "text" ∷ around)) refl

stop_keeps : (stop : Stop) → Keeps (stop_word stop)
stop_keeps Finished tag around = refl
stop_keeps Limit tag around = refl
stop_keeps (LogFull n) tag around = refl
stop_keeps (Trap task pc cause) tag around = refl

cache_keeps : (hits misses : ℕ) → Keeps (cache_text hits misses)
unfolding cache_text
cache_keeps hits misses = keeps_pieces (cache_pieces hits misses) (λ tag around. refl)

phase_keeps : (misses backs : ℕ) → Keeps (phase_text misses backs)
unfolding phase_text
phase_keeps misses backs = keeps_pieces (phase_pieces misses backs) (λ tag around. refl)

bus_taken : (clashes : ℕ) (around : List Name) (tag : Name) → read (Content (codes "text" ∷ tag ∷ around)) (bus_text clashes) ≡ Content (tag ∷ around)
unfolding bus_text
bus_taken clashes around tag = taken_text (Content (codes "text" ∷ tag ∷ around)) (bus_pieces clashes) (Content (tag ∷ around)) refl

counts_keep : (cycles : ℕ) (stop : Stop) (n : Counts) → Keeps (counts_text cycles stop n)
counts_keep cycles stop n tag around =
    let out : List Name = tag ∷ around in
    let line : List Name = codes "text" ∷ out in
    let cache : List ℕ = cache_text n.hits n.misses in
    let phase : List ℕ = phase_text n.exec_misses n.writebacks in
    let bus : List ℕ = bus_text n.clashes in
    then_taken (Content out) (Content line) (Content out) (time_text cycles) (stop_word stop ++ (cache ++ (phase ++ bus))) (time_taken cycles out)
    (then_taken (Content line) (Content line) (Content out) (stop_word stop) (cache ++ (phase ++ bus)) (stop_keeps stop (codes "text") out)
    (then_taken (Content line) (Content line) (Content out) cache (phase ++ bus) (cache_keeps n.hits n.misses (codes "text") out)
    (then_taken (Content line) (Content line) (Content out) phase bus (phase_keeps n.exec_misses n.writebacks (codes "text") out) (bus_taken n.clashes around tag))))

-- ---- the picture

size_taken : (s : Canvas) → read Before (size_text s) ≡ Content (codes "svg" ∷ [])
unfolding size_text
size_taken s = taken_text Before (size_pieces s) (Content (codes "svg" ∷ [])) refl

rows_keep : (s : Canvas) (tasks : List TaskRecord) (devices : List DeviceRecord) (r : Report) (notes : List Note) → Keeps (rows_text s tasks devices r notes)
unfolding rows_text
rows_keep s tasks devices r notes =
    let intervals : List ℕ = flat_map shape_text (interval_shapes s tasks r.intervals) in
    let transfers : List ℕ = flat_map shape_text (transfer_shapes s devices r.transfers) in
    keeps_append intervals (windows_text s tasks notes ++ (transfers ++ misses_text s tasks notes))
    (keeps_shapes (interval_shape s tasks) interval_keeps (filter (has_interval s) r.intervals))
    (keeps_append (windows_text s tasks notes) (transfers ++ misses_text s tasks notes) (keeps_flat (window_text s tasks) (window_keeps s tasks) notes)
    (keeps_append transfers (misses_text s tasks notes)
    (keeps_shapes (transfer_shape s devices) (λ t. transfer_keeps (device_cost devices t.device) t) (filter (has_transfer s devices) r.transfers))
    (keeps_flat (miss_text s tasks) (miss_keeps s tasks) notes)))

frame_keeps : (s : Canvas) (tasks : List TaskRecord) → Keeps (frame_text s tasks)
unfolding frame_text
frame_keeps s tasks = keeps_append (axis_text s) (labels_text s tasks) (axis_keeps s) (labels_keep s tasks)

all_releases_keep : (s : Canvas) (tasks : List TaskRecord) → Keeps (all_releases s tasks)
unfolding all_releases
all_releases_keep s tasks = keeps_each (releases_text s) (releases_keep s) tasks

device_keys_keep : (devices : List DeviceRecord) → Keeps (device_keys devices)
device_keys_keep devices =
    let told : ℕ → DeviceRecord → List ℕ = λ k d. device_key k d.device.name in
    keeps_each told (λ k d. device_key_keeps k d.device.name) devices

-- all of the head behind the ground
told_keeps : (set : List ℕ) (devices : List DeviceRecord) (cycles : ℕ) (stop : Stop) (n : Counts) →
    Keeps (title_text set ++ (counts_text cycles stop n ++ (keys_text ++ device_keys devices)))
told_keeps set devices cycles stop n =
    keeps_append (title_text set) (counts_text cycles stop n ++ (keys_text ++ device_keys devices)) (title_keeps set)
    (keeps_append (counts_text cycles stop n) (keys_text ++ device_keys devices) (counts_keep cycles stop n)
    (keeps_append keys_text (device_keys devices) keys_keep (device_keys_keep devices)))

abbrev svg : List Name
svg = codes "svg" ∷ []

ground_taken : (s : Canvas) → read Before (size_text s ++ (style_text ++ paper_text s)) ≡ Content svg
ground_taken s =
    then_taken Before (Content svg) (Content svg) (size_text s) (style_text ++ paper_text s) (size_taken s) (keeps_append style_text (paper_text s) style_keeps (paper_keeps s) (codes "svg") [])

head_taken : (s : Canvas) (set : List ℕ) (devices : List DeviceRecord) (r : Report) (cycles : ℕ) (stop : Stop) → read Before (head_text s set devices r cycles stop) ≡ Content svg
unfolding head_text
head_taken s set devices r cycles stop =
    then_taken Before (Content svg) (Content svg) (size_text s ++ (style_text ++ paper_text s)) (title_text set ++ (counts_text cycles stop r.counts ++ (keys_text ++ device_keys devices)))
    (ground_taken s) (told_keeps set devices cycles stop r.counts (codes "svg") [])

ends_picture : read (Content svg) end_text ≡ After
unfolding end_text
ends_picture = refl

sheet_is_well_formed : (s : Canvas) (set : List ℕ) (tasks : List TaskRecord) (devices : List DeviceRecord) (r : Report) (cycles : ℕ) (stop : Stop) (notes : List Note)
    (requests : List Request) (promises : List Promise) → IsWellFormed (sheet_text s set tasks devices r cycles stop notes requests promises)
sheet_is_well_formed s set tasks devices r cycles stop notes requests promises =
    let frame : List ℕ = frame_text s tasks in
    let rows : List ℕ = rows_text s tasks devices r notes in
    let releases : List ℕ = all_releases s tasks in
    let below : List ℕ = all_promises s devices requests cycles promises in
    then_taken Before (Content svg) After (head_text s set devices r cycles stop) (frame ++ (rows ++ (releases ++ (below ++ end_text)))) (head_taken s set devices r cycles stop)
    (then_taken (Content svg) (Content svg) After frame (rows ++ (releases ++ (below ++ end_text))) (frame_keeps s tasks (codes "svg") [])
    (then_taken (Content svg) (Content svg) After rows (releases ++ (below ++ end_text)) (rows_keep s tasks devices r notes (codes "svg") [])
    (then_taken (Content svg) (Content svg) After releases (below ++ end_text) (all_releases_keep s tasks (codes "svg") [])
    (then_taken (Content svg) (Content svg) After below end_text (all_promises_keep s devices requests cycles promises (codes "svg") []) ends_picture))))

pub chart_is_well_formed : (v : View) (set : List ℕ) (tasks : List TaskRecord) (devices : List DeviceRecord) (r : Report) (cycles : ℕ) (stop : Stop) (notes : List Note)
    (requests : List Request) (promises : List Promise) → IsWellFormed (chart_text v set tasks devices r cycles stop notes requests promises)
chart_is_well_formed v set tasks devices r cycles stop notes requests promises =
    sheet_is_well_formed (sheet_of v tasks devices promises) set tasks devices r cycles stop notes requests promises
