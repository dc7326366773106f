-- Where cycles and rows stand in a picture. All lengths are in tenths of a unit.
use Rattle.std.specs.Prelude.{ℕ, ◌+◌, ◌-◌, ◌*◌, ◌/◌, ◌≤◌, ◌<◌, ◌^◌, nat_lt, min, max, Bool}
use Rattle.prem_chart.specs.declared.view.View.{View}
use Rattle.prem_chart.specs.declared.view.Canvas.{Canvas}
use Rattle.prem_chart.specs.declared.view.Look.{Look}
use Rattle.prem_chart.specs.declared.view.Bar.{Bar}

-- ---- cycles

-- the beginning of the line of time, and its length
abbrev pub time_left : ℕ
time_left = 1400

abbrev pub time_width : ℕ
time_width = 10300

-- a window has cycles, and none from 2^50 on
pub record IsView (v : View) : Type 0 where
  pub some : v.first < v.behind
  pub early : v.behind ≤ 2 ^ 50

-- a cycle of the window, or that end of it which is nearer
abbrev pub held : View → ℕ → ℕ
held v cycle = min (max cycle v.first) v.behind

-- the place of a cycle's beginning
abbrev pub place : View → ℕ → ℕ
place v cycle = time_left + (held v cycle - v.first) * time_width / (v.behind - v.first)

-- whether one of the cycles from `first` up to `behind`, which is left out, is in the window
abbrev pub is_inside : View → ℕ → ℕ → Bool
is_inside v first behind = nat_lt (max first v.first) (min behind v.behind)

-- the cycle behind so many cycles, or the end of the window where that comes before it
abbrev pub behind_in : View → (first cycles : ℕ) → ℕ
behind_in v first cycles = min (first + cycles) v.behind

-- the bar of these cycles: it reaches from the place of the first one to that of the one behind, and is a tenth of a unit wide at least, so that it is seen
abbrev pub bar_of : View → Look → (y height first behind : ℕ) → Bar
bar_of v look y height first behind =
    record { look = look; x = place v first; y = y; width = max (place v behind - place v first) 1; height = height }

-- ---- rows

-- the head has a line of keys for four devices each
abbrev pub rows_top : Canvas → ℕ
rows_top s = 980 + 200 * ((s.devices + 3) / 4)

-- the upper edge of the row of a task
abbrev pub task_top : Canvas → ℕ → ℕ
task_top s k = rows_top s + 520 * k

-- those of idle time, of the bus, and of the axis
abbrev pub idle_top : Canvas → ℕ
idle_top s = rows_top s + 520 * s.tasks

abbrev pub bus_top : Canvas → ℕ
bus_top s = rows_top s + 520 * s.tasks + 340

abbrev pub axis_top : Canvas → ℕ
axis_top s = rows_top s + 520 * (s.tasks + s.promised) + 780

-- that of a row for what is promised to a device, between the bus and the axis
abbrev pub promise_top : Canvas → ℕ → ℕ
promise_top s row = rows_top s + 520 * s.tasks + 780 + 520 * row

-- all of it
abbrev pub height_of : Canvas → ℕ
height_of s = rows_top s + 520 * (s.tasks + s.promised) + 1340
