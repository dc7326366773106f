-- The axis: round numbers of cycles.
use Rattle.std.specs.Prelude.{ℕ, ◌+◌, ◌-◌, ◌*◌, ◌/◌, ◌%◌, ◌==◌, nat_lt, nat_le, if◌then◌else◌, List, [], ◌∷◌, ◌++◌, codes}
use Rattle.prem_report.specs.Report.{in_turn}
use Rattle.prem_chart.specs.declared.axis.TheConstants.{STEPS, LAST_STEP}
use Rattle.prem_chart.specs.declared.view.Canvas.{Canvas}
use Rattle.prem_chart.specs.Pieces.{Piece, text_of, words, number}
use Rattle.prem_chart.specs.Places.{place, rows_top, axis_top}

-- the first one of which at most twelve fit into so many cycles
abbrev pub fitting : ℕ → List ℕ → ℕ
fitting span [] = LAST_STEP
fitting span (s ∷ steps) = if nat_lt span (13 * s) then s else fitting span steps

-- the cycles from one number of the axis to the next
unfoldable pub tick_step : ℕ → ℕ
tick_step span = fitting span STEPS

-- how often so many cycles fit before this one, rounded up
abbrev pub multiples_before : (step cycle : ℕ) → ℕ
multiples_before step cycle = if cycle % step == 0 then cycle / step else cycle / step + 1

-- a line at this place
abbrev pub grid_pieces : Canvas → ℕ → List Piece
grid_pieces s x =
    words (codes "<path class=\"grid\" d=\"M") ∷ number x ∷ words (codes " ") ∷ number (rows_top s) ∷ words (codes "V") ∷ number (axis_top s + 40) ∷ words (codes "\"/>") ∷ []

unfoldable pub grid_text : Canvas → ℕ → List ℕ
grid_text s x = text_of (grid_pieces s x)

-- and its number
abbrev pub tick_pieces : Canvas → (x cycle : ℕ) → List Piece
tick_pieces s x cycle =
    words (codes "<text class=\"axis\" x=\"") ∷ number x ∷ words (codes "\" y=\"") ∷ number (axis_top s + 190) ∷ words (codes "\">") ∷ number cycle ∷ words (codes "</text>\n") ∷ []

unfoldable pub tick_text : Canvas → (x cycle : ℕ) → List ℕ
tick_text s x cycle = text_of (tick_pieces s x cycle)

-- where it is in the window or just behind it
abbrev pub tick_shown : Canvas → ℕ → List ℕ
tick_shown s cycle =
    if nat_le cycle s.view.behind then grid_text s (place s.view cycle) ++ tick_text s (place s.view cycle) cycle else []

unfoldable pub ticks_text : Canvas → (step count : ℕ) → List ℕ
ticks_text s step count = in_turn (λ k. tick_shown s ((multiples_before step s.view.first + k) * step)) count

-- what the numbers are
abbrev pub axis_pieces : Canvas → List Piece
axis_pieces s = words (codes "<text class=\"axis\" x=\"6550\" y=\"") ∷ number (axis_top s + 400) ∷ words (codes "\">cycles</text>\n") ∷ []

unfoldable pub axis_name : Canvas → List ℕ
axis_name s = text_of (axis_pieces s)

unfoldable pub axis_text : Canvas → List ℕ
axis_text s = ticks_text s (tick_step (s.view.behind - s.view.first)) 14 ++ axis_name s
