-- The head of a picture: its size, how all looks, what the run counted, and the keys to its colours.
use Rattle.std.specs.Prelude.{ℕ, ◌+◌, ◌*◌, ◌/◌, ◌%◌, List, [], ◌∷◌, ◌++◌, codes}
use Rattle.prem_chart.specs.declared.head.TheConstants.{STYLE, KEYS}
use Rattle.prem_chart.specs.declared.view.Canvas.{Canvas}
use Rattle.prem_chart.specs.Pieces.{Piece, text_of, words, number, escaped}
use Rattle.prem_chart.specs.Places.{height_of}

-- the size, in units
abbrev pub size_pieces : Canvas → List Piece
size_pieces s =
    words (codes "<svg xmlns=\"http://www.w3.org/2000/svg\" viewBox=\"0 0 12000 ") ∷ number (height_of s) ∷ words (codes "\" width=\"1200\" height=\"") ∷ number (height_of s / 10)
    ∷ words (codes "\">\n") ∷ []

unfoldable pub size_text : Canvas → List ℕ
size_text s = text_of (size_pieces s)

unfoldable pub style_text : List ℕ
style_text = STYLE.now

-- the ground below all
abbrev pub paper_pieces : Canvas → List Piece
paper_pieces s = words (codes "<rect class=\"paper\" width=\"12000\" height=\"") ∷ number (height_of s) ∷ words (codes "\"/>\n") ∷ []

unfoldable pub paper_text : Canvas → List ℕ
paper_text s = text_of (paper_pieces s)

-- whose run it is
abbrev pub title_text : List ℕ → List ℕ
title_text set = codes "<text class=\"title\" x=\"300\" y=\"300\">" ++ (escaped set ++ codes "</text>\n")

-- ---- keys

unfoldable pub keys_text : List ℕ
keys_text = KEYS.now

-- where the key of device k stands
abbrev pub key_x : ℕ → ℕ
key_x k = 300 + 2850 * (k % 4)

abbrev pub key_y : ℕ → ℕ
key_y k = 815 + 200 * (k / 4)

abbrev pub key_pieces : ℕ → List Piece
key_pieces k =
    words (codes "<rect class=\"d") ∷ number (k % 8) ∷ words (codes "\" x=\"") ∷ number (key_x k) ∷ words (codes "\" y=\"") ∷ number (key_y k)
    ∷ words (codes "\" width=\"120\" height=\"120\"/>") ∷ []

unfoldable pub key_text : ℕ → List ℕ
key_text k = text_of (key_pieces k)

abbrev pub key_name_pieces : ℕ → List Piece
key_name_pieces k =
    words (codes "<text class=\"key\" x=\"") ∷ number (key_x k + 170) ∷ words (codes "\" y=\"") ∷ number (key_y k + 105) ∷ words (codes "\">") ∷ []

unfoldable pub key_name : ℕ → List ℕ
key_name k = text_of (key_name_pieces k)

-- that of a device with this name
abbrev pub device_key : ℕ → List ℕ → List ℕ
device_key k device = key_text k ++ (key_name k ++ (escaped device ++ codes "</text>\n"))

-- ---- counts

abbrev pub time_pieces : ℕ → List Piece
time_pieces cycles = words (codes "<text class=\"counts\" x=\"300\" y=\"500\">") ∷ number cycles ∷ words (codes " cycles, ") ∷ []

unfoldable pub time_text : ℕ → List ℕ
time_text cycles = text_of (time_pieces cycles)

abbrev pub cache_pieces : (hits misses : ℕ) → List Piece
cache_pieces hits misses = words (codes ". ") ∷ number hits ∷ words (codes " hits, ") ∷ number misses ∷ words (codes " misses, of which ") ∷ []

unfoldable pub cache_text : (hits misses : ℕ) → List ℕ
cache_text hits misses = text_of (cache_pieces hits misses)

abbrev pub phase_pieces : (misses backs : ℕ) → List Piece
phase_pieces misses backs = number misses ∷ words (codes " in execution phases, ") ∷ number backs ∷ words (codes " write backs, ") ∷ []

unfoldable pub phase_text : (misses backs : ℕ) → List ℕ
phase_text misses backs = text_of (phase_pieces misses backs)

abbrev pub bus_pieces : ℕ → List Piece
bus_pieces clashes = number clashes ∷ words (codes " clashes on the bus.</text>\n") ∷ []

unfoldable pub bus_text : ℕ → List ℕ
bus_text clashes = text_of (bus_pieces clashes)
