-- Rooms of the wants that have ranges in a part.
use Rattle.std.specs.Prelude.{ℕ, ◌<◌, ◌&&◌, Bool, true, List, [], ◌∷◌, slice_index_or, slice_set}
use Rattle.prem_color.specs.Claims.{Share}
use Rattle.prem_color.specs.Rooms.{Room, no_lines, fits_one, room_after}

-- there is a want of this number
abbrev pub IsOf : ℕ → Share → Type 0
IsOf count s = s.want < count

abbrev pub room_at : List Room → ℕ → Room
room_at rooms k = slice_index_or rooms k no_lines

-- the lines of the shares have room
abbrev pub shares_fit : ℕ → ℕ → ℕ → ℕ → List Room → List Share → Bool
shares_fit line sets «ways» address rooms [] = true
shares_fit line sets «ways» address rooms (s ∷ ss) =
    fits_one line sets «ways» address (room_at rooms s.want) s.own && shares_fit line sets «ways» address rooms ss

-- the rooms with them
abbrev pub with_shares : ℕ → ℕ → ℕ → ℕ → List Room → List Share → List Room
with_shares line sets «ways» address rooms [] = rooms
with_shares line sets «ways» address rooms (s ∷ ss) =
    with_shares line sets «ways» address (slice_set rooms s.want (room_after line sets «ways» address (room_at rooms s.want) s.own)) ss
