-- The bytes of a frame by its number of slots.
use Rattle.std.specs.Prelude.{ℕ, ◌+◌, ◌*◌, ◌^◌}
use Rattle.std.specs.Int.{next_multiple_of}

-- no count passes it
abbrev pub most : ℕ
most = 2 ^ 32

-- bytes for so many slots behind the return address
abbrev pub frame_bytes : ℕ → ℕ
frame_bytes slots = next_multiple_of (4 + 4 * slots) 16
