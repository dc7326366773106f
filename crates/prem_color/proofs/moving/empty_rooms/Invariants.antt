use Rattle.std.specs.Prelude.{replicate}
use Rattle.std.proofs.Common.{◌≡◌, map, length}
use Rattle.prem_color.specs.RoomOf.{room_of}
use Rattle.prem_color.specs.Rooms.{no_lines}
use Rattle.prem_color.proofs.moving.empty_rooms.Given as goal

abbrev pub invariant-loop : goal.invariant-loop
invariant-loop l = record { are : map room_of l.rooms.items ≡ replicate l.counter no_lines; long : length l.rooms.items ≡ l.counter }
