use Rattle.std.proofs.Common.{◌≡◌, replicate}
use Rattle.prem_list.specs.Sequence.{items_of, room_of}
use Rattle.prem_place.proofs.content.content.zeros.Given as goal

abbrev pub invariant-zeros : goal.invariant-zeros
invariant-zeros l = record { items : items_of l.bytes ≡ replicate l.counter 0; room : room_of l.bytes ≡ l.count }
