use Rattle.std.specs.List.{AllByRecursion}
use Rattle.std.proofs.Common.{◌≡◌, ◌+◌, drop, length, slice_index}
use Rattle.prem_asm.specs.Fit.{PiecesFit}
use Rattle.prem_place.specs.Flat.Flat.{listed, lower_part, lowest_far, EndWithin}
use Rattle.prem_place.proofs.flat.flat.lowest_of.Given as goal

abbrev pub invariant-loop-pieces : goal.invariant-loop-pieces
invariant-loop-pieces l =
    record {
      at : l.part ≡ l.first + l.pieces-index;
      lowest : lower_part (slice_index l.starts) l.lowest (lowest_far (slice_index l.starts) l.part (listed (drop l.pieces-index l.all)))
          ≡ lower_part (slice_index l.starts) l.fn.found (lowest_far (slice_index l.starts) l.first (listed l.all));
      fit : AllByRecursion (PiecesFit (length l.starts) (slice_index l.starts)) (listed (drop l.pieces-index l.all));
      within : EndWithin (slice_index l.starts) l.part (listed (drop l.pieces-index l.all));
    }
