use Rattle.std.specs.List.{AllByRecursion}
use Rattle.std.proofs.Common.{◌≡◌, ◌+◌, ◌++◌, map, length, drop, slice_index}
use Rattle.prem_asm.specs.Fit.{PiecesFit}
use Rattle.prem_place.specs.Content.Blocks.{block_of}
use Rattle.prem_place.specs.Flat.Flat.{listed, far_part, words_from, EndWithin}
use Rattle.prem_place.proofs.flat.flat.put_parts.Given as goal

abbrev pub invariant-loop-pieces : goal.invariant-loop-pieces
invariant-loop-pieces l =
    record {
      at : l.part ≡ l.first + l.pieces-index;
      words : map block_of l.blocks.items ++ words_from (slice_index l.starts) l.part (listed (drop l.pieces-index l.all))
          ≡ map block_of l.initial.blocks.items ++ words_from (slice_index l.starts) l.first (listed l.all);
      far : far_part (slice_index l.starts) l.part (listed (drop l.pieces-index l.all)) ≡ far_part (slice_index l.starts) l.first (listed l.all);
      fit : AllByRecursion (PiecesFit (length l.starts) (slice_index l.starts)) (listed (drop l.pieces-index l.all));
      within : EndWithin (slice_index l.starts) l.part (listed (drop l.pieces-index l.all));
    }
