use Rattle.std.specs.List.{AllByRecursion}
use Rattle.std.proofs.Common.{◌≡◌, drop, map, length}
use Rattle.prem_place.specs.Content.Blocks.{block_of, EndsBy, with_words}
use Rattle.prem_place.proofs.content.content.put_blocks.Given as goal

abbrev pub invariant-loop-block : goal.invariant-loop-block
invariant-loop-block l =
    record {
      rest : with_words (map block_of (drop l.block-index l.blocks)) l.content ≡ with_words (map block_of l.blocks) l.fn.content;
      within : AllByRecursion (EndsBy (length l.fn.content)) (drop l.block-index l.blocks);
      long : length l.content ≡ length l.fn.content;
    }
