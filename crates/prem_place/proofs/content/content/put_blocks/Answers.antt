use Rattle.std.proofs.Common.{◌∙◌, length}
use Rattle.prem_place.proofs.ContentLemmas.Lengths.{block_within}
use Rattle.prem_place.proofs.content.content.put_blocks.Goals as goal

pub patch-requires : goal.patch-requires
patch-requires c =
    let i = c.loop-block.invariant in
    block_within (length c.args.content.now)
    c.args.blocks.now c.loop-block.block-index c.block-item.result c.deref.result.now c.deref-in-loop-block.result.now c.loop-block.content
    i.within c.loop-block-test.true c.block-item.is c.deref.ensures.value
    (c.deref-in-loop-block.ensures.value ∙ c.in_ok-bytes.ensures) i.long
