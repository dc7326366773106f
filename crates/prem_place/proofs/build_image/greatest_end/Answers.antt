use Rattle.prem_place.proofs.BuildImageLemmas.Turns.{greatest_turn}
use Rattle.prem_place.proofs.build_image.greatest_end.Goals as goal

pub loop-n-preserved : goal.loop-n-preserved
loop-n-preserved c =
    greatest_turn c.loop-n.n c.loop-n.greatest c.max-greatest.result c.args.layout.now c.part.result c.unwrap_or-end.result c.loop-n.invariant
    c.part.ensures.place c.unwrap_or-end.ensures c.max-greatest.ensures
