use Rattle.std.proofs.Common.{ap, refl, sym}
use Rattle.prem_list.specs.Sequence.{items_of}
use Rattle.prem_asm.proofs.PieceWords.{is_either}
use Rattle.prem_wcet.specs.Sliced.{second_side}
use Rattle.prem_wcet.proofs.outline.other_side.Goals as goal

pub returns-in-Either : goal.returns-in-Either
returns-in-Either c = sym (ap second_side
    (is_either c.args.piece.now c.in-Either.test c.in-Either.taken c.in-Either.other (items_of c.in-Either.taken)
    c.items.result.now c.in-Either.is refl c.items.ensures))
