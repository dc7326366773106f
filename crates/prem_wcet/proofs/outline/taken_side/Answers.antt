use Rattle.std.proofs.Common.{ap, refl, sym}
use Rattle.prem_list.specs.Sequence.{items_of}
use Rattle.prem_asm.proofs.PieceWords.{is_either}
use Rattle.prem_wcet.specs.Sliced.{first_side}
use Rattle.prem_wcet.proofs.outline.taken_side.Goals as goal

pub returns-in-Either : goal.returns-in-Either
returns-in-Either c = sym (ap first_side
    (is_either c.args.piece.now c.in-Either.test c.in-Either.taken c.in-Either.other c.items.result.now (items_of c.in-Either.other)
    c.in-Either.is c.items.ensures refl))
