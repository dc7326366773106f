use Rattle.std.proofs.Common.{ap, refl, sym}
use Rattle.prem_list.specs.Sequence.{items_of}
use Rattle.prem_asm.proofs.PieceWords.{is_repeat}
use Rattle.prem_wcet.specs.Sliced.{body_in}
use Rattle.prem_wcet.proofs.outline.body_side.Goals as goal

pub returns-in-Repeat : goal.returns-in-Repeat
returns-in-Repeat c = sym (ap body_in
    (is_repeat c.args.piece.now c.in-Repeat.turns c.in-Repeat.head c.in-Repeat.test c.in-Repeat.body (items_of c.in-Repeat.head)
    c.items.result.now c.in-Repeat.is refl c.items.ensures))
