use Rattle.std.proofs.Common.{ap, sym, ◌∙◌, min}
use Rattle.prem_syntax.specs.SyntaxOf.{statement_of, statements_of}
use Rattle.prem_syntax.proofs.Rows.{statement_of-Block}
use Rattle.prem_gen.specs.Frame.FrameOf.{most}
use Rattle.prem_gen.specs.Frame.Bounded.{bounded_in, bounded_among}
use Rattle.prem_gen.proofs.frame.text.+bounded.Goals as goal

pub bounded-returns-in-Block : goal.bounded-returns-in-Block
bounded-returns-in-Block t c =
    c.bounded_among.ensures
    ∙ ap (λ xs. min (bounded_among (statements_of xs)) most) c.items.ensures
    ∙ ap (λ s. min (bounded_in s) most) (sym (ap statement_of c.in-Block.is ∙ statement_of-Block c.in-Block.at c.in-Block.body))
