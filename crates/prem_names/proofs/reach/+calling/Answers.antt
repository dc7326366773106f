use Rattle.std.proofs.Common.{◌≡◌, ap, sym, ◌∙◌}
use Rattle.prem_syntax.specs.Syntax.{block}
use Rattle.prem_syntax.specs.SyntaxOf.{statement_of, statements_of}
use Rattle.prem_syntax.proofs.Rows.{statement_of-Block}
use Rattle.prem_names.proofs.reach.+calling.Goals as goal

pub add_callees-returns-in-Block : goal.add_callees-returns-in-Block
add_callees-returns-in-Block t c =
    let is : statement_of c.args.stmt.now ≡ block c.in-Block.at (statements_of c.items.result.now) =
    ap statement_of c.in-Block.is ∙ statement_of-Block c.in-Block.at c.in-Block.body ∙ ap (λ xs. block c.in-Block.at (statements_of xs)) (sym c.items.ensures) in
    rw is c.add_all_callees.ensures
