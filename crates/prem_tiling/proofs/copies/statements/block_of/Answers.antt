use Rattle.prem_syntax.proofs.Rows.{statement_of-Block}
use Rattle.prem_tiling.proofs.copies.statements.block_of.Goals as goal

pub returns : goal.returns
returns c = statement_of-Block c.args.at c.args.body
