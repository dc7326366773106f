use Rattle.prem_reader.proofs.StatementLemmas.Blocks.{block_made}
use Rattle.prem_reader.proofs.statement.nesting.block.Goals as goal

pub returns : goal.returns
returns c = block_made c.args.at c.args.body
