use Rattle.prem_gen.proofs.TableLemmas.Parts.{table_tells, stubs_are_counted}
use Rattle.prem_gen.proofs.table.laws.table_tells_of_calls.Goals as goal

pub returns : goal.returns
returns c = record { calls = table_tells; globals = stubs_are_counted }
