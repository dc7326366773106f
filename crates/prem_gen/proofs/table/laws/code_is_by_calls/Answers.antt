use Rattle.prem_gen.proofs.TableLemmas.Calls.{code_is_by_calls}
use Rattle.prem_gen.proofs.table.laws.code_is_by_calls.Goals as goal

pub returns : goal.returns
returns c = code_is_by_calls
