use Rattle.prem_bounds.proofs.StubNumbers.{stubs_are_in_order}
use Rattle.prem_bounds.proofs.laws.stubs_are_in_order.Goals as goal

pub returns : goal.returns
returns c = stubs_are_in_order
