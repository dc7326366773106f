use Rattle.prem_pair.proofs.LawsLemmas.Orders.{found_in_order}
use Rattle.prem_pair.proofs.laws.pair_requests_find_room_in_order.Goals as goal

pub returns : goal.returns
returns c = found_in_order
