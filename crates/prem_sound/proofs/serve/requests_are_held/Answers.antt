use Rattle.prem_sound.proofs.ServeLemmas.Orders.{found_in_order}
use Rattle.prem_sound.proofs.ServeLemmas.Queues.{requests_held}
use Rattle.prem_sound.proofs.serve.requests_are_held.Goals as goal

pub returns-clause-held : goal.returns-clause-held
returns-clause-held c = requests_held

pub returns-clause-order : goal.returns-clause-order
returns-clause-order c = found_in_order
