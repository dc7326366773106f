use Rattle.prem_latency.proofs.Rooms.{room_is_there}
use Rattle.prem_latency.proofs.Shares.{none_is_before}
use Rattle.prem_latency.proofs.laws.waits_are_bounded.Goals as goal

pub returns-clause-before : goal.returns-clause-before
returns-clause-before c = none_is_before

pub returns-clause-there : goal.returns-clause-there
returns-clause-there c = room_is_there
