use Rattle.prem_mail.proofs.TwoCalls.{two_calls_are_one}
use Rattle.prem_mail.proofs.calls.two_calls_are_one.Goals as goal

pub returns : goal.returns
returns c = two_calls_are_one
