use Rattle.prem_running.proofs.MailLemmas.Again.{deliveries_are_read_back}
use Rattle.prem_running.proofs.mail.laws.deliveries_are_read_back.Goals as goal

pub returns : goal.returns
returns c = deliveries_are_read_back
