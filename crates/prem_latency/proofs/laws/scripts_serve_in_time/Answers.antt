use Rattle.prem_latency.proofs.Charged.{charges_drop_none, charges_serve_each, charges_serve_in_time}
use Rattle.prem_latency.proofs.laws.scripts_serve_in_time.Goals as goal

pub returns-clause-served : goal.returns-clause-served
returns-clause-served c = charges_serve_in_time

pub returns-clause-kept : goal.returns-clause-kept
returns-clause-kept c = charges_drop_none

pub returns-clause-each : goal.returns-clause-each
returns-clause-each c = charges_serve_each
