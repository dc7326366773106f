use Rattle.prem_latency.proofs.WcetLemmas.Partings.{scopes_agree, lones_agree, divisions_are_partings}
use Rattle.prem_latency.proofs.wcet.divisions_are_partings.Goals as goal

pub returns-clause-scopes : goal.returns-clause-scopes
returns-clause-scopes c = scopes_agree

pub returns-clause-lones : goal.returns-clause-lones
returns-clause-lones c = lones_agree

pub returns-clause-partings : goal.returns-clause-partings
returns-clause-partings c = divisions_are_partings
