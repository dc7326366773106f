use Rattle.prem_latency.proofs.Openings.{openings_join, strands_close, traces_open}
use Rattle.prem_latency.proofs.CallOpenings.{calls_open, quiet_lists_open}
use Rattle.prem_latency.proofs.laws.calls_open_and_close.Goals as goal

pub returns-clause-opens : goal.returns-clause-opens
returns-clause-opens c = traces_open

pub returns-clause-joins : goal.returns-clause-joins
returns-clause-joins c = openings_join

pub returns-clause-quiet : goal.returns-clause-quiet
returns-clause-quiet c = quiet_lists_open

pub returns-clause-calls : goal.returns-clause-calls
returns-clause-calls c = calls_open

pub returns-clause-strands : goal.returns-clause-strands
returns-clause-strands c = strands_close
