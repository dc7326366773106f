use Rattle.prem_cycle.proofs.RunsLemmas.WindowLemmas.Wanted.{wants_seen}
use Rattle.prem_cycle.proofs.runs.window.wanted_inputs_are_seen_before_the_cycle.Goals as goal

pub returns : goal.returns
returns c = wants_seen
