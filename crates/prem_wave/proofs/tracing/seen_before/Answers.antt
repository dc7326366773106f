use Rattle.std.proofs.Common.{ap, ◌∙◌}
use Rattle.prem_wave.specs.Signals.{before_of}
use Rattle.prem_wave.proofs.tracing.seen_before.Goals as goal

pub returns : goal.returns
returns g c = c.before_of.ensures ∙ ap before_of c.parts.ensures.state
