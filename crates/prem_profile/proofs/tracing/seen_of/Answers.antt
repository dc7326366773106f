use Rattle.std.proofs.Common.{ap, ◌∙◌}
use Rattle.prem_profile.specs.Turn.{seen_of}
use Rattle.prem_profile.proofs.tracing.seen_of.Goals as goal

pub returns : goal.returns
returns g c = c.parts_seen.ensures ∙ ap (seen_of c.args.before) c.parts.ensures.state
