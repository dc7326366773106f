use Rattle.std.proofs.Common.{◌^◌}
use Rattle.prem_foot.proofs.RunLaws.{last_line_within}
use Rattle.prem_foot.proofs.runs.push_widened.Goals as goal

pub returns-clause-low : goal.returns-clause-low
returns-clause-low c =
    last_line_within c.args.line (2 ^ 32) c.args.wide.now.items c.push.new.self.items c.widened.result c.in_ok-push.ensures.items c.requires c.widened.ensures.start c.widened.ensures.end
