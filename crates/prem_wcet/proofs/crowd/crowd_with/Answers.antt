use Rattle.std.proofs.Common.{nat_eq, length, refl}
use Rattle.prem_wcet.proofs.Rooms.{crowd_told}
use Rattle.prem_wcet.proofs.crowd.crowd_with.Goals as goal

pub returns : goal.returns
returns c =
    crowd_told c.args.p.now c.args.lines.now c.args.touched.now c.counts_of-counts.result c.all_roomy-roomy.result c.line_cost-miss.result c.roomy_count-held.result
    (nat_eq c.roomy_count-held.result (length c.args.lines.now))
    c.requires.plant c.counts_of-counts.ensures c.all_roomy-roomy.ensures c.line_cost-miss.ensures.cost c.roomy_count-held.ensures c.requires.short refl
