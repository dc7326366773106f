use Rattle.std.proofs.Common.{sym, subst}
use Rattle.prem_cycle.specs.FactsOf.{report_in}
use Rattle.prem_chart.specs.Xml.{IsWellFormed}
use Rattle.prem_chart.proofs.Pictures.{chart_is_well_formed}
use Rattle.prem_chart.proofs.picture.chart.Goals as goal

pub returns-clause-well_formed : goal.returns-clause-well_formed
returns-clause-well_formed c =
    subst IsWellFormed (sym c.in_ok-text.ensures)
    (chart_is_well_formed c.args.view c.args.set.now c.args.tasks.now c.args.devices.now (report_in c.args.facts.now) c.args.cycles c.args.stop c.args.notes.now c.args.requests.now
    c.args.promises.now)
