use Rattle.std.proofs.Common.{ap, ◌∙◌, arith, length}
use Rattle.prem_place.proofs.PlacingLemmas.Placing.{parts_counted}
use Rattle.prem_place.proofs.placing.place.part_count.Goals as goal

pub returns-clause-count : goal.returns-clause-count
returns-clause-count c =
    parts_counted c.args.t.now (length c.items.result.now) (length c.items-2.result.now) c.len.result c.requires (ap length c.items.ensures)
    (ap length c.items-2.ensures) (c.len.ensures ∙ c.args.t.now.program.globals.ok.0)

pub returns-clause-few : goal.returns-clause-few
returns-clause-few c =
    let is = parts_counted c.args.t.now (length c.items.result.now) (length c.items-2.result.now) c.len.result c.requires (ap length c.items.ensures)
    (ap length c.items-2.ensures) (c.len.ensures ∙ c.args.t.now.program.globals.ok.0) in
    let few = c.requires.few in
    omega (arith, is, few)
