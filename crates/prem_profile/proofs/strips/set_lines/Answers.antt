use Rattle.std.proofs.Common.{ap}
use Rattle.prem_plant.specs.declared.plant.Plant.{Plant}
use Rattle.prem_tasks.specs.SetOf.{set_of}
use Rattle.prem_profile.proofs.Tabled.{counted, lines_are}
use Rattle.prem_profile.proofs.strips.set_lines.Goals as goal

pub tables_of-requires : goal.tables_of-requires
tables_of-requires c =
    counted (set_of c.args.set.now) c.tasks.result.now c.in_ok-coded.coded.items c.deref-2.result.now c.tasks.ensures.tasks c.deref-2.ensures.value c.in_ok-coded.ensures

pub returns : goal.returns
returns c =
    lines_are (set_of c.args.set.now) c.plant.result.now.target c.tasks.result.now c.in_ok-coded.coded.items c.deref-2.result.now _ (ap (λ (p : Plant). p.target) c.plant.ensures.plant) c.tasks.ensures.tasks
    c.deref-2.ensures.value c.in_ok-coded.ensures c.in_ok-lines.ensures
