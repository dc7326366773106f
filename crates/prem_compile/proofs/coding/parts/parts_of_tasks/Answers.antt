use Rattle.prem_tasks.specs.SetOf.{set_of}
use Rattle.prem_compile.proofs.CodingLemmas.SizedAre.{may_have_parts, parts_told}
use Rattle.prem_compile.proofs.coding.parts.parts_of_tasks.Goals as goal

pub set_parts-requires-clause-tasks : goal.set_parts-requires-clause-tasks
set_parts-requires-clause-tasks c = may_have_parts (set_of c.args.set.now) c.args.tasks.now c.requires

pub returns-clause-parts : goal.returns-clause-parts
returns-clause-parts c =
    parts_told (set_of c.args.set.now) c.args.tasks.now c.requires c.plant.result.now c.devices.result.now
    c.set_parts.result c.plant.ensures.plant c.devices.ensures.devices c.set_parts.ensures.parts
