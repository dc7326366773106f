use Rattle.std.proofs.Common.{map}
use Rattle.prem_list.specs.Sequence.{items_of}
use Rattle.prem_syntax.specs.Name.{name_bytes}
use Rattle.prem_tasks.specs.SetOf.{set_of}
use Rattle.prem_compile.proofs.Pushing.{coded_names, coded_there, names_told}
use Rattle.prem_compile.proofs.telling.names.named_parts.Goals as goal

pub names_by-requires-clause-tasks : goal.names_by-requires-clause-tasks
names_by-requires-clause-tasks c =
    coded_names (set_of c.args.set.now) c.args.tasks.now c.requires.code c.tasks-stated.result.now c.tasks-stated.ensures.ranges c.tasks-stated.ensures.tasks

pub names_by-requires-clause-parts : goal.names_by-requires-clause-parts
names_by-requires-clause-parts c =
    coded_there (set_of c.args.set.now) c.args.tasks.now c.requires.code c.devices-devices.result.now c.args.sizes.items c.deref.result.now
    c.devices-devices.ensures.devices c.requires.sizes c.deref.ensures.value

pub returns : goal.returns
returns c = record {
  sizes = c.requires.sizes;
  names =
      names_told (set_of c.args.set.now) c.args.tasks.now c.requires.code c.devices-devices.result.now c.args.sizes.items c.deref.result.now
      (map name_bytes (items_of c.in_ok-names.names)) c.devices-devices.ensures.devices c.requires.sizes c.deref.ensures.value c.in_ok-names.ensures;
}
