use Rattle.std.proofs.Common.{◌≡◌, ◌++◌, map, drop}
use Rattle.prem_list.specs.Sequence.{items_of}
use Rattle.prem_syntax.specs.Name.{name_bytes}
use Rattle.prem_tasks.specs.Compiled.{part_name}
use Rattle.prem_prefetch.specs.Sizes.CodedOf.{coded_in}
use Rattle.prem_compile.proofs.telling.names.names_by.Given as goal

abbrev pub invariant-loop-part : goal.invariant-loop-part
invariant-loop-part l =
    map name_bytes (items_of l.names) ++ map (part_name l.devices (map coded_in l.tasks)) (drop l.part-index l.parts)
    ≡ map (part_name l.devices (map coded_in l.tasks)) l.parts
