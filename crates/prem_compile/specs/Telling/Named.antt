-- The names of the parts of a set.
use Rattle.std.specs.Prelude.{◌≡◌, map}
use Rattle.prem_list.specs.Sequence.{items_of}
use Rattle.prem_syntax.specs.Name.{name_bytes}
use Rattle.prem_tasks.specs.Broken.{TaskSet}
use Rattle.prem_tasks.specs.Compiled.{coded_in, parts_in, part_name}
use Rattle.prem_compile.specs.declared.telling.names.NamedParts.{NamedParts}

-- they are the set's, and are named as they are meant
pub record AreNamed (set : TaskSet) (parts : NamedParts) : Type 0 where
  pub sizes : parts.sizes.items ≡ parts_in set
  pub names : map name_bytes (items_of parts.names) ≡ map (part_name set.devices (coded_in set)) (parts_in set)
