-- Names that are looked for.
use Rattle.std.specs.Prelude.{if◌then◌else◌, List, Option, None, Some}
use Rattle.prem_tiling.specs.Prelude.{has_name, Text}

-- a name, where it is among others
abbrev pub found_in : List Text → Text → Option Text
found_in names name = if has_name names name then Some name else None
