-- What a name holds.
use Rattle.std.specs.Prelude.{ℕ, List}
use Rattle.prem_syntax.specs.declared.name.Name.{Name}

-- the bytes of a name
abbrev pub name_bytes : Name → List ℕ
name_bytes n = n.text.items
