-- Names that are taken.
use Rattle.std.specs.Prelude.{List, ◌++◌}
use Rattle.prem_syntax.specs.Syntax.{Text}
use Rattle.prem_syntax.specs.Resolve.{Scope}
use Rattle.prem_names.specs.Scopes.{local_texts}

-- the names of items, then those of parameters and locals
abbrev pub taken_of : List Text → Scope → List Text
taken_of items scope = items ++ local_texts scope
