-- The names of parts, one after another.
use Rattle.std.specs.Prelude.{List, [], ◌∷◌}
use Rattle.prem_syntax.specs.Syntax.{Text}

abbrev pub first_name : List Text → Text
first_name [] = []
first_name (name ∷ names) = name

abbrev pub rest_names : List Text → List Text
rest_names [] = []
rest_names (name ∷ names) = names
