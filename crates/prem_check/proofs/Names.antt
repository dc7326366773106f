-- Views of parts that stay.
use Rattle.std.specs.Option.{option_map}
use Rattle.std.proofs.Common.{◌≡◌, List, length, map, Option, None, Some, is_some, refl}
use Rattle.std.proofs.lemmas.List.{length-map}
use Rattle.prem_syntax.specs.declared.name.Name.{Name}
use Rattle.prem_syntax.specs.declared.tree.Expr.{Expr}
use Rattle.prem_syntax.specs.Name.{name_bytes}
use Rattle.prem_syntax.specs.SyntaxOf.{expression_of}

pub target_is_some : (t : Option Name) → is_some (option_map name_bytes t) ≡ is_some t
target_is_some None = refl
target_is_some (Some n) = refl

pub as_many : (es : List Expr) → length (map expression_of es) ≡ length es
as_many es = length-map es expression_of
