-- The kinds of what operators give.
use Rattle.std.proofs.Common.{◌≡◌, refl}
use Rattle.prem_word.specs.declared.kind.Kind.{Kind}
use Rattle.prem_word.specs.declared.kind.BinOp.{BinOp}
use Rattle.prem_word.specs.declared.kind.BinOp.TheVariants.{AndAlso as AndAlsoOp, OrElse as OrElseOp}
use Rattle.prem_word.specs.Words.{result_kind}
use Rattle.prem_syntax.specs.declared.tree.Place.{Place}
use Rattle.prem_syntax.specs.Resolved.{Term, operator}
use Rattle.prem_syntax.specs.Resolve.{kind_of}

pub kind_of_operator : (at : Place) (op : BinOp) (k : Kind) (left right : Term) → kind_of (operator at op k left right) ≡ result_kind op k
kind_of_operator at AndAlsoOp k left right = refl
kind_of_operator at OrElseOp k left right = refl
kind_of_operator at _ k left right = refl
