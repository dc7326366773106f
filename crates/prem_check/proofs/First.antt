-- The first breach of parts is the first of the whole.
use Rattle.std.proofs.Common.{◌≡◌, List, ◌++◌, Option, None}
use Rattle.prem_syntax.specs.Rules.{Breach, standing, first, first_of}
use Rattle.prem_syntax.proofs.Order.{first_by_none, first_by_assoc, first_of_by_append}

pub first_none : (a : Option Breach) → first a None ≡ a
first_none a = first_by_none standing a

pub first_assoc : (a b c : Option Breach) → first (first a b) c ≡ first a (first b c)
first_assoc a b c = first_by_assoc standing a b c

-- the first of two lists, one behind the other
pub first_of_append : (xs ys : List Breach) → first_of (xs ++ ys) ≡ first (first_of xs) (first_of ys)
first_of_append xs ys = first_of_by_append standing xs ys
