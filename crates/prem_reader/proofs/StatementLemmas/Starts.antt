-- Where the first argument of a call begins, and where another one does.
use Rattle.std.proofs.Common.{◌≡◌, ◌<◌, List, [], ◌∷◌, length, map, Option, refl, arith}
use Rattle.prem_syntax.specs.declared.tree.Place.{Place}
use Rattle.prem_syntax.specs.declared.tree.Expr.{Expr}
use Rattle.prem_syntax.specs.Syntax.{Text}
use Rattle.prem_syntax.specs.SyntaxOf.{expression_of}
use Rattle.prem_text.specs.Lexing.Token.Lexeme.{Seen}
use Rattle.prem_text.specs.Grammar.Statement.{Around, for_argument, wrong, at_start}

pub no_argument : (xs : List Expr) → length xs ≡ 0 → map expression_of xs ≡ []
no_argument [] none = refl
no_argument (x ∷ xs) none = absurd (omega arith)

pub another_argument : (at : Place) (target : Option Text) (callee : Text) (xs : List Expr) (around : Around) (t : Seen) → 0 < length xs →
    at_start (for_argument at target callee (map expression_of xs)) around t ≡ wrong
another_argument at target callee [] around t some = absurd (omega arith)
another_argument at target callee (x ∷ xs) around t some = refl
