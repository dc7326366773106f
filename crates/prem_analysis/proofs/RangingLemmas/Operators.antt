-- The first breach of an operator is that of its parts.
use Rattle.std.proofs.Common.{◌≡◌, Bool, true, false, ◌++◌, refl, ap, ◌∙◌, None, Some}
use Rattle.prem_analysis.proofs.Prelude.{first_of_append, Environment, Site, in_divisor, in_term, range_of, refined, first, first_of, Term, operator, Place, truths, converted, range_of_op}
use Rattle.prem_analysis.proofs.Prelude.{BinOp, Kind}
use Rattle.prem_analysis.specs.Ranging.Shortcut.{shortcut_of}
use Rattle.prem_word.specs.declared.kind.BinOp.TheVariants.{AndAlso as AndAlsoOp, OrElse as OrElseOp}

pub first_of_some : (site : Site) (env : Environment) (at : Place) (op : BinOp) (k : Kind) (l r : Term) (b : Bool) → shortcut_of op ≡ Some b →
    first_of (in_term site env (operator at op k l r)) ≡ first (first_of (in_term site env l)) (first_of (in_term site (refined b env l) r))
first_of_some site env at AndAlsoOp k l r true is = first_of_append (in_term site env l) (in_term site (refined true env l) r)
first_of_some site env at OrElseOp k l r false is = first_of_append (in_term site env l) (in_term site (refined false env l) r)
first_of_some site env at AndAlsoOp k l r false is = cc
first_of_some site env at OrElseOp k l r true is = cc
first_of_some site env at op k l r b is = cc

pub first_of_none : (site : Site) (env : Environment) (at : Place) (op : BinOp) (k : Kind) (l r : Term) → shortcut_of op ≡ None →
    first_of (in_term site env (operator at op k l r)) ≡ first (first (first_of (in_term site env l)) (first_of (in_divisor at op (converted k (range_of env r))))) (first_of (in_term site env r))
first_of_none site env at AndAlsoOp k l r is = cc
first_of_none site env at OrElseOp k l r is = cc
first_of_none site env at op k l r is =
    let divisor = in_divisor at op (converted k (range_of env r)) in
    first_of_append (in_term site env l ++ divisor) (in_term site env r) ∙ ap (λ x. first x (first_of (in_term site env r))) (first_of_append (in_term site env l) divisor)

-- the range of an operator
pub range_of_some : (env : Environment) (at : Place) (op : BinOp) (k : Kind) (l r : Term) (b : Bool) → shortcut_of op ≡ Some b → range_of env (operator at op k l r) ≡ truths
range_of_some env at AndAlsoOp k l r b is = refl
range_of_some env at OrElseOp k l r b is = refl
range_of_some env at op k l r b is = cc

pub range_of_operator : (env : Environment) (at : Place) (op : BinOp) (k : Kind) (l r : Term) → shortcut_of op ≡ None →
    range_of env (operator at op k l r) ≡ range_of_op op k (converted k (range_of env l)) (converted k (range_of env r))
range_of_operator env at AndAlsoOp k l r is = cc
range_of_operator env at OrElseOp k l r is = cc
range_of_operator env at op k l r is = refl
