-- The canonical tokens of an expression have the fewest parentheses.
use Rattle.std.proofs.Common.{◌≡◌, ◌≤◌, ◌+◌, ℕ, nat_lt, Bool, true, false, List, [], ◌∷◌, ◌++◌, Some, refl, ap, sym, subst, ◌∙◌, arith, map}
use Rattle.prem_text.proofs.Prelude.{Expression, literal, variable, element, unary, binary, UnOp, Neg, Flip, Not, infix_sign, prefix_sign, enclosed, expression_lexemes, lexemes_of}
use Rattle.prem_text.proofs.Prelude.{parentheses, HasFewest, unplaced_expression, infix_of, prefix_of, level_of, Phrase, of_literal, of_name, of_element, of_bracket, of_prefix, of_infix}
use Rattle.prem_text.proofs.Prelude.{spelled, tree, level, Binds, IsExpression, nowhere, Lexeme, name, mark, Seen, Mark, BinOp, Add, Sub, Mul, Div, Rem, Shl, Shr, Lt, Le, Gt, Ge, Eq, Ne}
use Rattle.prem_text.proofs.Prelude.{And, Xor, Or, AndAlso, OrElse, nat_tests}
use Rattle.prem_text.proofs.CanonicalLemmas.Aside.{expression_aside}
use Rattle.prem_text.proofs.CanonicalLemmas.Expressions.{expression_spelling}
use Rattle.prem_text.proofs.CanonicalLemmas.Parts.{Are, none, next}
use Rattle.prem_text.proofs.GrammarLemmas.Steps.{level_some}
use Rattle.prem_text.specs.declared.lexing.token.token.Mark.TheVariants as m

-- ---- lists

counted : (xs ys : List Lexeme) → parentheses (xs ++ ys) ≡ parentheses xs + parentheses ys
counted [] ys = omega arith
counted (x ∷ xs) ys = let e = counted xs ys in omega (arith, e)

lexemes_append : (ts us : List Seen) → lexemes_of (ts ++ us) ≡ lexemes_of ts ++ lexemes_of us
lexemes_append [] us = refl
lexemes_append (t ∷ ts) us = ap (λ (xs : List Lexeme). t.0 ∷ xs) (lexemes_append ts us)

-- ---- signs

op_by : (a op : BinOp) → Some a ≡ Some op → infix_sign a ≡ infix_sign op
op_by a op is = let same : a ≡ op = cc in ap infix_sign same

infix_is : (s : Mark) (op : BinOp) → infix_of s ≡ Some op → s ≡ infix_sign op
infix_is m.OrOr op is = op_by OrElse op is
infix_is m.AndAnd op is = op_by AndAlso op is
infix_is m.Or op is = op_by Or op is
infix_is m.Caret op is = op_by Xor op is
infix_is m.And op is = op_by And op is
infix_is m.EqualEqual op is = op_by Eq op is
infix_is m.NotEqual op is = op_by Ne op is
infix_is m.Less op is = op_by Lt op is
infix_is m.LessEqual op is = op_by Le op is
infix_is m.Greater op is = op_by Gt op is
infix_is m.GreaterEqual op is = op_by Ge op is
infix_is m.ShiftLeft op is = op_by Shl op is
infix_is m.ShiftRight op is = op_by Shr op is
infix_is m.Plus op is = op_by Add op is
infix_is m.Minus op is = op_by Sub op is
infix_is m.Star op is = op_by Mul op is
infix_is m.Slash op is = op_by Div op is
infix_is m.Percent op is = op_by Rem op is
infix_is _ op is = absurd cc

sign_by : (a op : UnOp) → Some a ≡ Some op → prefix_sign a ≡ prefix_sign op
sign_by a op is = let same : a ≡ op = cc in ap prefix_sign same

prefix_is : (s : Mark) (op : UnOp) → prefix_of s ≡ Some op → s ≡ prefix_sign op
prefix_is m.Minus op is = sign_by Neg op is
prefix_is m.Tilde op is = sign_by Flip op is
prefix_is m.Bang op is = sign_by Not op is
prefix_is _ op is = absurd cc

-- ---- parentheses

-- an expression where a tighter one is wanted is as it is, or in parentheses
data Wanted (xs : List Lexeme) : List Lexeme → Type 0 where
  as_it_is : Wanted xs xs
  in_parentheses : Wanted xs (mark m.OpenParenthesis ∷ xs ++ mark m.CloseParenthesis ∷ [])

by_test : (b : Bool) (xs : List Lexeme) → Wanted xs (enclosed b xs)
by_test false xs = as_it_is
by_test true xs = in_parentheses

none_looser : (op : BinOp) → nat_lt (level_of op) 1 ≡ false
none_looser Add = refl
none_looser _ = refl

wanted : (least : ℕ) (e : Expression) → Wanted (expression_lexemes 1 e) (expression_lexemes least e)
wanted least (literal at value kind) = as_it_is
wanted least (variable at x) = as_it_is
wanted least (element at x index) = as_it_is
wanted least (unary at op operand) = as_it_is
wanted least (binary at op left right) =
    let xs = expression_lexemes (level_of op) left ++ mark (infix_sign op) ∷ expression_lexemes (level_of op + 1) right in
    subst (λ (b : Bool). Wanted (enclosed b xs) (enclosed (nat_lt (level_of op) least) xs)) (sym (none_looser op)) (by_test (nat_lt (level_of op) least) xs)

-- ---- phrases

-- a phrase's tokens have no fewer parentheses than others, and are these where they have as few
record Few (xs ys : List Lexeme) : Type 0 where
  few : parentheses xs ≤ parentheses ys
  alone : parentheses ys ≤ parentheses xs → ys ≡ xs

-- both before a token
followed : (c : Lexeme) (xs ys : List Lexeme) → Few xs ys → Few (xs ++ c ∷ []) (ys ++ c ∷ [])
followed c xs ys f =
    let a = counted xs (c ∷ []) in
    let b = counted ys (c ∷ []) in
    record {
      few = let le = f.few in omega (arith, a, b, le);
      alone = λ le. let less : parentheses ys ≤ parentheses xs = omega (arith, a, b, le) in ap (λ (u : List Lexeme). u ++ c ∷ []) (f.alone less);
    }

-- both behind tokens
behind : (x : Lexeme) (xs ys : List Lexeme) → Few xs ys → Few (x ∷ xs) (x ∷ ys)
behind x xs ys f = record {
  few = let le = f.few in omega (arith, le);
  alone = λ le. let less : parentheses ys ≤ parentheses xs = omega (arith, le) in ap (λ (u : List Lexeme). x ∷ u) (f.alone less);
}

-- a phrase in parentheses, where the expression wants them and where not
bracketed : (xs zs ys : List Lexeme) → Wanted xs zs → Few xs ys → Few zs (mark m.OpenParenthesis ∷ ys ++ mark m.CloseParenthesis ∷ [])
bracketed xs _ ys as_it_is f =
    let a = counted ys (mark m.CloseParenthesis ∷ []) in
    let le = f.few in
    record {
      few = omega (arith, a, le);
      alone = λ more. let no : ⊥ = omega (arith, a, le, more) in absurd no;
    }
bracketed xs _ ys in_parentheses f =
    behind (mark m.OpenParenthesis) (xs ++ mark m.CloseParenthesis ∷ []) (ys ++ mark m.CloseParenthesis ∷ []) (followed (mark m.CloseParenthesis) xs ys f)

-- two phrases around a sign
around : (x : Lexeme) (ls us rs vs : List Lexeme) → Few ls us → Few rs vs → Few (ls ++ x ∷ rs) (us ++ x ∷ vs)
around x ls us rs vs f g =
    let a = counted ls (x ∷ rs) in
    let b = counted us (x ∷ vs) in
    let le = f.few in
    let also = g.few in
    record {
      few = omega (arith, a, b, le, also);
      alone = λ more.
          let left : parentheses us ≤ parentheses ls = omega (arith, a, b, le, also, more) in
          let right : parentheses vs ≤ parentheses rs = omega (arith, a, b, le, also, more) in
          λ i. f.alone left i ++ x ∷ g.alone right i;
    }

level_positive : (p : Phrase) → 1 ≤ level p
level_positive (of_literal at value kind) = omega arith
level_positive (of_name at x) = omega arith
level_positive (of_element at x a index b) = omega arith
level_positive (of_bracket a inner b) = omega arith
level_positive (of_prefix at sign op operand) = omega arith
level_positive (of_infix left at sign op right) = let some = level_some op in omega (arith, some)

few_of : (least : ℕ) (p : Phrase) → least ≤ level p → Binds p → Few (expression_lexemes least (tree p)) (lexemes_of (spelled p))
few_of least (of_literal at value kind) le binds = record { few = omega arith; alone = λ _. refl }
few_of least (of_name at x) le binds = record { few = omega arith; alone = λ _. refl }
few_of least (of_element at x a index b) le binds =
    let f = followed (mark m.CloseBracket) _ _ (few_of 1 index (level_positive index) binds) in
    let xs = expression_lexemes 1 (tree index) ++ mark m.CloseBracket ∷ [] in
    let g = subst (λ (u : List Lexeme). Few xs u) (sym (lexemes_append (spelled index) ((mark m.CloseBracket, b) ∷ []))) f in
    behind (name x) _ _ (behind (mark m.OpenBracket) _ _ g)
few_of least (of_bracket a inner b) le binds =
    let f = bracketed (expression_lexemes 1 (tree inner)) (expression_lexemes least (tree inner)) _ (wanted least (tree inner)) (few_of 1 inner (level_positive inner) binds) in
    subst (λ (u : List Lexeme). Few (expression_lexemes least (tree inner)) (mark m.OpenParenthesis ∷ u))
    (sym (lexemes_append (spelled inner) ((mark m.CloseParenthesis, b) ∷ []))) f
few_of least (of_prefix at sign op operand) le binds =
    let xs = expression_lexemes 11 (tree operand) in
    let f = behind (mark (prefix_sign op)) _ _ (few_of 11 operand binds.1 binds.2) in
    subst (λ (s : Mark). Few (mark (prefix_sign op) ∷ xs) (mark s ∷ lexemes_of (spelled operand))) (sym (prefix_is sign op binds.0)) f
few_of least (of_infix left at sign op right) le binds =
    let above : level_of op + 1 ≤ level right = let b = binds.2 in omega (arith, b) in
    let xs = expression_lexemes (level_of op) (tree left) in
    let ys = expression_lexemes (level_of op + 1) (tree right) in
    let f = around (mark (infix_sign op)) xs (lexemes_of (spelled left)) ys (lexemes_of (spelled right)) (few_of (level_of op) left binds.1 binds.3) (few_of (level_of op + 1) right above binds.4) in
    let whole : Few (xs ++ mark (infix_sign op) ∷ ys) (lexemes_of (spelled left ++ (mark sign, at) ∷ spelled right)) =
    subst (λ (u : List Lexeme). Few (xs ++ mark (infix_sign op) ∷ ys) u) (sym (lexemes_append (spelled left) ((mark sign, at) ∷ spelled right)))
    (subst (λ (s : Mark). Few (xs ++ mark (infix_sign op) ∷ ys) (lexemes_of (spelled left) ++ mark s ∷ lexemes_of (spelled right))) (sym (infix_is sign op binds.0)) f) in
    let test : nat_lt (level_of op) least ≡ false = grind (arith, nat_tests) in
    subst (λ (b : Bool). Few (enclosed b (xs ++ mark (infix_sign op) ∷ ys)) (lexemes_of (spelled left ++ (mark sign, at) ∷ spelled right))) (sym test) whole

-- ---- expressions

at_nowhere : (xs : List Lexeme) → Are xs (map (λ (x : Lexeme). (x, nowhere)) xs)
at_nowhere [] = none
at_nowhere (x ∷ xs) = next x nowhere xs _ (at_nowhere xs)

back_again : (xs : List Lexeme) → lexemes_of (map (λ (x : Lexeme). (x, nowhere)) xs) ≡ xs
back_again [] = refl
back_again (x ∷ xs) = ap (λ (u : List Lexeme). x ∷ u) (back_again xs)

of_tree : (least : ℕ) (e : Expression) (p : Phrase) → IsExpression least p → unplaced_expression (tree p) ≡ unplaced_expression e → Few (expression_lexemes least e) (lexemes_of (spelled p))
of_tree least e p is same =
    let tokens = sym (expression_aside (tree p) least) ∙ ap (expression_lexemes least) same ∙ expression_aside e least in
    subst (λ (xs : List Lexeme). Few xs (lexemes_of (spelled p))) tokens (few_of least p is.0 is.1)

pub fewest_parentheses : (least : ℕ) (e : Expression) → least ≤ 11 → HasFewest least e (expression_lexemes least e)
fewest_parentheses least e le =
    let xs = expression_lexemes least e in
    let s = expression_spelling least e _ le (at_nowhere xs) in
    record {
      phrase = s.phrase;
      right = (s.tight, s.binds);
      tokens = ap lexemes_of s.tokens ∙ back_again xs;
      same = s.same;
      fewest = λ p is same. (of_tree least e p is same).few;
      alone = λ p is same. (of_tree least e p is same).alone;
    }
