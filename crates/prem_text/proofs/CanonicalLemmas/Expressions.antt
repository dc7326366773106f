-- An expression has a phrase whose tokens are its canonical ones.
use Rattle.std.proofs.Common.{◌≡◌, ◌≤◌, ◌+◌, ℕ, Bool, true, false, List, [], ◌∷◌, ◌++◌, Some, refl, ap, arith, nat_lt}
use Rattle.prem_text.proofs.Prelude.{Expression, literal, variable, element, unary, binary, Place, UnOp, Neg, infix_sign, prefix_sign, enclosed, expression_lexemes, unplaced_expression}
use Rattle.prem_text.proofs.Prelude.{infix_of, prefix_of, level_of, Phrase, of_literal, of_name, of_element, of_bracket, of_prefix, of_infix, spelled, tree, level, Binds, nowhere, place_at}
use Rattle.prem_text.proofs.Prelude.{Lexeme, name, mark, Seen, BinOp, Add, nat_tests}
use Rattle.prem_text.proofs.CanonicalLemmas.Parts.{Are, none, next, cut, glue, single}
use Rattle.prem_text.proofs.GrammarLemmas.Steps.{level_small}
use Rattle.prem_text.specs.declared.lexing.token.token.Mark.TheVariants as m

infix_back : (op : BinOp) → infix_of (infix_sign op) ≡ Some op
infix_back Add = refl
infix_back _ = refl

prefix_back : (op : UnOp) → prefix_of (prefix_sign op) ≡ Some op
prefix_back Neg = refl
prefix_back _ = refl

-- a phrase of a level or tighter with these tokens, and with the tree of an expression, places aside
pub record Spelling (least : ℕ) (e : Expression) (ts : List Seen) : Type 0 where
  pub phrase : Phrase
  pub tight : least ≤ level phrase
  pub binds : Binds phrase
  pub tokens : spelled phrase ≡ ts
  pub same : unplaced_expression (tree phrase) ≡ unplaced_expression e

-- in parentheses where the phrase is looser than the level
enclose : (b : Bool) (least k : ℕ) (e : Expression) (xs : List Lexeme) (ts : List Seen) → nat_lt k least ≡ b → least ≤ 11 → Are (enclosed b xs) ts →
    ((us : List Seen) → Are xs us → Spelling k e us) → Spelling least e ts
enclose false least k e xs ts is le are inner =
    let s = inner ts are in
    let tight : least ≤ k = grind (arith, nat_tests) in
    record { phrase = s.phrase; tight = omega (arith, s.tight, tight); binds = s.binds; tokens = s.tokens; same = s.same }
enclose true least k e xs _ is le (next _ a _ us are) inner =
    let c = cut xs (mark m.CloseParenthesis ∷ []) us are in
    let s = inner c.front c.before in
    record {
      phrase = of_bracket a s.phrase (place_at 0 c.back);
      tight = omega arith;
      binds = s.binds;
      tokens = ap (λ (u : List Seen). (mark m.OpenParenthesis, a) ∷ u) (glue c s.tokens (single (mark m.CloseParenthesis) c.back c.behind));
      same = s.same;
    }

infix_spelling : (at : Place) (op : BinOp) (left right : Expression) (xs ys : List Lexeme) (ts : List Seen) → Are (xs ++ mark (infix_sign op) ∷ ys) ts →
    ((us : List Seen) → Are xs us → Spelling (level_of op) left us) → ((us : List Seen) → Are ys us → Spelling (level_of op + 1) right us) →
    Spelling (level_of op) (binary at op left right) ts
infix_spelling at op left right xs ys ts are on_left on_right =
    let c = cut xs (mark (infix_sign op) ∷ ys) ts are in
    let d = cut (mark (infix_sign op) ∷ []) ys c.back c.behind in
    let p = on_left c.front c.before in
    let q = on_right d.back d.behind in
    record {
      phrase = of_infix p.phrase (place_at 0 d.front) (infix_sign op) op q.phrase;
      tight = omega arith;
      binds = (infix_back op, p.tight, omega (arith, q.tight), p.binds, q.binds);
      tokens = glue c p.tokens (glue d (single (mark (infix_sign op)) d.front d.before) q.tokens);
      same = λ i. binary nowhere op (p.same i) (q.same i);
    }

pub expression_spelling : (least : ℕ) (e : Expression) (ts : List Seen) → least ≤ 11 → Are (expression_lexemes least e) ts → Spelling least e ts
expression_spelling least (literal at value kind) _ le (next _ a _ _ none) =
    record { phrase = of_literal a value kind; tight = omega arith; binds = tt; tokens = refl; same = refl }
expression_spelling least (variable at x) _ le (next _ a _ _ none) =
    record { phrase = of_name a x; tight = omega arith; binds = tt; tokens = refl; same = refl }
expression_spelling least (element at x index) _ le (next _ a _ _ (next _ b _ us are)) =
    let c = cut (expression_lexemes 1 index) (mark m.CloseBracket ∷ []) us are in
    let s = expression_spelling 1 index c.front (omega arith) c.before in
    record {
      phrase = of_element a x b s.phrase (place_at 0 c.back);
      tight = omega arith;
      binds = s.binds;
      tokens = ap (λ (u : List Seen). (name x, a) ∷ (mark m.OpenBracket, b) ∷ u) (glue c s.tokens (single (mark m.CloseBracket) c.back c.behind));
      same = ap (element nowhere x) s.same;
    }
expression_spelling least (unary at op operand) _ le (next _ a _ us are) =
    let s = expression_spelling 11 operand us (omega arith) are in
    record {
      phrase = of_prefix a (prefix_sign op) op s.phrase;
      tight = le;
      binds = (prefix_back op, s.tight, s.binds);
      tokens = ap (λ (u : List Seen). (mark (prefix_sign op), a) ∷ u) s.tokens;
      same = ap (unary nowhere op) s.same;
    }
expression_spelling least (binary at op left right) ts le are =
    enclose (nat_lt (level_of op) least) least (level_of op) (binary at op left right) _ ts refl le are
    (λ us inner. infix_spelling at op left right _ _ us inner
    (λ vs some. expression_spelling (level_of op) left vs (omega (arith, level_small op)) some)
    (λ vs some. expression_spelling (level_of op + 1) right vs (omega (arith, level_small op)) some))
