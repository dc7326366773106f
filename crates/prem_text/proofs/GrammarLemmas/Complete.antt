-- What the grammar spells is read.
use Rattle.std.proofs.Common.{◌≡◌, ◌≤◌, ℕ, List, Option, None, Some, true, false, refl, ap, ◌∙◌, arith, nat_le, nat_lt}
use Rattle.prem_text.proofs.Prelude.{Text, Expression, literal, variable, element, unary, binary, Place, UnOp, infix_of, level_of, Open, bottom, under, right_of, bracket, index_of, bind}
use Rattle.prem_text.proofs.Prelude.{State, wants, named, has, goes, operand, operator, closing, behind, move, Phrase, of_literal, of_name, of_element, of_bracket, of_prefix, of_infix}
use Rattle.prem_text.proofs.Prelude.{spelled, tree, level, Binds, Lexeme, name, number, word, mark, end_of_text, Seen, Mark, BinOp, nat_tests}
use Rattle.prem_text.proofs.GrammarLemmas.Steps.{Goes, done, more, goes_append, Loose, AtMost, Waits, Same, level_small, waits_more, waits_sign, prefix_moves, bind_stays}
use Rattle.prem_text.specs.declared.lexing.token.token.Mark.TheVariants as m

loose_more : (least k l : ℕ) (around : Open) → k ≤ l → Loose least k around → Loose least l around
loose_more least k l bottom le loose = omega arith
loose_more least k l (under at op around) le loose = omega arith
loose_more least k l (right_of left at op around) le loose = omega arith
loose_more least k l (bracket around) le loose = tt
loose_more least k l (index_of at text around) le loose = tt

operator_goes : (least : ℕ) (op : BinOp) (at : Place) (e : Expression) (around : Open) → Loose least (level_of op) around → operator least op at (e, around) ≡ goes (wants (right_of e at op around))
operator_goes least op at e bottom loose = let not_under : nat_lt (level_of op) least ≡ false = grind (arith, nat_tests) in rw not_under refl
operator_goes least op at e (under _ _ _) loose = refl
operator_goes least op at e (right_of _ _ _ _) loose = refl
operator_goes least op at e (bracket _) loose = refl
operator_goes least op at e (index_of _ _ _) loose = refl

infix_moves : (least : ℕ) (around : Open) (sign : Mark) (op : BinOp) (at : Place) (e : Expression) → infix_of sign ≡ Some op → Loose least (level_of op) around →
    move least (has e around) (mark sign, at) ≡ goes (wants (right_of e at op around))
infix_moves least around sign op at e is loose =
    let stays = bind_stays least (level_of op) e around loose (level_small op) in
    rw (is, behind, stays) (operator_goes least op at e around loose)

named_same : (least k : ℕ) (at : Place) (text : Text) (around : Open) → Same least k (named at text around) (has (variable at text) around)
named_same least k at text around (mark m.OpenBracket) b w = let e : true ≡ false = w.0 in absurd cc
named_same least k at text around (mark _) b w = refl
named_same least k at text around _ b w = refl

under_same : (least : ℕ) (e : Expression) (at : Place) (op : UnOp) (around : Open) (t : Lexeme) (b : Place) → behind least e (under at op around) t b ≡ behind least (unary at op e) around t b
under_same least e at op around (mark x) b = refl
under_same least e at op around _ b = refl

zero_binds : (e left : Expression) (at : Place) (op : BinOp) (around : Open) → bind 0 e (right_of left at op around) ≡ bind 0 (binary at op left e) around
zero_binds e left at op around = let binds : nat_le 0 (level_of op) ≡ true = grind (arith, nat_tests) in rw binds refl

right_same_at : (least : ℕ) (e left : Expression) (at : Place) (op : BinOp) (around : Open) (o : Option BinOp) (x : Mark) (b : Place) → infix_of x ≡ o → AtMost o (level_of op) →
    behind least e (right_of left at op around) (mark x) b ≡ behind least (binary at op left e) around (mark x) b
right_same_at least e left at op around None x b is w = rw (is, behind) (ap (λ (c : Expression × Open). closing c (mark x)) (zero_binds e left at op around))
right_same_at least e left at op around (Some other) x b is w =
    let binds : nat_le (level_of other) (level_of op) ≡ true = grind (arith, nat_tests) in
    rw (is, behind, binds) refl

right_same : (least : ℕ) (e left : Expression) (at : Place) (op : BinOp) (around : Open) (t : Lexeme) (b : Place) → Waits (level_of op) t →
    behind least e (right_of left at op around) t b ≡ behind least (binary at op left e) around t b
right_same least e left at op around (mark x) b w = right_same_at least e left at op around (infix_of x) x b refl w.1
right_same least e left at op around (name text) b w = ap (λ (c : Expression × Open). closing c (name text)) (zero_binds e left at op around)
right_same least e left at op around (number v k) b w = ap (λ (c : Expression × Open). closing c (number v k)) (zero_binds e left at op around)
right_same least e left at op around (word x) b w = ap (λ (c : Expression × Open). closing c (word x)) (zero_binds e left at op around)
right_same least e left at op around end_of_text b w = ap (λ (c : Expression × Open). closing c end_of_text) (zero_binds e left at op around)

-- a state reads tokens, and then moves as another one
pub record Read (least k : ℕ) (s : State) (ts : List Seen) (to : State) : Type 0 where
  pub end : State
  pub goes : Goes least s ts end
  pub same : Same least k end to

pub reads_phrase : (least : ℕ) (p : Phrase) (around : Open) → Binds p → Loose least (level p) around → Read least (level p) (wants around) (spelled p) (has (tree p) around)
reads_phrase least (of_literal at value kind) around binds loose = record {
  end = has (literal at value kind) around;
  goes = more _ _ _ _ _ refl (done _);
  same = λ t b w. refl;
}
reads_phrase least (of_name at text) around binds loose = record {
  end = named at text around;
  goes = more _ _ _ _ _ refl (done _);
  same = named_same least 12 at text around;
}
reads_phrase least (of_element at text a index b) around binds loose =
    let inner = reads_phrase least index (index_of at text around) binds tt in
    record {
      end = has (element at text (tree index)) around;
      goes = more _ _ _ _ _ refl (more _ _ _ _ _ refl (goes_append least _ _ _ (spelled index) _ inner.goes (more _ _ _ _ _ (inner.same (mark m.CloseBracket) b (refl, tt)) (done _))));
      same = λ t b w. refl;
    }
reads_phrase least (of_bracket a p b) around binds loose =
    let inner = reads_phrase least p (bracket around) binds tt in
    record {
      end = has (tree p) around;
      goes = more _ _ _ _ _ refl (goes_append least _ _ _ (spelled p) _ inner.goes (more _ _ _ _ _ (inner.same (mark m.CloseParenthesis) b (refl, tt)) (done _)));
      same = λ t b w. refl;
    }
reads_phrase least (of_prefix at sign op operand) around binds loose =
    let inner = reads_phrase least operand (under at op around) binds.2 binds.1 in
    record {
      end = inner.end;
      goes = more _ _ _ _ _ (prefix_moves least around sign op at binds.0) inner.goes;
      same = λ t b w. inner.same t b (waits_more 11 (level operand) t binds.1 w) ∙ under_same least (tree operand) at op around t b;
    }
reads_phrase least (of_infix left at sign op right) around binds loose =
    let first = reads_phrase least left around binds.3 (loose_more least (level_of op) (level left) around binds.1 loose) in
    let second = reads_phrase least right (right_of (tree left) at op around) binds.4 binds.2 in
    let here = first.same (mark sign) at (waits_sign (level left) sign op binds.0 binds.1) in
    record {
      end = second.end;
      goes = goes_append least _ _ _ (spelled left) _ first.goes (more _ _ _ _ _ (here ∙ infix_moves least around sign op at (tree left) binds.0 loose) second.goes);
      same = λ t b w. second.same t b (waits_more (level_of op) (level right) t (omega (arith, binds.2)) w) ∙ right_same least (tree right) (tree left) at op around t b w;
    }
