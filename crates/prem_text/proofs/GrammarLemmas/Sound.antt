-- What is read is spelled so, and what is read so far can be completed.
use Rattle.std.proofs.Common.{◌≡◌, ◌≤◌, ◌<◌, ℕ, List, [], ◌∷◌, ◌++◌, Option, None, Some, Bool, true, false, refl, sym, subst, ◌∙◌, append_assoc, arith, nat_le, nat_lt}
use Rattle.prem_text.proofs.Prelude.{Text, Expression, element, Place, UnOp, Neg, Flip, Not, infix_of, prefix_of, level_of, Open, bottom, under, right_of, bracket, index_of, bind, State}
use Rattle.prem_text.proofs.Prelude.{wants, named, has, Move, goes, ends, stops, operand, operator, closing, behind, move, Phrase, of_literal, of_name, of_element, of_bracket, of_prefix}
use Rattle.prem_text.proofs.Prelude.{of_infix, spelled, tree, level, Binds, Lexeme, name, number, word, mark, end_of_text, Seen, Mark, BinOp, Int, nat_tests, append-nil}
use Rattle.prem_text.proofs.GrammarLemmas.Steps.{Loose, level_small}
use Rattle.prem_text.specs.Grammar.Phrases.{Spells}
use Rattle.prem_text.specs.declared.lexing.token.token.Mark.TheVariants as m

-- tokens spell what is open, up to the operand
pub data StandsOpen (least : ℕ) : Open → List Seen → Type 0 where
  at_bottom : StandsOpen least bottom []
  at_prefix : (at : Place) (sign : Mark) (op : UnOp) (around : Open) (pre : List Seen) → prefix_of sign ≡ Some op → StandsOpen least around pre →
      StandsOpen least (under at op around) (pre ++ (mark sign, at) ∷ [])
  at_infix : (left : Phrase) (at : Place) (sign : Mark) (op : BinOp) (around : Open) (pre : List Seen) → infix_of sign ≡ Some op → Binds left → level_of op ≤ level left →
      Loose least (level_of op) around → StandsOpen least around pre → StandsOpen least (right_of (tree left) at op around) (pre ++ spelled left ++ (mark sign, at) ∷ [])
  at_bracket : (a : Place) (around : Open) (pre : List Seen) → StandsOpen least around pre → StandsOpen least (bracket around) (pre ++ (mark m.OpenParenthesis, a) ∷ [])
  at_index : (at : Place) (text : Text) (a : Place) (around : Open) (pre : List Seen) → StandsOpen least around pre →
      StandsOpen least (index_of at text around) (pre ++ (name text, at) ∷ (mark m.OpenBracket, a) ∷ [])

-- around a tight phrase everything may stand
loose_tight : (least k : ℕ) (around : Open) → least ≤ 11 → 11 ≤ k → Loose least k around
loose_tight least k bottom h le = omega arith
loose_tight least k (under at op around) h le = omega arith
loose_tight least k (right_of left at op around) h le = omega (arith, level_small op)
loose_tight least k (bracket around) h le = tt
loose_tight least k (index_of at text around) h le = tt

-- a phrase in what is open can be completed to an expression
pub record Whole (least : ℕ) (pre : List Seen) : Type 0 where
  pub rest : List Seen
  pub phrase : Phrase
  pub binds : Binds phrase
  pub levels : least ≤ level phrase
  pub spells : spelled phrase ≡ pre ++ rest

pub fill : (least : ℕ) (around : Open) (pre : List Seen) (p : Phrase) → least ≤ 11 → StandsOpen least around pre → Binds p → Loose least (level p) around → Whole least (pre ++ spelled p)
fill least _ _ p h at_bottom binds loose = record { rest = []; phrase = p; binds = binds; levels = loose; spells = sym (append-nil (spelled p)) }
fill least _ _ p h (at_prefix at sign op around pre is before) binds loose =
    let w = fill least around pre (of_prefix at sign op p) h before (is, loose, binds) (loose_tight least 11 around h (omega arith)) in
    record { rest = w.rest; phrase = w.phrase; binds = w.binds; levels = w.levels; spells = w.spells ∙ simp append_assoc }
fill least _ _ p h (at_infix left at sign op around pre is left_binds le left_loose before) binds loose =
    let w = fill least around pre (of_infix left at sign op p) h before (is, le, loose, left_binds, binds) left_loose in
    record { rest = w.rest; phrase = w.phrase; binds = w.binds; levels = w.levels; spells = w.spells ∙ simp append_assoc }
fill least _ _ p h (at_bracket a around pre before) binds loose =
    let w = fill least around pre (of_bracket a p a) h before binds (loose_tight least 12 around h (omega arith)) in
    record { rest = (mark m.CloseParenthesis, a) ∷ w.rest; phrase = w.phrase; binds = w.binds; levels = w.levels; spells = w.spells ∙ simp append_assoc }
fill least _ _ p h (at_index at text a around pre before) binds loose =
    let w = fill least around pre (of_element at text a p a) h before binds (loose_tight least 12 around h (omega arith)) in
    record { rest = (mark m.CloseBracket, a) ∷ w.rest; phrase = w.phrase; binds = w.binds; levels = w.levels; spells = w.spells ∙ simp append_assoc }

-- tokens spell a state
pub data StandsIn (least : ℕ) : State → List Seen → Type 0 where
  wanting : (around : Open) (pre : List Seen) → StandsOpen least around pre → StandsIn least (wants around) pre
  naming : (at : Place) (text : Text) (around : Open) (pre : List Seen) → StandsOpen least around pre → StandsIn least (named at text around) (pre ++ (name text, at) ∷ [])
  having : (p : Phrase) (around : Open) (pre : List Seen) → Binds p → level p ≡ 12 → StandsOpen least around pre → StandsIn least (has (tree p) around) (pre ++ spelled p)

-- whatever was read so far begins an expression
pub begins_expression : (least : ℕ) (s : State) (pre : List Seen) → least ≤ 11 → StandsIn least s pre → Whole least pre
begins_expression least _ _ h (wanting around pre before) =
    let w = fill least around pre (of_literal record { line = 0; col = 0 } 0 Int) h before tt (loose_tight least 12 around h (omega arith)) in
    record { rest = (number 0 Int, record { line = 0; col = 0 }) ∷ w.rest; phrase = w.phrase; binds = w.binds; levels = w.levels; spells = w.spells ∙ append_assoc pre _ w.rest }
begins_expression least _ _ h (naming at text around pre before) = fill least around pre (of_name at text) h before tt (loose_tight least 12 around h (omega arith))
begins_expression least _ _ h (having p around pre binds is before) = fill least around pre p h before binds (loose_tight least (level p) around h (omega arith))

-- ---- what is read is spelled so

-- what is open lets an operator of a level wait
abbrev Below : ℕ → Open → Type 0
Below k (under at op around) = ⊥
Below k (right_of left at op around) = level_of op < k
Below k _ = Unit {0}

-- a phrase that has been bound, and what is open around it
record Bound (least k : ℕ) (r : Expression × Open) (ts : List Seen) : Type 0 where
  phrase : Phrase
  around : Open
  pre : List Seen
  is : r ≡ (tree phrase, around)
  binds : Binds phrase
  tight : k ≤ level phrase
  loose : Loose least (level phrase) around
  below : Below k around
  before : StandsOpen least around pre
  spells : pre ++ spelled phrase ≡ ts

bound_infix : (least k : ℕ) (b : Bool) (left p : Phrase) (at : Place) (sign : Mark) (op : BinOp) (around : Open) (pre : List Seen) → nat_le k (level_of op) ≡ b →
    infix_of sign ≡ Some op → Binds left → level_of op ≤ level left → Loose least (level_of op) around → StandsOpen least around pre → k ≤ level p → Binds p → level_of op < level p →
    (k ≤ level_of op → Bound least k (bind k (tree (of_infix left at sign op p)) around) (pre ++ spelled (of_infix left at sign op p))) →
    Bound least k (bind k (tree p) (right_of (tree left) at op around)) ((pre ++ spelled left ++ (mark sign, at) ∷ []) ++ spelled p)
bound_infix least k true left p at sign op around pre b is left_binds le left_loose before tight binds loose go =
    let rec = go (grind (arith, nat_tests)) in
    record {
      phrase = rec.phrase;
      around = rec.around;
      pre = rec.pre;
      is = rw b rec.is;
      binds = rec.binds;
      tight = rec.tight;
      loose = rec.loose;
      below = rec.below;
      before = rec.before;
      spells = rec.spells ∙ simp append_assoc;
    }
bound_infix least k false left p at sign op around pre b is left_binds le left_loose before tight binds loose go =
    let looser : level_of op < k = grind (arith, nat_tests) in
    record {
      phrase = p;
      around = right_of (tree left) at op around;
      pre = pre ++ spelled left ++ (mark sign, at) ∷ [];
      is = rw b refl;
      binds = binds;
      tight = tight;
      loose = loose;
      below = looser;
      before = at_infix left at sign op around pre is left_binds le left_loose before;
      spells = refl;
    }

bound : (least k : ℕ) (around : Open) (pre : List Seen) (p : Phrase) → least ≤ 11 → k ≤ 10 → StandsOpen least around pre → Binds p → k ≤ level p → Loose least (level p) around →
    Bound least k (bind k (tree p) around) (pre ++ spelled p)
bound least k _ _ p h small at_bottom binds tight loose =
    record { phrase = p; around = bottom; pre = []; is = refl; binds = binds; tight = tight; loose = loose; below = tt; before = at_bottom; spells = refl }
bound least k _ _ p h small (at_prefix at sign op around pre is before) binds tight loose =
    let rec = bound least k around pre (of_prefix at sign op p) h small before (is, loose, binds) (omega arith) (loose_tight least 11 around h (omega arith)) in
    record {
      phrase = rec.phrase;
      around = rec.around;
      pre = rec.pre;
      is = rec.is;
      binds = rec.binds;
      tight = rec.tight;
      loose = rec.loose;
      below = rec.below;
      before = rec.before;
      spells = rec.spells ∙ simp append_assoc;
    }
bound least k _ _ p h small (at_infix left at sign op around pre is left_binds le left_loose before) binds tight loose =
    bound_infix least k (nat_le k (level_of op)) left p at sign op around pre refl is left_binds le left_loose before tight binds loose
    (λ fits. bound least k around pre (of_infix left at sign op p) h small before (is, le, loose, left_binds, binds) fits left_loose)
bound least k _ _ p h small (at_bracket a around pre before) binds tight loose =
    record {
      phrase = p;
      around = bracket around;
      pre = pre ++ (mark m.OpenParenthesis, a) ∷ [];
      is = refl;
      binds = binds;
      tight = tight;
      loose = tt;
      below = tt;
      before = at_bracket a around pre before;
      spells = refl;
    }
bound least k _ _ p h small (at_index at text a around pre before) binds tight loose =
    record {
      phrase = p;
      around = index_of at text around;
      pre = pre ++ (name text, at) ∷ (mark m.OpenBracket, a) ∷ [];
      is = refl;
      binds = binds;
      tight = tight;
      loose = tt;
      below = tt;
      before = at_index at text a around pre before;
      spells = refl;
    }

-- what a move says of the tokens so far
unfoldable pub Fine : ℕ → List Seen → Seen → Move → Type 0
Fine least pre t (goes s) = StandsIn least s (pre ++ t ∷ [])
Fine least pre t (ends e) = Spells least pre e
Fine least pre t stops = Unit {0}

fine_ends : (least : ℕ) (pre : List Seen) (t : Seen) (p : Phrase) → Binds p → least ≤ level p → spelled p ≡ pre → Fine least pre t (ends (tree p))
unfolding Fine
fine_ends least pre t p binds le is = (p, le, binds, is, refl)

operand_fine : (least : ℕ) (around : Open) (pre : List Seen) (t : Lexeme) (at : Place) → StandsOpen least around pre → Fine least pre (t, at) (operand around t at)
unfolding Fine
operand_fine least around pre (number v k) at before = having (of_literal at v k) around pre tt refl before
operand_fine least around pre (name x) at before = naming at x around pre before
operand_fine least around pre (mark m.OpenParenthesis) at before = wanting (bracket around) _ (at_bracket at around pre before)
operand_fine least around pre (mark m.Minus) at before = wanting (under at Neg around) _ (at_prefix at m.Minus Neg around pre refl before)
operand_fine least around pre (mark m.Tilde) at before = wanting (under at Flip around) _ (at_prefix at m.Tilde Flip around pre refl before)
operand_fine least around pre (mark m.Bang) at before = wanting (under at Not around) _ (at_prefix at m.Bang Not around pre refl before)
operand_fine least around pre (mark _) at before = tt
operand_fine least around pre _ at before = tt

bottom_fine : (least : ℕ) (b : Bool) (q : Phrase) (sign : Mark) (op : BinOp) (at : Place) → nat_lt (level_of op) least ≡ b → infix_of sign ≡ Some op →
    Binds q → level_of op ≤ level q → least ≤ level q →
    Fine least (spelled q) (mark sign, at) (operator least op at (tree q, bottom))
unfolding Fine
bottom_fine least true q sign op at b is binds tight levels = rw b (fine_ends least (spelled q) (mark sign, at) q binds levels refl)
bottom_fine least false q sign op at b is binds tight levels =
    let fits : least ≤ level_of op = grind (arith, nat_tests) in
    rw b (wanting (right_of (tree q) at op bottom) _ (at_infix q at sign op bottom [] is binds tight fits at_bottom))

infix_wants : (least : ℕ) (q : Phrase) (sign : Mark) (op : BinOp) (at : Place) (around : Open) (pre : List Seen) → infix_of sign ≡ Some op → Binds q → level_of op ≤ level q →
    Loose least (level_of op) around → StandsOpen least around pre → StandsIn least (wants (right_of (tree q) at op around)) ((pre ++ spelled q) ++ (mark sign, at) ∷ [])
infix_wants least q sign op at around pre is binds tight loose before =
    wanting _ _ (at_infix q at sign op around pre is binds tight loose before)

operator_fine : (least : ℕ) (q : Phrase) (sign : Mark) (op : BinOp) (at : Place) (around : Open) (pre : List Seen) → infix_of sign ≡ Some op → Binds q → level_of op ≤ level q →
    Loose least (level q) around → Below (level_of op) around → StandsOpen least around pre → Fine least (pre ++ spelled q) (mark sign, at) (operator least op at (tree q, around))
unfolding Fine
operator_fine least q sign op at _ _ is binds tight loose below at_bottom = bottom_fine least (nat_lt (level_of op) least) q sign op at refl is binds tight loose
operator_fine least q sign op at _ _ is binds tight loose below (at_prefix a s o around pre i before) = absurd below
operator_fine least q sign op at _ _ is binds tight loose below (at_infix left a s o around pre i lb le ll before) =
    infix_wants least q sign op at _ _ is binds tight below (at_infix left a s o around pre i lb le ll before)
operator_fine least q sign op at _ _ is binds tight loose below (at_bracket a around pre before) = infix_wants least q sign op at _ _ is binds tight tt (at_bracket a around pre before)
operator_fine least q sign op at _ _ is binds tight loose below (at_index a text b around pre before) = infix_wants least q sign op at _ _ is binds tight tt (at_index a text b around pre before)

closing_fine : (least : ℕ) (q : Phrase) (around : Open) (pre : List Seen) (t : Lexeme) (at : Place) → Binds q → Loose least (level q) around → StandsOpen least around pre →
    Fine least (pre ++ spelled q) (t, at) (closing (tree q, around) t)
unfolding Fine
closing_fine least q _ _ t at binds loose at_bottom = fine_ends least (spelled q) (t, at) q binds loose refl
closing_fine least q _ _ t at binds loose (at_prefix a s o around pre i before) = tt
closing_fine least q _ _ t at binds loose (at_infix left a s o around pre i lb le ll before) = tt
closing_fine least q _ _ (mark m.CloseParenthesis) at binds loose (at_bracket a around pre before) =
    subst (λ (ts : List Seen). StandsIn least (has (tree q) around) ts) (simp append_assoc) (having (of_bracket a q at) around pre binds refl before)
closing_fine least q _ _ (mark _) at binds loose (at_bracket a around pre before) = tt
closing_fine least q _ _ _ at binds loose (at_bracket a around pre before) = tt
closing_fine least q _ _ (mark m.CloseBracket) at binds loose (at_index from text b around pre before) =
    subst (λ (ts : List Seen). StandsIn least (has (element from text (tree q)) around) ts) (simp append_assoc) (having (of_element from text b q at) around pre binds refl before)
closing_fine least q _ _ (mark _) at binds loose (at_index a text b around pre before) = tt
closing_fine least q _ _ _ at binds loose (at_index a text b around pre before) = tt

-- behind a whole operand
behind_none : (least : ℕ) (p : Phrase) (around : Open) (pre : List Seen) (t : Lexeme) (at : Place) → least ≤ 11 → Binds p → level p ≡ 12 → StandsOpen least around pre →
    Fine least (pre ++ spelled p) (t, at) (closing (bind 0 (tree p) around) t)
behind_none least p around pre t at h binds is before =
    let b = bound least 0 around pre p h (omega arith) before binds (omega arith) (loose_tight least (level p) around h (omega arith)) in
    subst (λ (ts : List Seen). Fine least ts (t, at) (closing (bind 0 (tree p) around) t)) b.spells
    (subst (λ (r : Expression × Open). Fine least (b.pre ++ spelled b.phrase) (t, at) (closing r t)) (sym b.is) (closing_fine least b.phrase b.around b.pre t at b.binds b.loose b.before))

behind_some : (least : ℕ) (p : Phrase) (around : Open) (pre : List Seen) (sign : Mark) (op : BinOp) (at : Place) → least ≤ 11 →
    infix_of sign ≡ Some op → Binds p → level p ≡ 12 → StandsOpen least around pre →
    Fine least (pre ++ spelled p) (mark sign, at) (operator least op at (bind (level_of op) (tree p) around))
behind_some least p around pre sign op at h is binds whole before =
    let b = bound least (level_of op) around pre p h (level_small op) before binds (omega (arith, level_small op)) (loose_tight least (level p) around h (omega arith)) in
    subst (λ (ts : List Seen). Fine least ts (mark sign, at) (operator least op at (bind (level_of op) (tree p) around))) b.spells
    (subst (λ (r : Expression × Open). Fine least (b.pre ++ spelled b.phrase) (mark sign, at) (operator least op at r)) (sym b.is)
    (operator_fine least b.phrase sign op at b.around b.pre is b.binds b.tight b.loose b.below b.before))

behind_mark : (least : ℕ) (p : Phrase) (around : Open) (pre : List Seen) (sign : Mark) (o : Option BinOp) (at : Place) → infix_of sign ≡ o →
    least ≤ 11 → Binds p → level p ≡ 12 → StandsOpen least around pre →
    Fine least (pre ++ spelled p) (mark sign, at) (behind least (tree p) around (mark sign) at)
behind_mark least p around pre sign None at is h binds whole before = rw (behind, is) (behind_none least p around pre (mark sign) at h binds whole before)
behind_mark least p around pre sign (Some op) at is h binds whole before = rw (behind, is) (behind_some least p around pre sign op at h is binds whole before)

behind_fine : (least : ℕ) (p : Phrase) (around : Open) (pre : List Seen) (t : Lexeme) (at : Place) → least ≤ 11 → Binds p → level p ≡ 12 → StandsOpen least around pre →
    Fine least (pre ++ spelled p) (t, at) (behind least (tree p) around t at)
behind_fine least p around pre (mark sign) at h binds whole before = behind_mark least p around pre sign (infix_of sign) at refl h binds whole before
behind_fine least p around pre (name x) at h binds whole before = behind_none least p around pre (name x) at h binds whole before
behind_fine least p around pre (number v k) at h binds whole before = behind_none least p around pre (number v k) at h binds whole before
behind_fine least p around pre (word x) at h binds whole before = behind_none least p around pre (word x) at h binds whole before
behind_fine least p around pre end_of_text at h binds whole before = behind_none least p around pre end_of_text at h binds whole before

-- one token more is spelled, or it ends an expression that is spelled
named_fine : (least : ℕ) (from : Place) (text : Text) (around : Open) (pre : List Seen) (t : Seen) → least ≤ 11 → StandsOpen least around pre →
    Fine least (pre ++ (name text, from) ∷ []) t (move least (named from text around) t)
unfolding Fine
named_fine least from text around pre (mark m.OpenBracket, b) h before =
    subst (λ (ts : List Seen). StandsIn least (wants (index_of from text around)) ts) (simp append_assoc) (wanting (index_of from text around) _ (at_index from text b around pre before))
named_fine least from text around pre (mark x, b) h before = behind_fine least (of_name from text) around pre (mark x) b h tt refl before
named_fine least from text around pre (x, b) h before = behind_fine least (of_name from text) around pre x b h tt refl before

pub move_fine : (least : ℕ) (s : State) (pre : List Seen) (t : Seen) → least ≤ 11 → StandsIn least s pre → Fine least pre t (move least s t)
move_fine least _ _ t h (wanting around pre before) = operand_fine least around pre t.0 t.1 before
move_fine least _ _ t h (naming from text around pre before) = named_fine least from text around pre t h before
move_fine least _ _ t h (having p around pre binds whole before) = behind_fine least p around pre t.0 t.1 h binds whole before
