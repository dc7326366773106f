-- Two states that differ in stale locals and in their marks alone, and what evaluates alike in them.
use Rattle.std.proofs.Common.{◌≡◌, ℕ, ◌+◌, ◌<◌, ◌≤◌, Bool, true, false, cond, not, ◌&&◌, ◌||◌, List, [], ◌∷◌, ◌++◌, length, set, refl, ap, sym, ◌∙◌, subst, arith, Option, None, Some, Ok}
use Rattle.std.proofs.Common.{eqb, ◌⊎◌, inl, inr, true≢false}
use Rattle.prem_tiling.proofs.Prelude.{number_of, and_then, Access, cell, or_wrong, eval, truth_of, unary_word, operate, Scope, meaning_of, operand_kind, kind_of, variable_term}
use Rattle.prem_tiling.proofs.Prelude.{element_term, resolve_term, local_number, Term, operator, ProgramState, MarkedCall, value, with_local, stored, with_cell, store, with_output}
use Rattle.prem_tiling.proofs.Prelude.{take_input, Text, Expression, literal, variable, element, unary, binary, Meaning, Nothing, Local as LocalName, Scalar as ScalarName}
use Rattle.prem_tiling.proofs.Prelude.{Array as ArrayName, Function as FunctionName, Place, Ty, LocalSet, without, first_line, is_stale, read_of, AndAlso as AndAlsoOp, OrElse as OrElseOp}
use Rattle.prem_tiling.proofs.Prelude.{Kind, cases_lt, eq-eqb, eqb-true, length-set, get_or-set_same, get_or-set_other, get_or_past, slice_index}
use Rattle.prem_tiling.proofs.LawsLemmas.Joint.{Joint, fine, same_then}
use Rattle.prem_word.specs.declared.kind.BinOp.{BinOp}

-- ---- tests

pub neither_left : (a b : Bool) → (a || b) ≡ false → a ≡ false
neither_left true b e = absurd (true≢false e)
neither_left false b e = refl

pub neither_right : (a b : Bool) → (a || b) ≡ false → b ≡ false
neither_right true b e = absurd (true≢false e)
neither_right false b e = e

pub either_left : (a b : Bool) → a ≡ true → (a || b) ≡ true
either_left a b e = ap (λ x. x || b) e

pub either_right : (a b : Bool) → b ≡ true → (a || b) ≡ true
either_right true b e = refl
either_right false b e = e

pub no_line_left : (a b : Option ℕ) → first_line a b ≡ None → a ≡ None
no_line_left None b e = refl
no_line_left (Some line) b e = cc

pub no_line_right : (a b : Option ℕ) → first_line a b ≡ None → b ≡ None
no_line_right None b e = e
no_line_right (Some line) b e = cc

-- ---- locals

pub index-set_other : (ls : List ℕ) (k j w : ℕ) → eqb k j ≡ false → slice_index (set ls k w) j ≡ slice_index ls j
index-set_other ls k j w e = get_or-set_other ls k j w 0 (λ (same : j ≡ k). true≢false (sym (eq-eqb k j (sym same)) ∙ e))

-- one local set to one word in two lists of one length
pub set_alike : (ls ls' : List ℕ) (k j w : ℕ) → length ls ≡ length ls' → (eqb k j ≡ false → slice_index ls j ≡ slice_index ls' j) → slice_index (set ls k w) j ≡ slice_index (set ls' k w) j
set_alike ls ls' k j w long others = by (eqb k j) refl
  where
    at_k : (k < length ls) ⊎ (length ls ≤ k) → slice_index (set ls k w) k ≡ slice_index (set ls' k w) k
    at_k (inl lt) = get_or-set_same ls k w 0 lt ∙ sym (get_or-set_same ls' k w 0 (omega arith))
    at_k (inr le) = get_or_past (set ls k w) k 0 (omega (arith, length-set ls k w)) ∙ sym (get_or_past (set ls' k w) k 0 (omega (arith, length-set ls' k w)))

    by : (b : Bool) → eqb k j ≡ b → slice_index (set ls k w) j ≡ slice_index (set ls' k w) j
    by true is = let same : k ≡ j = eqb-true k j is in subst (λ x. slice_index (set ls k w) x ≡ slice_index (set ls' k w) x) same (at_k (cases_lt k (length ls)))
    by false is = index-set_other ls k j w is ∙ others is ∙ sym (index-set_other ls' k j w is)

-- the locals of a scope are numbered by their names
pub record Numbered (scope : Scope) (locals : List Text) : Type 0 where
  pub number : (name : Text) → local_number (meaning_of scope name) ≡ number_of locals name

-- ---- states

-- without locals and marks
abbrev pub bare : ProgramState → ProgramState
bare s = record s { locals = []; marks = [] }

-- what isn't stale is the same; of the first state's locals those that don't change are as in a list
pub record Tied (base : List ℕ) (changed : LocalSet) (ms ns : List MarkedCall) (stale : LocalSet) (u v : ProgramState) : Type 0 where
  pub same : bare u ≡ bare v
  pub left : u.marks ≡ ms
  pub right : v.marks ≡ ns
  pub long : length u.locals ≡ length v.locals
  pub size : length u.locals ≡ length base
  pub alike : (k : ℕ) → stale k ≡ false → slice_index u.locals k ≡ slice_index v.locals k
  pub kept : (k : ℕ) → changed k ≡ false → slice_index u.locals k ≡ slice_index base k

module _ {base : List ℕ} {changed : LocalSet} {ms ns : List MarkedCall} where
  pub more_stale : {stale : LocalSet} (wider : LocalSet) {u v : ProgramState} → ((k : ℕ) → wider k ≡ false → stale k ≡ false) → Tied base changed ms ns stale u v → Tied base changed ms ns wider u v
  more_stale wider more t = record { same = t.same; left = t.left; right = t.right; long = t.long; size = t.size; alike = λ k e. t.alike k (more k e); kept = t.kept }

  pub with_local_tied : {stale : LocalSet} (o : Option ℕ) (k w : ℕ) {u v : ProgramState} → o ≡ Some k → changed k ≡ true →
      Tied base changed ms ns stale u v → Tied base changed ms ns (without o stale) (with_local k w u) (with_local k w v)
  with_local_tied {stale = stale} o k w {u = u} {v = v} is moves t = subst (λ (x : Option ℕ). Tied base changed ms ns (without x stale) (with_local k w u) (with_local k w v)) (sym is) (record {
    same = t.same;
    left = t.left;
    right = t.right;
    long = length-set u.locals k w ∙ t.long ∙ sym (length-set v.locals k w);
    size = length-set u.locals k w ∙ t.size;
    alike = λ j e. set_alike u.locals v.locals k j w t.long (λ other. t.alike j (fresh (eqb k j) (stale j) other e));
    kept = λ j e. index-set_other u.locals k j w (unlike k j moves e) ∙ t.kept j e;
  })
    where
      fresh : (b c : Bool) → b ≡ false → (not b && c) ≡ false → c ≡ false
      fresh true c other e = absurd (true≢false other)
      fresh false c other e = e

      unlike : (k j : ℕ) → changed k ≡ true → changed j ≡ false → eqb k j ≡ false
      unlike k j moving still = by (eqb k j) refl
        where
          by : (b : Bool) → eqb k j ≡ b → b ≡ false
          by true same = absurd (true≢false (sym moving ∙ ap changed (eqb-true k j same) ∙ still))
          by false other = refl

  pub output_tied : {stale : LocalSet} (w : ℕ) {u v : ProgramState} → Tied base changed ms ns stale u v → Tied base changed ms ns stale (with_output w u) (with_output w v)
  output_tied w t = record {
    same = ap (λ (b : ProgramState). record b { outputs = b.outputs ++ w ∷ [] }) t.same;
    left = t.left;
    right = t.right;
    long = t.long;
    size = t.size;
    alike = t.alike;
    kept = t.kept;
  }

  cell_tied : {stale : LocalSet} (g j w : ℕ) {u v : ProgramState} → Tied base changed ms ns stale u v → Tied base changed ms ns stale (with_cell g j w u) (with_cell g j w v)
  cell_tied g j w t = record { same = ap (with_cell g j w) t.same; left = t.left; right = t.right; long = t.long; size = t.size; alike = t.alike; kept = t.kept }

  pub store_tied : {stale : LocalSet} (may : Access) (line : ℕ) (ty : Ty) (g j w : ℕ) {u v : ProgramState} → Tied base changed ms ns stale u v →
      Joint (Tied base changed ms ns stale) (store may line ty g j w u) (store may line ty g j w v)
  store_tied may line ty g j w {u = u} {v = v} t =
      same_then (or_wrong line (cell may u.globals g j)) (or_wrong line (cell may v.globals g j)) (λ old. Ok (with_cell g j (stored ty w) u)) (λ old. Ok (with_cell g j (stored ty w) v))
      (ap (λ (b : ProgramState). or_wrong line (cell may b.globals g j)) t.same) (λ old. fine (cell_tied g j (stored ty w) t))

  -- the next input to a local
  pub input_tied : {stale : LocalSet} (o : Option ℕ) (k : ℕ) {u v : ProgramState} → o ≡ Some k → changed k ≡ true →
      Tied base changed ms ns stale u v → Tied base changed ms ns (without o stale) (take_input k u.inputs u) (take_input k v.inputs v)
  input_tied {stale = stale} o k {u = u} {v = v} is moves t =
      subst (λ (inputs : List ℕ). Tied base changed ms ns (without o stale) (take_input k u.inputs u) (take_input k inputs v)) (ap (λ (b : ProgramState). b.inputs) t.same) (by u.inputs)
    where
      by : (inputs : List ℕ) → Tied base changed ms ns (without o stale) (take_input k inputs u) (take_input k inputs v)
      by [] = with_local_tied o k 0 is moves t
      by (w ∷ rest) = with_local_tied o k w is moves (record {
        same = ap (λ (b : ProgramState). record b { inputs = rest; used = b.used + 1 }) t.same;
        left = t.left;
        right = t.right;
        long = t.long;
        size = t.size;
        alike = t.alike;
        kept = t.kept;
      })

-- ---- values

some_line : (b : Bool) (line : ℕ) → cond b (Some line) None ≡ None → b ≡ false
some_line true line e = cc
some_line false line e = refl

module _ (scope : Scope) (locals : List Text) (numbered : Numbered scope locals) (stale : LocalSet) (may : Access) (globals : List (List ℕ)) (ls ls' : List ℕ)
    (alike : (k : ℕ) → stale k ≡ false → slice_index ls k ≡ slice_index ls' k) where
  variable_alike : (at : Place) (m : Meaning) (o : Option ℕ) → local_number m ≡ o → is_stale stale o ≡ false → eval may globals ls (variable_term at m) ≡ eval may globals ls' (variable_term at m)
  variable_alike at (LocalName k ty) o is fresh = ap Ok (alike k (ap (is_stale stale) is ∙ fresh))
  variable_alike at (ScalarName g ty) o is fresh = refl
  variable_alike at (ArrayName g ty n) o is fresh = refl
  variable_alike at (FunctionName f) o is fresh = refl
  variable_alike at Nothing o is fresh = refl

  element_alike : (at : Place) (m : Meaning) (index : Term) → eval may globals ls index ≡ eval may globals ls' index →
      eval may globals ls (element_term at m index) ≡ eval may globals ls' (element_term at m index)
  element_alike at (ArrayName g ty n) index e = ap (λ r. and_then r (λ j. or_wrong at.line (cell may globals g j))) e
  element_alike at (LocalName k ty) index e = refl
  element_alike at (ScalarName g ty) index e = refl
  element_alike at (FunctionName f) index e = refl
  element_alike at Nothing index e = refl

  operator_alike : (at : Place) (op : BinOp) (kind : Kind) (l r : Term) → eval may globals ls l ≡ eval may globals ls' l →
      eval may globals ls r ≡ eval may globals ls' r → eval may globals ls (operator at op kind l r) ≡ eval may globals ls' (operator at op kind l r)
  operator_alike at AndAlsoOp kind l r e f = λ i. and_then (e i) (λ a. cond (eqb a 0) (Ok 0) (truth_of (f i)))
  operator_alike at OrElseOp kind l r e f = λ i. and_then (e i) (λ a. cond (eqb a 0) (truth_of (f i)) (Ok 1))
  operator_alike at op kind l r e f = λ i. and_then (e i) (λ a. and_then (f i) (λ b. operate at.line op kind a b))

  eval_alike : (e : Expression) → read_of locals stale e ≡ None → eval may globals ls (resolve_term scope e) ≡ eval may globals ls' (resolve_term scope e)
  eval_alike (literal at w kind) none = refl
  eval_alike (variable at name) none = variable_alike at (meaning_of scope name) (number_of locals name) (numbered.number name) (some_line (is_stale stale (number_of locals name)) at.line none)
  eval_alike (element at name index) none = element_alike at (meaning_of scope name) (resolve_term scope index) (eval_alike index none)
  eval_alike (unary at op operand) none = ap (λ r. and_then r (λ a. Ok (unary_word op a))) (eval_alike operand none)
  eval_alike (binary at op left right) none =
      operator_alike at op (operand_kind op (kind_of (resolve_term scope left)) (kind_of (resolve_term scope right))) (resolve_term scope left) (resolve_term scope right)
      (eval_alike left (no_line_left (read_of locals stale left) (read_of locals stale right) none)) (eval_alike right (no_line_right (read_of locals stale left) (read_of locals stale right) none))

pub value_tied : (scope : Scope) (locals : List Text) → Numbered scope locals →
    {base : List ℕ} {changed : LocalSet} {ms ns : List MarkedCall} (stale : LocalSet) (may : Access) (u v : ProgramState) →
    Tied base changed ms ns stale u v → (e : Expression) → read_of locals stale e ≡ None →
    value may u (resolve_term scope e) ≡ value may v (resolve_term scope e)
value_tied scope locals numbered stale may u v t e none =
    ap (λ (b : ProgramState). eval may b.globals u.locals (resolve_term scope e)) t.same ∙ eval_alike scope locals numbered stale may v.globals u.locals v.locals t.alike e none
