-- Flags say which locals a statement assigns, and where a stale one is read.
use Rattle.std.proofs.Common.{◌≡◌, ℕ, ◌<◌, ◌≤◌, Bool, true, false, cond, not, ◌&&◌, ◌||◌, List, [], ◌∷◌, length, set, replicate, refl, ap, sym, ◌∙◌, subst, arith, Option, None, Some, IfSome}
use Rattle.std.proofs.Common.{eqb, ◌⊎◌, inl, inr, true≢false}
use Rattle.prem_tiling.proofs.Prelude.{within_names, number_of, Text, Expression, literal, variable, element, unary, binary, Statement, block, if_then, if_else, bounded_while, counting_for}
use Rattle.prem_tiling.proofs.Prelude.{assign, output, input, call, Statements, no_statements, next_statement, flag_at, flagged, with_flag, assigned_flags, all_assigned_flags, read_by}
use Rattle.prem_tiling.proofs.Prelude.{read_by_all, is_number, is_local_named, assigns, assign_within, LocalSet, first_line, is_stale, read_of, read_of_all, stale_first, cases_lt, eqb-true}
use Rattle.prem_tiling.proofs.Prelude.{eq-eqb, length-set, get_or-set_same, get_or-set_other, get_or_past, get_or-replicate, length-replicate, slice_set}

abbrev pub Set : List Bool → LocalSet
Set flags = λ k. flag_at flags k

pub cleared_at : (flags : List Bool) (k j : ℕ) → flag_at (slice_set flags k false) j ≡ (not (eqb k j) && flag_at flags j)
cleared_at flags k j = by (eqb k j) refl
  where
    at_k : (k < length flags) ⊎ (length flags ≤ k) → flag_at (slice_set flags k false) k ≡ false
    at_k (inl lt) = get_or-set_same flags k false false lt
    at_k (inr le) = get_or_past (set flags k false) k false (omega (arith, length-set flags k false))

    by : (b : Bool) → eqb k j ≡ b → flag_at (slice_set flags k false) j ≡ (not b && flag_at flags j)
    by true is = subst (λ x. flag_at (slice_set flags k false) x ≡ false) (eqb-true k j is) (at_k (cases_lt k (length flags)))
    by false is = get_or-set_other flags k j false false (λ (same : j ≡ k). true≢false (sym (eq-eqb k j (sym same)) ∙ is))

pub no_more : (a : Bool) → a ≡ (a || false)
no_more true = refl
no_more false = refl

set_true : (flags : List Bool) (k j : ℕ) → k < length flags → flag_at (slice_set flags k true) j ≡ (flag_at flags j || eqb k j)
set_true flags k j lt = by (eqb k j) refl
  where
    last : (b : Bool) → true ≡ (b || true)
    last true = refl
    last false = refl

    by : (b : Bool) → eqb k j ≡ b → flag_at (slice_set flags k true) j ≡ (flag_at flags j || b)
    by true is = subst (λ x. flag_at (slice_set flags k true) x ≡ true) (eqb-true k j is) (get_or-set_same flags k true false lt) ∙ last (flag_at flags j)
    by false is = get_or-set_other flags k j true false (λ (same : j ≡ k). true≢false (sym (eq-eqb k j (sym same)) ∙ is)) ∙ no_more (flag_at flags j)

length_with : (o : Option ℕ) (flags : List Bool) → length (with_flag o flags) ≡ length flags
length_with None flags = refl
length_with (Some k) flags = length-set flags k true

-- ---- reads

flagged_is : (flags : List Bool) (o : Option ℕ) → flagged flags o ≡ is_stale (Set flags) o
flagged_is flags None = refl
flagged_is flags (Some k) = refl

pub read_is : (locals : List Text) (flags : List Bool) (e : Expression) → read_by locals flags e ≡ read_of locals (Set flags) e
read_is locals flags (literal at value kind) = refl
read_is locals flags (variable at name) = ap (λ b. cond b (Some at.line) None) (flagged_is flags (number_of locals name))
read_is locals flags (element at name index) = read_is locals flags index
read_is locals flags (unary at op operand) = read_is locals flags operand
read_is locals flags (binary at op left right) = λ i. first_line (read_is locals flags left i) (read_is locals flags right i)

pub reads_are : (locals : List Text) (flags : List Bool) (es : List Expression) → read_by_all locals flags es ≡ read_of_all locals (Set flags) es
reads_are locals flags [] = refl
reads_are locals flags (e ∷ es) = λ i. first_line (read_is locals flags e i) (reads_are locals flags es i)

-- ---- assigned locals

pub either_last : (a b c : Bool) → ((a || b) || c) ≡ (a || (b || c))
either_last true b c = refl
either_last false b c = refl

abbrev All : List Text → List Bool → Type 0
All locals flags = length locals ≡ length flags

named_set : (locals : List Text) (flags : List Bool) (name : Text) (k : ℕ) → All locals flags → flag_at (with_flag (number_of locals name) flags) k ≡ (flag_at flags k || is_local_named locals k name)
named_set locals flags name k all = by (number_of locals name) (within_names locals name)
  where
    by : (o : Option ℕ) → IfSome o (λ n. n < length locals) → flag_at (with_flag o flags) k ≡ (flag_at flags k || is_number k o)
    by None h = no_more (flag_at flags k)
    by (Some j) h = set_true flags j k (omega arith)

mutual
  length_assigned : (locals : List Text) (flags : List Bool) (s : Statement) → length (assigned_flags locals flags s) ≡ length flags
  length_assigned locals flags (block at body) = length_all_assigned locals flags body
  length_assigned locals flags (if_then at condition taken) = length_assigned locals flags taken
  length_assigned locals flags (if_else at condition taken other) = length_assigned locals (assigned_flags locals flags taken) other ∙ length_assigned locals flags taken
  length_assigned locals flags (bounded_while at turns condition body) = length_assigned locals flags body
  length_assigned locals flags (counting_for at names low closed high step body) =
      length_assigned locals (with_flag (number_of locals names.first) flags) body ∙ length_with (number_of locals names.first) flags
  length_assigned locals flags (assign at name None value) = length_with (number_of locals name) flags
  length_assigned locals flags (assign at name (Some index) value) = refl
  length_assigned locals flags (output at value) = refl
  length_assigned locals flags (input at name) = length_with (number_of locals name) flags
  length_assigned locals flags (call at None callee arguments) = refl
  length_assigned locals flags (call at (Some name) callee arguments) = length_with (number_of locals name) flags

  length_all_assigned : (locals : List Text) (flags : List Bool) (ss : Statements) → length (all_assigned_flags locals flags ss) ≡ length flags
  length_all_assigned locals flags no_statements = refl
  length_all_assigned locals flags (next_statement first rest) = length_all_assigned locals (assigned_flags locals flags first) rest ∙ length_assigned locals flags first

mutual
  assigned_is : (locals : List Text) (flags : List Bool) (s : Statement) (k : ℕ) → All locals flags → flag_at (assigned_flags locals flags s) k ≡ (flag_at flags k || assigns locals k s)
  assigned_is locals flags (block at body) k all = all_assigned_is locals flags body k all
  assigned_is locals flags (if_then at condition taken) k all = assigned_is locals flags taken k all
  assigned_is locals flags (if_else at condition taken other) k all =
      assigned_is locals (assigned_flags locals flags taken) other k (all ∙ sym (length_assigned locals flags taken)) ∙ ap (λ b. b || assigns locals k other) (assigned_is locals flags taken k all)
      ∙ either_last (flag_at flags k) (assigns locals k taken) (assigns locals k other)
  assigned_is locals flags (bounded_while at turns condition body) k all = assigned_is locals flags body k all
  assigned_is locals flags (counting_for at names low closed high step body) k all =
      assigned_is locals (with_flag (number_of locals names.first) flags) body k (all ∙ sym (length_with (number_of locals names.first) flags))
      ∙ ap (λ b. b || assigns locals k body) (named_set locals flags names.first k all)
      ∙ either_last (flag_at flags k) (is_local_named locals k names.first) (assigns locals k body)
  assigned_is locals flags (assign at name None value) k all = named_set locals flags name k all
  assigned_is locals flags (assign at name (Some index) value) k all = no_more (flag_at flags k)
  assigned_is locals flags (output at value) k all = no_more (flag_at flags k)
  assigned_is locals flags (input at name) k all = named_set locals flags name k all
  assigned_is locals flags (call at None callee arguments) k all = no_more (flag_at flags k)
  assigned_is locals flags (call at (Some name) callee arguments) k all = named_set locals flags name k all

  all_assigned_is : (locals : List Text) (flags : List Bool) (ss : Statements) (k : ℕ) → All locals flags →
      flag_at (all_assigned_flags locals flags ss) k ≡ (flag_at flags k || assign_within locals k ss)
  all_assigned_is locals flags no_statements k all = no_more (flag_at flags k)
  all_assigned_is locals flags (next_statement first rest) k all =
      all_assigned_is locals (assigned_flags locals flags first) rest k (all ∙ sym (length_assigned locals flags first))
      ∙ ap (λ b. b || assign_within locals k rest) (assigned_is locals flags first k all)
      ∙ either_last (flag_at flags k) (assigns locals k first) (assign_within locals k rest)

-- ---- the body of a loop

no_flag : (n k : ℕ) → flag_at (replicate n false) k ≡ false
no_flag n k = by (cases_lt k n)
  where
    by : (k < n) ⊎ (n ≤ k) → flag_at (replicate n false) k ≡ false
    by (inl lt) = get_or-replicate n k false false lt
    by (inr le) = get_or_past (replicate n false) k false (let l = length-replicate {A = Bool} n false in omega arith)

-- a turn begins with the locals stale that the body assigns
pub started_is : (locals : List Text) (flags : List Bool) (body : Statement) → flags ≡ replicate (length locals) false → Set (assigned_flags locals flags body) ≡ stale_first locals body
started_is locals flags body none =
    let clear = replicate (length locals) false in
    (λ i k. flag_at (assigned_flags locals (none i) body) k)
    ∙ (λ i k. (assigned_is locals clear body k (sym (length-replicate {A = Bool} (length locals) false)) ∙ ap (λ b. b || assigns locals k body) (no_flag (length locals) k)) i)
