-- What holds of each instruction that templates emit holds of the code of terms, statements and functions.
use Rattle.std.proofs.Common.{◌≡◌, ◌≢◌, ℕ, zero, suc, ◌+◌, ◌≤◌, refl, arith, cond, true, false, Bool, List, [], ◌∷◌, length, Some, None, Option}
use Rattle.prem_code_laws.proofs.Prelude.{Pieces, no_pieces, straight, address_of, either, repeat, call_to, followed, address_code, branch_of, EachInstr, GoodJumps, EachPiece, Add, Sltu}
use Rattle.prem_code_laws.proofs.Prelude.{Instr, OpImm, Op, MulDiv, Lui, Jal, Jalr, Branch, Load, Store, PmIn, PmOut, Lw, MulDivOp, Sw, counters_in, locals_of, frame_of, Parts, declare_code}
use Rattle.prem_code_laws.proofs.Prelude.{argument_code, target_code, result_code, steps_code, function_code, load_slot, store_slot, store_argument, bound_test, step_code, count_code}
use Rattle.prem_code_laws.proofs.Prelude.{turn_code, opening, closing, store_of, is_short, constant, scale, shift_of, unary_code, less, shift_right, by_target, binary_code, term_code, only}
use Rattle.prem_code_laws.proofs.Prelude.{nonzero, Target, Rv32i, Rv32im, Term, Constant, Local, Scalar, Element, Unary, Binary, AndAlso, OrElse, Steps, Done as NoSteps, SetLocal, SetScalar}
use Rattle.prem_code_laws.proofs.Prelude.{SetElement, Output, Input, If, For, While, Call, Routine, UnOp, Neg, Flip, Not, BinOp, Sub as Minus, Mul, Div, Rem, Shl, Shr, Lt, Le, Gt, Ge, Eq}
use Rattle.prem_code_laws.proofs.Prelude.{Ne, And as BitAnd, Xor as BitXor, Or as BitOr, Kind, Int, Unsigned, ℤ, pos, negsuc}
use Rattle.prem_isa.specs.declared.instr.AluOp.TheVariants.{Sub, Xor}
use Rattle.prem_word.specs.declared.kind.BinOp.TheVariants.{Add as Plus, AndAlso as AndAlsoOp, OrElse as OrElseOp}
use Rattle.std.specs.Prelude.{◌-◌}

-- ---- instructions

-- what the code of terms is made of: nothing links or is loaded into x4, and each load goes into some register
abbrev pub IsPlain : Instr → Type 0
IsPlain (Lui rd imm) = rd ≢ 4
IsPlain (Jal rd offset) = rd ≢ 4
IsPlain (Branch op rs1 rs2 offset) = Unit {0}
IsPlain (Load op rd rs1 offset) = (rd ≢ 4) × (rd ≢ 0)
IsPlain (Store op rs1 rs2 offset) = Unit {0}
IsPlain (OpImm op rd rs1 imm) = rd ≢ 4
IsPlain (Op op rd rs1 rs2) = rd ≢ 4
IsPlain (MulDiv op rd rs1 rs2) = rd ≢ 4
IsPlain _ = ⊥

-- it holds of what the code of statements is made of: that of terms, calls, and words that are taken and put
pub record Emits (Good : Instr → Type 0) : Type 0 where
  pub plain : (i : Instr) → IsPlain i → Good i
  pub calls : (link : ℕ) → GoodJumps Good link
  pub inputs : (rd : ℕ) → Good (PmIn rd)
  pub outputs : (rs1 : ℕ) → Good (PmOut rs1)

-- ---- pieces

module _ (P Q : Instr → Type 0) (f : (i : Instr) → P i → Q i) where
  pub each_instr : (code : List Instr) → EachInstr P code → EachInstr Q code
  each_instr [] h = tt
  each_instr (i ∷ is) h = (f i h.0, each_instr is h.1)

  pub each_piece : (ps : Pieces) → EachPiece P ps → EachPiece Q ps
  each_piece no_pieces h = tt
  each_piece (straight code rest) h = (each_instr code h.0, each_piece rest h.1)
  each_piece (address_of rd part more rest) h = (((λ n. f (Lui rd n) (h.0.0 n)), (λ z. f (OpImm Add rd rd z) (h.0.1 z))), each_piece rest h.1)
  each_piece (either test taken other rest) h = ((f (branch_of test) h.0.0, (λ z. f (Jal 0 z) (h.0.1 z)), each_piece taken h.0.2, each_piece other h.0.3), each_piece rest h.1)
  each_piece (repeat turns head test body rest) h = ((f (branch_of test) h.0.0, (λ z. f (Jal 0 z) (h.0.1 z)), each_piece head h.0.2, each_piece body h.0.3), each_piece rest h.1)
  each_piece (call_to link part rest) h = ((λ z. f (Jal link z) (h.0 z)), each_piece rest h.1)

module _ (Good : Instr → Type 0) where
  pub joined : (p q : Pieces) → EachPiece Good p → EachPiece Good q → EachPiece Good (followed p q)
  joined no_pieces q h k = k
  joined (straight code rest) q h k = (h.0, joined rest q h.1 k)
  joined (address_of rd part more rest) q h k = (h.0, joined rest q h.1 k)
  joined (either test taken other rest) q h k = (h.0, joined rest q h.1 k)
  joined (repeat turns head test body rest) q h k = (h.0, joined rest q h.1 k)
  joined (call_to link part rest) q h k = (h.0, joined rest q h.1 k)

-- ---- registers

abbrev pub NotFour : ℕ → Type 0
NotFour q = q ≢ 4

abbrev pub NotZero : ℕ → Type 0
NotZero q = q ≢ 0

abbrev Plain : Pieces → Type 0
Plain ps = EachPiece IsPlain ps

pub jumps : GoodJumps IsPlain 0
jumps z = omega arith

module _ (r : ℕ) (ten : 10 ≤ r) where
  at_r : r ≢ 4
  at_r = omega arith

  -- a load into r takes something
  load_r : (r ≢ 4) × (r ≢ 0)
  load_r = (omega arith, omega arith)

  pub plain_constant : (c : ℕ) → EachInstr IsPlain (constant r c)
  plain_constant c = by (is_short c) where
    by : (b : Bool) → EachInstr IsPlain (cond b (OpImm Add r 0 (Rattle.prem_asm.specs.Pieces.lower c) ∷ []) (address_code r c))
    by true = (at_r, tt)
    by false = (at_r, (at_r, tt))

  pub plain_scale : (n : ℕ) → EachInstr IsPlain (scale r n)
  plain_scale zero = tt
  plain_scale (suc n) = (at_r, tt)

  plain_less : (k : Kind) (a b : ℕ) → IsPlain (less k r a b)
  plain_less Int a b = at_r
  plain_less Unsigned a b = at_r

  plain_shift : (k : Kind) (s : ℕ) → IsPlain (shift_right k r s)
  plain_shift Int s = at_r
  plain_shift Unsigned s = at_r

  plain_unary : (op : UnOp) → EachInstr IsPlain (unary_code op r)
  plain_unary Neg = (at_r, tt)
  plain_unary Flip = (at_r, tt)
  plain_unary Not = (at_r, tt)

-- ---- operators

pub five : NotFour 5
five = omega arith

six : NotFour 6
six = omega arith

seven : NotFour 7
seven = omega arith

count : NotFour 28
count = omega arith

flag : NotFour 29
flag = omega arith

carry : NotFour 30
carry = omega arith

sign : NotFour 31
sign = omega arith

module _ (r s : ℕ) (ten : 10 ≤ r) (next : s ≡ r + 1) where
  r4 : r ≢ 4
  r4 = omega arith

  s4 : s ≢ 4
  s4 = omega arith

  plain_multiply : Plain (Rattle.prem_layout.specs.Template.Terms.multiply_code r s)
  plain_multiply =
      ((five, tt), ((tt, jumps, tt, ((six, tt), ((tt, jumps, ((five, tt), tt), tt), ((r4, (s4, tt)), tt)))), ((r4, tt), tt)))

  plain_turn : Plain Rattle.prem_layout.specs.Template.Terms.divide_turn
  plain_turn = ((carry, (seven, (flag, (seven, (five, (count, (flag, (flag, (flag, tt))))))))), ((tt, jumps, ((seven, (five, tt)), tt), tt), tt))

  plain_divide : (final : List Instr) → EachInstr IsPlain final → Plain (Rattle.prem_layout.specs.Template.Terms.divide_code final)
  plain_divide final h = ((seven, (count, tt)), ((tt, jumps, tt, plain_turn), (h, tt)))

  plain_unsigned : EachInstr IsPlain (Rattle.prem_layout.specs.Template.Terms.unsigned_operands r s)
  plain_unsigned = (five, (six, tt))

  plain_signed : EachInstr IsPlain (Rattle.prem_layout.specs.Template.Terms.signed_operands r s)
  plain_signed = (flag, (five, (five, (sign, (six, (six, (r4, (s4, tt))))))))

  plain_quotient : (k : Kind) → Plain (Rattle.prem_layout.specs.Template.Terms.quotient_code k r s)
  plain_quotient Unsigned = (plain_unsigned, plain_divide (OpImm Add r 5 (pos 0) ∷ []) (r4, tt))
  plain_quotient Int = (plain_signed, plain_divide (Op Xor 5 5 s ∷ Op Sub r 5 s ∷ []) (five, (r4, tt)))

  plain_remainder : (k : Kind) → Plain (Rattle.prem_layout.specs.Template.Terms.remainder_code k r s)
  plain_remainder Unsigned = (plain_unsigned, plain_divide (OpImm Add r 7 (pos 0) ∷ []) (r4, tt))
  plain_remainder Int = (plain_signed, plain_divide (Op Xor 7 7 r ∷ Op Sub r 7 r ∷ []) (seven, (r4, tt)))

  plain_by_target : (target : Target) (code : Pieces) (op : MulDivOp) → Plain code → Plain (by_target target code (MulDiv op r r s))
  plain_by_target Rv32i code op q = q
  plain_by_target Rv32im code op q = ((r4, tt), tt)

  plain_binary : (target : Target) (op : BinOp) (k : Kind) → Plain (binary_code target op k r s)
  plain_binary target Plus k = ((r4, tt), tt)
  plain_binary target Minus k = ((r4, tt), tt)
  plain_binary target Mul k = plain_by_target target _ _ plain_multiply
  plain_binary target Div k = plain_by_target target _ _ (plain_quotient k)
  plain_binary target Rem k = plain_by_target target _ _ (plain_remainder k)
  plain_binary target Shl k = ((r4, tt), tt)
  plain_binary target Shr k = ((plain_shift r ten k s, tt), tt)
  plain_binary target Lt k = ((plain_less r ten k r s, tt), tt)
  plain_binary target Le k = ((plain_less r ten k s r, (r4, tt)), tt)
  plain_binary target Gt k = ((plain_less r ten k s r, tt), tt)
  plain_binary target Ge k = ((plain_less r ten k r s, (r4, tt)), tt)
  plain_binary target Eq k = ((r4, (r4, tt)), tt)
  plain_binary target Ne k = ((r4, (r4, tt)), tt)
  plain_binary target BitAnd k = ((r4, tt), tt)
  plain_binary target BitXor k = ((r4, tt), tt)
  plain_binary target BitOr k = ((r4, tt), tt)
  plain_binary target AndAlsoOp k = tt
  plain_binary target OrElseOp k = tt

-- ---- terms

pub address_five : ((n : ℕ) → NotFour 5) × ((z : ℤ) → NotFour 5)
address_five = ((λ n. five), (λ z. five))

pub plain_term : (target : Target) (parts : ℕ → ℕ) (r : ℕ) (e : Term) → 10 ≤ r → Plain (term_code target parts r e)
plain_term target parts r (Constant at word kind) ten = (plain_constant r ten word, tt)
plain_term target parts r (Local at number kind) ten = ((load_r r ten, tt), tt)
plain_term target parts r (Scalar at global ty) ten = (address_five, ((load_r r ten, tt), tt))
plain_term target parts r (Element at global ty index) ten =
    joined IsPlain (term_code target parts r index) _ (plain_term target parts r index ten) (plain_scale r ten (shift_of ty), (address_five, ((at_r r ten, (load_r r ten, tt)), tt)))
plain_term target parts r (Unary at op operand) ten = joined IsPlain (term_code target parts r operand) _ (plain_term target parts r operand ten) (plain_unary r ten op, tt)
plain_term target parts r (Binary at op kind left right) ten =
    joined IsPlain (term_code target parts r left) _ (plain_term target parts r left ten)
    (joined IsPlain (term_code target parts (r + 1) right) _ (plain_term target parts (r + 1) right (omega arith)) (plain_binary r (r + 1) ten refl target op kind))
plain_term target parts r (AndAlso at left right) ten =
    joined IsPlain (term_code target parts r left) _ (plain_term target parts r left ten)
    ((tt, jumps, joined IsPlain (term_code target parts r right) _ (plain_term target parts r right ten) ((at_r r ten, tt), tt), tt), tt)
plain_term target parts r (OrElse at left right) ten =
    joined IsPlain (term_code target parts r left) _ (plain_term target parts r left ten)
    ((tt, jumps, ((at_r r ten, tt), tt), joined IsPlain (term_code target parts r right) _ (plain_term target parts r right ten) ((at_r r ten, tt), tt)), tt)

pub two4 : NotFour 2
two4 = omega arith

pub ten4 : NotFour 10
ten4 = omega arith

pub ten_load : NotFour 10 × NotZero 10
ten_load = (omega arith, omega arith)

pub one_load : NotFour 1 × NotZero 1
one_load = (omega arith, omega arith)

pub eleven4 : NotFour 11
eleven4 = omega arith

pub plain_test : (closed : Bool) → IsPlain (branch_of (bound_test closed))
plain_test true = tt
plain_test false = tt

-- ---- statements and functions

module _ (Good : Instr → Type 0) (e : Emits Good) where
  abbrev Each : Pieces → Type 0
  Each ps = EachPiece Good ps

  pub each_term : (target : Target) (parts : ℕ → ℕ) (r : ℕ) (t : Term) → 10 ≤ r → Each (term_code target parts r t)
  each_term target parts r t ten = each_piece IsPlain Good e.plain (term_code target parts r t) (plain_term target parts r t ten)

  pub each_ten : (target : Target) (parts : ℕ → ℕ) (t : Term) → Each (term_code target parts 10 t)
  each_ten target parts t = each_term target parts 10 t (omega arith)

  address : ((n : ℕ) → Good (Lui 5 n)) × ((z : ℤ) → Good (OpImm Add 5 5 z))
  address = ((λ n. e.plain (Lui 5 n) five), (λ z. e.plain (OpImm Add 5 5 z) five))

  stored : (k : ℕ) → Good (store_slot k)
  stored k = e.plain (store_slot k) tt

  loaded : (k : ℕ) → Good (load_slot k)
  loaded k = e.plain (load_slot k) ten_load

  some_left : Good (branch_of (nonzero 10))
  some_left = e.plain (branch_of (nonzero 10)) tt

  pub each_arguments : (target : Target) (parts : ℕ → ℕ) (frame j : ℕ) (ts : List Term) → Each (argument_code target parts frame j ts)
  each_arguments target parts frame j [] = tt
  each_arguments target parts frame j (t ∷ ts) =
      joined Good (term_code target parts 10 t) _ (each_ten target parts t) ((e.plain (store_argument frame j) tt, tt), each_arguments target parts frame (j + 1) ts)

  pub each_target : (target : Option ℕ) (rest : Pieces) → Each rest → Each (target_code target rest)
  each_target None rest h = h
  each_target (Some k) rest h = ((stored k, tt), h)

  -- the parts of loops
  pub each_first : (target : Target) (parts : ℕ → ℕ) (k : ℕ) (low : Term) → Each (followed (term_code target parts 10 low) (only (store_slot k ∷ [])))
  each_first target parts k low = joined Good (term_code target parts 10 low) _ (each_ten target parts low) ((stored k, tt), tt)

  pub each_bound : (target : Target) (parts : ℕ → ℕ) (k : ℕ) (high : Term) → Each (straight (load_slot k ∷ []) (term_code target parts 11 high))
  each_bound target parts k high = ((loaded k, tt), each_term target parts 11 high (omega arith))

  pub each_step : (k step : ℕ) → Each (only (step_code k step))
  each_step k step = ((loaded k, (e.plain (OpImm Add 10 10 (pos step)) ten4, (stored k, tt))), tt)

  pub each_count : (n : ℕ) → Each (only (count_code n))
  each_count n = ((loaded n, (e.plain (OpImm Add 10 10 (negsuc 0)) ten4, (stored n, tt))), tt)

  pub each_counter : (n turns : ℕ) → Each (straight (constant 10 turns) (only (store_slot n ∷ [])))
  each_counter n turns = (each_instr IsPlain Good e.plain (constant 10 turns) (plain_constant 10 (omega arith) turns), ((stored n, tt), tt))

  pub each_turn : (target : Target) (parts : ℕ → ℕ) (n : ℕ) (condition : Term) → Each (turn_code target parts n condition)
  each_turn target parts n condition = (
    (loaded n, tt),
    ((some_left, e.calls 0, joined Good (term_code target parts 10 condition) _ (each_ten target parts condition) ((e.plain (Op Sltu 10 0 10) ten4, tt), tt), tt), tt),
  )

  pub each_steps : (parts : Parts) (n : ℕ) (p : Steps) → Each (steps_code parts n p)
  each_steps parts n NoSteps = tt
  each_steps parts n (SetLocal at k value rest) =
      joined Good (term_code parts.target parts.global 10 value) _ (each_ten parts.target parts.global value) ((stored k, tt), each_steps parts n rest)
  each_steps parts n (SetScalar at g ty value rest) =
      joined Good (term_code parts.target parts.global 10 value) _ (each_ten parts.target parts.global value)
      (address, ((e.plain (Store (store_of ty) 5 10 (pos 0)) tt, tt), each_steps parts n rest))
  each_steps parts n (SetElement at g ty index value rest) =
      joined Good (term_code parts.target parts.global 10 value) _ (each_ten parts.target parts.global value)
      (joined Good (term_code parts.target parts.global 11 index) _ (each_term parts.target parts.global 11 index (omega arith)) (
        each_instr IsPlain Good e.plain (scale 11 (shift_of ty)) (plain_scale 11 (omega arith) (shift_of ty)),
        (address, ((e.plain (Op Add 11 11 5) eleven4, (e.plain (Store (store_of ty) 11 10 (pos 0)) tt, tt)), each_steps parts n rest)),
      ))
  each_steps parts n (Output at value rest) =
      joined Good (term_code parts.target parts.global 10 value) _ (each_ten parts.target parts.global value) ((e.outputs 10, tt), each_steps parts n rest)
  each_steps parts n (Input at k rest) = ((e.inputs 10, (stored k, tt)), each_steps parts n rest)
  each_steps parts n (If at condition taken other rest) =
      joined Good (term_code parts.target parts.global 10 condition) _ (each_ten parts.target parts.global condition)
      ((some_left, e.calls 0, each_steps parts n taken, each_steps parts (n + counters_in taken) other), each_steps parts (n + counters_in taken + counters_in other) rest)
  each_steps parts n (For at k low closed high step turns body rest) =
      joined Good (term_code parts.target parts.global 10 low) _ (each_ten parts.target parts.global low) (
        (stored k, tt),
        (
          (
            e.plain (branch_of (bound_test closed)) (plain_test closed),
            e.calls 0,
            each_bound parts.target parts.global k high,
            joined Good (steps_code parts n body) _ (each_steps parts n body) (each_step k step),
          ),
          each_steps parts (n + counters_in body) rest,
        ),
      )
  each_steps parts n (While at turns condition body rest) = (
    (each_counter n turns).0,
    (
      (stored n, tt),
      (
        (some_left, e.calls 0, each_turn parts.target parts.global n condition, ((each_count n).0, each_steps parts (n + 1) body)),
        each_steps parts (n + 1 + counters_in body) rest,
      ),
    ),
  )
  each_steps parts n (Call at target f arguments rest) =
      joined Good (argument_code parts.target parts.global (parts.frame f) 0 arguments) _ (each_arguments parts.target parts.global (parts.frame f) 0 arguments)
      (e.calls (parts.link f), each_target target (steps_code parts n rest) (each_steps parts n rest))

  pub each_declared : (target : Target) (parts : ℕ → ℕ) (k : ℕ) (ts : List Term) → Each (declare_code target parts k ts)
  each_declared target parts k [] = tt
  each_declared target parts k (t ∷ ts) = joined Good (term_code target parts 10 t) _ (each_ten target parts t) ((stored k, tt), each_declared target parts (k + 1) ts)

  pub each_result : (target : Target) (parts : ℕ → ℕ) (o : Option Term) → Each (result_code target parts o)
  each_result target parts None = tt
  each_result target parts (Some t) = each_ten target parts t

  pub each_opening : (frame : ℕ) → Each (only (opening frame))
  each_opening frame = ((e.plain (OpImm Add 2 2 (negsuc (frame - 1))) two4, (e.plain (Store Sw 2 1 (pos 0)) tt, tt)), tt)

  -- where it holds of the return too
  module _ (back : Good (Jalr 0 1 (pos 0))) where
    pub each_closing : (frame : ℕ) → Each (only (closing frame))
    each_closing frame = ((e.plain (Load Lw 1 2 (pos 0)) one_load, (e.plain (OpImm Add 2 2 (pos frame)) two4, (back, tt))), tt)

    pub each_function : (parts : Parts) (f : Routine) → Each (function_code parts f)
    each_function parts f = (
      (each_opening (frame_of f)).0,
      joined Good (declare_code parts.target parts.global (length f.text.params) f.locals) _ (each_declared parts.target parts.global (length f.text.params) f.locals)
          (joined Good (steps_code parts (locals_of f) f.body) _ (each_steps parts (locals_of f) f.body)
          (joined Good (result_code parts.target parts.global f.result) _ (each_result parts.target parts.global f.result) (each_closing (frame_of f)))),
    )
