-- The instructions of operators have words, whatever stands in their registers.
use Rattle.std.proofs.Common.{◌≡◌, ℕ, ◌+◌, ◌-◌, ◌*◌, ◌%◌, ◌^◌, ◌<◌, ◌≤◌, arith, cond, ltb, true, false, Bool, List, [], ◌∷◌, ◌++◌, All}
use Rattle.prem_layout.proofs.Prelude.{Pieces, no_pieces, straight, address_of, either, repeat, call_to, followed, address_code, upper, lower, Fits as InstrFits, Instr, OpImm, Op, Target}
use Rattle.prem_layout.proofs.Prelude.{Rv32i, Rv32im, Void, Int as IntTy, Unsigned as UnsignedTy, Short, Ushort, Schar, Uchar, Neg, Flip, Not, Add as Plus, Sub as Minus, Mul, Div, Rem, Shl}
use Rattle.prem_layout.proofs.Prelude.{Shr, Lt, Le, Gt, Ge, Eq, Ne, And as BitAnd, Xor as BitXor, Or as BitOr, AndAlso as AndAlsoOp, OrElse as OrElseOp, cond_both, ltb-true, ltb-false}
use Rattle.prem_layout.proofs.Prelude.{All-nil, All-cons, ℤ, pos, negsuc}
use Rattle.prem_asm.specs.Fit.{TestFits, PiecesFit}
use Rattle.prem_asm.specs.Quiet.{EachInstr}
use Rattle.prem_isa.specs.Fields.{InBits}
use Rattle.prem_isa.specs.declared.instr.AluOp.TheVariants.{Add, Sub, Xor}
use Rattle.prem_layout.specs.Template.Terms.{is_short, constant, slot, scale, shift_of, unary_code, less, shift_right, multiply_code, divide_turn, divide_code, unsigned_operands}
use Rattle.prem_layout.specs.Template.Terms.{signed_operands, quotient_code, remainder_code, by_target, binary_code}
use Rattle.prem_syntax.specs.declared.tree.Ty.{Ty}
use Rattle.prem_syntax.specs.declared.tree.UnOp.{UnOp}
use Rattle.prem_word.specs.declared.kind.BinOp.{BinOp}
use Rattle.prem_word.specs.declared.kind.Kind.{Kind}
use Rattle.prem_word.specs.declared.kind.Kind.TheVariants.{Int, Unsigned}

-- the same condition, with what holds of each instruction as a product
abbrev pub Fitting : (parts : ℕ) (places : ℕ → ℕ) → Pieces → Type 0
Fitting parts places no_pieces = Unit {0}
Fitting parts places (straight code rest) = EachInstr InstrFits code × Fitting parts places rest
Fitting parts places (address_of rd part more rest) = ((rd < 32) × (part < parts) × (places part + more < 2 ^ 32)) × Fitting parts places rest
Fitting parts places (either test taken other rest) = (TestFits test × Fitting parts places taken × Fitting parts places other) × Fitting parts places rest
Fitting parts places (repeat turns head test body rest) = (Fitting parts places head × TestFits test × Fitting parts places body) × Fitting parts places rest
Fitting parts places (call_to link part rest) = ((link < 32) × (part < parts) × (places part % 4 ≡ 0)) × Fitting parts places rest

all_fit : (code : List Instr) → EachInstr InstrFits code → All InstrFits code
all_fit [] h = All-nil InstrFits
all_fit (i ∷ is) h = All-cons InstrFits i is h.0 (all_fit is h.1)

pub fitting : (parts : ℕ) (places : ℕ → ℕ) (ps : Pieces) → Fitting parts places ps → PiecesFit parts places ps
fitting parts places no_pieces h = tt
fitting parts places (straight code rest) h = (all_fit code h.0, fitting parts places rest h.1)
fitting parts places (address_of rd part more rest) h = (h.0, fitting parts places rest h.1)
fitting parts places (either test taken other rest) h = ((h.0.0, fitting parts places taken h.0.1, fitting parts places other h.0.2), fitting parts places rest h.1)
fitting parts places (repeat turns head test body rest) h = ((fitting parts places head h.0.0, h.0.1, fitting parts places body h.0.2), fitting parts places rest h.1)
fitting parts places (call_to link part rest) h = (h.0, fitting parts places rest h.1)

module _ (parts : ℕ) (places : ℕ → ℕ) where
  abbrev pub Good : Pieces → Type 0
  Good ps = Fitting parts places ps

  pub joined : (p q : Pieces) → Good p → Good q → Good (followed p q)
  joined no_pieces q h k = k
  joined (straight code rest) q h k = (h.0, joined rest q h.1 k)
  joined (address_of rd part more rest) q h k = (h.0, joined rest q h.1 k)
  joined (either test taken other rest) q h k = (h.0, joined rest q h.1 k)
  joined (repeat turns head test body rest) q h k = (h.0, joined rest q h.1 k)
  joined (call_to link part rest) q h k = (h.0, joined rest q h.1 k)

-- ---- instructions

lower_fits : (a : ℕ) → InBits (2 ^ 11) (lower a)
lower_fits a =
    cond_both (ltb (a % 2 ^ 12) (2 ^ 11)) (pos (a % 2 ^ 12)) (negsuc (2 * 2 ^ 11 - 1 - a % 2 ^ 12)) (InBits (2 ^ 11))
    (λ e. ltb-true (a % 2 ^ 12) (2 ^ 11) e) (λ e. let le : 2 ^ 11 ≤ a % 2 ^ 12 = ltb-false (a % 2 ^ 12) (2 ^ 11) e in omega arith)

upper_fits : (a : ℕ) → upper a < 2 ^ 20
upper_fits a = omega arith

pub address_fits : (r a : ℕ) → r < 32 → EachInstr InstrFits (address_code r a)
address_fits r a h = ((h, upper_fits a), ((h, h, lower_fits a), tt))

pub constant_fits : (r c : ℕ) → r < 32 → EachInstr InstrFits (constant r c)
constant_fits r c h = by (is_short c) where
  by : (b : Bool) → EachInstr InstrFits (cond b (OpImm Add r 0 (lower c) ∷ []) (address_code r c))
  by true = ((h, omega arith, lower_fits c), tt)
  by false = address_fits r c h

pub slot_fits : (k : ℕ) → k < 507 → InBits (2 ^ 11) (slot k)
slot_fits k h = omega arith

pub scale_fits : (r : ℕ) (ty : Ty) → r < 32 → EachInstr InstrFits (scale r (shift_of ty))
scale_fits r Void h = ((h, h, omega arith), tt)
scale_fits r IntTy h = ((h, h, omega arith), tt)
scale_fits r UnsignedTy h = ((h, h, omega arith), tt)
scale_fits r Short h = ((h, h, omega arith), tt)
scale_fits r Ushort h = ((h, h, omega arith), tt)
scale_fits r Schar h = tt
scale_fits r Uchar h = tt

pub unary_fits : (op : UnOp) (r : ℕ) → r < 32 → EachInstr InstrFits (unary_code op r)
unary_fits Neg r h = ((h, omega arith, h), tt)
unary_fits Flip r h = ((h, h, omega arith), tt)
unary_fits Not r h = ((h, h, omega arith), tt)

less_fits : (k : Kind) (r a b : ℕ) → r < 32 → a < 32 → b < 32 → InstrFits (less k r a b)
less_fits Int r a b h i j = (h, i, j)
less_fits Unsigned r a b h i j = (h, i, j)

shift_fits : (k : Kind) (r s : ℕ) → r < 32 → s < 32 → InstrFits (shift_right k r s)
shift_fits Int r s h i = (h, h, i)
shift_fits Unsigned r s h i = (h, h, i)

abbrev pub Imm : ℤ → Type 0
Imm z = InBits (2 ^ 11) z

pub i0 : Imm (pos 0)
i0 = omega arith

pub i1 : Imm (pos 1)
i1 = omega arith

pub less_one : Imm (negsuc 0)
less_one = omega arith

abbrev pub Below : ℕ → Type 0
Below r = r < 32

pub r0 : Below 0
r0 = omega arith

pub r5 : Below 5
r5 = omega arith

pub r6 : Below 6
r6 = omega arith

r7 : Below 7
r7 = omega arith

r28 : Below 28
r28 = omega arith

r29 : Below 29
r29 = omega arith

r30 : Below 30
r30 = omega arith

r31 : Below 31
r31 = omega arith

s1 : Below 1
s1 = omega arith

-- ---- operators

module _ (parts : ℕ) (places : ℕ → ℕ) (r s : ℕ) (h : r < 32) (k : s < 32) where
  abbrev pub Has : Pieces → Type 0
  Has ps = Fitting parts places ps

  multiply_has : Has (multiply_code r s)
  multiply_has =
      (((r5, r0, i0), tt), ((tt, (k, r0), (((r6, k, i1), tt), (((r6, r0), (((r5, r5, h), tt), tt), tt), (((h, h, s1), ((k, k, s1), tt)), tt)))), (((h, r5, i0), tt), tt)))

  turn_has : Has divide_turn
  turn_has = (
    ((r30, r7, r31), ((r7, r7, s1), ((r29, r5, r31), ((r7, r7, r29), ((r5, r5, s1), ((r28, r28, less_one), ((r29, r7, r6), ((r29, r29, i1), ((r29, r29, r30), tt))))))))),
    (((r29, r0), (((r7, r7, r6), ((r5, r5, i1), tt)), tt), tt), tt),
  )

  divide_has : (final : List Instr) → EachInstr InstrFits final → Has (divide_code final)
  divide_has final f = (((r7, r0, i0), ((r28, r0, (let i : Imm (pos 32) = omega arith in i)), tt)), ((tt, (r28, r0), turn_has), (f, tt)))

  unsigned_has : EachInstr InstrFits (unsigned_operands r s)
  unsigned_has = ((r5, h, i0), ((r6, k, i0), tt))

  signed_has : EachInstr InstrFits (signed_operands r s)
  signed_has = ((r29, h, r31), ((r5, h, r29), ((r5, r5, r29), ((r31, k, r31), ((r6, k, r31), ((r6, r6, r31), ((h, r29, i0), ((k, r29, r31), tt))))))))

  quotient_has : (q : Kind) → Has (quotient_code q r s)
  quotient_has Unsigned = (unsigned_has, divide_has (OpImm Add r 5 (pos 0) ∷ []) ((h, r5, i0), tt))
  quotient_has Int = (signed_has, divide_has (Op Xor 5 5 s ∷ Op Sub r 5 s ∷ []) ((r5, r5, k), ((h, r5, k), tt)))

  remainder_has : (q : Kind) → Has (remainder_code q r s)
  remainder_has Unsigned = (unsigned_has, divide_has (OpImm Add r 7 (pos 0) ∷ []) ((h, r7, i0), tt))
  remainder_has Int = (signed_has, divide_has (Op Xor 7 7 r ∷ Op Sub r 7 r ∷ []) ((r7, r7, h), ((h, r7, h), tt)))

  target_has : (target : Target) (code : Pieces) (one : Instr) → Has code → InstrFits one → Has (by_target target code one)
  target_has Rv32i code one c f = c
  target_has Rv32im code one c f = ((f, tt), tt)

  pub binary_has : (target : Target) (op : BinOp) (q : Kind) → Has (binary_code target op q r s)
  binary_has target Plus q = (((h, h, k), tt), tt)
  binary_has target Minus q = (((h, h, k), tt), tt)
  binary_has target Mul q = target_has target _ _ multiply_has (h, h, k)
  binary_has target Div q = target_has target _ _ (quotient_has q) (h, h, k)
  binary_has target Rem q = target_has target _ _ (remainder_has q) (h, h, k)
  binary_has target Shl q = (((h, h, k), tt), tt)
  binary_has target Shr q = ((shift_fits q r s h k, tt), tt)
  binary_has target Lt q = ((less_fits q r r s h h k, tt), tt)
  binary_has target Le q = ((less_fits q r s r h k h, ((h, h, i1), tt)), tt)
  binary_has target Gt q = ((less_fits q r s r h k h, tt), tt)
  binary_has target Ge q = ((less_fits q r r s h h k, ((h, h, i1), tt)), tt)
  binary_has target Eq q = (((h, h, k), ((h, h, i1), tt)), tt)
  binary_has target Ne q = (((h, h, k), ((h, r0, h), tt)), tt)
  binary_has target BitAnd q = (((h, h, k), tt), tt)
  binary_has target BitXor q = (((h, h, k), tt), tt)
  binary_has target BitOr q = (((h, h, k), tt), tt)
  binary_has target AndAlsoOp q = tt
  binary_has target OrElseOp q = tt

-- instructions behind others
pub each_behind : (xs ys : List Instr) → EachInstr InstrFits xs → EachInstr InstrFits ys → EachInstr InstrFits (xs ++ ys)
each_behind [] ys h k = k
each_behind (x ∷ xs) ys h k = (h.0, each_behind xs ys h.1 k)
