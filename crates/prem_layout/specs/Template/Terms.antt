-- The code of expressions: the value of a term comes into a register r, by means of those behind it up to x21, and of
-- x5 to x7 and x28 to x31.
use Rattle.std.specs.Prelude.{ℕ, ℤ, pos, negsuc, zero, suc, ◌+◌, ◌-◌, ◌*◌, ◌^◌, ◌||◌, nat_lt, nat_le, Bool, List, [], ◌∷◌, if◌then◌else◌}
use Rattle.prem_layout.specs.Prelude.{Pieces, no_pieces, straight, address_of, either, repeat, followed, lower, address_code, Test, Add, Sub, Sll, Slt, Sltu, Xor, Srl, Sra, Or, And, Bne}
use Rattle.prem_layout.specs.Prelude.{Instr, Load, OpImm, Op, MulDiv, Lb, Lh, Lw, Lbu, Lhu, Target, Term, Constant, Local, Scalar, Element, Unary, Binary, AndAlso, OrElse, Ty, Short, Ushort}
use Rattle.prem_layout.specs.Prelude.{Schar, Uchar}
use Rattle.prem_isa.specs.declared.instr.LoadOp.{LoadOp}
use Rattle.prem_isa.specs.declared.instr.MulDivOp.{MulDivOp}
use Rattle.prem_isa.specs.declared.instr.MulDivOp.TheVariants.{Mul as MulWord, Div as DivInt, Divu, Rem as RemInt, Remu}
use Rattle.prem_plant.specs.declared.plant.Target.TheVariants.{Rv32i, Rv32im}
use Rattle.prem_syntax.specs.declared.tree.UnOp.{UnOp}
use Rattle.prem_syntax.specs.declared.tree.UnOp.TheVariants.{Neg, Flip, Not}
use Rattle.prem_word.specs.declared.kind.BinOp.{BinOp}
use Rattle.prem_word.specs.declared.kind.BinOp.TheVariants.{Add as Plus, Sub as Minus, Mul, Div, Rem, Shl, Shr, Lt, Le, Gt, Ge, Eq, Ne, And as BitAnd, Xor as BitXor, Or as BitOr}
use Rattle.prem_word.specs.declared.kind.BinOp.TheVariants.{AndAlso as AndAlsoOp, OrElse as OrElseOp}
use Rattle.prem_word.specs.declared.kind.Kind.{Kind}
use Rattle.prem_word.specs.declared.kind.Kind.TheVariants.{Int, Unsigned}

-- instructions alone
abbrev pub only : List Instr → Pieces
only code = straight code no_pieces

-- ---- constants and places

-- one instruction holds it: its signed number is from -2 ^ 11 to 2 ^ 11 - 1
abbrev pub is_short : ℕ → Bool
is_short c = nat_lt c (2 ^ 11) || nat_le (2 ^ 32 - 2 ^ 11) c

-- a constant into r
abbrev pub constant : ℕ → ℕ → List Instr
constant r c = if is_short c then OpImm Add r 0 (lower c) ∷ [] else address_code r c

-- the offset of slot k of a frame: parameters, locals and counters stand behind the return address
abbrev pub slot : ℕ → ℤ
slot k = pos (4 + 4 * k)

-- an element of a type has 2 ^ shift bytes
abbrev pub shift_of : Ty → ℕ
shift_of Short = 1
shift_of Ushort = 1
shift_of Schar = 0
shift_of Uchar = 0
shift_of _ = 2

abbrev pub load_of : Ty → LoadOp
load_of Short = Lh
load_of Ushort = Lhu
load_of Schar = Lb
load_of Uchar = Lbu
load_of _ = Lw

-- an index in r times the bytes of an element
abbrev pub scale : ℕ → ℕ → List Instr
scale r zero = []
scale r (suc n) = OpImm Sll r r (pos (suc n)) ∷ []

-- ---- operators

abbrev pub unary_code : UnOp → ℕ → List Instr
unary_code Neg r = Op Sub r 0 r ∷ []
unary_code Flip r = OpImm Xor r r (negsuc 0) ∷ []
unary_code Not r = OpImm Sltu r r (pos 1) ∷ []

-- whether the word in a is below that in b, into r
abbrev pub less : Kind → ℕ → ℕ → ℕ → Instr
less Int r a b = Op Slt r a b
less Unsigned r a b = Op Sltu r a b

-- an arithmetic shift of an int, a logical one of an unsigned
abbrev pub shift_right : Kind → ℕ → ℕ → Instr
shift_right Int r s = Op Sra r r s
shift_right Unsigned r s = Op Srl r r s

-- whether a register is not 0
abbrev pub nonzero : ℕ → Test
nonzero r = record { op = Bne; rs1 = r; rs2 = 0 }

-- a turn of the product of r and s, which comes into x5: where the lowest bit of s is set, r is added
abbrev pub multiply_turn : ℕ → ℕ → Pieces
multiply_turn r s =
    straight (OpImm And 6 s (pos 1) ∷ [])
    (either (nonzero 6) (only (Op Add 5 5 r ∷ [])) no_pieces
    (only (OpImm Sll r r (pos 1) ∷ OpImm Srl s s (pos 1) ∷ [])))

abbrev pub multiply_code : ℕ → ℕ → Pieces
multiply_code r s =
    straight (OpImm Add 5 0 (pos 0) ∷ [])
    (repeat 32 no_pieces (nonzero s) (multiply_turn r s)
    (only (OpImm Add r 5 (pos 0) ∷ [])))

-- a turn of the division: the highest bit of x5 is shifted into the remainder in x7; x29 tells whether the divisor in x6
-- fits into it, or a bit went out of it
abbrev pub divide_shift : List Instr
divide_shift =
    OpImm Srl 30 7 (pos 31) ∷ OpImm Sll 7 7 (pos 1) ∷ OpImm Srl 29 5 (pos 31) ∷ Op Or 7 7 29 ∷ OpImm Sll 5 5 (pos 1)
    ∷ OpImm Add 28 28 (negsuc 0) ∷ Op Sltu 29 7 6 ∷ OpImm Xor 29 29 (pos 1) ∷ Op Or 29 29 30 ∷ []

abbrev pub divide_subtract : List Instr
divide_subtract = Op Sub 7 7 6 ∷ OpImm Or 5 5 (pos 1) ∷ []

abbrev pub divide_turn : Pieces
divide_turn = straight divide_shift (either (nonzero 29) (only divide_subtract) no_pieces no_pieces)

-- the quotient of x5 by x6 comes into x5, the remainder into x7
abbrev pub divide_code : List Instr → Pieces
divide_code last =
    straight (OpImm Add 7 0 (pos 0) ∷ OpImm Add 28 0 (pos 32) ∷ []) (repeat 32 no_pieces (nonzero 28) divide_turn (only last))

abbrev pub unsigned_operands : ℕ → ℕ → List Instr
unsigned_operands r s = OpImm Add 5 r (pos 0) ∷ OpImm Add 6 s (pos 0) ∷ []

-- the absolute values; in r what is negative like the left side, in s what is like the quotient: all bits, or none
abbrev pub signed_operands : ℕ → ℕ → List Instr
signed_operands r s =
    OpImm Sra 29 r (pos 31) ∷ Op Xor 5 r 29 ∷ Op Sub 5 5 29 ∷ OpImm Sra 31 s (pos 31) ∷ Op Xor 6 s 31 ∷ Op Sub 6 6 31
    ∷ OpImm Add r 29 (pos 0) ∷ Op Xor s 29 31 ∷ []

abbrev pub quotient_code : Kind → ℕ → ℕ → Pieces
quotient_code Unsigned r s = straight (unsigned_operands r s) (divide_code (OpImm Add r 5 (pos 0) ∷ []))
quotient_code Int r s = straight (signed_operands r s) (divide_code (Op Xor 5 5 s ∷ Op Sub r 5 s ∷ []))

abbrev pub remainder_code : Kind → ℕ → ℕ → Pieces
remainder_code Unsigned r s = straight (unsigned_operands r s) (divide_code (OpImm Add r 7 (pos 0) ∷ []))
remainder_code Int r s = straight (signed_operands r s) (divide_code (Op Xor 7 7 r ∷ Op Sub r 7 r ∷ []))

-- of RV32IM the instruction of a quotient, and of a remainder
abbrev pub quotient_op : Kind → MulDivOp
quotient_op Int = DivInt
quotient_op Unsigned = Divu

abbrev pub remainder_op : Kind → MulDivOp
remainder_op Int = RemInt
remainder_op Unsigned = Remu

-- the code of RV32I, or of RV32IM one instruction
abbrev pub by_target : Target → Pieces → Instr → Pieces
by_target Rv32i code one = code
by_target Rv32im code one = only (one ∷ [])

-- the word of an operator at r and s, into r
abbrev pub binary_code : Target → BinOp → Kind → ℕ → ℕ → Pieces
binary_code target Plus k r s = only (Op Add r r s ∷ [])
binary_code target Minus k r s = only (Op Sub r r s ∷ [])
binary_code target Mul k r s = by_target target (multiply_code r s) (MulDiv MulWord r r s)
binary_code target Div k r s = by_target target (quotient_code k r s) (MulDiv (quotient_op k) r r s)
binary_code target Rem k r s = by_target target (remainder_code k r s) (MulDiv (remainder_op k) r r s)
binary_code target Shl k r s = only (Op Sll r r s ∷ [])
binary_code target Shr k r s = only (shift_right k r s ∷ [])
binary_code target Lt k r s = only (less k r r s ∷ [])
binary_code target Le k r s = only (less k r s r ∷ OpImm Xor r r (pos 1) ∷ [])
binary_code target Gt k r s = only (less k r s r ∷ [])
binary_code target Ge k r s = only (less k r r s ∷ OpImm Xor r r (pos 1) ∷ [])
binary_code target Eq k r s = only (Op Sub r r s ∷ OpImm Sltu r r (pos 1) ∷ [])
binary_code target Ne k r s = only (Op Sub r r s ∷ Op Sltu r 0 r ∷ [])
binary_code target BitAnd k r s = only (Op And r r s ∷ [])
binary_code target BitXor k r s = only (Op Xor r r s ∷ [])
binary_code target BitOr k r s = only (Op Or r r s ∷ [])
binary_code target AndAlsoOp k r s = no_pieces
binary_code target OrElseOp k r s = no_pieces

-- ---- terms

-- whether r is not 0, into r
abbrev pub truth_code : ℕ → List Instr
truth_code r = Op Sltu r 0 r ∷ []

-- a scalar global, in this part, into r
abbrev pub scalar_code : ℕ → Ty → ℕ → Pieces
scalar_code part ty r = address_of 5 part 0 (only (Load (load_of ty) r 5 (pos 0) ∷ []))

-- the element of an array, in this part, whose index is in r, into r
abbrev pub element_code : ℕ → Ty → ℕ → Pieces
element_code part ty r =
    straight (scale r (shift_of ty)) (address_of 5 part 0 (only (Op Add r r 5 ∷ Load (load_of ty) r r (pos 0) ∷ [])))

-- the code of a term for a target, where the globals are in these parts
abbrev pub term_code : Target → (ℕ → ℕ) → ℕ → Term → Pieces
term_code target parts r (Constant at word kind) = only (constant r word)
term_code target parts r (Local at number kind) = only (Load Lw r 2 (slot number) ∷ [])
term_code target parts r (Scalar at global ty) = scalar_code (parts global) ty r
term_code target parts r (Element at global ty index) = followed (term_code target parts r index) (element_code (parts global) ty r)
term_code target parts r (Unary at op operand) = followed (term_code target parts r operand) (only (unary_code op r))
term_code target parts r (Binary at op kind left right) =
    followed (term_code target parts r left) (followed (term_code target parts (r + 1) right) (binary_code target op kind r (r + 1)))
term_code target parts r (AndAlso at left right) =
    followed (term_code target parts r left)
    (either (nonzero r) (followed (term_code target parts r right) (only (truth_code r))) no_pieces no_pieces)
term_code target parts r (OrElse at left right) =
    followed (term_code target parts r left)
    (either (nonzero r) (only (OpImm Add r 0 (pos 1) ∷ [])) (followed (term_code target parts r right) (only (truth_code r))) no_pieces)
