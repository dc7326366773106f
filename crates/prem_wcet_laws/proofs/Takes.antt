-- Each load of the code of functions takes something.
use Rattle.prem_wcet_laws.proofs.Prelude.{IsPlain, Emits, Instr, Lui, Auipc, Jal, Jalr, Branch, Load, Store, OpImm, Op, MulDiv, Fence, Ecall, Ebreak, PmMem, PmExec, PmEnd, PmDone, PmIn}
use Rattle.prem_wcet_laws.proofs.Prelude.{PmOut, IsNative, zero, suc, refl}

plain_takes : (i : Instr) → IsPlain i → IsNative i
plain_takes (Lui rd imm) p = refl
plain_takes (Jal rd offset) p = refl
plain_takes (Branch op rs1 rs2 offset) p = refl
plain_takes (Load op zero rs1 offset) p = absurd (p.1 refl)
plain_takes (Load op (suc rd) rs1 offset) p = refl
plain_takes (Store op rs1 rs2 offset) p = refl
plain_takes (OpImm op rd rs1 imm) p = refl
plain_takes (Op op rd rs1 rs2) p = refl
plain_takes (MulDiv op rd rs1 rs2) p = refl
plain_takes (Auipc rd imm) p = absurd p
plain_takes (Jalr rd rs1 offset) p = absurd p
plain_takes (Fence high rd) p = absurd p
plain_takes Ecall p = absurd p
plain_takes Ebreak p = absurd p
plain_takes PmMem p = absurd p
plain_takes (PmExec rs1) p = absurd p
plain_takes PmEnd p = absurd p
plain_takes PmDone p = absurd p
plain_takes (PmIn rd) p = absurd p
plain_takes (PmOut rs1) p = absurd p

pub emits_native : Emits IsNative
emits_native = record { plain = plain_takes; calls = λ link z. refl; inputs = λ rd. refl; outputs = λ rs1. refl }
