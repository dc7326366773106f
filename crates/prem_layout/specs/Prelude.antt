-- What the files of this crate's specs name of other modules, so that each imports it from one place.
pub use Rattle.prem_asm.specs.Pieces.{Pieces, address_code, address_of, address_weight, branch_of, call_to, code_of, either, first_far, followed, jump_weight, lower, no_pieces, repeat}
pub use Rattle.prem_asm.specs.Pieces.{size_of, skip_words, straight, weight, weighted}
pub use Rattle.prem_asm.specs.declared.piece.Test.{Test}
pub use Rattle.prem_isa.specs.Decode.{cost_of}
pub use Rattle.prem_isa.specs.declared.instr.AluOp.TheVariants.{Add, And, Or, Sll, Slt, Sltu, Sra, Srl, Sub, Xor}
pub use Rattle.prem_isa.specs.declared.instr.BranchOp.TheVariants.{Bge, Blt, Bltu, Bne}
pub use Rattle.prem_isa.specs.declared.instr.Instr.{Instr}
pub use Rattle.prem_isa.specs.declared.instr.Instr.TheVariants.{Jalr, Load, MulDiv, Op, OpImm, PmDone, PmEnd, PmExec, PmIn, PmMem, PmOut, Store}
pub use Rattle.prem_isa.specs.declared.instr.LoadOp.TheVariants.{Lb, Lbu, Lh, Lhu, Lw}
pub use Rattle.prem_plant.specs.Places.{Extent, HasWholeAreas, Holds, default_places, last_end}
pub use Rattle.prem_plant.specs.declared.layout.PartSize.{PartSize}
pub use Rattle.prem_plant.specs.declared.plant.Device.{Device}
pub use Rattle.prem_plant.specs.declared.plant.Plant.{Plant}
pub use Rattle.prem_plant.specs.declared.plant.Target.{Target}
pub use Rattle.prem_syntax.specs.Resolved.{AndAlso, Binary, Call, Constant, Done, Element, For, If, Input, Local, OrElse, Output, Resolved, Routine, Scalar, SetElement, SetLocal, SetScalar}
pub use Rattle.prem_syntax.specs.Resolved.{Steps, Term, Unary, While}
pub use Rattle.prem_syntax.specs.Statements.{is_marked}
pub use Rattle.prem_syntax.specs.Syntax.{GlobalVariable, MarkText, RegionText, Text}
pub use Rattle.prem_syntax.specs.declared.tree.Ty.{Ty}
pub use Rattle.prem_syntax.specs.declared.tree.Ty.TheVariants.{Schar, Short, Uchar, Ushort}
pub use Rattle.std.specs.Int.{next_multiple_of, to_le_bytes, w32}
pub use Rattle.std.specs.List.{flat_map, list_any}
pub use Rattle.std.specs.Prelude.{List, None, Option}
