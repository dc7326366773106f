use Rattle.std.proofs.Common.{◌≡◌, ◌^◌, Option, ap, sym, ◌∙◌, slice_index, option_map}
use Rattle.prem_isa.specs.declared.effect.Outcome.{Outcome}
use Rattle.prem_isa.specs.declared.fields.Fields.{Fields}
use Rattle.prem_isa.specs.declared.instr.Instr.{Instr}
use Rattle.prem_isa.specs.declared.instr.Instr.TheVariants.{Branch}
use Rattle.prem_isa.specs.Codes.{branch_op}
use Rattle.prem_isa.specs.Decode.{instr_of}
use Rattle.prem_isa.specs.Fields.{fields_of, imm_b, signed}
use Rattle.prem_isa.specs.Step.{act_of}
use Rattle.prem_isa.proofs.step.moving_of.Goals as goal

pub as_moving-requires-in-99-clause-outcome : goal.as_moving-requires-in-99-clause-outcome
as_moving-requires-in-99-clause-outcome c = λ size view phase input m is.
    let f = fields_of c.args.word in
    let opcode : f.opcode ≡ 99 = sym c.opcode_of.ensures.code ∙ c.in-99.is in
    let A : Option Instr → Outcome = λ i. act_of c.args.target size view (slice_index c.args.registers.now) c.args.pc phase input i in
    let B : Fields → Outcome = λ x. A (option_map (λ op. Branch op x.rs1 x.rs2 (signed (2 ^ 12) (imm_b x))) (branch_op x.funct3)) in
    c.branched.ensures.outcome c.args.target size view phase input
    ∙ ap B c.of-f-in-99.ensures.fields
    ∙ ap (λ n. A (instr_of (record f { opcode = n }))) (sym opcode)
