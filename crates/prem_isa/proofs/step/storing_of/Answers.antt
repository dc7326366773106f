use Rattle.std.proofs.Common.{◌≡◌, ◌^◌, Option, ap, sym, ◌∙◌, slice_index, option_map}
use Rattle.prem_isa.specs.declared.effect.Outcome.{Outcome}
use Rattle.prem_isa.specs.declared.fields.Fields.{Fields}
use Rattle.prem_isa.specs.declared.instr.Instr.{Instr}
use Rattle.prem_isa.specs.declared.instr.Instr.TheVariants.{Store}
use Rattle.prem_isa.specs.Codes.{store_op}
use Rattle.prem_isa.specs.Decode.{instr_of}
use Rattle.prem_isa.specs.Fields.{fields_of, imm_s, signed}
use Rattle.prem_isa.specs.Step.{act_of}
use Rattle.prem_isa.proofs.step.storing_of.Goals as goal

pub returns-in-Stores-clause-outcome : goal.returns-in-Stores-clause-outcome
returns-in-Stores-clause-outcome c = λ target view phase input.
    let f = fields_of c.args.word in
    let opcode : f.opcode ≡ 35 = sym c.opcode_of.ensures.code ∙ c.if-opcode_of-ne35.false in
    let A : Option Instr → Outcome = λ i. act_of target c.args.size view (slice_index c.args.registers.now) c.args.pc phase input i in
    let B : Fields → Outcome = λ x. A (option_map (λ op. Store op x.rs1 x.rs2 (signed (2 ^ 11) (imm_s x))) (store_op x.funct3)) in
    c.in-Stores.ensures.outcome target view phase input
    ∙ ap B c.of.ensures.fields
    ∙ ap (λ n. A (instr_of (record f { opcode = n }))) (sym opcode)
