use Rattle.std.specs.Prelude.{slice_index, option_map, ◌==◌, if◌then◌else◌}
use Rattle.std.proofs.Common.{ℕ, Option, ap, sym, ◌∙◌}
use Rattle.prem_isa.specs.declared.instr.Instr.{Instr}
use Rattle.prem_isa.specs.declared.instr.Instr.TheVariants.{Op, MulDiv}
use Rattle.prem_isa.specs.declared.effect.Phase.{Phase}
use Rattle.prem_isa.specs.Codes.{alu_op, muldiv_op}
use Rattle.prem_isa.specs.Step.{act_of}
use Rattle.prem_isa.proofs.step.with_registers.Goals as goal

pub returns-then-f-eq1-clause-outcome : goal.returns-then-f-eq1-clause-outcome
returns-then-f-eq1-clause-outcome c = λ (size : ℕ) (view : ℕ → ℕ) (pc : ℕ) (phase : Phase) (input : ℕ) same.
    let f = c.args.f in
    let extended : Option Instr = option_map (λ op. MulDiv op f.rd f.rs1 f.rs2) (muldiv_op f.funct3) in
    let base : Option Instr = option_map (λ op. Op op f.rd f.rs1 f.rs2) (alu_op f.funct3 f.funct7) in
    c.extended.ensures.outcome size view pc phase input same
    ∙ sym (ap (λ (n : ℕ). act_of c.args.target size view (slice_index c.args.registers.now) pc phase input (if n == 1 then extended else base)) c.if-f-eq1.true)
