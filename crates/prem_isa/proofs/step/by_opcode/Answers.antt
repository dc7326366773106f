use Rattle.std.proofs.Common.{refl}
use Rattle.prem_isa.proofs.step.by_opcode.Goals as goal

pub returns-in-55-clause-fit : goal.returns-in-55-clause-fit
returns-in-55-clause-fit c = c.moved.ensures.fit c.args.size

pub returns-in-23-clause-fit : goal.returns-in-23-clause-fit
returns-in-23-clause-fit c = c.moved-in-23.ensures.fit c.args.size

pub returns-in-111-clause-fit : goal.returns-in-111-clause-fit
returns-in-111-clause-fit c = c.jumped.ensures.fit c.args.size

pub returns-in-103-clause-fit : goal.returns-in-103-clause-fit
returns-in-103-clause-fit c = c.jumped-in-103.ensures.fit c.args.size

pub returns-in-99-clause-fit : goal.returns-in-99-clause-fit
returns-in-99-clause-fit c = c.branched.ensures.fit c.args.size

pub returns-in-19-clause-fit : goal.returns-in-19-clause-fit
returns-in-19-clause-fit c = c.with_constant.ensures.fit c.args.size

pub returns-in-51-clause-fit : goal.returns-in-51-clause-fit
returns-in-51-clause-fit c = c.with_registers.ensures.fit c.args.size

pub returns-in-15-clause-fit : goal.returns-in-15-clause-fit
returns-in-15-clause-fit c = c.moved-in-15.ensures.fit c.args.size

pub returns-in-115-clause-fit : goal.returns-in-115-clause-fit
returns-in-115-clause-fit c = c.called.ensures.fit c.args.size

pub returns-in-11-clause-fit : goal.returns-in-11-clause-fit
returns-in-11-clause-fit c = c.marked.ensures.fit c.args.size

pub returns-in-99-clause-outcome : goal.returns-in-99-clause-outcome
returns-in-99-clause-outcome c = rw (c.in-99.is) (λ view input. c.branched.ensures.outcome c.args.target c.args.size view c.args.phase input)

pub returns-in-3-clause-outcome : goal.returns-in-3-clause-outcome
returns-in-3-clause-outcome c = rw (c.in-3.is) (λ view input. c.loading.ensures.outcome c.args.target view c.args.phase input)

pub returns-in-35-clause-outcome : goal.returns-in-35-clause-outcome
returns-in-35-clause-outcome c = rw (c.in-35.is) (λ view input. c.storing.ensures.outcome c.args.target view c.args.phase input)

pub returns-in-51-clause-outcome : goal.returns-in-51-clause-outcome
returns-in-51-clause-outcome c = rw (c.in-51.is) (λ view input. c.with_registers.ensures.outcome c.args.size view c.args.pc c.args.phase input refl)
