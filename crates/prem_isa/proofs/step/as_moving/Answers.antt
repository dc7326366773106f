use Rattle.std.proofs.Common.{ap, subst, sym, ◌∙◌}
use Rattle.prem_isa.specs.declared.step.Moving.{Moving}
use Rattle.prem_isa.specs.Step.{UpshotFits, told_by}
use Rattle.prem_isa.proofs.step.as_moving.Goals as goal

pub returns-in-Moves-clause-outcome : goal.returns-in-Moves-clause-outcome
returns-in-Moves-clause-outcome c = λ size view phase input.
    let m : Moving = record { rd = c.in-Moves.rd; value = c.in-Moves.value; next = c.in-Moves.next } in
    ap (told_by view c.args.pc input) (sym c.in-Moves.is) ∙ c.requires.outcome size view phase input m c.in-Moves.is

pub returns-in-Moves-clause-fit : goal.returns-in-Moves-clause-fit
returns-in-Moves-clause-fit c = subst (UpshotFits 0) c.in-Moves.is (c.requires.fit 0)
