use Rattle.std.proofs.Common.{◌≡◌, drop}
use Rattle.prem_chart.specs.Axis.{fitting}
use Rattle.prem_chart.proofs.axis.fitting.Given as goal

-- what is left gives what all give
abbrev pub invariant-steps : goal.invariant-steps
invariant-steps l = fitting l.span (drop l.step-index l.steps) ≡ fitting l.span l.steps
