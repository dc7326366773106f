use Rattle.std.proofs.Common.{◌≡◌, ◌++◌, drop}
use Rattle.prem_profile.specs.Lines.Memory.{list_lines}
use Rattle.prem_profile.proofs.lines.step.+steps.Given as goal

-- what is there, and what is left
abbrev pub invariant-push_steps-loop-step : goal.invariant-push_steps-loop-step
invariant-push_steps-loop-step l = l.lines.items ++ list_lines l.target (drop l.step-index l.steps) ≡ l.fn.lines.items ++ list_lines l.target l.steps
