use Rattle.std.proofs.Common.{◌≡◌, drop}
use Rattle.prem_profile.specs.Lines.Memory.{list_has}
use Rattle.prem_profile.proofs.lines.step.+code.Given as goal

-- what is left tells what all tell
abbrev pub invariant-any_has_code-loop-step : goal.invariant-any_has_code-loop-step
invariant-any_has_code-loop-step l = list_has (drop l.step-index l.steps) ≡ list_has l.steps
