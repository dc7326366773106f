use Rattle.std.proofs.Common.{◌≡◌, drop}
use Rattle.prem_asm.specs.PiecesOf.{pieces_of}
use Rattle.prem_wcet.specs.PartsOf.{behind_list}
use Rattle.prem_wcet.proofs.outline.+behind.Given as goal

-- what is behind the rest
abbrev pub invariant-behind_steps-loop-step : goal.invariant-behind_steps-loop-step
invariant-behind_steps-loop-step l = behind_list l.target (drop l.step-index l.steps) (pieces_of l.rest) ≡ behind_list l.target l.steps (pieces_of l.code)
