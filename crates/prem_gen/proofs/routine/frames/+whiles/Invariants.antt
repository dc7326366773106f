use Rattle.std.proofs.Common.{◌≡◌, ◌+◌, ◌≤◌, drop, min}
use Rattle.prem_gen.specs.Routine.StepCode.{list_whiles}
use Rattle.prem_gen.specs.Frame.FrameOf.{most}
use Rattle.prem_gen.proofs.routine.frames.+whiles.Given as goal

abbrev pub invariant-whiles_among-loop-step : goal.invariant-whiles_among-loop-step
invariant-whiles_among-loop-step l = record {
  few : l.found ≤ most;
  sum : min (l.found + list_whiles (drop l.step-index l.steps)) most ≡ min (list_whiles l.steps) most;
}
