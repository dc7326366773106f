use Rattle.std.specs.Prelude.{IfOk}
use Rattle.std.proofs.Common.{◌≡◌, subst}
use Rattle.prem_cycle.specs.State.{MachineState}
use Rattle.prem_wave.specs.Signals.{values_after}
use Rattle.prem_wave.proofs.tracing.shown_after.Goals as goal

pub returns : goal.returns
returns g c =
    subst (λ (s : MachineState). IfOk c.values_after.result (λ values. values.items ≡ values_after c.args.devices c.args.before s)) c.parts.ensures.state c.values_after.ensures
