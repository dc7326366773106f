use Rattle.std.specs.Prelude.{IfOk}
use Rattle.std.proofs.Common.{◌≡◌, sym, subst}
use Rattle.prem_cycle.specs.State.{MachineState}
use Rattle.prem_wave.specs.Calls.{AreCounted}
use Rattle.prem_wave.specs.Signals.{values_before}
use Rattle.prem_wave.proofs.tracing.shown_before.Goals as goal

pub values_before-requires : goal.values_before-requires
values_before-requires g c = subst (λ (s : MachineState). AreCounted c.args.tasks s.log.intervals c.args.calls.now) (sym c.parts.ensures.state) c.requires

pub returns : goal.returns
returns g c =
    subst (λ (s : MachineState). IfOk c.values_before.result (λ values. values.items ≡ values_before c.args.switch c.args.tasks s)) c.parts.ensures.state c.values_before.ensures
