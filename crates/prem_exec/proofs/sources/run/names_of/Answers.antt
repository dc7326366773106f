use Rattle.std.specs.Prelude.{IfOk}
use Rattle.std.proofs.Common.{◌≡◌, ◌∙◌, subst}
use Rattle.prem_tasks.specs.SetOf.{set_of}
use Rattle.prem_set.specs.Run.Names.{KnownNames}
use Rattle.prem_exec.proofs.SourcesLemmas.Lawful.{known_is}
use Rattle.prem_exec.proofs.sources.run.names_of.Goals as goal

pub returns : goal.returns
returns c =
    subst (λ (known : KnownNames). IfOk c.new.result (λ names. names ≡ known))
    (known_is c.deref.result.now c.tasks.result.now c.devices.result.now (set_of c.args.set.now) (c.deref.ensures.value ∙ c.in_ok-labels.ensures) c.tasks.ensures.tasks c.devices.ensures.devices)
    c.new.ensures
