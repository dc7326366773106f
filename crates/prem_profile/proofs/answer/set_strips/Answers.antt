use Rattle.std.proofs.Common.{subst}
use Rattle.prem_tasks.specs.At.{broken_early}
use Rattle.prem_tasks.specs.SetOf.{set_of}
use Rattle.prem_tasks.specs.Stops.{Stop, Stops}
use Rattle.prem_tasks.specs.Told.{refusal_of}
use Rattle.prem_profile.proofs.Tabled.{not_stopped}
use Rattle.prem_profile.proofs.answer.set_strips.Goals as goal

pub unreachable-requires : goal.unreachable-requires
unreachable-requires c =
    let set = set_of c.args.set.now in
    let stopped = c.in-Err-Refused in
    not_stopped set (refusal_of stopped.field-0-0.value) c.requires.lawful
    (subst (λ (stop : Stop). Stops stop (broken_early set)) stopped.field-0-is stopped.ensures)
