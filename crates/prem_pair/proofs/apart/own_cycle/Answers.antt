use Rattle.std.proofs.Common.{◌*◌, ◌+◌, ◌≤◌, ap, arith}
use Rattle.prem_pair.proofs.Prelude.{counts_more, mode_after, has_room, CoreParts, counts_in}
use Rattle.prem_pair.proofs.Owning.{pays_own}
use Rattle.prem_pair.proofs.apart.own_cycle.Goals as goal

pub returns-clause-own : goal.returns-clause-own
returns-clause-own g c = λ holds.
    let x = c.args.parts.now in
    let r = c.requires in
    let some : 1 ≤ x.core.debt.cost = omega (arith, c.if-cost-eq0.false, c.cost.ensures) in
    pays_own c.args.setting.now holds x c.pay.new.self c.args.task (ap (λ (k : CoreParts). k.debt) c.pay.ensures.core) r.going some r.trapped
    (has_room c.args.setting.now c.args.requests.now x r.stands r.room r.intervals)

pub returns-clause-goes : goal.returns-clause-goes
returns-clause-goes g c =
    let x = c.args.parts.now in
    let r = c.requires.goes in
    record {
      ready = mode_after x.now (x.now + 1) x.sched x.moment.mode c.requires.stands.periods (omega arith) r.ready;
      first = omega (arith, r.first);
      counts = counts_more (4 * x.now) (4 * (x.now + 1)) (counts_in x.facts) r.counts (omega arith);
    }
