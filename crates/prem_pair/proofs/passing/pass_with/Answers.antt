use Rattle.std.proofs.Common.{◌*◌, sym, subst, refl}
use Rattle.prem_pair.proofs.Prelude.{Parts, Goes}
use Rattle.prem_pair.proofs.Passes.{goes_at}
use Rattle.prem_pair.proofs.passing.pass_with.Goals.{then-holds, else-holds+else-not-wants_bus}
use Rattle.prem_pair.proofs.passing.pass_with.Goals as goal

pub returns-clause-goes : goal.returns-clause-goes
returns-clause-goes g c =
    let old = c.args.parts.now in
    let r = c.requires in
    let G : Parts g.row.P.Denot → Type 0 = λ x. Goes (4 * c.args.at) (record x { now = c.args.at }) in
    elim c.if-holds.branch [
      | then-holds w ↦ subst G (sym w.parts-is)
          (goes_at old w.pass.new.self w.pass.new.core c.args.at r.stands.periods r.from r.goes (w.pass.ensures.mode old.now old.sched r.goes.ready)
          w.pass.ensures.interval)
      | else-holds+else-not-wants_bus w ↦ subst G (sym w.parts-is) (goes_at old old.moment old.core c.args.at r.stands.periods r.from r.goes r.goes.ready refl)
    ]
