use Rattle.std.proofs.Common.{sym}
use Rattle.std.specs.Vec.Iter.{into_iter_items}
use Rattle.prem_front.specs.StageOf.{stage_of, step_of}
use Rattle.prem_front.proofs.Taking.{read_next}
use Rattle.prem_front.proofs.program.take_one.Goals as goal

pub returns-clause-takes : goal.returns-clause-takes
returns-clause-takes c = λ items.
    read_next items (stage_of c.args.stage) (into_iter_items c.args.tokens.now) (into_iter_items c.next.new.self) c.in-Some.spotted
    (step_of c.in_ok-step.step) c.in-Some.ensures.items (sym c.in_ok-step.ensures)
