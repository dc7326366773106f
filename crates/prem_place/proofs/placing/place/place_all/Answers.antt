use Rattle.std.specs.Vec.Iter.{into_iter_items}
use Rattle.std.proofs.Common.{drop}
use Rattle.prem_place.proofs.PlacingLemmas.Loop.{begins, next_lies, next_same, next_placed, next_stands, next_coded, others_next, next_count}
use Rattle.prem_place.proofs.placing.place.place_all.Goals as goal

pub loop-task-init : goal.loop-task-init
loop-task-init c =
    let b = begins c.args.p.now c.args.l.now c.args.tasks.items (into_iter_items c.into_iter-task-iterator.result)
    c.new-all.result.items c.requires.plant c.requires.tasks c.requires.count c.requires.places
    c.into_iter-task-iterator.ensures.into_iter_gives.0 c.new-all.ensures.items in
    record { same = b.same; placed = b.placed; stands = b.stands; coded = b.coded; lies = b.lies; count = b.count }

pub place_task-requires-clause-lies : goal.place_task-requires-clause-lies
place_task-requires-clause-lies c =
    next_lies c.args.p.now (drop c.loop-task.first c.args.l.now) (into_iter_items c.loop-task.task-iterator) (into_iter_items c.next.new.self)
    c.in-Some.task c.in-Some.ensures.steps.0 c.loop-task.invariant.lies

pub loop-task-preserved : goal.loop-task-preserved
loop-task-preserved c =
    let p = c.args.p.now in
    let l = c.args.l.now in
    let first = c.loop-task.first in
    let k = c.part_count-first.result in
    let tasks = c.args.tasks.items in
    let xs = into_iter_items c.loop-task.task-iterator in
    let rest = into_iter_items c.next.new.self in
    let task = c.in-Some.task in
    let old = c.loop-task.all.items in
    let new = c.push.new.self.items in
    let x = c.in_ok-placed.placed in
    let e = c.in-Some.ensures.steps.0 in
    let en = c.in_ok-push.ensures.items in
    let is = c.in_ok-placed.ensures.same in
    let count = c.part_count-first.ensures.count in
    let i = c.loop-task.invariant in
    record {
      same = next_same p l first k tasks xs rest task old new x e en is count i.same;
      placed = next_placed p l first k tasks xs rest task old new x e en is count c.in_ok-placed.ensures.placed i.placed;
      stands = next_stands p l first k tasks xs rest task old new x e en is count c.in_ok-placed.ensures.stands i.stands;
      coded = next_coded p l first k tasks xs rest task old new x e en is count i.coded;
      lies = others_next p l first k tasks xs rest task old new x e en is count i.coded i.lies;
      count = next_count p l first k tasks xs rest task old new x e en is count c.part_count-first.ensures.few i.count;
    }
