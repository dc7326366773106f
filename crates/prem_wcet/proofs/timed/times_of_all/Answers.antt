use Rattle.std.specs.List.{AllByRecursion}
use Rattle.std.proofs.Common.{List, ◌+◌, ◌++◌, ◌∷◌, [], ap, sym, subst, ◌∙◌, map, drop}
use Rattle.prem_list.specs.Sequence.{items_of}
use Rattle.prem_place.specs.Placed.PlacedOf.{placed_of}
use Rattle.prem_place.specs.declared.placed.PlacedTask.{PlacedTask}
use Rattle.prem_wcet.specs.Times.{TimesText, times_of}
use Rattle.prem_wcet.specs.TimedOf.{AreSmall, times_in}
use Rattle.prem_wcet.proofs.Turns.{all_end, drop_next, map_end, put_behind}
use Rattle.prem_wcet.proofs.timed.times_of_all.Goals as goal

pub loop-task-preserved : goal.loop-task-preserved
loop-task-preserved c =
    let f = times_of c.args.p.now c.args.tops.now in
    let tasks = c.args.tasks.now in
    let k = c.loop-task.task-index in
    let old = items_of c.loop-task.all in
    let t = c.task-item.result in
    let pushed = ap (map times_in) c.in_ok-push.ensures.ok ∙ map_end times_in old c.in_ok-times.times in
    record {
      times =
          put_behind (map times_in old) (map times_in (items_of c.push.new.self)) (map f (map placed_of (drop (k + 1) tasks))) (map f (map placed_of tasks)) (f (placed_of t))
          (pushed ∙ ap (λ y. map times_in old ++ y ∷ []) c.in_ok-times.ensures.times)
          (ap (λ (x : PlacedTask). map times_in old ++ (f (placed_of x) ∷ map f (map placed_of (drop (k + 1) tasks)))) c.task-item.is
          ∙ ap (λ (xs : List PlacedTask). map times_in old ++ map f (map placed_of xs)) (sym (drop_next t tasks k c.loop-task-test.true)) ∙ c.loop-task.invariant.times);
      small = subst (λ (xs : List TimesText). AllByRecursion AreSmall xs) (sym pushed)
          (all_end AreSmall (map times_in old) (times_in c.in_ok-times.times) c.loop-task.invariant.small c.in_ok-times.ensures.small);
    }
