use Rattle.std.specs.List.{AllByRecursion}
use Rattle.std.proofs.Common.{map, sym, subst, ap, ◌∙◌}
use Rattle.prem_plant.specs.declared.plant.Plant.{Plant}
use Rattle.prem_plant.specs.Ranges.{IsPlant}
use Rattle.prem_place.specs.Placed.PlacedOf.{placed_of}
use Rattle.prem_tasks.specs.SetOf.{set_of}
use Rattle.prem_wcet.specs.Times.{times_of}
use Rattle.prem_wcet.specs.Lengths.{IsTimedTask}
use Rattle.prem_wcet.proofs.Timing.{tasks_timed}
use Rattle.prem_wcet.proofs.timed.timed_placed.Goals as goal

pub times_of_all-requires-clause-tasks : goal.times_of_all-requires-clause-tasks
times_of_all-requires-clause-tasks c =
    let same = c.plant-plant.ensures.plant in
    subst (λ (q : Plant). AllByRecursion (IsTimedTask q) c.args.tasks.now) (sym same)
    (tasks_timed (set_of c.args.set.now) c.args.parts.sizes.items c.args.layout c.args.tasks.now c.in_ok-compiled.compiled
    (subst IsPlant same c.plant-plant.ensures.ranges) c.requires.placed c.in_ok-compiled.ensures)

pub returns : goal.returns
returns c =
    let set = set_of c.args.set.now in
    record {
      made = c.in_ok-compiled.ensures;
      times =
          c.in_ok-tasks.ensures.times ∙ ap (λ (q : Plant). map (times_of q c.args.tops.now) (map placed_of c.args.tasks.now)) c.plant-plant.ensures.plant
          ∙ ap (map (times_of set.plant c.args.tops.now)) c.requires.placed.placed;
      small = c.in_ok-tasks.ensures.small;
    }
