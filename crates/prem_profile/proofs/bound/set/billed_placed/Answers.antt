use Rattle.std.specs.List.{AllByRecursion}
use Rattle.std.proofs.Common.{List, length, sym, subst, ap, ◌∙◌, arith}
use Rattle.std.proofs.lemmas.List.{length-map}
use Rattle.prem_layout.specs.Placed.{Placed}
use Rattle.prem_place.specs.Placed.PlacedOf.{placed_of}
use Rattle.prem_tasks.specs.At.{placed_by}
use Rattle.prem_plant.specs.declared.plant.Plant.{Plant}
use Rattle.prem_plant.specs.Ranges.{IsPlant}
use Rattle.prem_tasks.specs.SetOf.{set_of}
use Rattle.prem_wcet.specs.Lengths.{IsTimedTask}
use Rattle.prem_wcet.proofs.Timing.{tasks_timed}
use Rattle.prem_profile.specs.Bound.Profile.{AreShort, set_bill}
use Rattle.prem_profile.proofs.bound.set.billed_placed.Goals as goal

pub set_items-requires-clause-tasks : goal.set_items-requires-clause-tasks
set_items-requires-clause-tasks c =
    let same = c.plant-plant.ensures.plant in
    subst (λ (q : Plant). AllByRecursion (IsTimedTask q) c.args.tasks.now) (sym same)
    (tasks_timed (set_of c.args.set.now) c.args.parts.sizes.items c.args.layout c.args.tasks.now c.in_ok-compiled.compiled
    (subst IsPlant same c.plant-plant.ensures.ranges) c.requires.placed c.in_ok-compiled.ensures)

pub returns : goal.returns
returns c =
    record {
      made = c.in_ok-compiled.ensures;
      bill = c.in_ok-bill.ensures.bill ∙ (λ i. set_bill (c.plant-plant.ensures.plant i) (c.requires.placed.placed i));
      plant = subst IsPlant c.plant-plant.ensures.plant c.plant-plant.ensures.ranges;
      short = subst (λ (q : Plant). AreShort q (placed_by (set_of c.args.set.now) c.args.layout)) c.plant-plant.ensures.plant
          (subst (λ (ts : List Placed). AreShort c.plant-plant.result.now ts) c.requires.placed.placed c.in_ok-bill.ensures.short);
      few = (let count = c.requires.placed.count in let same = ap length c.requires.placed.placed in let long = length-map c.args.tasks.now placed_of in omega (arith, count, same, long));
    }
