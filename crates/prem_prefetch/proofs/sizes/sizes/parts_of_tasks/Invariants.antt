use Rattle.std.specs.List.{AllByRecursion}
use Rattle.std.proofs.Common.{◌≡◌, ◌++◌, drop}
use Rattle.prem_layout.specs.Parts.{stub_passes}
use Rattle.prem_prefetch.specs.Sizes.Sizes.{sized_from, MayHaveParts}
use Rattle.prem_prefetch.proofs.sizes.sizes.parts_of_tasks.Given as goal

-- the parts so far and those of the tasks that are left are all of them
abbrev pub invariant-loop-task : goal.invariant-loop-task
invariant-loop-task l =
    record {
      at : l.n ≡ l.task-index;
      rest : l.parts.items ++ sized_from (stub_passes l.plant) l.n (drop l.task-index l.tasks) ≡ sized_from (stub_passes l.plant) 0 l.tasks;
      may : AllByRecursion MayHaveParts (drop l.task-index l.tasks);
    }
