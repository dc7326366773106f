use Rattle.std.specs.List.{AllByRecursion}
use Rattle.std.specs.Vec.Iter.{into_iter_items}
use Rattle.std.proofs.Common.{◌≡◌, ◌+◌, ◌++◌, length, map, drop}
use Rattle.prem_prefetch.specs.Sizes.CodedOf.{coded_in, IsCodedTask}
use Rattle.prem_tasks.specs.SetOf.{task_of}
use Rattle.prem_compile.specs.Coding.Tasks.{IsCodable, all_coded}
use Rattle.prem_compile.proofs.coding.tasks.code_tasks.Given as goal

abbrev pub invariant-loop-program : goal.invariant-loop-program
invariant-loop-program l =
    record {
      same : map coded_in l.all.items ++ all_coded (map task_of (drop l.n l.tasks)) (into_iter_items l.program-iterator) ≡ all_coded (map task_of l.tasks) l.fn.programs.items;
      coded : AllByRecursion IsCodedTask l.all.items;
      each : AllByRecursion IsCodable (into_iter_items l.program-iterator);
      left : l.n + length (into_iter_items l.program-iterator) ≡ length l.tasks;
    }
