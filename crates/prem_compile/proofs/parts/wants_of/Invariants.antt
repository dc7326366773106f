use Rattle.std.specs.List.{AllByRecursion}
use Rattle.std.proofs.Common.{◌≡◌, ◌++◌, ◌*◌, ◌≤◌, map, drop}
use Rattle.prem_list.specs.Sequence.{items_of}
use Rattle.prem_prefetch.specs.Sizes.CodedOf.{IsCodedTask, coded_in}
use Rattle.prem_color.specs.Standing.{TasksStand}
use Rattle.prem_color.specs.Wants.{wants_from}
use Rattle.prem_color.specs.WantOf.{want_of}
use Rattle.prem_compile.proofs.parts.wants_of.Given as goal

abbrev pub invariant-loop-n : goal.invariant-loop-n
invariant-loop-n l =
    record {
      rest : map want_of (items_of l.wants) ++ wants_from l.sizes l.n l.first (map coded_in (drop l.n l.tasks)) ≡ wants_from l.sizes 0 0 (map coded_in l.tasks);
      there : TasksStand l.sizes l.first (map coded_in (drop l.n l.tasks));
      each : AllByRecursion IsCodedTask (drop l.n l.tasks);
      low : l.first ≤ 1024 * l.n;
    }
