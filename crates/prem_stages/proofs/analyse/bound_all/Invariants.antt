use Rattle.std.specs.List.{AllByRecursion}
use Rattle.std.proofs.Common.{◌≡◌, ◌++◌, map, drop}
use Rattle.prem_layout.specs.Rules.{first_among, over_tasks}
use Rattle.prem_tasks.specs.Broken.{range_rules}
use Rattle.prem_stages.specs.Stages.{checked_text}
use Rattle.prem_stages.specs.Programs.{IsBounded, bounded_text}
use Rattle.prem_stages.proofs.analyse.bound_all.Given as goal

abbrev pub invariant-loop-n : goal.invariant-loop-n
invariant-loop-n l =
    record {
      rest : first_among range_rules l.n (map checked_text (drop l.n l.programs)) ≡ over_tasks range_rules (map checked_text l.programs);
      programs : map bounded_text l.all.items ++ map checked_text (drop l.n l.programs) ≡ map checked_text l.programs;
      bounded : AllByRecursion IsBounded l.all.items;
    }
