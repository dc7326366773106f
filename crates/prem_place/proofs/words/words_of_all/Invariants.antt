use Rattle.std.proofs.Common.{◌≡◌, ◌++◌, map, drop}
use Rattle.prem_layout.specs.Rules.{first_among, over_tasks, reach_rules}
use Rattle.prem_place.specs.Content.Blocks.{block_of}
use Rattle.prem_place.specs.Placed.PlacedOf.{placed_of}
use Rattle.prem_place.specs.Words.Far.{words_in}
use Rattle.prem_place.proofs.words.words_of_all.Given as goal

abbrev pub invariant-loop-n : goal.invariant-loop-n
invariant-loop-n l =
    record {
      rest : first_among reach_rules l.n (map placed_of (drop l.n l.tasks)) ≡ over_tasks reach_rules (map placed_of l.tasks);
      words : map (λ blocks. map block_of blocks.items) l.all.items ++ map words_in (drop l.n l.tasks) ≡ map words_in l.tasks;
    }
