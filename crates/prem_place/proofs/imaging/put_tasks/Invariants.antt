use Rattle.std.proofs.Common.{◌≡◌, map, drop, length}
use Rattle.prem_layout.specs.Image.{with_tasks}
use Rattle.prem_place.specs.Placed.PlacedOf.{placed_of}
use Rattle.prem_place.specs.Imaging.Standing.{AllFit}
use Rattle.prem_place.proofs.imaging.put_tasks.Given as goal

abbrev pub invariant-loop-n : goal.invariant-loop-n
invariant-loop-n l =
    record {
      rest : with_tasks (map placed_of (drop l.n l.tasks)) l.content ≡ with_tasks (map placed_of l.tasks) l.fn.content;
      fits : AllFit (length l.fn.content) (drop l.n l.tasks) (map (λ bs. bs.items) (drop l.n l.blocks));
      long : length l.content ≡ length l.fn.content;
    }
