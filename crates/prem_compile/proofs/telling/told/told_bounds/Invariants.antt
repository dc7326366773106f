use Rattle.std.specs.List.{AllByRecursion}
use Rattle.std.specs.Vec.Iter.{into_iter_items}
use Rattle.std.proofs.Common.{◌≡◌, ◌++◌, map}
use Rattle.prem_list.specs.Sequence.{items_of}
use Rattle.prem_place.specs.Totals.Limits.{IsBound}
use Rattle.prem_place.specs.Verdict.Told.{bounds_of, numbered}
use Rattle.prem_compile.proofs.TellingLemmas.Flattened.{flat, jobs_of}
use Rattle.prem_compile.proofs.telling.told.told_bounds.Given as goal

abbrev pub invariant-loop-bounds : goal.invariant-loop-bounds
invariant-loop-bounds l =
    record {
      facts : map numbered (items_of l.intervals) ++ flat (map bounds_of (into_iter_items l.bounds-iterator)) ≡ flat (map bounds_of l.fn.all.items);
      jobs : items_of l.jobs ++ jobs_of (map bounds_of (into_iter_items l.bounds-iterator)) ≡ jobs_of (map bounds_of l.fn.all.items);
      small : AllByRecursion IsBound (items_of l.jobs);
    }
