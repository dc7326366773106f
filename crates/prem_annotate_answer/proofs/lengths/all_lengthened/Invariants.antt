use Rattle.std.specs.Vec.Iter.{into_iter_items}
use Rattle.std.proofs.Common.{◌≡◌, ◌++◌, ◌+◌, map, length}
use Rattle.prem_place.specs.Verdict.Told.{bounds_of}
use Rattle.prem_annotate_answer.specs.Written.{length_told}
use Rattle.prem_annotate_answer.specs.Steps.{all_lengthened, notes_in}
use Rattle.prem_annotate_answer.proofs.lengths.all_lengthened.Given as goal

abbrev pub invariant-loop-one : goal.invariant-loop-one
invariant-loop-one l =
    record {
      notes : map notes_in l.all.items ++ all_lengthened (length_told (map bounds_of l.bounds)) l.n (map notes_in (into_iter_items l.one-iterator))
          ≡ all_lengthened (length_told (map bounds_of l.bounds)) 0 (map notes_in l.fn.notes.items);
      count : l.n + length (into_iter_items l.one-iterator) ≡ length l.fn.notes.items;
    }
