use Rattle.std.proofs.Common.{◌≡◌, ◌++◌, ◌+◌, map, length}
use Rattle.prem_annotate.proofs.Prelude.{notes_of, lengthened, length_at}
use Rattle.std.specs.Vec.Iter.{into_iter_items}
use Rattle.prem_annotate.proofs.notes.with_lengths.Given as goal

abbrev pub invariant-loop-one : goal.invariant-loop-one
invariant-loop-one l =
    record {
      notes : map notes_of l.all.items ++ lengthened (length_at l.lengths) l.n (map notes_of (into_iter_items l.one-iterator)) ≡ lengthened (length_at l.lengths) 0 (map notes_of l.fn.notes.items);
      count : l.n + length (into_iter_items l.one-iterator) ≡ length l.fn.notes.items;
    }
