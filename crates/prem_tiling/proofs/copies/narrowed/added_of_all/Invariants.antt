use Rattle.std.proofs.Common.{◌≡◌, drop, map}
use Rattle.prem_tiling.proofs.Prelude.{name_bytes, expression_of, added_view, joined, added_of_all}
use Rattle.prem_tiling.proofs.copies.narrowed.added_of_all.Given as goal

abbrev pub invariant-terms : goal.invariant-terms
invariant-terms l =
    joined (added_view l.all) (added_of_all (name_bytes l.i) (name_bytes l.g) (map expression_of (drop l.e-index l.es))) ≡ added_of_all (name_bytes l.i) (name_bytes l.g) (map expression_of l.es)
