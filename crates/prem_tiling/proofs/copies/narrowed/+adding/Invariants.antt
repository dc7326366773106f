use Rattle.std.proofs.Common.{◌≡◌, drop}
use Rattle.prem_tiling.proofs.Prelude.{name_bytes, statements_of, added_view, joined, added_within}
use Rattle.prem_tiling.proofs.copies.narrowed.+adding.Given as goal

abbrev pub invariant-added_within-stmts : goal.invariant-added_within-stmts
invariant-added_within-stmts l =
    joined (added_view l.all) (added_within (name_bytes l.i) (name_bytes l.g) (statements_of (drop l.stmt-index l.stmts))) ≡ added_within (name_bytes l.i) (name_bytes l.g) (statements_of l.stmts)
