use Rattle.std.proofs.Common.{◌≡◌, drop, map}
use Rattle.prem_tiling.proofs.Prelude.{items_of, name_bytes, statements_before, statements_of, all_with_calls}
use Rattle.prem_tiling.proofs.copies.statements.+copying.Given as goal

abbrev pub invariant-copy_stmts-stmts : goal.invariant-copy_stmts-stmts
invariant-copy_stmts-stmts l =
    statements_before (items_of l.copies) (all_with_calls (name_bytes l.name) (map name_bytes l.tiles) (statements_of (drop l.stmt-index l.stmts)))
    ≡ all_with_calls (name_bytes l.name) (map name_bytes l.tiles) (statements_of l.stmts)
