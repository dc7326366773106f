use Rattle.std.proofs.Common.{◌≡◌, drop}
use Rattle.prem_tiling.proofs.Prelude.{statements_of, walk_of, all_walked}
use Rattle.prem_tiling.proofs.copies.carried.+walking.Given as goal

abbrev pub invariant-walk_all-stmts : goal.invariant-walk_all-stmts
invariant-walk_all-stmts l =
    all_walked l.names (walk_of l.stale) (statements_of (drop l.stmt-index l.stmts)) ≡ all_walked l.names (walk_of l.initial.stale) (statements_of l.stmts)
