use Rattle.std.proofs.Common.{◌≡◌, drop}
use Rattle.prem_tiling.proofs.Prelude.{statements_of, all_assigned_flags}
use Rattle.prem_tiling.proofs.copies.flags.+flagging.Given as goal

abbrev pub invariant-flag_all_assigned-stmts : goal.invariant-flag_all_assigned-stmts
invariant-flag_all_assigned-stmts l = all_assigned_flags l.names l.flags (statements_of (drop l.stmt-index l.stmts)) ≡ all_assigned_flags l.names l.initial.flags (statements_of l.stmts)
