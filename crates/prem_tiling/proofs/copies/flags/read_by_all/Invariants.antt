use Rattle.std.proofs.Common.{◌≡◌, drop, map}
use Rattle.prem_tiling.proofs.Prelude.{expression_of, read_by_all}
use Rattle.prem_tiling.proofs.copies.flags.read_by_all.Given as goal

abbrev pub invariant-terms : goal.invariant-terms
invariant-terms l = read_by_all l.names l.flags (map expression_of l.es) ≡ read_by_all l.names l.flags (map expression_of (drop l.e-index l.es))
