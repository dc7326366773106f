use Rattle.std.proofs.Common.{◌≡◌, drop, map}
use Rattle.prem_tiling.proofs.Prelude.{items_of, name_bytes, no_statements, statements_before, calls_before}
use Rattle.prem_tiling.proofs.copies.statements.calls_of.Given as goal

abbrev pub invariant-tiles : goal.invariant-tiles
invariant-tiles l = statements_before (items_of l.calls) (calls_before l.at (map name_bytes (drop l.tile-index l.tiles)) no_statements) ≡ calls_before l.at (map name_bytes l.tiles) no_statements
