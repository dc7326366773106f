use Rattle.std.proofs.Common.{◌≡◌, drop, map}
use Rattle.prem_tiling.proofs.Prelude.{has_name, local_of, names_of}
use Rattle.prem_tiling.proofs.copies.used.local_named.Given as goal

abbrev pub invariant-locals : goal.invariant-locals
invariant-locals s = has_name (names_of (map local_of s.locals)) s.text ≡ has_name (names_of (map local_of (drop s.l-index s.locals))) s.text
