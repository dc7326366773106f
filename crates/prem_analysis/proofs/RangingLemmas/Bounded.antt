-- What the table of ranges gives lies in one of both kinds.
use Rattle.std.proofs.Common.{◌≡◌, arith, subst, sym}
use Rattle.std.specs.Prelude.{pos, negsuc, ◌≤ℤ◌}
use Rattle.prem_analysis.proofs.Prelude.{Span, IsRange, Kind, Int, Unsigned, ints}

-- the least and the greatest number of both kinds
least_of_kind : (k : Kind) (r : Span) → IsRange k r → negsuc 2147483647 ≤ℤ r.lo
least_of_kind Int r is = is.least
least_of_kind Unsigned r is = let l = is.least in omega (arith, ints)

greatest_of_kind : (k : Kind) (r : Span) → IsRange k r → r.hi ≤ℤ pos 4294967295
greatest_of_kind Int r is = let g = is.greatest in omega (arith, ints)
greatest_of_kind Unsigned r is = is.greatest

-- the same for ranges that are equal to it
pub least_of_same : (k : Kind) (r s : Span) → s ≡ r → IsRange k r → negsuc 2147483647 ≤ℤ s.lo
least_of_same k r s e is = least_of_kind k s (subst (IsRange k) (sym e) is)

pub greatest_of_same : (k : Kind) (r s : Span) → s ≡ r → IsRange k r → s.hi ≤ℤ pos 4294967295
greatest_of_same k r s e is = greatest_of_kind k s (subst (IsRange k) (sym e) is)
