-- Counts in their order, and one behind another.
use Rattle.std.proofs.Common.{◌≡◌, ℕ, zero, suc, ◌+◌, ◌*◌, ◌≤◌, refl, ap, ◌∙◌, sym, subst, arith, Option, Some, None}
use Rattle.prem_wcet_laws.proofs.Prelude.{same_sums, most_none, chained_assoc, none_taken, taken, within_same, within_then, chained_within, taking_within, within_first, within_second, most}
use Rattle.prem_wcet_laws.proofs.Prelude.{both, Sums, taking, chained, turned, PathCount, quiet, then_count, either_count, turned_count, IsNoMore}

pub none_behind : (x : Sums) → chained x (taking 0) ≡ x
none_behind x = same_sums _ _ (zero_behind x.whole) (ap (most x.before) (no_both x.whole) ∙ most_none x.before)
    (ap (most (most x.between None)) (no_both x.behind) ∙ most_none (most x.between None) ∙ most_none x.between) (zero_behind x.behind) where
      zero_behind : (a : Option ℕ) → both a (Some 0) ≡ a
      zero_behind None = refl
      zero_behind (Some a) = let e : a + 0 ≡ a = omega arith in ap (λ n. Some n) e

      no_both : (a : Option ℕ) → both a None ≡ None
      no_both None = refl
      no_both (Some a) = refl

-- ---- the order

pub same_count : (a : PathCount) → IsNoMore a a
same_count a = record { total = omega arith; sums = within_same a.sums }

pub no_more_then : (a b c : PathCount) → IsNoMore a b → IsNoMore b c → IsNoMore a c
no_more_then a b c h k = record { total = omega (arith, h.total, k.total); sums = within_then a.sums b.sums c.sums h.sums k.sums }

pub quiet_more : (m n : ℕ) → m ≤ n → IsNoMore (quiet m) (quiet n)
quiet_more m n le = record { total = le; sums = taking_within m n le }

pub then_no_more : (a b c d : PathCount) → IsNoMore a c → IsNoMore b d → IsNoMore (then_count a b) (then_count c d)
then_no_more a b c d h k = record { total = omega (arith, h.total, k.total); sums = chained_within a.sums b.sums c.sums d.sums h.sums k.sums }

pub either_first : (a c d : PathCount) → IsNoMore a c → IsNoMore a (either_count c d)
either_first a c d h = record { total = omega (arith, h.total); sums = within_first a.sums c.sums d.sums h.sums }

pub either_second : (a c d : PathCount) → IsNoMore a d → IsNoMore a (either_count c d)
either_second a c d h = record { total = omega (arith, h.total); sums = within_second a.sums c.sums d.sums h.sums }

-- ---- equal counts

pub count_is : (a b : PathCount) → a.total ≡ b.total → a.sums ≡ b.sums → a ≡ b
count_is a b t s = λ i. record { total = t i; sums = s i }

pub then_assoc : (a b c : PathCount) → then_count (then_count a b) c ≡ then_count a (then_count b c)
then_assoc a b c = count_is _ _ (sums_of a.total b.total c.total) (chained_assoc a.sums b.sums c.sums) where
  sums_of : (x y z : ℕ) → x + y + z ≡ x + (y + z)
  sums_of x y z = omega arith

pub quiet_then : (a b : ℕ) → then_count (quiet a) (quiet b) ≡ quiet (a + b)
quiet_then a b = count_is _ _ refl (taken a b)

pub nothing_first : (a : PathCount) → then_count (quiet 0) a ≡ a
nothing_first a = count_is _ _ (none a.total) (none_taken a.sums) where
  none : (n : ℕ) → 0 + n ≡ n
  none n = omega arith

pub nothing_last : (a : PathCount) → then_count a (quiet 0) ≡ a
nothing_last a = count_is _ _ (none a.total) (none_behind a.sums) where
  none : (n : ℕ) → n + 0 ≡ n
  none n = omega arith

pub by_same : {a b : PathCount} → a ≡ b → IsNoMore a b
by_same {a} e = subst (IsNoMore a) e (same_count a)

-- quiet steps behind others take nothing away
pub grows : (a : PathCount) (n : ℕ) → IsNoMore a (then_count a (quiet n))
grows a n = no_more_then a (then_count a (quiet 0)) _ (by_same (sym (nothing_last a))) (then_no_more a (quiet 0) a (quiet n) (same_count a) (quiet_more 0 n (omega arith)))

-- ---- loops

pub turned_out : (n : ℕ) (turn out : PathCount) → IsNoMore out (turned_count n turn out)
unfolding turned
turned_out zero turn out = record { total = omega arith; sums = within_same out.sums }
turned_out (suc n) turn out = record { total = behind_all (suc n * turn.total) out.total; sums = within_second out.sums _ out.sums (within_same out.sums) } where
  behind_all : (a b : ℕ) → b ≤ a + b
  behind_all a b = omega arith

pub turned_next : (n : ℕ) (turn out : PathCount) → IsNoMore (then_count turn (turned_count n turn out)) (turned_count (suc n) turn out)
unfolding turned
turned_next n turn out = record { total = one_more n turn.total out.total; sums = within_first _ _ out.sums (within_same _) } where
  one_more : (n a b : ℕ) → a + (n * a + b) ≤ suc n * a + b
  one_more n a b = omega arith
