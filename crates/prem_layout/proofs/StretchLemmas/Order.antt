-- Sums that are no greater go together to sums that are no greater.
use Rattle.std.proofs.Common.{◌≡◌, ℕ, ◌≤◌, max, subst, sym, arith, Some, None, Option}
use Rattle.prem_layout.proofs.Prelude.{Path, longest_from, most, both, or_none, Sums, taking, among, chained, greatest, sums_of_path, IsLess, IsWithin}
use Rattle.prem_layout.proofs.StretchLemmas.Algebra.{none_taken}
use Rattle.prem_layout.proofs.StretchLemmas.Exact.{longest_path}

less_same : (a : Option ℕ) → IsLess a a
less_same None = tt
less_same (Some a) = omega arith

less_then : (a b c : Option ℕ) → IsLess a b → IsLess b c → IsLess a c
less_then None b c h k = tt
less_then (Some a) None c h k = absurd h
less_then (Some a) (Some b) None h k = absurd k
less_then (Some a) (Some b) (Some c) h k = omega (arith, h, k)

less_both : (a b c d : Option ℕ) → IsLess a c → IsLess b d → IsLess (both a b) (both c d)
less_both None b c d h k = tt
less_both (Some a) None c d h k = tt
less_both (Some a) (Some b) None d h k = absurd h
less_both (Some a) (Some b) (Some c) None h k = absurd k
less_both (Some a) (Some b) (Some c) (Some d) h k = omega (arith, h, k)

less_first : (a c d : Option ℕ) → IsLess a c → IsLess a (most c d)
less_first None c d h = tt
less_first (Some a) None d h = absurd h
less_first (Some a) (Some c) None h = h
less_first (Some a) (Some c) (Some d) h = omega (arith, h)

less_second : (a c d : Option ℕ) → IsLess a d → IsLess a (most c d)
less_second None c d h = tt
less_second (Some a) None d h = h
less_second (Some a) (Some c) None h = absurd h
less_second (Some a) (Some c) (Some d) h = omega (arith, h)

less_most : (a b c d : Option ℕ) → IsLess a c → IsLess b d → IsLess (most a b) (most c d)
less_most None b c d h k = less_second b c d k
less_most (Some a) None c d h k = less_first (Some a) c d h
less_most (Some a) (Some b) None d h k = absurd h
less_most (Some a) (Some b) (Some c) None h k = absurd k
less_most (Some a) (Some b) (Some c) (Some d) h k = omega (arith, h, k)

less_or_none : (a b : Option ℕ) → IsLess a b → or_none a ≤ or_none b
less_or_none None b h = omega arith
less_or_none (Some a) None h = absurd h
less_or_none (Some a) (Some b) h = h

-- ---- four sums

pub within_same : (a : Sums) → IsWithin a a
within_same a = record { whole = less_same a.whole; before = less_same a.before; between = less_same a.between; behind = less_same a.behind }

pub within_then : (a b c : Sums) → IsWithin a b → IsWithin b c → IsWithin a c
within_then a b c h k = record {
  whole = less_then a.whole b.whole c.whole h.whole k.whole;
  before = less_then a.before b.before c.before h.before k.before;
  between = less_then a.between b.between c.between h.between k.between;
  behind = less_then a.behind b.behind c.behind h.behind k.behind;
}

pub chained_within : (a b c d : Sums) → IsWithin a c → IsWithin b d → IsWithin (chained a b) (chained c d)
chained_within a b c d h k = record {
  whole = less_both a.whole b.whole c.whole d.whole h.whole k.whole;
  before = less_most a.before (both a.whole b.before) c.before (both c.whole d.before) h.before (less_both a.whole b.before c.whole d.before h.whole k.before);
  between = less_most (most a.between b.between) (both a.behind b.before) (most c.between d.between) (both c.behind d.before) (less_most a.between b.between c.between d.between h.between k.between)
      (less_both a.behind b.before c.behind d.before h.behind k.before);
  behind = less_most b.behind (both a.behind b.whole) d.behind (both c.behind d.whole) k.behind (less_both a.behind b.whole c.behind d.whole h.behind k.whole);
}

pub within_first : (a c d : Sums) → IsWithin a c → IsWithin a (among c d)
within_first a c d h = record {
  whole = less_first a.whole c.whole d.whole h.whole;
  before = less_first a.before c.before d.before h.before;
  between = less_first a.between c.between d.between h.between;
  behind = less_first a.behind c.behind d.behind h.behind;
}

pub within_second : (a c d : Sums) → IsWithin a d → IsWithin a (among c d)
within_second a c d h = record {
  whole = less_second a.whole c.whole d.whole h.whole;
  before = less_second a.before c.before d.before h.before;
  between = less_second a.between c.between d.between h.between;
  behind = less_second a.behind c.behind d.behind h.behind;
}

pub taking_within : (a b : ℕ) → a ≤ b → IsWithin (taking a) (taking b)
taking_within a b le = record { whole = le; before = tt; between = tt; behind = tt }

greater : (a b c d w x y z : ℕ) → a ≤ w → b ≤ x → c ≤ y → d ≤ z → max (max a b) (max c d) ≤ max (max w x) (max y z)
greater a b c d w x y z h k l m = omega (arith, h, k, l, m)

pub greatest_within : (a b : Sums) → IsWithin a b → greatest a ≤ greatest b
greatest_within a b h = greater _ _ _ _ _ _ _ _ (less_or_none a.whole b.whole h.whole) (less_or_none a.before b.before h.before)
    (less_or_none a.between b.between h.between) (less_or_none a.behind b.behind h.behind)

-- the greatest stretch of a path
pub longest_within : (es : Path) (b : Sums) → IsWithin (sums_of_path es) b → longest_from 0 es ≤ greatest b
longest_within es b h =
    let e : longest_from 0 es ≡ greatest (chained (taking 0) (sums_of_path es)) = longest_path 0 es in
    let f : greatest (chained (taking 0) (sums_of_path es)) ≤ greatest b = subst (λ s. greatest s ≤ greatest b) (sym (none_taken (sums_of_path es))) (greatest_within (sums_of_path es) b h) in
    omega (arith, e, f)
