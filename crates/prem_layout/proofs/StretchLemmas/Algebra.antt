-- How sums go together.
use Rattle.std.proofs.Common.{◌≡◌, ℕ, suc, ◌+◌, max, refl, ap, ◌∙◌, sym, arith, Some, None, Option}
use Rattle.prem_layout.proofs.Prelude.{most, both, or_none, Sums, taking, cut, no_sums, among, chained, greatest}

-- ---- sums that may not be there, as numbers: one more than the sum, or 0

abbrev code : Option ℕ → ℕ
code None = 0
code (Some a) = suc a

pub same_code : (a b : Option ℕ) → code a ≡ code b → a ≡ b
same_code None None e = refl
same_code None (Some b) e = absurd (omega (arith, e))
same_code (Some a) None e = absurd (omega (arith, e))
same_code (Some a) (Some b) e = let same : a ≡ b = omega (arith, e) in ap (λ n. Some n) same

pub code_most : (a b : Option ℕ) → code (most a b) ≡ max (code a) (code b)
code_most None b = omega arith
code_most (Some a) None = omega arith
code_most (Some a) (Some b) = omega arith

pub most_none : (a : Option ℕ) → most a None ≡ a
most_none None = refl
most_none (Some a) = refl

both_assoc : (a b c : Option ℕ) → both (both a b) c ≡ both a (both b c)
both_assoc None b c = refl
both_assoc (Some x) None c = refl
both_assoc (Some x) (Some y) None = refl
both_assoc (Some x) (Some y) (Some z) = let e : x + y + z ≡ x + (y + z) = omega arith in ap (λ n. Some n) e

pub both_most : (a b c : Option ℕ) → both a (most b c) ≡ most (both a b) (both a c)
both_most None b c = refl
both_most (Some x) None c = refl
both_most (Some x) (Some y) None = refl
both_most (Some x) (Some y) (Some z) = let e : x + max y z ≡ max (x + y) (x + z) = omega arith in ap (λ n. Some n) e

most_both : (a b c : Option ℕ) → both (most a b) c ≡ most (both a c) (both b c)
most_both None b c = refl
most_both (Some x) None None = refl
most_both (Some x) None (Some z) = refl
most_both (Some x) (Some y) None = refl
most_both (Some x) (Some y) (Some z) = let e : max x y + z ≡ max (x + z) (y + z) = omega arith in ap (λ n. Some n) e

or_none_most : (a b : Option ℕ) → or_none (most a b) ≡ max (or_none a) (or_none b)
or_none_most None b = omega arith
or_none_most (Some a) None = omega arith
or_none_most (Some a) (Some b) = refl

zero_both : (a : Option ℕ) → both (Some 0) a ≡ a
zero_both None = refl
zero_both (Some a) = let e : 0 + a ≡ a = omega arith in ap (λ n. Some n) e

-- ---- the greater of several

most_assoc : (a b c : Option ℕ) → most (most a b) c ≡ most a (most b c)
most_assoc a b c = same_code _ _ (omega (arith, code_most (most a b) c, code_most a b, code_most a (most b c), code_most b c))

-- a twice
twice : (a b c : Option ℕ) → most a (most b c) ≡ most (most a b) (most a c)
twice a b c = same_code _ _ (omega (arith, code_most a (most b c), code_most b c, code_most (most a b) (most a c), code_most a b, code_most a c))

crossing : (a b c d : Option ℕ) → most (most a b) (most c d) ≡ most (most a c) (most b d)
crossing a b c d = same_code _ _ (omega (arith, code_most (most a b) (most c d), code_most a b, code_most c d, code_most (most a c) (most b d), code_most a c, code_most b d))

swapped : (a b c : Option ℕ) → most (most a b) c ≡ most (most a c) b
swapped a b c = same_code _ _ (omega (arith, code_most (most a b) c, code_most a b, code_most (most a c) b, code_most a c))

-- ---- four sums

pub same_sums : (a b : Sums) → a.whole ≡ b.whole → a.before ≡ b.before → a.between ≡ b.between → a.behind ≡ b.behind → a ≡ b
same_sums a b w x y z = λ i. record { whole = w i; before = x i; between = y i; behind = z i }

pub among_none : (a : Sums) → among a no_sums ≡ a
among_none a = same_sums _ _ (most_none a.whole) (most_none a.before) (most_none a.between) (most_none a.behind)

pub among_assoc : (a b c : Sums) → among (among a b) c ≡ among a (among b c)
among_assoc a b c = same_sums _ _ (most_assoc a.whole b.whole c.whole) (most_assoc a.before b.before c.before) (most_assoc a.between b.between c.between) (most_assoc a.behind b.behind c.behind)

-- a path goes on in one of two ways
pub chained_among : (a b c : Sums) → chained a (among b c) ≡ among (chained a b) (chained a c)
chained_among a b c =
    same_sums _ _ (both_most a.whole b.whole c.whole)
    (ap (most a.before) (both_most a.whole b.before c.before) ∙ twice a.before (both a.whole b.before) (both a.whole c.before))
    (ap (most (most a.between (most b.between c.between))) (both_most a.behind b.before c.before)
    ∙ ap (λ m. most m (most (both a.behind b.before) (both a.behind c.before))) (twice a.between b.between c.between)
    ∙ crossing (most a.between b.between) (most a.between c.between) (both a.behind b.before) (both a.behind c.before))
    (ap (most (most b.behind c.behind)) (both_most a.behind b.whole c.whole) ∙ crossing b.behind c.behind (both a.behind b.whole) (both a.behind c.whole))

-- one of two paths goes on
pub among_chained : (a b c : Sums) → chained (among a b) c ≡ among (chained a c) (chained b c)
among_chained a b c =
    same_sums _ _ (most_both a.whole b.whole c.whole)
    (ap (most (most a.before b.before)) (most_both a.whole b.whole c.before) ∙ crossing a.before b.before (both a.whole c.before) (both b.whole c.before))
    (ap (most (most (most a.between b.between) c.between)) (most_both a.behind b.behind c.before)
    ∙ ap (λ m. most m (most (both a.behind c.before) (both b.behind c.before))) (behind_twice a.between b.between c.between)
    ∙ crossing (most a.between c.between) (most b.between c.between) (both a.behind c.before) (both b.behind c.before))
    (ap (most c.behind) (most_both a.behind b.behind c.whole) ∙ twice c.behind (both a.behind c.whole) (both b.behind c.whole)) where
      behind_twice : (a b c : Option ℕ) → most (most a b) c ≡ most (most a c) (most b c)
      behind_twice a b c = same_code _ _ (omega (arith, code_most (most a b) c, code_most a b, code_most (most a c) (most b c), code_most a c, code_most b c))

-- three paths one behind the other
pub chained_assoc : (a b c : Sums) → chained (chained a b) c ≡ chained a (chained b c)
chained_assoc a b c =
    same_sums _ _ (both_assoc a.whole b.whole c.whole)
    (ap (most (most a.before (both a.whole b.before))) (both_assoc a.whole b.whole c.before)
    ∙ most_assoc a.before (both a.whole b.before) (both a.whole (both b.whole c.before))
    ∙ ap (most a.before) (sym (both_most a.whole b.before (both b.whole c.before))))
    (between (both (chained a b).behind c.before) (both a.behind (chained b c).before)
    (most_both b.behind (both a.behind b.whole) c.before ∙ ap (most (both b.behind c.before)) (both_assoc a.behind b.whole c.before))
    (both_most a.behind b.before (both b.whole c.before)))
    (ap (most c.behind) (most_both b.behind (both a.behind b.whole) c.whole ∙ ap (most (both b.behind c.whole)) (both_assoc a.behind b.whole c.whole))
    ∙ sym (most_assoc c.behind (both b.behind c.whole) (both a.behind (both b.whole c.whole)))) where
      between : (x y : Option ℕ) → x ≡ most (both b.behind c.before) (both a.behind (both b.whole c.before)) → y ≡ most (both a.behind b.before) (both a.behind (both b.whole c.before)) →
          most (most (most (most a.between b.between) (both a.behind b.before)) c.between) x ≡ most (most a.between (most (most b.between c.between) (both b.behind c.before))) y
      between x y e f =
          ap (most (most (most (most a.between b.between) (both a.behind b.before)) c.between)) e
          ∙ all a.between b.between c.between (both a.behind b.before) (both b.behind c.before) (both a.behind (both b.whole c.before))
          ∙ ap (most (most a.between (most (most b.between c.between) (both b.behind c.before)))) (sym f) where
            all : (p q r s t u : Option ℕ) → most (most (most (most p q) s) r) (most t u) ≡ most (most p (most (most q r) t)) (most s u)
            all p q r s t u =
                ap (λ m. most m (most t u)) (swapped (most p q) s r)
                ∙ ap (λ m. most (most m s) (most t u)) (most_assoc p q r)
                ∙ crossing (most p (most q r)) s t u
                ∙ ap (λ m. most m (most s u)) (most_assoc p (most q r) t)

pub taken : (a b : ℕ) → chained (taking a) (taking b) ≡ taking (a + b)
taken a b = refl

pub taken_none : (a : ℕ) → chained (taking a) (taking 0) ≡ taking a
taken_none a = let e : a + 0 ≡ a = omega arith in ap taking e

pub none_taken : (a : Sums) → chained (taking 0) a ≡ a
none_taken a = same_sums _ _ (zero_both a.whole) (zero_both a.before) (most_none a.between) (most_none a.behind)

pub greatest_among : (a b : Sums) → greatest (among a b) ≡ max (greatest a) (greatest b)
greatest_among a b =
    ap (λ n. max (max n (or_none (most a.before b.before))) (max (or_none (most a.between b.between)) (or_none (most a.behind b.behind)))) (or_none_most a.whole b.whole)
    ∙ ap (λ n. max (max (max (or_none a.whole) (or_none b.whole)) n) (max (or_none (most a.between b.between)) (or_none (most a.behind b.behind)))) (or_none_most a.before b.before)
    ∙ ap (λ n. max (max (max (or_none a.whole) (or_none b.whole)) (max (or_none a.before) (or_none b.before))) (max n (or_none (most a.behind b.behind)))) (or_none_most a.between b.between)
    ∙ ap (λ n. max (max (max (or_none a.whole) (or_none b.whole)) (max (or_none a.before) (or_none b.before))) (max (max (or_none a.between) (or_none b.between)) n)) (or_none_most a.behind b.behind)
    ∙ ap (λ n. max n (max (max (or_none a.between) (or_none b.between)) (max (or_none a.behind) (or_none b.behind)))) (across (or_none a.whole) (or_none b.whole) (or_none a.before) (or_none b.before))
    ∙ ap (max (max (max (or_none a.whole) (or_none a.before)) (max (or_none b.whole) (or_none b.before)))) (across (or_none a.between) (or_none b.between) (or_none a.behind) (or_none b.behind))
    ∙ across (max (or_none a.whole) (or_none a.before)) (max (or_none b.whole) (or_none b.before)) (max (or_none a.between) (or_none a.behind)) (max (or_none b.between) (or_none b.behind)) where
      across : (a b c d : ℕ) → max (max a b) (max c d) ≡ max (max a c) (max b d)
      across a b c d = omega arith

-- behind a cut a stretch begins
pub greatest_cut : (n : ℕ) (a : Sums) → greatest (chained (taking n) (chained cut a)) ≡ max n (greatest a)
greatest_cut n a = by a.whole a.before a.between a.behind where
  by : (w x y z : Option ℕ) → greatest (chained (taking n) (chained cut (record { whole = w; before = x; between = y; behind = z })))
      ≡ max n (greatest (record { whole = w; before = x; between = y; behind = z }))
  by w x y z =
      sum (or_none w) (or_none x) (or_none y) (or_none z) (or_none (most (most y (both (Some 0) x)) None)) (or_none (most (most z (both (Some 0) w)) None))
      (ap or_none (most_none (most y (both (Some 0) x))) ∙ or_none_most y (both (Some 0) x) ∙ ap (λ o. max (or_none y) (or_none o)) (zero_both x))
      (ap or_none (most_none (most z (both (Some 0) w))) ∙ or_none_most z (both (Some 0) w) ∙ ap (λ o. max (or_none z) (or_none o)) (zero_both w)) where
        sum : (w x y z p q : ℕ) → p ≡ max y x → q ≡ max z w → max (max 0 (n + 0)) (max p q) ≡ max n (max (max w x) (max y z))
        sum w x y z p q e f = omega (arith, e, f)
