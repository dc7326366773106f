-- What the code of counts tells, up to 2 ^ 41.
use Rattle.std.proofs.Common.{◌≡◌, ℕ, ◌+◌, ◌*◌, refl, ap, sym, ◌∙◌, arith}
use Rattle.prem_layout.specs.Stretch.Sums.{taking}
use Rattle.prem_bounds.specs.Scale.{clipped}
use Rattle.prem_bounds.specs.ToldSums.{clipped_sums}
use Rattle.prem_bounds.proofs.AlikeSums.{chained_alike, among_alike, turned_alike}
use Rattle.prem_bounds.proofs.Sums.{clipped_product}
use Rattle.prem_wcet_laws.specs.Counts.{PathCount, quiet, then_count, either_count, turned_count}
use Rattle.prem_wcet.specs.Alike.{AreAlike}

pub alike_chain : (a b c : PathCount) → AreAlike a b → AreAlike b c → AreAlike a c
alike_chain a b c e f = record { total = e.total ∙ f.total; sums = e.sums ∙ f.sums }

pub alike_same : (a : PathCount) → AreAlike a a
alike_same a = record { total = refl; sums = refl }

pub alike_is : (a b : PathCount) → a ≡ b → AreAlike a b
alike_is a b e = record { total = ap (λ (c : PathCount). clipped c.total) e; sums = ap (λ (c : PathCount). clipped_sums c.sums) e }

pub quiet_told : (a : PathCount) (n m : ℕ) → a ≡ quiet n → n ≡ clipped m → AreAlike a (quiet m)
quiet_told a n m e f =
    let g : clipped n ≡ clipped m = omega (arith, f) in
    alike_chain a (quiet n) (quiet m) (alike_is a (quiet n) e) (record { total = g; sums = ap taking g })

sum_alike : (a b c d : ℕ) → clipped a ≡ clipped b → clipped c ≡ clipped d → clipped (a + c) ≡ clipped (b + d)
sum_alike a b c d e f = omega (arith, e, f)

product_alike : (n a b : ℕ) → clipped a ≡ clipped b → clipped (n * a) ≡ clipped (n * b)
product_alike n a b e = sym (clipped_product n (clipped a) a refl) ∙ clipped_product n (clipped a) b e

then_both : (a b c d : PathCount) → AreAlike a b → AreAlike c d → AreAlike (then_count a c) (then_count b d)
then_both a b c d f g = record { total = sum_alike a.total b.total c.total d.total f.total g.total; sums = chained_alike a.sums c.sums b.sums d.sums f.sums g.sums }

either_both : (a b c d : PathCount) → AreAlike a b → AreAlike c d → AreAlike (either_count a c) (either_count b d)
either_both a b c d f g = record { total = (let e = f.total in let h = g.total in omega (arith, e, h)); sums = among_alike a.sums c.sums b.sums d.sums f.sums g.sums }

turned_both : (n : ℕ) (a b c d : PathCount) → AreAlike a b → AreAlike c d → AreAlike (turned_count n a c) (turned_count n b d)
turned_both n a b c d f g = record {
  total = sum_alike (n * a.total) (n * b.total) c.total d.total (product_alike n a.total b.total f.total) g.total;
  sums = turned_alike n a.sums c.sums b.sums d.sums f.sums g.sums;
}

pub then_told : (a b c d r : PathCount) → AreAlike r (then_count a c) → AreAlike a b → AreAlike c d → AreAlike r (then_count b d)
then_told a b c d r e f g = alike_chain r (then_count a c) (then_count b d) e (then_both a b c d f g)

-- a choice, and a loop
pub choice_told : (j skips product : ℕ) (taken other jump skip first second sides last r : PathCount) → product ≡ clipped (skips * j) → skip ≡ quiet product → AreAlike first (then_count taken skip) →
    jump ≡ quiet j → AreAlike second (then_count jump other) → AreAlike sides (either_count first second) → last ≡ quiet j → AreAlike r (then_count last sides) →
    AreAlike r (then_count (quiet j) (either_count (then_count taken (quiet (skips * j))) (then_count (quiet j) other)))
choice_told j skips product taken other jump skip first second sides last r p s f q h i l e =
    then_told last (quiet j) sides _ r e (alike_is last (quiet j) l)
    (alike_chain sides (either_count first second) _ i
    (either_both first _ second _ (then_told taken taken skip (quiet (skips * j)) first f (alike_same taken) (quiet_told skip product (skips * j) s p))
    (then_told jump (quiet j) other other second h (alike_is jump (quiet j) q) (alike_same other))))

pub turn_told : (turns h j start leave : ℕ) (body begin jump back turn out r : PathCount) → start ≡ clipped (h + j) → jump ≡ quiet j →
    AreAlike back (then_count body jump) → begin ≡ quiet start → AreAlike turn (then_count begin back) →
    leave ≡ clipped (start + j) → out ≡ quiet leave → AreAlike r (turned_count turns turn out) →
    AreAlike r (turned_count turns (then_count (quiet (h + j)) (then_count body (quiet j))) (quiet (h + j + j)))
turn_told turns h j start leave body begin jump back turn out r s q b g t l o e =
    let all : leave ≡ clipped (h + j + j) = omega (arith, s, l) in
    alike_chain r (turned_count turns turn out) _ e
    (turned_both turns turn _ out _
    (then_told begin (quiet (h + j)) back _ turn t (quiet_told begin start (h + j) g s)
    (then_told body body jump (quiet j) back b (alike_same body) (alike_is jump (quiet j) q)))
    (quiet_told out leave (h + j + j) o all))

-- ---- what is told alike of parts is of what is made of them

quiet_alike : (n m : ℕ) → clipped n ≡ clipped m → AreAlike (quiet n) (quiet m)
quiet_alike n m e = record { total = e; sums = ap taking e }

pub choice_alike : (w p j : ℕ) (a b x y : PathCount) → AreAlike a x → AreAlike b y →
    AreAlike (then_count (quiet w) (either_count (then_count a (quiet p)) (then_count (quiet j) b))) (then_count (quiet w) (either_count (then_count x (quiet p)) (then_count (quiet j) y)))
choice_alike w p j a b x y f g =
    then_both (quiet w) (quiet w) (either_count (then_count a (quiet p)) (then_count (quiet j) b)) (either_count (then_count x (quiet p)) (then_count (quiet j) y)) (alike_same (quiet w))
    (either_both (then_count a (quiet p)) (then_count x (quiet p)) (then_count (quiet j) b) (then_count (quiet j) y)
    (then_both a x (quiet p) (quiet p) f (alike_same (quiet p))) (then_both (quiet j) (quiet j) b y (alike_same (quiet j)) g))

pub turn_alike : (turns w j head h : ℕ) (body x : PathCount) → clipped head ≡ clipped h → AreAlike body x →
    AreAlike (turned_count turns (then_count (quiet (head + w)) (then_count body (quiet j))) (quiet (head + w + j)))
    (turned_count turns (then_count (quiet (h + w)) (then_count x (quiet j))) (quiet (h + w + j)))
turn_alike turns w j head h body x e f =
    turned_both turns (then_count (quiet (head + w)) (then_count body (quiet j))) (then_count (quiet (h + w)) (then_count x (quiet j))) (quiet (head + w + j)) (quiet (h + w + j))
    (then_both (quiet (head + w)) (quiet (h + w)) (then_count body (quiet j)) (then_count x (quiet j))
    (quiet_alike (head + w) (h + w) (omega (arith, e))) (then_both body x (quiet j) (quiet j) f (alike_same (quiet j))))
    (quiet_alike (head + w + j) (h + w + j) (omega (arith, e)))
