-- How many of some cycles one after another the jobs of a task keep closed.
use Rattle.std.specs.Prelude.{◌&&◌}
use Rattle.std.proofs.Common.{◌≡◌, ℕ, zero, suc, ◌+◌, ◌-◌, ◌*◌, ◌<◌, ◌≤◌, refl, ap, ◌∙◌, arith, eqb, true, false, Bool}
use Rattle.std.proofs.lemmas.Bool.{and_parts, eq-eqb, eqb-true}
use Rattle.std.proofs.Math.Nat.{add-mul, zero-mul}
use Rattle.prem_sound.specs.Script.Scripts.{sum_below}
use Rattle.prem_latency.specs.Wait.{requests_in, jobs_in}
use Rattle.prem_latency.specs.Timeline.{Level, Deed, Carries, Behind, Shut, Free, Timeline, is_shut, shut, IsShut}
use Rattle.prem_resp.specs.Busy.Schedule.{one_if}
use Rattle.prem_sound.proofs.Sums.{sum_le, sum_less}
use Rattle.prem_latency.proofs.Divides.{in_distances, least_distances, jobs_cover, jobs_within}

-- where each is at most so much, the first and the last one together too
sum_ends : (n c : ℕ) (f : ℕ → ℕ) → ((i : ℕ) → i < suc n → f i ≤ c) → f 0 + f (suc n) ≤ c → sum_below (suc (suc n)) f ≤ suc n * c
sum_ends n c f each ends =
    let a : sum_below (suc n) f ≤ f 0 + n * c = from_first n each in
    let e : suc n * c ≡ n * c + 1 * c = mul_suc n c in
    sum (sum_below (suc n) f) (f 0) (f (suc n)) (n * c) (suc n * c) c a e ends where
      mul_suc : (n c : ℕ) → suc n * c ≡ n * c + 1 * c
      mul_suc n c = let e : suc n ≡ n + 1 = omega arith in ap (λ m. m * c) e ∙ add-mul n 1 c

      from_first : (m : ℕ) → ((i : ℕ) → i < suc m → f i ≤ c) → sum_below (suc m) f ≤ f 0 + m * c
      from_first zero h = let z : 0 * c ≡ 0 = zero-mul c in omega (arith, z)
      from_first (suc m) h =
          let was : sum_below (suc m) f ≤ f 0 + m * c = from_first m (λ i lt. h i (omega (arith, lt))) in
          let more : f (suc m) ≤ c = h (suc m) (omega arith) in
          let e : suc m * c ≡ m * c + 1 * c = mul_suc m c in
          omega (arith, was, more, e)

      sum : (s f g n m c : ℕ) → s ≤ f + n → m ≡ n + 1 * c → f + g ≤ c → s + g ≤ m
      sum s f g n m c a e h = omega (arith, a, e, h)

-- a job of the task keeps it closed
abbrev pub is_of : ℕ → Deed → Bool
is_of k (Carries i) = false
is_of k Behind = false
is_of k (Shut task job) = eqb task k
is_of k Free = false

pub shut_is : (k m : ℕ) (d : Deed) → is_shut k m d ≡ true → d ≡ Shut k m
shut_is k m (Carries i) e = absurd (let z : false ≡ true = e in cc)
shut_is k m Behind e = absurd (let z : false ≡ true = e in cc)
shut_is k m Free e = absurd (let z : false ≡ true = e in cc)
shut_is k m (Shut task job) e =
    let parts : (eqb task k ≡ true) × (eqb job m ≡ true) = and_parts (eqb task k) (eqb job m) e in
    let a : task ≡ k = eqb-true task k parts.0 in
    let b : job ≡ m = eqb-true job m parts.1 in
    cc

itself : (k m : ℕ) → is_shut k m (Shut k m) ≡ true
itself k m = ap (λ b. b && (eqb m m)) (eq-eqb k k refl) ∙ ap (λ b. true && b) (eq-eqb m m refl)

module _ (s : Timeline) (k a : ℕ) where
  -- of so many cycles from one on those of a job, and those of all jobs of the task
  abbrev pub shut_in : (job cycles : ℕ) → ℕ
  shut_in m zero = 0
  shut_in m (suc n) = shut_in m n + one_if (is_shut k m (s.does (a + n)))

  abbrev pub closes_in : (cycles : ℕ) → ℕ
  closes_in zero = 0
  closes_in (suc n) = closes_in n + one_if (is_of k (s.does (a + n)))

  pub shut_most : (m n : ℕ) → shut s k m a + shut_in m n ≡ shut s k m (a + n)
  shut_most m zero = let e : a ≡ a + 0 = omega arith in omega arith ∙ ap (shut s k m) e
  shut_most m (suc n) =
      let was : shut s k m a + shut_in m n ≡ shut s k m (a + n) = shut_most m n in
      let e : suc (a + n) ≡ a + suc n = omega arith in
      let step : shut s k m (suc (a + n)) ≡ shut s k m (a + suc n) = ap (shut s k m) e in
      omega (arith, was, step)

  few : (m n : ℕ) → shut_in m n ≤ n
  few m zero = omega arith
  few m (suc n) = let was : shut_in m n ≤ n = few m n in let one : one_if (is_shut k m (s.does (a + n))) ≤ 1 = one_most (is_shut k m (s.does (a + n))) in omega (arith, was, one) where
    one_most : (b : Bool) → one_if b ≤ 1
    one_most true = omega arith
    one_most false = omega arith

  -- ---- one job

  -- a job whose cycles are none behind this one
  before_end : (m end n : ℕ) → ((v : ℕ) → v < n → s.does (a + v) ≡ Shut k m → a + v < end) → shut_in m n ≤ end - a
  before_end m end zero h = omega arith
  before_end m end (suc n) h = by (before_end m end n (λ v lt. h v (omega (arith, lt)))) (is_shut k m (s.does (a + n))) refl where
    by : shut_in m n ≤ end - a → (b : Bool) → is_shut k m (s.does (a + n)) ≡ b → shut_in m n + one_if (is_shut k m (s.does (a + n))) ≤ end - a
    by was true e = let lt : a + n < end = h n (omega arith) (shut_is k m (s.does (a + n)) e) in let f : shut_in m n ≤ n = few m n in
        let one : one_if (is_shut k m (s.does (a + n))) ≡ 1 = ap one_if e in omega (arith, lt, f, one)
    by was false e = let none : one_if (is_shut k m (s.does (a + n))) ≡ 0 = ap one_if e in omega (arith, was, none)

  -- one whose cycles are none before this one
  behind_start : (m start n : ℕ) → ((v : ℕ) → v < n → s.does (a + v) ≡ Shut k m → start ≤ a + v) → shut_in m n ≤ a + n - start
  behind_start m start zero h = omega arith
  behind_start m start (suc n) h = by (behind_start m start n (λ v lt. h v (omega (arith, lt)))) (is_shut k m (s.does (a + n))) refl where
    by : shut_in m n ≤ a + n - start → (b : Bool) → is_shut k m (s.does (a + n)) ≡ b → shut_in m n + one_if (is_shut k m (s.does (a + n))) ≤ a + suc n - start
    by was true e = let le : start ≤ a + n = h n (omega arith) (shut_is k m (s.does (a + n)) e) in let one : one_if (is_shut k m (s.does (a + n))) ≡ 1 = ap one_if e in omega (arith, le, was, one)
    by was false e = let none : one_if (is_shut k m (s.does (a + n))) ≡ 0 = ap one_if e in omega (arith, was, none)

  -- ---- all jobs

  module _ (first count n : ℕ) (was : closes_in n ≤ sum_below count (λ i. shut_in (first + i) n)) (h : (m : ℕ) → s.does (a + n) ≡ Shut k m → (first ≤ m) × (m < first + count)) where
    abbrev Goes : Type 0
    Goes = closes_in n + one_if (is_of k (s.does (a + n))) ≤ sum_below count (λ i. shut_in (first + i) (suc n))

    none_of : (d : Deed) → s.does (a + n) ≡ d → is_of k d ≡ false → Goes
    none_of d e f =
        let z : one_if (is_of k (s.does (a + n))) ≡ 0 = ap (λ x. one_if (is_of k x)) e ∙ ap one_if f in
        let g : sum_below count (λ i. shut_in (first + i) n) ≤ sum_below count (λ i. shut_in (first + i) (suc n)) =
        sum_le count (λ i. shut_in (first + i) n) (λ i. shut_in (first + i) (suc n)) (λ i lt. omega arith) in
        omega (arith, z, was, g)

    one_of : (m : ℕ) → s.does (a + n) ≡ Shut k m → Goes
    one_of m e =
        let in_them : (first ≤ m) × (m < first + count) = h m e in
        let i : ℕ = m - first in
        let f : first + i ≡ m = omega (arith, in_them.0) in
        let here : one_if (is_shut k (first + i) (s.does (a + n))) ≡ 1 = ap (λ x. one_if (is_shut k x (s.does (a + n)))) f ∙ ap (λ d. one_if (is_shut k m d)) e ∙ ap one_if (itself k m) in
        let g : sum_below count (λ i. shut_in (first + i) n) + 1 ≤ sum_below count (λ i. shut_in (first + i) (suc n)) =
        sum_less count i 1 (λ i. shut_in (first + i) n) (λ i. shut_in (first + i) (suc n)) (omega (arith, in_them.0, in_them.1)) (omega (arith, here)) (λ i lt. omega arith) in
        let z : one_if (is_of k (s.does (a + n))) ≡ 1 = ap (λ x. one_if (is_of k x)) e ∙ ap one_if (eq-eqb k k refl) in
        omega (arith, g, z, was)

    which : (task m : ℕ) (b : Bool) → s.does (a + n) ≡ Shut task m → eqb task k ≡ b → Goes
    which task m true e f = one_of m (e ∙ ap (λ x. Shut x m) (eqb-true task k f))
    which task m false e f = none_of (Shut task m) e f

    goes_by : (d : Deed) → s.does (a + n) ≡ d → Goes
    goes_by (Carries i) e = none_of (Carries i) e refl
    goes_by Behind e = none_of Behind e refl
    goes_by Free e = none_of Free e refl
    goes_by (Shut task m) e = which task m (eqb task k) e refl

  -- where a cycle is of a job, that is one of so many from this one on
  all_jobs : (first count n : ℕ) → ((v m : ℕ) → v < n → s.does (a + v) ≡ Shut k m → (first ≤ m) × (m < first + count)) → closes_in n ≤ sum_below count (λ i. shut_in (first + i) n)
  all_jobs first count zero h = omega arith
  all_jobs first count (suc n) h = goes_by first count n (all_jobs first count n (λ v m lt. h v m (omega (arith, lt)))) (λ m. h n m (omega arith)) (s.does (a + n)) refl

-- ---- the bound

-- where each cycle of a job is near its release, as it has to be
pub closes_most : (x : Level) (s : Timeline) (k a n : ℕ) → 1 ≤ x.period k → x.longest ≤ x.closed k → 1 ≤ n →
    ((v m : ℕ) → v < n → s.does (a + v) ≡ Shut k m → IsShut x k m (a + v)) → ((m : ℕ) → shut_in s k a m n ≤ x.closed k) →
    closes_in s k a n ≤ jobs_in (x.period k) (x.length k) n * x.closed k
closes_most x s k a n some idle one hits each =
    let y : closes_in s k a n ≤ sum_below (jobs + 1) (λ i. shut_in s k a (first + i) n) = all_jobs s k a first (jobs + 1) n in_them in
    let e : jobs + 1 ≡ suc (suc (jobs - 1)) = omega arith in
    let z : sum_below (suc (suc (jobs - 1))) (λ i. shut_in s k a (first + i) n) ≤ suc (jobs - 1) * c =
    sum_ends (jobs - 1) c (λ i. shut_in s k a (first + i) n) (λ i lt. each (first + i)) (ends (suc (jobs - 1)) (omega arith)) in
    let f : suc (jobs - 1) ≡ jobs = omega arith in
    let g : suc (jobs - 1) * c ≡ jobs * c = ap (λ i. i * c) f in
    let w : sum_below (jobs + 1) (λ i. shut_in s k a (first + i) n) ≡ sum_below (suc (suc (jobs - 1))) (λ i. shut_in s k a (first + i) n) =
    ap (λ i. sum_below i (λ i. shut_in s k a (first + i) n)) e in
    omega (arith, y, z, g, w) where
      period : ℕ
      period = x.period k

      long : ℕ
      long = x.length k

      c : ℕ
      c = x.closed k

      -- the first job that may have a part, and how many may
      first : ℕ
      first = requests_in (x.period k) (a - x.length k)

      jobs : ℕ
      jobs = jobs_in (x.period k) (x.length k) n

      begins : a ≤ first * x.period k + x.length k
      begins = let y : a - x.length k ≤ first * x.period k = in_distances (x.period k) (a - x.length k) some in omega (arith, y)

      covers : n + x.length k ≤ jobs * x.period k
      covers = jobs_cover (x.period k) (x.length k) n some one

      in_them : (v m : ℕ) → v < n → s.does (a + v) ≡ Shut k m → (first ≤ m) × (m < first + (jobs + 1))
      in_them v m lt e =
          let h : IsShut x k m (a + v) = hits v m lt e in
          let low : first ≤ m = least_distances (x.period k) (a - x.length k) m some (omega (arith, h.within)) in
          let f : (m - first) + first ≡ m = omega (arith, low) in
          let d : ((m - first) + first) * x.period k ≡ (m - first) * x.period k + first * x.period k = add-mul (m - first) first (x.period k) in
          let g : ((m - first) + first) * x.period k ≡ m * x.period k = ap (λ i. i * x.period k) f in
          let le : (m - first) * x.period k ≤ n - 1 + x.length k + x.period k =
          sum ((m - first) * x.period k) (first * x.period k) (m * x.period k) (((m - first) + first) * x.period k) a v n (x.period k)
          (x.length k) d g h.behind begins lt in
          let high : m - first ≤ jobs = jobs_within (x.period k) (x.length k) n (m - first) some le in
          (low, omega (arith, high, low)) where
            sum : (i f m z a v n p l : ℕ) → z ≡ i + f → z ≡ m → m ≤ a + v + p → a ≤ f + l → v < n → i ≤ n - 1 + l + p
            sum i f m z a v n p l h1 h2 h3 h4 h5 = omega (arith, h1, h2, h3, h4, h5)

      ends : (last : ℕ) → last ≡ jobs → shut_in s k a (first + 0) n + shut_in s k a (first + last) n ≤ x.closed k
      ends last same =
          let p0 : shut_in s k a (first + 0) n ≤ first * x.period k + x.length k + 1 - a =
          before_end s k a (first + 0) (first * x.period k + x.length k + 1) n
          (λ v lt e. let h : IsShut x k (first + 0) (a + v) = hits v (first + 0) lt e in let z : (first + 0) * x.period k ≡ first * x.period k =
          ap (λ i. i * x.period k) (right first) in omega (arith, z, h.within)) in
          let p1 : shut_in s k a (first + last) n ≤ a + n - ((first + last) * x.period k + 1 - x.longest) =
          behind_start s k a (first + last) ((first + last) * x.period k + 1 - x.longest) n
          (λ v lt e. let h : IsShut x k (first + last) (a + v) = hits v (first + last) lt e in omega (arith, h.near)) in
          let d : (first + last) * x.period k ≡ first * x.period k + last * x.period k = add-mul first last (x.period k) in
          let g : last * x.period k ≡ jobs * x.period k = ap (λ i. i * x.period k) same in
          sum (shut_in s k a (first + 0) n) (shut_in s k a (first + last) n) (first * x.period k) (last * x.period k) ((first + last) * x.period k)
          (jobs * x.period k) (x.length k) x.longest a n (x.closed k) p0 p1 d g covers (each (first + 0)) (each (first + last)) idle where
            right : (a : ℕ) → a + 0 ≡ a
            right a = omega arith

            sum : (u w f l fl j r top a n c : ℕ) → u ≤ f + r + 1 - a → w ≤ a + n - (fl + 1 - top) → fl ≡ f + l → l ≡ j → n + r ≤ j → u ≤ c → w ≤ c → top ≤ c → u + w ≤ c
            sum u w f l fl j r top a n c h1 h2 h3 h4 h5 h6 h7 h8 = omega (arith, h1, h2, h3, h4, h5, h6, h7, h8)
