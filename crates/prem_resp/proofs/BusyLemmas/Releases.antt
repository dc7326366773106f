-- How many jobs are released in some cycles.
use Rattle.std.proofs.Common.{◌≡◌, ℕ, suc, ◌+◌, ◌-◌, ◌*◌, ◌/◌, ◌<◌, ◌≤◌, ap, ◌∙◌, arith}
use Rattle.std.proofs.Math.Nat.{add-mul, add-div_right, lt-div-mul-add, div-lt_iff_lt-mul}
use Rattle.std.proofs.lemmas.Nat.{le-div}
use Rattle.prem_resp.specs.Busy.Busy.{releases_in}
use Rattle.prem_resp.specs.Busy.Schedule.{Tasks, released, released_before}
use Rattle.prem_resp.proofs.BusyLemmas.Grows.{releases_grow}

-- those of this cycle are counted in the next one
releases_next : (period t : ℕ) → 1 ≤ period → releases_in period (suc t) ≡ t / period + 1
releases_next period t some =
    let e : suc t + period - 1 ≡ t + period = omega (arith, some) in
    ap (λ n. n / period) e ∙ add-div_right t some

pub released_next : (x : Tasks) (k t : ℕ) → 1 ≤ x.period k → released_before x k (suc t) ≡ released x k t
released_next x k t some = let e : releases_in (x.period k) (suc t) ≡ t / x.period k + 1 = releases_next (x.period k) t some in omega (arith, e)

pub released_grows : (x : Tasks) (k a b : ℕ) → 1 ≤ x.period k → a ≤ b → released_before x k a ≤ released_before x k b
released_grows x k a b some le = let e : releases_in (x.period k) a ≤ releases_in (x.period k) b = releases_grow (x.period k) a b some le in omega (arith, e)

pub none_at_first : (x : Tasks) (k : ℕ) → 1 ≤ x.period k → released_before x k 0 ≡ 0
none_at_first x k some =
    let lt : releases_in (x.period k) 0 < 1 = (div-lt_iff_lt-mul {k = x.period k} {x = 0 + x.period k - 1} {y = 1} some).1 (omega (arith, some)) in
    omega (arith, lt)

-- cycles are no more than their periods
pub in_periods : (period a : ℕ) → 1 ≤ period → a ≤ releases_in period a * period
in_periods period a some =
    let lt : a + period - 1 < releases_in period a * period + period = lt-div-mul-add {a = a + period - 1} {b = period} some in
    sum a period (releases_in period a * period) some lt where
      sum : (a p n : ℕ) → 1 ≤ p → a + p - 1 < n + p → a ≤ n
      sum a p n some lt = omega (arith, some, lt)

-- in cycles one after another no more than in each part
releases_add : (period a b : ℕ) → 1 ≤ period → releases_in period (a + b) ≤ releases_in period a + releases_in period b
releases_add period a b some =
    let m : ℕ = releases_in period a in
    let n : ℕ = releases_in period b in
    let x : a ≤ m * period = in_periods period a some in
    let y : b ≤ n * period = in_periods period b some in
    let e : (m + n + 1) * period ≡ (m + n) * period + period = (add-mul (m + n) 1 period ∙ one ((m + n) * period) period) in
    let f : (m + n) * period ≡ m * period + n * period = add-mul m n period in
    let lt : releases_in period (a + b) < m + n + 1 =
    (div-lt_iff_lt-mul {k = period} {x = a + b + period - 1} {y = m + n + 1} some).1
    (sum a b period (m * period) (n * period) ((m + n) * period) ((m + n + 1) * period) some x y f e) in
    omega (arith, lt) where
      one : (a p : ℕ) → a + 1 * p ≡ a + p
      one a p = omega arith

      sum : (a b p m n s t : ℕ) → 1 ≤ p → a ≤ m → b ≤ n → s ≡ m + n → t ≡ s + p → a + b + p - 1 < t
      sum a b p m n s t some x y f e = omega (arith, some, x, y, f, e)

pub released_add : (x : Tasks) (k a b : ℕ) → 1 ≤ x.period k → released_before x k (a + b) ≤ released_before x k a + releases_in (x.period k) b
released_add x k a b some = let e : releases_in (x.period k) (a + b) ≤ releases_in (x.period k) a + releases_in (x.period k) b = releases_add (x.period k) a b some in omega (arith, e)

-- one in a period
pub one_in_period : (period a : ℕ) → 1 ≤ period → a ≤ period → releases_in period a ≤ 1
one_in_period period a some le =
    let lt : releases_in period a < 2 = (div-lt_iff_lt-mul {k = period} {x = a + period - 1} {y = 2} some).1 (omega (arith, some, le)) in
    omega (arith, lt)

-- a job is released behind its periods
pub job_released : (x : Tasks) (k job t : ℕ) → 1 ≤ x.period k → job < x.jobs k → job * x.period k < t → job < released_before x k t
job_released x k job t some lt at =
    let e : (job + 1) * x.period k ≡ job * x.period k + 1 * x.period k = add-mul job 1 (x.period k) in
    let le : job + 1 ≤ releases_in (x.period k) t = le-div (job + 1) (t + x.period k - 1) (x.period k) some (sum ((job + 1) * x.period k) (job * x.period k) (x.period k) t some e at) in
    omega (arith, le, lt) where
      sum : (n m p t : ℕ) → 1 ≤ p → n ≡ m + 1 * p → m < t → n ≤ t + p - 1
      sum n m p t some e lt = omega (arith, some, e, lt)
