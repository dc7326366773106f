-- How many requests of a device come in some cycles.
use Rattle.std.specs.Prelude.{All}
use Rattle.std.proofs.Common.{◌≡◌, ℕ, suc, ◌+◌, ◌-◌, ◌/◌, ◌<◌, ◌≤◌, refl, ap, ◌∙◌, arith, eqb, ltb, List, [], ◌∷◌, ⊎_elim}
use Rattle.std.proofs.lemmas.Bool.{cases_lt, cases_eq, lt-ltb, le-ltb, eq-eqb, ne_eqb}
use Rattle.std.proofs.Math.Nat.{add-div_right, div-lt_iff_lt-mul}
use Rattle.prem_gate.specs.declared.request.Request.{Request}
use Rattle.prem_sound.specs.Serve.Requests.{asked_of}
use Rattle.prem_latency.specs.Wait.{requests_in}
use Rattle.prem_resp.specs.Busy.Schedule.{one_if}
use Rattle.prem_latency.specs.Requests.{AreDistant}

-- those of cycles before this one
abbrev pub before : ℕ → List Request → ℕ
before t [] = 0
before t (r ∷ rs) = one_if (ltb r.cycle t) + before t rs

-- the same of a device
abbrev pub come_before : (device cycle : ℕ) → List Request → ℕ
come_before j t requests = before t (asked_of j requests)

one_in : (every n : ℕ) → 1 ≤ every → 1 ≤ n → requests_in every n ≡ requests_in every (n - every) + 1
one_in every n some one =
    ⊎_elim (λ (lt : n < every).
    let z : n - every ≡ 0 = omega (arith, lt) in
    let e : n + every - 1 ≡ (n - 1) + every = omega (arith, one) in
    let f : (n - every) + every - 1 ≡ every - 1 = omega (arith, z) in
    let a : (n + every - 1) / every ≡ (n - 1) / every + 1 = ap (λ m. m / every) e ∙ add-div_right (n - 1) some in
    let b : requests_in every (n - every) ≤ 0 = none (n - every) z in
    let c : (n - 1) / every ≤ 0 = small (n - 1) (omega (arith, lt)) in
    omega (arith, a, b, c))
    (λ (le : every ≤ n).
    let e : n + every - 1 ≡ (n - every + every - 1) + every = omega (arith, le, some) in
    ap (λ m. m / every) e ∙ add-div_right (n - every + every - 1) some)
    (cases_lt n every) where
      small : (m : ℕ) → m < every → m / every ≤ 0
      small m lt = let x : m / every < 1 = (div-lt_iff_lt-mul {k = every} {x = m} {y = 1} some).1 (omega (arith, lt)) in omega (arith, x)

      none : (m : ℕ) → m ≡ 0 → requests_in every m ≤ 0
      none m z = small (m + every - 1) (omega (arith, z, some))

-- none before, where all come later
none_before : (t from : ℕ) (rs : List Request) → t ≤ from → All (λ (q : Request). from ≤ q.cycle) rs → before t rs ≡ 0
none_before t from [] le all = refl
none_before t from (r ∷ rs) le all =
    let here : from ≤ r.cycle = all 0 r (omega arith) in
    let z : one_if (ltb r.cycle t) ≡ 0 = ap one_if (le-ltb r.cycle t (omega (arith, le, here))) in
    let y : before t rs ≡ 0 = none_before t from rs le (λ k d lt. all (suc k) d (omega (arith, lt))) in
    omega (arith, z, y)

-- those that keep their distance
pub few_come : (every a n : ℕ) (rs : List Request) → 1 ≤ every → AreDistant every rs → before (a + n) rs ≤ before a rs + requests_in every n
few_come every a n [] some h = omega arith
few_come every a n (r ∷ rs) some h =
    ⊎_elim (λ (early : r.cycle < a).
    let x : one_if (ltb r.cycle (a + n)) ≡ 1 = ap one_if (lt-ltb r.cycle (a + n) (omega (arith, early))) in
    let y : one_if (ltb r.cycle a) ≡ 1 = ap one_if (lt-ltb r.cycle a early) in
    let z : before (a + n) rs ≤ before a rs + requests_in every n = few_come every a n rs some h.1 in
    omega (arith, x, y, z))
    (λ (ge : a ≤ r.cycle).
    let y : one_if (ltb r.cycle a) ≡ 0 = ap one_if (le-ltb r.cycle a ge) in
    ⊎_elim (λ (within : r.cycle < a + n).
    let x : one_if (ltb r.cycle (a + n)) ≡ 1 = ap one_if (lt-ltb r.cycle (a + n) within) in
    let none : before (a + every) rs ≡ 0 = none_before (a + every) (r.cycle + every) rs (omega (arith, ge)) h.0 in
    let z : before (a + every + (n - every)) rs ≤ before (a + every) rs + requests_in every (n - every) = few_come every (a + every) (n - every) rs some h.1 in
    let m : before (a + n) rs ≤ before (a + every + (n - every)) rs = grows (a + n) (a + every + (n - every)) rs (omega arith) in
    let o : requests_in every n ≡ requests_in every (n - every) + 1 = one_in every n some (omega (arith, ge, within)) in
    omega (arith, x, y, none, z, m, o))
    (λ (past : a + n ≤ r.cycle).
    let x : one_if (ltb r.cycle (a + n)) ≡ 0 = ap one_if (le-ltb r.cycle (a + n) past) in
    let z : before (a + n) rs ≡ 0 = none_before (a + n) (r.cycle + every) rs (omega (arith, past)) h.0 in
    omega (arith, x, y, z))
    (cases_lt r.cycle (a + n)))
    (cases_lt r.cycle a) where
      grows : (s t : ℕ) (rs : List Request) → s ≤ t → before s rs ≤ before t rs
      grows s t [] le = omega arith
      grows s t (r ∷ rs) le =
          let x : before s rs ≤ before t rs = grows s t rs le in
          ⊎_elim (λ (lt : r.cycle < s).
          let y : one_if (ltb r.cycle s) ≡ 1 = ap one_if (lt-ltb r.cycle s lt) in
          let z : one_if (ltb r.cycle t) ≡ 1 = ap one_if (lt-ltb r.cycle t (omega (arith, lt, le))) in
          omega (arith, x, y, z))
          (λ (ge : s ≤ r.cycle).
          let y : one_if (ltb r.cycle s) ≡ 0 = ap one_if (le-ltb r.cycle s ge) in
          omega (arith, x, y))
          (cases_lt r.cycle s)

-- ---- one cycle

-- those of a cycle
abbrev pub at_cycle : ℕ → List Request → ℕ
at_cycle t [] = 0
at_cycle t (r ∷ rs) = one_if (eqb r.cycle t) + at_cycle t rs

pub next_before : (t : ℕ) (rs : List Request) → before (suc t) rs ≡ before t rs + at_cycle t rs
next_before t [] = refl
next_before t (r ∷ rs) =
    let x : before (suc t) rs ≡ before t rs + at_cycle t rs = next_before t rs in
    let y : one_if (ltb r.cycle (suc t)) ≡ one_if (ltb r.cycle t) + one_if (eqb r.cycle t) = by r.cycle t in
    omega (arith, x, y) where
      by : (c t : ℕ) → one_if (ltb c (suc t)) ≡ one_if (ltb c t) + one_if (eqb c t)
      by c t =
          ⊎_elim (λ (lt : c < t).
          let a : one_if (ltb c (suc t)) ≡ 1 = ap one_if (lt-ltb c (suc t) (omega (arith, lt))) in
          let b : one_if (ltb c t) ≡ 1 = ap one_if (lt-ltb c t lt) in
          let d : one_if (eqb c t) ≡ 0 = ap one_if (ne_eqb c t (λ e. omega (arith, e, lt))) in
          omega (arith, a, b, d))
          (λ (ge : t ≤ c).
          ⊎_elim (λ (same : c ≡ t).
          let a : one_if (ltb c (suc t)) ≡ 1 = ap one_if (lt-ltb c (suc t) (omega (arith, same))) in
          let b : one_if (ltb c t) ≡ 0 = ap one_if (le-ltb c t ge) in
          let d : one_if (eqb c t) ≡ 1 = ap one_if (eq-eqb c t same) in
          omega (arith, a, b, d))
          (λ (ne : c ≡ t → ⊥).
          ⊎_elim (λ (less : c < suc t). absurd (ne (omega (arith, less, ge))))
          (λ (past : suc t ≤ c).
          let a : one_if (ltb c (suc t)) ≡ 0 = ap one_if (le-ltb c (suc t) past) in
          let b : one_if (ltb c t) ≡ 0 = ap one_if (le-ltb c t ge) in
          let d : one_if (eqb c t) ≡ 0 = ap one_if (ne_eqb c t ne) in
          omega (arith, a, b, d))
          (cases_lt c (suc t)))
          (cases_eq c t))
          (cases_lt c t)
