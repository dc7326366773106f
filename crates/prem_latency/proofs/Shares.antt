-- No number of cycles is enough that is less than the one with which the search begins.
use Rattle.std.specs.Prelude.{All}
use Rattle.std.proofs.Common.{◌≡◌, ℕ, suc, ◌+◌, ◌-◌, ◌*◌, ◌/◌, ◌<◌, ◌≤◌, ◌^◌, ap, sym, ◌∙◌, arith, max, min, List, [], ◌∷◌, take, ⊎_elim}
use Rattle.std.proofs.lemmas.Bool.{cases_lt}
use Rattle.std.proofs.lemmas.Nat.{mul-le}
use Rattle.std.proofs.Math.Nat.{add-mul, mul_comm, mul_assoc, mul_left_comm, mul_right_comm, mul-mul-mul_comm, div-mul-le_self, le_of_mul-le-mul_right, div-le_of_le-mul, max-le}
use Rattle.std.proofs.Math.Nat.{le-max_right, min-le_left}
use Rattle.std.proofs.lemmas.List.Elements.{All-take}
use Rattle.prem_latency.specs.Wait.{Asking, Closing, IsAsking, IsClosing, IsRoom, requests_in, jobs_in, transfers_in, closed_in, rest_behind}
use Rattle.prem_latency.specs.Turns.{NoneIsBefore, share, shares_asked, shares_closed, debts, used, owed, cycles_for}
use Rattle.prem_latency.specs.Timeline.{no_asking, no_closing}
use Rattle.prem_latency.proofs.Divides.{in_distances, jobs_cover}

-- ---- one device, one task

-- the share of what comes in some cycles isn't more than what comes
asked_share : (w c p l n : ℕ) → l ≤ n * p → c * w / p * l ≤ n * c * w
asked_share w c p l n le =
    let s : ℕ = c * w / p in
    let a : s * l ≤ s * (n * p) = mul-le s l s (n * p) (omega arith) le in
    let b : n * (s * p) ≤ n * (c * w) = mul-le n (s * p) n (c * w) (omega arith) (div-mul-le_self (c * w) p) in
    through (s * l) (s * (n * p)) (n * (s * p)) (n * (c * w)) (n * c * w) a (mul_left_comm s n p) b (sym (mul_assoc n c w)) where
      through : (a b c d e : ℕ) → a ≤ b → b ≡ c → c ≤ d → d ≡ e → a ≤ e
      through a b c d e x y z u = omega (arith, x, y, z, u)

-- nor is the share of what is closed in some cycles, with what is owed, more than what is closed
closed_share : (w c p r l n : ℕ) → 1 ≤ p → l + r ≤ n * p → r * c / p * w + c * w / p * l ≤ n * c * w
closed_share w c p r l n some le =
    let q : ℕ = r * c / p in
    let s : ℕ = c * w / p in
    let a : q * p * w ≤ r * c * w = mul-le (q * p) w (r * c) w (div-mul-le_self (r * c) p) (omega arith) in
    let b : s * p * l ≤ c * w * l = mul-le (s * p) l (c * w) l (div-mul-le_self (c * w) p) (omega arith) in
    let t : (l + r) * (c * w) ≤ n * p * (c * w) = mul-le (l + r) (c * w) (n * p) (c * w) le (omega arith) in
    let x : (q * w + s * l) * p ≡ q * p * w + s * p * l = add-mul (q * w) (s * l) p ∙ two (q * w * p) (s * l * p) (q * p * w) (s * p * l) (mul_right_comm q w p) (mul_right_comm s l p) in
    let y : n * p * (c * w) ≡ n * c * w * p = mul-mul-mul_comm n p c w ∙ ap (λ i. n * c * i) (mul_comm p w) ∙ sym (mul_assoc (n * c) w p) in
    le_of_mul-le-mul_right {k = p}
    (through (q * p * w) (r * c * w) (s * p * l) (c * w * l) ((l + r) * (c * w)) (n * p * (c * w)) ((q * w + s * l) * p) (n * c * w * p)
    (l * (c * w)) (r * (c * w)) a b t x y (add-mul l r (c * w)) (mul_assoc r c w) (mul_comm (c * w) l)) (omega (arith, some)) where
      two : (a b c d : ℕ) → a ≡ c → b ≡ d → a + b ≡ c + d
      two a b c d x y = omega (arith, x, y)

      through : (a b c d e f g h i j : ℕ) → a ≤ b → c ≤ d → e ≤ f → g ≡ a + c → f ≡ h → e ≡ i + j → b ≡ j → d ≡ i → g ≤ h
      through a b c d e f g h i j x y z u v w r s = omega (arith, x, y, z, u, v, w, r, s)

-- ---- all of them

asked_shares : (xs : List Asking) (l : ℕ) → All IsAsking xs → shares_asked xs * l ≤ transfers_in l xs * 2 ^ 64
asked_shares [] l all = omega arith
asked_shares (x ∷ xs) l all =
    let some : 1 ≤ x.every = (all 0 no_asking (omega arith)).every in
    let here : share x.cost x.every * l ≤ requests_in x.every l * x.cost * 2 ^ 64 = asked_share (2 ^ 64) x.cost x.every l (requests_in x.every l) (in_distances x.every l some) in
    let more : shares_asked xs * l ≤ transfers_in l xs * 2 ^ 64 = asked_shares xs l (λ k d lt. all (suc k) d (omega (arith, lt))) in
    let parts : (share x.cost x.every + shares_asked xs) * l ≡ share x.cost x.every * l + shares_asked xs * l = add-mul (share x.cost x.every) (shares_asked xs) l in
    sum ((share x.cost x.every + shares_asked xs) * l) (share x.cost x.every * l) (shares_asked xs * l) (requests_in x.every l * x.cost) (transfers_in l xs) parts here more where
      sum : (s a b c d : ℕ) → s ≡ a + b → a ≤ c * 2 ^ 64 → b ≤ d * 2 ^ 64 → s ≤ (c + d) * 2 ^ 64
      sum s a b c d e x y = omega (arith, e, x, y)

closed_shares : (xs : List Closing) (l : ℕ) → 1 ≤ l → All IsClosing xs → debts xs * 2 ^ 64 + shares_closed xs * l ≤ closed_in l xs * 2 ^ 64
closed_shares [] l one all = omega arith
closed_shares (x ∷ xs) l one all =
    let some : 1 ≤ x.period = (all 0 no_closing (omega arith)).period in
    let q : ℕ = x.length * x.closed / x.period in
    let s : ℕ = share x.closed x.period in
    let n : ℕ = jobs_in x.period x.length l in
    let here : q * 2 ^ 64 + s * l ≤ n * x.closed * 2 ^ 64 = closed_share (2 ^ 64) x.closed x.period x.length l n some (jobs_cover x.period x.length l some one) in
    let more : debts xs * 2 ^ 64 + shares_closed xs * l ≤ closed_in l xs * 2 ^ 64 = closed_shares xs l one (λ k d lt. all (suc k) d (omega (arith, lt))) in
    sum ((s + shares_closed xs) * l) (s * l) (shares_closed xs * l) q (debts xs) (n * x.closed) (closed_in l xs) (add-mul s (shares_closed xs) l) here more where
      sum : (s a b q r c d : ℕ) → s ≡ a + b → q * 2 ^ 64 + a ≤ c * 2 ^ 64 → r * 2 ^ 64 + b ≤ d * 2 ^ 64 → (q + r) * 2 ^ 64 + s ≤ (c + d) * 2 ^ 64
      sum s a b q r c d e x y = omega (arith, e, x, y)

-- ---- where the search begins

-- what is owed takes no more than what is free in some cycles that are enough
owed_within : (devices : List Asking) (tasks : List Closing) (d l : ℕ) → All IsAsking devices → All IsClosing tasks → IsRoom devices tasks d l →
    owed devices tasks d * 2 ^ 64 + used devices tasks d * l ≤ l * 2 ^ 64
owed_within devices tasks d l asks closes room =
    let a : shares_asked (take (d + 1) devices) * l ≤ transfers_in l (take (d + 1) devices) * 2 ^ 64 = asked_shares (take (d + 1) devices) l (All-take IsAsking (d + 1) devices asks) in
    let b : debts tasks * 2 ^ 64 + shares_closed tasks * l ≤ closed_in l tasks * 2 ^ 64 = closed_shares tasks l room.0 closes in
    sum (rest_behind devices d) (debts tasks) (used devices tasks d * l) (shares_asked (take (d + 1) devices) * l) (shares_closed tasks * l)
    (transfers_in l (take (d + 1) devices)) (closed_in l tasks) l (add-mul (shares_asked (take (d + 1) devices)) (shares_closed tasks) l) a b room.1 where
      sum : (r q s a b c d l : ℕ) → s ≡ a + b → a ≤ c * 2 ^ 64 → q * 2 ^ 64 + b ≤ d * 2 ^ 64 → r + c + d ≤ l → (r + q) * 2 ^ 64 + s ≤ l * 2 ^ 64
      sum r q s a b c d l e x y z = omega (arith, e, x, y, z)

-- so all that is owed takes so long
free_within : (w o u l : ℕ) → o * w + u * l ≤ l * w → o * w ≤ max 1 (w - u) * l
free_within w o u l h = ⊎_elim (λ (lt : u < w). some lt) (λ (le : w ≤ u). none le) (cases_lt u w) where
  within : w - u ≤ max 1 (w - u)
  within = le-max_right 1 (w - u)

  some : u < w → o * w ≤ max 1 (w - u) * l
  some lt =
      let f : ℕ = w - u in
      let e : u + f ≡ w = omega (arith, lt) in
      let a : (u + f) * l ≡ u * l + f * l = add-mul u f l in
      let b : (u + f) * l ≡ w * l = ap (λ i. i * l) e in
      let c : f * l ≤ max 1 f * l = mul-le f l (max 1 f) l within (omega arith) in
      through (o * w) (u * l) (l * w) ((u + f) * l) (f * l) (w * l) (max 1 f * l) h a b (mul_comm w l) c where
        through : (a b c d e f g : ℕ) → a + b ≤ c → d ≡ b + e → d ≡ f → f ≡ c → e ≤ g → a ≤ g
        through a b c d e f g x y z u v = omega (arith, x, y, z, u, v)

  none : w ≤ u → o * w ≤ max 1 (w - u) * l
  none le =
      let a : w * l ≤ u * l = mul-le w l u l le (omega arith) in
      through (o * w) (u * l) (l * w) (w * l) (max 1 (w - u) * l) h a (mul_comm w l) where
        through : (a b c d e : ℕ) → a + b ≤ c → d ≤ b → d ≡ c → a ≤ e
        through a b c d e x y z = omega (arith, x, y, z)

cycles_within : (o u l : ℕ) → 1 ≤ l → o * 2 ^ 64 + u * l ≤ l * 2 ^ 64 → cycles_for o u ≤ l
cycles_within o u l one h =
    let few : min o (2 ^ 41) * 2 ^ 64 ≤ o * 2 ^ 64 = mul-le (min o (2 ^ 41)) (2 ^ 64) o (2 ^ 64) (min-le_left o (2 ^ 41)) (omega arith) in
    let free : o * 2 ^ 64 ≤ max 1 (2 ^ 64 - u) * l = free_within (2 ^ 64) o u l h in
    max-le one (div-le_of_le-mul (max 1 (2 ^ 64 - u)) {m = min o (2 ^ 41) * 2 ^ 64} {n = l} (through (min o (2 ^ 41) * 2 ^ 64) (o * 2 ^ 64) (max 1 (2 ^ 64 - u) * l) few free)) where
      through : (a b c : ℕ) → a ≤ b → b ≤ c → a ≤ c
      through a b c x y = omega (arith, x, y)

pub none_is_before : NoneIsBefore
none_is_before devices tasks d cycles asks closes room = cycles_within (owed devices tasks d) (used devices tasks d) cycles room.0 (owed_within devices tasks d cycles asks closes room)
