-- Where shares of the bus, rounded up, leave a part of it, some cycles are enough.
use Rattle.std.specs.Prelude.{All}
use Rattle.std.proofs.Common.{◌≡◌, ℕ, suc, ◌+◌, ◌-◌, ◌*◌, ◌/◌, ◌<◌, ◌≤◌, ◌^◌, ap, sym, ◌∙◌, arith, List, [], ◌∷◌, length, take}
use Rattle.std.proofs.lemmas.Nat.{mul-le}
use Rattle.std.proofs.Math.Nat.{add-mul, mul_comm, mul_assoc, mul_left_comm, mul_right_comm, mul-mul-mul_comm, div-mul-le_self, lt-div-mul-add, le_of_mul-le-mul_right}
use Rattle.std.proofs.lemmas.List.Elements.{All-take}
use Rattle.prem_latency.specs.Wait.{Asking, Closing, IsAsking, IsClosing, requests_in, jobs_in, transfers_in, closed_in, demand, rest_behind}
use Rattle.prem_latency.specs.Turns.{RoomIsThere, share, shares_asked, shares_closed, debts, costs, closings, used_up, owed_once}
use Rattle.prem_latency.specs.Timeline.{no_asking, no_closing}
use Rattle.prem_latency.proofs.Divides.{one_more}

-- ---- one device, one task

turned : (n c w p : ℕ) → n * c * w * p ≡ n * p * (c * w)
turned n c w p = mul_assoc (n * c) w p ∙ ap (λ i. n * c * i) (mul_comm w p) ∙ sym (mul-mul-mul_comm n p c w)

-- cycles in as many parts as their share, rounded up
rounded : (w c p l : ℕ) → 1 ≤ p → l * (c * w) ≤ (c * w / p + 1) * l * p
rounded w c p l some =
    let s : ℕ = c * w / p in
    let lt : c * w < s * p + p = lt-div-mul-add {a = c * w} {b = p} some in
    let e : (s + 1) * p ≡ s * p + p = one_more s p in
    let a : l * (c * w) ≤ l * ((s + 1) * p) = mul-le l (c * w) l ((s + 1) * p) (omega arith) (below (c * w) (s * p + p) ((s + 1) * p) lt e) in
    let b : l * ((s + 1) * p) ≡ (s + 1) * l * p = mul_left_comm l (s + 1) p ∙ sym (mul_assoc (s + 1) l p) in
    through (l * (c * w)) (l * ((s + 1) * p)) ((s + 1) * l * p) a b where
      below : (a b c : ℕ) → a < b → c ≡ b → a ≤ c
      below a b c x y = omega (arith, x, y)

      through : (a b c : ℕ) → a ≤ b → b ≡ c → a ≤ c
      through a b c x y = omega (arith, x, y)

-- what comes in some cycles isn't more than its share of them and one
asked_over : (w c p l n : ℕ) → 1 ≤ p → n * p ≤ l + p → n * c * w ≤ (c * w / p + 1) * l + c * w
asked_over w c p l n some le =
    let s : ℕ = c * w / p + 1 in
    let a : n * p * (c * w) ≤ (l + p) * (c * w) = mul-le (n * p) (c * w) (l + p) (c * w) le (omega arith) in
    let b : (l + p) * (c * w) ≡ l * (c * w) + p * (c * w) = add-mul l p (c * w) in
    let d : (s * l + c * w) * p ≡ s * l * p + c * w * p = add-mul (s * l) (c * w) p in
    le_of_mul-le-mul_right {k = p}
    (through (n * c * w * p) (n * p * (c * w)) ((l + p) * (c * w)) (l * (c * w)) (p * (c * w)) (s * l * p) (c * w * p) ((s * l + c * w) * p)
    (turned n c w p) a b (rounded w c p l some) (mul_comm p (c * w)) d) (omega (arith, some)) where
      through : (a b c d e f g h : ℕ) → a ≡ b → b ≤ c → c ≡ d + e → d ≤ f → e ≡ g → h ≡ f + g → a ≤ h
      through a b c d e f g h x y z u v w = omega (arith, x, y, z, u, v, w)

-- nor is what is closed more than its share, what is owed, and one
closed_over : (w c p r l n : ℕ) → 1 ≤ p → n * p ≤ l + r + p → n * c * w ≤ (r * c / p + 1) * w + (c * w / p + 1) * l + c * w
closed_over w c p r l n some le =
    let q : ℕ = r * c / p + 1 in
    let s : ℕ = c * w / p + 1 in
    let a : n * p * (c * w) ≤ (l + r + p) * (c * w) = mul-le (n * p) (c * w) (l + r + p) (c * w) le (omega arith) in
    let b : (l + r + p) * (c * w) ≡ (l + r) * (c * w) + p * (c * w) = add-mul (l + r) p (c * w) in
    let d : (l + r) * (c * w) ≡ l * (c * w) + r * (c * w) = add-mul l r (c * w) in
    let o : r * c < r * c / p * p + p = lt-div-mul-add {a = r * c} {b = p} some in
    let f : r * c * w ≤ q * p * w = mul-le (r * c) w (q * p) w (below (r * c) (r * c / p * p + p) (q * p) o (one_more (r * c / p) p)) (omega arith) in
    let g : q * p * w ≡ q * w * p = mul_right_comm q p w in
    let h : (q * w + s * l + c * w) * p ≡ q * w * p + s * l * p + c * w * p = add-mul (q * w + s * l) (c * w) p ∙ ap (λ i. i + c * w * p) (add-mul (q * w) (s * l) p) in
    le_of_mul-le-mul_right {k = p}
    (through (n * c * w * p) (n * p * (c * w)) ((l + r + p) * (c * w)) ((l + r) * (c * w)) (p * (c * w)) (l * (c * w)) (r * (c * w)) (r * c * w)
    (q * p * w) (q * w * p) (s * l * p) (c * w * p) ((q * w + s * l + c * w) * p) (turned n c w p) a b d (mul_assoc r c w) f g
    (rounded w c p l some) (mul_comm p (c * w)) h) (omega (arith, some)) where
      below : (a b c : ℕ) → a < b → c ≡ b → a ≤ c
      below a b c x y = omega (arith, x, y)

      through : (a b c d e f g h i j k m n : ℕ) → a ≡ b → b ≤ c → c ≡ d + e → d ≡ f + g → h ≡ g → h ≤ i → i ≡ j → f ≤ k → e ≡ m → n ≡ j + k + m → a ≤ n
      through a b c d e f g h i j k m n x1 x2 x3 x4 x5 x6 x7 x8 x9 x10 = omega (arith, x1, x2, x3, x4, x5, x6, x7, x8, x9, x10)

requests_below : (every l : ℕ) → 1 ≤ every → requests_in every l * every ≤ l + every
requests_below every l some = let x : requests_in every l * every ≤ l + every - 1 = div-mul-le_self (l + every - 1) every in omega (arith, x)

jobs_below : (period length l : ℕ) → 1 ≤ l → jobs_in period length l * period ≤ l + length + period
jobs_below period length l one =
    let q : ℕ = (l - 1 + length) / period in
    let x : q * period ≤ l - 1 + length = div-mul-le_self (l - 1 + length) period in
    let e : (q + 1) * period ≡ q * period + period = one_more q period in
    sum ((q + 1) * period) (q * period) l length period x e where
      sum : (a b l r p : ℕ) → b ≤ l - 1 + r → a ≡ b + p → a ≤ l + r + p
      sum a b l r p x e = omega (arith, x, e)

-- ---- all of them

asked_all_over : (xs : List Asking) (l : ℕ) → All IsAsking xs → transfers_in l xs * 2 ^ 64 ≤ (shares_asked xs + length xs) * l + costs xs * 2 ^ 64
asked_all_over [] l all = omega arith
asked_all_over (x ∷ xs) l all =
    let some : 1 ≤ x.every = (all 0 no_asking (omega arith)).every in
    let s : ℕ = share x.cost x.every in
    let n : ℕ = requests_in x.every l in
    let here : n * x.cost * 2 ^ 64 ≤ (s + 1) * l + x.cost * 2 ^ 64 = asked_over (2 ^ 64) x.cost x.every l n some (requests_below x.every l some) in
    let more : transfers_in l xs * 2 ^ 64 ≤ (shares_asked xs + length xs) * l + costs xs * 2 ^ 64 = asked_all_over xs l (λ k d lt. all (suc k) d (omega (arith, lt))) in
    let e : (s + shares_asked xs + suc (length xs)) * l ≡ (s + 1) * l + (shares_asked xs + length xs) * l = parted s (shares_asked xs) (length xs) l in
    sum (n * x.cost) (transfers_in l xs) ((s + 1) * l) ((shares_asked xs + length xs) * l) x.cost (costs xs) ((s + shares_asked xs + suc (length xs)) * l) here more e where
      parted : (s t n l : ℕ) → (s + t + suc n) * l ≡ (s + 1) * l + (t + n) * l
      parted s t n l = (let e : s + t + suc n ≡ s + 1 + (t + n) = omega arith in ap (λ i. i * l) e) ∙ add-mul (s + 1) (t + n) l

      sum : (a b c d e f g : ℕ) → a * 2 ^ 64 ≤ c + e * 2 ^ 64 → b * 2 ^ 64 ≤ d + f * 2 ^ 64 → g ≡ c + d → (a + b) * 2 ^ 64 ≤ g + (e + f) * 2 ^ 64
      sum a b c d e f g x y z = omega (arith, x, y, z)

closed_all_over : (xs : List Closing) (l : ℕ) → 1 ≤ l → All IsClosing xs → closed_in l xs * 2 ^ 64 ≤ (shares_closed xs + length xs) * l + (debts xs + closings xs) * 2 ^ 64
closed_all_over [] l one all = omega arith
closed_all_over (x ∷ xs) l one all =
    let some : 1 ≤ x.period = (all 0 no_closing (omega arith)).period in
    let s : ℕ = share x.closed x.period in
    let q : ℕ = x.length * x.closed / x.period in
    let n : ℕ = jobs_in x.period x.length l in
    let here : n * x.closed * 2 ^ 64 ≤ (q + 1) * 2 ^ 64 + (s + 1) * l + x.closed * 2 ^ 64 = closed_over (2 ^ 64) x.closed x.period x.length l n some (jobs_below x.period x.length l one) in
    let more : closed_in l xs * 2 ^ 64 ≤ (shares_closed xs + length xs) * l + (debts xs + closings xs) * 2 ^ 64 = closed_all_over xs l one (λ k d lt. all (suc k) d (omega (arith, lt))) in
    let e : (s + shares_closed xs + suc (length xs)) * l ≡ (s + 1) * l + (shares_closed xs + length xs) * l = parted s (shares_closed xs) (length xs) l in
    sum (n * x.closed) (closed_in l xs) ((s + 1) * l) ((shares_closed xs + length xs) * l) q x.closed (debts xs) (closings xs) ((s + shares_closed xs + suc (length xs)) * l) here more e where
      parted : (s t n l : ℕ) → (s + t + suc n) * l ≡ (s + 1) * l + (t + n) * l
      parted s t n l = (let e : s + t + suc n ≡ s + 1 + (t + n) = omega arith in ap (λ i. i * l) e) ∙ add-mul (s + 1) (t + n) l

      sum : (a b c d q e r f g : ℕ) → a * 2 ^ 64 ≤ (q + 1) * 2 ^ 64 + c + e * 2 ^ 64 → b * 2 ^ 64 ≤ d + (r + f) * 2 ^ 64 → g ≡ c + d → (a + b) * 2 ^ 64 ≤ g + (q + r + (e + 1 + f)) * 2 ^ 64
      sum a b c d q e r f g x y z = omega (arith, x, y, z)

-- ---- some cycles are enough

demand_over : (devices : List Asking) (tasks : List Closing) (d l : ℕ) → All IsAsking devices → All IsClosing tasks → 1 ≤ l →
    demand devices tasks d l * 2 ^ 64 ≤ used_up devices tasks d * l + owed_once devices tasks d * 2 ^ 64
demand_over devices tasks d l asks closes one =
    let ours : List Asking = take (d + 1) devices in
    let a : transfers_in l ours * 2 ^ 64 ≤ (shares_asked ours + length ours) * l + costs ours * 2 ^ 64 = asked_all_over ours l (All-take IsAsking (d + 1) devices asks) in
    let b : closed_in l tasks * 2 ^ 64 ≤ (shares_closed tasks + length tasks) * l + (debts tasks + closings tasks) * 2 ^ 64 = closed_all_over tasks l one closes in
    let e : used_up devices tasks d * l ≡ (shares_asked ours + length ours) * l + (shares_closed tasks + length tasks) * l =
    parted (shares_asked ours) (shares_closed tasks) (length ours) (length tasks) l in
    sum (rest_behind devices d) (transfers_in l ours) (closed_in l tasks) ((shares_asked ours + length ours) * l)
    ((shares_closed tasks + length tasks) * l) (costs ours) (debts tasks) (closings tasks) (used_up devices tasks d * l) a b e where
      parted : (s t m n l : ℕ) → (s + t + m + n) * l ≡ (s + m) * l + (t + n) * l
      parted s t m n l = (let e : s + t + m + n ≡ s + m + (t + n) = omega arith in ap (λ i. i * l) e) ∙ add-mul (s + m) (t + n) l

      sum : (r a b c d e f g h : ℕ) → a * 2 ^ 64 ≤ c + e * 2 ^ 64 → b * 2 ^ 64 ≤ d + (f + g) * 2 ^ 64 → h ≡ c + d → (r + a + b) * 2 ^ 64 ≤ h + (r + f + e + g) * 2 ^ 64
      sum r a b c d e f g h x y z = omega (arith, x, y, z)

-- so many as free parts give what is owed, with each rounded up
enough : (w u o demand : ℕ) → u < w → demand * w ≤ u * (o * w / (w - u) + 1) + o * w → demand ≤ o * w / (w - u) + 1
enough w u o demand lt le =
    let f : ℕ = w - u in
    let l : ℕ = o * w / f + 1 in
    let some : 1 ≤ f = omega (arith, lt) in
    let a : o * w < o * w / f * f + f = lt-div-mul-add {a = o * w} {b = f} some in
    let b : l * f ≡ o * w / f * f + f = one_more (o * w / f) f in
    let e : u + f ≡ w = omega (arith, lt) in
    let g : (u + f) * l ≡ u * l + f * l = add-mul u f l in
    let h : (u + f) * l ≡ w * l = ap (λ i. i * l) e in
    le_of_mul-le-mul_right {k = w}
    (through (demand * w) (u * l) (o * w) (o * w / f * f + f) (l * f) (f * l) ((u + f) * l) (w * l) (l * w) le a b (mul_comm f l) g h
    (mul_comm w l)) (omega (arith, lt)) where
      through : (a b c d e f g h i : ℕ) → a ≤ b + c → c < d → e ≡ d → f ≡ e → g ≡ b + f → g ≡ h → h ≡ i → a ≤ i
      through a b c d e f g h i x1 x2 x3 x4 x5 x6 x7 = omega (arith, x1, x2, x3, x4, x5, x6, x7)

pub room_is_there : RoomIsThere
room_is_there devices tasks d asks closes lt =
    let l : ℕ = owed_once devices tasks d * 2 ^ 64 / (2 ^ 64 - used_up devices tasks d) + 1 in
    let one : 1 ≤ l = omega arith in
    (one, enough (2 ^ 64) (used_up devices tasks d) (owed_once devices tasks d) (demand devices tasks d l) lt (demand_over devices tasks d l asks closes one))
