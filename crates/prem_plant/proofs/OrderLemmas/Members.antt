-- Members of lists of numbers.
use Rattle.std.proofs.Common.{◌≡◌, ◌≢◌, ℕ, zero, suc, ◌+◌, ◌-◌, ◌≤◌, refl, ap, ◌∙◌, sym, arith, cond, eqb, true, false, List, [], ◌∷◌, ◌++◌, length, take}
use Rattle.std.proofs.lemmas.Bool.{eqb-true, eq-eqb, ne_eqb, cond_both}
use Rattle.prem_plant.specs.Order.Order.{is_in, without, AllIn, AreOnce}

pub in_head : (x y : ℕ) (ys : List ℕ) → y ≡ x → is_in x (y ∷ ys) ≡ true
in_head x y ys e = ap (λ b. cond b true (is_in x ys)) (eq-eqb y x e)

pub in_tail : (x y : ℕ) (ys : List ℕ) → is_in x ys ≡ true → is_in x (y ∷ ys) ≡ true
in_tail x y ys h = cond_both (eqb y x) true (is_in x ys) (λ b. b ≡ true) (λ _. refl) (λ _. h)

pub in_other : (x y : ℕ) (ys : List ℕ) → y ≢ x → is_in x (y ∷ ys) ≡ is_in x ys
in_other x y ys ne = ap (λ b. cond b true (is_in x ys)) (ne_eqb y x ne)

-- x is not y, since one is in the list and the other isn't
pub apart_by : (x y : ℕ) (xs : List ℕ) → is_in x xs ≡ true → is_in y xs ≡ false → x ≢ y
apart_by x y xs h n e = let s : is_in x xs ≡ is_in y xs = ap (λ z. is_in z xs) e in let z : true ≡ false = sym h ∙ s ∙ n in cc

-- ---- a list without x

pub in_without : (x y : ℕ) (xs : List ℕ) → y ≢ x → is_in y (without x xs) ≡ is_in y xs
in_without x y [] ne = refl
in_without x y (z ∷ zs) ne =
    cond_both (eqb z x) zs (z ∷ without x zs) (λ ws. is_in y ws ≡ is_in y (z ∷ zs))
    (λ t. sym (in_other y z zs (λ e. ne (sym e ∙ eqb-true z x t)))) (λ _. ap (cond (eqb z y) true) (in_without x y zs ne))

pub length-without : (x : ℕ) (xs : List ℕ) → is_in x xs ≡ true → length (without x xs) + 1 ≡ length xs
length-without x [] h = cc
length-without x (z ∷ zs) h0 =
    cond_both (eqb z x) true (is_in x zs) (λ b. b ≡ true → length (cond (eqb z x) zs (z ∷ without x zs)) + 1 ≡ suc (length zs))
    (λ t _. ap (λ b. length (cond b zs (z ∷ without x zs)) + 1) t ∙ omega arith)
    (λ f h. ap (λ b. length (cond b zs (z ∷ without x zs)) + 1) f ∙ (let r : length (without x zs) + 1 ≡ length zs = length-without x zs h in omega arith)) h0

pub without-absent : (x : ℕ) (xs : List ℕ) → is_in x xs ≡ false → without x xs ≡ xs
without-absent x [] h = refl
without-absent x (z ∷ zs) h0 =
    cond_both (eqb z x) true (is_in x zs) (λ b. b ≡ false → cond (eqb z x) zs (z ∷ without x zs) ≡ z ∷ zs)
    (λ _ h. cc) (λ f h. ap (λ b. cond b zs (z ∷ without x zs)) f ∙ ap (λ ws. z ∷ ws) (without-absent x zs h)) h0

pub once_without : (x : ℕ) (p : List ℕ) → AreOnce p → (is_in x (without x p) ≡ false) × AreOnce (without x p)
once_without x [] a = (refl, tt)
once_without x (y ∷ ys) a =
    cond_both (eqb y x) ys (y ∷ without x ys) (λ ws. (is_in x ws ≡ false) × AreOnce ws)
    (λ t. (ap (λ n. is_in n ys) (sym (eqb-true y x t)) ∙ a.0, a.1))
    (λ f. let ne : y ≢ x = (λ e. let t : eqb y x ≡ true = eq-eqb y x e in cc) in
    let r : (is_in x (without x ys) ≡ false) × AreOnce (without x ys) = once_without x ys a.1 in
    (in_other x y (without x ys) ne ∙ r.0, (in_without x y ys ne ∙ a.0, r.1)))

-- ---- inclusion

pub all_in_without : (x : ℕ) (c p : List ℕ) → AllIn c p → AllIn c (without x p)
all_in_without x c [] h = tt
all_in_without x c (y ∷ ys) h = cond_both (eqb y x) ys (y ∷ without x ys) (AllIn c) (λ _. h.1) (λ _. (h.0, all_in_without x c ys h.1))

without_all_in : (x : ℕ) (c xs : List ℕ) → AllIn c xs → is_in x xs ≡ false → AllIn (without x c) xs
without_all_in x c [] h n = tt
without_all_in x c (z ∷ zs) h n0 =
    cond_both (eqb z x) true (is_in x zs) (λ b. b ≡ false → AllIn (without x c) (z ∷ zs))
    (λ _ n. cc)
    (λ f n. (in_without x z c (λ e. let t : eqb z x ≡ true = eq-eqb z x e in cc) ∙ h.0, without_all_in x c zs h.1 n)) n0

-- members of a collection, none of them twice, are no more than it has
pub no_more : (xs c : List ℕ) → AreOnce xs → AllIn c xs → length xs ≤ length c
no_more [] c a h = omega arith
no_more (x ∷ xs) c a h =
    let r : length xs ≤ length (without x c) = no_more xs (without x c) a.1 (without_all_in x c xs h.1 a.0) in
    let n : length (without x c) + 1 ≡ length c = length-without x c h.0 in
    omega arith

pub in_all : (c xs : List ℕ) (x : ℕ) → AllIn c xs → is_in x xs ≡ true → is_in x c ≡ true
in_all c [] x a h = cc
in_all c (y ∷ ys) x a h0 =
    cond_both (eqb y x) true (is_in x ys) (λ b. b ≡ true → is_in x c ≡ true)
    (λ t _. ap (λ z. is_in z c) (sym (eqb-true y x t)) ∙ a.0) (λ _ h. in_all c ys x a.1 h) h0

pub all_by : (c xs : List ℕ) → ((x : ℕ) → is_in x xs ≡ true → is_in x c ≡ true) → AllIn c xs
all_by c [] f = tt
all_by c (x ∷ xs) f = (f x (in_head x x xs refl), all_by c xs (λ y h. f y (in_tail y x xs h)))

pub all_in_through : (a b xs : List ℕ) → AllIn a b → AllIn b xs → AllIn a xs
all_in_through a b xs h k = all_by a xs (λ x i. in_all a b x h (in_all b xs x k i))

-- ---- two lists joined

pub in_append_left : (x : ℕ) (p r : List ℕ) → is_in x p ≡ true → is_in x (p ++ r) ≡ true
in_append_left x [] r h = cc
in_append_left x (y ∷ ys) r h0 =
    cond_both (eqb y x) true (is_in x ys) (λ b. b ≡ true → is_in x (y ∷ ys ++ r) ≡ true)
    (λ t _. in_head x y (ys ++ r) (eqb-true y x t)) (λ _ h. in_tail x y (ys ++ r) (in_append_left x ys r h)) h0

pub without-append_in : (x : ℕ) (p r : List ℕ) → is_in x p ≡ true → without x (p ++ r) ≡ without x p ++ r
without-append_in x [] r h = cc
without-append_in x (y ∷ ys) r h0 =
    cond_both (eqb y x) true (is_in x ys) (λ b. b ≡ true → without x (y ∷ ys ++ r) ≡ cond (eqb y x) ys (y ∷ without x ys) ++ r)
    (λ t _. ap (λ b. cond b (ys ++ r) (y ∷ without x (ys ++ r))) t ∙ ap (λ b. cond b ys (y ∷ without x ys) ++ r) (sym t))
    (λ f h. ap (λ b. cond b (ys ++ r) (y ∷ without x (ys ++ r))) f ∙ ap (λ zs. y ∷ zs) (without-append_in x ys r h) ∙ ap (λ b. cond b ys (y ∷ without x ys) ++ r) (sym f)) h0

pub without-append_out : (x : ℕ) (p r : List ℕ) → is_in x p ≡ false → without x (p ++ r) ≡ p ++ without x r
without-append_out x [] r h = refl
without-append_out x (y ∷ ys) r h0 =
    cond_both (eqb y x) true (is_in x ys) (λ b. b ≡ false → without x (y ∷ ys ++ r) ≡ y ∷ (ys ++ without x r))
    (λ _ h. cc) (λ f h. ap (λ b. cond b (ys ++ r) (y ∷ without x (ys ++ r))) f ∙ ap (λ zs. y ∷ zs) (without-append_out x ys r h)) h0

pub take_past : (n : ℕ) (p r : List ℕ) → length p ≤ n → take n (p ++ r) ≡ p ++ take (n - length p) r
take_past n [] r h = ap (λ k. take k r) (omega arith)
take_past zero (x ∷ p) r h = absurd (omega arith)
take_past (suc n) (x ∷ p) r h = ap (λ zs. x ∷ zs) (take_past n p r (omega arith) ∙ ap (λ k. p ++ take k r) (omega arith))
