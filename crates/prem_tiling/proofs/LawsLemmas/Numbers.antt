-- Turns of a loop and of its tiles, by numbers.
use Rattle.std.proofs.Common.{◌≡◌, ℕ, zero, suc, ◌+◌, ◌-◌, ◌*◌, ◌/◌, ◌%◌, ◌<◌, ◌≤◌, min, Bool, true, false, cond, not, refl, ap, sym, ◌∙◌, arith, ltb, leb, ◌⊎◌, inl, inr, ⊎_elim}
use Rattle.std.specs.Prelude.{pos, ◌+ℤ◌, int_lt}
use Rattle.prem_tiling.proofs.Prelude.{in_bound, turns_between, value_in, word_of, Int, mul_comm, mul-suc, mul-le-mul_left, mul-le-mul_right, zero-mul, mul-lt-mul_of_pos_left, mod-lt}
use Rattle.prem_tiling.proofs.Prelude.{div-add-mod, le-mul_of_pos_right, le-div_iff_mul-le, div-mul-le_self, div-eq_of_lt, mul-div_cancel_left, cases_lt, lt-ltb, le-ltb, ltb-true, leb-true}
use Rattle.prem_tiling.proofs.Prelude.{leb-false, ints, div_ceil}

-- a test is decided by what it tests
pub same_test : (a b c d : ℕ) → (a < b → c < d) → (b ≤ a → d ≤ c) → ltb a b ≡ ltb c d
same_test a b c d there past_ = ⊎_elim (λ (lt : a < b). lt-ltb a b lt ∙ sym (lt-ltb c d (there lt))) (λ (le : b ≤ a). le-ltb a b le ∙ sym (le-ltb c d (past_ le))) (cases_lt a b)

-- ---- the turns of a loop

-- rounded up
above : (d s : ℕ) → 0 < s → d ≤ s * div_ceil d s
above d s some = by (d % s) refl
  where
    by : (r : ℕ) → d % s ≡ r → d ≤ s * (d / s + min 1 r)
    by zero is = let e = div-add-mod d s in let f : s * (d / s + min 1 0) ≡ s * (d / s) = ap (λ x. s * x) (omega arith) in omega arith
    by (suc r) is =
        let e = div-add-mod d s in
        let lt = mod-lt d some in
        let f : s * (d / s + min 1 (suc r)) ≡ s * (d / s) + s = ap (λ x. s * x) (omega arith) ∙ mul-suc s (d / s) in
        omega arith

below : (d s j : ℕ) → 0 < s → j < div_ceil d s → s * j < d
below d s j some = by (d % s) refl
  where
    by : (r : ℕ) → d % s ≡ r → j < d / s + min 1 r → s * j < d
    by zero is lt = let e = div-add-mod d s in let m : s * j < s * (d / s) = mul-lt-mul_of_pos_left (omega arith) some in omega arith
    by (suc r) is lt = let e = div-add-mod d s in let m : s * j ≤ s * (d / s) = mul-le-mul_left s (omega arith) in omega arith

-- no more than what is shared out
pub ceil_small : (d s : ℕ) → 0 < s → div_ceil d s ≤ d
ceil_small d s some = ⊎_elim (λ (lt : d < div_ceil d s). let m = below d s d some lt in let n : d ≤ d * s = le-mul_of_pos_right d some in let e =
    mul_comm d s in absurd (omega arith)) (λ (le : div_ceil d s ≤ d). le) (cases_lt d (div_ceil d s))

-- a value of the variable is below the bound exactly in the turns of the loop
pub turn_there : (low bound step j : ℕ) → 0 < step → ltb (low + step * j) bound ≡ ltb j (turns_between low bound step)
turn_there low bound step j some = by (leb bound low) refl
  where
    by : (b : Bool) → leb bound low ≡ b → ltb (low + step * j) bound ≡ ltb j (cond b 0 (div_ceil (bound - low) step))
    by true is = le-ltb (low + step * j) bound (let le = leb-true bound low is in omega arith) ∙ sym (le-ltb j 0 (omega arith))
    by false is =
        let lt = leb-false bound low is in
        same_test (low + step * j) bound j (div_ceil (bound - low) step)
        (λ here. ⊎_elim (λ (there : j < div_ceil (bound - low) step). there)
        (λ (past : div_ceil (bound - low) step ≤ j). let m : step * div_ceil (bound - low) step ≤ step * j = mul-le-mul_left step past in let a =
        above (bound - low) step some in absurd (omega arith)) (cases_lt j (div_ceil (bound - low) step)))
        (λ past. ⊎_elim (λ (there : j < div_ceil (bound - low) step). let b = below (bound - low) step j some there in absurd (omega arith))
        (λ (le : div_ceil (bound - low) step ≤ j). le) (cases_lt j (div_ceil (bound - low) step)))

-- so no loop has more turns than an int has values
pub few_turns : (low bound step : ℕ) → 0 < step → turns_between low bound step ≤ bound
few_turns low bound step some = ⊎_elim (λ (small : turns_between low bound step ≤ bound). small) (λ (large : bound < turns_between low bound step). absurd (
    let there : bound < turns_between low bound step = large in
    let test : ltb (low + step * bound) bound ≡ true = turn_there low bound step bound some ∙ lt-ltb bound (turns_between low bound step) there in
    let lt = ltb-true (low + step * bound) bound test in
    let m : bound ≤ bound * step = le-mul_of_pos_right bound some in
    let same = mul_comm bound step in
    omega arith)) (flipped (cases_lt bound (turns_between low bound step)))
  where
    flipped : (bound < turns_between low bound step) ⊎ (turns_between low bound step ≤ bound) → (turns_between low bound step ≤ bound) ⊎ (bound < turns_between low bound step)
    flipped (inl lt) = inr lt
    flipped (inr le) = inl le

-- ---- those of tiles

pub firsts_rise : (n tiles t : ℕ) → 0 < tiles → t * n / tiles ≤ (t + 1) * n / tiles
firsts_rise n tiles t some =
    let one = div-mul-le_self (t * n) tiles in
    let more : t * n ≤ (t + 1) * n = mul-le-mul_right n (omega arith) in
    (le-div_iff_mul-le some).1 (omega arith)

pub first_is_none : (n tiles : ℕ) → 0 < tiles → 0 * n / tiles ≡ 0
first_is_none n tiles some = ap (λ x. x / tiles) (zero-mul n) ∙ div-eq_of_lt some

pub last_is_all : (n tiles : ℕ) → 0 < tiles → tiles * n / tiles ≡ n
last_is_all n tiles some = mul-div_cancel_left n some

-- the turns of tiles that end before the loop
pub turn_before : (low step j next : ℕ) → 0 < step → ltb (low + step * j) (low + step * next) ≡ ltb j next
turn_before low step j next some =
    same_test (low + step * j) (low + step * next) j next
    (λ here. ⊎_elim (λ (there : j < next). there) (λ (past : next ≤ j). let m : step * next ≤ step * j = mul-le-mul_left step past in absurd (omega arith)) (cases_lt j next))
    (λ past. ⊎_elim (λ (there : j < next). let m : step * j < step * next = mul-lt-mul_of_pos_left there some in absurd (omega arith)) (λ (le : next ≤ j). le) (cases_lt j next))

-- ---- ints

pub word_is_itself : (n : ℕ) → n ≤ 2147483647 → word_of (pos n) ≡ n
word_is_itself n le = omega (arith, ints)

pub small_is_itself : (n : ℕ) → n ≤ 2147483647 → value_in Int n ≡ pos n
small_is_itself n le = omega (arith, ints)

abbrev pub bound_with : Bool → ℕ → ℕ
bound_with closed high = cond closed (high + 1) high

pub in_bound_is : (closed : Bool) (x high : ℕ) → in_bound closed (pos x) (pos high) ≡ ltb x (bound_with closed high)
in_bound_is false x high = grind (arith, ints)
in_bound_is true x high = same (cases_lt high x)
  where
    same : (high < x) ⊎ (x ≤ high) → not (int_lt (pos high) (pos x)) ≡ ltb x (high + 1)
    same (inl lt) = (let test : int_lt (pos high) (pos x) ≡ true = grind (arith, ints) in ap not test) ∙ sym (le-ltb x (high + 1) (omega arith))
    same (inr le) = (let test : int_lt (pos high) (pos x) ≡ false = grind (arith, ints) in ap not test) ∙ sym (lt-ltb x (high + 1) (omega arith))

pub next_value : (low step j : ℕ) → (pos (low + step * j) +ℤ pos step) ≡ pos (low + step * (j + 1))
next_value low step j = let one : j + 1 ≡ suc j = omega arith in let m : step * (j + 1) ≡ step * j + step = ap (λ x. step * x) one ∙ mul-suc step j in
    let sum : low + step * j + step ≡ low + step * (j + 1) = omega arith in ap pos sum
