-- Draws, one after another.
use Rattle.std.proofs.Common.{◌≡◌, ℕ, zero, suc, ◌+◌, ◌-◌, ◌*◌, ◌/◌, ◌%◌, ◌<◌, ◌≤◌, List, [], ◌∷◌, ◌++◌, length, append_assoc, refl, ap, sym, ◌∙◌, arith}
use Rattle.std.proofs.lemmas.Nat.{div-add-mod'}
use Rattle.std.proofs.Math.Nat.{add-mul-mod_self_right}
use Rattle.std.proofs.lemmas.List.{append-nil}
use Rattle.prem_gate.specs.declared.request.Request.{Request}
use Rattle.prem_running.specs.Sample.Draws.{next, drawn, after, numbers}
use Rattle.prem_running.specs.Sample.Trace.{request_at, requests_from}

-- the low 32 bits of a state give the next one
pub next_is : (x : ℕ) → (1664525 * (x % 4294967296) + 1013904223) % 4294967296 ≡ next x
unfolding next
next_is x =
    let whole : x / 4294967296 * 4294967296 + x % 4294967296 ≡ x = div-add-mod' x 4294967296 in
    let low : ℕ = 1664525 * (x % 4294967296) + 1013904223 in
    let split : 1664525 * x + 1013904223 ≡ low + 1664525 * (x / 4294967296) * 4294967296 = omega (arith, whole) in
    sym (ap (λ n. n % 4294967296) split ∙ add-mul-mod_self_right low (1664525 * (x / 4294967296)) 4294967296)

-- ---- lists of draws

none_after : (x : ℕ) → after 0 x ≡ x
unfolding after
none_after x = refl

no_numbers : (m x : ℕ) → numbers m 0 x ≡ []
unfolding numbers
no_numbers m x = refl

-- of those that are left, the first one
after_first : (count k x : ℕ) → k < count → after (count - k) x ≡ after (count - (k + 1)) (next x)
unfolding after
after_first count k x below =
    let left : count - k ≡ suc (count - (k + 1)) = omega (arith, below) in
    ap (λ n. after n x) left

numbers_first : (m count k x : ℕ) → k < count → numbers m (count - k) x ≡ drawn m (next x) ∷ numbers m (count - (k + 1)) (next x)
unfolding numbers
numbers_first m count k x below =
    let left : count - k ≡ suc (count - (k + 1)) = omega (arith, below) in
    ap (λ n. numbers m n x) left

pub numbers_counted : (m n x : ℕ) → length (numbers m n x) ≡ n
unfolding numbers
numbers_counted m zero x = refl
numbers_counted m (suc n) x = ap suc (numbers_counted m n (next x))

-- a loop's turn: one more is drawn
pub one_more : (m count k x y number : ℕ) (front all whole : List ℕ) → k < count → y ≡ next x → number ≡ drawn m y → all ≡ front ++ number ∷ [] →
    front ++ numbers m (count - k) x ≡ whole → all ++ numbers m (count - (k + 1)) y ≡ whole
one_more m count k x y number front all whole below state is grown so =
    let first : number ∷ numbers m (count - (k + 1)) y ≡ numbers m (count - k) x =
    ap (λ n. n ∷ numbers m (count - (k + 1)) y) is ∙ ap (λ z. drawn m z ∷ numbers m (count - (k + 1)) z) state ∙ sym (numbers_first m count k x below) in
    ap (λ l. l ++ numbers m (count - (k + 1)) y) grown
    ∙ append_assoc front (number ∷ []) (numbers m (count - (k + 1)) y)
    ∙ ap (λ l. front ++ l) first
    ∙ so

pub state_further : (count k x y whole : ℕ) → k < count → y ≡ next x → after (count - k) x ≡ whole → after (count - (k + 1)) y ≡ whole
state_further count k x y whole below state so = ap (after (count - (k + 1))) state ∙ sym (after_first count k x below) ∙ so

-- its end: none is left
pub all_drawn : (m count k x : ℕ) (front whole : List ℕ) → count ≤ k → front ++ numbers m (count - k) x ≡ whole → front ≡ whole
all_drawn m count k x front whole out so =
    let none : count - k ≡ 0 = omega (arith, out) in
    sym (append-nil front) ∙ ap (λ l. front ++ l) (sym (ap (λ n. numbers m n x) none ∙ no_numbers m x)) ∙ so

pub state_at_end : (count k x whole : ℕ) → count ≤ k → after (count - k) x ≡ whole → x ≡ whole
state_at_end count k x whole out so =
    let none : count - k ≡ 0 = omega (arith, out) in
    sym (ap (λ n. after n x) none ∙ none_after x) ∙ so

-- ---- requests

pub no_requests : (before x : ℕ) → requests_from 0 before x ≡ []
unfolding requests_from
no_requests before x = refl

requests_first : (count k before x : ℕ) → k < count →
    requests_from (count - k) before x ≡ request_at before x ∷ requests_from (count - (k + 1)) (request_at before x).cycle (next (next (next (next x))))
unfolding requests_from
requests_first count k before x below =
    let left : count - k ≡ suc (count - (k + 1)) = omega (arith, below) in
    ap (λ n. requests_from n before x) left

-- a loop's turn: one more comes
pub one_comes : (count k last x y : ℕ) (r : Request) (front all whole : List Request) → k < count → r ≡ request_at last x → y ≡ next (next (next (next x))) →
    all ≡ front ++ r ∷ [] → front ++ requests_from (count - k) last x ≡ whole → all ++ requests_from (count - (k + 1)) r.cycle y ≡ whole
one_comes count k last x y r front all whole below is state grown so =
    let first : r ∷ requests_from (count - (k + 1)) r.cycle y ≡ requests_from (count - k) last x =
    ap (λ z. r ∷ requests_from (count - (k + 1)) r.cycle z) state
    ∙ ap (λ (q : Request). q ∷ requests_from (count - (k + 1)) q.cycle (next (next (next (next x))))) is
    ∙ sym (requests_first count k last x below) in
    ap (λ l. l ++ requests_from (count - (k + 1)) r.cycle y) grown
    ∙ append_assoc front (r ∷ []) (requests_from (count - (k + 1)) r.cycle y)
    ∙ ap (λ l. front ++ l) first
    ∙ so

-- its end: none is left
pub all_came : (count k last x : ℕ) (front whole : List Request) → count ≤ k → front ++ requests_from (count - k) last x ≡ whole → front ≡ whole
all_came count k last x front whole out so =
    let none : count - k ≡ 0 = omega (arith, out) in
    sym (append-nil front) ∙ ap (λ l. front ++ l) (sym (ap (λ n. requests_from n last x) none ∙ no_requests last x)) ∙ so
