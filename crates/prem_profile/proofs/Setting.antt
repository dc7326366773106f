-- Words that get rows, one after another.
use Rattle.std.specs.Prelude.{slice_set}
use Rattle.std.proofs.Common.{◌≡◌, ℕ, zero, suc, ◌+◌, ◌-◌, ◌/◌, ◌<◌, List, [], ◌∷◌, ◌++◌, length, map, drop, replicate, get_or, refl, ap, sym, ◌∙◌, arith, append_assoc}
use Rattle.prem_profile.specs.declared.cost.Cost.{Cost}
use Rattle.prem_profile.specs.declared.strip.Strip.{Strip as StripTree}
use Rattle.prem_profile.specs.Spent.{no_cost}
use Rattle.prem_profile.specs.Strips.{set_rows, strip_of, strip_rows, strip_words}

-- ---- lists

many : (xs : List Cost) (n : ℕ) → length (xs ++ replicate n no_cost) ≡ length xs + n
many [] zero = refl
many [] (suc n) = let h = many [] n in omega (arith, h)
many (x ∷ xs) n = let h = many xs n in omega (arith, h)

one_longer : (xs : List Cost) (x : Cost) → length (xs ++ x ∷ []) ≡ length xs + 1
one_longer [] x = refl
one_longer (y ∷ xs) x = let h = one_longer xs x in omega (arith, h)

replicated : (n : ℕ) → length (replicate n no_cost) ≡ n
replicated zero = refl
replicated (suc n) = ap suc (replicated n)

-- rows of which none costs anything
pub many_empty : (costs : List Cost) (n : ℕ) → costs ≡ replicate n no_cost → length costs ≡ n
many_empty costs n e = ap length e ∙ replicated n

pub split : (m n : ℕ) → replicate m no_cost ++ replicate n no_cost ≡ replicate (m + n) no_cost
split zero n = let e : n ≡ 0 + n = omega arith in ap (λ k. replicate k no_cost) e
split (suc m) n = let e : suc (m + n) ≡ suc m + n = omega arith in ap (λ cs. no_cost ∷ cs) (split m n) ∙ ap (λ k. replicate k no_cost) e

one_more : (n : ℕ) → replicate n no_cost ++ no_cost ∷ [] ≡ replicate (n + 1) no_cost
one_more zero = refl
one_more (suc n) = let e : suc (n + 1) ≡ suc n + 1 = omega arith in ap (λ cs. no_cost ∷ cs) (one_more n) ∙ ap (λ m. replicate m no_cost) e

pub strip_next : (d : StripTree) (xs : List StripTree) (k : ℕ) → k < length xs → drop k xs ≡ get_or xs k d ∷ drop (k + 1) xs
strip_next d [] k lt = absurd (omega (arith, lt))
strip_next d (x ∷ xs) zero lt = refl
strip_next d (x ∷ xs) (suc k) lt =
    let e : suc (k + 1) ≡ suc k + 1 = omega arith in strip_next d xs k (omega (arith, lt)) ∙ ap (λ m. get_or xs k d ∷ drop m (x ∷ xs)) e

-- ---- words

pub next_words : (words new whole : List ℕ) (place n count : ℕ) (costs more : List Cost) (cost : Cost) (row : ℕ) → n < count → row ≡ length costs → new ≡ slice_set words (place + n) row →
    more ≡ costs ++ cost ∷ [] → set_rows words (place + n) (length costs) (count - n) ≡ whole → set_rows new (place + (n + 1)) (length more) (count - (n + 1)) ≡ whole
next_words words new whole place n count costs more cost row lt er en em e =
    let m : ℕ = count - (n + 1) in
    let left : count - n ≡ suc m = omega (arith, lt) in
    let behind : place + (n + 1) ≡ (place + n) + 1 = omega arith in
    let set = en ∙ ap (slice_set words (place + n)) er in
    let longer = ap length em ∙ one_longer costs cost in
    (λ i. set_rows (set i) (behind i) (longer i) m) ∙ ap (set_rows words (place + n) (length costs)) (sym left) ∙ e

pub next_costs : (costs more start : List Cost) (cost : Cost) (n : ℕ) → cost ≡ no_cost → more ≡ costs ++ cost ∷ [] → costs ≡ start ++ replicate n no_cost → more ≡ start ++ replicate (n + 1) no_cost
next_costs costs more start cost n none em ec =
    em ∙ ap (λ c. costs ++ c ∷ []) none ∙ ap (λ cs. cs ++ no_cost ∷ []) ec ∙ append_assoc start (replicate n no_cost) (no_cost ∷ []) ∙ ap (λ cs. start ++ cs) (one_more n)

-- ---- strips

pub next_strips : (words new whole : List ℕ) (costs more : List Cost) (s : StripTree) (all rest : List StripTree) → all ≡ s ∷ rest → new ≡ set_rows words (s.at / 4) (length costs) s.count →
    more ≡ costs ++ replicate s.count no_cost → strip_rows words (length costs) (map strip_of all) ≡ whole → strip_rows new (length more) (map strip_of rest) ≡ whole
next_strips words new whole costs more s all rest ea en em e =
    let longer = ap length em ∙ many costs s.count in
    (λ i. strip_rows (en i) (longer i) (map strip_of rest)) ∙ ap (λ ss. strip_rows words (length costs) (map strip_of ss)) (sym ea) ∙ e

pub next_many : (costs more whole : List Cost) (s : StripTree) (all rest : List StripTree) → all ≡ s ∷ rest → more ≡ costs ++ replicate s.count no_cost →
    costs ++ replicate (strip_words (map strip_of all)) no_cost ≡ whole → more ++ replicate (strip_words (map strip_of rest)) no_cost ≡ whole
next_many costs more whole s all rest ea em e =
    let w = strip_words (map strip_of rest) in
    ap (λ cs. cs ++ replicate w no_cost) em ∙ append_assoc costs (replicate s.count no_cost) (replicate w no_cost) ∙ ap (λ cs. costs ++ cs) (split s.count w)
    ∙ ap (λ ss. costs ++ replicate (strip_words (map strip_of ss)) no_cost) (sym ea) ∙ e
