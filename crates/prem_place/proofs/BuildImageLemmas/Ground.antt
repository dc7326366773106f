-- Parts at their places, by number.
use Rattle.std.specs.Prelude.{⊤, max}
use Rattle.std.proofs.Common.{◌≡◌, ℕ, zero, suc, ◌+◌, ◌<◌, ◌≤◌, refl, ap, sym, ◌∙◌, subst, arith, List, [], ◌∷◌, ◌++◌, length, take, Some, slice_get}
use Rattle.std.proofs.lemmas.Option.{slice_get_within, slice_get-get_or}
use Rattle.prem_plant.specs.declared.layout.PartSize.{PartSize}
use Rattle.prem_plant.specs.Places.{Extent, ArePlaces}
use Rattle.prem_layout.specs.Footprint.{no_place}
use Rattle.prem_layout.specs.Image.{greatest_end}
use Rattle.prem_layout.proofs.TaskParts.{place_in}
use Rattle.prem_layout.proofs.Areas.{IsAt}

-- parts, from a number on
abbrev pub Stand : ℕ → (ℕ → Extent) → ℕ → List PartSize → Type 0
Stand end f n [] = ⊤
Stand end f n (x ∷ xs) = IsAt end x (f n) × Stand end f (n + 1) xs

stand_from : (end : ℕ) (f : ℕ → Extent) (n : ℕ) (xs : List PartSize) → ((i : ℕ) (x : PartSize) → slice_get xs i ≡ Some x → IsAt end x (f (n + i))) → Stand end f n xs
stand_from end f n [] h = tt
stand_from end f n (x ∷ xs) h =
    let z : n + 0 ≡ n = omega arith in (
      subst (λ k. IsAt end x (f k)) z (h 0 x refl),
      stand_from end f (n + 1) xs (λ i y e. let s : n + suc i ≡ n + 1 + i = omega arith in subst (λ k. IsAt end y (f k)) s (h (suc i) y e)),
    )

pub all_stand : (memory : ℕ) (parts : List PartSize) (places : List Extent) → ArePlaces memory parts places → Stand memory (place_in places) 0 parts
all_stand memory parts places a =
    stand_from memory (place_in places) 0 parts (λ i x e.
    let lt = slice_get_within parts i x e in
    let count = a.count in
    let there : slice_get places i ≡ Some (place_in places i) = slice_get-get_or places i no_place (omega (arith, lt, count)) in
    let z : i ≡ 0 + i = omega arith in
    subst (λ k. IsAt memory x (place_in places k)) z
    (record { ends = a.ends i x (place_in places i) e there; aligned = a.aligned i x (place_in places i) e there; within = a.within i (place_in places i) there }))

pub stand_left : (end : ℕ) (f : ℕ → Extent) (n : ℕ) (xs ys : List PartSize) → Stand end f n (xs ++ ys) → Stand end f n xs
stand_left end f n [] ys h = tt
stand_left end f n (x ∷ xs) ys h = (h.0, stand_left end f (n + 1) xs ys h.1)

pub stand_right : (end : ℕ) (f : ℕ → Extent) (n : ℕ) (xs ys : List PartSize) → Stand end f n (xs ++ ys) → Stand end f (n + length xs) ys
stand_right end f n [] ys h = let z : n ≡ n + 0 = omega arith in subst (λ k. Stand end f k ys) z h
stand_right end f n (x ∷ xs) ys h = let z : n + 1 + length xs ≡ n + suc (length xs) = omega arith in subst (λ k. Stand end f k ys) z (stand_right end f (n + 1) xs ys h.1)

-- the same places by other numbers, and another address by which they end
pub stand_as : (memory end : ℕ) (f g : ℕ → Extent) (a b : ℕ) (xs : List PartSize) → ((i : ℕ) → i < length xs → (f (a + i) ≡ g (b + i)) × ((f (a + i)).1 ≤ end)) → Stand memory f a xs → Stand end g b xs
stand_as memory end f g a b [] same h = tt
stand_as memory end f g a b (x ∷ xs) same h =
    let za : a + 0 ≡ a = omega arith in
    let zb : b + 0 ≡ b = omega arith in
    let s = same 0 (omega arith) in
    let e : f a ≡ g b = ap f (sym za) ∙ s.0 ∙ ap g zb in
    let w : (f a).1 ≤ end = subst (λ k. (f k).1 ≤ end) za s.1 in (
      subst (λ q. IsAt end x q) e (record { ends = h.0.ends; aligned = h.0.aligned; within = w }),
      stand_as memory end f g (a + 1) (b + 1) xs (λ i lt.
          let sa : a + suc i ≡ a + 1 + i = omega arith in
          let sb : b + suc i ≡ b + 1 + i = omega arith in
          let t = same (suc i) (omega arith) in
          (ap f (sym sa) ∙ t.0 ∙ ap g sb, subst (λ k. (f k).1 ≤ end) sa t.1)) h.1,
    )

pub stand_within : (end : ℕ) (f : ℕ → Extent) (n : ℕ) (xs : List PartSize) → Stand end f n xs → (i : ℕ) → i < length xs → (f (n + i)).1 ≤ end
stand_within end f n [] h i lt = absurd (omega arith)
stand_within end f n (x ∷ xs) h zero lt = let z : n ≡ n + 0 = omega arith in subst (λ k. (f k).1 ≤ end) z h.0.within
stand_within end f n (x ∷ xs) h (suc i) lt = let z : n + 1 + i ≡ n + suc i = omega arith in subst (λ k. (f k).1 ≤ end) z (stand_within end f (n + 1) xs h.1 i (omega arith))

-- ---- the greatest end

pub greatest_within : (memory count : ℕ) (places : List Extent) → ((i : ℕ) → i < count → (place_in places i).1 ≤ memory) → greatest_end (take count places) ≤ memory
greatest_within memory zero places h = omega arith
greatest_within memory (suc count) [] h = omega arith
greatest_within memory (suc count) (q ∷ qs) h =
    let a : q.1 ≤ memory = h 0 (omega arith) in
    let b = greatest_within memory count qs (λ i lt. h (suc i) (omega arith)) in
    omega (arith, a, b)

greatest_next : (n : ℕ) (places : List Extent) → greatest_end (take (suc n) places) ≡ max (greatest_end (take n places)) (place_in places n).1
greatest_next zero [] = refl
greatest_next (suc n) [] = refl
greatest_next zero (q ∷ qs) = omega arith
greatest_next (suc n) (q ∷ qs) = let r = greatest_next n qs in omega (arith, r)

pub greatest_more : (n : ℕ) (places : List Extent) → greatest_end (take (n + 1) places) ≡ max (greatest_end (take n places)) (place_in places n).1
greatest_more n places = let z : n + 1 ≡ suc n = omega arith in ap (λ k. greatest_end (take k places)) z ∙ greatest_next n places

pub taken_same : (count n : ℕ) (places : List Extent) → n < count → place_in (take count places) n ≡ place_in places n
taken_same zero n places lt = absurd (omega arith)
taken_same (suc count) n [] lt = refl
taken_same (suc count) zero (q ∷ qs) lt = refl
taken_same (suc count) (suc n) (q ∷ qs) lt = taken_same count n qs (omega arith)
