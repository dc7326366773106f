-- Parts at places that are apart.
use Rattle.std.specs.Prelude.{slice_index, slice_index_or}
use Rattle.std.specs.List.{AllByRecursion}
use Rattle.std.proofs.Common.{◌≡◌, ℕ, zero, suc, ◌+◌, ◌%◌, ◌^◌, ◌<◌, ◌≤◌, max, refl, ap, sym, ◌∙◌, subst, arith, ◌⊎◌, inl, inr, ⊎_elim, Some, List, [], ◌∷◌, ◌++◌, length, map, take, drop, slice_get}
use Rattle.std.proofs.lemmas.Bool.{cases_lt}
use Rattle.prem_plant.specs.declared.layout.PartSize.{PartSize}
use Rattle.prem_plant.specs.Places.{Extent, Holds, AreDisjoint, ArePlaces}
use Rattle.prem_asm.specs.Pieces.{Pieces, size_of}
use Rattle.prem_layout.specs.Footprint.{no_place}
use Rattle.prem_layout.proofs.TaskParts.{IsFour, four, HasSizes}
use Rattle.prem_foot.specs.Standing.{StandsAt, ArePartsAt}
use Rattle.prem_place.specs.Flat.Flat.{EndWithin}
use Rattle.prem_place.specs.Flat.Blocks.{LieBeside, LieApart, AllApart}
use Rattle.prem_place.specs.Stand.Lying.{EachLies, Lie, PlacesLie}

-- ---- places one by one

tail_disjoint : (q : Extent) (qs : List Extent) → AreDisjoint (q ∷ qs) → AreDisjoint qs
tail_disjoint q qs h i j a x y hi hj in_x in_y = let e : suc i ≡ suc j = h (suc i) (suc j) a x y hi hj in_x in_y in omega (arith, e)

each_lies : (memory : ℕ) (parts : List PartSize) (places : List Extent) → ArePlaces memory parts places → EachLies memory parts places
each_lies memory [] places h = tt
each_lies memory (part ∷ parts) [] h = let e = h.count in absurd (omega (arith, e))
each_lies memory (part ∷ parts) (q ∷ qs) h = (
  record { ends = h.ends 0 part q refl refl; aligned = h.aligned 0 part q refl refl; within = h.within 0 q refl },
  each_lies memory parts qs (record {
    count = let e = h.count in omega (arith, e);
    ends = λ i x p hx hp. h.ends (suc i) x p hx hp;
    aligned = λ i x p hx hp. h.aligned (suc i) x p hx hp;
    within = λ i p hp. h.within (suc i) p hp;
    disjoint = tail_disjoint q qs h.disjoint;
  }),
)

pub places_lie : PlacesLie
places_lie memory parts places h = record { each = each_lies memory parts places h; disjoint = h.disjoint }

-- ---- some of the parts

pub lie_left : (memory : ℕ) (xs ys : List PartSize) (places : List Extent) → EachLies memory (xs ++ ys) places → EachLies memory xs places
lie_left memory [] ys places h = tt
lie_left memory (x ∷ xs) ys [] h = h
lie_left memory (x ∷ xs) ys (q ∷ qs) h = (h.0, lie_left memory xs ys qs h.1)

each_right : (memory : ℕ) (xs ys : List PartSize) (places : List Extent) → EachLies memory (xs ++ ys) places → EachLies memory ys (drop (length xs) places)
each_right memory [] ys places h = h
each_right memory (x ∷ xs) ys [] h = absurd h
each_right memory (x ∷ xs) ys (q ∷ qs) h = each_right memory xs ys qs h.1

disjoint_right : (count : ℕ) (places : List Extent) → AreDisjoint places → AreDisjoint (drop count places)
disjoint_right zero places h = h
disjoint_right (suc count) [] h = h
disjoint_right (suc count) (q ∷ qs) h = disjoint_right count qs (tail_disjoint q qs h)

pub lie_right : (memory : ℕ) (xs ys : List PartSize) (places : List Extent) → Lie memory (xs ++ ys) places → Lie memory ys (drop (length xs) places)
lie_right memory xs ys places h = record { each = each_right memory xs ys places h.each; disjoint = disjoint_right (length xs) places h.disjoint }

pub lie_long : (memory : ℕ) (xs : List PartSize) (places : List Extent) → EachLies memory xs places → length xs ≤ length places
lie_long memory [] places h = omega arith
lie_long memory (x ∷ xs) [] h = absurd h
lie_long memory (x ∷ xs) (q ∷ qs) h = let le = lie_long memory xs qs h.1 in omega (arith, le)

pub are_parts : (memory : ℕ) (xs : List PartSize) (places : List Extent) → EachLies memory xs places → ArePartsAt memory xs places
are_parts memory [] places h k part e = cc
are_parts memory (x ∷ xs) [] h k part e = absurd h
are_parts memory (x ∷ xs) (q ∷ qs) h zero part e =
    let same : x ≡ part = cc in
    subst (StandsAt memory (q ∷ qs) 0) same (record { at = q; there = refl; ends = h.0.ends; within = h.0.within })
are_parts memory (x ∷ xs) (q ∷ qs) h (suc k) part e =
    let s = are_parts memory xs qs h.1 k part e in
    record { at = s.at; there = s.there; ends = s.ends; within = s.within }

-- ---- addresses

abbrev pub first_byte : Extent → ℕ
first_byte place = place.0

pub record IsAddress (memory n : ℕ) : Type 0 where
  pub aligned : n % 4 ≡ 0
  pub small : n ≤ memory

pub addresses : (memory : ℕ) (xs : List PartSize) (places : List Extent) → AllByRecursion IsFour xs → EachLies memory xs places →
    (n : ℕ) → IsAddress memory (slice_index (map first_byte (take (length xs) places)) n)
addresses memory [] [] f h n = record { aligned = refl; small = omega arith }
addresses memory [] (q ∷ qs) f h n = record { aligned = refl; small = omega arith }
addresses memory (x ∷ xs) [] f h n = absurd h
addresses memory (x ∷ xs) (q ∷ qs) f h zero = record { aligned = four q.0 x.align h.0.aligned f.0; small = let e = h.0.ends in let w = h.0.within in omega (arith, e, w) }
addresses memory (x ∷ xs) (q ∷ qs) f h (suc n) = addresses memory xs qs f.1 h.1 n

pub index_same : (places : List Extent) (n : ℕ) → slice_index (map first_byte places) n ≡ (slice_index_or places n no_place).0
index_same [] n = refl
index_same (q ∷ qs) zero = refl
index_same (q ∷ qs) (suc n) = index_same qs n

pub taken_same : (count n : ℕ) (places : List Extent) → n < count → slice_index_or (take count places) n no_place ≡ slice_index_or places n no_place
taken_same zero n places lt = absurd (omega arith)
taken_same (suc count) n [] lt = refl
taken_same (suc count) zero (q ∷ qs) lt = refl
taken_same (suc count) (suc n) (q ∷ qs) lt = taken_same count n qs (omega arith)

-- ---- code

abbrev pub Agrees : (ℕ → ℕ) → ℕ → ℕ → List Extent → Type 0
Agrees f part count places = (i : ℕ) → i < count → f (part + i) ≡ (slice_index_or places i no_place).0

agrees_here : (f : ℕ → ℕ) (part count : ℕ) (q : Extent) (qs : List Extent) → Agrees f part (suc count) (q ∷ qs) → f part ≡ q.0
agrees_here f part count q qs h = let z : part ≡ part + 0 = omega arith in ap f z ∙ h 0 (omega arith)

agrees_next : (f : ℕ → ℕ) (part count : ℕ) (q : Extent) (qs : List Extent) → Agrees f part (suc count) (q ∷ qs) → Agrees f (part + 1) count qs
agrees_next f part count q qs h i lt = let z : part + 1 + i ≡ part + suc i = omega arith in ap f z ∙ h (suc i) (omega arith)

-- two places that share no byte lie beside each other
beside : (q r : Extent) → ((a : ℕ) → Holds q a → Holds r a → ⊥) → LieBeside q.0 q.1 r.0 r.1
beside q r none some more =
    ⊎_elim (λ (lt : r.0 < q.1). ⊎_elim
    (λ (low : q.0 < r.1). absurd (none (max q.0 r.0) (omega arith, omega (arith, some, lt)) (omega arith, omega (arith, low, more))))
    (λ (ge : r.1 ≤ q.0). inr ge) (cases_lt q.0 r.1))
    (λ (ge : q.1 ≤ r.0). inl ge) (cases_lt r.0 q.1)

-- the code of parts lies beside bytes with which their places share none
code_beside : (f : ℕ → ℕ) (memory part : ℕ) (q : Extent) (pss : List Pieces) (xs : List PartSize) (places : List Extent) → HasSizes pss xs →
    EachLies memory xs places → Agrees f part (length pss) places →
    ((i a : ℕ) (r : Extent) → slice_get places i ≡ Some r → Holds q a → Holds r a → ⊥) → LieApart f q.0 q.1 part pss
code_beside f memory part q [] xs places s h a none = tt
code_beside f memory part q (ps ∷ pss) [] places s h a none = absurd s
code_beside f memory part q (ps ∷ pss) (x ∷ xs) [] s h a none = absurd h
code_beside f memory part q (ps ∷ pss) (x ∷ xs) (r ∷ rs) s h a none =
    let here : f part ≡ r.0 = agrees_here f part (length pss) r rs a in
    let size : size_of ps ≡ x.size = s.0 in
    let ends : r.1 ≡ r.0 + x.size = h.0.ends in
    let end : f part + size_of ps ≡ r.1 = omega (arith, here, size, ends) in
    let at : LieBeside q.0 q.1 r.0 r.1 = beside q r (λ b in_q in_r. none 0 b r refl in_q in_r) in (
      subst (λ high. LieBeside q.0 q.1 (f part) high) (sym end) (subst (λ low. LieBeside q.0 q.1 low r.1) (sym here) at),
      code_beside f memory (part + 1) q pss xs rs s.1 h.1 (agrees_next f part (length pss) r rs a) (λ i b y hy in_q in_y. none (suc i) b y hy in_q in_y),
    )

pub code_apart : (f : ℕ → ℕ) (memory part : ℕ) (pss : List Pieces) (xs : List PartSize) (places : List Extent) → HasSizes pss xs → EachLies memory xs places → AreDisjoint places →
    Agrees f part (length pss) places → AllApart f part pss
code_apart f memory part [] xs places s h d a = tt
code_apart f memory part (ps ∷ pss) [] places s h d a = absurd s
code_apart f memory part (ps ∷ pss) (x ∷ xs) [] s h d a = absurd h
code_apart f memory part (ps ∷ pss) (x ∷ xs) (q ∷ qs) s h d a =
    let here : f part ≡ q.0 = agrees_here f part (length pss) q qs a in
    let size : size_of ps ≡ x.size = s.0 in
    let ends : q.1 ≡ q.0 + x.size = h.0.ends in
    let end : f part + size_of ps ≡ q.1 = omega (arith, here, size, ends) in
    let next = agrees_next f part (length pss) q qs a in
    let rest : LieApart f q.0 q.1 (part + 1) pss =
    code_beside f memory (part + 1) q pss xs qs s.1 h.1 next
    (λ i b r hr in_q in_r. let e : 0 ≡ suc i = d 0 (suc i) b q r refl hr in_q in_r in omega (arith, e)) in (
      subst (λ high. LieApart f (f part) high (part + 1) pss) (sym end) (subst (λ low. LieApart f low q.1 (part + 1) pss) (sym here) rest),
      code_apart f memory (part + 1) pss xs qs s.1 h.1 (tail_disjoint q qs d) next,
    )

pub code_within : (f : ℕ → ℕ) (memory part : ℕ) (pss : List Pieces) (xs : List PartSize) (places : List Extent) → memory ≤ 2 ^ 24 → HasSizes pss xs → EachLies memory xs places →
    Agrees f part (length pss) places → EndWithin f part pss
code_within f memory part [] xs places small s h a = tt
code_within f memory part (ps ∷ pss) [] places small s h a = absurd s
code_within f memory part (ps ∷ pss) (x ∷ xs) [] small s h a = absurd h
code_within f memory part (ps ∷ pss) (x ∷ xs) (q ∷ qs) small s h a =
    let here : f part ≡ q.0 = agrees_here f part (length pss) q qs a in
    let within = h.0.within in
    let ends = h.0.ends in
    (omega (arith, here, within, ends, s.0, small), code_within f memory (part + 1) pss xs qs small s.1 h.1 (agrees_next f part (length pss) q qs a))
