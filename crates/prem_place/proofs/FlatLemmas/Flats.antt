-- Parts with code behind others.
use Rattle.std.specs.Prelude.{nat_lt}
use Rattle.std.proofs.Common.{◌≡◌, ℕ, suc, ◌+◌, refl, ap, sym, subst, ◌∙◌, arith, Bool, true, false, cond, List, [], ◌∷◌, ◌++◌, length, Option, None, Some, append_assoc}
use Rattle.std.proofs.lemmas.Bool.Decides.{nat_tests}
use Rattle.std.proofs.lemmas.List.{length-map}
use Rattle.prem_list.specs.declared.Sequence.{Sequence}
use Rattle.prem_list.specs.Sequence.{items_of}
use Rattle.prem_line.specs.declared.failing.Failing.{Failing}
use Rattle.prem_line.specs.declared.failing.Failing.TheVariants.{Refused, OutOfMemory}
use Rattle.prem_asm.specs.declared.piece.Piece.{Piece}
use Rattle.prem_asm.specs.PiecesOf.{pieces_of}
use Rattle.prem_asm.specs.Pieces.{Pieces}
use Rattle.prem_place.specs.Content.Blocks.{Words}
use Rattle.prem_place.specs.Flat.Flat.{far_in, part_if, far_part, lower_part, lowest_far, words_at, words_from, Blames, listed}

abbrev pub or_part : Option ℕ → Option ℕ → Option ℕ
or_part None other = other
or_part (Some part) other = Some part

far_behind : (places : ℕ → ℕ) (part : ℕ) (xs ys : List Pieces) → far_part places part (xs ++ ys) ≡ or_part (far_part places part xs) (far_part places (part + length xs) ys)
far_behind places part [] ys = let z : part ≡ part + 0 = omega arith in ap (λ n. far_part places n ys) z
far_behind places part (x ∷ xs) ys = by (far_in places part x) (far_part places (part + 1) xs)
    (far_behind places (part + 1) xs ys ∙ (let z : part + 1 + length xs ≡ part + suc (length xs) = omega arith in ap (λ n. or_part (far_part places (part + 1) xs) (far_part places n ys)) z))
  where
    by : (o rest : Option ℕ) → far_part places (part + 1) (xs ++ ys) ≡ or_part rest (far_part places (part + suc (length xs)) ys) →
        part_if part o (far_part places (part + 1) (xs ++ ys)) ≡ or_part (part_if part o rest) (far_part places (part + suc (length xs)) ys)
    by None rest e = e
    by (Some at) rest e = refl

words_behind : (places : ℕ → ℕ) (part : ℕ) (xs ys : List Pieces) → words_from places part (xs ++ ys) ≡ words_from places part xs ++ words_from places (part + length xs) ys
words_behind places part [] ys = let z : part ≡ part + 0 = omega arith in ap (λ n. words_from places n ys) z
words_behind places part (x ∷ xs) ys =
    let z : part + 1 + length xs ≡ part + suc (length xs) = omega arith in
    ap (λ (ws : List Words). words_at places part x ∷ ws) (words_behind places (part + 1) xs ys ∙ ap (λ n. words_from places (part + 1) xs ++ words_from places n ys) z)

-- one part, then others, then others again
far_joins : (places : ℕ → ℕ) (xs ys zs : List Pieces) → length xs ≡ 1 →
    far_part places 0 (xs ++ (ys ++ zs)) ≡ or_part (far_part places 0 xs) (or_part (far_part places 1 ys) (far_part places (1 + length ys) zs))
far_joins places xs ys zs one =
    let z : 0 + length xs ≡ 1 = omega (arith, one) in
    far_behind places 0 xs (ys ++ zs) ∙ ap (λ n. or_part (far_part places 0 xs) (far_part places n (ys ++ zs))) z ∙ ap (or_part (far_part places 0 xs)) (far_behind places 1 ys zs)

pub words_join : (places : ℕ → ℕ) (xs ys zs : List Pieces) → length xs ≡ 1 →
    words_from places 0 (xs ++ (ys ++ zs)) ≡ words_from places 0 xs ++ words_from places 1 ys ++ words_from places (1 + length ys) zs
words_join places xs ys zs one =
    let z : 0 + length xs ≡ 1 = omega (arith, one) in
    words_behind places 0 xs (ys ++ zs) ∙ ap (λ n. words_from places 0 xs ++ words_from places n (ys ++ zs)) z ∙ ap (λ ws. words_from places 0 xs ++ ws) (words_behind places 1 ys zs)
    ∙ sym (append_assoc (words_from places 0 xs) (words_from places 1 ys) (words_from places (1 + length ys) zs))

blamed_or : (a b : Option ℕ) (e : Failing ℕ) → Blames a e → Blames (or_part a b) e
blamed_or a b OutOfMemory h = tt
blamed_or None b (Refused part) h = cc
blamed_or (Some x) b (Refused part) h = h

module _ (places : ℕ → ℕ) (xs ys zs : List Pieces) (one : length xs ≡ 1) where
  abbrev pub Joined : Option ℕ
  Joined = far_part places 0 (xs ++ (ys ++ zs))

  pub first_blamed : (e : Failing ℕ) → Blames (far_part places 0 xs) e → Blames Joined e
  first_blamed e h = subst (λ (o : Option ℕ). Blames o e) (sym (far_joins places xs ys zs one))
      (blamed_or (far_part places 0 xs) (or_part (far_part places 1 ys) (far_part places (1 + length ys) zs)) e h)

  pub second_blamed : (e : Failing ℕ) → far_part places 0 xs ≡ None → Blames (far_part places 1 ys) e → Blames Joined e
  second_blamed e none h =
      let same : Joined ≡ or_part (far_part places 1 ys) (far_part places (1 + length ys) zs) = far_joins places xs ys zs one
      ∙ ap (λ (o : Option ℕ). or_part o (or_part (far_part places 1 ys) (far_part places (1 + length ys) zs))) none in
      subst (λ (o : Option ℕ). Blames o e) (sym same) (blamed_or (far_part places 1 ys) (far_part places (1 + length ys) zs) e h)

  rest_only : far_part places 0 xs ≡ None → far_part places 1 ys ≡ None → Joined ≡ far_part places (1 + length ys) zs
  rest_only none none2 = far_joins places xs ys zs one
      ∙ ap (λ (o : Option ℕ). or_part o (or_part (far_part places 1 ys) (far_part places (1 + length ys) zs))) none
      ∙ ap (λ (o : Option ℕ). or_part o (far_part places (1 + length ys) zs)) none2

  pub third_blamed : (e : Failing ℕ) → far_part places 0 xs ≡ None → far_part places 1 ys ≡ None → Blames (far_part places (1 + length ys) zs) e → Blames Joined e
  third_blamed e none none2 h = subst (λ (o : Option ℕ). Blames o e) (sym (rest_only none none2)) h

  pub none_far : far_part places 0 xs ≡ None → far_part places 1 ys ≡ None → far_part places (1 + length ys) zs ≡ None → Joined ≡ None
  none_far none none2 none3 = rest_only none none2 ∙ none3

-- ---- the lowest part

pub lower_none : (places : ℕ → ℕ) (o : Option ℕ) → lower_part places o None ≡ o
lower_none places None = refl
lower_none places (Some x) = refl

pub lower_joins : (places : ℕ → ℕ) (a b c : Option ℕ) → lower_part places (lower_part places a b) c ≡ lower_part places a (lower_part places b c)
lower_joins places None b c = refl
lower_joins places (Some a) None c = refl
lower_joins places (Some a) (Some b) None = lower_none places (lower_part places (Some a) (Some b))
lower_joins places (Some a) (Some b) (Some c) = by (nat_lt (places b) (places a)) refl (nat_lt (places c) (places b)) refl
  where
    by : (ba : Bool) → nat_lt (places b) (places a) ≡ ba → (cb : Bool) → nat_lt (places c) (places b) ≡ cb →
        lower_part places (cond ba (Some b) (Some a)) (Some c) ≡ lower_part places (Some a) (cond cb (Some c) (Some b))
    by true ba true cb = let low : nat_lt (places c) (places a) ≡ true = grind (arith, nat_tests) in ap (λ t. cond t (Some c) (Some b)) cb ∙ sym (ap (λ t. cond t (Some c) (Some a)) low)
    by true ba false cb = ap (λ t. cond t (Some c) (Some b)) cb ∙ sym (ap (λ t. cond t (Some b) (Some a)) ba)
    by false ba true cb = refl
    by false ba false cb = let low : nat_lt (places c) (places a) ≡ false = grind (arith, nat_tests) in ap (λ t. cond t (Some c) (Some a)) low ∙ sym (ap (λ t. cond t (Some b) (Some a)) ba)

lowest_behind : (places : ℕ → ℕ) (part : ℕ) (xs ys : List Pieces) → lowest_far places part (xs ++ ys) ≡ lower_part places (lowest_far places part xs) (lowest_far places (part + length xs) ys)
lowest_behind places part [] ys = let z : part ≡ part + 0 = omega arith in ap (λ n. lowest_far places n ys) z
lowest_behind places part (x ∷ xs) ys =
    let z : part + 1 + length xs ≡ part + suc (length xs) = omega arith in
    let mine : Option ℕ = part_if part (far_in places part x) None in
    ap (lower_part places mine) (lowest_behind places (part + 1) xs ys ∙ ap (λ n. lower_part places (lowest_far places (part + 1) xs) (lowest_far places n ys)) z)
    ∙ sym (lower_joins places mine (lowest_far places (part + 1) xs) (lowest_far places (part + suc (length xs)) ys))

-- one part, then others, then others again
pub lowest_join : (places : ℕ → ℕ) (xs ys zs : List Pieces) → length xs ≡ 1 →
    lower_part places (lower_part places (lowest_far places 0 xs) (lowest_far places 1 ys)) (lowest_far places (1 + length ys) zs) ≡ lowest_far places 0 (xs ++ (ys ++ zs))
lowest_join places xs ys zs one =
    let z : 0 + length xs ≡ 1 = omega (arith, one) in
    lower_joins places (lowest_far places 0 xs) (lowest_far places 1 ys) (lowest_far places (1 + length ys) zs)
    ∙ ap (lower_part places (lowest_far places 0 xs)) (sym (lowest_behind places 1 ys zs))
    ∙ ap (λ n. lower_part places (lowest_far places 0 xs) (lowest_far places n (ys ++ zs))) (sym z) ∙ sym (lowest_behind places 0 xs (ys ++ zs))

-- a part is found first exactly where one is found lowest
pub lowest_none : (places : ℕ → ℕ) (part : ℕ) (pss : List Pieces) → far_part places part pss ≡ None → lowest_far places part pss ≡ None
lowest_none places part [] e = refl
lowest_none places part (ps ∷ rest) e = by (far_in places part ps) e (lowest_none places (part + 1) rest)
  where
    by : (o : Option ℕ) → part_if part o (far_part places (part + 1) rest) ≡ None → (far_part places (part + 1) rest ≡ None → lowest_far places (part + 1) rest ≡ None) →
        lower_part places (part_if part o None) (lowest_far places (part + 1) rest) ≡ None
    by None h rest_is = rest_is h
    by (Some at) h rest_is = cc

pub none_lowest : (places : ℕ → ℕ) (part : ℕ) (pss : List Pieces) → lowest_far places part pss ≡ None → far_part places part pss ≡ None
none_lowest places part [] e = refl
none_lowest places part (ps ∷ rest) e = by (far_in places part ps) (lowest_far places (part + 1) rest) e (none_lowest places (part + 1) rest)
  where
    some : (b : Bool) (x y : ℕ) → cond b (Some x) (Some y) ≡ None → ⊥
    some true x y h = cc
    some false x y h = cc

    by : (o more : Option ℕ) → lower_part places (part_if part o None) more ≡ None → (more ≡ None → far_part places (part + 1) rest ≡ None) → part_if part o (far_part places (part + 1) rest) ≡ None
    by None more h rest_is = rest_is h
    by (Some at) None h rest_is = cc
    by (Some at) (Some n) h rest_is = absurd (some (nat_lt (places n) (places part)) n part h)

pub listed_long : (all : List (Sequence Piece)) → length (listed all) ≡ length all
listed_long all = length-map all (λ (s : Sequence Piece). pieces_of (items_of s))
