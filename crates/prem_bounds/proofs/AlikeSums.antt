-- Sums that are told up to 2 ^ 41 give sums that are told so.
use Rattle.std.specs.Prelude.{nat_lt}
use Rattle.std.proofs.Common.{◌≡◌, ℕ, zero, suc, ◌+◌, ◌-◌, ◌*◌, ◌<◌, max, refl, ap, ◌∙◌, sym, arith, cond, Bool, true, false, Option, Some, None, List, length, drop, get_or}
use Rattle.prem_list.specs.Sequence.{items_of}
use Rattle.prem_isa.specs.declared.instr.Instr.{Instr}
use Rattle.prem_asm.specs.declared.piece.Test.{Test}
use Rattle.prem_asm.specs.declared.piece.Piece.{Piece}
use Rattle.prem_asm.specs.declared.piece.Piece.TheVariants.{Straight, Address, Either', Repeat', CallTo}
use Rattle.prem_asm.specs.Pieces.{Pieces, no_pieces, straight, address_of, either, repeat, call_to, weight, jump_weight, address_weight, skip_words, branch_of}
use Rattle.prem_asm.specs.PiecesOf.{piece_before, row_before, pieces_of, piece_of}
use Rattle.prem_asm.proofs.PieceWords.{drop_piece}
use Rattle.prem_layout.specs.Stretch.Sums.{most, both, or_none, Sums, taking, among, chained, greatest, turned, summed, part_sums}
use Rattle.prem_layout.proofs.StretchLemmas.Algebra.{same_sums, most_none, chained_assoc}
use Rattle.prem_bounds.specs.Scale.{clipped}
use Rattle.prem_bounds.specs.ToldSums.{clip, clipped_sums}

-- ---- sums that may not be there

clip_twice : (a : Option ℕ) → clip (clip a) ≡ clip a
clip_twice None = refl
clip_twice (Some a) = let e : clipped (clipped a) ≡ clipped a = omega arith in ap (λ n. Some n) e

clip_most : (a b : Option ℕ) → clip (most a b) ≡ most (clip a) (clip b)
clip_most None b = refl
clip_most (Some a) None = refl
clip_most (Some a) (Some b) = let e : clipped (max a b) ≡ max (clipped a) (clipped b) = omega arith in ap (λ n. Some n) e

clip_both : (a b : Option ℕ) → clip (both a b) ≡ clip (both (clip a) (clip b))
clip_both None b = refl
clip_both (Some a) None = refl
clip_both (Some a) (Some b) = let e : clipped (a + b) ≡ clipped (clipped a + clipped b) = omega arith in ap (λ n. Some n) e

pub most_alike : (a b c d : Option ℕ) → clip a ≡ clip c → clip b ≡ clip d → clip (most a b) ≡ clip (most c d)
most_alike a b c d e f = clip_most a b ∙ ap (λ x. most x (clip b)) e ∙ ap (most (clip c)) f ∙ sym (clip_most c d)

both_alike : (a b c d : Option ℕ) → clip a ≡ clip c → clip b ≡ clip d → clip (both a b) ≡ clip (both c d)
both_alike a b c d e f = clip_both a b ∙ ap (λ x. clip (both x (clip b))) e ∙ ap (λ x. clip (both (clip c) x)) f ∙ sym (clip_both c d)

-- what is told of both
pub told_both : (r a b : Option ℕ) → r ≡ clip (both a b) → clip r ≡ clip (both a b)
told_both r a b e = ap clip e ∙ clip_twice (both a b)

-- ---- four sums

pub chained_alike : (a b c d : Sums) → clipped_sums a ≡ clipped_sums c → clipped_sums b ≡ clipped_sums d → clipped_sums (chained a b) ≡ clipped_sums (chained c d)
chained_alike a b c d e f =
    let aw : clip a.whole ≡ clip c.whole = ap (λ (s : Sums). s.whole) e in
    let ab : clip a.before ≡ clip c.before = ap (λ (s : Sums). s.before) e in
    let at : clip a.between ≡ clip c.between = ap (λ (s : Sums). s.between) e in
    let ah : clip a.behind ≡ clip c.behind = ap (λ (s : Sums). s.behind) e in
    let bw : clip b.whole ≡ clip d.whole = ap (λ (s : Sums). s.whole) f in
    let bb : clip b.before ≡ clip d.before = ap (λ (s : Sums). s.before) f in
    let bt : clip b.between ≡ clip d.between = ap (λ (s : Sums). s.between) f in
    let bh : clip b.behind ≡ clip d.behind = ap (λ (s : Sums). s.behind) f in
    same_sums _ _ (both_alike a.whole b.whole c.whole d.whole aw bw)
    (most_alike a.before (both a.whole b.before) c.before (both c.whole d.before) ab (both_alike a.whole b.before c.whole d.before aw bb))
    (most_alike (most a.between b.between) (both a.behind b.before) (most c.between d.between) (both c.behind d.before)
    (most_alike a.between b.between c.between d.between at bt) (both_alike a.behind b.before c.behind d.before ah bb))
    (most_alike b.behind (both a.behind b.whole) d.behind (both c.behind d.whole) bh (both_alike a.behind b.whole c.behind d.whole ah bw))

pub among_alike : (a b c d : Sums) → clipped_sums a ≡ clipped_sums c → clipped_sums b ≡ clipped_sums d → clipped_sums (among a b) ≡ clipped_sums (among c d)
among_alike a b c d e f =
    same_sums _ _ (most_alike a.whole b.whole c.whole d.whole (ap (λ (s : Sums). s.whole) e) (ap (λ (s : Sums). s.whole) f))
    (most_alike a.before b.before c.before d.before (ap (λ (s : Sums). s.before) e) (ap (λ (s : Sums). s.before) f))
    (most_alike a.between b.between c.between d.between (ap (λ (s : Sums). s.between) e) (ap (λ (s : Sums). s.between) f))
    (most_alike a.behind b.behind c.behind d.behind (ap (λ (s : Sums). s.behind) e) (ap (λ (s : Sums). s.behind) f))

pub turned_alike : (turns : ℕ) (a b c d : Sums) → clipped_sums a ≡ clipped_sums c → clipped_sums b ≡ clipped_sums d → clipped_sums (turned turns a b) ≡ clipped_sums (turned turns c d)
unfolding turned
turned_alike zero a b c d e f = f
turned_alike (suc turns) a b c d e f =
    among_alike (chained a (turned turns a b)) b (chained c (turned turns c d)) d (chained_alike a (turned turns a b) c (turned turns c d) e (turned_alike turns a b c d e f)) f

taking_alike : (a b : ℕ) → clipped a ≡ clipped b → clipped_sums (taking a) ≡ clipped_sums (taking b)
taking_alike a b e = ap taking e

pub greatest_alike : (a b : Sums) → clipped_sums a ≡ clipped_sums b → clipped (greatest a) ≡ clipped (greatest b)
greatest_alike a b e = clip_greatest a ∙ ap greatest e ∙ sym (clip_greatest b) where
  clip_or_none : (a : Option ℕ) → clipped (or_none a) ≡ or_none (clip a)
  clip_or_none None = refl
  clip_or_none (Some a) = refl

  clip_max : (a b c d : ℕ) → clipped a ≡ c → clipped b ≡ d → clipped (max a b) ≡ max c d
  clip_max a b c d e f = omega (arith, e, f)

  clip_greatest : (a : Sums) → clipped (greatest a) ≡ greatest (clipped_sums a)
  clip_greatest a =
      clip_max (max (or_none a.whole) (or_none a.before)) (max (or_none a.between) (or_none a.behind)) _ _
      (clip_max (or_none a.whole) (or_none a.before) _ _ (clip_or_none a.whole) (clip_or_none a.before))
      (clip_max (or_none a.between) (or_none a.behind) _ _ (clip_or_none a.between) (clip_or_none a.behind))

-- ---- nothing behind

chained_none : (a : Sums) → chained a (taking 0) ≡ a
chained_none a =
    same_sums _ _ (both_zero a.whole) (ap (most a.before) (none_both a.whole) ∙ most_none a.before)
    (ap (λ x. most x (both a.behind None)) (most_none a.between) ∙ ap (most a.between) (none_both a.behind) ∙ most_none a.between)
    (both_zero a.behind) where
      both_zero : (a : Option ℕ) → both a (Some 0) ≡ a
      both_zero None = refl
      both_zero (Some a) = let e : a + 0 ≡ a = omega arith in ap (λ n. Some n) e

      none_both : (a : Option ℕ) → both a None ≡ None
      none_both None = refl
      none_both (Some a) = refl

pub nothing_behind : (a : Sums) → chained a (taking 0) ≡ a
nothing_behind = chained_none

-- ---- pieces

-- that call parts whose sums are told alike
pub summed_alike : (w : Instr → ℕ) (c d : ℕ → Sums) → ((p : ℕ) → clipped_sums (c p) ≡ clipped_sums (d p)) → (ps : Pieces) → clipped_sums (summed w c ps) ≡ clipped_sums (summed w d ps)
summed_alike w c d h no_pieces = refl
summed_alike w c d h (straight code rest) = chained_alike (taking (weight w code)) _ (taking (weight w code)) _ refl (summed_alike w c d h rest)
summed_alike w c d h (address_of rd part more rest) = chained_alike (taking (address_weight w)) _ (taking (address_weight w)) _ refl (summed_alike w c d h rest)
summed_alike w c d h (either test taken other rest) =
    let skip : Sums = taking (skip_words other * jump_weight w) in
    let jump : Sums = taking (jump_weight w) in
    chained_alike (taking (w (branch_of test))) _ (taking (w (branch_of test))) _ refl
    (chained_alike _ _ _ _
    (among_alike (chained (summed w c taken) skip) (chained jump (summed w c other)) (chained (summed w d taken) skip) (chained jump (summed w d other))
    (chained_alike (summed w c taken) skip (summed w d taken) skip (summed_alike w c d h taken) refl)
    (chained_alike jump (summed w c other) jump (summed w d other) refl (summed_alike w c d h other)))
    (summed_alike w c d h rest))
summed_alike w c d h (repeat turns head test body rest) =
    let branch : Sums = taking (w (branch_of test)) in
    let jump : Sums = taking (jump_weight w) in
    let out : Sums = taking (w (branch_of test) + jump_weight w) in
    chained_alike _ _ _ _
    (turned_alike turns _ _ _ _
    (chained_alike (summed w c head) _ (summed w d head) _ (summed_alike w c d h head)
    (chained_alike branch _ branch _ refl (chained_alike (summed w c body) jump (summed w d body) jump (summed_alike w c d h body) refl)))
    (chained_alike (summed w c head) out (summed w d head) out (summed_alike w c d h head) refl))
    (summed_alike w c d h rest)
summed_alike w c d h (call_to link part rest) =
    chained_alike (taking (jump_weight w)) _ (taking (jump_weight w)) _ refl (chained_alike (c part) _ (d part) _ (h part) (summed_alike w c d h rest))

-- a piece before others
one_before : (a s : Sums) → chained a s ≡ chained (chained a (taking 0)) s
one_before a s = ap (λ x. chained x s) (sym (chained_none a))

two_before : (a b s : Sums) → chained a (chained b s) ≡ chained (chained a (chained b (taking 0))) s
two_before a b s = sym (chained_assoc a b s) ∙ ap (λ x. chained (chained a x) s) (sym (chained_none b))

summed_before : (w : Instr → ℕ) (calls : ℕ → Sums) (p : Piece) (rest : Pieces) → summed w calls (piece_before p rest) ≡ chained (summed w calls (piece_of p)) (summed w calls rest)
summed_before w calls (Straight code) rest = one_before (taking (weight w (items_of code))) (summed w calls rest)
summed_before w calls (Address rd part plus) rest = one_before (taking (address_weight w)) (summed w calls rest)
summed_before w calls (Either' test p taken q other) rest =
    let first : Pieces = row_before taken no_pieces in
    let second : Pieces = row_before other no_pieces in
    two_before (taking (w (branch_of test)))
    (among (chained (summed w calls first) (taking (skip_words second * jump_weight w))) (chained (taking (jump_weight w)) (summed w calls second)))
    (summed w calls rest)
summed_before w calls (Repeat' turns p head test q body) rest =
    let start : Pieces = row_before head no_pieces in
    let inner : Pieces = row_before body no_pieces in
    one_before
    (turned turns
    (chained (summed w calls start) (chained (taking (w (branch_of test))) (chained (summed w calls inner) (taking (jump_weight w)))))
    (chained (summed w calls start) (taking (w (branch_of test) + jump_weight w))))
    (summed w calls rest)
summed_before w calls (CallTo link part) rest = two_before (taking (jump_weight w)) (calls part) (summed w calls rest)

summed_drop : (w : Instr → ℕ) (calls : ℕ → Sums) (ps : List Piece) (i : ℕ) (p : Piece) → i < length ps → p ≡ get_or ps i p →
    summed w calls (pieces_of (drop i ps)) ≡ chained (summed w calls (piece_of p)) (summed w calls (pieces_of (drop (i + 1) ps)))
summed_drop w calls ps i p h is = ap (summed w calls) (drop_piece ps i p h is) ∙ summed_before w calls p (pieces_of (drop (i + 1) ps))

pub part_alike : (functions : ℕ) (c d s t : ℕ → Sums) → ((n : ℕ) → clipped_sums (c n) ≡ clipped_sums (d n)) → ((n : ℕ) → clipped_sums (s n) ≡ clipped_sums (t n)) → (p : ℕ) →
    clipped_sums (part_sums functions c s p) ≡ clipped_sums (part_sums functions d t p)
part_alike functions c d s t h k zero = refl
part_alike functions c d s t h k (suc n) = by_test (nat_lt n functions)
  where
    by_test : (b : Bool) → clipped_sums (cond b (c n) (s (n - functions))) ≡ clipped_sums (cond b (d n) (t (n - functions)))
    by_test true = h n
    by_test false = k (n - functions)

-- ---- choices and loops, from what is found of their parts

abbrev pub Same : Sums → Sums → Type 0
Same a b = clipped_sums a ≡ clipped_sums b

module _ (w : Instr → ℕ) (calls : ℕ → Sums) where
  pub either_told : (test : Test) (taken other : Pieces) (r sides a b first second skip jump branch : Sums) →
      Same r (chained branch sides) → branch ≡ taking (w (branch_of test)) → sides ≡ among a b → Same a (chained first skip) → skip ≡ taking (skip_words other * jump_weight w) →
      Same b (chained jump second) → jump ≡ taking (jump_weight w) → Same first (summed w calls taken) → Same second (summed w calls other) →
      Same r (summed w calls (either test taken other no_pieces))
  either_told test taken other r sides a b first second skip jump branch er eb es ea ek ec ej ef eg =
      let x : Sums = chained (summed w calls taken) (taking (skip_words other * jump_weight w)) in
      let y : Sums = chained (taking (jump_weight w)) (summed w calls other) in
      er
      ∙ chained_alike branch sides (taking (w (branch_of test))) (chained (among x y) (taking 0)) (ap clipped_sums eb)
      (ap clipped_sums es
      ∙ among_alike a b x y (ea ∙ chained_alike first skip (summed w calls taken) (taking (skip_words other * jump_weight w)) ef (ap clipped_sums ek))
      (ec ∙ chained_alike jump second (taking (jump_weight w)) (summed w calls other) (ap clipped_sums ej) eg)
      ∙ ap clipped_sums (sym (chained_none (among x y))))

  pub repeat_told : (turns : ℕ) (head : Pieces) (test : Test) (body : Pieces) (r turn inside back start inner branch jump out last : Sums) (way : ℕ) →
      Same r (turned turns turn out) → Same turn (chained start inside) → Same inside (chained branch back) → branch ≡ taking (w (branch_of test)) →
      Same back (chained inner jump) → jump ≡ taking (jump_weight w) →
      Same out (chained start last) → last ≡ taking way → way ≡ clipped (w (branch_of test) + jump_weight w) → Same start (summed w calls head) → Same inner (summed w calls body) →
      Same r (summed w calls (repeat turns head test body no_pieces))
  repeat_told turns head test body r turn inside back start inner branch jump out last way er et ei eb ek ej eo el ew es en =
      let b : Sums = taking (w (branch_of test)) in
      let j : Sums = taking (jump_weight w) in
      let h : Sums = summed w calls head in
      let k : Sums = summed w calls body in
      let x : Sums = chained h (chained b (chained k j)) in
      let y : Sums = chained h (taking (w (branch_of test) + jump_weight w)) in
      let way_is : clipped way ≡ clipped (w (branch_of test) + jump_weight w) = (let e : way ≡ clipped (w (branch_of test) + jump_weight w) = ew in omega (arith, e)) in
      er
      ∙ turned_alike turns turn out x y
      (et ∙ chained_alike start inside h (chained b (chained k j)) es (ei ∙ chained_alike branch back b (chained k j) (ap clipped_sums eb) (ek ∙ chained_alike inner jump k j en (ap clipped_sums ej))))
      (eo ∙ chained_alike start last h (taking (w (branch_of test) + jump_weight w)) es (ap clipped_sums el ∙ taking_alike way (w (branch_of test) + jump_weight w) way_is))
      ∙ ap clipped_sums (sym (chained_none (turned turns x y)))

  -- one more piece behind what is summed
  pub piece_more : (ps : List Piece) (i : ℕ) (p : Piece) (sums one more : Sums) → i < length ps → p ≡ get_or ps i p → Same more (chained sums one) → Same one (summed w calls (piece_of p)) →
      Same (chained sums (summed w calls (pieces_of (drop i ps)))) (summed w calls (pieces_of ps)) → Same (chained more (summed w calls (pieces_of (drop (i + 1) ps)))) (summed w calls (pieces_of ps))
  piece_more ps i p sums one more lt is em eo so =
      let rest : Sums = summed w calls (pieces_of (drop (i + 1) ps)) in
      let piece : Sums = summed w calls (piece_of p) in
      chained_alike more rest (chained sums piece) rest (em ∙ chained_alike sums one sums piece refl eo) refl
      ∙ ap clipped_sums (chained_assoc sums piece rest ∙ ap (chained sums) (sym (summed_drop w calls ps i p lt is)))
      ∙ so
