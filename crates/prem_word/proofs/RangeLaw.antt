-- The law of the table: what an operator gives at values of two ranges lies in the operator's range.
use Rattle.std.specs.Prelude.{ℤ, pos, negsuc, ◌+ℤ◌, ◌-ℤ◌, ◌≤ℤ◌, IsTrue, int_le, int_lt, if◌then◌else◌, Some, None}
use Rattle.std.specs.Int.{w32, bit_not, int_min, int_max}
use Rattle.std.proofs.Common.{◌≡◌, ℕ, zero, suc, ◌-◌, ◌^◌, ◌<◌, ◌≤◌, arith, ap, sym, ◌∙◌, ⊎_elim, refl, subst, Bool, true, false}
use Rattle.std.proofs.lemmas.Int.{ints, clamps, to_z_pos, of_z-to_z}
use Rattle.std.proofs.lemmas.Nat.{and_le_l, or_lt, xor_lt}
use Rattle.std.proofs.lemmas.Bool.{cases_lt, and_parts, and_from}
use borrow.Author.Differences.{true_is_le}
use Rattle.prem_word.specs.declared.kind.Kind.{Kind}
use Rattle.prem_word.specs.declared.kind.Kind.TheVariants.{Int, Unsigned}
use Rattle.prem_word.specs.declared.kind.BinOp.{BinOp}
use Rattle.prem_word.specs.declared.kind.BinOp.TheVariants.{Add, Sub, Mul, Div, Rem, Shl, Shr, Lt, Le, Gt, Ge, Eq, Ne, And, Xor, Or, AndAlso, OrElse}
use Rattle.prem_word.specs.Words.{value_in, word_of, truth, apply_op, CanApply}
use Rattle.prem_word.specs.Ranges.{Span, from_to, exactly, LiesIn, whole, truths, converted, join, meet, IsMeet, encloses, range_of_op, range_negate, flipped, range_flip}
use Rattle.prem_word.specs.Words.{result_kind}
use Rattle.prem_word.proofs.Corners.{word_in_whole, word_below, natural_value}
use Rattle.prem_word.proofs.Holds.{sum_holds, difference_holds, product_holds, quotient_holds, remainder_holds}
use Rattle.prem_word.proofs.HoldsBits.{and_holds, or_holds, xor_holds, shifted_left_holds, shifted_right_holds}

-- ---- operators on two words

pub truth_holds : (k : Kind) (t : Bool) → LiesIn truths (value_in k (truth t))
truth_holds Int true = record { low = omega (arith, ints); high = omega (arith, ints) }
truth_holds Int false = record { low = omega (arith, ints); high = omega (arith, ints) }
truth_holds Unsigned true = record { low = omega (arith, ints); high = omega (arith, ints) }
truth_holds Unsigned false = record { low = omega (arith, ints); high = omega (arith, ints) }

-- a word that isn't 0 stands for no 0
not_zero : (k : Kind) (w : ℕ) → w < 2 ^ 32 → 0 < w → value_in k w ≡ pos 0 → ⊥
not_zero k w small some e = let is = natural_value k w small (omega (arith, ints, e)) in omega (arith, ints, e, is)

pub range_holds : (op : BinOp) (k : Kind) (a b : Span) (v w : ℕ) → v < 2 ^ 32 → w < 2 ^ 32 → LiesIn a (value_in k v) → LiesIn b (value_in k w) →
    CanApply op w → LiesIn (range_of_op op k a b) (value_in (result_kind op k) (apply_op op k v w))
range_holds Add k a b v w small_v small_w in_a in_b can = sum_holds k a b (value_in k v) (value_in k w) in_a in_b
range_holds Sub k a b v w small_v small_w in_a in_b can = difference_holds k a b (value_in k v) (value_in k w) in_a in_b
range_holds Mul k a b v w small_v small_w in_a in_b can = product_holds k a b (value_in k v) (value_in k w) in_a in_b
range_holds Div k a b v w small_v small_w in_a in_b can = quotient_holds k a b (value_in k v) (value_in k w) in_a in_b (not_zero k w small_w can)
range_holds Rem k a b v w small_v small_w in_a in_b can = remainder_holds k a b (value_in k v) (value_in k w) (word_in_whole k v small_v) in_a in_b (not_zero k w small_w can)
range_holds Shl k a b v w small_v small_w in_a in_b can = shifted_left_holds k a b (value_in k v) w small_w in_a in_b
range_holds Shr k a b v w small_v small_w in_a in_b can = shifted_right_holds k a b (value_in k v) w small_w (word_in_whole k v small_v) in_a in_b
range_holds Lt k a b v w small_v small_w in_a in_b can = truth_holds Int _
range_holds Le k a b v w small_v small_w in_a in_b can = truth_holds Int _
range_holds Gt k a b v w small_v small_w in_a in_b can = truth_holds Int _
range_holds Ge k a b v w small_v small_w in_a in_b can = truth_holds Int _
range_holds Eq k a b v w small_v small_w in_a in_b can = truth_holds Int _
range_holds Ne k a b v w small_v small_w in_a in_b can = truth_holds Int _
range_holds And k a b v w small_v small_w in_a in_b can = and_holds k a b v w small_v small_w in_a in_b
range_holds Xor k a b v w small_v small_w in_a in_b can = xor_holds k a b v w small_v small_w in_a in_b
range_holds Or k a b v w small_v small_w in_a in_b can = or_holds k a b v w small_v small_w in_a in_b
range_holds AndAlso k a b v w small_v small_w in_a in_b can = absurd can
range_holds OrElse k a b v w small_v small_w in_a in_b can = absurd can

-- an operator on words gives a word
pub truth_word : (t : Bool) → truth t < 2 ^ 32
truth_word true = omega arith
truth_word false = omega arith

pub op_word : (op : BinOp) (k : Kind) (v w : ℕ) → v < 2 ^ 32 → w < 2 ^ 32 → apply_op op k v w < 2 ^ 32
op_word Add k v w small_v small_w = word_below _
op_word Sub k v w small_v small_w = word_below _
op_word Mul k v w small_v small_w = word_below _
op_word Div k v w small_v small_w = word_below _
op_word Rem k v w small_v small_w = word_below _
op_word Shl k v w small_v small_w = word_below _
op_word Shr k v w small_v small_w = word_below _
op_word Lt k v w small_v small_w = truth_word _
op_word Le k v w small_v small_w = truth_word _
op_word Gt k v w small_v small_w = truth_word _
op_word Ge k v w small_v small_w = truth_word _
op_word Eq k v w small_v small_w = truth_word _
op_word Ne k v w small_v small_w = truth_word _
op_word And k v w small_v small_w = let le = and_le_l v w in omega arith
op_word Xor k v w small_v small_w = xor_lt 32 v w small_v small_w
op_word Or k v w small_v small_w = or_lt 32 v w small_v small_w
op_word AndAlso k v w small_v small_w = truth_word _
op_word OrElse k v w small_v small_w = truth_word _

-- ---- conversions

-- a word as an int: itself, or 2 ^ 32 less
int_value : (w : ℕ) → w < 2 ^ 32 → 2 ^ 31 ≤ w → value_in Int w ≡ pos w -ℤ pos 4294967296
int_value w small high = let back = of_z-to_z w32 w small in omega (arith, ints, back)

pub converted_holds : (j k : Kind) (r : Span) (w : ℕ) → w < 2 ^ 32 → LiesIn r (value_in j w) → LiesIn (converted k r) (value_in k w)
converted_holds j Int r w small h = by (int_lt r.hi (pos 2147483648)) (int_le (pos 2147483648) r.lo) refl refl where
  same : (i : Kind) → int_lt r.hi (pos 2147483648) ≡ true → LiesIn r (value_in i w) → LiesIn r (value_in Int w)
  same Int d g = g
  same Unsigned d g = let top = g.high in let is : value_in Int w ≡ pos w = to_z_pos w32 w (omega (arith, ints, d)) in rw is g

  less : (i : Kind) → int_le (pos 2147483648) r.lo ≡ true → LiesIn r (value_in i w) → LiesIn (from_to (r.lo -ℤ pos 4294967296) (r.hi -ℤ pos 4294967296)) (value_in Int w)
  less Int e g = absurd (let low = g.low in let inside = word_in_whole Int w small in let top = inside.high in omega (arith, ints, e))
  less Unsigned e g = let low = g.low in let top = g.high in rw (int_value w small (omega (arith, ints, e))) (record { low = omega (arith, ints); high = omega (arith, ints) })

  by : (s t : Bool) → int_lt r.hi (pos 2147483648) ≡ s → int_le (pos 2147483648) r.lo ≡ t →
      LiesIn (if s then r else if t then from_to (r.lo -ℤ pos 4294967296) (r.hi -ℤ pos 4294967296) else whole Int) (value_in Int w)
  by true t d e = same j d h
  by false true d e = less j e h
  by false false d e = word_in_whole Int w small
converted_holds j Unsigned r w small h = by (int_le (pos 0) r.lo) (int_lt r.hi (pos 0)) refl refl where
  natural : (i : Kind) → int_le (pos 0) r.lo ≡ true → LiesIn r (value_in i w) → value_in i w ≡ pos w
  natural i d g = natural_value i w small (let low = g.low in omega (arith, ints, d))

  more : (i : Kind) → int_lt r.hi (pos 0) ≡ true → LiesIn r (value_in i w) → LiesIn (from_to (r.lo +ℤ pos 4294967296) (r.hi +ℤ pos 4294967296)) (pos w)
  more Int e g =
      let low = g.low in
      let top = g.high in
      ⊎_elim
      (λ less. absurd (let is : value_in Int w ≡ pos w = to_z_pos w32 w less in omega (arith, ints, e, is)))
      (λ high. let is = int_value w small high in record { low = omega (arith, ints, is); high = omega (arith, ints, is) })
      (cases_lt w (2 ^ 31))
  more Unsigned e g = absurd (let top = g.high in omega (arith, ints, e))

  by : (s t : Bool) → int_le (pos 0) r.lo ≡ s → int_lt r.hi (pos 0) ≡ t → LiesIn (if s then r else if t then from_to (r.lo +ℤ pos 4294967296) (r.hi +ℤ pos 4294967296) else whole Unsigned) (pos w)
  by true t d e = subst (LiesIn r) (natural j d h) h
  by false true d e = more j e h
  by false false d e = word_in_whole Unsigned w small

-- ---- operators on one word

-- 0 less a word is 0 less the number that it stands for
negated_word : (k : Kind) (w : ℕ) → w < 2 ^ 32 → word_of (pos 0 -ℤ pos w) ≡ word_of (pos 0 -ℤ value_in k w)
negated_word Unsigned w small = refl
negated_word Int w small = ⊎_elim (λ less. ap (λ z. word_of (pos 0 -ℤ z)) (sym (to_z_pos w32 w less))) (λ high. by w small high (value_in Int w) (int_value w small high)) (cases_lt w (2 ^ 31)) where
  by : (w : ℕ) → w < 2 ^ 32 → 2 ^ 31 ≤ w → (z : ℤ) → z ≡ pos w -ℤ pos 4294967296 → word_of (pos 0 -ℤ pos w) ≡ word_of (pos 0 -ℤ z)
  by zero small high z e = absurd (omega arith)
  by (suc n) small high z e =
      let left : pos 0 -ℤ pos (suc n) ≡ negsuc n = omega (arith, ints) in
      let right : pos 0 -ℤ z ≡ pos (4294967295 - n) = omega (arith, ints) in
      let same : word_of (negsuc n) ≡ word_of (pos (4294967295 - n)) = omega arith in
      ap word_of left ∙ same ∙ sym (ap word_of right)

pub negate_holds : (k : Kind) (a : Span) (w : ℕ) → w < 2 ^ 32 → LiesIn a (value_in k w) → LiesIn (range_negate k a) (value_in k (word_of (pos 0 -ℤ pos w)))
negate_holds k a w small in_a =
    rw (negated_word k w small) (difference_holds k (exactly (pos 0)) a (pos 0) (value_in k w) (record { low = omega (arith, ints); high = omega (arith, ints) }) in_a)

flipped_value : (k : Kind) (w : ℕ) → w < 2 ^ 32 → value_in k (bit_not w32 w) ≡ flipped k (value_in k w)
flipped_value Unsigned w small = omega (arith, ints)
flipped_value Int w small =
    let back = of_z-to_z w32 w small in
    let other = of_z-to_z w32 (bit_not w32 w) (omega arith) in
    ⊎_elim (λ low. omega (arith, ints, back, other)) (λ high. omega (arith, ints, back, other)) (cases_lt w (2 ^ 31))

pub flip_holds : (k : Kind) (a : Span) (w : ℕ) → w < 2 ^ 32 → LiesIn a (value_in k w) → LiesIn (range_flip k a) (value_in k (bit_not w32 w))
flip_holds k a w small in_a = rw (flipped_value k w small) (by k in_a) where
  by : (j : Kind) {z : ℤ} → LiesIn a z → LiesIn (range_flip j a) (flipped j z)
  by Int h = let low = h.low in let top = h.high in record { low = omega (arith, ints); high = omega (arith, ints) }
  by Unsigned h = let low = h.low in let top = h.high in record { low = omega (arith, ints); high = omega (arith, ints) }

-- ---- several ranges

pub join_left : (a b : Span) (z : ℤ) → LiesIn a z → LiesIn (join a b) z
join_left a b z h = let low = h.low in let top = h.high in record { low = omega (arith, ints, clamps); high = omega (arith, ints, clamps) }

pub join_right : (a b : Span) (z : ℤ) → LiesIn b z → LiesIn (join a b) z
join_right a b z h = let low = h.low in let top = h.high in record { low = omega (arith, ints, clamps); high = omega (arith, ints, clamps) }

at_most : (a b : ℤ) → a ≤ℤ b → int_le a b ≡ true
at_most a b h = sym (true_is_le a b (omega (arith, ints)))

pub join_least : (a b r : Span) → IsTrue (encloses r a) → IsTrue (encloses r b) → IsTrue (encloses r (join a b))
join_least a b r h g =
    let one = and_parts (int_le r.lo a.lo) (int_le a.hi r.hi) h in
    let two = and_parts (int_le r.lo b.lo) (int_le b.hi r.hi) g in
    and_from (int_le r.lo (int_min a.lo b.lo)) (int_le (int_max a.hi b.hi) r.hi)
    (at_most r.lo (int_min a.lo b.lo) (omega (arith, ints, clamps, one.0, two.0)))
    (at_most (int_max a.hi b.hi) r.hi (omega (arith, ints, clamps, one.1, two.1)))

pub meet_is : (a b : Span) → IsMeet a b (meet a b)
meet_is a b = by (int_le (int_max a.lo b.lo) (int_min a.hi b.hi)) refl where
  both : Span
  both = from_to (int_max a.lo b.lo) (int_min a.hi b.hi)

  by : (t : Bool) → int_le (int_max a.lo b.lo) (int_min a.hi b.hi) ≡ t → IsMeet a b (if t then Some both else None)
  by true e = λ z. (
    λ h. let low = h.low in let top = h.high in (
      record { low = omega (arith, ints, clamps); high = omega (arith, ints, clamps) },
      record { low = omega (arith, ints, clamps); high = omega (arith, ints, clamps) },
    ),
    λ h. let l = h.0.low in let t = h.0.high in let m = h.1.low in let u = h.1.high in record { low = omega (arith, ints, clamps); high = omega (arith, ints, clamps) },
  )
  by false e = λ z h g. let l = h.low in let t = h.high in let m = g.low in let u = g.high in omega (arith, ints, clamps, e)
