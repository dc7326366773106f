-- Each row of the table gives a range of its kind.
use Rattle.std.specs.Prelude.{ℤ, pos, negsuc, ◌+ℤ◌, ◌-ℤ◌, ◌*ℤ◌, neg_ℤ, ◌≤ℤ◌, ◌&&◌, int_le, int_lt, int_div, if◌then◌else◌, unsigned_abs, Option, Some, None}
use Rattle.std.specs.Int.{int_min, int_max}
use Rattle.std.proofs.Common.{◌≡◌, ℕ, ◌-◌, ◌^◌, max, arith, refl, Bool, true, false, pow_mono}
use Rattle.std.proofs.lemmas.Int.{ints, clamps}
use Rattle.std.proofs.lemmas.Bool.{and_parts}
use Rattle.prem_word.specs.declared.kind.Kind.{Kind}
use Rattle.prem_word.specs.declared.kind.Kind.TheVariants.{Int, Unsigned}
use Rattle.prem_word.specs.declared.kind.BinOp.{BinOp}
use Rattle.prem_word.specs.declared.kind.BinOp.TheVariants.{Add, Sub, Mul, Div, Rem, Shl, Shr, Lt, Le, Gt, Ge, Eq, Ne, And, Xor, Or, AndAlso, OrElse}
use Rattle.prem_word.specs.Ranges.{Span, from_to, IsRange, holds, encloses, whole, within, corners, truths, converted, join, quotient_in, magnitude, least_remainder}
use Rattle.prem_word.specs.Ranges.{greatest_remainder, remainder_in, is_natural, and_in, bit_length, or_in, count_of, shifted_left_by, shifted_left_in, shifted_right_by}
use Rattle.prem_word.specs.Ranges.{shifted_right_in, range_of_op, range_negate, range_flip}
use Rattle.prem_word.specs.Words.{result_kind}
use Rattle.prem_word.proofs.Monotone.{times_up, shr_up}
use Rattle.prem_word.proofs.Corners.{≤ℤ_trans, around_ordered}
use Rattle.prem_word.proofs.HoldsBits.{bit_length_least, shr_in_whole}

pub whole_kept : (k : Kind) → IsRange k (whole k)
whole_kept Int = record { ordered = omega (arith, ints); least = omega (arith, ints); greatest = omega (arith, ints) }
whole_kept Unsigned = record { ordered = omega (arith, ints); least = omega (arith, ints); greatest = omega (arith, ints) }

pub truths_kept : (k : Kind) → IsRange k truths
truths_kept Int = record { ordered = omega (arith, ints); least = omega (arith, ints); greatest = omega (arith, ints) }
truths_kept Unsigned = record { ordered = omega (arith, ints); least = omega (arith, ints); greatest = omega (arith, ints) }

pub within_kept : (k : Kind) (r : Span) → r.lo ≤ℤ r.hi → IsRange k (within k r)
within_kept k r ordered = by (encloses (whole k) r) refl where
  by : (t : Bool) → encloses (whole k) r ≡ t → IsRange k (if t then r else whole k)
  by true e = let parts = and_parts (int_le (whole k).lo r.lo) (int_le r.hi (whole k).hi) e in
      record { ordered = ordered; least = omega (arith, ints, parts.0); greatest = omega (arith, ints, parts.1) }
  by false e = whole_kept k

corners_kept : (k : Kind) (f : ℤ → ℤ → ℤ) (a b : Span) → IsRange k (within k (corners f a b))
corners_kept k f a b = within_kept k (corners f a b) (around_ordered (f a.lo b.lo) (f a.lo b.hi) (f a.hi b.lo) (f a.hi b.hi))

quotient_kept : (k : Kind) (a b : Span) → IsRange k (quotient_in k a b)
quotient_kept k a b = by (holds b (pos 0)) where
  by : (t : Bool) → IsRange k (if t then whole k else within k (corners int_div a b))
  by true = whole_kept k
  by false = corners_kept k int_div a b

-- between a range's end and 0
least_remainder_between : (lo : ℤ) (m : ℕ) → (int_min lo (pos 0) ≤ℤ least_remainder lo m) × (least_remainder lo m ≤ℤ pos 0)
least_remainder_between lo m = by (int_le (pos 0) lo) refl where
  by : (t : Bool) → int_le (pos 0) lo ≡ t → (int_min lo (pos 0) ≤ℤ (if t then pos 0 else int_max lo (neg_ℤ (pos m)))) × ((if t then pos 0 else int_max lo (neg_ℤ (pos m))) ≤ℤ pos 0)
  by true e = (omega (arith, ints, clamps), omega (arith, ints))
  by false e = (omega (arith, ints, clamps), omega (arith, ints, clamps))

greatest_remainder_between : (hi : ℤ) (m : ℕ) → (greatest_remainder hi m ≤ℤ int_max hi (pos 0)) × (pos 0 ≤ℤ greatest_remainder hi m)
greatest_remainder_between hi m = by (int_le hi (pos 0)) refl where
  by : (t : Bool) → int_le hi (pos 0) ≡ t → ((if t then pos 0 else int_min hi (pos m)) ≤ℤ int_max hi (pos 0)) × (pos 0 ≤ℤ (if t then pos 0 else int_min hi (pos m)))
  by true e = (omega (arith, ints, clamps), omega (arith, ints))
  by false e = (omega (arith, ints, clamps), omega (arith, ints, clamps))

pub remainder_ordered : (lo hi : ℤ) (m : ℕ) → least_remainder lo m ≤ℤ greatest_remainder hi m
remainder_ordered lo hi m = ≤ℤ_trans _ (pos 0) _ (least_remainder_between lo m).1 (greatest_remainder_between hi m).1

-- 0 is a number of each kind
zero_least : (k : Kind) (z : ℤ) → (whole k).lo ≤ℤ z → (whole k).lo ≤ℤ int_min z (pos 0)
zero_least Int z h = omega (arith, ints, clamps)
zero_least Unsigned z h = omega (arith, ints, clamps)

zero_greatest : (k : Kind) (z : ℤ) → z ≤ℤ (whole k).hi → int_max z (pos 0) ≤ℤ (whole k).hi
zero_greatest Int z h = omega (arith, ints, clamps)
zero_greatest Unsigned z h = omega (arith, ints, clamps)

remainder_kept : (k : Kind) (a b : Span) → IsRange k a → IsRange k (remainder_in k a b)
remainder_kept k a b is = by (holds b (pos 0)) where
  by : (t : Bool) → IsRange k (if t then whole k else from_to (least_remainder a.lo (magnitude b - 1)) (greatest_remainder a.hi (magnitude b - 1)))
  by true = whole_kept k
  by false =
      let low = least_remainder_between a.lo (magnitude b - 1) in
      let top = greatest_remainder_between a.hi (magnitude b - 1) in
      record {
        ordered = ≤ℤ_trans _ (pos 0) _ low.1 top.1;
        least = ≤ℤ_trans _ _ _ (zero_least k a.lo is.least) low.0;
        greatest = ≤ℤ_trans _ _ _ top.0 (zero_greatest k a.hi is.greatest);
      }

-- the naturals up to a number of the kind
naturals_kept : (k : Kind) (hi : ℤ) → pos 0 ≤ℤ hi → hi ≤ℤ (whole k).hi → IsRange k (from_to (pos 0) hi)
naturals_kept Int hi natural top = record { ordered = natural; least = omega (arith, ints); greatest = top }
naturals_kept Unsigned hi natural top = record { ordered = natural; least = omega (arith, ints); greatest = top }

up_to_greatest : (k : Kind) (r : Span) → IsRange k r → is_natural r ≡ true → IsRange k (from_to (pos 0) r.hi)
up_to_greatest k r is e = naturals_kept k r.hi (let o = is.ordered in omega (arith, ints, e)) is.greatest

and_kept : (k : Kind) (a b : Span) → IsRange k a → IsRange k b → IsRange k (and_in k a b)
and_kept k a b is_a is_b = by (is_natural a) (is_natural b) refl refl where
  by : (s t : Bool) → is_natural a ≡ s → is_natural b ≡ t →
      IsRange k (if s && t then from_to (pos 0) (int_min a.hi b.hi) else if s then from_to (pos 0) a.hi else if t then from_to (pos 0) b.hi else whole k)
  by true true d e =
      let o = is_a.ordered in
      let p = is_b.ordered in
      let g = is_a.greatest in
      naturals_kept k (int_min a.hi b.hi) (omega (arith, ints, clamps, d, e)) (omega (arith, ints, clamps))
  by true false d e = up_to_greatest k a is_a d
  by false true d e = up_to_greatest k b is_b e
  by false false d e = whole_kept k

-- all ones of a kind's length
ones_fit : (k : Kind) (n : ℕ) → pos n ≤ℤ (whole k).hi → pos (2 ^ bit_length n - 1) ≤ℤ (whole k).hi
ones_fit Int n h = let short = bit_length_least n 31 (omega (arith, ints)) (omega (arith, ints)) in let less = pow_mono short in omega (arith, ints)
ones_fit Unsigned n h = let short = bit_length_least n 32 (omega (arith, ints)) (omega (arith, ints)) in let less = pow_mono short in omega (arith, ints)

or_kept : (k : Kind) (a b : Span) → IsRange k a → IsRange k b → IsRange k (or_in k a b)
or_kept k a b is_a is_b = by (is_natural a && is_natural b) refl where
  most : ℕ
  most = max (unsigned_abs a.hi) (unsigned_abs b.hi)

  by : (t : Bool) → (is_natural a && is_natural b) ≡ t → IsRange k (if t then from_to (pos 0) (pos (2 ^ bit_length (max (unsigned_abs a.hi) (unsigned_abs b.hi)) - 1)) else whole k)
  by true e =
      let parts = and_parts (is_natural a) (is_natural b) e in
      let o = is_a.ordered in
      let p = is_b.ordered in
      let g = is_a.greatest in
      let h = is_b.greatest in
      naturals_kept k (pos (2 ^ bit_length (max (unsigned_abs a.hi) (unsigned_abs b.hi)) - 1)) (omega (arith, ints))
      (ones_fit k (max (unsigned_abs a.hi) (unsigned_abs b.hi)) (omega (arith, ints, parts.0, parts.1)))
  by false e = whole_kept k

shifted_left_kept : (k : Kind) (a b : Span) → IsRange k a → IsRange k (shifted_left_in k a b)
shifted_left_kept k a b is = by (count_of b) where
  by : (c : Option ℕ) → IsRange k (shifted_left_by k a c)
  by None = whole_kept k
  by (Some c) = within_kept k (from_to (a.lo *ℤ pos (2 ^ c)) (a.hi *ℤ pos (2 ^ c))) (times_up a.lo a.hi (2 ^ c) is.ordered)

shifted_right_kept : (k : Kind) (a b : Span) → IsRange k a → IsRange k (shifted_right_in k a b)
shifted_right_kept k a b is = by (count_of b) where
  none : (t : Bool) → is_natural a ≡ t → IsRange k (if t then from_to (pos 0) a.hi else whole k)
  none true e = up_to_greatest k a is e
  none false e = whole_kept k

  by : (c : Option ℕ) → IsRange k (shifted_right_by k a c)
  by None = none (is_natural a) refl
  by (Some c) =
      let low = shr_in_whole k a.lo c (record { low = is.least; high = ≤ℤ_trans a.lo a.hi (whole k).hi is.ordered is.greatest }) in
      let top = shr_in_whole k a.hi c (record { low = ≤ℤ_trans (whole k).lo a.lo a.hi is.least is.ordered; high = is.greatest }) in
      record { ordered = shr_up a.lo a.hi c is.ordered; least = low.low; greatest = top.high }

pub range_kept : (op : BinOp) (k : Kind) (a b : Span) → IsRange k a → IsRange k b → IsRange (result_kind op k) (range_of_op op k a b)
range_kept Add k a b is_a is_b = corners_kept k (λ x y. x +ℤ y) a b
range_kept Sub k a b is_a is_b = corners_kept k (λ x y. x -ℤ y) a b
range_kept Mul k a b is_a is_b = corners_kept k (λ x y. x *ℤ y) a b
range_kept Div k a b is_a is_b = quotient_kept k a b
range_kept Rem k a b is_a is_b = remainder_kept k a b is_a
range_kept Shl k a b is_a is_b = shifted_left_kept k a b is_a
range_kept Shr k a b is_a is_b = shifted_right_kept k a b is_a
range_kept Lt k a b is_a is_b = truths_kept Int
range_kept Le k a b is_a is_b = truths_kept Int
range_kept Gt k a b is_a is_b = truths_kept Int
range_kept Ge k a b is_a is_b = truths_kept Int
range_kept Eq k a b is_a is_b = truths_kept Int
range_kept Ne k a b is_a is_b = truths_kept Int
range_kept And k a b is_a is_b = and_kept k a b is_a is_b
range_kept Xor k a b is_a is_b = or_kept k a b is_a is_b
range_kept Or k a b is_a is_b = or_kept k a b is_a is_b
range_kept AndAlso k a b is_a is_b = truths_kept Int
range_kept OrElse k a b is_a is_b = truths_kept Int

pub negate_kept : (k : Kind) (a : Span) → IsRange k (range_negate k a)
negate_kept k a = corners_kept k (λ x y. x -ℤ y) (from_to (pos 0) (pos 0)) a

pub flip_kept : (k : Kind) (a : Span) → IsRange k a → IsRange k (range_flip k a)
flip_kept Int a is = let o = is.ordered in let l = is.least in let g = is.greatest in record { ordered = omega (arith, ints); least = omega (arith, ints); greatest = omega (arith, ints) }
flip_kept Unsigned a is = let o = is.ordered in let l = is.least in let g = is.greatest in record { ordered = omega (arith, ints); least = omega (arith, ints); greatest = omega (arith, ints) }

pub join_kept : (k : Kind) (a b : Span) → IsRange k a → IsRange k b → IsRange k (join a b)
join_kept k a b is_a is_b =
    let o = is_a.ordered in
    let l = is_a.least in
    let m = is_b.least in
    let g = is_a.greatest in
    let h = is_b.greatest in
    record { ordered = omega (arith, ints, clamps); least = omega (arith, ints, clamps); greatest = omega (arith, ints, clamps) }

-- the least and the greatest number of both kinds
of_a_kind : (j : Kind) (r : Span) → IsRange j r → (negsuc 2147483647 ≤ℤ r.lo) × (r.hi ≤ℤ pos 4294967295)
of_a_kind Int r is = (is.least, let g = is.greatest in omega (arith, ints))
of_a_kind Unsigned r is = (let l = is.least in omega (arith, ints), is.greatest)

pub converted_kept : (j k : Kind) (r : Span) → IsRange j r → IsRange k (converted k r)
converted_kept j Int r is = by (int_lt r.hi (pos 2147483648)) (int_le (pos 2147483648) r.lo) refl refl where
  by : (s t : Bool) → int_lt r.hi (pos 2147483648) ≡ s → int_le (pos 2147483648) r.lo ≡ t →
      IsRange Int (if s then r else if t then from_to (r.lo -ℤ pos 4294967296) (r.hi -ℤ pos 4294967296) else whole Int)
  by true t d e = record { ordered = is.ordered; least = (of_a_kind j r is).0; greatest = omega (arith, ints, d) }
  by false true d e =
      let o = is.ordered in
      let g = (of_a_kind j r is).1 in
      record { ordered = omega (arith, ints); least = omega (arith, ints, e); greatest = omega (arith, ints) }
  by false false d e = whole_kept Int
converted_kept j Unsigned r is = by (int_le (pos 0) r.lo) (int_lt r.hi (pos 0)) refl refl where
  by : (s t : Bool) → int_le (pos 0) r.lo ≡ s → int_lt r.hi (pos 0) ≡ t → IsRange Unsigned (if s then r else if t then from_to (r.lo +ℤ pos 4294967296) (r.hi +ℤ pos 4294967296) else whole Unsigned)
  by true t d e = record { ordered = is.ordered; least = omega (arith, ints, d); greatest = (of_a_kind j r is).1 }
  by false true d e =
      let o = is.ordered in
      let l = (of_a_kind j r is).0 in
      record { ordered = omega (arith, ints); least = omega (arith, ints); greatest = omega (arith, ints, e) }
  by false false d e = whole_kept Unsigned
