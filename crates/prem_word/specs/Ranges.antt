-- Ranges of numbers: what the operators make of them.
use Rattle.std.specs.Prelude.{ℕ, ◌-◌, ◌^◌, max, ℤ, pos, negsuc, ◌+ℤ◌, ◌-ℤ◌, ◌*ℤ◌, neg_ℤ, ◌≤ℤ◌, ◌↔◌, Bool, ◌&&◌, if◌then◌else◌, Option, Some, None, int_lt, int_le, int_div, unsigned_abs}
use Rattle.std.specs.Ordering.{int_eq}
use Rattle.std.specs.Int.{w64, int_min, int_max, int_shr, leading_zeros}
use Rattle.prem_word.specs.declared.kind.Kind.{Kind}
use Rattle.prem_word.specs.declared.kind.Kind.TheVariants.{Int, Unsigned}
use Rattle.prem_word.specs.declared.range.Range.{Range}
use Rattle.prem_word.specs.declared.kind.BinOp.{BinOp}
use Rattle.prem_word.specs.declared.kind.BinOp.TheVariants.{Add, Sub, Mul, Div, Rem, Shl, Shr, And, Xor, Or}

-- the numbers from lo to hi, both included
pub record Span : Type 0 where
  pub lo : ℤ
  pub hi : ℤ

abbrev pub from_to : ℤ → ℤ → Span
from_to lo hi = record { lo = lo; hi = hi }

-- one number alone
abbrev pub exactly : ℤ → Span
exactly z = from_to z z

-- a range in memory
abbrev pub span_of : Range → Span
span_of r = from_to r.lo r.hi

-- ---- what is in a range

pub record LiesIn (r : Span) (z : ℤ) : Type 0 where
  pub low : r.lo ≤ℤ z
  pub high : z ≤ℤ r.hi

abbrev pub holds : Span → ℤ → Bool
holds r z = int_le r.lo z && int_le z r.hi

-- whether a range lies in another one
abbrev pub encloses : Span → Span → Bool
encloses outer inner = int_le outer.lo inner.lo && int_le inner.hi outer.hi

-- the numbers of a kind
abbrev pub whole : Kind → Span
whole Int = from_to (negsuc 2147483647) (pos 2147483647)
whole Unsigned = from_to (pos 0) (pos 4294967295)

-- what is kept of each range of a kind
pub record IsRange (k : Kind) (r : Span) : Type 0 where
  pub ordered : r.lo ≤ℤ r.hi
  pub least : (whole k).lo ≤ℤ r.lo
  pub greatest : r.hi ≤ℤ (whole k).hi

-- a range, or its kind's whole range where it passes that
abbrev pub within : Kind → Span → Span
within k r = if encloses (whole k) r then r else whole k

-- ---- ranges of one another

-- the range of a number's value in a kind, whatever kind it comes from
abbrev pub converted : Kind → Span → Span
converted Int r =
    if int_lt r.hi (pos 2147483648) then r
    else if int_le (pos 2147483648) r.lo then from_to (r.lo -ℤ pos 4294967296) (r.hi -ℤ pos 4294967296)
    else whole Int
converted Unsigned r =
    if int_le (pos 0) r.lo then r
    else if int_lt r.hi (pos 0) then from_to (r.lo +ℤ pos 4294967296) (r.hi +ℤ pos 4294967296)
    else whole Unsigned

-- the least range that encloses two
abbrev pub join : Span → Span → Span
join a b = from_to (int_min a.lo b.lo) (int_max a.hi b.hi)

-- a range, unless there is no number in it
abbrev pub unless_empty : Span → Option Span
unless_empty r = if int_le r.lo r.hi then Some r else None

-- the numbers that are in both
abbrev pub meet : Span → Span → Option Span
meet a b = unless_empty (from_to (int_max a.lo b.lo) (int_min a.hi b.hi))

-- what a meet is: the numbers that are in both, and none where there is no such number
abbrev pub IsMeet : Span → Span → Option Span → Type 0
IsMeet a b None = (z : ℤ) → LiesIn a z → LiesIn b z → ⊥
IsMeet a b (Some r) = (z : ℤ) → LiesIn r z ↔ (LiesIn a z × LiesIn b z)

-- ---- operators

-- the least and the greatest of four numbers
abbrev pub least_of : ℤ → ℤ → ℤ → ℤ → ℤ
least_of p q r s = int_min (int_min p q) (int_min r s)

abbrev pub greatest_of : ℤ → ℤ → ℤ → ℤ → ℤ
greatest_of p q r s = int_max (int_max p q) (int_max r s)

abbrev pub around : ℤ → ℤ → ℤ → ℤ → Span
around p q r s = from_to (least_of p q r s) (greatest_of p q r s)

-- from the least to the greatest result at the ends
abbrev pub corners : (ℤ → ℤ → ℤ) → Span → Span → Span
corners f a b = around (f a.lo b.lo) (f a.lo b.hi) (f a.hi b.lo) (f a.hi b.hi)

abbrev pub sum_in : Kind → Span → Span → Span
sum_in k a b = within k (corners (λ x y. x +ℤ y) a b)

abbrev pub difference_in : Kind → Span → Span → Span
difference_in k a b = within k (corners (λ x y. x -ℤ y) a b)

abbrev pub product_in : Kind → Span → Span → Span
product_in k a b = within k (corners (λ x y. x *ℤ y) a b)

abbrev pub quotient_in : Kind → Span → Span → Span
quotient_in k a b = if holds b (pos 0) then whole k else within k (corners int_div a b)

-- the greatest absolute value of a range
abbrev pub magnitude : Span → ℕ
magnitude r = max (unsigned_abs r.lo) (unsigned_abs r.hi)

-- from a dividend's least or greatest number: a remainder is at most m, and has the dividend's sign
abbrev pub least_remainder : ℤ → ℕ → ℤ
least_remainder lo m = if int_le (pos 0) lo then pos 0 else int_max lo (neg_ℤ (pos m))

abbrev pub greatest_remainder : ℤ → ℕ → ℤ
greatest_remainder hi m = if int_le hi (pos 0) then pos 0 else int_min hi (pos m)

abbrev pub remainder_in : Kind → Span → Span → Span
remainder_in k a b =
    if holds b (pos 0) then whole k
    else from_to (least_remainder a.lo (magnitude b - 1)) (greatest_remainder a.hi (magnitude b - 1))

abbrev pub is_natural : Span → Bool
is_natural r = int_le (pos 0) r.lo

abbrev pub and_in : Kind → Span → Span → Span
and_in k a b =
    if is_natural a && is_natural b then from_to (pos 0) (int_min a.hi b.hi)
    else if is_natural a then from_to (pos 0) a.hi
    else if is_natural b then from_to (pos 0) b.hi
    else whole k

-- the least k with n < 2 ^ k
abbrev pub bit_length : ℕ → ℕ
bit_length n = 64 - leading_zeros w64 n

-- | and ^ set no bit above the highest one of both
abbrev pub or_in : Kind → Span → Span → Span
or_in k a b =
    if is_natural a && is_natural b then from_to (pos 0) (pos (2 ^ bit_length (max (unsigned_abs a.hi) (unsigned_abs b.hi)) - 1))
    else whole k

-- the number that a range of counts stands for, where it is one from 0 to 31
abbrev pub count_of : Span → Option ℕ
count_of r = if int_eq r.lo r.hi && holds (from_to (pos 0) (pos 31)) r.lo then Some (unsigned_abs r.lo) else None

abbrev pub shifted_left_by : Kind → Span → Option ℕ → Span
shifted_left_by k a None = whole k
shifted_left_by k a (Some c) = within k (from_to (a.lo *ℤ pos (2 ^ c)) (a.hi *ℤ pos (2 ^ c)))

abbrev pub shifted_left_in : Kind → Span → Span → Span
shifted_left_in k a b = shifted_left_by k a (count_of b)

abbrev pub shifted_right_by : Kind → Span → Option ℕ → Span
shifted_right_by k a None = if is_natural a then from_to (pos 0) a.hi else whole k
shifted_right_by k a (Some c) = from_to (int_shr a.lo c) (int_shr a.hi c)

abbrev pub shifted_right_in : Kind → Span → Span → Span
shifted_right_in k a b = shifted_right_by k a (count_of b)

-- what is true or false
abbrev pub truths : Span
truths = from_to (pos 0) (pos 1)

-- the range of an operator in a kind; a shift's count is in that kind too
abbrev pub range_of_op : BinOp → Kind → Span → Span → Span
range_of_op Add k a b = sum_in k a b
range_of_op Sub k a b = difference_in k a b
range_of_op Mul k a b = product_in k a b
range_of_op Div k a b = quotient_in k a b
range_of_op Rem k a b = remainder_in k a b
range_of_op Shl k a b = shifted_left_in k a b
range_of_op Shr k a b = shifted_right_in k a b
range_of_op And k a b = and_in k a b
range_of_op Xor k a b = or_in k a b
range_of_op Or k a b = or_in k a b
range_of_op op k a b = truths

-- ---- operators on one number

-- 0 - a
abbrev pub range_negate : Kind → Span → Span
range_negate k a = difference_in k (exactly (pos 0)) a

-- the number whose bits are all those that z doesn't have
abbrev pub flipped : Kind → ℤ → ℤ
flipped Int z = negsuc 0 -ℤ z
flipped Unsigned z = pos 4294967295 -ℤ z

abbrev pub range_flip : Kind → Span → Span
range_flip k a = from_to (flipped k a.hi) (flipped k a.lo)

abbrev pub range_not : Span → Span
range_not a = truths
