-- Gathered bills come to what bills come to, in all and in each row, and have one item for each spot.
use Rattle.std.specs.Prelude.{◌==◌, ◌||◌, slice_index_or}
use Rattle.std.proofs.Common.{◌≡◌, ℕ, ◌/◌, Bool, true, false, cond, List, [], ◌∷◌, refl, ap, sym, ◌∙◌, arith}
use Rattle.prem_bounds.specs.Scale.{clipped}
use Rattle.prem_profile.specs.declared.bound.bill.Item.{Item}
use Rattle.prem_profile.specs.declared.bound.bill.Spot.{Spot}
use Rattle.prem_profile.specs.declared.bound.bill.Spot.TheVariants.{Switch, At, Call}
use Rattle.prem_profile.specs.declared.cost.Cost.{Cost}
use Rattle.prem_profile.specs.declared.home.Home.TheVariants.{Switch as Switches}
use Rattle.prem_profile.specs.Spent.{no_cost, plus, where_so}
use Rattle.prem_profile.specs.Account.{is_in_row, row_of}
use Rattle.prem_profile.specs.Bound.Bills.{Bill, gathered, home_of, is_one, spent_at, told_plus, total, with_bill, with_item}
use Rattle.prem_profile.specs.Bound.Booked.{spent_on}
use Rattle.prem_profile.specs.Bound.Gathered.{AreAlike, AreApart, BillsAreGathered, has_spot}
use Rattle.prem_profile.proofs.Numbers.{equal_test, are_equal, true_false, false_true}

-- ---- costs that are told alike

told_same : (a b : Cost) → a ≡ b → AreAlike a b
told_same a b e = record {
  instructions = ap (λ (c : Cost). clipped c.instructions) e;
  cycles = ap (λ (c : Cost). clipped c.cycles) e;
  misses = ap (λ (c : Cost). clipped c.misses) e;
  backs = ap (λ (c : Cost). clipped c.backs) e;
}

swapped : (a : Cost) → AreAlike (plus a no_cost) (plus no_cost a)
swapped a = record { instructions = omega arith; cycles = omega arith; misses = omega arith; backs = omega arith }

without : (a : Cost) → AreAlike a (plus a no_cost)
without a = record { instructions = omega arith; cycles = omega arith; misses = omega arith; backs = omega arith }

bare : (a b : Cost) → AreAlike a (plus no_cost b) → AreAlike a b
bare a b e =
    let i = e.instructions in
    let c = e.cycles in
    let m = e.misses in
    let k = e.backs in
    record { instructions = omega (arith, i); cycles = omega (arith, c); misses = omega (arith, m); backs = omega (arith, k) }

-- behind another cost
passed : (c r p q : Cost) → AreAlike r (plus p q) → AreAlike (plus c r) (plus (plus c p) q)
passed c r p q e =
    let i = e.instructions in
    let n = e.cycles in
    let m = e.misses in
    let k = e.backs in
    record { instructions = omega (arith, i); cycles = omega (arith, n); misses = omega (arith, m); backs = omega (arith, k) }

-- one of them is itself such a sum
moved : (a b c d e : Cost) → AreAlike a (plus b c) → AreAlike b (plus d e) → AreAlike a (plus d (plus e c))
moved a b c d e x y =
    let i = x.instructions in
    let i' = y.instructions in
    let n = x.cycles in
    let n' = y.cycles in
    let m = x.misses in
    let m' = y.misses in
    let k = x.backs in
    let k' = y.backs in
    record { instructions = omega (arith, i, i'); cycles = omega (arith, n, n'); misses = omega (arith, m, m'); backs = omega (arith, k, k') }

joined : (a b r : Cost) → AreAlike (plus (told_plus a b) r) (plus (plus a r) b)
joined a b r = record { instructions = omega arith; cycles = omega arith; misses = omega arith; backs = omega arith }

nothing : (r : Cost) → AreAlike (plus no_cost r) (plus (plus no_cost r) no_cost)
nothing r = record { instructions = omega arith; cycles = omega arith; misses = omega arith; backs = omega arith }

-- ---- what spots have that are so, where spots that are one are so alike

module _ (is_so : Spot → Bool) (same : (a b : Spot) → is_one a b ≡ true → is_so a ≡ is_so b) where
  merged : (s t : Bool) (a b r : Cost) → s ≡ t → AreAlike (plus (where_so s (told_plus a b)) r) (plus (plus (where_so s a) r) (where_so t b))
  merged true true a b r e = joined a b r
  merged false false a b r e = nothing r
  merged true false a b r e = absurd (true_false e)
  merged false true a b r e = absurd (false_true e)

  one_more : (bill : Bill) (x : Item) → AreAlike (spent_on is_so (with_item bill x)) (plus (spent_on is_so bill) (where_so (is_so x.spot) x.cost))
  one_more [] x = swapped (where_so (is_so x.spot) x.cost)
  one_more (y ∷ bill) x = by (is_one y.spot x.spot) refl (one_more bill x) where
    by : (t : Bool) → is_one y.spot x.spot ≡ t → AreAlike (spent_on is_so (with_item bill x)) (plus (spent_on is_so bill) (where_so (is_so x.spot) x.cost)) →
        AreAlike (spent_on is_so (cond t (spent_at y.spot (told_plus y.cost x.cost) ∷ bill) (y ∷ with_item bill x)))
        (plus (plus (where_so (is_so y.spot) y.cost) (spent_on is_so bill)) (where_so (is_so x.spot) x.cost))
    by true e more = merged (is_so y.spot) (is_so x.spot) y.cost x.cost (spent_on is_so bill) (same y.spot x.spot e)
    by false e more = passed (where_so (is_so y.spot) y.cost) (spent_on is_so (with_item bill x)) (spent_on is_so bill) (where_so (is_so x.spot) x.cost) more

  all_more : (bill more : Bill) → AreAlike (spent_on is_so (with_bill bill more)) (plus (spent_on is_so bill) (spent_on is_so more))
  all_more bill [] = without (spent_on is_so bill)
  all_more bill (x ∷ more) =
      moved (spent_on is_so (with_bill (with_item bill x) more)) (spent_on is_so (with_item bill x)) (spent_on is_so more) (spent_on is_so bill) (where_so (is_so x.spot) x.cost)
      (all_more (with_item bill x) more) (one_more bill x)

  kept : (bill : Bill) → AreAlike (spent_on is_so (gathered bill)) (spent_on is_so bill)
  kept bill = bare (spent_on is_so (gathered bill)) (spent_on is_so bill) (all_more [] bill)

-- ---- all of them

abbrev all_spots : Spot → Bool
all_spots s = true

all_spent : (bill : Bill) → spent_on all_spots bill ≡ total bill
all_spent [] = refl
all_spent (x ∷ bill) = ap (plus x.cost) (all_spent bill)

pub totals_kept : (bill : Bill) → AreAlike (total (gathered bill)) (total bill)
totals_kept bill =
    let e = kept all_spots (λ a b e. refl) bill in
    let g = told_same (total (gathered bill)) (spent_on all_spots (gathered bill)) (sym (all_spent (gathered bill))) in
    let h = told_same (spent_on all_spots bill) (total bill) (all_spent bill) in
    record {
      instructions = g.instructions ∙ e.instructions ∙ h.instructions;
      cycles = g.cycles ∙ e.cycles ∙ h.cycles;
      misses = g.misses ∙ e.misses ∙ h.misses;
      backs = g.backs ∙ e.backs ∙ h.backs;
    }

-- ---- rows

rows_same : (tasks : ℕ) (words : List ℕ) (a b : Spot) → is_one a b ≡ true → row_of tasks words (home_of a) ≡ row_of tasks words (home_of b)
rows_same tasks words (Switch j) (Switch k) e = ap (λ n. row_of tasks words (Switches n)) (are_equal j k e)
rows_same tasks words (Switch j) (At pc) e = absurd (false_true e)
rows_same tasks words (Switch j) (Call f) e = absurd (false_true e)
rows_same tasks words (At a) (Switch k) e = absurd (false_true e)
rows_same tasks words (At a) (At b) e = ap (λ n. slice_index_or words n 0) (are_equal (a / 4) (b / 4) e)
rows_same tasks words (At a) (Call f) e = absurd (false_true e)
rows_same tasks words (Call f) (Switch k) e = absurd (false_true e)
rows_same tasks words (Call f) (At pc) e = absurd (false_true e)
rows_same tasks words (Call f) (Call g) e = refl

-- ---- one item for each spot

turned : (m n : ℕ) → (m == n) ≡ false → (n == m) ≡ false
turned m n e = by (n == m) refl where
  by : (t : Bool) → (n == m) ≡ t → t ≡ false
  by false d = refl
  by true d = absurd (true_false (sym (equal_test m n (sym (are_equal n m d))) ∙ e))

other_way : (a b : Spot) → is_one a b ≡ false → is_one b a ≡ false
other_way (Switch j) (Switch k) e = turned j k e
other_way (Switch j) (At pc) e = refl
other_way (Switch j) (Call f) e = refl
other_way (At a) (Switch k) e = refl
other_way (At a) (At b) e = turned (a / 4) (b / 4) e
other_way (At a) (Call f) e = refl
other_way (Call f) (Switch k) e = refl
other_way (Call f) (At pc) e = refl
other_way (Call f) (Call g) e = turned f g e

none_of : (s t : Bool) → (s || t) ≡ false → (s ≡ false) × (t ≡ false)
none_of false false e = (refl, refl)
none_of false true e = absurd (true_false e)
none_of true t e = absurd (true_false e)

-- a spot that isn't that of an item isn't in a bill with this item, if it isn't in the bill
still_none : (s : Spot) (bill : Bill) (x : Item) → has_spot bill s ≡ false → is_one x.spot s ≡ false → has_spot (with_item bill x) s ≡ false
still_none s [] x none ne = (λ i. ne i || false)
still_none s (y ∷ bill) x none ne =
    let parts = none_of (is_one y.spot s) (has_spot bill s) none in
    by (is_one y.spot x.spot) parts.0 parts.1 (still_none s bill x parts.1 ne) where
      by : (t : Bool) → is_one y.spot s ≡ false → has_spot bill s ≡ false → has_spot (with_item bill x) s ≡ false →
          has_spot (cond t (spent_at y.spot (told_plus y.cost x.cost) ∷ bill) (y ∷ with_item bill x)) s ≡ false
      by true a b more = λ i. a i || b i
      by false a b more = λ i. a i || more i

apart_more : (bill : Bill) (x : Item) → AreApart bill → AreApart (with_item bill x)
apart_more [] x f = (refl, tt)
apart_more (y ∷ bill) x f = by (is_one y.spot x.spot) refl (apart_more bill x f.1) where
  by : (t : Bool) → is_one y.spot x.spot ≡ t → AreApart (with_item bill x) → AreApart (cond t (spent_at y.spot (told_plus y.cost x.cost) ∷ bill) (y ∷ with_item bill x))
  by true e more = f
  by false e more = (still_none y.spot bill x f.0 (other_way y.spot x.spot e), more)

all_apart : (bill more : Bill) → AreApart bill → AreApart (with_bill bill more)
all_apart bill [] f = f
all_apart bill (x ∷ more) f = all_apart (with_item bill x) more (apart_more bill x f)

pub bills_are_gathered : BillsAreGathered
bills_are_gathered bill = record {
  total = totals_kept bill;
  rows = λ tasks words row. kept (λ s. is_in_row tasks words row (home_of s)) (λ a b e. ap (λ n. n == row) (rows_same tasks words a b e)) bill;
  apart = all_apart [] bill tt;
}
