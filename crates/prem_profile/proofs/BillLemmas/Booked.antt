-- Bills that are booked item by item in the rows of a profile.
use Rattle.std.specs.Prelude.{slice_index_or, take}
use Rattle.std.proofs.Common.{◌≡◌, ℕ, zero, suc, ◌+◌, ◌*◌, ◌≤◌, ◌<◌, ◌^◌, Bool, true, false, List, [], ◌∷◌, ◌++◌, length, get_or, refl, ap, sym, subst, ◌∙◌, arith}
use Rattle.prem_plant.specs.declared.plant.Plant.{Plant}
use Rattle.prem_plant.specs.Ranges.{IsPlant}
use Rattle.prem_layout.specs.Placed.{Placed}
use Rattle.prem_profile.specs.declared.bound.bill.Item.{Item}
use Rattle.prem_profile.specs.declared.bound.bill.Spot.{Spot}
use Rattle.prem_profile.specs.declared.cost.Cost.{Cost}
use Rattle.prem_profile.specs.Spent.{no_cost, plus, where_so}
use Rattle.prem_profile.specs.Account.{Fits, HasRoom, each_row, is_in_row, row_of, with_cost}
use Rattle.prem_profile.specs.Bound.Bills.{Bill, home_of, total}
use Rattle.prem_profile.specs.Bound.Booked.{bill_row, spent_on}
use Rattle.prem_profile.specs.Bound.Profile.{AreShort, set_bill, wcets}
use Rattle.prem_profile.specs.Bound.Small.{IsSmall}
use Rattle.prem_profile.proofs.Booking.{at_row, with_row}
use Rattle.prem_profile.proofs.Turns.{same_cost}
use Rattle.prem_profile.proofs.BoundLemmas.Profile.{all_come}
use Rattle.prem_profile.proofs.BillLemmas.Lean.{lean_small, set_lean}

-- ---- parts of bills

pub taken_more : (bill : Bill) (n : ℕ) (x d : Item) → n < length bill → x ≡ get_or bill n d → take (n + 1) bill ≡ take n bill ++ x ∷ []
taken_more [] n x d lt is = absurd (omega (arith, lt))
taken_more (y ∷ bill) zero x d lt is = ap (λ z. z ∷ []) (sym is)
taken_more (y ∷ bill) (suc n) x d lt is =
    (let next : suc n + 1 ≡ suc (n + 1) = omega arith in ap (λ k. take k (y ∷ bill)) next) ∙ ap (λ ys. y ∷ ys) (taken_more bill n x d (omega (arith, lt)) is)

pub whole : {A : Type 0} (xs : List A) (n : ℕ) → length xs ≤ n → take n xs ≡ xs
whole [] zero le = refl
whole [] (suc n) le = refl
whole (x ∷ xs) zero le = absurd (omega (arith, le))
whole (x ∷ xs) (suc n) le = ap (λ ys. x ∷ ys) (whole xs n (omega (arith, le)))

last_total : (bill : Bill) (x : Item) → total (bill ++ x ∷ []) ≡ plus (total bill) x.cost
last_total [] x = same_cost (plus x.cost no_cost) (plus no_cost x.cost) (omega arith) (omega arith) (omega arith) (omega arith)
last_total (y ∷ bill) x =
    ap (plus y.cost) (last_total bill x) ∙ same_cost (plus y.cost (plus (total bill) x.cost)) (plus (plus y.cost (total bill)) x.cost) (omega arith) (omega arith) (omega arith) (omega arith)

last_spent : (is_so : Spot → Bool) (bill : Bill) (x : Item) → spent_on is_so (bill ++ x ∷ []) ≡ plus (spent_on is_so bill) (where_so (is_so x.spot) x.cost)
last_spent is_so [] x =
    let c : Cost = where_so (is_so x.spot) x.cost in same_cost (plus c no_cost) (plus no_cost c) (omega arith) (omega arith) (omega arith) (omega arith)
last_spent is_so (y ∷ bill) x =
    let a : Cost = where_so (is_so y.spot) y.cost in
    let b : Cost = spent_on is_so bill in
    let c : Cost = where_so (is_so x.spot) x.cost in
    ap (plus a) (last_spent is_so bill x) ∙ same_cost (plus a (plus b c)) (plus (plus a b) c) (omega arith) (omega arith) (omega arith) (omega arith)

-- ---- what fits

record Below (a b : Cost) : Type 0 where
  pub instructions : a.instructions ≤ b.instructions
  pub cycles : a.cycles ≤ b.cycles
  pub misses : a.misses ≤ b.misses
  pub backs : a.backs ≤ b.backs

none_below : (c : Cost) → Below no_cost c
none_below c = record { instructions = omega arith; cycles = omega arith; misses = omega arith; backs = omega arith }

both_below : (a b c d : Cost) → Below a b → Below c d → Below (plus a c) (plus b d)
both_below a b c d f g =
    let i = f.instructions in
    let i' = g.instructions in
    let k = f.cycles in
    let k' = g.cycles in
    let m = f.misses in
    let m' = g.misses in
    let x = f.backs in
    let x' = g.backs in
    record { instructions = omega (arith, i, i'); cycles = omega (arith, k, k'); misses = omega (arith, m, m'); backs = omega (arith, x, x') }

same_below : (c : Cost) → Below c c
same_below c = record { instructions = omega arith; cycles = omega arith; misses = omega arith; backs = omega arith }

total_below : (bill : Bill) (n : ℕ) → Below (total (take n bill)) (total bill)
total_below [] zero = none_below no_cost
total_below [] (suc n) = none_below no_cost
total_below (x ∷ bill) zero = none_below (total (x ∷ bill))
total_below (x ∷ bill) (suc n) = both_below x.cost x.cost (total (take n bill)) (total bill) (same_below x.cost) (total_below bill n)

some_below : (b : Bool) (c : Cost) → Below (where_so b c) c
some_below true c = same_below c
some_below false c = none_below c

spent_below : (is_so : Spot → Bool) (bill : Bill) → Below (spent_on is_so bill) (total bill)
spent_below is_so [] = none_below no_cost
spent_below is_so (x ∷ bill) = both_below (where_so (is_so x.spot) x.cost) x.cost (spent_on is_so bill) (total bill) (some_below (is_so x.spot) x.cost) (spent_below is_so bill)

module _ (bill : Bill) (small : IsSmall bill) (n : ℕ) (x d : Item) (lt : n < length bill) (is : x ≡ get_or bill n d) where
  next_total : total (take (n + 1) bill) ≡ plus (total (take n bill)) x.cost
  next_total = ap total (taken_more bill n x d lt is) ∙ last_total (take n bill) x

  -- what is there with one more item
  fits : (a : Cost) → Below a (total (take n bill)) → Fits a x.cost
  fits a f =
      let all = subst (λ c. Below c (total bill)) next_total (total_below bill (n + 1)) in
      let i = all.instructions in
      let k = all.cycles in
      let m = all.misses in
      let b = all.backs in
      let i' = f.instructions in
      let k' = f.cycles in
      let m' = f.misses in
      let b' = f.backs in
      let si = small.instructions in
      let sm = small.misses in
      let sb = small.backs in
      let sc = small.cycles in
      record {
        instructions = omega (arith, i, i', si, sc);
        cycles = omega (arith, k, k', sc);
        misses = omega (arith, m, m', sm, sc);
        backs = omega (arith, b, b', sb, sc);
      }

  pub has_room : (tasks : ℕ) (words : List ℕ) (rows : ℕ) (told : Cost) (costs : List Cost) → told ≡ total (take n bill) → costs ≡ each_row (bill_row tasks words (take n bill)) 0 rows → HasRoom told costs x.cost
  has_room tasks words rows told costs it are = record {
    total_fits = subst (λ c. Fits c x.cost) (sym it) (fits (total (take n bill)) (same_below (total (take n bill))));
    each_fits = λ row. subst (λ cs. Fits (slice_index_or cs row no_cost) x.cost) (sym are)
        (at_row (λ c. Fits c x.cost) (bill_row tasks words (take n bill)) row 0 rows (λ i. fits (bill_row tasks words (take n bill) i) (spent_below (λ s. is_in_row tasks words i (home_of s)) (take n bill)))
        (fits no_cost (none_below (total (take n bill)))));
  }

  pub one_told : (told next : Cost) → told ≡ total (take n bill) → next ≡ plus told x.cost → next ≡ total (take (n + 1) bill)
  one_told told next it put = put ∙ ap (λ c. plus c x.cost) it ∙ sym next_total

  pub one_booked : (tasks : ℕ) (words : List ℕ) (rows : ℕ) (costs next : List Cost) → costs ≡ each_row (bill_row tasks words (take n bill)) 0 rows →
      next ≡ with_cost costs (row_of tasks words (home_of x.spot)) x.cost → next ≡ each_row (bill_row tasks words (take (n + 1) bill)) 0 rows
  one_booked tasks words rows costs next are put =
      put ∙ ap (λ cs. with_cost cs (row_of tasks words (home_of x.spot)) x.cost) are
      ∙ with_row (bill_row tasks words (take n bill)) (bill_row tasks words (take (n + 1) bill)) (row_of tasks words (home_of x.spot)) rows x.cost
      (λ i. ap (spent_on (λ s. is_in_row tasks words i (home_of s))) (taken_more bill n x d lt is) ∙ last_spent (λ s. is_in_row tasks words i (home_of s)) (take n bill) x)

-- ---- the bill of a set

wcets_few : (p : Plant) (tasks : List Placed) → AreShort p tasks → wcets p tasks ≤ length tasks * 2 ^ 40
wcets_few p [] short = omega arith
wcets_few p (t ∷ ts) short = let one = short.0 in let more = wcets_few p ts short.1 in omega (arith, one, more)

pub set_small : (p : Plant) (tasks : List Placed) → IsPlant p → AreShort p tasks → length tasks ≤ 16 → IsSmall (set_bill p tasks)
set_small p tasks plant short few =
    let fill = plant.fill.0 in
    let back = plant.back.0 in
    let come = all_come p 0 tasks short in
    let most = wcets_few p tasks short in
    lean_small (set_bill p tasks) (set_lean p (omega (arith, fill, back)) 0 tasks) (omega (arith, come, most, few))
