-- Functions that are told in memory as often as they are called, from the last one to the first one.
use Rattle.std.specs.Prelude.{◌==◌, Vec, slice_index_or, take}
use Rattle.std.specs.Global.{Global}
use Rattle.std.proofs.Common.{◌≡◌, ℕ, zero, suc, ◌+◌, ◌*◌, ◌<◌, Bool, true, false, cond, List, [], ◌∷◌, ◌++◌, append_assoc, append-nil, length, get_or, refl, ap, sym, subst, ◌∙◌, arith}
use Rattle.std.proofs.Math.Nat.{mul-add}
use Rattle.std.proofs.lemmas.List.{map-append}
use Rattle.prem_bounds.specs.Scale.{clipped}
use Rattle.prem_profile.specs.declared.bound.bill.Item.{Item}
use Rattle.prem_profile.specs.declared.bound.bill.Spot.{Spot}
use Rattle.prem_profile.specs.declared.bound.bill.Spot.TheVariants.{Switch, At, Call}
use Rattle.prem_profile.specs.declared.cost.Cost.{Cost}
use Rattle.prem_profile.specs.Bound.Bills.{Bill, bill_times, cost_times, is_call}
use Rattle.prem_profile.specs.Bound.Pieces.{bill_at}
use Rattle.prem_profile.specs.Bound.Priced.{bills_in}
use Rattle.prem_profile.specs.Bound.Spread.{Counts, calls_for, calls_on, item_calls, items_often, spot_calls, spread, spread_path, without_calls}
use Rattle.prem_profile.proofs.BillLemmas.Booked.{taken_more}
use Rattle.prem_profile.proofs.BillLemmas.Each.{timed}
use Rattle.prem_profile.proofs.BoundLemmas.Spread.{told_times}
use Rattle.prem_profile.proofs.Numbers.{zeros, zero_at}

-- ---- counts

pub counts_same : (counts : List ℕ) (a b : ℕ → ℕ) → ((f : ℕ) → a f ≡ b f) → Counts counts a → Counts counts b
counts_same counts a b e h f lt = h f lt ∙ ap clipped (e f)

-- what is there doesn't go by what is told elsewhere
inside : (counts : List ℕ) (f d e : ℕ) → f < length counts → slice_index_or counts f d ≡ slice_index_or counts f e
inside [] f d e lt = absurd (omega (arith, lt))
inside (n ∷ counts) zero d e lt = refl
inside (n ∷ counts) (suc f) d e lt = inside counts f d e (omega (arith, lt))

pub counts_none : (n : ℕ) → Counts (zeros n) (λ f. 0)
counts_none n f lt = zero_at n f

-- ---- calls of an item, and of a bill

-- those of a call
pub call_often : (n : ℕ) (x : Item) (f : ℕ) → x.spot ≡ Call f → (g : ℕ) → calls_for f (n * x.cost.instructions) g ≡ n * item_calls x g
call_often n x f is g = by (f == g) ∙ ap (λ s. n * spot_calls s x.cost.instructions g) (sym is) where
  by : (t : Bool) → cond t (n * x.cost.instructions) 0 ≡ n * cond t x.cost.instructions 0
  by true = refl
  by false = omega arith

-- those of another one
pub quiet_often : (n : ℕ) (x : Item) → is_call x.spot ≡ false → (g : ℕ) → n * item_calls x g ≡ 0
quiet_often n x e g = by x.spot e where
  by : (s : Spot) → is_call s ≡ false → n * spot_calls s x.cost.instructions g ≡ 0
  by (Switch k) d = omega arith
  by (At pc) d = omega arith
  by (Call f) d = absurd (cc)

calls_last : (bill : Bill) (x : Item) (f : ℕ) → calls_on (bill ++ x ∷ []) f ≡ calls_on bill f + item_calls x f
calls_last [] x f = let n : ℕ = item_calls x f in omega arith
calls_last (y ∷ bill) x f = ap (λ n. item_calls y f + n) (calls_last bill x f) ∙ sum (item_calls y f) (calls_on bill f) (item_calls x f) where
  sum : (a b c : ℕ) → a + (b + c) ≡ a + b + c
  sum a b c = omega arith

-- one item more
pub taken_calls : (bill : Bill) (i : ℕ) (x d : Item) → i < length bill → x ≡ get_or bill i d → (n m f : ℕ) →
    m + n * calls_on (take i bill) f + n * item_calls x f ≡ m + n * calls_on (take (i + 1) bill) f
taken_calls bill i x d lt is n m f =
    sum m (n * calls_on (take i bill) f) (n * item_calls x f)
    ∙ ap (λ k. m + k) (sym (mul-add n (calls_on (take i bill) f) (item_calls x f)) ∙ ap (λ k. n * k) (sym (ap (λ b. calls_on b f) (taken_more bill i x d lt is) ∙ calls_last (take i bill) x f))) where
      sum : (a b c : ℕ) → a + b + c ≡ a + (b + c)
      sum a b c = omega arith

-- ---- items

times_told : (n : ℕ) (a b : Bill) → bill_times n (a ++ b) ≡ bill_times n a ++ bill_times n b
times_told n a b = map-append (λ (x : Item). timed n x) a b

-- what is there, and what is left behind one more
pub times_more : (bill more here rest : Bill) (n : ℕ) → more ≡ bill ++ bill_times n here → more ++ bill_times n rest ≡ bill ++ bill_times n (here ++ rest)
times_more bill more here rest n m = ap (λ b. b ++ bill_times n rest) m ∙ append_assoc bill (bill_times n here) (bill_times n rest) ∙ ap (λ b. bill ++ b) (sym (times_told n here rest))

cost_told : (n : ℕ) (c : Cost) → cost_times (clipped n) c ≡ cost_times n c
cost_told n c = λ i. record { instructions = told_times n c.instructions i; cycles = told_times n c.cycles i; misses = told_times n c.misses i; backs = told_times n c.backs i }

times_same : (n : ℕ) (a : Bill) → bill_times (clipped n) a ≡ bill_times n a
times_same n [] = refl
times_same n (x ∷ a) = λ i. record { spot = x.spot; cost = cost_told n x.cost i } ∷ times_same n a i

-- so often is as often as that is told
often_told : (n : ℕ) (bill : Bill) → items_often (clipped n) bill ≡ items_often n bill
often_told zero bill = refl
often_told (suc n) bill = by (clipped (suc n)) refl where
  some : (n : ℕ) → clipped (suc n) ≡ 0 → ⊥
  some n e = omega (arith, e)

  by : (m : ℕ) → clipped (suc n) ≡ m → items_often m bill ≡ bill_times (suc n) (without_calls bill)
  by zero e = absurd (some n e)
  by (suc m) e = ap (λ k. bill_times k (without_calls bill)) (sym e) ∙ times_same (suc n) (without_calls bill)

-- ---- functions

-- what is there, with the first n functions, is what comes out
pub record IsSpread (bills : List Bill) (all here : Bill) (counts : List ℕ) (n : ℕ) : Type 0 where
  pub often : ℕ → ℕ
  pub told : Counts counts often
  pub left : here ++ spread bills n often ≡ all

pub spread_more : (bills : List Bill) (all here next : Bill) (counts more : List ℕ) (n k o : ℕ) (b : Bill) → n ≡ suc k → IsSpread bills all here counts n → k < length counts →
    o ≡ slice_index_or counts k o → b ≡ bill_at bills k → next ≡ here ++ items_often o b →
    ((w : ℕ → ℕ) (m : ℕ) → o ≡ clipped m → Counts counts w → Counts more (λ g. w g + m * calls_on b g)) → IsSpread bills all next more k
spread_more bills all here next counts more n k o b last is lt at there put told =
    let m : ℕ = is.often k in
    let so : o ≡ clipped m = at ∙ inside counts k o 0 lt ∙ is.told k lt in
    let below : ℕ → ℕ = λ f. is.often f + m * calls_on (bill_at bills k) f in
    record {
      often = below;
      told = subst (λ x. Counts more (λ g. is.often g + m * calls_on x g)) there (told is.often m so is.told);
      left = ap (λ x. x ++ spread bills k below) (put ∙ (λ i. here ++ items_often (so i) (there i)) ∙ ap (λ x. here ++ x) (often_told m (bill_at bills k)))
          ∙ append_assoc here (items_often m (bill_at bills k)) (spread bills k below)
          ∙ ap (λ j. here ++ spread bills j is.often) (sym last) ∙ is.left;
    }

pub spread_all : (bills : List Bill) (all here : Bill) (counts : List ℕ) (n : ℕ) → n ≡ 0 → IsSpread bills all here counts n → here ≡ all
spread_all bills all here counts n none is = sym (append-nil here) ∙ ap (λ j. here ++ spread bills j is.often) (sym none) ∙ is.left

pub bill_there : (functions : List (Vec Item Global)) (n : ℕ) (d : Vec Item Global) → n < length functions → (get_or functions n d).items ≡ bill_at (bills_in functions) n
bill_there [] n d lt = absurd (omega (arith, lt))
bill_there (f ∷ functions) zero d lt = refl
bill_there (f ∷ functions) (suc n) d lt = bill_there functions n d (omega (arith, lt))

pub as_many : (functions : List (Vec Item Global)) → length functions ≡ length (bills_in functions)
as_many [] = refl
as_many (f ∷ functions) = ap suc (as_many functions)

-- ---- paths

pub path_told : (functions : List (Vec Item Global)) (bill path here all : Bill) → here ≡ bill ++ items_often 1 path →
    all ≡ here ++ spread (bills_in functions) (length functions) (λ g. 0 + 1 * calls_on path g) → all ≡ bill ++ spread_path (bills_in functions) path
path_told functions bill path here all first rest =
    rest ∙ (λ i. first i ++ spread (bills_in functions) (as_many functions i) (λ g. once (calls_on path g) i)) ∙ append_assoc bill (items_often 1 path) (spread (bills_in functions) (length (bills_in functions)) (calls_on path)) where
      once : (n : ℕ) → 0 + 1 * n ≡ n
      once n = omega arith
