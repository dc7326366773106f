-- Bills that are gathered by slots.
use Rattle.std.specs.Prelude.{◌==◌, ◌-◌, min, max, slice_index_or, slice_set}
use Rattle.std.proofs.Common.{◌≡◌, ◌≢◌, ℕ, zero, suc, ◌+◌, ◌*◌, ◌/◌, ◌≤◌, ◌<◌, Bool, true, false, cond, List, [], ◌∷◌, ◌++◌, drop, length, refl, ap, sym, subst, ◌∙◌, ⊎_elim, arith}
use Rattle.std.proofs.lemmas.Bool.{cases_eq}
use Rattle.std.proofs.lemmas.List.{get_or-set_same, get_or-set_other, length-set}
use Rattle.prem_profile.specs.declared.bound.bill.Item.{Item}
use Rattle.prem_profile.specs.declared.bound.bill.Spot.{Spot}
use Rattle.prem_profile.specs.declared.bound.bill.Spot.TheVariants.{Switch, At, Call}
use Rattle.prem_profile.specs.declared.cost.Cost.{Cost}
use Rattle.prem_profile.specs.Bound.Bills.{Bill, is_one, spent_at, told_plus, with_item}
use Rattle.prem_profile.specs.Bound.Slots.{items_with, lower, lowest, more_at, nothing_spent, slot_of, slots_by, slots_for, slots_with}
use Rattle.prem_profile.proofs.Numbers.{equal_test, are_equal, more_test, true_false, zeros, zero_at}

-- ---- items in memory

pub past : {A : Type 0} (xs : List A) (n : ℕ) → length xs ≤ n → drop n xs ≡ []
past [] zero le = refl
past [] (suc n) le = refl
past (x ∷ xs) zero le = absurd (omega (arith, le))
past (x ∷ xs) (suc n) le = past xs n (omega (arith, le))

pub set_past : (xs : Bill) (r : ℕ) (x : Item) → length xs ≤ r → xs ≡ slice_set xs r x
set_past [] zero x le = refl
set_past [] (suc r) x le = refl
set_past (y ∷ xs) zero x le = absurd (omega (arith, le))
set_past (y ∷ xs) (suc r) x le = ap (λ ys. y ∷ ys) (set_past xs r x (omega (arith, le)))

pub set_is : (xs : Bill) (r : ℕ) (c : Cost) →
    slice_set xs r (spent_at (slice_index_or xs r nothing_spent).spot (told_plus (slice_index_or xs r nothing_spent).cost c)) ≡ more_at xs r c
set_is [] zero c = refl
set_is [] (suc r) c = refl
set_is (x ∷ xs) zero c = refl
set_is (x ∷ xs) (suc r) c = ap (λ ys. x ∷ ys) (set_is xs r c)

-- ---- spots and their slots

-- two tests of which each one's numbers are equal where the other's are
tests_agree : (m n a b : ℕ) → (m ≡ n → a ≡ b) → (a ≡ b → m ≡ n) → (m == n) ≡ (a == b)
tests_agree m n a b f g = by (m == n) (a == b) refl refl where
  by : (s t : Bool) → (m == n) ≡ s → (a == b) ≡ t → s ≡ t
  by true true d e = refl
  by false false d e = refl
  by true false d e = absurd (true_false (sym (equal_test a b (f (are_equal m n d))) ∙ e))
  by false true d e = absurd (true_false (sym (equal_test m n (g (are_equal a b e))) ∙ d))

-- words from a lowest one on
abbrev pub IsFrom : (low : ℕ) → Spot → Type 0
IsFrom low (Switch k) = Unit {0}
IsFrom low (At pc) = low ≤ pc / 4
IsFrom low (Call f) = Unit {0}

abbrev pub AreFrom : (low : ℕ) → Bill → Type 0
AreFrom low [] = Unit {0}
AreFrom low (x ∷ bill) = IsFrom low x.spot × AreFrom low bill

words_agree : (low a b : ℕ) → low ≤ a → low ≤ b → (a == b) ≡ (3 * (a - low) + 1 == 3 * (b - low) + 1)
words_agree low a b f g = tests_agree a b (3 * (a - low) + 1) (3 * (b - low) + 1) (λ e. omega (arith, e)) (λ e. omega (arith, e, f, g))

-- numbers that aren't equal
apart : (m n : ℕ) → (m ≡ n → ⊥) → false ≡ (m == n)
apart m n ne = by (m == n) refl where
  by : (t : Bool) → (m == n) ≡ t → false ≡ t
  by false e = refl
  by true e = absurd (ne (are_equal m n e))

-- spots are one where their slots are
pub slots_agree : (low : ℕ) (a b : Spot) → IsFrom low a → IsFrom low b → is_one a b ≡ (slot_of low a == slot_of low b)
slots_agree low (Switch j) (Switch k) f g = tests_agree j k (3 * j) (3 * k) (λ e. omega (arith, e)) (λ e. omega (arith, e))
slots_agree low (Switch j) (At pc) f g = apart (3 * j) (3 * (pc / 4 - low) + 1) (λ e. omega (arith, e))
slots_agree low (Switch j) (Call h) f g = apart (3 * j) (3 * h + 2) (λ e. omega (arith, e))
slots_agree low (At pc) (Switch k) f g = apart (3 * (pc / 4 - low) + 1) (3 * k) (λ e. omega (arith, e))
slots_agree low (At a) (At b) f g = words_agree low (a / 4) (b / 4) f g
slots_agree low (At pc) (Call h) f g = apart (3 * (pc / 4 - low) + 1) (3 * h + 2) (λ e. omega (arith, e))
slots_agree low (Call h) (Switch k) f g = apart (3 * h + 2) (3 * k) (λ e. omega (arith, e))
slots_agree low (Call h) (At pc) f g = apart (3 * h + 2) (3 * (pc / 4 - low) + 1) (λ e. omega (arith, e))
slots_agree low (Call h) (Call k) f g = tests_agree h k (3 * h + 2) (3 * k + 2) (λ e. omega (arith, e)) (λ e. omega (arith, e))

-- ---- where items stand

-- 1 + the place of the first item with a slot; 0 where there is none
abbrev pub behind_one : ℕ → ℕ
behind_one zero = 0
behind_one (suc n) = suc (suc n)

abbrev pub place_of : (low slot : ℕ) → Bill → ℕ
place_of low slot [] = 0
place_of low slot (x ∷ bill) = cond (slot_of low x.spot == slot) 1 (behind_one (place_of low slot bill))

abbrev pub AreSlots : (low : ℕ) → (slots : List ℕ) → Bill → Type 0
AreSlots low slots bill = (slot : ℕ) → slot < length slots → slice_index_or slots slot 0 ≡ place_of low slot bill

new_item : (bill : Bill) (x : Item) → items_with bill 0 x ≡ bill ++ x ∷ []
new_item bill x = ap (λ t. cond t (bill ++ x ∷ []) (more_at bill (0 - 1) x.cost)) (equal_test 0 0 refl)

old_item : (bill : Bill) (k : ℕ) (x : Item) → items_with bill (suc k) x ≡ more_at bill k x.cost
old_item bill k x =
    ap (λ t. cond t (bill ++ x ∷ []) (more_at bill (suc k - 1) x.cost)) (more_test (suc k) 0 (omega arith))
    ∙ (let less : suc k - 1 ≡ k = omega arith in ap (λ n. more_at bill n x.cost) less)

module _ (low : ℕ) (x : Item) (from : IsFrom low x.spot) where
  abbrev own : ℕ
  own = slot_of low x.spot

  -- the item at that place gets the cost, or there is a new one
  put_is : (bill : Bill) → AreFrom low bill → items_with bill (place_of low own bill) x ≡ with_item bill x
  put_is [] f = new_item [] x
  put_is (y ∷ bill) f = by (slot_of low y.spot == own) (place_of low own bill) (put_is bill f.1) ∙ ap (λ t. cond t (spent_at y.spot (told_plus y.cost x.cost) ∷ bill) (y ∷ with_item bill x)) (sym (slots_agree low y.spot x.spot f.0 from)) where
    by : (t : Bool) (n : ℕ) → items_with bill n x ≡ with_item bill x →
        items_with (y ∷ bill) (cond t 1 (behind_one n)) x ≡ cond t (spent_at y.spot (told_plus y.cost x.cost) ∷ bill) (y ∷ with_item bill x)
    by true n e = old_item (y ∷ bill) 0 x
    by false zero e = new_item (y ∷ bill) x ∙ ap (λ ys. y ∷ ys) (sym (new_item bill x) ∙ e)
    by false (suc n) e = old_item (y ∷ bill) (suc n) x ∙ ap (λ ys. y ∷ ys) (sym (old_item bill n x) ∙ e)

  -- ---- an item that is there

  more_places : (slot k : ℕ) (c : Cost) (bill : Bill) → place_of low slot (more_at bill k c) ≡ place_of low slot bill
  more_places slot k c [] = refl
  more_places slot zero c (y ∷ bill) = refl
  more_places slot (suc k) c (y ∷ bill) = ap (λ n. cond (slot_of low y.spot == slot) 1 (behind_one n)) (more_places slot k c bill)

  -- ---- a new one

  other_places : (slot : ℕ) → (own == slot) ≡ false → (bill : Bill) → place_of low slot (bill ++ x ∷ []) ≡ place_of low slot bill
  other_places slot e [] = ap (λ t. cond t 1 0) e
  other_places slot e (y ∷ bill) = ap (λ n. cond (slot_of low y.spot == slot) 1 (behind_one n)) (other_places slot e bill)

  last_place : (bill : Bill) → place_of low own bill ≡ 0 → place_of low own (bill ++ x ∷ []) ≡ length bill + 1
  last_place [] e = ap (λ t. cond t 1 0) (equal_test own own refl)
  last_place (y ∷ bill) e = by (slot_of low y.spot == own) (place_of low own bill) e (last_place bill) where
    by : (t : Bool) (n : ℕ) → cond t 1 (behind_one n) ≡ 0 → (n ≡ 0 → place_of low own (bill ++ x ∷ []) ≡ length bill + 1) →
        cond t 1 (behind_one (place_of low own (bill ++ x ∷ []))) ≡ length (y ∷ bill) + 1
    by true n e rest = absurd (omega (arith, e))
    by false (suc n) e rest = absurd (omega (arith, e))
    by false zero e rest =
        let more : length bill + 1 ≡ suc (length bill) = omega arith in
        let next : suc (suc (length bill)) ≡ length (y ∷ bill) + 1 = omega arith in
        ap behind_one (rest refl ∙ more) ∙ next

  -- ---- the slots

  new_slot : (slots : List ℕ) (items : ℕ) → slots_by slots own items 0 ≡ slice_set slots own (items + 1)
  new_slot slots items = ap (λ t. cond t (slice_set slots own (items + 1)) slots) (equal_test 0 0 refl)

  old_slot : (slots : List ℕ) (items n : ℕ) → slots_by slots own items (suc n) ≡ slots
  old_slot slots items n = ap (λ t. cond t (slice_set slots own (items + 1)) slots) (more_test (suc n) 0 (omega arith))

  slots_by_number : (slots : List ℕ) (bill : Bill) (n : ℕ) → place_of low own bill ≡ n → own < length slots → AreSlots low slots bill → AreSlots low (slots_by slots own (length bill) n) (items_with bill n x)
  slots_by_number slots bill (suc n) is lt are =
      subst (λ ss. AreSlots low ss (items_with bill (suc n) x)) (sym (old_slot slots (length bill) n))
      (subst (AreSlots low slots) (sym (old_item bill n x)) (λ slot less. are slot less ∙ sym (more_places slot n x.cost bill)))
  slots_by_number slots bill zero is lt are =
      subst (λ ss. AreSlots low ss (items_with bill 0 x)) (sym (new_slot slots (length bill)))
      (subst (AreSlots low (slice_set slots own (length bill + 1))) (sym (new_item bill x)) each) where
        here : (slot : ℕ) → slot ≡ own → slice_index_or (slice_set slots own (length bill + 1)) slot 0 ≡ place_of low slot (bill ++ x ∷ [])
        here slot same =
            ap (λ s. slice_index_or (slice_set slots own (length bill + 1)) s 0) same ∙ get_or-set_same slots own (length bill + 1) 0 lt
            ∙ sym (last_place bill is) ∙ ap (λ s. place_of low s (bill ++ x ∷ [])) (sym same)

        test : (slot : ℕ) → slot ≢ own → (own == slot) ≡ false
        test slot ne = by (own == slot) refl where
          by : (t : Bool) → (own == slot) ≡ t → t ≡ false
          by true e = absurd (ne (sym (are_equal own slot e)))
          by false e = refl

        there : (slot : ℕ) → slot ≢ own → slot < length slots → slice_index_or (slice_set slots own (length bill + 1)) slot 0 ≡ place_of low slot (bill ++ x ∷ [])
        there slot ne less = get_or-set_other slots own slot (length bill + 1) 0 ne ∙ are slot less ∙ sym (other_places slot (test slot ne) bill)

        each : AreSlots low (slice_set slots own (length bill + 1)) (bill ++ x ∷ [])
        each slot less =
            let size = length-set slots own (length bill + 1) in
            ⊎_elim (λ (same : slot ≡ own). here slot same) (λ (ne : slot ≢ own). there slot ne (omega (arith, less, size))) (cases_eq slot own)

  -- one more
  pub items_put : (slots : List ℕ) (bill : Bill) → AreSlots low slots bill → AreFrom low bill → own < length slots → items_with bill (slice_index_or slots own 0) x ≡ with_item bill x
  items_put slots bill are f lt = ap (λ n. items_with bill n x) (are own lt) ∙ put_is bill f

  pub slots_put : (slots : List ℕ) (bill : Bill) → AreSlots low slots bill → AreFrom low bill → own < length slots → AreSlots low (slots_with slots own (length bill)) (with_item bill x)
  slots_put slots bill are f lt =
      subst (λ n. AreSlots low (slots_by slots own (length bill) n) (with_item bill x)) (sym (are own lt))
      (subst (AreSlots low (slots_by slots own (length bill) (place_of low own bill))) (put_is bill f) (slots_by_number slots bill (place_of low own bill) refl lt are))

  pub slots_long : (slots : List ℕ) (items : ℕ) → length (slots_with slots own items) ≡ length slots
  slots_long slots items = by (slice_index_or slots own 0 == 0) where
    by : (t : Bool) → length (cond t (slice_set slots own (items + 1)) slots) ≡ length slots
    by true = length-set slots own (items + 1)
    by false = refl

  pub from_put : (bill : Bill) → AreFrom low bill → AreFrom low (with_item bill x)
  from_put [] f = (from, tt)
  from_put (y ∷ bill) f = by (is_one y.spot x.spot) (from_put bill f.1) where
    by : (t : Bool) → AreFrom low (with_item bill x) → AreFrom low (cond t (spent_at y.spot (told_plus y.cost x.cost) ∷ bill) (y ∷ with_item bill x))
    by true more = f
    by false more = (f.0, more)

-- ---- the lowest word, and how many slots there are

lowest_below : (m : ℕ) (bill : Bill) → lowest m bill ≤ m
lowest_below m [] = omega arith
lowest_below m (x ∷ bill) = let rest = lowest_below (lower m x.spot) bill in let one = lower_below m x.spot in omega (arith, rest, one) where
  lower_below : (m : ℕ) (s : Spot) → lower m s ≤ m
  lower_below m (Switch k) = omega arith
  lower_below m (At pc) = omega arith
  lower_below m (Call f) = omega arith

spot_from : (m low : ℕ) (s : Spot) → low ≤ lower m s → IsFrom low s
spot_from m low (Switch k) le = tt
spot_from m low (Call f) le = tt
spot_from m low (At pc) le = below m low (pc / 4) le where
  below : (m low a : ℕ) → low ≤ min m a → low ≤ a
  below m low a le = omega (arith, le)

pub all_from : (m : ℕ) (bill : Bill) → AreFrom (lowest m bill) bill
all_from m [] = tt
all_from m (x ∷ bill) = (spot_from m (lowest (lower m x.spot) bill) x.spot (lowest_below (lower m x.spot) bill), all_from (lower m x.spot) bill)

-- slots of a number of these
abbrev pub AreWithin : (low many : ℕ) → Bill → Type 0
AreWithin low many [] = Unit {0}
AreWithin low many (x ∷ bill) = (slot_of low x.spot < many) × AreWithin low many bill

count_below : (low n : ℕ) (bill : Bill) → n ≤ slots_for low n bill
count_below low n [] = omega arith
count_below low n (x ∷ bill) =
    let rest = count_below low (max n (slot_of low x.spot + 1)) bill in
    above n (slot_of low x.spot + 1) (slots_for low (max n (slot_of low x.spot + 1)) bill) rest where
      above : (n s c : ℕ) → max n s ≤ c → n ≤ c
      above n s c le = omega (arith, le)

pub all_within : (low n : ℕ) (bill : Bill) → AreWithin low (slots_for low n bill) bill
all_within low n [] = tt
all_within low n (x ∷ bill) =
    (above n (slot_of low x.spot) (slots_for low (max n (slot_of low x.spot + 1)) bill) (count_below low (max n (slot_of low x.spot + 1)) bill), all_within low (max n (slot_of low x.spot + 1)) bill) where
      above : (n s c : ℕ) → max n (s + 1) ≤ c → s < c
      above n s c le = omega (arith, le)

-- ---- none

pub slots_none : (low n : ℕ) (slots : List ℕ) (bill : Bill) → slots ≡ zeros n → bill ≡ [] → AreSlots low slots bill
slots_none low n slots bill is none slot lt = ap (λ ss. slice_index_or ss slot 0) is ∙ zero_at n slot ∙ sym (ap (place_of low slot) none)
