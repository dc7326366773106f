-- The orders of parameters and of regions in memory.
use Rattle.std.proofs.Common.{ℤ, ◌≡◌, ◌≤◌, ℕ, zero, suc, ◌+◌, Bool, true, false, List, [], ◌∷◌, ◌++◌, length, map, Option, None, Some, refl, ap, ◌∙◌, arith, append_assoc}
use Rattle.std.specs.Prelude.{◌&&◌}
use Rattle.prem_annotating.proofs.Prelude.{range_order, range_at, orders_from, range_orders, mark_orders, function_orders, same_region, same_regions, Order, leave, Parameter, FunctionText}
use Rattle.prem_annotating.proofs.Prelude.{MarkText, RegionText}

leaves : (r : Option (ℤ × ℤ)) → range_order r None ≡ leave
leaves None = refl
leaves (Some r) = refl

none_from : (n : ℕ) (ps : List Parameter) → orders_from n ps [] ≡ range_orders ps []
none_from n [] = refl
none_from n (p ∷ ps) = (λ i. leaves p.range i ∷ none_from (n + 1) ps i)

one_less : (n : ℕ) (ps : List Parameter) (x : Option (ℤ × ℤ)) (xs : List (Option (ℤ × ℤ))) → orders_from (suc n) ps (x ∷ xs) ≡ orders_from n ps xs
one_less n [] x xs = refl
one_less n (p ∷ ps) x xs = let k : suc n + 1 ≡ suc (n + 1) = omega arith in ap (λ l. range_order p.range (range_at xs n) ∷ l) (ap (λ m. orders_from m ps (x ∷ xs)) k ∙ one_less (n + 1) ps x xs)

from_start : (ps : List Parameter) (xs : List (Option (ℤ × ℤ))) → orders_from 0 ps xs ≡ range_orders ps xs
from_start [] xs = refl
from_start (p ∷ ps) [] = none_from 0 (p ∷ ps)
from_start (p ∷ ps) (x ∷ xs) = ap (λ l. range_order p.range x ∷ l) (one_less 0 ps x xs ∙ from_start ps xs)

-- a mark's orders and those of parameters are a function's
pub orders_are : (os : List Order) (f : FunctionText) (mark : Option MarkText) (xs : List (Option (ℤ × ℤ))) →
    os ++ mark_orders f.mark mark ++ orders_from 0 f.params xs ≡ os ++ function_orders f mark xs
orders_are os f mark xs = append_assoc os (mark_orders f.mark mark) (orders_from 0 f.params xs) ∙ ap (λ l. os ++ (mark_orders f.mark mark ++ l)) (from_start f.params xs)

-- ---- past the end of a list

pub none_past : (xs : List (Option (ℤ × ℤ))) (n : ℕ) → length xs ≤ n → None ≡ range_at xs n
none_past [] zero le = refl
none_past [] (suc n) le = refl
none_past (x ∷ xs) zero le = absurd (omega (arith, le))
none_past (x ∷ xs) (suc n) le = none_past xs n (omega (arith, le))

-- ---- regions of other numbers

pub lengths_differ : {A : Type 0} (f : A → RegionText) (as_ bs : List A) → (length as_ ≡ length bs → ⊥) → false ≡ same_regions (map f as_) (map f bs)
lengths_differ f [] [] other = absurd (other refl)
lengths_differ f [] (b ∷ bs) other = refl
lengths_differ f (a ∷ as_) [] other = refl
lengths_differ f (a ∷ as_) (b ∷ bs) other = by (same_region (f a) (f b)) (lengths_differ f as_ bs (λ same. other (ap suc same)))
  where
    by : (x : Bool) → false ≡ same_regions (map f as_) (map f bs) → false ≡ (x && same_regions (map f as_) (map f bs))
    by true rest = rest
    by false rest = refl
